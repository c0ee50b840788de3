-- That publishings are of what was offered, in the words that the lists of a shared bus have.

-- what events leave in the list of a pool, and the law
pub mod Paired
