-- In reading order. Believe all of them: they say what is proved of locks, and nothing else does.

-- the entries of one pass, hands, marks and sweeps
pub mod Lists
-- what stands in lists, hands and marks at one moment, and the point on hands
pub mod Locks
-- what one pass knows
pub mod Views
-- when a world is in keeping with a view, and what a put owes
pub mod Fits
-- what a caller shows of its own lock
pub mod Settles
