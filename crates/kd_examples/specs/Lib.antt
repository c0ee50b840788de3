-- What a reader has to believe: when an example agrees.
pub mod Examples
