-- what a reader has to believe: numbers, what a line says by itself, and what all lines say
pub mod Numbers
pub mod Lines
pub mod Listen
