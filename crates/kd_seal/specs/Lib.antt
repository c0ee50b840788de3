-- In reading order. Believe `Book`; the other says why no vector grows, and is proved.

-- the seals of a bus, what each call answers, and what is there after it
pub mod Book
-- the room of the vectors
pub mod Room
