-- In reading order. Believe `Order`, `Requests` and `Renaming`; the last says why no vector grows,
-- and is proved.

-- how requests stand, and which is due first
pub mod Order
-- the requests that wait, what each call answers, and what is there after it
pub mod Requests
-- a replier that got another id
pub mod Renaming
-- the room of the vector
pub mod Room
