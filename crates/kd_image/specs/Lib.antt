-- In reading order. What to believe: `Items`, `Images` and `Said`. That the reading finds what was
-- built, and nothing else, is proved.

-- the items of a message, and what they tell
pub mod Items
-- the bytes of messages and of notices
pub mod Images
-- what an image says, and what one can be made of
pub mod Said
-- the reading of an image, step by step, and where bytes break it
pub mod Reading
