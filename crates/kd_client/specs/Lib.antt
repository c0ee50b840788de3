-- In reading order. What to believe:
-- what was asked and answered over a link, and the bytes of both
pub mod Exchanges
-- why bytes are no reply, and why a call ended its client
pub mod Causes
-- requests: how one is placed, which wait, and what an image is to them
pub mod Requests
-- what is asked for the next message, and how far it comes
pub mod Receptions
-- the calls of a client, and what it knows by them
pub mod Clients
