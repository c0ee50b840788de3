-- The one way that each slice number goes.

-- how far its slice is, and what each act may make of it
pub mod Ways
-- along lists of acts
pub mod Lists
