-- What each command comes to, in reading order. A reader has to believe all of it but the last
-- file, in whose words the laws of every plan are stated.

-- the state of the desk
pub mod State
-- what the items of a command say
pub mod Items
-- who may see, send to and own what
pub mod Rights
-- what is told to more than one, and who is shown it
pub mod Audience
-- a refusal, or a plan: the visits, the reply, and the desk after them
pub mod Plans
-- HELLO
pub mod Hello
-- BYEBYE, and CLOSE of a connection and of an endpoint
pub mod Leaving
-- a message, and its image for each receiver
pub mod Messages
-- SEND
pub mod Send
-- NAME_ACQUIRE and NAME_RELEASE
pub mod Names
-- NAME_LIST
pub mod NameList
-- MATCH_ADD and MATCH_REMOVE
pub mod Matches
-- POLICY_SET
pub mod Policy
-- ENDPOINT_MAKE
pub mod Endpoints
-- SEAL and UNSEAL
pub mod Seals
-- TICK
pub mod Tick
-- a plan's parts as their pools meet them, and which answer ends it
pub mod Visits
-- the table of who may give which command, and the state after it
pub mod Step
-- who sits where, and which pools are open: what laws say of every plan
pub mod Seating
