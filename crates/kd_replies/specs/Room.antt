-- Why the vector of the requests never grows, and why a binary search finds its way.
use Rattle.std.specs.Prelude.{◌≤◌, vec_capacity}
use Rattle.kd_replies.specs.declared.replies.Replies.TheInside.{Inside}
use Rattle.kd_replies.specs.declared.replies.TheConstants.{REQUESTS}
use Rattle.kd_replies.specs.Order.{InOrder}

-- the vector was made with room for all requests, which stand in order
pub record IsTable (r : Inside) : Type 0 where
  pub order : InOrder r.requests.items
  pub room : REQUESTS ≤ vec_capacity r.requests
