-- Worked rows of one pool, by computation.
use Rattle.std.specs.Prelude.{◌≡◌, ℕ, true, false, List, [], ◌∷◌, replicate, Some, None, refl, pos, negsuc, ℤ}
use Rattle.kd_types.specs.declared.refusal.Refusal.TheVariants.{Busy, MessagesQueued, NoMessage, NoSuchPriority, NoSuchSlice, PoolFull, Quota, WrongState}
use Rattle.kd_model.specs.Slices.{best_gap, gaps, lowest_unused, place}
use Rattle.kd_acts.specs.State.{Act, Answer, Content, by_desk, bytes_of, close, done, drain, drained, free, freed, gone, got, idle, offer, placed, post, publish, raise, read, receive, refused, settle, slice}
use Rattle.kd_acts.specs.Steps.{answers, free_refusal, reserved_length, closed_answer, drain_step, fill_step, filled, must_offer_step, next, offer_step, open_step, over_quota, pool_step, post_step, read_answer, receive_step, reserve_step, visit_step}
use Rattle.kd_acts.specs.declared.receive.RecvMode.{RecvMode}

-- what happens to a pool from its closed beginning on
unfoldable happens : List Act → List Answer
happens acts = answers (record { generation = 0; pool = None }) acts

content : ℕ → ℤ → Content
content n priority = record { image = replicate n 7; shared = None; priority = priority }

plain : RecvMode
plain = record { peek = false; drop_it = false; limit = None }

within : ℤ → RecvMode
within limit = record { peek = false; drop_it = false; limit = Some limit }

-- a user's offer of a slice that has to be placed
offers : ℕ → ℕ → Act
offers user len = by_desk (offer user len 1 true (content len (pos 0)))

posts : ℕ → Act
posts len = by_desk (post (replicate len 1))

-- the third offer finds a gap of 48 bytes alone; after the first slice is received and freed it
-- takes its place
offers_until_full : happens (by_desk (raise 256) ∷ offers 1 104 ∷ offers 2 104 ∷ offers 3 104 ∷ publish 1 0 (content 104 (pos 0)) ∷ publish 1 1 (content 104 (pos 0)) ∷ receive plain ∷ free 0 ∷ offers 3 104 ∷ [])
    ≡ done ∷ slice 0 ∷ slice 1 ∷ refused PoolFull ∷ placed ∷ placed ∷ got 0 0 104 0 ∷ freed ∷ slice 0 ∷ []
unfolding happens content plain offers best_gap gaps lowest_unused place closed_answer drain_step fill_step filled must_offer_step next offer_step open_step over_quota pool_step free_refusal reserved_length post_step read_answer receive_step reserve_step visit_step
offers_until_full = refl

-- four notices side by side; freed out of order, their ranges are one gap again
freed_ranges_are_one_gap : happens (by_desk (raise 256) ∷ posts 64 ∷ posts 64 ∷ posts 64 ∷ posts 64 ∷ receive plain ∷ receive plain ∷ receive plain ∷ receive plain ∷ free 0 ∷ free 2 ∷ free 1 ∷ posts 192 ∷ [])
    ≡ done ∷ slice 0 ∷ slice 1 ∷ slice 2 ∷ slice 3 ∷ got 0 0 64 0 ∷ got 1 64 64 0 ∷ got 2 128 64 0 ∷ got 3 192 64 0 ∷ freed ∷ freed ∷ freed ∷ slice 0 ∷ []
unfolding happens content plain posts best_gap gaps lowest_unused place closed_answer drain_step fill_step filled must_offer_step next offer_step open_step over_quota pool_step free_refusal reserved_length post_step read_answer receive_step reserve_step visit_step
freed_ranges_are_one_gap = refl

-- a user's fifth slice would pass half of the pool; another user's first doesn't
half_the_pool : happens (by_desk (raise 1024) ∷ offers 1 104 ∷ offers 1 104 ∷ offers 1 104 ∷ offers 1 104 ∷ offers 1 104 ∷ offers 2 104 ∷ [])
    ≡ done ∷ slice 0 ∷ slice 1 ∷ slice 2 ∷ slice 3 ∷ refused Quota ∷ slice 4 ∷ []
unfolding happens content offers best_gap gaps lowest_unused place closed_answer drain_step fill_step filled must_offer_step next offer_step open_step over_quota pool_step free_refusal reserved_length post_step read_answer receive_step reserve_step visit_step
half_the_pool = refl

-- under a limit the lowest priority number comes first, and the first to arrive of equals
priorities_and_limits : happens (by_desk (raise 4096) ∷ offers 1 104 ∷ offers 1 104 ∷ offers 1 104 ∷ offers 1 104 ∷ publish 1 0 (content 104 (pos 5)) ∷ publish 1 1 (content 104 (negsuc 0)) ∷ publish 1 2 (content 104 (negsuc 0)) ∷ publish 1 3 (content 104 (pos 5)) ∷ receive (within (negsuc 1)) ∷ receive (within (pos 5)) ∷ receive (within (pos 5)) ∷ receive (within (pos 5)) ∷ receive (within (pos 5)) ∷ receive plain ∷ [])
    ≡ done ∷ slice 0 ∷ slice 1 ∷ slice 2 ∷ slice 3 ∷ placed ∷ placed ∷ placed ∷ placed ∷ refused NoSuchPriority ∷ got 1 104 104 0 ∷ got 2 208 104 0 ∷ got 0 0 104 0 ∷ got 3 312 104 0 ∷ refused (NoMessage 0) ∷ []
unfolding happens content plain within offers best_gap gaps lowest_unused place closed_answer drain_step fill_step filled must_offer_step next offer_step open_step over_quota pool_step free_refusal reserved_length post_step read_answer receive_step reserve_step visit_step
priorities_and_limits = refl

-- an offer that needn't be placed and is over the quota is told as missed, once
a_miss_is_told_once : happens (by_desk (raise 256) ∷ offers 1 104 ∷ publish 1 0 (content 104 (pos 0)) ∷ by_desk (offer 1 104 1 false (content 104 (pos 0))) ∷ receive plain ∷ receive plain ∷ [])
    ≡ done ∷ slice 0 ∷ placed ∷ refused Quota ∷ got 0 0 104 1 ∷ refused (NoMessage 0) ∷ []
unfolding happens content plain offers best_gap gaps lowest_unused place closed_answer drain_step fill_step filled must_offer_step next offer_step open_step over_quota pool_step free_refusal reserved_length post_step read_answer receive_step reserve_step visit_step
a_miss_is_told_once = refl

-- a peeked slice may be read and stays queued, a pool with messages isn't closed unless by force,
-- and a dropped slice goes at once
peeks_and_drops : happens (by_desk (raise 256) ∷ offers 1 8 ∷ read 0 false ∷ publish 1 0 (content 8 (pos 0)) ∷ receive (record { peek = true; drop_it = false; limit = None }) ∷ read 0 false ∷ by_desk (close false) ∷ receive (record { peek = false; drop_it = true; limit = None }) ∷ read 0 false ∷ by_desk (close false) ∷ receive plain ∷ free 0 ∷ publish 1 0 (content 8 (pos 0)) ∷ idle ∷ [])
    ≡ done ∷ slice 0 ∷ refused NoSuchSlice ∷ placed ∷ got 0 0 8 0 ∷ bytes_of (replicate 8 7) ∷ refused MessagesQueued ∷ got 0 0 8 0 ∷ refused NoSuchSlice ∷ done ∷ refused WrongState ∷ freed ∷ gone ∷ done ∷ []
unfolding happens content plain offers best_gap gaps lowest_unused place closed_answer drain_step fill_step filled must_offer_step next offer_step open_step over_quota pool_step free_refusal reserved_length post_step read_answer receive_step reserve_step visit_step
peeks_and_drops = refl

-- a drain waits for no reserved slice, and answers the messages in the order of their publishing;
-- they settle as their sender's
drained_in_order : happens (by_desk (raise 256) ∷ offers 7 8 ∷ offers 7 16 ∷ publish 1 1 (content 16 (pos 3)) ∷ by_desk drain ∷ publish 1 0 (content 8 (pos 0)) ∷ by_desk drain ∷ receive plain ∷ by_desk (settle (record { content = content 16 (pos 3); user = Some 7; source = 1 } ∷ [])) ∷ receive plain ∷ [])
    ≡ done ∷ slice 0 ∷ slice 1 ∷ placed ∷ refused (Busy 0) ∷ placed ∷ drained (record { content = content 16 (pos 3); user = Some 7; source = 1 } ∷ record { content = content 8 (pos 0); user = Some 7; source = 1 } ∷ []) ∷ refused (NoMessage 0) ∷ done ∷ got 0 0 16 0 ∷ []
unfolding happens content plain offers best_gap gaps lowest_unused place closed_answer drain_step fill_step filled must_offer_step next offer_step open_step over_quota pool_step free_refusal reserved_length post_step read_answer receive_step reserve_step visit_step
drained_in_order = refl
