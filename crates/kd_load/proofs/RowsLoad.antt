-- Worked examples, as theorems that compute.
use Rattle.std.proofs.Common.{◌≡◌, [], ◌∷◌, refl}
use Rattle.kd_load.specs.declared.message.Target.TheVariants.{One}
use Rattle.kd_load.specs.Load.{first_state, load, messages, next_state, number_drawn}
use Rattle.kd_load.specs.Counts.{offered}

-- the first draws of threads 1 and 2 whose seed is the last number of 64 bits
first_draw : number_drawn (next_state (first_state 18446744073709551615 1)) ≡ 167951807
first_draw = refl

second_draw : number_drawn (next_state (first_state 18446744073709551615 2)) ≡ 908834774
second_draw = refl

-- so both send to one id, the first to 1 and the second to 2
whole : load 18446744073709551615 2 1
    ≡ record { sender = 1; number = 1; target = One 1 } ∷ record { sender = 2; number = 1; target = One 2 } ∷ []
unfolding load messages
whole = refl

-- and each is offered one message
one_each : offered 18446744073709551615 2 1 1 ∷ offered 18446744073709551615 2 1 2 ∷ [] ≡ 1 ∷ 1 ∷ []
unfolding offered load messages
one_each = refl
