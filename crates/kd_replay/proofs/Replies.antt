-- What the code's answers are replied as is what the answers of events are.
use Rattle.std.specs.Prelude.{◌≡◌, ℕ, ℤ, Bool, refl}
use Rattle.std.proofs.Common.{sym, ap, ◌∙◌}
use Rattle.kd_types.specs.declared.flags.RecvFlags.{RecvFlags}
use Rattle.kd_wire.specs.declared.command.Command.{Command}
use Rattle.kd_wire.specs.declared.command.Command.TheVariants as cmd
use Rattle.kd_acts.specs.declared.receive.RecvMode.{RecvMode}
use Rattle.kd_acts.specs.State as pool
use Rattle.kd_world.specs.State.{World}
use Rattle.kd_world.specs.Legal.{take, leave, receives, reads, frees}
use Rattle.kd_world.specs.Answers.{Says, taken, turned_away, left, pool_says, says}
use Rattle.kd_core.specs.Running.{said, told_by_pool}
use Rattle.kd_replay.specs.Turns.{mode_of, reply_of, slice_number, turn}
use Rattle.kd_replay.specs.Answering.{reply_with}

by_pool : (a : pool.Answer) → reply_with (told_by_pool a) ≡ reply_of (pool_says a)
unfolding reply_with reply_of
by_pool pool.done = refl
by_pool pool.placed = refl
by_pool pool.gone = refl
by_pool pool.freed = refl
by_pool (pool.slice n) = refl
by_pool (pool.refused why) = refl
by_pool (pool.drained images) = refl
by_pool (pool.got n offset len dropped) = refl
by_pool (pool.bytes_of bytes) = refl

pub take_replied : (n : ℕ) (x : Command) (s : Says) → reply_with (said (take n x) s) ≡ reply_of s
unfolding reply_with reply_of
take_replied n x taken = refl
take_replied n x (turned_away why) = refl
take_replied n x (left r) = refl
take_replied n x (pool_says a) = by_pool a

pub leave_replied : (n : ℕ) (s : Says) → reply_with (said (leave n) s) ≡ reply_of s
unfolding reply_with reply_of
leave_replied n taken = refl
leave_replied n (turned_away why) = refl
leave_replied n (left r) = refl
leave_replied n (pool_says a) = by_pool a

pub receive_replied : (n : ℕ) (mode : RecvMode) (s : Says) → reply_with (said (receives n mode) s) ≡ reply_of s
unfolding reply_with reply_of
receive_replied n mode taken = refl
receive_replied n mode (turned_away why) = refl
receive_replied n mode (left r) = refl
receive_replied n mode (pool_says a) = by_pool a

pub read_replied : (n number : ℕ) (sealed : Bool) (s : Says) → reply_with (said (reads n number sealed) s) ≡ reply_of s
unfolding reply_with reply_of
read_replied n number sealed taken = refl
read_replied n number sealed (turned_away why) = refl
read_replied n number sealed (left r) = refl
read_replied n number sealed (pool_says a) = by_pool a

pub free_replied : (n number : ℕ) (s : Says) → reply_with (said (frees n number) s) ≡ reply_of s
unfolding reply_with reply_of
free_replied n number taken = refl
free_replied n number (turned_away why) = refl
free_replied n number (left r) = refl
free_replied n number (pool_says a) = by_pool a

-- ---- the turns that are one event

pub receive_turn : (w : World) (n : ℕ) (mode : RecvMode) (flags : RecvFlags) (limit : ℤ) (x : Command) → mode ≡ mode_of flags limit → x ≡ cmd.Recv flags limit
    → reply_with (said (receives n mode) (says w (receives n mode))) ≡ (turn w n x).reply
unfolding turn
receive_turn w n mode flags limit x m e =
    receive_replied n mode (says w (receives n mode)) ∙ ap (λ (k : RecvMode). reply_of (says w (receives n k))) m ∙ sym (ap (λ (y : Command). (turn w n y).reply) e)

pub read_turn : (w : World) (n number k : ℕ) (sealed : Bool) (x : Command) → number ≡ slice_number k → x ≡ cmd.Read sealed k
    → reply_with (said (reads n number sealed) (says w (reads n number sealed))) ≡ (turn w n x).reply
unfolding turn
read_turn w n number k sealed x m e =
    read_replied n number sealed (says w (reads n number sealed)) ∙ ap (λ (j : ℕ). reply_of (says w (reads n j sealed))) m ∙ sym (ap (λ (y : Command). (turn w n y).reply) e)

pub free_turn : (w : World) (n number k : ℕ) (x : Command) → number ≡ slice_number k → x ≡ cmd.Free k
    → reply_with (said (frees n number) (says w (frees n number))) ≡ (turn w n x).reply
unfolding turn
free_turn w n number k x m e =
    free_replied n number (says w (frees n number)) ∙ ap (λ (j : ℕ). reply_of (says w (frees n j))) m ∙ sym (ap (λ (y : Command). (turn w n y).reply) e)
