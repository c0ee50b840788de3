-- What a read command may be run as.
use Rattle.std.proofs.Common.{◌≡◌, ℕ, zero, suc, ◌≤◌, Bool, true, false, ◌&&◌, List, [], ◌∷◌, Result, Ok, Err, OnOk, refl, sym, ap, ◌∙◌, arith}
use Rattle.std.specs.Prelude.{is_none, nat_le, ℤ, Some, None, if◌then◌else◌}
use Rattle.std.specs.Int.RustNames.{FitsSigned}
use Rattle.std.specs.Int.{w64, cast_unsigned}
use Rattle.std.proofs.lemmas.Bool.{ltb-false}
use Rattle.kd_types.specs.declared.flags.RecvFlags.{RecvFlags}
use Rattle.kd_types.specs.Flags.{has_bits}
use Rattle.kd_model.proofs.Truth.{both_true, none_is}
use Rattle.kd_wire.specs.declared.opcode.Opcode.TheVariants as opcodes
use Rattle.kd_wire.specs.declared.command.Command.{Command}
use Rattle.kd_wire.specs.declared.command.Command.TheVariants as cmd
use Rattle.kd_wire.specs.Frames.{frame_length}
use Rattle.kd_wire.specs.Kinds.{kinds_of}
use Rattle.kd_wire.specs.Reading.{stand}
use Rattle.kd_wire.specs.Refusals.{flaw_of}
use Rattle.kd_wire.specs.WellFormed.{is_well_formed}
use Rattle.kd_wire.proofs.Parts.{flawless}
use Rattle.kd_world.specs.State.{World}
use Rattle.kd_world.specs.Legal.{receives, reads, frees, is_caller, legal}
use Rattle.kd_replay.specs.Turns.{IsReady, mode_of}
use Rattle.kd_replay.specs.Hearing.{IsLimit}
use Rattle.kd_replay.proofs.Publishes.{nobody}

-- with the two lowest bits at once both are set
not_both : (flags : ℕ) → flags ≤ 7 → has_bits flags 3 ≡ false → (has_bits flags 1 && has_bits flags 2) ≡ false
not_both zero le e = refl
not_both (suc zero) le e = refl
not_both (suc (suc zero)) le e = refl
not_both (suc (suc (suc zero))) le e = absurd cc
not_both (suc (suc (suc (suc zero)))) le e = refl
not_both (suc (suc (suc (suc (suc zero))))) le e = refl
not_both (suc (suc (suc (suc (suc (suc zero)))))) le e = refl
not_both (suc (suc (suc (suc (suc (suc (suc zero))))))) le e = absurd cc
not_both (suc (suc (suc (suc (suc (suc (suc (suc n)))))))) le e = absurd (let bad : ⊥ = omega (arith, le) in bad)

one_way : (flags : RecvFlags) (limit : ℤ) → is_well_formed (cmd.Recv flags limit) ≡ true → (has_bits flags.0 1 && has_bits flags.0 2) ≡ false
one_way flags limit e =
    let words : List ℕ = cast_unsigned w64 limit ∷ [] in
    let front : Bool = nat_le (frame_length (cmd.Recv flags limit)) 131072 && stand (kinds_of opcodes.Recv flags.0) [] [] in
    let none = none_is (flaw_of opcodes.Recv flags.0 words []) (both_true front (is_none (flaw_of opcodes.Recv flags.0 words [])) e).1 in
    let f = flawless opcodes.Recv flags.0 words [] none in
    not_both flags.0 (ltb-false 7 flags.0 f.known) f.within

pub receive_may : (w : World) (n : ℕ) (x : Command) (flags : RecvFlags) (limit other : ℤ) → is_caller n ≡ true → IsReady w → is_well_formed x ≡ true → x ≡ cmd.Recv flags limit → legal w (receives n (mode_of flags other)) ≡ true
unfolding legal
receive_may w n x flags limit other c r form is = rw (c, nobody w n r.free, one_way flags limit (sym (ap is_well_formed is) ∙ form)) refl

pub read_may : (w : World) (n number : ℕ) (sealed : Bool) → is_caller n ≡ true → IsReady w → legal w (reads n number sealed) ≡ true
unfolding legal
read_may w n number sealed c r = rw (c, nobody w n r.free) refl

pub free_may : (w : World) (n number : ℕ) → is_caller n ≡ true → IsReady w → legal w (frees n number) ≡ true
unfolding legal
free_may w n number c r = rw (c, nobody w n r.free) refl

limit_fits : (b : Bool) (limit : ℤ) → FitsSigned w64 limit → IsLimit (if b then Some limit else None)
limit_fits true limit fits = fits
limit_fits false limit fits = tt

pub limit_typed : (flags : RecvFlags) (limit : ℤ) → FitsSigned w64 limit → IsLimit (mode_of flags limit).limit
limit_typed flags limit fits = limit_fits (has_bits flags.0 4) limit fits

-- what holds holds where a call went well
pub then_ok : {T E : Type 0} {P Q : Type 0} (r : Result T E) → (P → Q) → OnOk r P → OnOk r Q
then_ok (Ok x) follows p = follows p
then_ok (Err e) follows p = tt
