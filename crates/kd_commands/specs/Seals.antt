-- SEAL and UNSEAL. All their refusals are the seals' (`seal_answer`, `unseal_answer`).
use Rattle.std.specs.Prelude.{ℕ, List, length, Result, Ok, Err}
use Rattle.kd_types.specs.declared.refusal.Refusal.{Refusal}
use Rattle.kd_wire.specs.declared.reply.Reply.TheVariants as reply
use Rattle.kd_seal.specs.Book.{seal_answer, with_seal, unseal_answer, unsealed}
use Rattle.kd_commands.specs.declared.conn.Conn.{Conn}
use Rattle.kd_commands.specs.State.{Desk}
use Rattle.kd_commands.specs.Plans.{Plan, quiet}

-- bytes that never change, under a number of their own
unfoldable pub seal : Desk → Conn → List ℕ → Result Plan Refusal
seal d c bytes =
    elim (seal_answer d.seals c.id (length bytes)) [
      | Err r ↦ Err r
      | Ok number ↦ Ok
          (quiet c (reply.Seal number) (record d { seals = with_seal d.seals c.id bytes }))
    ]

-- the number goes, and no share that was placed
unfoldable pub unseal : Desk → Conn → ℕ → Result Plan Refusal
unseal d c number =
    elim (unseal_answer d.seals c.id number) [
      | Err r ↦ Err r
      | Ok x ↦ Ok (quiet c reply.Unseal (record d { seals = unsealed d.seals c.id number }))
    ]
