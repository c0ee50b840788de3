use Rattle.std.proofs.Common.{◌≡◌, ◌++◌, take}
use Rattle.kd_client.specs.Exchanges.{frames}
use Rattle.kd_client.proofs.sending.put_frames.Given as goal

abbrev pub invariant-frames : goal.invariant-frames
invariant-frames l = l.bytes.items ≡ l.initial.bytes.items ++ frames (take l.command-index l.commands)
