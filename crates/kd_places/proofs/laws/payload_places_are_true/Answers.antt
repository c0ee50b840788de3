-- Payload by payload.
use Rattle.kd_places.proofs.Payloads as payloads
use Rattle.kd_places.proofs.laws.payload_places_are_true.Goals as goal

pub returns : goal.returns
returns c = payloads.payload_places_are_true
