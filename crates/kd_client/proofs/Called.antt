-- One more call of a client.
use Rattle.std.proofs.Common.{◌≡◌, ◌+◌, List, [], ◌∷◌, ◌++◌, length, refl, sym, ap, ◌∙◌, length-append}
use Rattle.kd_client.specs.Exchanges.{Exchange, replies}
use Rattle.kd_client.specs.Clients.{Call, after, client_after, dialogue, exchanges_in, new_client, requests_of}
use Rattle.kd_client.proofs.Spoken.{replies_append, replies_none}

place_more : (es fs : List Exchange) → length (replies es) + length (replies fs) ≡ length (replies (es ++ fs))
place_more es fs = sym (ap length (replies_append es fs) ∙ length-append (replies es) (replies fs))

pub no_call : {L : Type 0} (link : L) → new_client link ≡ client_after link []
no_call link = rw replies_none refl

pub one_more : {L : Type 0} (link now : L) (call : Call) (calls : List Call) → after now call (client_after link calls) ≡ client_after now (call ∷ calls)
one_more link now call calls = rw (place_more (dialogue calls) (exchanges_in (requests_of calls) call)) refl
