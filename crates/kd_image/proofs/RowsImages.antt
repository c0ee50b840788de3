-- Worked images, computed.
use Rattle.std.proofs.Common.{◌≡◌, [], ◌∷◌, ◌++◌, false, None, Some, pos, refl}
use Rattle.std.specs.Prelude.{codes}
use Rattle.kd_item.specs.Spelling as spelling
use Rattle.kd_item.specs.Spelling.{words}
use Rattle.kd_image.specs.declared.message.Message.{Message}
use Rattle.kd_image.specs.declared.attached.Attached.{Attached}
use Rattle.kd_image.specs.declared.notice.Notice.TheVariants.{IdAdd, ReplyTimeout}
use Rattle.kd_image.specs.Images.{any, header, front_length, front, image, image_length, notice_image}

nothing : Attached
nothing = record { creds = None; names = []; description = None; moment = None }

-- a message to itself of connection 1
hi : Message
hi = record { flags = record { 0 = 0 }; priority = pos 0; payload_type = 0; cookie = 0; last = 0; dst_name = None; payloads = codes "hi" ∷ []; sealed = None }

one_payload : image hi 1 1 nothing ≡ words (96 ∷ 0 ∷ 0 ∷ 1 ∷ 1 ∷ 0 ∷ 0 ∷ 0 ∷ 32 ∷ 19 ∷ 2 ∷ 96 ∷ []) ++ codes "hi" ++ (0 ∷ 0 ∷ 0 ∷ 0 ∷ 0 ∷ 0 ∷ [])
unfolding image front front_length header spelling.word hi nothing
one_payload = refl

-- the same with credentials attached
with_credentials : image hi 1 1 (record nothing { creds = Some (record { uid = 1000; gid = 1000; privileged = false }) })
    ≡ words (136 ∷ 0 ∷ 0 ∷ 1 ∷ 1 ∷ 0 ∷ 0 ∷ 0 ∷ 40 ∷ 21 ∷ 1000 ∷ 1000 ∷ 0 ∷ 32 ∷ 19 ∷ 2 ∷ 136 ∷ []) ++ codes "hi" ++ (0 ∷ 0 ∷ 0 ∷ 0 ∷ 0 ∷ 0 ∷ [])
unfolding image front front_length header spelling.word hi nothing
with_credentials = refl

-- a call by name, of which the length alone
called : image_length (record hi { dst_name = Some (codes "org.freedesktop.login1"); payloads = codes "ListSessions" ∷ [] }) nothing ≡ 152
unfolding image_length front_length spelling.word hi nothing
called = refl

-- a range of sealed bytes
shared : image (record hi { payloads = []; sealed = Some (record { place = 0; start = 0; length = 6 }) }) 1 1 nothing
    ≡ words (96 ∷ 0 ∷ 0 ∷ 1 ∷ 1 ∷ 0 ∷ 0 ∷ 0 ∷ 32 ∷ 20 ∷ 0 ∷ 6 ∷ [])
unfolding image front front_length header spelling.word hi nothing
shared = refl

came : notice_image (IdAdd 2) 0 ≡ words (88 ∷ 0 ∷ 0 ∷ any ∷ 0 ∷ 0 ∷ 0 ∷ 0 ∷ 24 ∷ 12 ∷ 2 ∷ [])
unfolding notice_image spelling.word
came = refl

too_late : notice_image (ReplyTimeout 7) 1 ≡ words (80 ∷ 0 ∷ 0 ∷ 1 ∷ 0 ∷ 0 ∷ 0 ∷ 7 ∷ 16 ∷ 17 ∷ [])
unfolding notice_image spelling.word
too_late = refl
