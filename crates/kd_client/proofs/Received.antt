-- What was asked for the next message, one command after the other.
use Rattle.std.proofs.Common.{◌≡◌, ℕ, ◌+◌, List, [], ◌∷◌, ◌++◌, length, Result, Ok, Err, refl, sym, ap, subst, ◌∙◌, length-append, inl, inr, arith}
use Rattle.std.specs.Prelude.{IfOk, IfErr}
use Rattle.kd_outside.specs.Told.{LinkState}
use Rattle.kd_types.specs.declared.reply_error.ReplyError.{ReplyError}
use Rattle.kd_types.specs.declared.reply_error.ReplyError.TheVariants.{Bad, OutOfMemory}
use Rattle.kd_types.specs.declared.refusal.Refusal.{Refusal}
use Rattle.kd_image.specs.declared.image.Image.{Image}
use Rattle.kd_image.specs.Said.{Origin, IsSound, Gives, origin_bytes, image_of_origin}
use Rattle.kd_wire.specs.declared.reply.Reply.{Reply}
use Rattle.kd_wire.specs.declared.reply.Reply.TheVariants as replies_of
use Rattle.kd_client.specs.declared.error.ClientError.{ClientError}
use Rattle.kd_client.specs.declared.error.ClientError.TheVariants as errors
use Rattle.kd_client.specs.Exchanges.{Exchange, Exchanged, Went, exchange, replies}
use Rattle.kd_client.specs.Causes.{Broke}
use Rattle.kd_client.specs.Receptions.{IsNoImage, NotRead, Slice, Stopped, exchanges, free, freeing, read, reading_slice, receive, received, unfreed, unread, was_read, whole}
use Rattle.kd_client.proofs.Spoken.{broke_behind, broke_none, exchanged_more, replies_append}

not_memory : (at : ℕ) → Bad at ≡ OutOfMemory → ⊥
not_memory at e = cc

pub no_image : (bytes : List ℕ) (result : Result Image ReplyError) (at : ℕ) → result ≡ Err (Bad at)
    → ((o : Origin) → IsSound o → bytes ≡ origin_bytes o → Gives result (image_of_origin o)) → IsNoImage bytes
no_image bytes result at is built = λ o sound e. not_memory at (subst (λ r. Gives r (image_of_origin o)) is (built o sound e))

pub went_more : (a b c : LinkState) (from mid to : ℕ) (es fs : List Exchange) → Went a b from mid es → Went b c mid to fs → Went a c from to (es ++ fs)
went_more a b c from mid to es fs first second =
    record {
      exchanged = exchanged_more a b c es fs first.exchanged second.exchanged;
      place =
          let p : mid ≡ from + length (replies es) = first.place in
          let q : to ≡ mid + length (replies fs) = second.place in
          omega (arith, p, q, ap length (replies_append es fs), length-append (replies es) (replies fs));
    }

pub given_ok : {X E : Type 0} (result : Result X E) (P : X → Type 0) (x : X) → result ≡ Ok x → IfOk result P → P x
given_ok result P x is h = subst (λ r. IfOk r P) is h

pub given_err : {X E : Type 0} (result : Result X E) (P : E → Type 0) (e : E) → result ≡ Err e → IfErr result P → P e
given_err result P e is h = subst (λ r. IfErr r P) is h

-- ---- what is found

pub received_one : (a b : LinkState) (from to : ℕ) (reply : Reply) (n o l d : ℕ) → reply ≡ replies_of.Recv n o l d → Exchanged a b (exchange receive reply ∷ []) → to ≡ from + length (replies (exchange receive reply ∷ []))
    → (slice : Slice) × (slice.number ≡ n) × Went a b from to (received slice ∷ [])
received_one a b from to reply n o l d is exchanged place =
    let slice : Slice = record { number = n; offset = o; length = l; dropped = d } in
    (slice, refl, record { exchanged = subst (λ r. Exchanged a b (exchange receive r ∷ [])) is exchanged; place = subst (λ r. to ≡ from + length (replies (exchange receive r ∷ []))) is place })

pub went_unread : (a b c : LinkState) (from mid to : ℕ) (slice : Slice) (number : ℕ) (refusal : Refusal) → slice.number ≡ number
    → Went a b from mid (received slice ∷ []) → Went b c mid to (exchange (read number) (replies_of.Refused refusal) ∷ []) → Went a c from to (exchanges (unread slice refusal))
went_unread a b c from mid to slice number refusal same first second =
    went_more a b c from mid to (received slice ∷ []) (exchange (read slice.number) (replies_of.Refused refusal) ∷ []) first
    (subst (λ n. Went b c mid to (exchange (read n) (replies_of.Refused refusal) ∷ [])) (sym same) second)

-- received and read
went_read : (a b c : LinkState) (from mid to : ℕ) (slice : Slice) (number : ℕ) (bytes : List ℕ) → slice.number ≡ number
    → Went a b from mid (received slice ∷ []) → Went b c mid to (was_read number bytes ∷ []) → Went a c from to (received slice ∷ was_read slice.number bytes ∷ [])
went_read a b c from mid to slice number bytes same first second =
    went_more a b c from mid to (received slice ∷ []) (was_read slice.number bytes ∷ []) first (subst (λ n. Went b c mid to (was_read n bytes ∷ [])) (sym same) second)

pub went_unfreed : (a b c d : LinkState) (from mid place to : ℕ) (slice : Slice) (number : ℕ) (bytes : List ℕ) (refusal : Refusal) → slice.number ≡ number
    → Went a b from mid (received slice ∷ []) → Went b c mid place (was_read number bytes ∷ []) → Went c d place to (exchange (free number) (replies_of.Refused refusal) ∷ []) → Went a d from to (exchanges (unfreed slice bytes refusal))
went_unfreed a b c d from mid place to slice number bytes refusal same first second third =
    went_more a c d from place to (received slice ∷ was_read slice.number bytes ∷ []) (exchange (free slice.number) (replies_of.Refused refusal) ∷ []) (went_read a b c from mid place slice number bytes same first second)
    (subst (λ n. Went c d place to (exchange (free n) (replies_of.Refused refusal) ∷ [])) (sym same) third)

pub went_whole : (a b c d : LinkState) (from mid place to : ℕ) (slice : Slice) (number : ℕ) (bytes : List ℕ) (image : Image) → slice.number ≡ number
    → Went a b from mid (received slice ∷ []) → Went b c mid place (was_read number bytes ∷ []) → Went c d place to (exchange (free number) replies_of.Free ∷ []) → Went a d from to (exchanges (whole slice bytes image))
went_whole a b c d from mid place to slice number bytes image same first second third =
    went_more a c d from place to (received slice ∷ was_read slice.number bytes ∷ []) (exchange (free slice.number) replies_of.Free ∷ []) (went_read a b c from mid place slice number bytes same first second)
    (subst (λ n. Went c d place to (exchange (free n) replies_of.Free ∷ [])) (sym same) third)

-- ---- where it stops

pub stopped_reading : (a b c : LinkState) (from mid : ℕ) (slice : Slice) (number : ℕ) (error : ClientError) → slice.number ≡ number
    → Went a b from mid (received slice ∷ []) → NotRead mid b c number error → Stopped from a c error
stopped_reading a b c from mid slice number error same first (inl broke) =
    let here : Broke (from + length (replies (received slice ∷ []))) b c [] (read slice.number ∷ []) error = subst (λ n. Broke n b c [] (read slice.number ∷ []) error) first.place (subst (λ n. Broke mid b c [] (read n ∷ []) error) (sym same) broke) in
    inl (reading_slice slice, broke_behind from a b c (received slice ∷ []) [] (read slice.number ∷ []) error first.exchanged here)
stopped_reading a b c from mid slice number error same first (inr (bytes, second, inl memory)) =
    let done = exchanged_more a b c (received slice ∷ []) (was_read slice.number bytes ∷ []) first.exchanged (subst (λ n. Exchanged b c (was_read n bytes ∷ [])) (sym same) second) in
    let all = received slice ∷ was_read slice.number bytes ∷ [] in
    inl (freeing slice bytes, broke_behind from a c c all [] (free slice.number ∷ []) error done (rw memory (broke_none (from + length (replies all)) c (free slice.number ∷ []))))
stopped_reading a b c from mid slice number error same first (inr (bytes, second, inr bad)) =
    inr (record {
      slice = slice;
      bytes = bytes;
      exchanged = exchanged_more a b c (received slice ∷ []) (was_read slice.number bytes ∷ []) first.exchanged (subst (λ n. Exchanged b c (was_read n bytes ∷ [])) (sym same) second);
      none = bad.1;
      place = bad.0 ∙ ap errors.BadReply first.place;
    })

pub stopped_freeing : (a b c d : LinkState) (from mid place : ℕ) (slice : Slice) (number : ℕ) (bytes : List ℕ) (error : ClientError) → slice.number ≡ number
    → Went a b from mid (received slice ∷ []) → Went b c mid place (was_read number bytes ∷ []) → Broke place c d [] (free number ∷ []) error → Stopped from a d error
stopped_freeing a b c d from mid place slice number bytes error same first second broke =
    let done = went_read a b c from mid place slice number bytes same first second in
    let all = received slice ∷ was_read slice.number bytes ∷ [] in
    let here : Broke (from + length (replies all)) c d [] (free slice.number ∷ []) error = subst (λ n. Broke n c d [] (free slice.number ∷ []) error) done.place (subst (λ n. Broke place c d [] (free n ∷ []) error) (sym same) broke) in
    inl (freeing slice bytes, broke_behind from a c d all [] (free slice.number ∷ []) error done.exchanged here)
