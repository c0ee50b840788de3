-- What a message comes to.
use Rattle.std.proofs.Common.{◌≡◌, ◌≢◌, ◌==◌, ℕ, Bool, true, false, not, ◌&&◌, is_some, List, [], ◌∷◌, ◌++◌, length, map, Some, None, Result, Ok, Err, IsErr, IsErrAnd, refl, sym, ap, ◌∙◌}
use Rattle.std.specs.List.{AllByRecursion}
use Rattle.kd_types.specs.declared.refusal.Refusal.{Refusal}
use Rattle.kd_types.specs.declared.refusal.Refusal.TheVariants as why
use Rattle.kd_model.specs.Words.{first_that_holds, some_of}
use Rattle.kd_model.proofs.Truth.{left_false, not_false}
use Rattle.kd_replies.specs.declared.request.Request.{Request}
use Rattle.kd_replies.specs.Requests.{waits_for}
use Rattle.kd_wire.specs.declared.reply.Reply.TheVariants as reply
use Rattle.kd_commands.specs.declared.conn.Conn.{Conn}
use Rattle.kd_commands.specs.declared.sent.Sent.{Sent}
use Rattle.kd_commands.specs.State.{Desk, monitors}
use Rattle.kd_image.specs.Images.{any}
use Rattle.kd_commands.specs.Items.{Filter, destination_name, filter_among}
use Rattle.kd_commands.specs.Audience.{audience, broadcast}
use Rattle.kd_commands.specs.Send.{asker_of, fits_filters, has_bad_cookie, is_misuse, is_reply, offered_to, receiver, refusals_by, refusals_of_unicast, requests_after, send_parts, send_refusals, send, some_passes}
use Rattle.kd_commands.specs.Messages.{expects, is_broadcast, message_of, share_in}
use Rattle.kd_commands.specs.Plans.{Plan, itself, unless}
use Rattle.kd_tables.specs.declared.change.Change.{Change}
use Rattle.kd_tables.specs.declared.change.Change.TheVariants as change
use Rattle.kd_tables.specs.Drafts.{PlanResult, Draft, Fits, IsVisitable, StandByOffers, applied, drafted, parts_with}
use Rattle.kd_messages.specs.Sending.{change_of, Judges, MayAsk, letter_offer, refusals_of_bytes, refusals_of_form, refusals_of_way}

never : {X : Type 0} → false ≡ true → X
never e = absurd cc

-- tests behind others
pub first_holds : {X : Type 0} (ts us : List (Bool × X)) (x : X) → first_that_holds ts ≡ Some x → first_that_holds (ts ++ us) ≡ Some x
first_holds [] us x e = absurd cc
first_holds ((true, y) ∷ ts) us x e = e
first_holds ((false, y) ∷ ts) us x e = first_holds ts us x e

pub first_passes : {X : Type 0} (ts us : List (Bool × X)) → first_that_holds ts ≡ None → first_that_holds (ts ++ us) ≡ first_that_holds us
first_passes [] us e = refl
first_passes ((true, y) ∷ ts) us e = absurd cc
first_passes ((false, y) ∷ ts) us e = first_passes ts us e

-- the refusals of a message, group by group
refusals_are : (d : Desk) (s : Conn) (m : Sent) → send_refusals d s m ≡ refusals_of_form d s m ++ (refusals_of_bytes d s m ++ refusals_of_way d s m)
unfolding send_refusals
refusals_are d s m = refl

unless_refused : (ts : List (Bool × Refusal)) (p : Plan) (e : Refusal) → first_that_holds ts ≡ Some e → unless ts p ≡ Err e
unless_refused ts p e judged = rw (unless, judged) refl

unless_fine : (ts : List (Bool × Refusal)) (p : Plan) → first_that_holds ts ≡ None → unless ts p ≡ Ok p
unless_fine ts p judged = rw (unless, judged) refl

pub form_refuses : (d : Desk) (s : Conn) (m : Sent) (e : Refusal) → first_that_holds (refusals_of_form d s m) ≡ Some e → send d s m ≡ Err e
unfolding send
form_refuses d s m e judged = unless_refused (send_refusals d s m) _ e (ap first_that_holds (refusals_are d s m) ∙ first_holds (refusals_of_form d s m) (refusals_of_bytes d s m ++ refusals_of_way d s m) e judged)

pub bytes_refuse : (d : Desk) (s : Conn) (m : Sent) (e : Refusal) → first_that_holds (refusals_of_form d s m) ≡ None → first_that_holds (refusals_of_bytes d s m) ≡ Some e → send d s m ≡ Err e
unfolding send
bytes_refuse d s m e form judged = unless_refused (send_refusals d s m) _ e (
    ap first_that_holds (refusals_are d s m)
    ∙ first_passes (refusals_of_form d s m) (refusals_of_bytes d s m ++ refusals_of_way d s m) form
    ∙ first_holds (refusals_of_bytes d s m) (refusals_of_way d s m) e judged
    )

-- what passes so far is judged by whom it is for
judged_by_way : (d : Desk) (s : Conn) (m : Sent) → first_that_holds (refusals_of_form d s m) ≡ None → first_that_holds (refusals_of_bytes d s m) ≡ None → first_that_holds (send_refusals d s m) ≡ first_that_holds (refusals_of_way d s m)
judged_by_way d s m form bytes =
    ap first_that_holds (refusals_are d s m)
    ∙ first_passes (refusals_of_form d s m) (refusals_of_bytes d s m ++ refusals_of_way d s m) form
    ∙ first_passes (refusals_of_bytes d s m) (refusals_of_way d s m) bytes

to_one : (d : Desk) (s : Conn) (m : Sent) → is_broadcast m ≡ false → refusals_of_way d s m ≡ refusals_of_unicast d s m
to_one d s m one = rw (refusals_of_way, one) refl

to_all : (d : Desk) (s : Conn) (m : Sent) → is_broadcast m ≡ true → refusals_of_way d s m ≡ []
to_all d s m all = rw (refusals_of_way, all) refl

pub refused : (d : Desk) (s : Conn) (m : Sent) (e : Refusal) → first_that_holds (refusals_of_form d s m) ≡ None → first_that_holds (refusals_of_bytes d s m) ≡ None → is_broadcast m ≡ false → first_that_holds (refusals_of_unicast d s m) ≡ Some e → send d s m ≡ Err e
unfolding send
refused d s m e form bytes one judged = unless_refused (send_refusals d s m) _ e (judged_by_way d s m form bytes ∙ ap first_that_holds (to_one d s m one) ∙ judged)

sent : (d : Desk) (s : Conn) (m : Sent) → first_that_holds (send_refusals d s m) ≡ None
    → send d s m ≡ Ok (record { parts = send_parts d s m; reply = reply.Send; next = record d { requests = requests_after d s m }; becomes = itself s })
unfolding send
sent d s m judged = unless_fine (send_refusals d s m) _ judged

offered_same : (d : Desk) (s : Conn) (m : Sent) (dst : ℕ) (must : Bool) (r : Conn) → offered_to d s m dst must r ≡ letter_offer d s (message_of m) (share_in d s m) dst must r
unfolding letter_offer
offered_same d s m dst must r = refl

offers_are : (d : Desk) (s : Conn) (m : Sent) (dst : ℕ) (must : Bool) (rs : List Conn) → map (offered_to d s m dst must) rs ≡ map (letter_offer d s (message_of m) (share_in d s m) dst must) rs
offers_are d s m dst must [] = refl
offers_are d s m dst must (r ∷ rs) = rw (offered_same d s m dst must r, offers_are d s m dst must rs) refl

-- a plan of the code that has the parts, and changes the requests so
same_plan : (d : Desk) (s : Conn) (m : Sent) (p : Draft) → send_parts d s m ≡ parts_with p.contents p.parts → record d { requests = requests_after d s m } ≡ applied p.change d → p.reply ≡ reply.Send → p.after ≡ itself s
    → record { parts = send_parts d s m; reply = reply.Send; next = record d { requests = requests_after d s m }; becomes = itself s } ≡ drafted d p
unfolding drafted
same_plan d s m p parts next says after = rw (parts, next, says, after) refl

-- ---- to one receiver

requests_are : (d : Desk) (s : Conn) (m : Sent) (r : Conn) (b : Bool) → receiver d m ≡ Some r → is_reply d s m ≡ b → record d { requests = requests_after d s m } ≡ applied (change_of d s m (Some r) b) d
unfolding requests_after applied
requests_are d s m r b reached e = by (expects m) refl b e
  where
    by : (x : Bool) → expects m ≡ x → (b : Bool) → is_reply d s m ≡ b → record d { requests = requests_after d s m } ≡ applied (change_of d s m (Some r) b) d
    by true x b e = rw (requests_after, applied, x, reached) refl
    by false x true e = rw (requests_after, applied, x, e) refl
    by false x false e = rw (requests_after, applied, x, e) refl

parts_are : (d : Desk) (s : Conn) (m : Sent) (r : Conn) → is_broadcast m ≡ false → receiver d m ≡ Some r
    → send_parts d s m ≡ letter_offer d s (message_of m) (share_in d s m) r.id true r ∷ map (letter_offer d s (message_of m) (share_in d s m) r.id false) (monitors d)
unfolding send_parts
parts_are d s m r one reached = rw (send_parts, one, reached, offered_same d s m r.id true r, offers_are d s m r.id false (monitors d)) refl

fits : (d : Desk) (s : Conn) (m : Sent) (r : Conn) (b : Bool) → MayAsk d s m → Fits d (change_of d s m (Some r) b)
unfolding Fits
fits d s m r b may = by (expects m) refl b
  where
    by : (x : Bool) → expects m ≡ x → (b : Bool) → Fits d (change_of d s m (Some r) b)
    by true x b = rw (Fits, x) (may x)
    by false x true = rw (Fits, x) tt
    by false x false = rw (Fits, x) tt

pub planned : (d : Desk) (s : Conn) (m : Sent) (r : Conn) (b : Bool) (p : Draft) → MayAsk d s m → is_broadcast m ≡ false → first_that_holds (refusals_of_form d s m) ≡ None → first_that_holds (refusals_of_bytes d s m) ≡ None
    → first_that_holds (refusals_of_unicast d s m) ≡ None → receiver d m ≡ Some r → is_reply d s m ≡ b
    → parts_with p.contents p.parts ≡ letter_offer d s (message_of m) (share_in d s m) r.id true r ∷ map (letter_offer d s (message_of m) (share_in d s m) r.id false) (monitors d)
    → AllByRecursion IsVisitable p.parts → StandByOffers p.contents p.parts → p.reply ≡ reply.Send → p.change ≡ change_of d s m (Some r) b → p.after ≡ itself s → PlanResult d (send d s m) (Ok p)
planned d s m r b p may one form bytes judged reached replies parts visitable contents says change after = (
  sent d s m (judged_by_way d s m form bytes ∙ ap first_that_holds (to_one d s m one) ∙ judged)
      ∙ ap Ok (same_plan d s m p (parts_are d s m r one reached ∙ sym parts) (requests_are d s m r b reached replies ∙ ap (λ (c : Change). applied c d) (sym change)) says after),
  rw change (fits d s m r b may),
  visitable,
  contents,
)

-- ---- to all

three_pass : {X : Type 0} (a b c : Bool) (x y z : X) → first_that_holds ((a, x) ∷ (b, y) ∷ (c, z) ∷ []) ≡ None → (b ≡ false) × (c ≡ false)
three_pass true b c x y z e = absurd cc
three_pass false true c x y z e = absurd cc
three_pass false false true x y z e = absurd cc
three_pass false false false x y z e = (refl, refl)

unexpecting : (d : Desk) (s : Conn) (m : Sent) → is_broadcast m ≡ true → is_misuse m ≡ false → expects m ≡ false
unexpecting d s m all fine = left_false (expects m) (is_some (destination_name m.items)) (sym (rw (is_misuse, all) refl) ∙ fine)

-- a broadcast that passes has a filter of the bus's size
pub fitting : (d : Desk) (s : Conn) (m : Sent) → is_broadcast m ≡ true → first_that_holds (refusals_of_form d s m) ≡ None → fits_filters d m ≡ true
fitting d s m all form = not_false (fits_filters d m) (sym (rw all refl) ∙ (three_pass (has_bad_cookie d s m) (is_misuse m) (is_broadcast m && not (fits_filters d m)) why.BadCookie why.BroadcastMisuse why.BloomSize form).1)

pub filterless : (d : Desk) (s : Conn) (m : Sent) → is_broadcast m ≡ true → first_that_holds (refusals_of_form d s m) ≡ None → filter_among m.items ≡ None → ⊥
filterless d s m all form none = never (sym (ap (some_passes (λ (f : Filter). length f.bits == d.rules.size)) none) ∙ fitting d s m all form)

pub filter_size : (d : Desk) (s : Conn) (m : Sent) (f : Filter) → is_broadcast m ≡ true → first_that_holds (refusals_of_form d s m) ≡ None → filter_among m.items ≡ Some f → (length f.bits == d.rules.size) ≡ true
filter_size d s m f all form some = sym (ap (some_passes (λ (f : Filter). length f.bits == d.rules.size)) some) ∙ fitting d s m all form

silent : (a b c e : Bool) → b ≡ true → (not a && not b && c && e) ≡ false
silent true b c e all = refl
silent false true c e all = refl
silent false false c e all = absurd cc

no_reply : (d : Desk) (s : Conn) (m : Sent) → is_broadcast m ≡ true → is_reply d s m ≡ false
unfolding is_reply
no_reply d s m all = silent (expects m) (is_broadcast m) (not (m.last == 0)) (some_of (waits_for (asker_of d m) s.id m.last) d.requests) all

requests_stay : (d : Desk) (s : Conn) (m : Sent) → is_broadcast m ≡ true → expects m ≡ false → requests_after d s m ≡ d.requests
unfolding requests_after
requests_stay d s m all quiet = rw (requests_after, quiet, no_reply d s m all) refl

nothing_changes : (d : Desk) (qs : List Request) → qs ≡ d.requests → record d { requests = qs } ≡ applied change.Nothing d
unfolding applied
nothing_changes d qs e = rw e refl

broadcast_parts_are : (d : Desk) (s : Conn) (m : Sent) (f : Filter) → is_broadcast m ≡ true → filter_among m.items ≡ Some f
    → send_parts d s m ≡ map (letter_offer d s (message_of m) (share_in d s m) any false) (audience d (broadcast s f))
unfolding send_parts
broadcast_parts_are d s m f all some = rw (send_parts, all, some, offers_are d s m any false (audience d (broadcast s f))) refl

pub broadcast_planned : (d : Desk) (s : Conn) (m : Sent) (f : Filter) (p : Draft) → is_broadcast m ≡ true → first_that_holds (refusals_of_form d s m) ≡ None → first_that_holds (refusals_of_bytes d s m) ≡ None → filter_among m.items ≡ Some f
    → parts_with p.contents p.parts ≡ map (letter_offer d s (message_of m) (share_in d s m) any false) (audience d (broadcast s f))
    → AllByRecursion IsVisitable p.parts → StandByOffers p.contents p.parts → p.reply ≡ reply.Send → p.change ≡ change.Nothing → p.after ≡ itself s → PlanResult d (send d s m) (Ok p)
unfolding Fits
broadcast_planned d s m f p all form bytes some parts visitable contents says stays after =
    let fine = (three_pass (has_bad_cookie d s m) (is_misuse m) (is_broadcast m && not (fits_filters d m)) why.BadCookie why.BroadcastMisuse why.BloomSize form).0 in
    let stay : record d { requests = requests_after d s m } ≡ applied change.Nothing d = nothing_changes d (requests_after d s m) (requests_stay d s m all (unexpecting d s m all fine)) in (
      sent d s m (judged_by_way d s m form bytes ∙ ap first_that_holds (to_all d s m all))
          ∙ ap Ok (same_plan d s m p (broadcast_parts_are d s m f all some ∙ sym parts) (stay ∙ ap (λ (c : Change). applied c d) (sym stays)) says after),
      rw stays tt,
      visitable,
      contents,
    )

-- a refusal that is handed on
pub passed_on : {X : Type 0} (ts us : List (Bool × Refusal)) (e : Refusal) (r : Result X Refusal) → IsErr r × IsErrAnd r (λ y. y ≡ e) → (e ≢ why.OutOfMemory → first_that_holds ts ≡ Some e) → Judges (ts ++ us) r
passed_on ts us e (Ok x) is judged = never is.0
passed_on ts us e (Err y) is judged = λ memory. first_holds ts us y (rw is.1 (judged (rw (sym is.1) memory)))

pub judged_on : {X : Type 0} (d : Desk) (s : Conn) (m : Sent) (e : Refusal) (r : Result X Refusal) → IsErr r × IsErrAnd r (λ y. y ≡ e)
    → (e ≢ why.OutOfMemory → first_that_holds (refusals_by d s m (destination_name m.items)) ≡ Some e) → Judges (refusals_of_unicast d s m) r
judged_on d s m e r is judged = passed_on (refusals_by d s m (destination_name m.items)) _ e r is judged

-- the refusal of the definition, but for memory
pub refuses : (d : Desk) (wanted : Result Plan Refusal) (e : Refusal) → (e ≢ why.OutOfMemory → wanted ≡ Err e) → PlanResult d wanted (Err e)
refuses d wanted why.OutOfMemory told = tt
refuses d wanted e told = told (λ same. absurd cc)

pub refuses_on : (d : Desk) (wanted : Result Plan Refusal) (e : Refusal) (r : Result Draft Refusal) → IsErr r × IsErrAnd r (λ y. y ≡ e) → (e ≢ why.OutOfMemory → wanted ≡ Err e) → PlanResult d wanted r
refuses_on d wanted e (Ok x) is told = never is.0
refuses_on d wanted e (Err y) is told = refuses d wanted y (λ memory. rw is.1 (told (rw (sym is.1) memory)))
