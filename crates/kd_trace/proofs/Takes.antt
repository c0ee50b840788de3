-- Takes: a caller and the frame of its command.
use Rattle.std.proofs.Common.{◌≡◌, ℕ, ◌%◌, ◌^◌, ◌<◌, ◌≤◌, List, ◌++◌, length, take, drop, refl, sym, ap, subst, ◌∙◌, true, false, cond, eqb, ltb, eqb-true, eq-eqb, length-append, Option, Some, None, inl, inr, arith}
use Rattle.std.specs.Prelude.{IfNone, IfSome, map, option_map}
use Rattle.std.proofs.lemmas.Bool.{le-ltb}
use Rattle.std.proofs.lemmas.List.{drop_at, take-append-drop}
use Rattle.std.proofs.lemmas.List.Folds.{flat_map-map}
use Rattle.kd_model.proofs.Truth.{no_some, same_some}
use Rattle.kd_item.specs.Spelling.{Entry, word, number, spelling}
use Rattle.kd_item.proofs.Words.{IsBytes, length-word, word_again, word_front}
use Rattle.kd_item.proofs.Sizes.{spellings_even}
use Rattle.kd_wire.specs.declared.command.Command.{Command}
use Rattle.kd_wire.specs.declared.frame.Cut.TheVariants.{Frame}
use Rattle.kd_wire.specs.declared.port.Port.TheVariants.{Replay}
use Rattle.kd_wire.specs.Ports.{takes_caller, takes_opcode}
use Rattle.kd_wire.specs.Commands.{items_of, opcode_in}
use Rattle.kd_wire.specs.Frames.{cut_of, frame_length, frame_of, is_no_size}
use Rattle.kd_wire.specs.Items.{spelled, wire_entry}
use Rattle.kd_types.specs.declared.refusal.Refusal.{Refusal}
use Rattle.kd_types.specs.declared.refusal.Refusal.TheVariants.{OutOfMemory}
use Rattle.kd_wire.specs.Refusals.{IsWellFormed, IsWhy, refusal_of}
use Rattle.kd_wire.specs.Typed.{IsTyped}
use Rattle.kd_wire.proofs.ReadAgain.{laid_frame, not_refused, one_value}
use Rattle.kd_world.specs.Legal.{Event, visit, leave, publishes, receives, reads, frees, is_caller}
use Rattle.kd_world.specs.Legal as legal
use Rattle.kd_core.specs.declared.event.Event as code
use Rattle.kd_core.specs.Running.{event_of}
use Rattle.kd_trace.specs.Items.{IsEventItem, IsNoEvent, MayStand, event_entry}
use Rattle.kd_trace.specs.Reading.{take_with}
use Rattle.kd_trace.proofs.Bodies.{passes}
use Rattle.kd_trace.proofs.EventsBack.{item}
use Rattle.kd_trace.proofs.EventsAgain.{IsTake, caller_small}

same_kind : (i j : Entry) → i ≡ j → i.kind ≡ j.kind
same_kind i j e = ap (λ (k : Entry). k.kind) e

-- only takes have their kind
pub take_only : (body : List ℕ) (e : Event) → IsEventItem (record { kind = 32; body = body }) e → IsTake e
take_only body (legal.take n x) i = tt
take_only body (visit n s) i = absurd (omega (arith, same_kind (item 32 body) (event_entry (visit n s)) i.spelled))
take_only body (leave n) i = absurd (omega (arith, same_kind (item 32 body) (event_entry (leave n)) i.spelled))
take_only body (publishes n s k) i = absurd (omega (arith, same_kind (item 32 body) (event_entry (publishes n s k)) i.spelled))
take_only body (receives n mode) i = absurd (omega (arith, same_kind (item 32 body) (event_entry (receives n mode)) i.spelled))
take_only body (reads n k sealed) i = absurd (omega (arith, same_kind (item 32 body) (event_entry (reads n k sealed)) i.spelled))
take_only body (frees n k) i = absurd (omega (arith, same_kind (item 32 body) (event_entry (frees n k)) i.spelled))

-- and they have no other
pub not_take : (kind : ℕ) (body : List ℕ) (e : Event) → (kind ≡ 32 → ⊥) → IsEventItem (record { kind = kind; body = body }) e → IsTake e → ⊥
not_take kind body (legal.take n x) other i t = other (ap (λ (j : Entry). j.kind) i.spelled)
not_take kind body (visit n s) other i t = t
not_take kind body (leave n) other i t = t
not_take kind body (publishes n s k) other i t = t
not_take kind body (receives n mode) other i t = t
not_take kind body (reads n k sealed) other i t = t
not_take kind body (frees n k) other i t = t

-- what the body of a take has
pub record TakeBody (body : List ℕ) (n : ℕ) (x : Command) : Type 0 where
  pub small : n < 2 ^ 64
  pub long : 8 ≤ length body
  pub first : number body ≡ n
  pub frame : drop 8 body ≡ frame_of n x
  pub cut : cut_of (drop 8 body) ≡ Frame (length (drop 8 body))
  pub accepted : refusal_of Replay (drop 8 body) ≡ None
  pub form : IsWellFormed x
  pub typed : IsTyped x

spelled_even : (x : Command) → length (spelled (items_of x)) % 8 ≡ 0
spelled_even x = ap (λ (l : List ℕ). length l % 8) (sym (flat_map-map spelling wire_entry (items_of x))) ∙ spellings_even (map wire_entry (items_of x))

frame_cut : (n : ℕ) (x : Command) → n < 2 ^ 64 → IsWellFormed x → IsTyped x → cut_of (frame_of n x) ≡ Frame (length (frame_of n x))
frame_cut n x f form typed =
    let frame = frame_of n x in
    let l = laid_frame frame n x typed f form refl in
    let size = frame_length x in
    let most : size ≤ 131072 = form.size in
    let read : number frame ≡ size = l.size_is in
    let len : length frame ≡ size = l.long_is in
    let long : ltb (length frame) 8 ≡ false = le-ltb _ _ (omega (arith, len)) in
    let low : ltb size 32 ≡ false = le-ltb _ _ (omega arith) in
    let high : ltb 131072 size ≡ false = le-ltb _ _ most in
    let even : size % 8 ≡ 0 = omega (arith, spelled_even x) in
    let whole : eqb (size % 8) 0 ≡ true = eq-eqb _ _ even in
    let sized : is_no_size size ≡ false = rw (low, high, whole) refl in
    let inside : ltb (length frame) size ≡ false = le-ltb _ _ (omega (arith, len)) in
    rw (long, read, sized, inside) (ap Frame (sym len))

pub take_has : (body : List ℕ) (n : ℕ) (x : Command) → body ≡ word n ++ frame_of n x → MayStand (legal.take n x) → TakeBody body n x
take_has body n x e m =
    let f = caller_small n m.caller in
    let form = m.form in
    let behind : drop 8 body ≡ frame_of n x = ap (drop 8) e ∙ drop_at (word n) (frame_of n x) 8 (length-word n) in
    record {
      small = f;
      long = omega (arith, ap length e, length-append (word n) (frame_of n x), length-word n);
      first = ap number e ∙ word_again n (frame_of n x) f;
      frame = behind;
      cut = ap cut_of behind ∙ frame_cut n x f form.form form.typed ∙ ap (λ (l : List ℕ). Frame (length l)) (sym behind);
      accepted = not_refused Replay (drop 8 body) n x form.typed f m.caller form.run form.form behind;
      form = form.form;
      typed = form.typed;
    }

take_body_of : (body : List ℕ) (e : Event) → IsTake e → IsEventItem (record { kind = 32; body = body }) e → (n : ℕ) × (x : Command) × TakeBody body n x
take_body_of body (legal.take n x) t i = (n, x, take_has body n x (ap (λ (j : Entry). j.body) i.spelled) i.stands)
take_body_of body (visit n s) t i = absurd t
take_body_of body (leave n) t i = absurd t
take_body_of body (publishes n s k) t i = absurd t
take_body_of body (receives n mode) t i = absurd t
take_body_of body (reads n k sealed) t i = absurd t
take_body_of body (frees n k) t i = absurd t

pub take_body : (body : List ℕ) (e : Event) → IsEventItem (record { kind = 32; body = body }) e → (n : ℕ) × (x : Command) × TakeBody body n x
take_body body e i = take_body_of body e (take_only body e i) i

-- a caller and the frame of its command are a take
take_back : (body : List ℕ) (n : ℕ) (x : Command) → IsBytes body → 8 ≤ length body → n ≡ number body → drop 8 body ≡ frame_of n x → MayStand (legal.take n x) → IsEventItem (record { kind = 32; body = body }) (legal.take n x)
take_back body n x fits long first frame m =
    let front : word n ≡ take 8 body = ap word first ∙ word_front body long fits in
    let parts : body ≡ word n ++ frame_of n x = sym (take-append-drop 8 body) ∙ ap (λ (l : List ℕ). l ++ drop 8 body) (sym front) ∙ ap (λ (l : List ℕ). word n ++ l) frame in
    record { spelled = ap (item 32) parts; stands = m }

-- what is known of a frame that was read
pub record FrameRead (body : List ℕ) (n : ℕ) (x : Command) : Type 0 where
  pub spelled : drop 8 body ≡ frame_of n x
  pub admitted : takes_caller Replay n ≡ true
  pub run : takes_opcode Replay (opcode_in x) ≡ true
  pub form : IsWellFormed x
  pub typed : IsTyped x

take_item : (body : List ℕ) (n : ℕ) (x : Command) → IsBytes body → 8 ≤ length body → n ≡ number body → FrameRead body n x → IsEventItem (item 32 body) (legal.take n x)
take_item body n x fits long first r = take_back body n x fits long first r.spelled (record { caller = r.admitted; form = record { form = r.form; typed = r.typed; run = r.run } })

same_caller : (body : List ℕ) (n m : ℕ) (x y : Command) → FrameRead body n x → TakeBody body m y → n ≡ number body
same_caller body n m x y r t =
    (one_value (drop 8 body) n m x y r.typed t.typed (caller_small n r.admitted) t.small r.form t.form r.spelled t.frame).0 ∙ sym t.first

-- the take of such a frame
pub take_read : (body : List ℕ) (n : ℕ) (x : Command) (o : Option code.Event) → IsBytes body → 8 ≤ length body → FrameRead body n x → option_map event_of o ≡ take_with (number body) n x → IfSome o (λ e. IsEventItem (item 32 body) (event_of e))
take_read body n x None fits long r is = tt
take_read body n x (Some e) fits long r is =
    let h = passes (eqb n (number body)) (Some (legal.take n x)) (event_of e) (sym is) in
    subst (λ (v : Event). IsEventItem (item 32 body) v) (same_some (legal.take n x) (event_of e) h.1) (take_item body n x fits long (eqb-true _ _ h.0) r)

pub take_none : (body : List ℕ) (n : ℕ) (x : Command) (o : Option code.Event) → FrameRead body n x → option_map event_of o ≡ take_with (number body) n x → IfNone o (IsNoEvent (item 32 body))
take_none body n x (Some e) r is = tt
take_none body n x None r is = λ e i.
    let t = take_body body e i in
    let same : eqb n (number body) ≡ true = eq-eqb n (number body) (same_caller body n t.0 x t.1 r t.2) in
    no_some (is ∙ ap (λ b. cond b (Some (legal.take n x)) None) same)

-- no frame of a take is refused
pub not_refused_here : (body frame : List ℕ) (why : Refusal) → frame ≡ drop 8 body → IsWhy why (refusal_of Replay frame) → (why ≡ OutOfMemory → ⊥) → IsNoEvent (item 32 body)
not_refused_here body frame why is (inl out) other = λ e i. other out
not_refused_here body frame why is (inr some) other = λ e i.
    let t = take_body body e i in
    no_some (sym t.2.accepted ∙ ap (refusal_of Replay) (sym is) ∙ some)
