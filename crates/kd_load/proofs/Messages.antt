-- Each message of a load is planned, and offered to those that it is for.
use Rattle.std.proofs.Common.{◌≡◌, ◌<◌, ◌≤◌, ◌==◌, ℕ, ◌-◌, Bool, true, false, cond, List, [], ◌∷◌, get_or, map, length, refl, ap, sym, ◌∙◌, arith, ◌⊎◌, inl, inr}
use Rattle.std.specs.Prelude.{◌&&◌, not, Ok, Option, Some, None}
use Rattle.byteorder.specs.Endian.{little_bytes}
use Rattle.std.proofs.lemmas.Bool.{cases_eq}
use Rattle.kd_types.specs.declared.refusal.Refusal.{Refusal}
use Rattle.kd_wire.specs.declared.item.WireItem.TheVariants as item
use Rattle.kd_image.specs.Images.{any}
use Rattle.kd_acts.specs.State.{Answer, bytes_of, done, drained, freed, gone, got, placed, refused, slice}
use Rattle.kd_commands.specs.declared.conn.Conn.{Conn}
use Rattle.kd_commands.specs.declared.sent.Sent.{Sent}
use Rattle.kd_commands.specs.State.{Desk}
use Rattle.kd_commands.specs.Audience.{audience, broadcast, is_told}
use Rattle.kd_commands.specs.Plans.{Part, Plan}
use Rattle.kd_commands.specs.Send.{offered_to}
use Rattle.kd_commands.specs.Step.{plan}
use Rattle.kd_commands.specs.Visits.{first_ends, next_part}
use Rattle.kd_histories.specs.Slots.{part_behind}
use Rattle.kd_load.specs.declared.message.Message.{Message}
use Rattle.kd_load.specs.declared.message.Target.{Target}
use Rattle.kd_load.specs.declared.message.Target.TheVariants.{All, One}
use Rattle.kd_load.specs.Counts.{digit_of, tag_passes}
use Rattle.kd_load.specs.Bus.{AreFilters, IsMessage, IsTarget, command_of, conn_at, loaded_desk, sender_at}
use Rattle.kd_load.proofs.Addressed.{IsPlanned, audience_at, audience_past, heard}
use Rattle.kd_load.proofs.Offers.{OffersOnly, has_answers, parts_at}
use Rattle.kd_load.proofs.Passing.{passes_as_tags}
use Rattle.kd_load.proofs.Ranges.{other_number, same_number}
use Rattle.kd_load.proofs.Sends.{all_planned, one_planned, sent_all, sent_one}

-- where nothing ends at the first part, nothing is left behind the answers
none_left : (ps : List Part) (outs : List Answer) → first_ends ps outs ≡ None → part_behind ps outs ≡ None → next_part [] ps outs ≡ None
none_left ps outs e h = go (first_ends ps outs) e h
  where
    left : Option Refusal → Option Part
    left o = elim o [ Some why ↦ None | None ↦ next_part [] ps outs ]

    go : (o : Option Refusal) → o ≡ None → left o ≡ None → next_part [] ps outs ≡ None
    go None e h = h
    go (Some why) e h = absurd cc

module _ (d : Desk) (s : Conn) (m : Sent) where
  -- an offer that needn't be placed ends nothing
  goes_on : (c : Conn) (ps : List Part) (o : Answer) (outs : List Answer) → first_ends (offered_to d s m any false c ∷ ps) (o ∷ outs) ≡ None
  unfolding first_ends
  goes_on c ps done outs = refl
  goes_on c ps placed outs = refl
  goes_on c ps gone outs = refl
  goes_on c ps freed outs = refl
  goes_on c ps (slice n) outs = refl
  goes_on c ps (refused r) outs = refl
  goes_on c ps (drained is) outs = refl
  goes_on c ps (got n at len dropped) outs = refl
  goes_on c ps (bytes_of bytes) outs = refl

  all_visited : (cs : List Conn) (outs : List Answer) → part_behind (map (offered_to d s m any false) cs) outs ≡ None → length (map (offered_to d s m any false) cs) ≤ length outs
  unfolding first_ends
  all_visited [] outs h = omega arith
  all_visited (c ∷ cs) [] h = has_answers [] (map (offered_to d s m any false) (c ∷ cs)) [] h
  all_visited (c ∷ cs) (o ∷ outs) h =
      let ps : List Part = map (offered_to d s m any false) cs in
      has_answers [] (offered_to d s m any false c ∷ ps) (o ∷ outs) (none_left (offered_to d s m any false c ∷ ps) (o ∷ outs) (goes_on c ps o outs) h)

  all_offers : (cs : List Conn) → OffersOnly (map (offered_to d s m any false) cs)
  all_offers [] = tt
  all_offers (c ∷ cs) = (tt, all_offers cs)

one_visited : (p : Part) (outs : List Answer) → part_behind (p ∷ []) outs ≡ None → 1 ≤ length outs
unfolding first_ends next_part
one_visited p [] h = absurd cc
one_visited p (o ∷ outs) h = omega arith

module _ (filters : List (List ℕ)) (n : ℕ) (few : n ≤ 16) (are : AreFilters filters) where
  abbrev D : Desk
  D = loaded_desk filters n

  to_all : (i k digit : ℕ) → 1 ≤ i → i ≤ n → digit < 8
      → let m : Message = record { sender = i; number = k; target = All digit } in
      (p : Plan) × (plan D (sender_at i) (command_of filters m) ≡ Ok p) × IsPlanned n m D p
  unfolding audience loaded_desk
  to_all i k digit some low small =
      let bits : List ℕ = get_or filters digit [] in
      let sent : Sent = sent_all (item.Payload (little_bytes 8 k)) bits in
      let hears : Conn → Bool = is_told D (broadcast (conn_at i) (record { generation = 0; bits = bits })) in
      let offered : Conn → Part = offered_to D (conn_at i) sent any false in
      let has : (id : ℕ) → 1 ≤ id → id ≤ n → hears (conn_at id) ≡ (not (id == i) && tag_passes digit (digit_of id)) = λ id first last.
      heard filters n i id [] bits first last ∙ ap (λ (b : Bool). not (id == i) && b) (passes_as_tags digit (digit_of id) bits (get_or filters (digit_of id) []) (are digit small) (are (digit_of id) (omega arith))) in (
        _,
        all_planned filters n i k bits some low (are digit small).sized,
        record {
          next = refl;
          offers = all_offers D (conn_at i) sent _;
          here = λ id first last. audience_at filters n hears offered (λ c. refl) id _ first last (has id first last);
          nobody = λ c past. audience_past filters n hears offered (λ c. refl) c past;
          all = λ outs h. all_visited D (conn_at i) sent _ outs h;
        },
      )

  to_one : (i k id : ℕ) → 1 ≤ i → i ≤ n → 1 ≤ id → id ≤ n
      → let m : Message = record { sender = i; number = k; target = One id } in
      (p : Plan) × (plan D (sender_at i) (command_of filters m) ≡ Ok p) × IsPlanned n m D p
  to_one i k id some low first last =
      let sent : Sent = sent_one (item.Payload (little_bytes 8 k)) id in
      let part : Part = offered_to D (conn_at i) sent id true (conn_at id) in (
        _,
        one_planned filters n i k id some low first last few,
        record {
          next = refl;
          offers = (tt, tt);
          here = λ j begin end. at j begin (cases_eq id j);
          nobody = λ c past. rw (other_number (id - 1) c (λ z. omega arith)) refl;
          all = λ outs h. one_visited part outs h;
        },
      )
    where
      at : (j : ℕ) → 1 ≤ j → (id ≡ j) ⊎ (id ≡ j → ⊥) → length (parts_at (j - 1) (offered_to D (conn_at i) (sent_one (item.Payload (little_bytes 8 k)) id) id true (conn_at id) ∷ [])) ≡ cond (id == j) 1 0
      at j begin (inl is) = rw (ap (λ (q : ℕ). id - 1 == q - 1) (sym is) ∙ same_number (id - 1), ap (λ (q : ℕ). id == q) (sym is) ∙ same_number id) refl
      at j begin (inr ne) = rw (other_number (id - 1) (j - 1) (λ z. ne (omega arith)), other_number id j ne) refl

  by_target : (i k : ℕ) (t : Target) → 1 ≤ i → i ≤ n → IsTarget n t
      → let m : Message = record { sender = i; number = k; target = t } in
      (p : Plan) × (plan D (sender_at i) (command_of filters m) ≡ Ok p) × IsPlanned n m D p
  by_target i k (All digit) some low small = to_all i k digit some low small
  by_target i k (One id) some low within = to_one i k id some low within.0 within.1

  pub message_planned : (m : Message) → IsMessage n m → (p : Plan) × (plan D (sender_at m.sender) (command_of filters m) ≡ Ok p) × IsPlanned n m D p
  message_planned m ok = by_target m.sender m.number m.target ok.some ok.low ok.target
