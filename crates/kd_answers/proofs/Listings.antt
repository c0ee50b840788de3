-- A listing has few lines, of few bytes each; all other replies have their words alone.
use Rattle.std.proofs.Common.{◌≡◌, ◌≤◌, ◌*◌, ℕ, Bool, true, false, List, [], ◌∷◌, ◌++◌, cond, length, map, arith, length-append}
use Rattle.std.specs.Prelude.{◌&&◌, not, nat_le, filter}
use Rattle.std.specs.List.{AllByRecursion}
use Rattle.std.proofs.lemmas.Bool.{and_parts, leb-true}
use Rattle.std.proofs.lemmas.List.{length-map}
use Rattle.kd_model.specs.Words.{all_of, in_order, those}
use Rattle.kd_model.proofs.Lists.{all_follow, all_of_append, all_of_filter}
use Rattle.kd_item.specs.Spelling.{spelling}
use Rattle.kd_item.proofs.Sizes.{length-body, length-spelling}
use Rattle.kd_types.specs.declared.flags.ListFlags.{ListFlags}
use Rattle.kd_types.specs.Flags.{has_bits}
use Rattle.kd_name.specs.Names.{elements, is_element, is_name}
use Rattle.kd_registry.specs.declared.claim.Claim.{Claim}
use Rattle.kd_registry.specs.declared.claim.Listed.{Listed}
use Rattle.kd_registry.specs.Changes as registry
use Rattle.kd_wire.specs.declared.reply.ListedItem.{ListedItem}
use Rattle.kd_wire.specs.Replies.{listed_entry, listing_bytes}
use Rattle.kd_commands.specs.declared.conn.Conn.{Conn}
use Rattle.kd_commands.specs.declared.who.WhoKind.{WhoKind}
use Rattle.kd_commands.specs.State.{Desk, came_before, is_monitor}
use Rattle.kd_commands.specs.Leaving.{byebye, close_conn, close_endpoint}
use Rattle.kd_commands.specs.NameList.{as_listed, claims_listed, conns_listed, listing_lines, name_list}
use Rattle.kd_commands.specs.Rights.{may_see, may_see_name}
use Rattle.kd_commands.specs.Tick.{tick}
use Rattle.kd_settled.specs.Room.{HasRoom}
use Rattle.kd_settled.specs.Settled.{IsSettled}
use Rattle.kd_settled.proofs.Cases.{Cases, of_command}
use Rattle.kd_settled.proofs.Endpoints.{length_in_order}
use Rattle.kd_settled.proofs.Rooms.{tables_have_room}
use Rattle.kd_answers.specs.Short.{IsShort, PlansAnswerShortly}

-- ---- lines

-- its name has 255 bytes at most
abbrev HasShortName : ListedItem → Type 0
HasShortName line = length line.name ≤ 255

few_passing : {X : Type 0} (p : X → Bool) (xs : List X) → length (filter p xs) ≤ length xs
few_passing p [] = omega arith
few_passing p (x ∷ xs) = go (p x) (few_passing p xs)
  where
    go : (b : Bool) → length (filter p xs) ≤ length xs → length (cond b (x ∷ filter p xs) (filter p xs)) ≤ length (x ∷ xs)
    go true ih = omega (arith, ih)
    go false ih = omega (arith, ih)

all_of_map : {X Y : Type 0} (P : Y → Type 0) (f : X → Y) (xs : List X) → AllByRecursion (λ x. P (f x)) xs → AllByRecursion P (map f xs)
all_of_map P f [] a = tt
all_of_map P f (x ∷ xs) a = (a.0, all_of_map P f xs a.1)

all_true : {X : Type 0} (P : X → Type 0) → ((x : X) → P x) → (xs : List X) → AllByRecursion P xs
all_true P h [] = tt
all_true P h (x ∷ xs) = (h x, all_true P h xs)

line_short : (line : ListedItem) → HasShortName line → length (spelling (listed_entry line)) ≤ 288
line_short line short =
    let whole = length-spelling (listed_entry line) in
    let body = length-body (line.id ∷ line.standing ∷ []) line.name in
    omega (arith, whole, body, short)

lines_short : (lines : List ListedItem) → AllByRecursion HasShortName lines → length (listing_bytes lines) ≤ 288 * length lines
lines_short [] a = omega arith
lines_short (line ∷ lines) a =
    let first = line_short line a.0 in
    let more = lines_short lines a.1 in
    let both = length-append (spelling (listed_entry line)) (listing_bytes lines) in
    omega (arith, first, more, both)

name_short : (n : List ℕ) → is_name n ≡ true → length n ≤ 255
name_short n h =
    leb-true (length n) 255
    (and_parts (nat_le (length n) 255) (nat_le 2 (length (elements n))) (and_parts (nat_le (length n) 255 && nat_le 2 (length (elements n))) (all_of is_element (elements n)) h).0).0

-- ---- a listing

module _ (d : Desk) (c : Conn) (s : IsSettled d) where
  room : HasRoom d
  room = tables_have_room d s

  abbrev sees : Conn → Bool
  sees x = not (is_monitor x.kind) && may_see d c x.id

  abbrev line_of : Conn → ListedItem
  line_of x = record { id = x.id; standing = 0; name = [] }

  conns_few : length (conns_listed d c) ≤ 64
  conns_few =
      let few = few_passing sees d.conns in
      let same = length_in_order came_before (those sees d.conns) in
      let lines = length-map (in_order came_before (those sees d.conns)) line_of in
      omega (arith, few, same, lines, room.conns)

  conns_short : AllByRecursion HasShortName (conns_listed d c)
  conns_short = all_of_map HasShortName line_of _ (all_true _ (λ x. omega arith) _)

  claims_few : (flags : ListFlags) → length (claims_listed d c flags) ≤ 4096
  claims_few flags =
      let rows : List Listed = registry.listing d.registry flags in
      let wanted = few_passing (λ (x : Claim). registry.is_wanted flags.0 (registry.claim_standing d.registry x)) d.registry in
      let listed = length-map (those (λ (x : Claim). registry.is_wanted flags.0 (registry.claim_standing d.registry x)) d.registry) (registry.row d.registry) in
      let seen = few_passing (λ (l : Listed). may_see_name d c l.name) rows in
      let lines = length-map (those (λ (l : Listed). may_see_name d c l.name) rows) as_listed in
      omega (arith, wanted, listed, seen, lines, room.claims)

  claims_short : (flags : ListFlags) → AllByRecursion HasShortName (claims_listed d c flags)
  claims_short flags =
      all_of_map HasShortName as_listed _
      (all_of_filter (λ (l : Listed). length l.name ≤ 255) (λ (l : Listed). may_see_name d c l.name) (registry.listing d.registry flags)
      (all_of_map (λ (l : Listed). length l.name ≤ 255) (registry.row d.registry) _
      (all_of_filter (λ (x : Claim). length x.name ≤ 255) (λ (x : Claim). registry.is_wanted flags.0 (registry.claim_standing d.registry x)) d.registry
      (all_follow (λ (x : Claim). is_name x.name ≡ true) (λ (x : Claim). length x.name ≤ 255) d.registry (λ x h. name_short x.name h) s.claims.named))))

  listing_short : (flags : ListFlags) → length (listing_bytes (listing_lines d c flags)) ≤ 1198080
  unfolding listing_lines
  listing_short flags = go (has_bits flags.0 1)
    where
      go : (b : Bool) → length (listing_bytes (elim b as (λ b. List ListedItem) [ true ↦ conns_listed d c | false ↦ [] ] ++ claims_listed d c flags)) ≤ 1198080
      go true =
          let all = lines_short (conns_listed d c ++ claims_listed d c flags) (all_of_append HasShortName (conns_listed d c) (claims_listed d c flags) conns_short (claims_short flags)) in
          let both = length-append (conns_listed d c) (claims_listed d c flags) in
          omega (arith, all, both, conns_few, claims_few flags)
      go false =
          let all = lines_short (claims_listed d c flags) (claims_short flags) in
          omega (arith, all, claims_few flags)

-- ---- command by command

answered : (d : Desk) (m : WhoKind) → IsSettled d → Cases d m (λ x p. IsShort p.reply)
unfolding byebye close_conn close_endpoint name_list tick
answered d m s = record {
  enters = λ new. omega arith;
  closes = omega arith;
  comes = λ creds flags size send_mask receive_mask is none. omega arith;
  makes = λ creds is none. omega arith;
  says_byebye = λ c live. omega arith;
  says_close = λ c live. omega arith;
  lists = λ c flags. let listing = listing_short d c s flags in omega (arith, listing);
  ticks = λ c moment. omega arith;
  sends = λ c flags priority dst source payload_type cookie last is live none. omega arith;
  acquires = λ c flags n v live is. omega arith;
  releases = λ c n. omega arith;
  adds_rule = λ c replace cookie is. omega arith;
  removes_rule = λ c cookie. omega arith;
  seals = λ c bytes n. omega arith;
  unseals = λ c number. omega arith;
  sets = λ c is. omega arith;
  keeps = λ e is its. omega arith;
  ends = λ e its. omega arith;
  learns_byebye = λ seat. omega arith;
  learns_close = λ seat. omega arith;
}

pub plans_answer_shortly : PlansAnswerShortly
plans_answer_shortly d w x p s e = of_command d w (λ x p. IsShort p.reply) (answered d w.member s) x p e
