-- How long images are with all that is attached.
use Rattle.std.proofs.Common.{◌≡◌, ℕ, ◌+◌, ◌*◌, ◌≤◌, suc, Bool, true, false, List, [], ◌∷◌, length, map, Option, Some, None, IfSome, refl, sym, ap, ◌∙◌, arith}
use Rattle.std.specs.Prelude.{◌==◌, ◌&&◌, filter, nat_le}
use Rattle.std.specs.List.{AllByRecursion}
use Rattle.std.proofs.Math.Nat.{suc-mul}
use Rattle.std.proofs.lemmas.Bool.{and_left, and_parts, leb-true}
use Rattle.std.proofs.lemmas.List.{length-map}
use Rattle.kd_types.specs.declared.creds.Creds.{Creds}
use Rattle.kd_model.specs.Words.{all_of, those}
use Rattle.kd_model.proofs.Lists.{all_follow, all_of_filter, all_over}
use Rattle.kd_name.specs.Names.{elements, is_element, is_name}
use Rattle.kd_registry.specs.declared.claim.Claim.{Claim}
use Rattle.kd_registry.specs.Changes.{is_owners, name_in, names_of}
use Rattle.kd_item.specs.Spelling.{Entry, spelling, spellings}
use Rattle.kd_image.specs.declared.message.Message.{Message}
use Rattle.kd_image.specs.declared.attached.Attached.{Attached}
use Rattle.kd_image.specs.Items.{contents, creds_item, item, maybe, moment_item, owned_item, padded_length}
use Rattle.kd_image.specs.Images.{image_length}
use Rattle.kd_image.specs.Said.{nothing_attached}
use Rattle.kd_image.proofs.Lengths.{front_parts, length-creds, length-image, length-item, length-moment, length_cons, length_one, length_parts}
use Rattle.kd_commands.specs.declared.conn.Conn.{Conn}
use Rattle.kd_commands.specs.declared.sent.Sent.{Sent}
use Rattle.kd_commands.specs.State.{Desk}
use Rattle.kd_commands.specs.Messages.{attached, is_attached, message_of, plain_length, when}
use Rattle.kd_commands.specs.Rights.{may_see_name}
use Rattle.kd_settled.specs.Lengths.{AttachedIsShort, ImagesFit, IsDescribed}
use Rattle.kd_settled.specs.Settled.{IsSettled, is_claim_by}
use Rattle.kd_settled.proofs.Counts.{count, count_both, count_cons, tally}

padded_255 : (n : ℕ) → n ≤ 255 → padded_length (16 + n) ≤ 272
padded_255 n le = omega arith

few_creds : (o : Option Creds) → length (spellings (maybe creds_item o)) ≤ 40
few_creds None = omega arith
few_creds (Some c) = omega (arith, length-creds c)

few_moment : (o : Option ℕ) → length (spellings (maybe moment_item o)) ≤ 24
few_moment None = omega arith
few_moment (Some m) = omega (arith, length-moment m)

few_text : (o : Option (List ℕ)) → IfSome o (λ t. length t ≤ 255) → length (spellings (maybe (item 0 []) o)) ≤ 272
few_text None h = omega arith
few_text (Some t) h = omega (arith, length_one 0 [] t, padded_255 (length t) h)

few_names : (ns : List (List ℕ)) → AllByRecursion (λ n. length n ≤ 255) ns → length (spellings (map owned_item ns)) ≤ 272 * length ns
few_names [] a = omega arith
few_names (n ∷ ns) a = omega (arith, length_cons (owned_item n) (map owned_item ns), length-item 22 [] n, padded_255 (length n) a.0, few_names ns a.1)

-- ---- the names of a connection

name_short : (n : List ℕ) → is_name n ≡ true → length n ≤ 255
name_short n h = leb-true (length n) 255 (and_parts (nat_le (length n) 255) (nat_le 2 (length (elements n))) (and_parts (nat_le (length n) 255 && nat_le 2 (length (elements n))) (all_of is_element (elements n)) h).0).0

fewer_both : {X : Type 0} (p q : X → Bool) (xs : List X) → count (λ x. p x && q x) xs ≤ count p xs
fewer_both p q [] = omega arith
fewer_both p q (x ∷ xs) = go (p x) (q x) refl refl (fewer_both p q xs)
  where
    go : (a b : Bool) → p x ≡ a → q x ≡ b → count (λ y. p y && q y) xs ≤ count p xs → count (λ y. p y && q y) (x ∷ xs) ≤ count p (x ∷ xs)
    go a b is it ih = omega (arith, ih, count_cons (λ y. p y && q y) x xs, count_cons p x xs, less a b is it)
      where
        less : (a b : Bool) → p x ≡ a → q x ≡ b → tally (p x && q x) ≤ tally (p x)
        less true true is it = rw (is, it) (omega arith)
        less true false is it = rw (is, it) (omega arith)
        less false b is it = rw is (omega arith)

names_few : (d : Desk) (id : ℕ) → IsSettled d → length (names_of d.registry id) ≤ 64
names_few d id s =
    omega (
      arith,
      length-map (those (λ (c : Claim). c.id == id && is_owners d.registry c) d.registry) name_in,
      fewer_both (is_claim_by id) (is_owners d.registry) d.registry,
      s.claims.few id,
    )

names_short : (d : Desk) (id : ℕ) → IsSettled d → AllByRecursion (λ n. length n ≤ 255) (names_of d.registry id)
names_short d id s =
    all_over (λ n. length n ≤ 255) name_in (those (λ (c : Claim). c.id == id && is_owners d.registry c) d.registry)
    (all_of_filter (λ (c : Claim). length c.name ≤ 255) (λ (c : Claim). c.id == id && is_owners d.registry c) d.registry
    (all_follow (λ (c : Claim). is_name c.name ≡ true) (λ (c : Claim). length c.name ≤ 255) d.registry (λ c h. name_short c.name h) s.claims.named))

-- ---- what is attached

few_attached :
    (m : Message) (a : Attached) → length a.names ≤ 64 → AllByRecursion (λ n. length n ≤ 255) a.names → IfSome a.description (λ t. length t ≤ 255)
    → image_length m a ≤ image_length m nothing_attached + 17744
few_attached m a few short described =
    omega (
      arith,
      few,
      length_parts m a,
      length_parts m nothing_attached,
      front_parts (contents m a),
      front_parts (contents m nothing_attached),
      few_creds a.creds,
      few_names a.names short,
      few_text a.description described,
      few_moment a.moment,
    )

when_short : (b : Bool) (o : Option (List ℕ)) → IfSome o (λ t. length t ≤ 255) → IfSome (when b o) (λ t. length t ≤ 255)
when_short true o h = h
when_short false o h = tt

pub attached_is_short : AttachedIsShort
unfolding attached
attached_is_short d s r m settled described =
    few_attached (message_of m) (attached d s r) (few (is_attached s r 2)) (short (is_attached s r 2)) (when_short (is_attached s r 4) s.description described)
  where
    mine : List (List ℕ)
    mine = names_of d.registry s.id

    few : (b : Bool) → length {A = List ℕ} (elim b [ true ↦ those (may_see_name d r) mine | false ↦ [] ]) ≤ 64
    few true = omega (arith, count_both (may_see_name d r) mine, names_few d s.id settled)
    few false = omega arith

    short : (b : Bool) → AllByRecursion (λ n. length n ≤ 255) (elim b [ true ↦ those (may_see_name d r) mine | false ↦ [] ])
    short true = all_of_filter (λ n. length n ≤ 255) (may_see_name d r) mine (names_short d s.id settled)
    short false = tt

pub images_fit : ImagesFit
images_fit d s r m dst settled described le =
    omega (arith, le, attached_is_short d s r m settled described, length-image (message_of m) s.id dst (attached d s r))
