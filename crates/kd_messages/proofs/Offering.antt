-- Offers: their parts, the seats of their receivers, and their lengths.
use Rattle.std.proofs.Common.{◌≡◌, ℕ, ◌%◌, ◌<◌, suc, zero, Bool, true, false, is_some, sym, map, List, [], ◌∷◌, ◌++◌, length, get_or, Option, Some, cond, ◌+◌, take, refl, ap, ◌∙◌, arith, length-append}
use Rattle.std.specs.List.{AllByRecursion}
use Rattle.std.proofs.lemmas.List.{append_assoc, map-append, take_more}
use Rattle.std.proofs.lemmas.List.Elements.{filter-append}
use Rattle.kd_model.specs.Words.{those}
use Rattle.kd_item.proofs.Sizes.{spellings_even}
use Rattle.kd_image.specs.declared.message.Message.{Message}
use Rattle.kd_image.specs.declared.attached.Attached.{Attached}
use Rattle.kd_image.specs.Items.{padded_length, contents, items}
use Rattle.kd_image.specs.Images.{padded, laid, front_length, image_length, front, image}
use Rattle.kd_image.proofs.Lengths.{length-padded, length_parts}
use Rattle.kd_acts.specs.State.{Content}
use Rattle.kd_commands.specs.declared.conn.Conn.{Conn}
use Rattle.kd_tables.specs.declared.part.Part as code
use Rattle.kd_tables.specs.declared.part.Part.TheVariants as part
use Rattle.kd_tables.specs.Drafts.{parts_with, part_with, IsLength, IsVisitable, StandByOffers, content_at, is_offer}
use Rattle.kd_commands.specs.Messages.{attached}
use Rattle.kd_messages.specs.Sending.{letter_offer, when_told}
use Rattle.kd_commands.specs.Plans.{Part}
use Rattle.kd_commands.specs.State.{Desk}
use Rattle.kd_tables.specs.Room.{IsSeated}

-- one part more, with its content
pub parts_more : (cs : List (Option Content)) (ps : List code.Part) (c : Option Content) (p : code.Part) → length cs ≡ length ps
    → parts_with (cs ++ c ∷ []) (ps ++ p ∷ []) ≡ parts_with cs ps ++ part_with c p ∷ []
parts_more [] [] c p e = refl
parts_more [] (q ∷ ps) c p e = absurd (omega (arith, e))
parts_more (d ∷ cs) [] c p e = absurd (omega (arith, e))
parts_more (d ∷ cs) (q ∷ ps) c p e = ap (λ (l : List _). part_with d q ∷ l) (parts_more cs ps c p (omega (arith, e)))

content_more : (cs : List (Option Content)) (ps : List code.Part) (c : Content) (p : code.Part) → length cs ≡ length ps → is_offer p ≡ true
    → ((n : ℕ) → is_some (content_at n cs) ≡ get_or (map is_offer ps) n false) → (n : ℕ) → is_some (content_at n (cs ++ Some c ∷ [])) ≡ get_or (map is_offer (ps ++ p ∷ [])) n false
content_more [] [] c p e o all zero = sym o
content_more [] [] c p e o all (suc n) = all n
content_more [] (q ∷ ps) c p e o all n = absurd (omega (arith, e))
content_more (d ∷ cs) [] c p e o all n = absurd (omega (arith, e))
content_more (d ∷ cs) (q ∷ ps) c p e o all zero = all zero
content_more (d ∷ cs) (q ∷ ps) c p e o all (suc n) = content_more cs ps c p (omega (arith, e)) o (λ k. all (suc k)) n

-- each offer still has its content
pub contents_more : (cs : List (Option Content)) (ps : List code.Part) (c : Content) (p : code.Part) → length cs ≡ length ps → is_offer p ≡ true → StandByOffers cs ps → StandByOffers (cs ++ Some c ∷ []) (ps ++ p ∷ [])
unfolding StandByOffers
contents_more cs ps c p e o all = content_more cs ps c p e o all

-- the seat at a place
pub seat_at : (cs : List Conn) (i : ℕ) (d : Conn) → AllByRecursion IsSeated cs → i < length cs → (get_or cs i d).seat < 64
seat_at [] i d all lt = absurd (omega (arith, lt))
seat_at (c ∷ cs) zero d all lt = all.0
seat_at (c ∷ cs) (suc i) d all lt = seat_at cs i d all.1 (omega (arith, lt))

-- what is filled up is even
pub padded_even : (n : ℕ) → padded_length n % 8 ≡ 0
padded_even n = omega arith

pub laid_even : (ps : List (List ℕ)) → length (laid ps) % 8 ≡ 0
laid_even [] = refl
laid_even (p ∷ ps) = omega (arith, length-append (padded p) (laid ps), length-padded p, padded_even (length p), laid_even ps)

-- an image takes whole words
pub image_even : (m : Message) (a : Attached) → IsLength (image_length m a)
unfolding front_length
image_even m a = (omega (arith, length_parts m a), omega (arith, length_parts m a, spellings_even (items 0 (contents m a)), laid_even m.payloads))

-- an offer of a message can be visited
pub offer_fits : (seat user len source : ℕ) (must : Bool) (m : Message) (a : Attached) → seat < 64 → len ≡ image_length m a → IsVisitable (part.Offer seat user len source must)
unfolding IsVisitable
offer_fits seat user len source must m a low is = rw is (low, image_even m a)

-- a part with its content, as they are made, is what is offered
pub offered_is : (d : Desk) (s : Conn) (g : Message) (dst : ℕ) (must : Bool) (r : Conn) (a : Attached) (len : ℕ) (payload : List ℕ) (share : Option (List ℕ)) (content : Content)
    → a ≡ attached d s r → len ≡ length (image g s.id dst a) → content ≡ record { image = front g s.id dst a ++ payload; shared = share; priority = g.priority } → payload ≡ laid g.payloads
    → part_with (Some content) (part.Offer r.seat s.creds.uid len s.id must) ≡ letter_offer d s g share dst must r
unfolding letter_offer image
offered_is d s g dst must r a len payload share content a_is len_is content_is payload_is = rw (len_is, content_is, payload_is, a_is) refl

told_one : (f : Conn → Part) (x : Conn) (b : Bool) → when_told b (f x) ≡ map f (cond b (x ∷ []) [])
told_one f x true = refl
told_one f x false = refl

-- one connection more of those that are gone through
pub walked : (f : Conn → Part) (p : Conn → Bool) (cs : List Conn) (i : ℕ) (x : Conn) (front so_far then : List Part) → i < length cs → x ≡ get_or cs i x → so_far ≡ front ++ map f (those p (take i cs))
    → then ≡ so_far ++ when_told (p x) (f x) → then ≡ front ++ map f (those p (take (i + 1) cs))
walked f p cs i x front so_far then lt here is more =
    let one : List Part = map f (those p (x ∷ [])) in
    let longer : take (i + 1) cs ≡ take i cs ++ x ∷ [] = take_more cs i x lt ∙ ap (λ (y : Conn). take i cs ++ y ∷ []) (sym here) in
    more
    ∙ ap (λ (l : List Part). so_far ++ l) (told_one f x (p x))
    ∙ ap (λ (l : List Part). l ++ one) is
    ∙ append_assoc front (map f (those p (take i cs))) one
    ∙ ap (λ (l : List Part). front ++ l) (sym (map-append f (those p (take i cs)) (those p (x ∷ []))) ∙ ap (map f) (sym (filter-append p (take i cs) (x ∷ []))) ∙ ap (λ (l : List Conn). map f (those p l)) (sym longer))
