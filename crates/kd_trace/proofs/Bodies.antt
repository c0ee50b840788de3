-- Bodies that are nothing but words.
use Rattle.std.proofs.Common.{◌≡◌, ℕ, ◌*◌, ◌^◌, ◌<◌, List, [], ◌∷◌, length, drop, refl, sym, ap, ◌∙◌, inl, inr, Bool, true, false, cond, Option, Some, None}
use Rattle.std.specs.Prelude.{◌⊎◌}
use Rattle.std.proofs.lemmas.List.{append-nil}
use Rattle.kd_item.specs.Spelling.{Entry, words, number}
use Rattle.kd_item.proofs.Words.{IsBytes, length-words}
use Rattle.kd_wire.specs.Typed.{AreWords}
use Rattle.kd_wire.specs.Kinds.{nth}
use Rattle.kd_wire.specs.Refusals.{words_from}
use Rattle.kd_wire.proofs.WordLaws.{words_only}
use Rattle.kd_wire.proofs.ReadAgain.{words_here}

-- ---- tests

-- which branch of a test gave a value
pub either : {X : Type 0} (b : Bool) (x y : Option X) (v : X) → cond b x y ≡ Some v → ((b ≡ true) × (x ≡ Some v)) ⊎ ((b ≡ false) × (y ≡ Some v))
either true x y v e = inl (refl, e)
either false x y v e = inr (refl, e)

-- a test that lets a value through
pub passes : {X : Type 0} (b : Bool) (x : Option X) (v : X) → cond b x None ≡ Some v → (b ≡ true) × (x ≡ Some v)
passes true x v e = (refl, e)
passes false x v e = absurd cc

-- an item by its parts
pub entry_is : (i : Entry) (kind : ℕ) (body : List ℕ) → i.kind ≡ kind → i.body ≡ body → i ≡ record { kind = kind; body = body }
entry_is i kind body e f = ap (λ (k : ℕ). record { kind = k; body = i.body }) e ∙ ap (λ (b : List ℕ). record { kind = kind; body = b }) f

-- ---- words that are read are the body

pub one_back : (body : List ℕ) → length body ≡ 8 → IsBytes body → body ≡ words (number body ∷ [])
one_back body len fits = sym (words_only 1 body len fits) ∙ append-nil (words (number body ∷ []))

pub two_back : (body : List ℕ) → length body ≡ 16 → IsBytes body → body ≡ words (number body ∷ number (drop 8 body) ∷ [])
two_back body len fits = sym (words_only 2 body len fits) ∙ append-nil (words (number body ∷ number (drop 8 body) ∷ []))

pub three_back : (body : List ℕ) → length body ≡ 24 → IsBytes body → body ≡ words (number body ∷ number (drop 8 body) ∷ number (drop 16 body) ∷ [])
three_back body len fits = sym (words_only 3 body len fits) ∙ append-nil (words (number body ∷ number (drop 8 body) ∷ number (drop 16 body) ∷ []))

pub four_back : (body : List ℕ) → length body ≡ 32 → IsBytes body → body ≡ words (number body ∷ number (drop 8 body) ∷ number (drop 16 body) ∷ number (drop 24 body) ∷ [])
four_back body len fits = sym (words_only 4 body len fits) ∙ append-nil (words (number body ∷ number (drop 8 body) ∷ number (drop 16 body) ∷ number (drop 24 body) ∷ []))

-- ---- words that are written are read

pub record One (body : List ℕ) (a : ℕ) : Type 0 where
  pub len : length body ≡ 8
  pub first : number body ≡ a

pub record Two (body : List ℕ) (a b : ℕ) : Type 0 where
  pub len : length body ≡ 16
  pub first : number body ≡ a
  pub second : number (drop 8 body) ≡ b

pub record Three (body : List ℕ) (a b c : ℕ) : Type 0 where
  pub len : length body ≡ 24
  pub first : number body ≡ a
  pub second : number (drop 8 body) ≡ b
  pub third : number (drop 16 body) ≡ c

pub record Four (body : List ℕ) (a b c d : ℕ) : Type 0 where
  pub len : length body ≡ 32
  pub first : number body ≡ a
  pub second : number (drop 8 body) ≡ b
  pub third : number (drop 16 body) ≡ c
  pub fourth : number (drop 24 body) ≡ d

read_all : (ws body : List ℕ) → AreWords ws → body ≡ words ws → words_from (length ws) 0 body ≡ ws
read_all ws body fits e = words_here ws [] body fits (e ∙ sym (append-nil (words ws)))

long : (ws body : List ℕ) → body ≡ words ws → length body ≡ 8 * length ws
long ws body e = ap length e ∙ length-words ws

pub one_again : (a : ℕ) (body : List ℕ) → a < 2 ^ 64 → body ≡ words (a ∷ []) → One body a
one_again a body f e =
    let r : words_from 1 0 body ≡ a ∷ [] = read_all (a ∷ []) body (f, tt) e in
    record { len = long (a ∷ []) body e; first = ap (λ l. nth l 0) r }

pub two_again : (a b : ℕ) (body : List ℕ) → a < 2 ^ 64 → b < 2 ^ 64 → body ≡ words (a ∷ b ∷ []) → Two body a b
two_again a b body f g e =
    let r : words_from 2 0 body ≡ a ∷ b ∷ [] = read_all (a ∷ b ∷ []) body (f, (g, tt)) e in
    record { len = long (a ∷ b ∷ []) body e; first = ap (λ l. nth l 0) r; second = ap (λ l. nth l 1) r }

pub three_again : (a b c : ℕ) (body : List ℕ) → a < 2 ^ 64 → b < 2 ^ 64 → c < 2 ^ 64 → body ≡ words (a ∷ b ∷ c ∷ []) → Three body a b c
three_again a b c body f g h e =
    let r : words_from 3 0 body ≡ a ∷ b ∷ c ∷ [] = read_all (a ∷ b ∷ c ∷ []) body (f, (g, (h, tt))) e in
    record { len = long (a ∷ b ∷ c ∷ []) body e; first = ap (λ l. nth l 0) r; second = ap (λ l. nth l 1) r; third = ap (λ l. nth l 2) r }

pub four_again : (a b c d : ℕ) (body : List ℕ) → a < 2 ^ 64 → b < 2 ^ 64 → c < 2 ^ 64 → d < 2 ^ 64 → body ≡ words (a ∷ b ∷ c ∷ d ∷ []) → Four body a b c d
four_again a b c d body f g h i e =
    let r : words_from 4 0 body ≡ a ∷ b ∷ c ∷ d ∷ [] = read_all (a ∷ b ∷ c ∷ d ∷ []) body (f, (g, (h, (i, tt)))) e in
    record { len = long (a ∷ b ∷ c ∷ d ∷ []) body e; first = ap (λ l. nth l 0) r; second = ap (λ l. nth l 1) r; third = ap (λ l. nth l 2) r; fourth = ap (λ l. nth l 3) r }
