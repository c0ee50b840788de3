-- What the first item says that says it, as the items are gone through.
use Rattle.std.proofs.Common.{◌≡◌, ℕ, ◌+◌, ◌<◌, true, false, List, [], ◌∷◌, ◌++◌, length, get_or, take, drop, Option, Some, None, is_some, refl, ap, sym, ◌∙◌}
use Rattle.std.specs.Prelude.{unwrap_or}
use Rattle.std.proofs.lemmas.List.{take_more, take-append-drop}
use Rattle.kd_model.proofs.Truth.{no_some}
use Rattle.kd_wire.specs.declared.item.WireItem.{WireItem}
use Rattle.kd_wire.specs.declared.item.WireItem.TheVariants as item
use Rattle.kd_said.specs.Said.{name_among}
use Rattle.kd_commands.specs.Items.{activator_name, description_in, destination_name, endpoint_in, filter_among}

-- the first of two that there is
abbrev pub first_of : {X : Type 0} → Option X → Option X → Option X
first_of None o = o
first_of (Some x) o = Some x

-- item by item, what the first says that says it
pub record IsFirstSaid {X : Type 0} (said : List WireItem → Option X) : Type 0 where
  pub nothing : said [] ≡ None
  pub step : (x : WireItem) (xs : List WireItem) → said (x ∷ xs) ≡ first_of (said (x ∷ [])) (said xs)

neither : {X : Type 0} (a b : Option X) → first_of a b ≡ None → (a ≡ None) × (b ≡ None)
neither None b e = (refl, e)
neither (Some x) b e = absurd cc

follows : {X : Type 0} (a b c : Option X) (m : X) → first_of a b ≡ Some m → (b ≡ Some m → c ≡ Some m) → first_of a c ≡ Some m
follows None b c m e more = more e
follows (Some x) b c m e more = e

said_behind : {X : Type 0} (said : List WireItem → Option X) → IsFirstSaid said → (xs ys : List WireItem) → said xs ≡ None → said (xs ++ ys) ≡ said ys
said_behind said f [] ys none = refl
said_behind said f (x ∷ xs) ys none =
    let both = neither (said (x ∷ [])) (said xs) (sym (f.step x xs) ∙ none) in
    f.step x (xs ++ ys) ∙ ap (λ (o : Option _). first_of o (said (xs ++ ys))) both.0 ∙ said_behind said f xs ys both.1

said_nothing : {X : Type 0} (said : List WireItem → Option X) → IsFirstSaid said → (m : X) → said [] ≡ Some m → ⊥
said_nothing said f m some = no_some (sym f.nothing ∙ some)

said_before : {X : Type 0} (said : List WireItem → Option X) → IsFirstSaid said → (xs ys : List WireItem) (m : X) → said xs ≡ Some m → said (xs ++ ys) ≡ Some m
said_before said f [] ys m some = absurd (said_nothing said f m some)
said_before said f (x ∷ xs) ys m some =
    f.step x (xs ++ ys) ∙ follows (said (x ∷ [])) (said xs) (said (xs ++ ys)) m (sym (f.step x xs) ∙ some) (λ e. said_before said f xs ys m e)

-- one item more that doesn't say it
pub said_stays : {X : Type 0} (said : List WireItem → Option X) → IsFirstSaid said → (xs : List WireItem) (x : WireItem) (o : Option X) → said (x ∷ []) ≡ None → said xs ≡ o → said (xs ++ x ∷ []) ≡ o
said_stays said f xs x None never is = said_behind said f xs (x ∷ []) is ∙ never
said_stays said f xs x (Some m) never is = said_before said f xs (x ∷ []) m is

-- it was said before
pub said_kept : {X : Type 0} (said : List WireItem → Option X) → IsFirstSaid said → (xs : List WireItem) (x : WireItem) (o : Option X) → is_some o ≡ true → said xs ≡ o → said (xs ++ x ∷ []) ≡ o
said_kept said f xs x None some is = absurd cc
said_kept said f xs x (Some m) some is = said_before said f xs (x ∷ []) m is

-- the first that says it
pub said_comes : {X : Type 0} (said : List WireItem → Option X) → IsFirstSaid said → (xs : List WireItem) (x : WireItem) (o : Option X) (v : X) → is_some o ≡ false → said xs ≡ o → said (x ∷ []) ≡ Some v → said (xs ++ x ∷ []) ≡ Some v
said_comes said f xs x None v none is here = said_behind said f xs (x ∷ []) is ∙ here
said_comes said f xs x (Some m) v none is here = absurd cc

-- where it is found
pub said_found : {X : Type 0} (said : List WireItem → Option X) → IsFirstSaid said → (is : List WireItem) (i : ℕ) (x : WireItem) (v : X) → i < length is → x ≡ get_or is i x → said (take i is) ≡ None → said (x ∷ []) ≡ Some v → Some v ≡ said is
said_found said f is i x v lt here none says =
    let more : take (i + 1) is ≡ take i is ++ x ∷ [] = take_more is i x lt ∙ ap (λ (y : WireItem). take i is ++ y ∷ []) (sym here) in
    let front : said (take (i + 1) is) ≡ Some v = ap said more ∙ said_comes said f (take i is) x None v refl none says in
    sym (ap said (sym (take-append-drop (i + 1) is)) ∙ said_before said f (take (i + 1) is) (drop (i + 1) is) v front)

pub said_not_yet : {X : Type 0} (said : List WireItem → Option X) → IsFirstSaid said → (is : List WireItem) (i : ℕ) (x : WireItem) → i < length is → x ≡ get_or is i x → said (take i is) ≡ None → said (x ∷ []) ≡ None → said (take (i + 1) is) ≡ None
said_not_yet said f is i x lt here none never =
    ap said (take_more is i x lt ∙ ap (λ (y : WireItem). take i is ++ y ∷ []) (sym here))
    ∙ said_stays said f (take i is) x None never none

-- ---- the name that a message is sent to, and its filter

name_step : (x : WireItem) (xs : List WireItem) → destination_name (x ∷ xs) ≡ first_of (destination_name (x ∷ [])) (destination_name xs)
name_step (item.DstName n) xs = refl
name_step x xs = refl

pub said_name : IsFirstSaid destination_name
said_name = record { nothing = refl; step = name_step }

filter_step : (x : WireItem) (xs : List WireItem) → filter_among (x ∷ xs) ≡ first_of (filter_among (x ∷ [])) (filter_among xs)
filter_step (item.Filter generation bits) xs = refl
filter_step x xs = refl

pub said_filter : IsFirstSaid filter_among
said_filter = record { nothing = refl; step = filter_step }

-- an item of another kind doesn't say it
pub no_name : (x : WireItem) → ((n : List ℕ) → x ≡ item.DstName n → ⊥) → destination_name (x ∷ []) ≡ None
no_name (item.DstName n) never = absurd (never n refl)
no_name x never = refl

pub no_filter : (x : WireItem) → ((generation : ℕ) (bits : List ℕ) → x ≡ item.Filter generation bits → ⊥) → filter_among (x ∷ []) ≡ None
no_filter (item.Filter generation bits) never = absurd (never generation bits refl)
no_filter x never = refl

-- ---- the endpoint that a connection comes by, what it calls itself, and the name of an activator

endpoint_step : (x : WireItem) (xs : List WireItem) → endpoint_in (x ∷ xs) ≡ first_of (endpoint_in (x ∷ [])) (endpoint_in xs)
endpoint_step (item.Endpoint n) xs = refl
endpoint_step x xs = refl

pub said_endpoint : IsFirstSaid endpoint_in
said_endpoint = record { nothing = refl; step = endpoint_step }

description_step : (x : WireItem) (xs : List WireItem) → description_in (x ∷ xs) ≡ first_of (description_in (x ∷ [])) (description_in xs)
description_step (item.Description n) xs = refl
description_step x xs = refl

pub said_description : IsFirstSaid description_in
said_description = record { nothing = refl; step = description_step }

pub no_label : (x : WireItem) → ((n : List ℕ) → x ≡ item.Endpoint n → ⊥) → endpoint_in (x ∷ []) ≡ None
no_label (item.Endpoint n) never = absurd (never n refl)
no_label x never = refl

pub no_description : (x : WireItem) → ((n : List ℕ) → x ≡ item.Description n → ⊥) → description_in (x ∷ []) ≡ None
no_description (item.Description n) never = absurd (never n refl)
no_description x never = refl

name_among_step : (x : WireItem) (xs : List WireItem) → name_among (x ∷ xs) ≡ first_of (name_among (x ∷ [])) (name_among xs)
name_among_step (item.Name n) xs = refl
name_among_step x xs = refl

pub said_name_among : IsFirstSaid name_among
said_name_among = record { nothing = refl; step = name_among_step }

pub no_name_among : (x : WireItem) → ((n : List ℕ) → x ≡ item.Name n → ⊥) → name_among (x ∷ []) ≡ None
no_name_among (item.Name n) never = absurd (never n refl)
no_name_among x never = refl

pub name_of_activator : (is : List WireItem) → activator_name is ≡ unwrap_or (name_among is) []
name_of_activator [] = refl
name_of_activator (item.Name n ∷ is) = refl
name_of_activator (x ∷ is) = name_of_activator is
