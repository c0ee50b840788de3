-- The parts of a frame that has no refusal are those of a command.
use Rattle.std.proofs.Common.{◌≡◌, ℕ, suc, ◌^◌, ◌<◌, ◌≤◌, Bool, true, false, cond, not, ◌&&◌, ◌||◌, eqb, ltb, leb, List, [], ◌∷◌, map, None, refl, sym, ap, ◌∙◌, eq-eqb, arith}
use Rattle.std.specs.List.{list_any}
use Rattle.std.proofs.lemmas.Bool.{eqb-true, ltb-false, leb-true}
use Rattle.kd_model.proofs.Truth.{not_false, or_false, both_true, both_false}
use Rattle.kd_model.specs.Words.{first_that_holds}
use Rattle.kd_types.specs.declared.refusal.Refusal.{Refusal}
use Rattle.kd_types.specs.declared.refusal.Refusal.TheVariants.{BadFlags, MissingItem, DoubledItem}
use Rattle.kd_wire.specs.declared.opcode.Opcode.{Opcode}
use Rattle.kd_wire.specs.declared.opcode.Opcode.TheVariants.{Hello, Send, Recv, Read, Free, Byebye, Close, NameAcquire, NameRelease, NameList, MatchAdd, MatchRemove, PolicySet, EndpointMake, MakeBus, Tick, Seal, Unseal, Enter}
use Rattle.kd_wire.specs.declared.item.WireItem.{WireItem}
use Rattle.kd_wire.specs.Items.{kind_of}
use Rattle.kd_wire.specs.Kinds.{kinds_of, single_kinds, needed_kinds, nth, is_one_of, how_many, has_holder_flag}
use Rattle.kd_model.specs.Filters.{is_bloom_size, is_hash_count}
use Rattle.kd_wire.specs.Refusals.{has_double, lacks_one, has_empty_group, has_unknown_flag, has_bad_word, is_bad_access, is_pool_of, is_pool_size, is_two_kinds, flaw_of, IsSized, AreParts}
use Rattle.kd_wire.proofs.ItemLaws.{AreOf}

none_holds : (a b c : Bool) (x y z : Refusal) → first_that_holds ((a, x) ∷ (b, y) ∷ (c, z) ∷ []) ≡ None → (a ≡ false) × (b ≡ false) × (c ≡ false)
none_holds true b c x y z e = absurd cc
none_holds false true c x y z e = absurd cc
none_holds false false true x y z e = absurd cc
none_holds false false false x y z e = (refl, refl, refl)

-- a frame without a flaw
pub record Flawless (opcode : Opcode) (flags : ℕ) (words : List ℕ) (items : List WireItem) : Type 0 where
  pub single : has_double (single_kinds opcode flags) items ≡ false
  pub needed : lacks_one (needed_kinds opcode flags words) items ≡ false
  pub groups : has_empty_group (kinds_of opcode flags) items ≡ false
  pub known : has_unknown_flag opcode flags ≡ false
  pub within : has_bad_word opcode flags words ≡ false
  pub access : list_any is_bad_access items ≡ false

pub flawless : (opcode : Opcode) (flags : ℕ) (words : List ℕ) (items : List WireItem) → flaw_of opcode flags words items ≡ None → Flawless opcode flags words items
unfolding flaw_of
flawless opcode flags words items e =
    let a = none_holds (has_double (single_kinds opcode flags) items) (lacks_one (needed_kinds opcode flags words) items || has_empty_group (kinds_of opcode flags) items) (has_unknown_flag opcode flags || has_bad_word opcode flags words || list_any is_bad_access items) DoubledItem MissingItem BadFlags e in
    let b = both_false (lacks_one (needed_kinds opcode flags words) items) (has_empty_group (kinds_of opcode flags) items) a.1 in
    let c = both_false (has_unknown_flag opcode flags || has_bad_word opcode flags words) (list_any is_bad_access items) a.2 in
    let d = both_false (has_unknown_flag opcode flags) (has_bad_word opcode flags words) c.0 in
    record { single = a.0; needed = b.0; groups = b.1; known = d.0; within = d.1; access = c.1 }

no_flag : (flags : ℕ) → ltb 0 flags ≡ false → flags ≡ 0
no_flag flags e = let le : flags ≤ 0 = ltb-false 0 flags e in omega arith

at_most : (most n : ℕ) → ltb most n ≡ false → n ≤ most
at_most most n e = ltb-false most n e

-- of no kinds there are no items
none_at_all : (items : List WireItem) → AreOf [] items → items ≡ []
none_at_all [] taken = refl
none_at_all (item ∷ items) taken = absurd (let h : false ≡ true = taken.0 in cc)

is_kind : (kind : ℕ) (item : WireItem) → is_one_of (kind ∷ []) (kind_of item) ≡ true → kind_of item ≡ kind
is_kind kind item e =
    let t : (eqb kind (kind_of item) || false) ≡ true = e in
    sym (eqb-true kind (kind_of item) (or_false (eqb kind (kind_of item)) ∙ t))

-- one item alone, where all are of one kind of which one must and no more than one may stand
alone : (kind : ℕ) (items : List WireItem) → AreOf (kind ∷ []) items → has_double (kind ∷ []) items ≡ false → lacks_one (kind ∷ []) items ≡ false → map kind_of items ≡ kind ∷ []
alone kind [] taken single needed = absurd cc
alone kind (x ∷ []) taken single needed = ap (λ n. n ∷ []) (is_kind kind x taken.0)
alone kind (x ∷ y ∷ items) taken single needed =
    let a : (eqb (kind_of x) kind) ≡ true = eq-eqb (kind_of x) kind (is_kind kind x taken.0) in
    let b : (eqb (kind_of y) kind) ≡ true = eq-eqb (kind_of y) kind (is_kind kind y taken.1.0) in
    let two : how_many kind (x ∷ y ∷ items) ≡ suc (suc (how_many kind items)) = rw (a, b) refl in
    let one : (ltb 1 (how_many kind (x ∷ y ∷ items)) || false) ≡ false = single in
    let few : how_many kind (x ∷ y ∷ items) ≤ 1 = ltb-false _ _ (both_false _ _ one).0 in
    absurd (omega (arith, two, few))

pool_fits : (holder : Bool) (pool : ℕ) → cond holder (eqb pool 0) (is_pool_size pool) ≡ true → pool < 2 ^ 32
pool_fits true pool e = let z : pool ≡ 0 = eqb-true pool 0 e in omega arith
pool_fits false pool e =
    let a = both_true (leb 256 pool && leb pool 1048576) _ e in
    let b = both_true (leb 256 pool) (leb pool 1048576) a.0 in
    let small : pool ≤ 1048576 = leb-true _ _ b.1 in
    omega arith

bloom_fits : (size : ℕ) → is_bloom_size size ≡ true → size < 2 ^ 32
bloom_fits size e =
    let a = both_true (leb 8 size && leb size 512) _ e in
    let b = both_true (leb 8 size) (leb size 512) a.0 in
    let small : size ≤ 512 = leb-true _ _ b.1 in
    omega arith

hashes_fit : (hashes : ℕ) → is_hash_count hashes ≡ true → hashes < 2 ^ 32
hashes_fit hashes e =
    let a = both_true (leb 1 hashes) (leb hashes 8) e in
    let small : hashes ≤ 8 = leb-true _ _ a.1 in
    omega arith

hello_fits : (flags : ℕ) (words : List ℕ) → has_bad_word Hello flags words ≡ false → nth words 0 < 2 ^ 32
hello_fits flags words e =
    let a = both_false (is_two_kinds flags || not (is_pool_of flags (nth words 0)) || ltb 15 (nth words 1)) _ e in
    let b = both_false (is_two_kinds flags || not (is_pool_of flags (nth words 0))) _ a.0 in
    let c = both_false (is_two_kinds flags) (not (is_pool_of flags (nth words 0))) b.0 in
    pool_fits (has_holder_flag flags) (nth words 0) (not_false _ c.1)

enter_fits : (flags : ℕ) (words : List ℕ) → has_bad_word Enter flags words ≡ false → (nth words 0 < 2 ^ 32) × (nth words 1 < 2 ^ 32) × (nth words 2 ≤ 1)
enter_fits flags words e =
    let a = both_false (ltb 4294967295 (nth words 0) || ltb 4294967295 (nth words 1)) (ltb 1 (nth words 2)) e in
    let b = both_false (ltb 4294967295 (nth words 0)) (ltb 4294967295 (nth words 1)) a.0 in
    let uid : nth words 0 ≤ 4294967295 = ltb-false _ _ b.0 in
    let gid : nth words 1 ≤ 4294967295 = ltb-false _ _ b.1 in
    (omega (arith, uid), omega (arith, gid), ltb-false _ _ a.1)

bus_fits : (flags : ℕ) (words : List ℕ) → has_bad_word MakeBus flags words ≡ false → (nth words 0 < 2 ^ 32) × (nth words 1 < 2 ^ 32)
bus_fits flags words e =
    let a = both_false (not (is_bloom_size (nth words 0))) (not (is_hash_count (nth words 1))) e in
    (bloom_fits (nth words 0) (not_false _ a.0), hashes_fit (nth words 1) (not_false _ a.1))

pub parts_fit : (opcode : Opcode) (flags : ℕ) (words : List ℕ) (items : List WireItem) → AreOf (kinds_of opcode flags) items → IsSized opcode words items → Flawless opcode flags words items → AreParts opcode flags words items
parts_fit Hello flags words items taken sized f = hello_fits flags words f.within
parts_fit Send flags words items taken sized f = (no_flag flags f.known, sized)
parts_fit Recv flags words items taken sized f = none_at_all items taken
parts_fit Read flags words items taken sized f = (at_most 1 flags f.known, none_at_all items taken)
parts_fit Free flags words items taken sized f = (no_flag flags f.known, none_at_all items taken)
parts_fit Byebye flags words items taken sized f = (no_flag flags f.known, none_at_all items taken)
parts_fit Close flags words items taken sized f = (no_flag flags f.known, none_at_all items taken)
parts_fit NameAcquire flags words items taken sized f = alone 6 items taken f.single f.needed
parts_fit NameRelease flags words items taken sized f = (no_flag flags f.known, alone 6 items taken f.single f.needed)
parts_fit NameList flags words items taken sized f = none_at_all items taken
parts_fit MatchAdd flags words items taken sized f = at_most 1 flags f.known
parts_fit MatchRemove flags words items taken sized f = (no_flag flags f.known, none_at_all items taken)
parts_fit PolicySet flags words items taken sized f = no_flag flags f.known
parts_fit EndpointMake flags words items taken sized f = no_flag flags f.known
parts_fit MakeBus flags words items taken sized f = let b = bus_fits flags words f.within in (no_flag flags f.known, b.0, b.1, alone 8 items taken f.single f.needed)
parts_fit Tick flags words items taken sized f = (no_flag flags f.known, none_at_all items taken)
parts_fit Seal flags words items taken sized f = (no_flag flags f.known, alone 1 items taken f.single f.needed)
parts_fit Unseal flags words items taken sized f = (no_flag flags f.known, none_at_all items taken)
parts_fit Enter flags words items taken sized f = let e = enter_fits flags words f.within in (no_flag flags f.known, e.0, e.1, e.2, none_at_all items taken)
