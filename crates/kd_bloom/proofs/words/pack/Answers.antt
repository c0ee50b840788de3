-- The words so far and the bytes that are left are the bytes.
use Rattle.std.proofs.Common.{◌≡◌, append_assoc, sym, arith}
use Rattle.std.proofs.lemmas.Bool.{eqb-true, eqb-false}
use Rattle.kd_bloom.specs.Packed.{packed_word, unpacked}
use Rattle.kd_bloom.proofs.Packs.{word_of, unpacked_more, packs_last, packs_all}
use Rattle.kd_bloom.proofs.Joined.{front_below, back_below}
use Rattle.kd_bloom.proofs.words.pack.Goals as goal
use Rattle.kd_bloom.proofs.words.pack.Goals.{then-not-is_empty+in_ok-push-2, else-not-is_empty}

pub words-init : goal.words-init
unfolding unpacked
words-init c = rw c.in_ok-words.ensures.items

pub words-preserved : goal.words-preserved
words-preserved c =
    let spelled : packed_word c.read_u64.result ≡ c.split_at.result.0.now = word_of c.split_at.result.0.now c.read_u64.result c.split_at.ensures.front_len (front_below 256 _ _ _ (omega arith) c.split_at.ensures.by_index.0 (back_below 256 _ _ _ (sym c.words.invariant) (λ i. omega (arith, c.type_inv.bytes i)))) c.read_u64.ensures in
    rw (c.in_ok-push.ensures.items, unpacked_more, append_assoc, spelled, ← c.split_at.ensures.by_index.0) c.words.invariant

pub returns : goal.returns
returns c =
    elim c.if-not-is_empty.branch [
      | then-not-is_empty+in_ok-push-2 w ↦ rw (w.words-is, w.in_ok-push-2.ensures.items) (packs_last _ _ _ _ c.words.invariant (let none = eqb-false _ _ (sym w.if-not-is_empty.ensures) in omega arith) c.words-test.false w.last_word.ensures)
      | else-not-is_empty w ↦ rw w.words-is (packs_all _ _ _ c.words.invariant (eqb-true _ _ (sym w.if-not-is_empty.ensures)))
    ]
