-- The bytes and zeros after them.
use Rattle.std.proofs.Common.{◌≡◌, ◌∙◌, ◌-◌, ◌++◌, arith, length, replicate, ap, length-append, drop, ℕ, List}
use Rattle.std.proofs.lemmas.List.{length-replicate, drop-replicate}
use Rattle.byteorder.specs.Endian.{little_number}
use Rattle.kd_bloom.proofs.Packs.{word_of, filled_below}
use Rattle.kd_bloom.proofs.words.last_word.Goals as goal

pub returns : goal.returns
returns c =
    let e : c.read_u64.result ≡ little_number 8 (c.copy_from_slice.new.self ++ drop (length c.args.bytes.now) (replicate {A = ℕ} 8 0)) = c.read_u64.ensures in
    let filled : c.copy_from_slice.new.self ++ drop (length c.args.bytes.now) (replicate {A = ℕ} 8 0) ≡ c.args.bytes.now ++ replicate (8 - length c.args.bytes.now) 0 =
    ap (λ (l : List ℕ). l ++ drop (length c.args.bytes.now) (replicate {A = ℕ} 8 0)) c.copy_from_slice.ensures.after ∙ ap (c.args.bytes.now ++◌) (drop-replicate (length c.args.bytes.now) 8 0) in
    word_of _ c.read_u64.result (omega (arith, length-append c.args.bytes.now (replicate (8 - length c.args.bytes.now) 0), length-replicate {A = ℕ} (8 - length c.args.bytes.now) 0)) (filled_below _ _ (λ i. omega (arith, c.type_inv.bytes i))) (e ∙ ap (little_number 8) filled)
