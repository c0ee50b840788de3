-- The frame or reply at the front of some bytes.
use Rattle.std.proofs.Common.{◌≡◌, ℕ, ◌+◌, ◌≤◌, ◌%◌, List, ◌++◌, length, take, sym, ap, ◌∙◌, length-append, arith}
use Rattle.std.proofs.lemmas.List.{length-take-le}
use Rattle.byteorder.specs.Numbers.{little_from-append, little_from-take}
use Rattle.kd_item.specs.Spelling.{number}
use Rattle.kd_lines.specs.declared.kind.Kind.{Kind}
use Rattle.kd_lines.specs.Pieces.{most_of, IsPiece, HasNoPiece}

-- what a piece of this size at the front says of the bytes
pub record Begins (kind : Kind) (bytes : List ℕ) (n : ℕ) : Type 0 where
  pub long : 8 ≤ length bytes
  pub low : 32 ≤ n
  pub high : n ≤ most_of kind
  pub whole : n % 8 ≡ 0
  pub inside : n ≤ length bytes
  pub is : number bytes ≡ n

number-append : (piece rest : List ℕ) → 8 ≤ length piece → number (piece ++ rest) ≡ number piece
unfolding number
number-append piece rest le = little_from-append 8 piece rest le

number-take : (n : ℕ) (bytes : List ℕ) → 8 ≤ n → number (take n bytes) ≡ number bytes
unfolding number
number-take n bytes le = little_from-take 0 8 n bytes le

pub front_piece : (kind : Kind) (bytes : List ℕ) (n : ℕ) → Begins kind bytes n → IsPiece kind (take n bytes)
front_piece kind bytes n b =
    let len : length (take n bytes) ≡ n = length-take-le n bytes b.inside in
    record {
      size = number-take n bytes (omega (arith, b.low)) ∙ b.is ∙ sym len;
      low = rw len b.low;
      high = rw len b.high;
      whole = rw len b.whole;
    }

-- bytes at whose front the test finds none
pub no_piece : (kind : Kind) (bytes : List ℕ) → ((n : ℕ) → Begins kind bytes n → ⊥) → HasNoPiece kind bytes
no_piece kind bytes never = λ piece rest p e.
    let len : length bytes ≡ length piece + length rest = ap length e ∙ length-append piece rest in
    never (length piece) (record {
      long = omega (arith, len, p.low);
      low = p.low;
      high = p.high;
      whole = p.whole;
      inside = omega (arith, len);
      is = ap number e ∙ number-append piece rest (omega (arith, p.low)) ∙ p.size;
    })
