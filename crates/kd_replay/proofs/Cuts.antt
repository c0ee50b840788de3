-- The frame at the front of some bytes.
use Rattle.std.proofs.Common.{◌≡◌, ℕ, ◌≤◌, ◌%◌, false, ◌||◌, not, eqb, ltb, List, ◌++◌, length, take, refl, sym, ap, ◌∙◌, length-append, arith}
use Rattle.std.proofs.lemmas.Bool.{ltb-false, le-ltb}
use Rattle.std.proofs.lemmas.List.{length-take-le}
use Rattle.byteorder.specs.Numbers.{little_from-append, little_from-take}
use Rattle.kd_item.specs.Spelling.{number}
use Rattle.kd_wire.specs.declared.frame.Cut.TheVariants.{Frame, Need, Bad}
use Rattle.kd_wire.specs.Frames.{cut_of, is_no_size}
use Rattle.kd_model.proofs.Truth.{both_false}
use Rattle.kd_wire.proofs.Accepted.{need_not, bad_not, frame_size}
use Rattle.kd_replay.specs.Frames.{IsFrame, HasNoFrame}

-- what a frame of this size at the front says of the bytes
pub record Begins (bytes : List ℕ) (n : ℕ) : Type 0 where
  pub long : 8 ≤ length bytes
  pub sized : is_no_size n ≡ false
  pub inside : n ≤ length bytes
  pub is : number bytes ≡ n

begins : (bytes : List ℕ) (n : ℕ) → cut_of bytes ≡ Frame n → Begins bytes n
begins bytes n e =
    let a = need_not (ltb (length bytes) 8) 8 _ n e in
    let b = bad_not (is_no_size (number bytes)) _ n a.1 in
    let c = need_not (ltb (length bytes) (number bytes)) (number bytes) (Frame (number bytes)) n b.1 in
    let is : number bytes ≡ n = frame_size (number bytes) n c.1 in
    let inside : number bytes ≤ length bytes = ltb-false _ _ c.0 in
    record { long = ltb-false _ _ a.0; sized = rw (← is) b.0; inside = omega arith; is = is }

built : (bytes : List ℕ) (n : ℕ) → Begins bytes n → cut_of bytes ≡ Frame n
built bytes n b =
    let long : ltb (length bytes) 8 ≡ false = le-ltb _ _ b.long in
    let inside : ltb (length bytes) n ≡ false = le-ltb _ _ b.inside in
    rw (b.is, long, b.sized, inside) refl

least : (n : ℕ) → is_no_size n ≡ false → 32 ≤ n
least n e =
    let x = both_false (ltb n 32 || ltb 131072 n) (not (eqb (n % 8) 0)) e in
    let y = both_false (ltb n 32) (ltb 131072 n) x.0 in
    ltb-false _ _ y.0

number-append : (frame rest : List ℕ) → 8 ≤ length frame → number (frame ++ rest) ≡ number frame
unfolding number
number-append frame rest le = little_from-append 8 frame rest le

number-take : (n : ℕ) (bytes : List ℕ) → 8 ≤ n → number (take n bytes) ≡ number bytes
unfolding number
number-take n bytes le = little_from-take 0 8 n bytes le

-- a size at the front is that of a whole frame
pub record Stands (bytes : List ℕ) (n : ℕ) : Type 0 where
  pub frame : IsFrame (take n bytes)
  pub inside : n ≤ length bytes
  pub least : 32 ≤ n

pub front_frame : (bytes : List ℕ) (n : ℕ) → cut_of bytes ≡ Frame n → Stands bytes n
front_frame bytes n e =
    let b = begins bytes n e in
    let low : 32 ≤ n = least n b.sized in
    let len : length (take n bytes) ≡ n = length-take-le n bytes b.inside in
    let front : Begins (take n bytes) n = record { long = omega (arith, len, low); sized = b.sized; inside = omega (arith, len); is = number-take n bytes (omega (arith, low)) ∙ b.is } in
    record { frame = built (take n bytes) n front ∙ ap Frame (sym len); inside = b.inside; least = low }

-- bytes at whose front the test finds none
pub no_frame : (bytes : List ℕ) → ((n : ℕ) → cut_of bytes ≡ Frame n → ⊥) → HasNoFrame bytes
no_frame bytes never = λ frame rest f e.
    let b = begins frame (length frame) f in
    let len : length bytes ≡ length (frame ++ rest) = ap length e in
    let whole : Begins bytes (length frame) = record { long = omega (arith, len, length-append frame rest, b.long); sized = b.sized; inside = omega (arith, len, length-append frame rest); is = ap number e ∙ number-append frame rest b.long ∙ b.is } in
    never (length frame) (built bytes (length frame) whole)

pub need_no_frame : (bytes : List ℕ) (n : ℕ) → cut_of bytes ≡ Need n → HasNoFrame bytes
need_no_frame bytes n e = no_frame bytes (λ m f. let both : Need n ≡ Frame m = sym e ∙ f in absurd cc)

pub bad_no_frame : (bytes : List ℕ) → cut_of bytes ≡ Bad → HasNoFrame bytes
bad_no_frame bytes e = no_frame bytes (λ m f. let both : Bad ≡ Frame m = sym e ∙ f in absurd cc)
