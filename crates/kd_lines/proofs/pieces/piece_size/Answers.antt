use Rattle.std.proofs.Common.{◌≡◌, ◌≢◌, ◌<◌, ◌≤◌, ◌%◌, ℕ, length, rules, sym, ap, ◌∙◌, arith}
use Rattle.kd_item.specs.Spelling.{number}
use Rattle.kd_lines.specs.Pieces.{most_of}
use Rattle.kd_lines.proofs.Cuts.{front_piece, no_piece}
use Rattle.kd_lines.proofs.pieces.piece_size.Goals as goal

pub returns-then-size-lt32-clause-none : goal.returns-then-size-lt32-clause-none
returns-then-size-lt32-clause-none c =
    let is : c.word_at-size.result ≡ number c.args.bytes.now = c.word_at-size.ensures in
    let small : c.word_at-size.result < 32 = search rules in
    no_piece c.args.kind c.args.bytes.now (λ n b. omega (arith, is, small, b.is, b.low))

pub returns-then-size-most_of-clause-none : goal.returns-then-size-most_of-clause-none
returns-then-size-most_of-clause-none c =
    let is : c.word_at-size.result ≡ number c.args.bytes.now = c.word_at-size.ensures in
    let most : c.most_of.result ≡ most_of c.args.kind = c.most_of.ensures in
    let great : c.most_of.result < c.word_at-size.result = search rules in
    no_piece c.args.kind c.args.bytes.now (λ n b. omega (arith, is, most, great, b.is, b.high))

pub returns-then-size-ne0-clause-none : goal.returns-then-size-ne0-clause-none
returns-then-size-ne0-clause-none c =
    let is : c.word_at-size.result ≡ number c.args.bytes.now = c.word_at-size.ensures in
    let part : c.word_at-size.result % 8 ≢ 0 = search rules in
    no_piece c.args.kind c.args.bytes.now (λ n b. part (ap (λ (m : ℕ). m % 8) (is ∙ b.is) ∙ b.whole))

pub returns-then-bytes-size-clause-none : goal.returns-then-bytes-size-clause-none
returns-then-bytes-size-clause-none c =
    let is : c.word_at-size.result ≡ number c.args.bytes.now = c.word_at-size.ensures in
    let short : length c.args.bytes.now < c.word_at-size.result = search rules in
    no_piece c.args.kind c.args.bytes.now (λ n b. omega (arith, is, short, b.is, b.inside))

pub returns-clause-piece : goal.returns-clause-piece
returns-clause-piece c =
    let is : c.word_at-size.result ≡ number c.args.bytes.now = c.word_at-size.ensures in
    let most : c.most_of.result ≡ most_of c.args.kind = c.most_of.ensures in
    let great : c.word_at-size.result ≤ c.most_of.result = search rules in
    front_piece c.args.kind c.args.bytes.now c.word_at-size.result (record {
      long = search rules;
      low = search rules;
      high = rw (← most) great;
      whole = search rules;
      inside = search rules;
      is = sym is;
    })
