use Rattle.std.proofs.Common.{arith, rules}
use Rattle.kd_name.proofs.Counted.{stops, ends}
use Rattle.kd_name.proofs.element.element_count.Goals as goal

pub returns-then-not-is_begun : goal.returns-then-not-is_begun
returns-then-not-is_begun c = stops c.loop-byte.is_begun c.loop-byte.dots c.loop-byte.byte-index _ _ (omega arith) c.loop-byte.invariant.1 (search rules)

pub returns-then-not-is_name_byte : goal.returns-then-not-is_name_byte
returns-then-not-is_name_byte c = stops c.loop-byte.is_begun c.loop-byte.dots c.loop-byte.byte-index _ _ (omega arith) c.loop-byte.invariant.1 (search rules)

pub returns-then-is_digit : goal.returns-then-is_digit
returns-then-is_digit c = stops c.loop-byte.is_begun c.loop-byte.dots c.loop-byte.byte-index _ _ (omega arith) c.loop-byte.invariant.1 (search rules)

pub returns-then-is_begun : goal.returns-then-is_begun
returns-then-is_begun c = ends c.loop-byte.is_begun c.loop-byte.dots c.loop-byte.byte-index _ _ (omega arith) c.loop-byte.invariant.1 (search rules)

pub returns-else-is_begun : goal.returns-else-is_begun
returns-else-is_begun c = ends c.loop-byte.is_begun c.loop-byte.dots c.loop-byte.byte-index _ _ (omega arith) c.loop-byte.invariant.1 (search rules)
