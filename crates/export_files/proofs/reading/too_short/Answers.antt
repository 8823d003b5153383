use native.Mathlib.Nat.{mul-le-mul}
use native.Mathlib.Omega.{arith}
use Rattle.export_files.proofs.Readings.{few_costs, few_supplies, few_demands, by_table}
use Rattle.export_files.proofs.reading.too_short.Goals as goal

-- src/reading.rt:45:16
pub overflow_mul-m : goal.overflow_mul-m
overflow_mul-m c = let h = mul-le-mul c.requires.0 c.requires.1 in record { fits = omega (arith, h) }

-- src/reading.rt:46:9
pub returns-then-costs-m : goal.returns-then-costs-m
returns-then-costs-m c = few_costs _ _ _ _ _ _ _ c.if-costs-m.true

-- src/reading.rt:49:9
pub returns-then-supplies-m : goal.returns-then-supplies-m
returns-then-supplies-m c = few_supplies _ _ _ _ _ _ _ c.if-costs-m.false c.if-supplies-m.true

-- src/reading.rt:52:9
pub returns-then-demands-n : goal.returns-then-demands-n
returns-then-demands-n c = few_demands _ _ _ _ _ _ _ c.if-costs-m.false c.if-supplies-m.false c.if-demands-n.true

-- src/reading.rt:33:1
pub returns : goal.returns
returns c = by_table _ _ _ _ _ _ _ _ c.if-costs-m.false c.if-supplies-m.false c.if-demands-n.false c.min.ensures
