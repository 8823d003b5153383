-- `ratetable::fill` meets its contract. Assumes nothing.
use mathlib.Core.Path.{ap, ◌∙◌}
use mathlib.Core.List.{List, ◌++◌}
use Prim.Native.Nat.{ℕ, ◌+◌}
use native.Mathlib.Omega.{arith}
use lib.ListN.{drop}
use Rattle.ratetable.proofs.Filling.{table_takes, too_much, too_short, filled}
use Rattle.ratetable.proofs.fill.Goals as goal

pub returns-then-most-gt4000 : goal.returns-then-most-gt4000
returns-then-most-gt4000 c = too_much _ _ c.if-most-gt4000.true

pub returns-then-to-count : goal.returns-then-to-count
returns-then-to-count c = too_short _ _ c.if-most-gt4000.false c.if-to-count.true

pub returns : goal.returns
returns c =
    let e = c.copy_from_slice.ensures.after ∙ table_takes c.rates.ensures (c.args.most + 1) (omega arith) in
    filled _ _ _ c.if-most-gt4000.false c.if-to-count.false (ap (λ (a : List ℕ). a ++ drop (c.args.most + 1) c.args.to.now) e)
