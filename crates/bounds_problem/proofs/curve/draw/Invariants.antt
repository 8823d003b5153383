-- `bounds_problem::curve::draw` meets its contract. The invariant: the curve is drawn up to stop k - 1. Assumes nothing.
use mathlib.Core.Path.{◌≡◌}
use Prim.Native.Nat.{ℕ, ◌+◌, ◌-◌, ◌<◌}
use lib.IntN.{pos}
use lib.ListN.{length, get_or}
use Rattle.bounds_problem.specs.inner.Heights.{height, Drawn, Drawing}
use Rattle.bounds_problem.proofs.curve.draw.Given as goal

abbrev pub invariant-loop-k : goal.invariant-loop-k
invariant-loop-k l =
    (l.last ≡ get_or l.splits (l.k - 1) 0) × (l.level ≡ height (get_or l.freights (l.k - 1) (pos 0))) × (length l.to ≡ length l.initial.to)
    × ((d : Drawing l.splits l.freights l.count) → Drawn d.curve (get_or l.splits 0 0) l.last l.to)
    × ((j : ℕ) → l.last < j + get_or l.splits 0 0 → get_or l.to j 0 ≡ get_or l.initial.to j 0)
