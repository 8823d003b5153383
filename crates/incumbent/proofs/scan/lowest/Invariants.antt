-- `incumbent::scan::lowest` meets its contract. What the loop holds is said of every incumbent of the total that it starts from. Assumes nothing.
use mathlib.Core.Path.{◌≡◌}
use Prim.Native.Nat.{◌+◌, ◌*◌}
use Rattle.incumbent.specs.inner.LeastOfFour.{Lowest}
use Rattle.incumbent.specs.declared.Incumbent.{Incumbent}
use Rattle.incumbent.proofs.scan.lowest.Given as goal

abbrev pub invariant-loop-block : goal.invariant-loop-block
invariant-loop-block l =
    (l.value + l.loss * (4 * l.block) ≡ l.freight + l.gain * (4 * l.block))
    × ((b : Incumbent) → b.total ≡ l.initial.held.total → Lowest l.table l.y l.freight l.gain l.loss b (4 * l.block) l.held)
