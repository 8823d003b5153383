-- `incumbent::scan::ones` meets its contract. Assumes nothing.
use Prim.Native.Nat.{◌+◌, ◌-◌}
use Rattle.incumbent.specs.inner.Scan.{Scanning}
use Rattle.incumbent.proofs.scan.ones.Given as goal

abbrev pub invariant-loop-split : goal.invariant-loop-split
invariant-loop-split l = Scanning l.table l.y l.freight l.gain l.loss l.initial.held (l.split - (l.y + 1)) l.value l.held
