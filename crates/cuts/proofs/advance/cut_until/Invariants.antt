-- `cuts::advance::cut_until` meets its contract. Assumes nothing.
use mathlib.Core.Path.{◌≡◌}
use lib.ListN.{length}
use Rattle.cuts.specs.inner.Advance.{Advanced}
use Rattle.cuts.proofs.advance.cut_until.Given as goal

abbrev pub invariant-loop : goal.invariant-loop
invariant-loop l =
    (length l.prev ≡ 96) × Advanced l.lanes.m l.lanes.n l.lanes.cost.now l.table l.columns l.initial.flow.x l.initial.flow.serves l.initial.flow.pot l.flow.serves l.flow.pot ×
    (l.flow.x ≡ l.initial.flow.x)
