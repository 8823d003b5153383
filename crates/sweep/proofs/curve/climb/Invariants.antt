-- `sweep::curve::climb` meets its contract. Assumes nothing.
use Rattle.std.proofs.Common.{◌≡◌, ◌-◌, ◌≤◌, length}
use Rattle.residual.specs.inner.LanesInUse.{Covers}
use Rattle.cuts.specs.inner.Tables.{Tables}
use Rattle.sweep.specs.inner.StopsPassed.{Climbing}
use Rattle.sweep.specs.inner.Climb.{curve_from, StretchedTo, Standing}
use Rattle.sweep.proofs.curve.climb.Given as goal

abbrev pub invariant-loop-y : goal.invariant-loop-y
invariant-loop-y l =
    Standing l.lanes.m l.lanes.n l.lanes.cost.now l.lanes.cap.now l.initial.flow.x l.flow.x l.flow.pot l.kept l.prices l.y l.value l.best ×
    Climbing (curve_from l.lanes.m l.lanes.n l.lanes.cost.now l.lanes.cap.now l.initial.flow.x) l.table l.added l.initial.splits l.initial.freights l.lo l.hi l.splits l.freights l.y l.value l.count l.rise l.fall l.best × (l.rise ≤ 800000000) ×
    (l.fall ≤ 800000000) × Covers l.lanes.m l.lanes.n l.flow.x l.flow.serves × StretchedTo l.lanes.m l.lanes.n l.lanes.cost.now l.lanes.cap.now l.initial.flow.x l.lo l.hi l.y l.flow.x × Tables l.wide l.lanes.m l.lanes.n l.lanes.cost.now l.lanes.cap.now l.flow.x l.costs.ahead l.costs.columns × (length l.prev ≡ 96)

abbrev pub decreases-loop-y : goal.decreases-loop-y
decreases-loop-y l =
    l.hi - l.y
