-- `flow_case::rows::lanes_into` meets its contract. Assumes nothing.
use mathlib.Core.Path.{refl}
use native.Mathlib.Omega.{arith}
use Rattle.flow_case.specs.inner.Build.{lane_in}
use Rattle.flow_case.proofs.RowLoops.{put_none, put_next}
use Rattle.flow_case.proofs.rows.lanes_into.Goals as goal

pub loop-j-init : goal.loop-j-init
loop-j-init c = put_none 0 (lane_in c.args.starts.now c.args.ends.now c.args.id) c.args.at c.args.to.now

pub loop-j-preserved : goal.loop-j-preserved
loop-j-preserved c =
    put_next 0 (lane_in c.args.starts.now c.args.ends.now c.args.id) c.args.at c.args.to.now
    c.loop-j.j _ _ _ refl (omega (arith, c.loop-j-test.true, c.requires.1, c.requires.2)) c.lane.ensures
    c.loop-j.invariant
