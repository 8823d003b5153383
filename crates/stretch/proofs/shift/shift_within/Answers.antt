-- `stretch::shift::shift_within` meets its contract. Assumes nothing.
use native.Mathlib.Omega.{arith}
use Rattle.augment.proofs.PathWalk.{pass_node, pass_prev, pass_able, pass_back, walked_none}
use Rattle.augment.proofs.LaneMarks.{trail_node, trail_next, marks_back, marks_none}
use Rattle.stretch.proofs.TableArcs.{lane_ends, tables_arc}
use Rattle.stretch.proofs.shift.shift_within.Goals as goal

pub loop-left-init : goal.loop-left-init
loop-left-init c = record { able = c.requires.walkable; rest = λ z w. w; trail = c.requires.trail; marked = λ z w. w; tables = λ m n t. t }

pub offset_bounds-prev-v : goal.offset_bounds-prev-v
offset_bounds-prev-v c =
    omega (
      arith,
      (pass_node c.args.prev.now c.args.amount c.loop-left.v c.loop-left.x
          c.loop-left.left c.loop-left-test.true c.loop-left.invariant.able).0,
    )

pub bounds-prev-v : goal.bounds-prev-v
bounds-prev-v c =
    (pass_node c.args.prev.now c.args.amount c.loop-left.v c.loop-left.x c.loop-left.left
    c.loop-left-test.true c.loop-left.invariant.able).0

pub overflow_cast-w : goal.overflow_cast-w
overflow_cast-w c =
    omega (arith, pass_prev c.args.prev.now c.args.amount c.loop-left.v c.loop-left.x c.loop-left.left c.loop-left-test.true c.loop-left.invariant.able)

pub carry-requires : goal.carry-requires
carry-requires c =
    (pass_node c.args.prev.now c.args.amount c.loop-left.v c.loop-left.x c.loop-left.left c.loop-left-test.true c.loop-left.invariant.able).1

pub serve-requires : goal.serve-requires
serve-requires c =
    let n = trail_node c.args.prev.now c.loop-left.v 32 c.loop-left.left c.loop-left-test.true c.loop-left.invariant.trail in (n.0, n.2)

pub renew-requires : goal.renew-requires
renew-requires c =
    lane_ends (pass_node c.args.prev.now c.args.amount c.loop-left.v c.loop-left.x c.loop-left.left c.loop-left-test.true c.loop-left.invariant.able).1

pub loop-left-preserved : goal.loop-left-preserved
loop-left-preserved c =
    let l = c.loop-left-test.true in
    let i = c.loop-left.invariant in
    record {
      able = pass_able c.args.prev.now c.args.amount c.loop-left.v c.loop-left.x c.loop-left.left l i.able _ c.carry.ensures;
      rest = λ z w. i.rest z (pass_back c.args.prev.now c.args.amount c.loop-left.v c.loop-left.x c.loop-left.left l _ z c.carry.ensures w);
      trail = trail_next c.args.prev.now c.loop-left.v 32 c.loop-left.left l i.trail;
      marked = λ z w. i.marked z (marks_back c.args.prev.now c.loop-left.v c.loop-left.left l z c.serve.ensures w);
      tables =
          λ m n t. tables_arc
          (lane_ends (pass_node c.args.prev.now c.args.amount c.loop-left.v c.loop-left.x c.loop-left.left l i.able).1)
          c.carry.ensures c.renew.ensures (i.tables m n t);
    }

pub returns : goal.returns
returns c = record { walked = c.loop-left.invariant.rest _ (walked_none c.args.prev.now c.args.amount c.loop-left.v c.loop-left.x c.loop-left.left c.loop-left-test.false); marks = c.loop-left.invariant.marked c.loop-left.serves (marks_none c.args.prev.now c.loop-left.v c.loop-left.left c.loop-left-test.false c.loop-left.serves); by_index = c.loop-left.invariant.tables }
