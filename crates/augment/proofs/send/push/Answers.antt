-- `augment::send::push` meets its contract. Assumes nothing.
use mathlib.Core.Path.{◌≡◌}
use Prim.Native.Nat.{ℕ, ◌+◌, ◌-◌, ◌<◌, ◌≤◌}
use native.Mathlib.Omega.{arith}
use Rattle.augment.proofs.PathWalk.{pass_node, pass_prev, pass_able, pass_back, walked_none}
use Rattle.augment.proofs.LaneMarks.{trail_node, trail_next, marks_back, marks_none}
use Rattle.augment.proofs.send.push.Goals as goal

pub loop-init : goal.loop-init
loop-init c =
    let e : c.args.count - 0 ≡ c.args.count = omega arith in
    rw e (record { able = c.requires.walkable; rest = λ z w. w; trail = c.requires.trail; marked = λ z w. w })

pub offset_bounds-prev-v : goal.offset_bounds-prev-v
offset_bounds-prev-v c =
    let l : 0 < c.args.count - c.loop.counter = omega arith in
    omega (arith, (pass_node c.args.prev.now c.args.amount c.loop.v c.loop.x _ l c.loop.invariant.able).0)

pub bounds-prev-v : goal.bounds-prev-v
bounds-prev-v c =
    let l : 0 < c.args.count - c.loop.counter = omega arith in
    (pass_node c.args.prev.now c.args.amount c.loop.v c.loop.x _ l c.loop.invariant.able).0

pub overflow_cast-w : goal.overflow_cast-w
overflow_cast-w c =
    let l : 0 < c.args.count - c.loop.counter = omega arith in
    omega (arith, pass_prev c.args.prev.now c.args.amount c.loop.v c.loop.x _ l c.loop.invariant.able)

pub carry-requires : goal.carry-requires
carry-requires c =
    let l : 0 < c.args.count - c.loop.counter = omega arith in
    (pass_node c.args.prev.now c.args.amount c.loop.v c.loop.x _ l c.loop.invariant.able).1

pub serve-requires : goal.serve-requires
serve-requires c =
    let l : 0 < c.args.count - c.loop.counter = omega arith in
    let n = trail_node c.args.prev.now c.loop.v 32 _ l c.loop.invariant.trail in (n.0, n.2)

pub loop-preserved : goal.loop-preserved
loop-preserved c =
    let left : ℕ = c.args.count - c.loop.counter in
    let l : 0 < left = omega arith in
    let e : c.args.count - (c.loop.counter + 1) ≡ left - 1 = omega arith in
    let i = c.loop.invariant in
    rw e (record {
      able = pass_able c.args.prev.now c.args.amount c.loop.v c.loop.x left l i.able _ c.carry.ensures;
      rest = λ z w. i.rest z (pass_back c.args.prev.now c.args.amount c.loop.v c.loop.x left l _ z c.carry.ensures w);
      trail = trail_next c.args.prev.now c.loop.v 32 left l i.trail;
      marked = λ z w. i.marked z (marks_back c.args.prev.now c.loop.v left l z c.serve.ensures w);
    })

pub returns : goal.returns
returns c =
    let none : c.args.count - c.loop.counter ≤ 0 = omega arith in record {
      walked = c.loop.invariant.rest _ (walked_none c.args.prev.now c.args.amount c.loop.v c.loop.x _ none);
      marks = c.loop.invariant.marked c.loop.serves (marks_none c.args.prev.now c.loop.v _ none c.loop.serves);
    }
