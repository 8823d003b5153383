-- `augment::send::send` meets its contract. Assumes nothing.
use mathlib.Core.Path.{refl}
use Prim.Native.Nat.{◌≤◌, ◌<◌}
use native.Mathlib.Omega.{arith}
use Rattle.augment.proofs.PathMeasure.{route}
use Rattle.augment.proofs.Delivery.{lower_ready, push_ready, mark_ready, pushed, delivered}
use Rattle.augment.proofs.LaneMarks.{trail_wide, cover_walk}
use borrow.Author.Rules.{rules}
use Rattle.augment.proofs.send.send.Goals.{In_ok-goal}
use Rattle.augment.proofs.send.send.Goals as goal

goal_node : (c : In_ok-goal) → c.in_ok-goal.goal < 96
goal_node c = c.search-found.ensures.goal _ c.in_ok-goal.was

pub returns-in_err-goal : goal.returns-in_err-goal
returns-in_err-goal c =
    let q = rw c.in_err-goal.was at ((c.search-found.ensures.answered c.args.limit c.requires.send_ready.positive).searched) in
    record { send_done = rw c.from_residual.ensures (record { labels = _; stuck = q.stuck refl; same_x = refl; same_p = refl }); covers_2 = c.requires.covers }

pub measure-way-requires : goal.measure-way-requires
measure-way-requires c =
    let q = rw c.in_ok-goal.was at ((c.search-found.ensures.answered c.args.limit c.requires.send_ready.positive).searched) in
    route c.args.lanes.now.m c.args.lanes.now.n c.args.lanes.now.cost.now c.requires.send_ready.sound.sources (c.search-found.ensures.goal _ c.in_ok-goal.was) q

pub push-requires : goal.push-requires
push-requires c =
    let q = rw c.in_ok-goal.was at ((c.search-found.ensures.answered c.args.limit c.requires.send_ready.positive).searched) in
    let hg = c.search-found.ensures.goal _ c.in_ok-goal.was in
    let way = c.measure-way.ensures in
    let r = route c.args.lanes.now.m c.args.lanes.now.n c.args.lanes.now.cost.now c.requires.send_ready.sound.sources hg q in record { walkable = push_ready c.requires.send_ready q hg refl (way.arcs r) (omega (arith, c.min-amount.ensures, way.width r)); trail = trail_wide _ c.requires.send_ready.sound.sources _ _ (mark_ready c.requires.send_ready q hg {d = 0} refl (way.arcs r) (omega arith)) }

pub overflow_sub-gap : goal.overflow_sub-gap
overflow_sub-gap c =
    let q = rw c.in_ok-goal.was at ((c.search-found.ensures.answered c.args.limit c.requires.send_ready.positive).searched) in
    omega (arith, q.low c.in_ok-goal.goal (c.search-found.ensures.goal _ c.in_ok-goal.was))

pub lower-requires : goal.lower-requires
lower-requires c =
    let q = rw c.in_ok-goal.was at ((c.search-found.ensures.answered c.args.limit c.requires.send_ready.positive).searched) in
    lower_ready c.requires.send_ready q (c.search-found.ensures.goal _ c.in_ok-goal.was) refl

pub returns : goal.returns
returns c =
    let q = rw c.in_ok-goal.was at ((c.search-found.ensures.answered c.args.limit c.requires.send_ready.positive).searched) in
    let hg = c.search-found.ensures.goal _ c.in_ok-goal.was in
    let way = c.measure-way.ensures in
    let small = c.min-amount.ensures in
    let r = route c.args.lanes.now.m c.args.lanes.now.n c.args.lanes.now.cost.now c.requires.send_ready.sound.sources hg q in record {
      send_done = (
        hg,
        delivered c.requires.send_ready q hg refl c.lower.ensures (omega (arith, small, way.width r))
            (pushed c.requires.send_ready q hg refl (way.arcs r) (omega (arith, small, way.width r)) c.push.ensures.walked),
      );
      covers_2 = cover_walk c.requires.send_ready.sound.terminals _ _ _ _ _ _
          (mark_ready c.requires.send_ready q hg {d = 0} refl (way.arcs r) (omega arith))
          c.requires.covers c.push.ensures.walked c.push.ensures.marks;
    }
