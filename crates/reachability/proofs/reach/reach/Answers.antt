-- `reachability::reach::reach` meets its contract. Assumes nothing.
use mathlib.Core.Path.{refl, sym}
use mathlib.Core.Bool.{true≢false}
use native.Mathlib.Omega.{arith}
use Rattle.residual.proofs.Bits.{power_fits}
use Rattle.reachability.proofs.Reachability.{reach_start, shut_start, aim_start, pass_seen, pass_at, pass_fewer, pass_reaching, pass_shut, no_route}
use Rattle.reachability.proofs.reach.reach.Goals as goal

pub overflow_cast-front : goal.overflow_cast-front
overflow_cast-front c = omega (arith, c.requires.reach_at.source, c.requires.reach_at.sources)

pub overflow_shl-front : goal.overflow_shl-front
overflow_shl-front c = omega (arith, c.requires.reach_at.source, c.requires.reach_at.sources)

pub overflow_sub-front : goal.overflow_sub-front
overflow_sub-front c = omega arith

pub overflow_cast-front-2 : goal.overflow_cast-front-2
overflow_cast-front-2 c = omega (arith, c.requires.reach_at.source, c.requires.reach_at.sources)

pub overflow_shl-front-2 : goal.overflow_shl-front-2
overflow_shl-front-2 c = omega (arith, c.requires.reach_at.source, c.requires.reach_at.sources)

pub loop-front-init : goal.loop-front-init
loop-front-init c = let s = c.requires in let a = c.args in let k = s.known in
    rw (power_fits a.i (omega (arith, s.reach_at.source, s.reach_at.sources))) (
      reach_start a.free.now a.x.now s.reach_at s.limit_nonzero s.prev_len k.supplied.fits,
      shut_start a.free.now a.x.now s.reach_at s.limit_nonzero k.supplied,
      aim_start a.free.now a.x.now s.reach_at s.limit_nonzero s.j_value k.goal,
      s.covers,
      k,
      refl,
    )

pub overflow_cast-v : goal.overflow_cast-v
overflow_cast-v c = let a = pass_at c.requires.reach_at c.loop-front.invariant.0 c.loop-front-test.true in omega (arith, a.source, a.sources)

pub overflow_sub-front-in-loop-front : goal.overflow_sub-front-in-loop-front
overflow_sub-front-in-loop-front c = omega (arith, c.loop-front-test.true)

pub look_ahead-front-requires : goal.look_ahead-front-requires
look_ahead-front-requires c =
    let s = c.requires in
    let q = c.loop-front.invariant in let p = c.loop-front-test.true in record { ahead_at = pass_at s.reach_at q.0 p; i_value = pass_seen s.reach_at q.0 p; covers = q.3; opens = s.opens; known = q.4; reaching = pass_reaching s.reach_at q.0 p; aiming = q.2; shut = pass_shut s.reach_at q.0 p q.1 }

pub returns-then-front : goal.returns-then-front
returns-then-front c = let d = c.look_ahead-front.ensures in record { reach_done = record { found = λ e. d.looked_ahead.found c.if-front.true; none = λ e. absurd (true≢false e) }; known_2 = d.looked_ahead.known; covers_2 = d.covers_2 }

pub loop-front-smaller : goal.loop-front-smaller
loop-front-smaller c =
    let s = c.requires in
    let q = c.loop-front.invariant in
    omega (arith, c.look_ahead-front.ensures.looked_ahead.fewer c.if-front.false, pass_fewer s.reach_at q.0 c.loop-front-test.true)

pub loop-front-preserved : goal.loop-front-preserved
loop-front-preserved c = let d = c.look_ahead-front.ensures in let l = c.if-front.false in (d.looked_ahead.reaching l, d.looked_ahead.shut l, d.looked_ahead.aiming l, d.covers_2, d.looked_ahead.known, refl)

pub returns : goal.returns
returns c = let q = c.loop-front.invariant in record { reach_done = record { found = λ e. absurd (true≢false (sym e)); none = λ e. no_route c.requires.reach_at q.0 q.1 (omega (arith, c.loop-front-test.false)) q.2.fresh }; known_2 = rw q.5 q.4; covers_2 = q.3 }
