-- `reachability::reach::look_ahead` meets its contract. Assumes nothing.
use mathlib.Core.Path.{sym, ◌∙◌}
use mathlib.Core.Bool.{true≢false, false≢true}
use Prim.Native.Nat.{◌<◌}
use native.Mathlib.Omega.{arith}
use Rattle.reachability.proofs.Reachability.{ahead_start, ahead_terminal, ahead_fresh, ahead_supplied, ahead_fewer, ahead_drop, ahead_pass}
use Rattle.reachability.proofs.Reachability.{ahead_visit, ahead_aim, ahead_take, ahead_skip, ahead_end}
use Rattle.reachability.proofs.MaskBits.{take_fits, power_fits_long}
use Rattle.reachability.proofs.reach.look_ahead.Goals.{After-highest-j}
use Rattle.reachability.proofs.reach.look_ahead.Goals as goal

-- ---- a pass of the loop

-- the terminal looked at
terminal : (c : After-highest-j) → c.highest-j.result < c.args.n
terminal c = let s = c.requires in ahead_terminal s.ahead_at s.i_value _ c.loop-rest.invariant c.highest-j.ensures

short : (c : After-highest-j) → c.highest-j.result < 64
short c = omega (arith, terminal c, c.requires.ahead_at.terminals)

pub offset_bounds-ways-i : goal.offset_bounds-ways-i
offset_bounds-ways-i c = omega (arith, c.requires.ahead_at.source, c.requires.ahead_at.sources)

pub bounds-ways-i : goal.bounds-ways-i
bounds-ways-i c = omega (arith, c.requires.ahead_at.source, c.requires.ahead_at.sources)

pub overflow_shl-rest : goal.overflow_shl-rest
overflow_shl-rest c = let s = c.requires in omega (arith, s.aiming.terminal, s.ahead_at.terminals)

pub overflow_sub-rest : goal.overflow_sub-rest
overflow_sub-rest c = let s = c.requires in let w = s.aiming in
    rw (power_fits_long c.args.goal (omega (arith, w.terminal, s.ahead_at.terminals))) (take_fits _ _ w.fresh)

pub loop-rest-init : goal.loop-rest-init
loop-rest-init c = let s = c.requires in let w = s.aiming in
    rw (power_fits_long c.args.goal (omega (arith, w.terminal, s.ahead_at.terminals)))
    (ahead_start s.ahead_at s.i_value s.opens s.covers s.known s.reaching w s.shut)

pub highest-j-requires : goal.highest-j-requires
highest-j-requires c = record { rest_nonzero = c.loop-rest-test.true; rest_bound = c.loop-rest.invariant.fits }

pub overflow_shl-rest-in-loop-rest : goal.overflow_shl-rest-in-loop-rest
overflow_shl-rest-in-loop-rest c = short (goal.at.overflow_shl-rest-in-loop-rest c).After-highest-j

pub overflow_sub-rest-in-loop-rest : goal.overflow_sub-rest-in-loop-rest
overflow_sub-rest-in-loop-rest c = rw (power_fits_long c.highest-j.result (short (goal.at.overflow_sub-rest-in-loop-rest c).After-highest-j)) (take_fits _ _ c.highest-j.ensures)

pub seen-requires : goal.seen-requires
seen-requires c = short (goal.at.seen-requires c).After-highest-j

-- ---- each source that serves it is reached

pub overflow_shl-now : goal.overflow_shl-now
overflow_shl-now c = short (goal.at.overflow_shl-now c).After-highest-j

pub overflow_sub-now : goal.overflow_sub-now
overflow_sub-now c =
    let s = c.requires in
    rw (power_fits_long c.highest-j.result (short (goal.at.overflow_sub-now c).After-highest-j)) (take_fits _ _ (ahead_fresh s.ahead_at s.i_value _ c.loop-rest.invariant c.highest-j.ensures))

pub unserved-requires : goal.unserved-requires
unserved-requires c =
    let s = c.requires in
    (omega (arith, s.ahead_at.start, s.ahead_at.sources), short (goal.at.unserved-requires c).After-highest-j)

pub overflow_shl-now-then-unserved : goal.overflow_shl-now-then-unserved
overflow_shl-now-then-unserved c = short (goal.at.overflow_shl-now-then-unserved c).After-highest-j

pub overflow_sub-now-then-unserved : goal.overflow_sub-now-then-unserved
overflow_sub-now-then-unserved c =
    let s = c.requires in
    rw (power_fits_long c.highest-j.result (short (goal.at.overflow_sub-now-then-unserved c).After-highest-j)) (take_fits _ _ (ahead_supplied s.ahead_at s.i_value _ c.loop-rest.invariant c.highest-j.ensures))

pub loop-rest-smaller-then-unserved : goal.loop-rest-smaller-then-unserved
loop-rest-smaller-then-unserved c =
    let s = c.requires in
    rw (power_fits_long c.highest-j.result (short (goal.at.loop-rest-smaller-then-unserved c).After-highest-j)) (ahead_fewer s.ahead_at s.i_value _ c.loop-rest.invariant c.highest-j.ensures)

pub loop-rest-preserved-then-unserved : goal.loop-rest-preserved-then-unserved
loop-rest-preserved-then-unserved c =
    let s = c.requires in
    rw (power_fits_long c.highest-j.result (short (goal.at.loop-rest-preserved-then-unserved c).After-highest-j))
    (ahead_drop s.ahead_at s.i_value _ c.loop-rest.invariant c.highest-j.ensures (c.unserved.ensures.none c.if-unserved.true))

pub loop-rest-smaller-else-unserved : goal.loop-rest-smaller-else-unserved
loop-rest-smaller-else-unserved c =
    let s = c.requires in
    rw (power_fits_long c.highest-j.result (short (goal.at.loop-rest-smaller-else-unserved c).After-highest-j)) (ahead_fewer s.ahead_at s.i_value _ c.loop-rest.invariant c.highest-j.ensures)

pub loop-rest-preserved-else-unserved : goal.loop-rest-preserved-else-unserved
loop-rest-preserved-else-unserved c =
    let s = c.requires in
    rw (power_fits_long c.highest-j.result (short (goal.at.loop-rest-preserved-else-unserved c).After-highest-j))
    (ahead_pass s.ahead_at s.i_value _ c.loop-rest.invariant c.highest-j.ensures (c.seen.ensures.none c.if-seen.true))

-- ---- the source has room

pub has_room-requires : goal.has_room-requires
has_room-requires c =
    let s = c.requires.ahead_at in (omega (arith, s.source, s.sources), short (goal.at.has_room-requires c).After-highest-j)

pub overflow_cast-prev : goal.overflow_cast-prev
overflow_cast-prev c =
    let s = c.requires.ahead_at in omega (arith, s.source, s.sources)

pub overflow_add-prev : goal.overflow_add-prev
overflow_add-prev c = omega (arith, short (goal.at.overflow_add-prev c).After-highest-j)

pub offset_bounds-prev-j : goal.offset_bounds-prev-j
offset_bounds-prev-j c = omega (arith, short (goal.at.offset_bounds-prev-j c).After-highest-j)

pub bounds-prev-j : goal.bounds-prev-j
bounds-prev-j c = omega (arith, short (goal.at.bounds-prev-j c).After-highest-j)

pub overflow_shl-now-then-has_room : goal.overflow_shl-now-then-has_room
overflow_shl-now-then-has_room c = short (goal.at.overflow_shl-now-then-has_room c).After-highest-j

pub overflow_sub-now-then-has_room : goal.overflow_sub-now-then-has_room
overflow_sub-now-then-has_room c =
    let s = c.requires in
    rw (power_fits_long c.highest-j.result (short (goal.at.overflow_sub-now-then-has_room c).After-highest-j)) (take_fits _ _ (ahead_fresh s.ahead_at s.i_value _ c.loop-rest.invariant c.highest-j.ensures))

pub look_back-now-requires : goal.look_back-now-requires
look_back-now-requires c =
    let s = c.requires in
    let q = c.loop-rest.invariant in let o = c.has_room.ensures.room c.if-has_room.true in let low = power_fits_long c.highest-j.result (short (goal.at.look_back-now-requires c).After-highest-j) in record { reach_at = record { sources = s.ahead_at.sources; terminals = s.ahead_at.terminals; source = s.ahead_at.start; terminal = terminal (goal.at.look_back-now-requires c).After-highest-j }; covers = q.covers; at_terminal = rw low (ahead_visit s.ahead_at s.i_value _ q c.highest-j.ensures o); aiming = rw low (ahead_aim s.ahead_at s.i_value _ q c.highest-j.ensures) }

pub returns-then-now : goal.returns-then-now
returns-then-now c =
    let d = c.look_back-now.ensures in record {
      looked_ahead = record {
        known = rw d.looked_back.same c.loop-rest.invariant.known;
        found = d.looked_back.found;
        reaching = λ e. absurd (true≢false (sym c.if-now.true ∙ e));
        aiming = λ e. absurd (true≢false (sym c.if-now.true ∙ e));
        shut = λ e. absurd (true≢false (sym c.if-now.true ∙ e));
        fewer = λ e. absurd (true≢false (sym c.if-now.true ∙ e));
      };
      covers_2 = d.covers_2;
    }

pub loop-rest-smaller-else-now : goal.loop-rest-smaller-else-now
loop-rest-smaller-else-now c =
    let s = c.requires in
    rw (power_fits_long c.highest-j.result (short (goal.at.loop-rest-smaller-else-now c).After-highest-j)) (ahead_fewer s.ahead_at s.i_value _ c.loop-rest.invariant c.highest-j.ensures)

pub loop-rest-preserved-else-now : goal.loop-rest-preserved-else-now
loop-rest-preserved-else-now c =
    let s = c.requires in
    let d = c.look_back-now.ensures in let l = c.if-now.false in
    rw (power_fits_long c.highest-j.result (short (goal.at.loop-rest-preserved-else-now c).After-highest-j))
    (ahead_take s.ahead_at s.i_value _ c.loop-rest.invariant c.highest-j.ensures (c.has_room.ensures.room c.if-has_room.true) d.looked_back.same d.covers_2 (d.looked_back.reaching l) (d.looked_back.aiming l)
    (rw (power_fits_long c.highest-j.result (short (goal.at.loop-rest-preserved-else-now c).After-highest-j)) at (d.looked_back.back l)))

pub loop-rest-smaller : goal.loop-rest-smaller
loop-rest-smaller c =
    let s = c.requires in
    rw (power_fits_long c.highest-j.result (short (goal.at.loop-rest-smaller c).After-highest-j)) (ahead_fewer s.ahead_at s.i_value _ c.loop-rest.invariant c.highest-j.ensures)

pub loop-rest-preserved : goal.loop-rest-preserved
loop-rest-preserved c =
    let s = c.requires in
    rw (power_fits_long c.highest-j.result (short (goal.at.loop-rest-preserved c).After-highest-j))
    (ahead_skip s.ahead_at s.i_value _ c.loop-rest.invariant c.highest-j.ensures (c.has_room.ensures.full c.if-has_room.false))

pub returns : goal.returns
returns c = let s = c.requires in let q = c.loop-rest.invariant in record {
  looked_ahead = record {
    known = q.known;
    found = λ e. absurd (false≢true e);
    reaching = λ e. q.reaching;
    aiming = λ e. q.aiming;
    shut = λ e. ahead_end s.ahead_at s.i_value q (omega (arith, c.loop-rest-test.false));
    fewer = λ e. q.moved.fewer;
  };
  covers_2 = q.covers;
}
