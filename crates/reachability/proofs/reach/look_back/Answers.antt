-- `reachability::reach::look_back` meets its contract. Assumes nothing.
use mathlib.Core.Path.{refl}
use mathlib.Core.Bool.{true≢false, false≢true}
use Prim.Native.Nat.{◌+◌, ◌*◌, ◌<◌}
use native.Mathlib.Omega.{arith}
use lib.Count.{count_trailing_zeros}
use Rattle.residual.proofs.Bits.{power_fits}
use Rattle.reachability.proofs.Reachability.{cover_drop, back_start, back_source, back_fresh, back_fewer, back_found, back_take, back_skip, back_end}
use Rattle.reachability.proofs.MaskBits.{take_fits}
use Rattle.reachability.proofs.reach.look_back.Goals.{In-loop-rest}
use Rattle.reachability.proofs.reach.look_back.Goals as goal

-- ---- a pass of the loop

source : (c : In-loop-rest) → count_trailing_zeros 32 c.loop-rest.rest < 32
source c =
    let s = c.requires in omega (arith, back_source s.reach_at c.loop-rest.invariant c.loop-rest-test.true, s.reach_at.sources)

goal_low : (c : In-loop-rest) → c.args.goal < 64
goal_low c = let s = c.requires in omega (arith, s.aiming.terminal, s.reach_at.terminals)

-- its lane
lane : (c : In-loop-rest) → count_trailing_zeros 32 c.loop-rest.rest * 64 + c.args.j < 2048
lane c = let s = c.requires.reach_at in omega (arith, source c, s.terminal, s.terminals)

pub offset_bounds-serves-j : goal.offset_bounds-serves-j
offset_bounds-serves-j c = omega (arith, c.requires.reach_at.terminal, c.requires.reach_at.terminals)

pub bounds-serves-j : goal.bounds-serves-j
bounds-serves-j c = omega (arith, c.requires.reach_at.terminal, c.requires.reach_at.terminals)

pub loop-rest-init : goal.loop-rest-init
loop-rest-init c = let s = c.requires in back_start s.reach_at s.covers s.at_terminal s.aiming

pub overflow_cast-i : goal.overflow_cast-i
overflow_cast-i c = omega (arith, source (goal.at.overflow_cast-i c).In-loop-rest)

pub overflow_sub-rest : goal.overflow_sub-rest
overflow_sub-rest c = omega (arith, c.loop-rest-test.true)

pub overflow_mul-i : goal.overflow_mul-i
overflow_mul-i c = omega (arith, lane (goal.at.overflow_mul-i c).In-loop-rest)

pub overflow_add-i : goal.overflow_add-i
overflow_add-i c = omega (arith, lane (goal.at.overflow_add-i c).In-loop-rest)

pub offset_bounds-x-i : goal.offset_bounds-x-i
offset_bounds-x-i c = omega (arith, lane (goal.at.offset_bounds-x-i c).In-loop-rest)

pub bounds-x-i : goal.bounds-x-i
bounds-x-i c = omega (arith, lane (goal.at.bounds-x-i c).In-loop-rest)

pub overflow_cast-prev : goal.overflow_cast-prev
overflow_cast-prev c = let s = c.requires.reach_at in omega (arith, s.terminal, s.terminals)

pub overflow_add-prev : goal.overflow_add-prev
overflow_add-prev c = let s = c.requires.reach_at in omega (arith, s.terminal, s.terminals)

pub offset_bounds-prev-i : goal.offset_bounds-prev-i
offset_bounds-prev-i c = omega (arith, source (goal.at.offset_bounds-prev-i c).In-loop-rest)

pub bounds-prev-i : goal.bounds-prev-i
bounds-prev-i c = omega (arith, source (goal.at.bounds-prev-i c).In-loop-rest)

pub has_room-requires : goal.has_room-requires
has_room-requires c = (source (goal.at.has_room-requires c).In-loop-rest, goal_low (goal.at.has_room-requires c).In-loop-rest)

pub overflow_cast-prev-then-has_room : goal.overflow_cast-prev-then-has_room
overflow_cast-prev-then-has_room c = omega (arith, source (goal.at.overflow_cast-prev-then-has_room c).In-loop-rest)

pub overflow_add-prev-then-has_room : goal.overflow_add-prev-then-has_room
overflow_add-prev-then-has_room c = omega (arith, goal_low (goal.at.overflow_add-prev-then-has_room c).In-loop-rest)

pub offset_bounds-prev-goal : goal.offset_bounds-prev-goal
offset_bounds-prev-goal c = omega (arith, goal_low (goal.at.offset_bounds-prev-goal c).In-loop-rest)

pub bounds-prev-goal : goal.bounds-prev-goal
bounds-prev-goal c = omega (arith, goal_low (goal.at.bounds-prev-goal c).In-loop-rest)

pub returns-then-has_room : goal.returns-then-has_room
returns-then-has_room c =
    let s = c.requires in
    let q = c.loop-rest.invariant in record {
      looked_back = record {
        same = refl;
        found = λ e. back_found s.reach_at q c.loop-rest-test.true c.if-x-i-gt0.true (c.has_room.ensures.room c.if-has_room.true);
        reaching = λ e. absurd (true≢false e);
        aiming = λ e. absurd (true≢false e);
        back = λ e. absurd (true≢false e);
      };
      covers_2 = q.covers;
    }

pub overflow_cast-sources : goal.overflow_cast-sources
overflow_cast-sources c = omega (arith, source (goal.at.overflow_cast-sources c).In-loop-rest)

pub overflow_shl-sources : goal.overflow_shl-sources
overflow_shl-sources c = omega (arith, source (goal.at.overflow_shl-sources c).In-loop-rest)

pub overflow_sub-sources : goal.overflow_sub-sources
overflow_sub-sources c =
    let s = c.requires in
    rw (power_fits (count_trailing_zeros 32 c.loop-rest.rest) (source (goal.at.overflow_sub-sources c).In-loop-rest))
    (take_fits _ _ (back_fresh s.reach_at c.loop-rest.invariant c.loop-rest-test.true))

pub overflow_cast-wait : goal.overflow_cast-wait
overflow_cast-wait c = omega (arith, source (goal.at.overflow_cast-wait c).In-loop-rest)

pub overflow_shl-wait : goal.overflow_shl-wait
overflow_shl-wait c = omega (arith, source (goal.at.overflow_shl-wait c).In-loop-rest)

pub loop-rest-smaller-then-x-i-gt0 : goal.loop-rest-smaller-then-x-i-gt0
loop-rest-smaller-then-x-i-gt0 c =
    let s = c.requires in back_fewer s.reach_at c.loop-rest.invariant c.loop-rest-test.true

pub loop-rest-preserved-then-x-i-gt0 : goal.loop-rest-preserved-then-x-i-gt0
loop-rest-preserved-then-x-i-gt0 c =
    let s = c.requires in
    rw (power_fits (count_trailing_zeros 32 c.loop-rest.rest) (source (goal.at.loop-rest-preserved-then-x-i-gt0 c).In-loop-rest))
    (back_take s.reach_at c.loop-rest.invariant c.loop-rest-test.true c.if-x-i-gt0.true (c.has_room.ensures.full c.if-has_room.false))

pub drop_source-requires : goal.drop_source-requires
drop_source-requires c = let s = c.requires.reach_at in (source (goal.at.drop_source-requires c).In-loop-rest, omega (arith, s.terminal, s.terminals))

pub loop-rest-smaller : goal.loop-rest-smaller
loop-rest-smaller c =
    let s = c.requires in back_fewer s.reach_at c.loop-rest.invariant c.loop-rest-test.true

pub loop-rest-preserved : goal.loop-rest-preserved
loop-rest-preserved c =
    let s = c.requires in
    let q = c.loop-rest.invariant in
    let p = c.loop-rest-test.true in
    back_skip s.reach_at q p (omega (arith, c.if-x-i-gt0.false))
    (cover_drop s.reach_at.sources (back_source s.reach_at q p) s.reach_at.terminal q.covers (omega (arith, c.if-x-i-gt0.false)) s.reach_at.terminals c.drop_source.ensures)

pub returns : goal.returns
returns c = let s = c.requires in let q = c.loop-rest.invariant in record {
  looked_back = record {
    same = refl;
    found = λ e. absurd (false≢true e);
    reaching = λ e. q.at.reaching;
    aiming = λ e. q.aiming;
    back = λ e. back_end s.reach_at q (omega (arith, c.loop-rest-test.false));
  };
  covers_2 = q.covers;
}
