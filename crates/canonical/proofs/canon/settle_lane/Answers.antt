-- `canonical::canon::settle_lane` meets its contract. Assumes nothing.
use mathlib.Core.Path.{refl}
use Prim.Native.Nat.{◌+◌, ◌*◌, ◌<◌}
use native.Mathlib.Omega.{arith}
use Rattle.reachability.proofs.MaskBits.{power_fits_long}
use Rattle.canonical.proofs.FreeLanes.{supplied_more, supplied_under}
use Rattle.canonical.proofs.LaneStores.{free_ready, opens_closed, door_closed, open_next, longs_closed, longs_settled}
use Rattle.canonical.proofs.Rerouting.{lane_empty, out_ready, out_shut, out_under, out_dropped, lane_settled}
use Rattle.canonical.proofs.canon.settle_lane.Goals.{Start}
use Rattle.canonical.proofs.canon.settle_lane.Goals as goal

pub returns-then-amount-eq0 : goal.returns-then-amount-eq0
returns-then-amount-eq0 c =
    let q = c.requires.fact in let l = q.longs in
    let d = lane_empty (free_ready c.requires.i_lt_m.0 c.requires.i_lt_m.1 q) l.long_f (omega (arith, c.if-amount-eq0.true)) in record { lane_settled = d; fact_2 = open_next c.requires.i_lt_m.0 c.requires.i_lt_m.1 q d (longs_closed (c.args.i * 64 + c.args.j) l) q.covers (door_closed c.requires.i_lt_m.0 c.requires.i_lt_m.1 q); same_ways = refl; supplied_2 = c.requires.supplied }

short : (s : Start) → s.args.j < 64
short s = omega (arith, s.requires.i_lt_m.1, s.requires.fact.terminals)

pub overflow_shl-supplied : goal.overflow_shl-supplied
overflow_shl-supplied c = short (goal.at.overflow_shl-supplied c).Start

pub resend-left-requires : goal.resend-left-requires
resend-left-requires c =
    let q = c.requires.fact in let r = free_ready c.requires.i_lt_m.0 c.requires.i_lt_m.1 q in let l = q.longs.long_f in let low = power_fits_long c.args.j (short (goal.at.resend-left-requires c).Start) in
    record {
      free_ready = out_ready r l;
      j_value = out_shut r l;
      known = rw low (supplied_more c.args.j (short (goal.at.resend-left-requires c).Start) (supplied_under c.requires.supplied (out_under r l)));
      opens = opens_closed (c.args.i * 64 + c.args.j) q.opens;
      covers = out_dropped r l q.covers c.drop_source.ensures;
      doors = door_closed c.requires.i_lt_m.0 c.requires.i_lt_m.1 q;
    }

pub overflow_add-aside : goal.overflow_add-aside
overflow_add-aside c =
    let q = c.requires.fact in
    omega (arith, c.resend-left.ensures.resent.most, q.under c.args.i c.args.j c.requires.i_lt_m.0 c.requires.i_lt_m.1, q.ceilings c.args.i c.args.j c.requires.i_lt_m.0 c.requires.i_lt_m.1)

pub returns : goal.returns
returns c =
    let q = c.requires.fact in let l = q.longs in let w = c.resend-left.ensures in
    let d = lane_settled (free_ready c.requires.i_lt_m.0 c.requires.i_lt_m.1 q) l.long_f l.long_o w.resent in record { lane_settled = d; fact_2 = open_next c.requires.i_lt_m.0 c.requires.i_lt_m.1 q d (longs_settled (c.args.i * 64 + c.args.j) _ l w.resent.long_x) w.covers_2 (door_closed c.requires.i_lt_m.0 c.requires.i_lt_m.1 q); same_ways = refl; supplied_2 = w.supplied }
