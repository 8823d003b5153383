-- `canonical::canon::resend` meets its contract. Assumes nothing.
use Rattle.canonical.proofs.Rerouting.{stays_col, stays_row, resent}
use native.Mathlib.Omega.{arith}
use Prim.Native.Nat.{◌<◌}
use Rattle.reachability.proofs.MaskBits.{power_fits_long, take_fits}
use Rattle.canonical.proofs.canon.resend.Goals.{Start}
use Rattle.canonical.proofs.canon.resend.Goals as goal

pub returns-then-free-j-eq0 : goal.returns-then-free-j-eq0
returns-then-free-j-eq0 c = let s = c.requires in record { resent = stays_col s.free_ready s.j_value s.doors c.if-free-j-eq0.true; supplied = s.known.supplied; covers_2 = s.covers }

short : (s : Start) → s.args.j < 64
short s = omega (arith, s.requires.free_ready.terminal, s.requires.free_ready.terminals)

pub overflow_shl-j : goal.overflow_shl-j
overflow_shl-j c = short (goal.at.overflow_shl-j c).Start

pub overflow_sub-supplied : goal.overflow_sub-supplied
overflow_sub-supplied c =
    rw (power_fits_long c.args.j (short (goal.at.overflow_sub-supplied c).Start)) (take_fits c.args.j c.args.supplied.now c.requires.known.goal)

pub returns-then-free-i-eq0 : goal.returns-then-free-i-eq0
returns-then-free-i-eq0 c = record { resent = stays_row c.requires.free_ready c.requires.j_value c.requires.known c.requires.opens (rw (power_fits_long c.args.j (short (goal.at.returns-then-free-i-eq0 c).Start)) at c.if-free-i-eq0.true); supplied = c.requires.known.supplied; covers_2 = c.requires.covers }

pub reroute-requires : goal.reroute-requires
reroute-requires c =
    let s = c.requires in record { free_ready = s.free_ready; j_value = s.j_value; known = s.known; opens = s.opens; covers = s.covers }

pub returns : goal.returns
returns c =
    let s = c.requires in record { resent = resent s.free_ready s.j_value c.reroute.ensures.rerouted; supplied = c.reroute.ensures.supplied; covers_2 = c.reroute.ensures.covers_2 }
