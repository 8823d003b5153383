-- `canonical::canon::reroute` meets its contract. Assumes nothing.
use Prim.Native.Nat.{ℕ}
use native.Mathlib.Omega.{arith}
use lib.ListN.{length-replicate}
use Rattle.canonical.proofs.FreeLanes.{known_next}
use Rattle.canonical.proofs.Rerouting.{reroute_start, free_again, reach_at, reroute_next}
use Rattle.canonical.proofs.canon.reroute.Goals as goal

pub loop-left-init : goal.loop-left-init
loop-left-init c = (reroute_start c.requires.free_ready, c.requires.covers, length-replicate {A = ℕ} 96 0, c.requires.known)

pub reach-requires : goal.reach-requires
reach-requires c =
    let s = c.requires in
    let q = c.loop-left.invariant in record { reach_at = reach_at s.free_ready q.0; limit_nonzero = c.loop-left-test.true; j_value = s.j_value; known = q.3; covers = q.1; opens = s.opens; prev_len = q.2 }

pub follow-left-requires : goal.follow-left-requires
follow-left-requires c =
    let s = c.requires in
    let r = c.reach.ensures in record { free_ready = free_again s.free_ready c.loop-left.invariant.0; limit_nonzero = c.loop-left-test.true; trodden = (r.reach_done.found c.if-reach.true).trodden; covers = r.covers_2 }

pub overflow_sub-left : goal.overflow_sub-left
overflow_sub-left c = c.follow-left.ensures.followed.most

pub loop-left-smaller : goal.loop-left-smaller
loop-left-smaller c = omega (arith, c.follow-left.ensures.followed.some, c.follow-left.ensures.followed.most)

pub loop-left-preserved : goal.loop-left-preserved
loop-left-preserved c =
    let s = c.requires in
    let r = c.reach.ensures in let w = r.reach_done.found c.if-reach.true in let d = c.follow-left.ensures in
    (reroute_next s.free_ready c.loop-left.invariant.0 d.followed, d.covers_2, w.trodden.labelled.searched.long.prevs, known_next r.known_2 w d.followed)

pub returns-else-reach : goal.returns-else-reach
returns-else-reach c =
    let r = c.reach.ensures in record { rerouted = record { rerouting = c.loop-left.invariant.0; none = λ _. r.reach_done.none c.if-reach.false }; supplied = r.known_2.supplied; covers_2 = r.covers_2 }

pub returns : goal.returns
returns c = let q = c.loop-left.invariant in record { rerouted = record { rerouting = q.0; none = λ h. absurd (omega (arith, c.loop-left-test.false)) }; supplied = q.3.supplied; covers_2 = q.1 }
