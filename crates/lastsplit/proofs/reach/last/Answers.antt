-- `lastsplit::reach::last` meets its contract. Assumes nothing.
use Prim.Native.Nat.{ℕ}
use native.Mathlib.Omega.{arith}
use lib.ListN.{replicate, length-replicate, get_or-replicate}
use Rattle.lastsplit.proofs.LastSplit.{wide_reached, free_ready}
use Rattle.lastsplit.proofs.reach.last.Goals as goal

pub returns-then-wide : goal.returns-then-wide
returns-then-wide c =
    let r = c.requires.last_ready in
    wide_reached _ _ _ _ _ r.plants r.left
    (λ i j h l. omega (arith, c.requires.wanted j l, c.requires.all_wide c.if-wide.true i j h (omega (arith, r.terminals))))

pub reach-requires : goal.reach-requires
reach-requires c =
    let r = c.requires.last_ready in record {
      reach_ready = free_ready c.args.lanes.now.cap.now (replicate {A = ℕ} 2048 0) r (λ k h. get_or-replicate {A = ℕ} 2048 k 0 0 h) (length-replicate {A = ℕ} 96 800000000)
          (λ v h. get_or-replicate {A = ℕ} 96 v 800000000 0 h);
      wanted = c.requires.wanted;
      covers = c.requires.covers;
    }
