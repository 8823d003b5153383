-- `split_range::quick::cheapest_first` meets its contract. Assumes nothing.
use Rattle.std.proofs.Common.{ℕ, ◌+◌, ◌*◌, arith}
use lib.ListN.{length-replicate, get_or-replicate}
use Rattle.augment.proofs.LaneMarks.{cover_none}
use Rattle.split_range.proofs.SplitRange.{plants_ready, base_ready}
use Rattle.firstsplit.proofs.FirstSplit.{first_again}
use Rattle.split_range.proofs.quick.cheapest_first.Goals as goal

pub returns-in-Some : goal.returns-in-Some
returns-in-Some c = let q = c.quick_plan.ensures in record { first_plan = q.plan _ c.in-Some.is _ c.requires; covers = q.covers _ c.in-Some.is }

pub first_plan-requires : goal.first_plan-requires
first_plan-requires c =
    let r = c.requires in record {
      le_m = r.plants;
      plants_ready = plants_ready r;
      base_ready = base_ready r (length-replicate {A = ℕ} 2048 0) (λ k h. get_or-replicate {A = ℕ} 2048 k 0 0 h);
      covers = cover_none (length-replicate {A = ℕ} 64 0)
          (λ i j a b. get_or-replicate {A = ℕ} 2048 (i * 64 + j) 0 0 (omega (arith, r.sources, r.terminals))) (λ j h. get_or-replicate {A = ℕ} 64 j 0 0 h)
          r.terminals;
    }

pub returns : goal.returns
returns c = let q = c.first_plan.ensures in record { first_plan = record { unmet = q.first_plan.unmet; done = first_again _ _ q.first_plan.done }; covers = q.covers_2 }
