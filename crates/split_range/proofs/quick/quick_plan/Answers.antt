-- `split_range::quick::quick_plan` meets its contract. Assumes nothing.
use Rattle.std.proofs.Common.{◌≡◌, ℕ}
use lib.ListN.{length-replicate}
use Rattle.split_range.proofs.CheckedPlan.{checked_first}
use Rattle.split_range.proofs.quick.quick_plan.Goals as goal

pub returns-then-not-good : goal.returns-then-not-good
returns-then-not-good c = record { plan = λ y e. cc; covers = λ y e. cc }

pub all_servers-requires : goal.all_servers-requires
all_servers-requires c =
    (c.requires.check_ready.sources, c.requires.check_ready.terminals, length-replicate {A = ℕ} 64 0)

pub returns : goal.returns
returns c =
    record {
      plan = λ y e run1 r.
          let same : c.first_split-split.result ≡ y = cc in
          rw (← same) (checked_first r c.first_split-split.ensures c.spoil_plan.ensures c.simplex_at.ensures.lengths.1 (c.good.ensures c.if-not-good.false) _);
      covers = λ y e. c.all_servers.ensures;
    }
