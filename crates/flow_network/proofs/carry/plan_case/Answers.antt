-- `flow_network::carry::plan_case` meets its contract. Assumes nothing.
use Prim.Native.Nat.{ℕ}
use lib.IntN.{ℤ, pos}
use lib.ListN.{length-replicate}
use Rattle.flow_network.proofs.CarryLaws.{ok_of, found_some}
use Rattle.flow_network.proofs.carry.plan_case.Goals as goal

pub returns : goal.returns
returns c =
    record {
      found = found_some c.args.case.now _ _ _ c.requires (length-replicate {A = ℕ} 4001 0) (length-replicate {A = ℤ} 4001 (pos 0))
          c.plan.result _ _ c.plan.ensures _ (ok_of c.plan.result _ c.in_ok-planned.ensures.value);
    }
