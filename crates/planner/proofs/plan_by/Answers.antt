-- `planner::plan_by` meets its contract. Assumes nothing.
use Rattle.planner.proofs.EngineAnswer.{refuses}
use Rattle.planner.proofs.plan_by.Goals as goal

pub returns-in-Err : goal.returns-in-Err
returns-in-Err c = refuses _ _ _ _ (c.in-Err.ensures _ _ _)
