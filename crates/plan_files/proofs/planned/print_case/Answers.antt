-- `plan_files::planned::print_case` meets its contract. Assumes nothing.
use mathlib.Core.Path.{◌≡◌, ap, sym, ◌∙◌}
use Prim.Native.Nat.{ℕ}
use Rattle.problem.specs.Outcome.{refused}
use lib.ListN.{length}
use native.Mathlib.Omega.{arith}
use Rattle.planner.specs.Answer.{outcome}
use Rattle.plan_files.proofs.Printing.{small_split, within, ready, by_plan, by_refusal}
use borrow.Author.Rules.{rules}
use Rattle.plan_files.proofs.planned.print_case.Goals.{After-freight_cells-freights}
use Rattle.plan_files.proofs.planned.print_case.Goals as goal

-- how many cells are lent
lanes : (c : After-freight_cells-freights) → length c.lane_cells-plan.result ≡ 2048
lanes c = search (rules, c.lane_cells-plan.type_inv)

splits : (c : After-freight_cells-freights) → length c.stop_cells-splits.result ≡ 4001
splits c = search (rules, c.stop_cells-splits.type_inv)

freights : (c : After-freight_cells-freights) → length c.freight_cells-freights.result ≡ 4001
freights c = search (rules, c.freight_cells-freights.type_inv)

pub offset_bounds-table-at : goal.offset_bounds-table-at
offset_bounds-table-at c = record { fits = omega (arith, small_split c.plan-answer.ensures (ap outcome c.in-Ok.is)) }

pub bounds-table-at : goal.bounds-table-at
bounds-table-at c = within c.plan-answer.ensures (ap outcome c.in-Ok.is)

pub print_plan-requires : goal.print_plan-requires
print_plan-requires c = let the-whole = ready c.plan-answer.ensures (ap outcome c.in-Ok.is) in record { n_in_bounds = the-whole.0; fits = the-whole.1 }

pub returns-in-Err : goal.returns-in-Err
returns-in-Err c =
    by_refusal c.plan-answer.ensures (lanes (goal.at.returns-in-Err c).After-freight_cells-freights) (splits (goal.at.returns-in-Err c).After-freight_cells-freights) (freights (goal.at.returns-in-Err c).After-freight_cells-freights)
    (ap outcome c.in-Err.is ∙ ap (λ (k : ℕ). refused k c.in-Err.r.place) (sym c.number.ensures)) c.print_refusal.ensures

pub returns-in-Ok : goal.returns-in-Ok
returns-in-Ok c =
    by_plan c.plan-answer.ensures (lanes (goal.at.returns-in-Ok c).After-freight_cells-freights) (splits (goal.at.returns-in-Ok c).After-freight_cells-freights) (freights (goal.at.returns-in-Ok c).After-freight_cells-freights)
    (ap outcome c.in-Ok.is) c.print_plan.ensures
