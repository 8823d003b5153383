-- `bounds_files::bounds_files` meets its contract. Assumes nothing.
use mathlib.Core.Path.{refl}
use lib.ListN.{replicate}
use Rattle.plan_files.specs.inner.StoredCase.{Stored}
use Rattle.bounds_files.proofs.BoundsPrinting.{refused_files, case_files}
use borrow.Author.Rules.{rules}
use Rattle.bounds_files.proofs.bounds_files.Goals.{After-entry_cells-lows}
use Rattle.bounds_files.proofs.bounds_files.Goals as goal

-- how many cells are lent
stored : (c : After-entry_cells-lows) → Stored c.cost_cells-costs.result (replicate 32 0) (replicate 64 0) c.entry_cells-lows.result
stored c = record { lanes = search (rules, c.cost_cells-costs.type_inv); sources = refl; terminals = refl; entries = search (rules, c.entry_cells-lows.type_inv) }

pub returns-in-Err : goal.returns-in-Err
returns-in-Err c =
    refused_files _ _ _ _ _ _ _ _ _ _ _ c.read_case-answer.ensures c.in-Err.is c.number.ensures c.print_refusal.ensures

pub returns-in-Ok : goal.returns-in-Ok
returns-in-Ok c =
    case_files _ _ _ _ _ _ _ _ _ _ _ c.read_case-answer.ensures (stored (goal.at.returns-in-Ok c).After-entry_cells-lows) _ _ _ c.in-Ok.is c.print_with_high.ensures
