-- `write_case::rewrite::rewrite_files` meets its contract. Assumes nothing.
use mathlib.Core.Path.{refl}
use lib.ListN.{replicate}
use Rattle.plan_files.specs.inner.StoredCase.{Stored}
use Rattle.write_case.proofs.Rewrites.{refused_rewritten, case_rewritten}
use borrow.Author.Rules.{rules}
use Rattle.write_case.proofs.rewrite.rewrite_files.Goals.{After-entry_cells-table}
use Rattle.write_case.proofs.rewrite.rewrite_files.Goals as goal

-- how many cells are lent
stored : (c : After-entry_cells-table) → Stored c.cost_cells-costs.result (replicate 32 0) (replicate 64 0) c.entry_cells-table.result
stored c = record { lanes = search (rules, c.cost_cells-costs.type_inv); sources = refl; terminals = refl; entries = search (rules, c.entry_cells-table.type_inv) }

pub returns-in-Err : goal.returns-in-Err
returns-in-Err c = refused_rewritten _ _ _ _ _ _ _ _ _ _ c.read_case-answer.ensures c.in-Err.is c.number.ensures

pub returns-in-Ok : goal.returns-in-Ok
returns-in-Ok c =
    case_rewritten _ _ _ _ _ _ _ _ _ _ c.read_case-answer.ensures (stored (goal.at.returns-in-Ok c).After-entry_cells-table) _ _ _ c.in-Ok.is c.write_stored.ensures
