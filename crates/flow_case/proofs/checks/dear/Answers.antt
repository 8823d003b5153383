-- `flow_case::checks::dear` meets its contract. Assumes nothing.
use mathlib.Core.Path.{◌∙◌}
use Rattle.std.proofs.Common.{ltb, rules, tests}
use Rattle.std.proofs.lemmas.Iterator.{YieldsList-from_slice}
use Rattle.std.proofs.lemmas.Iterator.Search.{any_from_yields_List}
use Rattle.flow_case.proofs.CellTests.{any_cells}
use Rattle.flow_case.proofs.checks.dear.Goals as goal

pub returns : goal.returns
returns c =
    let table = c.args.table.now in
    any_from_yields_List (ltb 1000000000) _ _ _ c.any.ensures.ran (YieldsList-from_slice table cc) (λ x b q k. search (rules, tests)) ∙
    any_cells (ltb 1000000000) table
