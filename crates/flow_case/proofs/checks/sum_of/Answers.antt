-- `flow_case::checks::sum_of` meets its contract. Assumes nothing.
use mathlib.Core.Path.{◌∙◌}
use native.Mathlib.Omega.{arith}
use Rattle.std.proofs.lemmas.Iterator.{YieldsList-from_slice}
use Rattle.std.proofs.lemmas.Iterator.Consumers.{sum_from_yields_List, fits_from_yields_list}
use Rattle.flow_case.proofs.CellTests.{sum_cells, sum_small}
use Rattle.flow_case.proofs.checks.sum_of.Goals as goal

pub sum-requires-clause-fits : goal.sum-requires-clause-fits
sum-requires-clause-fits c =
    let l = c.args.l.now in
    fits_from_yields_list c.iter.result 18446744073709551616 (YieldsList-from_slice l cc) (omega (arith, sum_small l 10000000000 c.requires.1, c.requires.0))

pub returns : goal.returns
returns c =
    let l = c.args.l.now in
    sum_from_yields_List c.iter.result _ c.sum.ensures.ran (YieldsList-from_slice l cc) ∙ sum_cells l
