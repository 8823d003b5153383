-- `csv_table::store::copy_fields` meets its contract. Assumes nothing.
use mathlib.Core.Path.{ap, ◌∙◌}
use native.Mathlib.Omega.{arith}
use lib.IntN.{pos}
use Rattle.csv_print.proofs.Stores.{storing_next}
use Rattle.csv_print.proofs.PrintedSigns.{read_back}
use Prim.Native.Nat.{◌+◌}
use lib.ListN.{get_or}
use Rattle.csv_table.proofs.FieldSizes.{turned_at, turned_length}
use Rattle.csv_table.proofs.store.copy_fields.Goals as goal

pub loop-j-preserved : goal.loop-j-preserved
loop-j-preserved g c =
    let a = c.args in
    let F = g.T.FromField.of in
    storing_next _ _ _ _ a.at _ _ (F (pos 0)) (omega (arith, turned_length F a.values.now a.start a.count c.requires.count_in_bounds, c.loop-j-test.true))
    (c.from_field.ensures ∙ ap F (read_back (get_or a.values.now (a.start + c.loop-j.j) (pos 0)) c.from_field-arg-1.given) ∙ turned_at F a.values.now a.start a.count _ c.loop-j-test.true)
    c.put.ensures c.loop-j.invariant
