-- `work_store::layout::Layout::table_at` meets its contract. Assumes nothing.
use native.Mathlib.Omega.{arith}
use Rattle.work_store.proofs.OpenStore.{lanes}
use Rattle.work_store.proofs.layout.Layout.table_at.Goals as goal

pub overflow_add-result : goal.overflow_add-result
overflow_add-result c = omega (arith, lanes _ _ c.requires.few c.requires.many)

pub overflow_add-result-2 : goal.overflow_add-result-2
overflow_add-result-2 c = omega (arith, lanes _ _ c.requires.few c.requires.many)

pub overflow_mul-result : goal.overflow_mul-result
overflow_mul-result c = omega (arith, lanes _ _ c.requires.few c.requires.many)

pub overflow_add-result-3 : goal.overflow_add-result-3
overflow_add-result-3 c = omega (arith, lanes _ _ c.requires.few c.requires.many)

pub overflow_mul-result-2 : goal.overflow_mul-result-2
overflow_mul-result-2 c = omega (arith, lanes _ _ c.requires.few c.requires.many)

pub overflow_add-result-4 : goal.overflow_add-result-4
overflow_add-result-4 c = omega (arith, lanes _ _ c.requires.few c.requires.many)
