-- `work_store::layout::Layout::slot_start` meets its contract. Assumes nothing.
use mathlib.Core.Path.{ap}
use Prim.Native.Nat.{ℕ, ◌+◌, ◌*◌, ◌≤◌}
use native.Mathlib.Omega.{arith}
use Rattle.work_store.specs.Store.{start}
use Rattle.work_store.proofs.Slots.{width_small, starts_small}
use Rattle.work_store.proofs.layout.Layout.slot_start.Goals.{After-slot_width}
use Rattle.work_store.proofs.layout.Layout.slot_start.Goals as goal

bound : (c : After-slot_width) → c.args.k * c.slot_width.result ≤ 65560
bound c = starts_small _ _ c.requires.slot (omega (arith, c.slot_width.ensures, width_small _ _ c.requires.small.few c.requires.small.many))

pub overflow_mul-result : goal.overflow_mul-result
overflow_mul-result c = omega (arith, bound (goal.at.overflow_mul-result c).After-slot_width)

pub overflow_add-result : goal.overflow_add-result
overflow_add-result c = omega (arith, bound (goal.at.overflow_add-result c).After-slot_width)

pub returns : goal.returns
unfolding start
returns c = ap (λ (w : ℕ). 11 + c.args.k * w) c.slot_width.ensures
