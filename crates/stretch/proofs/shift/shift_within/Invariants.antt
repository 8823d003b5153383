-- `stretch::shift::shift_within` meets its contract. Assumes nothing.
use mathlib.Core.Bool.{false}
use mathlib.Core.List.{List}
use Prim.Native.Nat.{ℕ}
use Rattle.augment.specs.inner.PathWalk.{Walkable, Walked}
use Rattle.augment.specs.inner.LaneMarks.{Trail, Marks}
use Rattle.cuts.specs.inner.Tables.{Tables}
use Rattle.stretch.proofs.shift.shift_within.Given as goal

-- What is left of the walk can be gone, what comes of it comes of the whole, and the tables have followed.
pub record Going (prev : List ℕ) (amount count goal : ℕ) (cost cap x₀ serves₀ ahead₀ columns₀ x serves ahead columns : List ℕ) (v left : ℕ)
    : Type 0 where
  pub able : Walkable prev amount left v x
  pub rest : (z : List ℕ) → Walked prev amount left v x z → Walked prev amount count goal x₀ z
  pub trail : Trail 32 prev left v
  pub marked : (z : List ℕ) → Marks prev left v serves z → Marks prev count goal serves₀ z
  pub tables : (m n : ℕ) → Tables false m n cost cap x₀ ahead₀ columns₀ → Tables false m n cost cap x ahead columns

abbrev pub invariant-loop-left : goal.invariant-loop-left
invariant-loop-left l =
    Going l.prev l.amount l.count l.goal l.lanes.cost.now l.lanes.cap.now l.initial.x l.initial.serves l.initial.tables.ahead l.initial.tables.columns l.x l.serves l.tables.ahead l.tables.columns l.v l.left
