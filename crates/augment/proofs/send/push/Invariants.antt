-- `augment::send::push` meets its contract. Assumes nothing.
use mathlib.Core.List.{List}
use Prim.Native.Nat.{ℕ, ◌-◌}
use Rattle.augment.specs.inner.PathWalk.{Walkable, Walked}
use Rattle.augment.specs.inner.LaneMarks.{Trail, Marks}
use Rattle.augment.proofs.send.push.Given as goal

-- What is left of the walk can be gone, and what comes of it comes of the whole.
pub record Going (prev : List ℕ) (amount count goal : ℕ) (x₀ serves₀ : List ℕ) (x serves : List ℕ) (v left : ℕ) : Type 0 where
  pub able : Walkable prev amount left v x
  pub rest : (z : List ℕ) → Walked prev amount left v x z → Walked prev amount count goal x₀ z
  pub trail : Trail 32 prev left v
  pub marked : (z : List ℕ) → Marks prev left v serves z → Marks prev count goal serves₀ z

abbrev pub invariant-loop : goal.invariant-loop
invariant-loop l = Going l.prev l.amount l.count l.goal l.initial.x l.initial.serves l.x l.serves l.v (l.count - l.counter)
