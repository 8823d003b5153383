-- `residual::relax::relax_column` meets its contract. Assumes nothing.
use mathlib.Core.Path.{◌≡◌}
use Prim.Native.Nat.{ℕ, ◌-◌, ◌^◌, ◌≤◌, ◌<◌}
use mathlib.Core.List.{List}
use lib.ListN.{length}
use Rattle.residual.specs.inner.Network.{Net, net, get}
use Rattle.residual.specs.inner.Labels.{Relabelling}
use Rattle.residual.specs.inner.Keys.{Rekeyed, Next}
use Rattle.residual.specs.inner.LanesInUse.{AtNode}
use Rattle.residual.specs.inner.Bits.{Left}
use Rattle.residual.proofs.relax.relax_column.Given as goal

-- the sources below hi are passed, in every network with these costs and this plan
pub record Passing (cost x serves pot dist₀ prev₀ key₀ : List ℕ) (v base level : ℕ) (dist prev key : List ℕ) (next rest : ℕ) : Type 0 where
  pub hi : ℕ
  pub most : hi ≤ 32
  pub labels : (m n : ℕ) (cap : List ℕ) → AtNode m n x serves v → Relabelling (net m n cost cap x) v base 0 hi dist₀ prev₀ dist prev
  pub long : length dist ≡ 96
  pub keys : (N : Net) (want : List ℕ) → Rekeyed N want v pot dist₀ dist key₀ key
  pub named : Next key level hi next
  pub left : Left (get serves (v - 32)) rest hi
  pub word : rest < 2 ^ 32

abbrev pub invariant-loop-rest : goal.invariant-loop-rest
invariant-loop-rest l =
    Passing l.cost l.flow.x l.flow.serves l.flow.pot l.initial.dist l.initial.prev l.initial.key l.v l.base l.level l.dist l.prev l.key l.next l.rest

abbrev pub decreases-loop-rest : goal.decreases-loop-rest
decreases-loop-rest l = l.rest
