-- Inner: a network that passed refusal 30 and the two checks of refusal 27 that are made before the planner is asked. Nothing that is promised
-- stands on this file. Assumes nothing.
use Rattle.std.specs.Prelude.{◌≡◌, Bool, not, ◌||◌, ◌≢◌, ℕ, ◌≤◌, ◌<◌, pos}
use Rattle.std.specs.Int.Signed.{lt_z}
use Rattle.problem.specs.Integer.{eq_z, sumℤ}
use Rattle.flow_problem.specs.Network.{Network, arc_count, start, end, ceiling, supply, amount}
use Rattle.flow_problem.specs.inner.Reduce.{stock}
use Rattle.flow_problem.specs.Answer.{any_below}

-- supplies that do not sum to 0, or an amount below 0
unfoldable pub uneven : Network → Bool
uneven g = not (eq_z (sumℤ g.nodes (supply g)) (pos 0)) || any_below g.nodes (λ i. lt_z (amount g i) (pos 0))

pub record Sound (g : Network) (named : ℕ) : Type 0 where
  -- every arc leads from one node to another
  pub starts : (j : ℕ) → j < arc_count g → start g j < g.nodes
  pub ends : (j : ℕ) → j < arc_count g → end g j < g.nodes
  pub apart : (j : ℕ) → j < arc_count g → start g j ≢ end g j
  pub ceilings : (j : ℕ) → j < arc_count g → ceiling g j ≤ 4000
  pub place : named < arc_count g
  -- no amount is below 0, and the supplies sum to 0
  pub amounts : (i : ℕ) → i < g.nodes → amount g i ≡ pos (stock g i)
  pub balanced : sumℤ g.nodes (supply g) ≡ pos 0
