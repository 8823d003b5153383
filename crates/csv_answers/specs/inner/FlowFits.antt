-- Which flows the printer takes. Assumes nothing.
use Rattle.std.specs.Prelude.{List, ℕ, ◌≤◌, ◌<◌, ◌^◌, ℤ, length}
use Rattle.csv_print.specs.inner.Writing.{Narrow, NarrowCosts}

-- a flow that can be printed: at most 64 arcs, each with an end, an amount and a unit cost, all narrow
pub record FlowFits (charge : ℕ) (starts ends amounts : List ℕ) (costs : List ℤ) : Type 0 where
  pub few : length starts ≤ 64
  pub in_ends : length starts ≤ length ends
  pub charged : charge < 2 ^ 32
  pub narrow_costs : NarrowCosts (length starts) costs
  pub narrow_amounts : Narrow (length starts) amounts
