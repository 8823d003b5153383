-- What the judge of two tables asks: the stops of some case whose table is the low one. Assumes nothing.
use Rattle.std.specs.Prelude.{List, ℕ, ℤ}
use Rattle.problem.specs.Case.{Case}
use Rattle.bounds_problem.specs.inner.Settled.{Listed}

-- a case with another table
abbrev pub tabled : Case → List ℕ → Case
tabled c table = record {
  m = c.m;
  n = c.n;
  run1 = c.run1;
  run2 = c.run2;
  costs = c.costs;
  supplies = c.supplies;
  demands = c.demands;
  ceilings = c.ceilings;
  table = table;
  plan_cells = c.plan_cells;
  split_cells = c.split_cells;
  freight_cells = c.freight_cells;
}

-- the planner gave some case with this table its stops
pub record SomeListed (table s : List ℕ) (f : List ℤ) (count : ℕ) : Type 0 where
  pub case : Case
  pub listed : Listed (tabled case table) s f count
