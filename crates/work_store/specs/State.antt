-- The working case and its marks, as mathematics: no cell is named here. Assumes nothing.
use Rattle.std.proofs.Math.Option.{Option, none}
use Rattle.std.specs.Prelude.{List, ℕ, ℤ}
use Rattle.problem.specs.Case.{Case}
use Rattle.lent_case.specs.declared.Case.{Case as Lent}

-- a whole case, without the slices that a plan is written to
pub record Draft : Type 0 where
  pub m : ℕ
  pub n : ℕ
  -- the two plants' least runs
  pub run1 : ℕ
  pub run2 : ℕ
  pub supplies : List ℕ
  pub demands : List ℕ
  pub costs : List ℤ
  pub ceilings : List ℕ
  pub table : List ℕ

-- the draft of lent numbers and slices
abbrev pub draft : ℕ → ℕ → ℕ → ℕ → List ℤ → List ℕ → List ℕ → List ℕ → List ℕ → Draft
draft m n run1 run2 costs supplies demands ceilings table = record {
  m = m;
  n = n;
  run1 = run1;
  run2 = run2;
  supplies = supplies;
  demands = demands;
  costs = costs;
  ceilings = ceilings;
  table = table;
}

-- the draft that a lent case is
abbrev pub draft_of : Lent → Draft
draft_of c = draft c.m c.n c.run1 c.run2 c.costs.now c.supplies.now c.demands.now c.ceilings.now c.table.now

-- the working case, and what each mark holds; marks are numbered 1 to 8
pub record State : Type 0 where
  pub case : Draft
  pub marks : ℕ → Option Draft

-- the case that is lent to the planner, with slices of so many cells to write
abbrev pub lent_with : Draft → ℕ → ℕ → ℕ → Case
lent_with d p q r = record {
  m = d.m;
  n = d.n;
  run1 = d.run1;
  run2 = d.run2;
  costs = d.costs;
  supplies = d.supplies;
  demands = d.demands;
  ceilings = d.ceilings;
  table = d.table;
  plan_cells = p;
  split_cells = q;
  freight_cells = r;
}

-- a case once accepted: no mark is set
abbrev pub entered : Draft → State
entered d = record { case = d; marks = λ _. none }
