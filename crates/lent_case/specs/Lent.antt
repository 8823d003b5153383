-- What a lent case is as a case of problem (TP), with the lengths of the three slices lent for its answer. Assumes nothing.
use Rattle.std.specs.Prelude.{ℕ}
use Rattle.problem.specs.Case.{lent}
use Rattle.problem.specs.Case as problem
use Rattle.lent_case.specs.declared.Case.{Case}

abbrev pub case_of : Case → ℕ → ℕ → ℕ → problem.Case
case_of c plan splits freights =
    lent c.m c.n c.run1 c.run2 c.costs.now c.supplies.now c.demands.now c.ceilings.now c.table.now plan splits freights
