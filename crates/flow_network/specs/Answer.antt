-- What `cheapest_flow` answers and writes, in the words of the promise. Assumes nothing.
use Rattle.std.specs.Prelude.{List, ℕ, ℤ, length, Result, Ok, Err}
use Rattle.refusal.specs.Number.{number_of}
use Rattle.refusal.specs.declared.Refusal.{Refusal}
use Rattle.flow_network.specs.declared.Carried.{Carried}
use Rattle.dimacs.specs.Form.{Form, whole, broken}
use Rattle.flow_problem.specs.Answer.{Outcome, carried, refused}
use Rattle.flow_problem.specs.Promise.{Slices}

-- an answer in the paper's numbers and values
abbrev pub outcome : Result Carried Refusal → Outcome
outcome (Ok c) = carried c.total
outcome (Err r) = refused (number_of r.cause) r.place

-- the count of arcs that is told beside a flow; a refusal tells none
abbrev pub count_in : Result Carried Refusal → ℕ
count_in (Ok c) = c.arcs
count_in (Err r) = 0

abbrev pub count_of : Outcome → ℕ → ℕ
count_of (carried total) arcs = arcs
count_of (refused number place) arcs = 0

-- how many arcs a file has, 0 where it is not of the form
abbrev pub arcs_said : Form → ℕ
arcs_said (whole f) = length f.arcs
arcs_said (broken line) = 0

-- the slices that are written
abbrev pub slices_of : List ℕ → List ℕ → List ℕ → List ℕ → List ℤ → Slices
slices_of flow starts ends ceilings costs = record { flow = flow; starts = starts; ends = ends; ceilings = ceilings; costs = costs }
