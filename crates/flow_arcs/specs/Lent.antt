-- All that is promised of an answer to a network whose arcs go to a slice of structs. Assumes nothing.
use Rattle.std.specs.Prelude.{◌≡◌, List, map, ℕ, ◌-◌, ◌≤◌, ℤ, pos, length, get_or, replicate}
use Rattle.transport.specs.Curve.{written}
use Rattle.dimacs.specs.Arc as file
use Rattle.dimacs.specs.Form.{File, whole, form_of}
use Rattle.flow_problem.specs.Network.{cells}
use Rattle.flow_problem.specs.Answer.{CheapestFlow, arcs_of, network_of, Room, Outcome, carried, refused, outcome_of}
use Rattle.flow_network.specs.Answer.{outcome, count_in}
use Rattle.flow_arcs.specs.declared.Arc.{Arc}
use Rattle.flow_arcs.specs.declared.find.Found.{Found}

-- an arc of the file as the slice holds it
abbrev pub lent_arc : file.Arc → Arc
lent_arc a = record { start = a.start; end = a.end; ceiling = a.ceiling; cost = a.cost }

-- the cells lent for the flow, and those for the arcs, each of which takes the four numbers of an arc
abbrev pub room_for : ℕ → ℕ → Room
room_for flow arcs = record { flow = flow; starts = arcs; ends = arcs; ceilings = arcs; costs = arcs }

-- a flow was given: on the arcs but the named one it is left to the program, so it is named, with what holds of it
pub record ArcsGiven (f : File) (place : ℕ) (table : List ℕ) (total : ℤ) (flowBefore flowAfter : List ℕ) (arcsBefore arcsAfter : List Arc) : Type 0 where
  pub amounts : List ℕ
  pub cheapest : CheapestFlow (network_of f) (place - 1) table amounts total
  pub flow : flowAfter ≡ written amounts flowBefore
  pub arcs : arcsAfter ≡ written (map lent_arc (arcs_of f)) arcsBefore

-- the promise: the answer is the definition's; a flow and the arcs in file order are written to the front; a refusal changes no cell
pub record ArcsAnswered (bytes : List ℕ) (place : ℕ) (table : List ℕ) (r : Outcome) (flowBefore flowAfter : List ℕ) (arcsBefore arcsAfter : List Arc) : Type 0 where
  pub answer : r ≡ outcome_of bytes place table (room_for (length flowBefore) (length arcsBefore))
  pub given : (f : File) (total : ℤ) → form_of bytes ≡ whole f → r ≡ carried total → ArcsGiven f place table total flowBefore flowAfter arcsBefore arcsAfter
  pub kept : (k p : ℕ) → r ≡ refused k p → (flowAfter ≡ flowBefore) × (arcsAfter ≡ arcsBefore)

-- ---- the functions below: what is found is kept in arrays of 64 cells

-- arc i, and the arcs to be written
abbrev pub arc_at : Found → ℕ → Arc
arc_at r i = record { start = get_or r.starts i 0; end = get_or r.ends i 0; ceiling = get_or r.ceilings i 0; cost = get_or r.costs i (pos 0) }

abbrev pub arcs_found : Found → List Arc
arcs_found r = cells r.count (arc_at r)

pub record FoundGiven (f : File) (place : ℕ) (table : List ℕ) (total : ℤ) (flowBefore flowAfter : List ℕ) (r : Found) : Type 0 where
  pub amounts : List ℕ
  pub cheapest : CheapestFlow (network_of f) (place - 1) table amounts total
  pub flow : flowAfter ≡ written amounts flowBefore
  pub arcs : arcs_found r ≡ map lent_arc (arcs_of f)
  pub starts : r.starts ≡ written (map (λ (a : file.Arc). a.start) (arcs_of f)) (replicate 64 0)
  pub ends : r.ends ≡ written (map (λ (a : file.Arc). a.end) (arcs_of f)) (replicate 64 0)
  pub ceilings : r.ceilings ≡ written (map (λ (a : file.Arc). a.ceiling) (arcs_of f)) (replicate 64 0)
  pub costs : r.costs ≡ written (map (λ (a : file.Arc). a.cost) (arcs_of f)) (replicate 64 (pos 0))

-- a refusal: no arcs, and 0 in each cell
pub record NoneFound (r : Found) : Type 0 where
  pub count : r.count ≡ 0
  pub starts : r.starts ≡ replicate 64 0
  pub ends : r.ends ≡ replicate 64 0
  pub ceilings : r.ceilings ≡ replicate 64 0
  pub costs : r.costs ≡ replicate 64 (pos 0)

-- all that is found: each array holds the arcs' numbers and 0 after them
pub record FoundIs (bytes : List ℕ) (place : ℕ) (table : List ℕ) (room : ℕ) (flowBefore flowAfter : List ℕ) (r : Found) : Type 0 where
  pub answer : outcome r.answer ≡ outcome_of bytes place table (room_for (length flowBefore) room)
  pub given : (f : File) (total : ℤ) → form_of bytes ≡ whole f → outcome r.answer ≡ carried total → FoundGiven f place table total flowBefore flowAfter r
  pub kept : (k p : ℕ) → outcome r.answer ≡ refused k p → (flowAfter ≡ flowBefore) × NoneFound r
  pub counted : r.count ≡ count_in r.answer
  pub few : r.count ≤ 64
  pub fits : r.count ≤ room
