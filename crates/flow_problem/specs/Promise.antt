-- All that is promised of an answer to a network. Assumes nothing.
use Rattle.std.specs.Prelude.{◌≡◌, List, map, ℕ, ◌-◌, ℤ, length}
use Rattle.transport.specs.Curve.{written}
use Rattle.dimacs.specs.Arc.{Arc}
use Rattle.dimacs.specs.Form.{File, whole, form_of}
use Rattle.flow_problem.specs.Answer.{CheapestFlow, arcs_of, network_of, Room, Outcome, carried, refused, outcome_of}

-- what the lent slices hold: the flow, and the arcs in file order
pub record Slices : Type 0 where
  pub flow : List ℕ
  pub starts : List ℕ
  pub ends : List ℕ
  pub ceilings : List ℕ
  pub costs : List ℤ

abbrev pub room_of : Slices → Room
room_of s = record {
  flow = length s.flow;
  starts = length s.starts;
  ends = length s.ends;
  ceilings = length s.ceilings;
  costs = length s.costs;
}

-- a flow was given: on the arcs but the named one it is left to the program, so it is named, with what holds of it
pub record Given (f : File) (place : ℕ) (table : List ℕ) (total : ℤ) (before after : Slices) : Type 0 where
  pub amounts : List ℕ
  pub cheapest : CheapestFlow (network_of f) (place - 1) table amounts total
  pub flow : after.flow ≡ written amounts before.flow
  pub starts : after.starts ≡ written (map (λ (a : Arc). a.start) (arcs_of f)) before.starts
  pub ends : after.ends ≡ written (map (λ (a : Arc). a.end) (arcs_of f)) before.ends
  pub ceilings : after.ceilings ≡ written (map (λ (a : Arc). a.ceiling) (arcs_of f)) before.ceilings
  pub costs : after.costs ≡ written (map (λ (a : Arc). a.cost) (arcs_of f)) before.costs

-- the promise: the answer is the definition's; a flow and the arcs are written as said; a refusal changes no cell
pub record Answered (bytes : List ℕ) (place : ℕ) (table : List ℕ) (r : Outcome) (before after : Slices) : Type 0 where
  pub answer : r ≡ outcome_of bytes place table (room_of before)
  pub given : (f : File) (total : ℤ) → form_of bytes ≡ whole f → r ≡ carried total → Given f place table total before after
  pub kept : (k p : ℕ) → r ≡ refused k p → after ≡ before
