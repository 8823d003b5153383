-- The cells cut to a file's arcs: contracts of private functions. Assumes nothing.
use Rattle.std.specs.Prelude.{◌≡◌, List, ℕ, ◌-◌, ◌≤◌, ◌<◌, ℤ, length, get_or, take, Result, Ok, Err}
use Rattle.csv_answers.specs.Flow.{flow_text}
use Rattle.csv_answers.specs.inner.FlowFits.{FlowFits}
use Rattle.dimacs.specs.Form.{File, whole, broken, form_of}
use Rattle.dimacs.specs.declared.store.Reading.{Reading}
use Rattle.refusal.specs.declared.Cause.TheVariants as causes
use Rattle.refusal.specs.declared.Refusal.{Refusal}

-- the line of 29, or there is none
abbrev pub FormedIs : List ℕ → Result Reading Refusal → Type 0
FormedIs s (Err r) = (form_of s ≡ broken r.place) × (r.cause ≡ causes.Line)
FormedIs s (Ok reading) = (f : File) × (form_of s ≡ whole f)

-- the entry at the named arc's flow
abbrev pub charge_in : ℕ → List ℕ → List ℕ → ℕ
charge_in place table flow = get_or table (get_or flow (place - 1) 0) 0

-- the first cells can be printed
pub record ArcsCut (count place : ℕ) (table flow starts ends : List ℕ) (costs : List ℤ) : Type 0 where
  pub placed : 1 ≤ place
  pub named : place - 1 < length flow
  pub charged : get_or flow (place - 1) 0 < length table
  pub in_flow : count ≤ length flow
  pub in_starts : count ≤ length starts
  pub in_ends : count ≤ length ends
  pub in_costs : count ≤ length costs
  pub fits : FlowFits (charge_in place table flow) (take count starts) (take count ends) (take count flow) (take count costs)

abbrev pub cut_text : ℤ → ℕ → ℕ → List ℕ → List ℕ → List ℕ → List ℕ → List ℤ → List ℕ
cut_text total count place table flow starts ends costs =
    flow_text total (place - 1) (charge_in place table flow) (take count starts) (take count ends) (take count flow) (take count costs)
