-- What the planner's promise makes of the case of a network: the answer that the definitions give. Assumes nothing.
use mathlib.Core.Path.{◌≡◌, ap, ◌∙◌}
use mathlib.Core.Bool.{true, false, not}
use mathlib.Core.List.{List}
use Prim.Native.Nat.{ℕ, ◌+◌, ◌-◌, ◌<◌}
use native.Mathlib.Omega.{arith}
use lib.Dec.{eqb, ltb}
use lib.IntN.{ℤ}
use lib.ListN.{length}
use borrow.Author.Tests.{ltb-false}
use Rattle.flow_problem.specs.Network.{Network, arc_count, ceiling}
use Rattle.problem.specs.Promise.{Cheapest, NoPlan}
use Rattle.flow_problem.specs.inner.Reduce.{case_of, flow_of}
use Rattle.flow_problem.specs.inner.Sound.{Sound, uneven}
use Rattle.dimacs.specs.Form.{File, Form, whole, broken, form_of}
use Rattle.dimacs.specs.Lines.{any_of}
use Rattle.flow_problem.specs.Answer.{CheapestFlow, network_of, Room, bad_file, bad_name, out_of_limits, flows, least_total, carried, refused, flow_outcome, limited, judged, outcome_of}
use Rattle.flow_problem.proofs.FlowListing.{carried_is, none_is}
use Rattle.flow_problem.proofs.SoundNetwork.{proper, sound, uneven_none, four}
use Rattle.flow_problem.proofs.Reduction.{cheapest_flow_lem, no_flow}
use Rattle.problem.proofs.TestsPassed.{either_first, either_second}

-- ---- within the limits

module _ (f : File) (place : ℕ) (table : List ℕ) (room : Room) (within : out_of_limits f place table room ≡ false) where
  abbrev g : Network
  g = network_of f

  abbrev k : ℕ
  k = place - 1

  file-good : bad_file f ≡ false
  unfolding out_of_limits
  file-good = either_first (bad_file f) _ within

  name-good : (ltb place 1 ≡ false) × (ltb (arc_count g) place ≡ false) × (not (eqb (length table) (ceiling g k + 1)) ≡ false) × (any_of (λ e. ltb 1000000000 e) table ≡ false)
  unfolding out_of_limits bad_name
  name-good =
      four (ltb place 1) (ltb (arc_count g) place) (not (eqb (length table) (ceiling g k + 1))) (any_of (λ e. ltb 1000000000 e) table)
      (either_first (bad_name g place table) _ (either_second (bad_file f) _ within))

  named_in : k < arc_count g
  named_in = omega (arith, ltb-false place 1 name-good.0, ltb-false (arc_count g) place name-good.1)

  limits-passed : limited f place table room ≡ flow_outcome (flows g) (least_total g k table)
  unfolding limited
  limits-passed = rw (within, limited)

  -- a check fails: no flow
  pub answer-uneven : uneven g ≡ true → limited f place table room ≡ refused 27 0
  answer-uneven e = limits-passed ∙ none_is g k table (uneven_none g (proper f file-good) e)

  module _ (even : uneven g ≡ false) where
    pub network-sound : Sound g k
    network-sound = sound g (proper f file-good) even k named_in

    -- the planner finds no plan: no flow
    pub answer-none : NoPlan (case_of g k table) → limited f place table room ≡ refused 27 0
    answer-none h = limits-passed ∙ none_is g k table (no_flow g k table network-sound h)

    -- the planner gives a plan: its total, and the flow that the plan stands for
    pub flow-given : (plan : List ℕ) (split : ℕ) (total : ℤ) → Cheapest (case_of g k table) plan split total → CheapestFlow g k table (flow_of g k plan) total
    flow-given plan split total c = cheapest_flow_lem g k table network-sound plan split total c

    pub answer-carried : (plan : List ℕ) (split : ℕ) (total : ℤ) → Cheapest (case_of g k table) plan split total → limited f place table room ≡ carried total
    answer-carried plan split total c = limits-passed ∙ carried_is g k table (flow_of g k plan) total (flow-given plan split total c)

-- ---- the whole answer, by where it is decided

module _ (bytes : List ℕ) (place : ℕ) (table : List ℕ) (room : Room) where
  pub answer-29 : (line : ℕ) → form_of bytes ≡ broken line → outcome_of bytes place table room ≡ refused 29 line
  unfolding outcome_of judged
  answer-29 line e = ap (λ (f : Form). judged f place table room) e

  pub answer-30 : (f : File) → form_of bytes ≡ whole f → out_of_limits f place table room ≡ true → outcome_of bytes place table room ≡ refused 30 0
  unfolding outcome_of judged limited
  answer-30 f e h = ap (λ (f : Form). judged f place table room) e ∙ rw (h, limited)

  pub answer-limited : (f : File) → form_of bytes ≡ whole f → outcome_of bytes place table room ≡ limited f place table room
  unfolding outcome_of judged
  answer-limited f e = ap (λ (f : Form). judged f place table room) e
