-- A network in slices that passed refusal 30 and the two checks, with an arc named and its table; and what is made of it: contracts. Assumes nothing.
use Rattle.std.specs.Prelude.{◌≡◌, false, ◌≢◌, List, ℕ, ◌+◌, ◌≤◌, ◌<◌, ℤ, pos, length, get_or, Option, Some, None}
use Rattle.transport.specs.Sum.{sum}
use Rattle.transport.specs.Curve.{written}
use Rattle.problem.specs.Range.{outside}
use Rattle.problem.specs.Promise.{Bounded}
use Rattle.flow_problem.specs.Network.{Network, NoFlow}
use Rattle.flow_problem.specs.Answer.{CheapestFlow}
use Rattle.flow_case.specs.inner.Build.{have_in}

-- the arcs: each leads from one node to another, with a ceiling and a cost in range
pub record Arcs (nodes : ℕ) (starts ends ceilings : List ℕ) (costs : List ℤ) : Type 0 where
  pub few : length starts ≤ 64
  pub ends_long : length ends ≡ length starts
  pub ceilings_long : length ceilings ≡ length starts
  pub costs_long : length costs ≡ length starts
  pub start_low : (j : ℕ) → j < length starts → 1 ≤ get_or starts j 0
  pub start_high : (j : ℕ) → j < length starts → get_or starts j 0 ≤ nodes
  pub end_low : (j : ℕ) → j < length starts → 1 ≤ get_or ends j 0
  pub end_high : (j : ℕ) → j < length starts → get_or ends j 0 ≤ nodes
  pub apart : (j : ℕ) → j < length starts → get_or starts j 0 ≢ get_or ends j 0
  pub ceiling_most : (j : ℕ) → j < length starts → get_or ceilings j 0 ≤ 4000
  pub cost_inside : (j : ℕ) → j < length starts → outside (get_or costs j (pos 0)) ≡ false

-- the amounts: from 0 to 4,000, and the supplies sum to 0
pub record Amounts (gives takes haves ends ceilings : List ℕ) : Type 0 where
  pub few : length gives ≤ 32
  pub takes_long : length takes ≡ length gives
  pub haves_long : length haves ≡ length gives
  pub hold : (i : ℕ) → i < length gives → get_or haves i 0 ≡ have_in ends ceilings gives i
  pub enough : (i : ℕ) → i < length gives → get_or takes i 0 ≤ get_or haves i 0
  pub most : (i : ℕ) → i < length gives → get_or haves i 0 ≤ get_or takes i 0 + 4000
  pub even : sum (length gives) (λ i. get_or gives i 0) ≡ sum (length gives) (λ i. get_or takes i 0)

-- the named arc and its table
pub record Named (starts : List ℕ) (named : ℕ) (table : List ℕ) : Type 0 where
  pub place : named < length starts
  pub small : (y : ℕ) → get_or table y 0 ≤ 1000000000

-- a flow was given, or there is none
abbrev pub CarriedAs : Network → ℕ → List ℕ → List ℕ → List ℕ → Option ℤ → Type 0
CarriedAs g named table before after (Some total) = (x : List ℕ) × CheapestFlow g named table x total × (after ≡ written x before) × Bounded total
CarriedAs g named table before after None = NoFlow g × (after ≡ before)

pub record CarriedIs (g : Network) (named : ℕ) (table before after : List ℕ) (r : Option ℤ) : Type 0 where
  pub told : CarriedAs g named table before after r
