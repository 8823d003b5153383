-- The network that a file is, refusals 29, 30 and 27 in this order, and what a file with a named arc and a table is answered. Assumes nothing.
use Rattle.std.specs.Prelude.{◌≡◌, Bool, true, false, not, ◌||◌, ℕ, zero, suc, ◌+◌, ◌-◌, ◌<◌, eqb, ltb, ℤ, pos, ◌≤ℤ◌, ◌<ℤ◌, length}
use mathlib.Core.List.{List, [], ◌∷◌, map, flat_map}
use Rattle.std.proofs.Math.IntN.{sub_ℕ}
use Rattle.std.specs.Int.Signed.{lt_z}
use Rattle.transport.specs.Listing.{up_from, select, least}
use Rattle.problem.specs.Integer.{eq_z, leastℤ}
use Rattle.dimacs.specs.Arc.{Arc}
use Rattle.flow_problem.specs.Network.{Network, arc_count, ceiling, supply, listed, leaving, entering, Flow, flow_total, amount, cells}
use Rattle.dimacs.specs.Lines.{supply_in, any_of, no_node, twice, bad_arc}
use Rattle.dimacs.specs.Form.{ArcLine, NodeLine, File, Form, whole, broken, form_of}

-- ---- the network

abbrev pub arcs_of : File → List Arc
arcs_of f = map (λ (v : ArcLine). v.arc) f.arcs

unfoldable pub network_of : File → Network
network_of f = record { nodes = f.nodes; supplies = cells f.nodes (λ i. supply_in (suc i) f.supplies); arcs = arcs_of f }

-- ---- refusal 30

-- does one of the numbers below k?
unfoldable pub any_below : ℕ → (ℕ → Bool) → Bool
any_below zero p = false
any_below (suc k) p = any_below k p || p k

-- how many cells are lent for the flow and for the arcs' starts, ends, ceilings and costs
pub record Room : Type 0 where
  pub flow : ℕ
  pub starts : ℕ
  pub ends : ℕ
  pub ceilings : ℕ
  pub costs : ℕ

abbrev pub too_short : Room → ℕ → Bool
too_short r n = ltb r.flow n || (ltb r.starts n || (ltb r.ends n || (ltb r.ceilings n || ltb r.costs n)))

-- the numbers of the file
unfoldable pub bad_file : File → Bool
bad_file f =
    ltb 32 f.nodes
    || (ltb 64 (length f.arcs)
    || (any_of (λ (v : NodeLine). no_node f.nodes v.id) f.supplies
    || (twice f.supplies
    || (any_of (bad_arc f.nodes) f.arcs
    || any_below f.nodes (λ i. lt_z (pos 4000) (amount (network_of f) i))))))

-- the arc's place from 1, and the table: an entry for each flow 0 to its ceiling, each 0 to 1,000,000,000
unfoldable pub bad_name : Network → ℕ → List ℕ → Bool
bad_name g place table =
    ltb place 1
    || (ltb (arc_count g) place || (not (eqb (length table) (ceiling g (place - 1) + 1)) || any_of (λ e. ltb 1000000000 e) table))

unfoldable pub out_of_limits : File → ℕ → List ℕ → Room → Bool
out_of_limits f place table room = bad_file f || (bad_name (network_of f) place table || too_short room (length f.arcs))

-- ---- all flows

-- every list of amounts within the arcs' ceilings
unfoldable pub amount_lists : List Arc → List (List ℕ)
amount_lists [] = [] ∷ []
amount_lists (a ∷ l) = flat_map (λ v. map (λ w. v ∷ w) (amount_lists l)) (up_from 0 (suc a.ceiling))

-- is what leaves node i minus what enters it something else than its supply?
abbrev pub lost : Network → List ℕ → ℕ → Bool
lost g x i = not (eq_z (sub_ℕ (leaving g (listed x) i) (entering g (listed x) i)) (supply g i))

unfoldable pub flows : Network → List (List ℕ)
flows g = select (λ x. not (any_below g.nodes (lost g x))) (amount_lists g.arcs)

-- the least total of any flow
unfoldable pub least_total : Network → ℕ → List ℕ → ℤ
least_total g named table = leastℤ (map (flow_total g named table) (flows g))

-- the smallest flow on the named arc of the flows that have it
unfoldable pub named_flow : Network → ℕ → List ℕ → ℕ
named_flow g named table = least (map (λ x. listed x named) (select (λ x. eq_z (flow_total g named table x) (least_total g named table)) (flows g)))

-- x is a flow, the total is its own, no flow has a lower one, and each with less on the named arc has a higher one: so what it has there is the
-- definition's
pub record CheapestFlow (g : Network) (named : ℕ) (table x : List ℕ) (total : ℤ) : Type 0 where
  pub flow : Flow g x
  pub own_total : flow_total g named table x ≡ total
  pub least : (z : List ℕ) → Flow g z → total ≤ℤ flow_total g named table z
  pub smaller : (z : List ℕ) → Flow g z → listed z named < listed x named → total <ℤ flow_total g named table z
  pub on_named : listed x named ≡ named_flow g named table

-- ---- the answer

pub data Outcome : Type 0 where
  -- the total of the flow given
  carried : ℤ → Outcome
  -- number, place
  refused : ℕ → ℕ → Outcome

-- refusal 27 where there is no flow
abbrev pub flow_outcome : List (List ℕ) → ℤ → Outcome
flow_outcome [] total = refused 27 0
flow_outcome (x ∷ l) total = carried total

unfoldable pub limited : File → ℕ → List ℕ → Room → Outcome
limited f place table room =
    elim (out_of_limits f place table room) [
      | true ↦ refused 30 0
      | false ↦ flow_outcome (flows (network_of f)) (least_total (network_of f) (place - 1) table)
    ]

unfoldable pub judged : Form → ℕ → List ℕ → Room → Outcome
judged (broken line) place table room = refused 29 line
judged (whole f) place table room = limited f place table room

-- 29, 30, 27
unfoldable pub outcome_of : List ℕ → ℕ → List ℕ → Room → Outcome
outcome_of bytes place table room = judged (form_of bytes) place table room
