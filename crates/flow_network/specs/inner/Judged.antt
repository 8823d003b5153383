-- What a network in slices is answered, once the file's own limits are passed: contracts. Assumes nothing.
use Rattle.std.specs.Prelude.{◌≡◌, Bool, true, false, not, ◌||◌, List, ℕ, ◌+◌, ◌-◌, ◌<◌, eqb, ltb, ℤ, pos, length, get_or}
use Rattle.std.specs.Int.Signed.{lt_z}
use Rattle.transport.specs.Curve.{written}
use Rattle.flow_problem.specs.Network.{Network, arc_count, amount}
use Rattle.flow_case.specs.inner.Build.{have_in, dear_at}
use Rattle.flow_problem.specs.Answer.{CheapestFlow, any_below, Room, too_short, bad_name, flows, least_total, Outcome, carried, refused, flow_outcome}
use Rattle.flow_problem.specs.Promise.{Slices, room_of}

-- 30 for the amounts, the name and the room; then the flows
abbrev pub beyond : Network → ℕ → List ℕ → Room → Bool
beyond g place table room = any_below g.nodes (λ i. lt_z (pos 4000) (amount g i)) || (bad_name g place table || too_short room (arc_count g))

unfoldable pub judged_net : Network → ℕ → List ℕ → Room → Outcome
judged_net g place table room =
    elim (beyond g place table room) [
      | true ↦ refused 30 0
      | false ↦ flow_outcome (flows g) (least_total g (place - 1) table)
    ]

-- the name and the table by the ceilings' slice
abbrev pub bad_name_in : List ℕ → ℕ → List ℕ → Bool
bad_name_in ceilings place table =
    ltb place 1 || (ltb (length ceilings) place || (not (eqb (length table) (get_or ceilings (place - 1) 0 + 1)) || any_below (length table) (dear_at table)))

-- cells that hold what each node has
pub record Holding (gives ends ceilings haves : List ℕ) : Type 0 where
  pub long : length haves ≡ length gives
  pub hold : (i : ℕ) → i < length gives → get_or haves i 0 ≡ have_in ends ceilings gives i

-- a flow was given, and the arcs copied
pub record Told (g : Network) (s e u : List ℕ) (c : List ℤ) (place : ℕ) (table : List ℕ) (total : ℤ) (before after : Slices) : Type 0 where
  pub amounts : List ℕ
  pub cheapest : CheapestFlow g (place - 1) table amounts total
  pub flow : after.flow ≡ written amounts before.flow
  pub starts : after.starts ≡ written s before.starts
  pub ends : after.ends ≡ written e before.ends
  pub ceilings : after.ceilings ≡ written u before.ceilings
  pub costs : after.costs ≡ written c before.costs

pub record Judged (g : Network) (s e u : List ℕ) (c : List ℤ) (place : ℕ) (table : List ℕ) (r : Outcome) (before after : Slices) : Type 0 where
  pub answer : r ≡ judged_net g place table (room_of before)
  pub given : (total : ℤ) → r ≡ carried total → Told g s e u c place table total before after
  pub kept : (k p : ℕ) → r ≡ refused k p → after ≡ before
