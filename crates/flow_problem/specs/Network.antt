-- A network in which one arc is named: its nodes, supplies and arcs, a flow and its total. The file numbers nodes from 1; here nodes and arcs are
-- counted from 0. Assumes nothing.
use Rattle.std.specs.Prelude.{◌≡◌, cond, List, [], ◌∷◌, ℕ, zero, suc, ◌-◌, ◌≤◌, ◌<◌, eqb, ℤ, pos, ◌+ℤ◌, ◌*ℤ◌, length, get_or}
use Rattle.std.proofs.Math.IntN.{sub_ℕ}
use Rattle.transport.specs.Sum.{sum}
use Rattle.dimacs.specs.Arc.{Arc, arc}
use Rattle.problem.specs.Integer.{sumℤ}

-- a list made from its places: f 0, f 1, .., n of them
unfoldable pub cells {ℓ} : {A : Type ℓ} → ℕ → (ℕ → A) → List A
cells zero f = []
cells (suc n) f = f 0 ∷ cells n (λ j. f (suc j))

-- a supply for each node (0 for a node without an n line), and the arcs in file order
pub record Network : Type 0 where
  pub nodes : ℕ
  pub supplies : List ℤ
  pub arcs : List Arc

abbrev pub arc_count : Network → ℕ
arc_count g = length g.arcs

abbrev pub arc_at : Network → ℕ → Arc
arc_at g k = get_or g.arcs k (arc 0 0 0 (pos 0))

-- where arc k starts and ends, its ceiling u_ij and its cost c_ij
abbrev pub start : Network → ℕ → ℕ
start g k = (arc_at g k).start - 1

abbrev pub end : Network → ℕ → ℕ
end g k = (arc_at g k).end - 1

abbrev pub ceiling : Network → ℕ → ℕ
ceiling g k = (arc_at g k).ceiling

abbrev pub cost : Network → ℕ → ℤ
cost g k = (arc_at g k).cost

-- b_i
abbrev pub supply : Network → ℕ → ℤ
supply g i = get_or g.supplies i (pos 0)

-- a number for each arc, of the list in file order
abbrev pub listed : List ℕ → ℕ → ℕ
listed x k = get_or x k 0

-- v where the two numbers are the same, else 0
unfoldable pub at : ℕ → ℕ → ℕ → ℕ
at i j v = cond (eqb i j) v 0

-- over all arcs that start at node i, and over all that end there: the sum of a number for each arc
unfoldable pub leaving : Network → (ℕ → ℕ) → ℕ → ℕ
leaving g x i = sum (arc_count g) (λ k. at (start g k) i (x k))

unfoldable pub entering : Network → (ℕ → ℕ) → ℕ → ℕ
entering g x i = sum (arc_count g) (λ k. at (end g k) i (x k))

-- (FP): whole amounts, one for each arc, 0 to the ceiling; at each node what leaves minus what enters is the supply
pub record Flow (g : Network) (x : List ℕ) : Type 0 where
  pub long : length x ≡ arc_count g
  pub within : (k : ℕ) → k < arc_count g → listed x k ≤ ceiling g k
  pub conserved : (i : ℕ) → i < g.nodes → sub_ℕ (leaving g (listed x) i) (entering g (listed x) i) ≡ supply g i

-- what arc k adds to the total by its own cost: the named arc adds nothing
unfoldable pub own_cost : Network → ℕ → List ℕ → ℕ → ℤ
own_cost g named x k = cond (eqb k named) (pos 0) (cost g k *ℤ pos (listed x k))

-- the total: cost times flow over all arcs but the named one, and the table's entry at the named arc's flow
unfoldable pub flow_total : Network → ℕ → List ℕ → List ℕ → ℤ
flow_total g named table x = sumℤ (arc_count g) (own_cost g named x) +ℤ pos (listed table (listed x named))

-- no flow
abbrev pub NoFlow : Network → Type 0
NoFlow g = (x : List ℕ) → Flow g x → ⊥

-- a node's amount: its supply plus the ceilings of all arcs into it, the named one included
unfoldable pub amount : Network → ℕ → ℤ
amount g i = supply g i +ℤ pos (entering g (ceiling g) i)
