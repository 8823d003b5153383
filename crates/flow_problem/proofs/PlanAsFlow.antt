-- A plan by nodes and a flow that belong together: what a node sends, and conservation at the node. Assumes nothing.
use mathlib.Core.Path.{◌≡◌, sym, ap, ◌∙◌}
use mathlib.Core.Logic.{◌≢◌}
use mathlib.Core.Bool.{cond}
use Prim.Native.Nat.{ℕ, ◌+◌, ◌<◌}
use native.Mathlib.Decide.{ℕ_discrete}
use native.Mathlib.Omega.{arith}
use lib.Dec.{eqb}
use Rattle.transport.specs.Sum.{sum}
use Rattle.transport.proofs.Sums.{sum_ext, sum_add, sum_change}
use Rattle.flow_problem.specs.Network.{at}
use Rattle.flow_problem.proofs.SumsByNode.{cond_same, cond_other, at_same, at_other, sum_except, regroup}

-- nodes and arcs: where each arc starts and ends, two nodes, its ceiling; and the named arc
pub record Graph (nodes n : ℕ) (s e : ℕ → ℕ) (named : ℕ) : Type 0 where
  pub starts : (j : ℕ) → j < n → s j < nodes
  pub ends : (j : ℕ) → j < n → e j < nodes
  pub apart : (j : ℕ) → j < n → s j ≢ e j
  pub place : named < n

-- node i sends z i j to arc j: the start of arc j the flow f j, its end the rest of the ceiling u j, no other node anything; nothing to the named arc
pub record Carries (nodes n : ℕ) (s e u : ℕ → ℕ) (named : ℕ) (z : ℕ → ℕ → ℕ) (f : ℕ → ℕ) : Type 0 where
  pub off : (i j : ℕ) → i < nodes → j < n → j ≢ named → i ≢ s j → i ≢ e j → z i j ≡ 0
  pub first : (j : ℕ) → j < n → j ≢ named → z (s j) j ≡ f j
  pub rest : (j : ℕ) → j < n → j ≢ named → z (e j) j + f j ≡ u j
  pub none : (i : ℕ) → i < nodes → z i named ≡ 0

-- the sum at node i over all arcs but the named one
others : ℕ → (ℕ → ℕ) → ℕ → (ℕ → ℕ) → ℕ → ℕ
others n e named f i = sum n (λ j. cond (eqb j named) 0 (at (e j) i (f j)))

others_all : (n : ℕ) (e : ℕ → ℕ) (named : ℕ) (f : ℕ → ℕ) (i : ℕ) → named < n
    → sum n (λ j. at (e j) i (f j)) ≡ others n e named f i + at (e named) i (f named)
unfolding others
others_all n e named f i l = sum_except n named (λ j. at (e j) i (f j)) l

module _ {nodes n : ℕ} {s e u : ℕ → ℕ} {named : ℕ} (g : Graph nodes n s e named) {z : ℕ → ℕ → ℕ} {f : ℕ → ℕ} (c : Carries nodes n s e u named z f) where
  cell : (i j : ℕ) → i < nodes → j < n → j ≢ named → Dec (i ≡ s j) → Dec (i ≡ e j) → z i j + at (e j) i (f j) ≡ at (s j) i (f j) + at (e j) i (u j)
  cell i j l h d (yes p) (yes q) = absurd (g.apart j h (sym p ∙ q))
  cell i j l h d (yes p) (no q) =
      omega (
        arith,
        ap (λ (k : ℕ). z k j) p,
        c.first j h d,
        at_other (e j) i (f j) (λ r. q (sym r)),
        at_other (e j) i (u j) (λ r. q (sym r)),
        at_same (s j) i (f j) (sym p),
      )
  cell i j l h d (no p) (yes q) =
      omega (
        arith,
        ap (λ (k : ℕ). z k j) q,
        c.rest j h d,
        at_same (e j) i (f j) (sym q),
        at_same (e j) i (u j) (sym q),
        at_other (s j) i (f j) (λ r. p (sym r)),
      )
  cell i j l h d (no p) (no q) =
      omega (
        arith,
        c.off i j l h d p q,
        at_other (e j) i (f j) (λ r. q (sym r)),
        at_other (e j) i (u j) (λ r. q (sym r)),
        at_other (s j) i (f j) (λ r. p (sym r)),
      )

  member : (i j : ℕ) → i < nodes → j < n → Dec (j ≡ named)
      → z i j + cond (eqb j named) 0 (at (e j) i (f j)) ≡ cond (eqb j named) 0 (at (s j) i (f j)) + cond (eqb j named) 0 (at (e j) i (u j))
  member i j l h (yes d) =
      omega (
        arith,
        ap (z i) d,
        c.none i l,
        cond_same j named 0 (at (e j) i (f j)) d,
        cond_same j named 0 (at (s j) i (f j)) d,
        cond_same j named 0 (at (e j) i (u j)) d,
      )
  member i j l h (no d) =
      omega (
        arith,
        cell i j l h d (ℕ_discrete i (s j)) (ℕ_discrete i (e j)),
        cond_other j named 0 (at (e j) i (f j)) d,
        cond_other j named 0 (at (s j) i (f j)) d,
        cond_other j named 0 (at (e j) i (u j)) d,
      )

  -- what node i sends and what enters it is what leaves it and the ceilings into it, the named arc aside
  sent : (i : ℕ) → i < nodes → sum n (z i) + others n e named f i ≡ others n s named f i + others n e named u i
  unfolding others
  sent i l =
      sym (sum_add n (z i) (λ j. cond (eqb j named) 0 (at (e j) i (f j))))
      ∙ sum_ext n _ _ (λ j h. member i j l h (ℕ_discrete j named))
      ∙ sum_add n (λ j. cond (eqb j named) 0 (at (s j) i (f j))) (λ j. cond (eqb j named) 0 (at (e j) i (u j)))

  -- the same with the named arc
  pub sends : (i : ℕ) → i < nodes
      → sum n (z i) + sum n (λ j. at (e j) i (f j)) + at (s named) i (f named) + at (e named) i (u named)
      ≡ sum n (λ j. at (s j) i (f j)) + sum n (λ j. at (e j) i (u j)) + at (e named) i (f named)
  sends i l =
      omega (
        arith,
        sent i l,
        others_all n e named f i g.place,
        others_all n s named f i g.place,
        others_all n e named u i g.place,
      )

-- conservation at node i, in naturals: what leaves and all ceilings into it are its amount and what enters
abbrev pub Kept : ℕ → (ℕ → ℕ) → (ℕ → ℕ) → (ℕ → ℕ) → (ℕ → ℕ) → (ℕ → ℕ) → ℕ → Type 0
Kept n s e u a f i = sum n (λ j. at (s j) i (f j)) + sum n (λ j. at (e j) i (u j)) ≡ a i + sum n (λ j. at (e j) i (f j))

-- where amounts and ceilings sum alike, conservation at every node but one is conservation at every node
pub kept_last : {nodes n : ℕ} {s e : ℕ → ℕ} {named : ℕ} → Graph nodes n s e named → (u a f : ℕ → ℕ) → sum nodes a ≡ sum n u
    → (v : ℕ) → v < nodes → ((i : ℕ) → i < nodes → i ≢ v → Kept n s e u a f i) → Kept n s e u a f v
kept_last {nodes} {n} {s} {e} g u a f q v l h =
    let out : ℕ → ℕ = λ i. sum n (λ j. at (s j) i (f j)) in
    let inn : ℕ → ℕ = λ i. sum n (λ j. at (e j) i (f j)) in
    let most : ℕ → ℕ = λ i. sum n (λ j. at (e j) i (u j)) in
    omega (
      arith,
      sum_change nodes v (λ i. out i + most i) (λ i. a i + inn i) l h,
      sum_add nodes out most,
      sum_add nodes a inn,
      regroup nodes n s f g.starts,
      regroup nodes n e f g.ends,
      regroup nodes n e u g.ends,
      q,
    )
