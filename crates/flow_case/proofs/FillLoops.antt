-- Loops that fill a lent slice cell by cell, and what the parts of the case are. Assumes nothing.
use mathlib.Core.Path.{◌≡◌, refl, sym, ap, ap₂, ◌∙◌}
use mathlib.Core.List.{List}
use Prim.Native.Nat.{ℕ, ◌+◌, ◌≤◌, ◌<◌}
use native.Mathlib.Numerals.{add-one}
use native.Mathlib.Decide.{ℕ_discrete}
use native.Mathlib.Omega.{arith}
use lib.ListN.{length, get_or, set, length-set}
use lib.Seq.{get_or-set_same, get_or-set_other}
use Rattle.transport.specs.Sum.{sum}
use Rattle.transport.proofs.Sums.{sum_most}
use Rattle.flow_problem.specs.Network.{at}
use Rattle.flow_problem.specs.inner.Reduce.{swap, node_of, source_of}
use Rattle.flow_case.specs.inner.Build.{into, Filled, Moderate}
use Rattle.flow_problem.proofs.SumsByNode.{cond_same, cond_other, at_same, at_other}

-- ---- a swap

pub swap_a : (a b i : ℕ) → i ≡ a → b ≡ swap a b i
unfolding swap
swap_a a b i e = sym (cond_same i a b _ e)

pub swap_b : (a b i : ℕ) → (i ≡ a → ⊥) → i ≡ b → a ≡ swap a b i
unfolding swap
swap_b a b i d e = sym (cond_other i a b _ d ∙ cond_same i b a i e)

pub swap_neither : (a b i : ℕ) → (i ≡ a → ⊥) → (i ≡ b → ⊥) → i ≡ swap a b i
unfolding swap
swap_neither a b i d e = sym (cond_other i a b _ d ∙ cond_other i b a i e)

pub node_is : (w v s x y r : ℕ) → x ≡ swap 0 w v → y ≡ swap 1 x s → r ≡ swap 0 w y → r ≡ node_of w v s
unfolding node_of
node_is w v s x y r e d f = f ∙ ap (swap 0 w) (d ∙ ap (λ (k : ℕ). swap 1 k s) e)

pub source_is : (w v i x y r : ℕ) → x ≡ swap 0 w v → y ≡ swap 0 w i → r ≡ swap 1 x y → r ≡ source_of w v i
unfolding source_of
source_is w v i x y r e d f = f ∙ ap₂ (λ (k l : ℕ). swap 1 k l) e d

-- ---- sums

pub into_none : (ends ceilings : List ℕ) (id : ℕ) → 0 ≡ into ends ceilings id 0
unfolding into sum
into_none ends ceilings id = refl

pub into_next : (ends ceilings : List ℕ) (id n v s : ℕ) → v ≡ at (get_or ends n 0) id (get_or ceilings n 0) → s ≡ into ends ceilings id n → s + v ≡ into ends ceilings id (n + 1)
unfolding into sum
into_next ends ceilings id n v s e d = ap₂ (λ (a b : ℕ). a + b) d e ∙ ap (λ (k : ℕ). sum k (λ k. at (get_or ends k 0) id (get_or ceilings k 0))) (sym (add-one n))

pub at_most_value : (a b v : ℕ) → at a b v ≤ v
at_most_value a b v = elim (ℕ_discrete a b) [ yes e ↦ omega (arith, at_same a b v e) | no d ↦ omega (arith, at_other a b v d) ]

pub at_yes : (a b v : ℕ) → a ≡ b → v ≡ at a b v
at_yes a b v e = sym (at_same a b v e)

pub at_no : (a b v : ℕ) → (a ≡ b → ⊥) → 0 ≡ at a b v
at_no a b v d = sym (at_other a b v d)

-- ---- cells

module _ (f : ℕ → ℕ) (before : List ℕ) where
  pub filled_none : Filled f 0 before before
  filled_none = record { long = refl; here = λ k h. absurd (omega arith); above = λ k h. refl }

  pub filled_next : (n v : ℕ) (now : List ℕ) → n < length before → v ≡ f n → Filled f n before now → Filled f (n + 1) before (set now n v)
  filled_next n v now h e r = record {
    long = length-set now n v ∙ r.long;
    here = λ k l. elim (ℕ_discrete k n) [
      | yes q ↦ ap (λ (i : ℕ). get_or (set now n v) i 0) q ∙ get_or-set_same now n v 0 (omega (arith, r.long)) ∙ e ∙ ap f (sym q)
      | no q ↦ get_or-set_other now n k v 0 q ∙ r.here k (omega arith)
    ];
    above = λ k l. get_or-set_other now n k v 0 (λ z. omega arith) ∙ r.above k (omega arith);
  }

-- the ceilings into a node are at most 256,000
pub into_most : (ends ceilings : List ℕ) (id : ℕ) → length ends ≡ length ceilings → Moderate ceilings → into ends ceilings id (length ends) ≤ 256000
unfolding into
into_most ends ceilings id e h =
    let q = sum_most (length ends) 4000 (λ k. at (get_or ends k 0) id (get_or ceilings k 0))
    (λ k l. let s = h.small k (omega (arith, e)) in omega (arith, at_most_value (get_or ends k 0) id (get_or ceilings k 0))) in
    omega (arith, q, h.few, e)
