-- How the lowering of the potentials goes on by one node. Assumes nothing.
use mathlib.Core.Path.{◌≡◌, refl, ◌∙◌}
use mathlib.Core.List.{List}
use Prim.Native.Nat.{ℕ, zero, suc, min, ◌+◌, ◌-◌, ◌≤◌, ◌<◌}
use native.Mathlib.Decide.{ℕ_discrete}
use native.Mathlib.Numerals.{add-one}
use native.Mathlib.Omega.{arith}
use lib.ListN.{length, set, length-set}
use lib.Seq.{get_or-set_same, get_or-set_other}
use Rattle.residual.specs.inner.Network.{get}
use Rattle.augment.specs.inner.Potentials.{Lowered}

pub lower_start : {D : ℕ} {T p : List ℕ} → length p ≡ 96 → Lowered D T p 0 p
lower_start e = record { long = e; down = λ v h. absurd (omega arith); rest = λ v h. refl }

pub lower_next : {D : ℕ} {T p p' : List ℕ} {k a : ℕ} → Lowered D T p k p' → k < 96 → a ≡ min (get p' k) (get T k - D) → Lowered D T p (k + 1) (set p' k a)
lower_next {D} {T} {p} {p'} {k} {a} q h e = record {
  long = length-set p' k a ∙ q.long;
  down = λ v l. elim (ℕ_discrete v k) [
    | yes z ↦ rw z (omega (arith, get_or-set_same p' k a 0 (omega (arith, q.long)), q.rest k (omega arith)))
    | no z ↦ get_or-set_other p' k v a 0 z ∙ q.down v (omega arith)
  ];
  rest = λ v l. get_or-set_other p' k v a 0 (omega arith) ∙ q.rest v (omega arith);
}

pub lower_end : {D : ℕ} {T p p' : List ℕ} {k : ℕ} → Lowered D T p k p' → 96 ≤ k → k ≤ 96 → Lowered D T p 96 p'
lower_end q h l = record { long = q.long; down = λ v o. q.down v (omega arith); rest = λ v o. q.rest v (omega arith) }

-- there are lowered potentials
lower_some : (D : ℕ) (T p : List ℕ) → length p ≡ 96 → (k : ℕ) → k ≤ 96 → (p' : List ℕ) × Lowered D T p k p'
lower_some D T p e zero h = (p, lower_start e)
lower_some D T p e (suc k) h =
    let q = lower_some D T p e k (omega arith) in (set q.0 k (min (get q.0 k) (get T k - D)), rw add-one at (lower_next q.1 h refl))

pub lowers : (D : ℕ) (T p : List ℕ) → length p ≡ 96 → (p' : List ℕ) × Lowered D T p 96 p'
lowers D T p e = lower_some D T p e 96 (omega arith)
