-- A loop that copies one range of cells to another, apart from it. Assumes nothing.
use mathlib.Core.Path.{◌≡◌, sym, ap, ap₂, ◌∙◌}
use mathlib.Core.Logic.{⊎_elim}
use mathlib.Core.List.{List, ◌++◌}
use Prim.Native.Nat.{ℕ, ◌+◌, ◌≤◌, ◌<◌}
use native.Mathlib.Numerals.{add-one}
use native.Mathlib.Omega.{arith}
use lib.ListN.{length, get_or, set, drop, replicate, length-drop, length-replicate, get_or-replicate}
use lib.Seq.{paste, paste-zero, paste-suc, length-paste, take-length, get_or-drop}
use Rattle.transport.specs.Curve.{written}
use Rattle.work_store.specs.inner.OpenStore.{Apart}
use Rattle.work_store.proofs.ListParts.{copy_below, copy_above}

-- the first i cells are copied
pub record Copying (from to count i : ℕ) (d l : List ℕ) : Type 0 where
  pub few : i ≤ count
  pub cells : l ≡ paste d to (drop from d) i

module _ (from to count : ℕ) (d : List ℕ) (a : Apart from to count d) where
  pub copying_start : Copying from to count 0 d d
  copying_start = record { few = omega arith; cells = paste-zero d to (drop from d) }

  module _ (i : ℕ) (l : List ℕ) (c : Copying from to count i d l) where
    long : i ≤ length (drop from d)
    long = omega (arith, length-drop from d, a.from_room, c.few)

    room : to + i ≤ length d
    room = omega (arith, a.to_room, c.few)

    pub copying_length : length l ≡ length d
    copying_length = ap length c.cells ∙ length-paste d to (drop from d) i room long

    read : i < count → get_or (paste d to (drop from d) i) (from + i) 0 ≡ get_or d (from + i) 0
    read h =
        ⊎_elim (λ x. copy_below d to (drop from d) i room long (from + i) (omega arith))
        (λ x. copy_above d to (drop from d) i room long (from + i) (omega arith)) a.apart

    pub copying_next : i < count → Copying from to count (i + 1) d (set l (to + i) (get_or l (from + i) 0))
    copying_next h = record {
      few = omega arith;
      cells =
          ap₂ (λ (k : List ℕ) (v : ℕ). set k (to + i) v) c.cells
          (ap (λ (k : List ℕ). get_or k (from + i) 0) c.cells ∙ read h ∙ sym (get_or-drop from d i 0))
          ∙ paste-suc d to (drop from d) i 0 (omega (arith, a.to_room)) (omega (arith, length-drop from d, a.from_room))
          ∙ ap (paste d to (drop from d)) (sym (add-one i));
    }

    pub copying_end : count ≤ i → l ≡ paste d to (drop from d) count
    copying_end h = c.cells ∙ ap (paste d to (drop from d)) (let z : i ≡ count = omega (arith, c.few) in z)

-- ---- another list copied in

-- the first i cells of s are copied
pub record Filling {A : Type 0} (s : List A) (at i : ℕ) (d l : List A) : Type 0 where
  pub few : i ≤ length s
  pub cells : l ≡ paste d at s i

module _ {A : Type 0} (s : List A) (at : ℕ) (d : List A) (fits : at + length s ≤ length d) where
  pub filling_start : Filling s at 0 d d
  filling_start = record { few = omega arith; cells = paste-zero d at s }

  module _ (i : ℕ) (l : List A) (c : Filling s at i d l) where
    pub filling_length : length l ≡ length d
    filling_length = ap length c.cells ∙ length-paste d at s i (omega (arith, c.few)) c.few

    pub filling_next : (z : A) → i < length s → Filling s at (i + 1) d (set l (at + i) (get_or s i z))
    filling_next z h = record {
      few = omega arith;
      cells = ap (λ (k : List A). set k (at + i) (get_or s i z)) c.cells ∙ paste-suc d at s i z (omega arith) h ∙ ap (paste d at s) (sym (add-one i));
    }

    pub filling_end : length s ≤ i → l ≡ paste d at s (length s)
    filling_end h = c.cells ∙ ap (paste d at s) (let z : i ≡ length s = omega (arith, c.few) in z)

-- from the first cell on
pub filled_front : {A : Type 0} (s d : List A) → paste d 0 s (length s) ≡ written s d
filled_front s d = ap₂ (λ a (k : ℕ). a ++ drop k d) (take-length s) (let z : 0 + length s ≡ length s = omega arith in z)

-- ---- zeros

module _ (from count : ℕ) (d : List ℕ) (fits : from + count ≤ length d) where
  pub zero_fits : from + length (replicate count (let x : ℕ = 0 in x)) ≤ length d
  zero_fits = omega (arith, length-replicate count (let x : ℕ = 0 in x))

  module _ (i : ℕ) (l : List ℕ) (c : Filling (replicate count 0) from i d l) where
    pub zero_next : i < count → Filling (replicate count 0) from (i + 1) d (set l (from + i) 0)
    zero_next h =
        let n : length (replicate count (let x : ℕ = 0 in x)) ≡ count = length-replicate count 0 in
        rw (get_or-replicate {A = ℕ} count i 0 0 h) at (filling_next (replicate count 0) from d zero_fits i l c 0 (omega arith))

    pub zero_end : count ≤ i → l ≡ paste d from (replicate count 0) count
    zero_end h =
        let n : length (replicate count (let x : ℕ = 0 in x)) ≡ count = length-replicate count 0 in
        filling_end (replicate count 0) from d zero_fits i l c (omega arith) ∙ ap (paste d from (replicate count 0)) n
