-- The unit costs by terminal, pass by pass. Assumes nothing.
use mathlib.Core.Path.{◌≡◌, ◌∙◌}
use mathlib.Core.List.{List}
use Prim.Native.Nat.{ℕ, ◌+◌, ◌*◌, ◌≤◌, ◌<◌}
use native.Mathlib.Decide.{ℕ_discrete, dec_lt}
use native.Mathlib.Omega.{arith}
use lib.ListN.{set, length-set, replicate, length-replicate, get_or-replicate, get_or-eq_default}
use lib.Seq.{get_or-set_same, get_or-set_other}
use Rattle.residual.specs.inner.Cells.{cells}
use Rattle.residual.specs.inner.Network.{get}
use Rattle.cuts.specs.inner.Columns.{TransposeReady, Filled, Transposed}

pub transpose_fewer : {k m n : ℕ} {cost : List ℕ} → TransposeReady m n cost → k ≤ n → TransposeReady m k cost
transpose_fewer r h = record { sources = r.sources; terminals = omega (arith, r.terminals); costs = λ i j a b. r.costs i j a (omega arith) }

pub fill_start : {m : ℕ} {cost : List ℕ} → Filled m cost 0 0 (replicate 2048 0)
fill_start = record {
  long = length-replicate {A = ℕ} 2048 0;
  most = λ v. elim (dec_lt v 2048) [
    | yes h ↦ omega (arith, get_or-replicate {A = ℕ} 2048 v 0 0 h)
    | no h ↦ omega (arith, get_or-eq_default {A = ℕ} (replicate 2048 0) 0 {n = v} (omega (arith, length-replicate {A = ℕ} 2048 0)))
  ];
  each = λ i t a b. absurd (omega arith);
  here = λ i a. absurd (omega arith);
}

pub fill_next : {m : ℕ} {cost : List ℕ} {j k a : ℕ} {to : List ℕ} → m ≤ 32 → j < 64 → k < 32 → a ≡ cells cost k j → a ≤ 200000000 → Filled m cost j k to
    → Filled m cost j (k + 1) (set to (j * 32 + k) a)
fill_next {m} {cost} {j} {k} {a} {to} hm hj hk e h q = record {
  long = length-set to (j * 32 + k) a ∙ q.long;
  most = λ v. elim (ℕ_discrete v (j * 32 + k)) [
    | yes z ↦ rw z (omega (arith, new))
    | no z ↦ omega (arith, get_or-set_other to (j * 32 + k) v a 0 z, q.most v)
  ];
  each = λ i t b l. get_or-set_other to (j * 32 + k) (t * 32 + i) a 0 (omega arith) ∙ q.each i t b l;
  here = λ i l. elim (ℕ_discrete i k) [
    | yes z ↦ rw z (new ∙ e)
    | no z ↦ get_or-set_other to (j * 32 + k) (j * 32 + i) a 0 (omega arith) ∙ q.here i (omega arith)
  ];
}
  where
    new : get (set to (j * 32 + k) a) (j * 32 + k) ≡ a
    new = get_or-set_same to (j * 32 + k) a 0 (omega (arith, q.long))

-- a terminal is done
pub fill_column : {m : ℕ} {cost : List ℕ} {j k : ℕ} {to : List ℕ} → m ≤ k → Filled m cost j k to → Filled m cost (j + 1) 0 to
fill_column {j = j} h q = record {
  long = q.long;
  most = q.most;
  each = λ i t b l. elim (ℕ_discrete t j) [ yes z ↦ rw z (q.here i (omega arith)) | no z ↦ q.each i t b (omega arith) ];
  here = λ i a. absurd (omega arith);
}

pub fill_end : {m n : ℕ} {cost : List ℕ} {j : ℕ} {to : List ℕ} → n ≤ j → Filled m cost j 0 to → Transposed m n cost to
fill_end h q = record { long = q.long; each = λ i t a b. q.each i t a (omega arith); most = q.most }
