-- How a copy goes on by one cell, and by one row. Assumes nothing.
use mathlib.Core.Path.{◌≡◌, refl, sym, ap, ◌∙◌}
use mathlib.Core.List.{List}
use Prim.Native.Nat.{ℕ, suc, ◌+◌, ◌-◌, ◌*◌, ◌≤◌, ◌<◌}
use native.Mathlib.Nat.{suc-mul, mul-le-mul_right}
use native.Mathlib.Decide.{ℕ_discrete, dec_lt}
use native.Mathlib.Omega.{arith}
use lib.ListN.{length, get_or, set, length-set, take, drop, length-take, length-drop, replicate, length-replicate, get_or-replicate, get_or-eq_default}
use lib.Seq.{get_or-set_same, get_or-set_other, get_or-take, get_or-drop}
use mathlib.Core.Bool.{Bool, true, false, ◌||◌}
use Prim.Native.Nat.{◌^◌}
use lib.IntN.{ℤ, pos, negsuc}
use lib.Signed.{mag}
use borrow.Author.Tests.{ltb-false}
use mir.Syntax.{w64}
use mir.Val.{to_z, of_z}
use Rattle.problem.proofs.MachineIntegers.{read_back}
use Rattle.problem.specs.Range.{outside}
use Rattle.engine_arrays.specs.inner.Copy.{Narrow, Copied, RowsMoved, RowsKept, Supplied, Wanted}
use Rattle.problem.proofs.CellRows.{row_at}

-- the first k cells are copied
pub record Copying (s : List ℕ) (at k : ℕ) (d e : List ℕ) : Type 0 where
  pub few : k ≤ length s
  pub long : length e ≡ length d
  pub here : (j : ℕ) → j < k → get_or e (at + j) 0 ≡ get_or s j 0
  pub below : (j : ℕ) → j < at → get_or e j 0 ≡ get_or d j 0
  pub above : (j : ℕ) → at + k ≤ j → get_or e j 0 ≡ get_or d j 0

pub copy_start : (s : List ℕ) (at : ℕ) (d : List ℕ) → Copying s at 0 d d
copy_start s at d = record { few = omega arith; long = refl; here = λ j h. absurd (omega arith); below = λ j h. refl; above = λ j h. refl }

pub copy_next : {s : List ℕ} {at k : ℕ} {d e : List ℕ} → Copying s at k d e → k < length s → at + k < length d
    → Copying s at (k + 1) d (set e (at + k) (get_or s k 0))
copy_next {s} {at} {k} {d} {e} q h l = record {
  few = omega arith;
  long = length-set e (at + k) (get_or s k 0) ∙ q.long;
  here = λ j b. elim (ℕ_discrete j k) [
    | yes z ↦ ap (λ (i : ℕ). get_or (set e (at + k) (get_or s k 0)) (at + i) 0) z ∙ get_or-set_same e (at + k) (get_or s k 0) 0 (omega (arith, q.long)) ∙ ap (λ (i : ℕ). get_or s i 0) (sym z)
    | no z ↦ get_or-set_other e (at + k) (at + j) (get_or s k 0) 0 (omega arith) ∙ q.here j (omega arith)
  ];
  below = λ j b. get_or-set_other e (at + k) j (get_or s k 0) 0 (omega arith) ∙ q.below j b;
  above = λ j b. get_or-set_other e (at + k) j (get_or s k 0) 0 (omega arith) ∙ q.above j (omega arith);
}

pub copy_end : {s : List ℕ} {at k : ℕ} {d e : List ℕ} → Copying s at k d e → length s ≤ k → Copied s at d e
copy_end {k = k} q h = record { long = q.long; here = λ j b. q.here j (omega arith); below = q.below; above = λ j b. q.above j (omega (arith, q.few)) }

-- a unit cost in range is read back as it is
pub cost_back : (z : ℤ) → outside z ≡ false → to_z w64 (of_z w64 z) ≡ z
unfolding outside
cost_back (pos n) e = read_back (pos n) (omega (arith, ltb-false 1000000 n e))
cost_back (negsuc n) e = read_back (negsuc n) (omega (arith, ltb-false 999999 n (first _ e)))
  where
    first : (b : Bool) → (b || false) ≡ false → b ≡ false
    first true e = e
    first false e = refl

-- the first k rows are copied from rows of p cells to rows of q, and the cells between them and from k × q on are as they were
pub record Moving (n p q k : ℕ) (s d e : List ℕ) : Type 0 where
  pub long : length e ≡ length d
  pub rows : (i j : ℕ) → i < k → j < n → get_or e (i * q + j) 0 ≡ get_or s (i * p + j) 0
  pub gaps : (i j : ℕ) → i < k → n ≤ j → j < q → get_or e (i * q + j) 0 ≡ get_or d (i * q + j) 0
  pub rest : (j : ℕ) → k * q ≤ j → get_or e j 0 ≡ get_or d j 0

pub move_start : (n p q : ℕ) (s d : List ℕ) → Moving n p q 0 s d d
move_start n p q s d = record { long = refl; rows = λ i j h. absurd (omega arith); gaps = λ i j h. absurd (omega arith); rest = λ j h. refl }

pub part_size : (f n : ℕ) (s : List ℕ) → f + n ≤ length s → length (take (f + n - f) (drop f s)) ≡ n
part_size f n s h = simp (length-take, length-drop) (omega arith)

pub narrow_part : (f n : ℕ) (s : List ℕ) → f + n ≤ length s → Narrow s → Narrow (take (f + n - f) (drop f s))
narrow_part f n s h q k l = let z = part_size f n s h in omega (arith, q (f + k) (omega (arith, z)), row_at s f n k (omega (arith, z)))

-- row k lies at f in the source and goes to t
pub move_next : {n p q k : ℕ} {s d e e' : List ℕ} (f t : ℕ) → Moving n p q k s d e → n ≤ q → f ≡ k * p → t ≡ k * q → f + n ≤ length s
    → Copied (take (f + n - f) (drop f s)) t e e' → Moving n p q (k + 1) s d e'
move_next {n} {p} {q} {k} {s} {d} {e} {e'} f t m wide ef et fits c = record {
  long = c.long ∙ m.long;
  rows = λ i j h l. elim (ℕ_discrete i k) [
    | yes z ↦
        let zq : i * q ≡ t = ap (λ (v : ℕ). v * q) z ∙ sym et in
        let zp : i * p ≡ f = ap (λ (v : ℕ). v * p) z ∙ sym ef in
        ap (λ (v : ℕ). get_or e' (v + j) 0) zq
        ∙ c.here j (omega (arith, size))
        ∙ get_or-take (f + n - f) (drop f s) j 0 (omega arith)
        ∙ get_or-drop f s j 0
        ∙ ap (λ (v : ℕ). get_or s (v + j) 0) (sym zp)
    | no z ↦ c.below (i * q + j) (omega (arith, mul-le-mul_right q (let y : suc i ≤ k = omega arith in y), suc-mul i q)) ∙ m.rows i j (omega arith) l
  ];
  gaps = λ i j h a b. elim (ℕ_discrete i k) [
    | yes z ↦
        let zq : i * q ≡ t = ap (λ (v : ℕ). v * q) z ∙ sym et in
        c.above (i * q + j) (omega (arith, size)) ∙ m.rest (i * q + j) (omega arith)
    | no z ↦ c.below (i * q + j) (omega (arith, mul-le-mul_right q (let y : suc i ≤ k = omega arith in y), suc-mul i q)) ∙ m.gaps i j (omega arith) a b
  ];
  rest = λ j h. c.above j (omega (arith, size, suc-mul k q, next)) ∙ m.rest j (omega (arith, suc-mul k q, next));
}
  where
    size : length (take (f + n - f) (drop f s)) ≡ n
    size = part_size f n s fits

    next : (k + 1) * q ≡ suc k * q
    next = ap (λ (v : ℕ). v * q) (let y : k + 1 ≡ suc k = omega arith in y)

-- row k of rows of p cells lies within m rows
pub row_within : (m k p f l : ℕ) → k < m → f ≡ k * p → m * p ≤ l → f + p ≤ l
row_within m k p f l h e b = omega (arith, suc-mul k p, mul-le-mul_right p (let y : suc k ≤ m = h in y))

pub row_start : (k p f : ℕ) → f ≡ k * p → f + p ≡ (k + 1) * p
row_start k p f e = omega (arith, suc-mul k p, ap (λ (v : ℕ). v * p) (let y : k + 1 ≡ suc k = omega arith in y))

pub move_end : {m n p q k : ℕ} {s d e : List ℕ} → Moving n p q k s d e → m ≤ k → RowsMoved m n p q s e
move_end {m} q h = record { cells = λ i j a b. q.rows i j (omega arith) b }

pub kept_end : {m n p q k : ℕ} {s d e : List ℕ} → Moving n p q k s d e → m ≡ k → RowsKept m n q d e
kept_end w z = record { columns = λ i j a. w.gaps i j (rw (← z) a); rows = λ k a. w.rest k (rw (← z) a) }

-- a list of zeros
zeros : (n i : ℕ) → get_or {A = ℕ} (replicate n 0) i 0 ≡ 0
zeros n i = elim (dec_lt i n) [ yes h ↦ get_or-replicate {A = ℕ} n i 0 0 h | no h ↦ get_or-eq_default {A = ℕ} (replicate n 0) 0 (omega (arith, length-replicate {A = ℕ} n 0)) ]

-- a copy from index 0 on into zeros
pub copied_first : {s e : List ℕ} → Copied s 0 (replicate 32 0) e → Supplied s e
copied_first {s} {e} q = record {
  long = q.long ∙ length-replicate {A = ℕ} 32 0;
  sources = λ i h. ap (λ (v : ℕ). get_or e v 0) (let z : i ≡ 0 + i = omega arith in z) ∙ q.here i h;
  rest = λ i h. q.above i (omega arith) ∙ zeros 32 i;
}

-- a copy to the terminals' nodes
pub copied_last : {s e : List ℕ} → Copied s 32 (replicate 96 0) e → Wanted s e
copied_last q = record {
  long = q.long ∙ length-replicate {A = ℕ} 96 0;
  quiet = λ v h. q.below v h ∙ zeros 96 v;
  terminals = q.here;
  rest = λ v h. q.above v h ∙ zeros 96 v;
}
