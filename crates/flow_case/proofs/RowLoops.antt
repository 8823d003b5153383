-- Loops that write cells, row after row; tests of every cell. Assumes nothing.
use mathlib.Core.Path.{◌≡◌, refl, sym, ap, ap₂, ◌∙◌}
use mathlib.Core.List.{List, ◌++◌}
use Prim.Native.Nat.{ℕ, zero, suc, ◌+◌, ◌*◌, ◌≤◌, ◌<◌}
use native.Mathlib.Nat.{zero-mul, suc-mul, mul-le-mul_right, mul-le-mul, not-suc-le-zero}
use native.Mathlib.Numerals.{add-one}
use native.Mathlib.Decide.{ℕ_discrete}
use native.Mathlib.Omega.{arith}
use lib.ListN.{length, get_or, set, take, drop, length-set, length-take, length-drop, take-append-drop}
use lib.Seq.{get_or-set_same, get_or-set_other, get_or-take, get_or-drop, ext_get_or, take-add}
use Rattle.flow_problem.specs.Network.{cells}
use Rattle.flow_problem.specs.inner.Reduce.{rows_of}
use Rattle.flow_case.specs.inner.Build.{Put, RowsAre, RowsAfter}
use Rattle.flow_problem.proofs.NodesAndSources.{cells_length, cells_at}

-- ---- cells

module _ {A : Type 0} (d : A) (f : ℕ → A) (at : ℕ) (before : List A) where
  pub put_none : Put d f at 0 before before
  put_none = record { long = refl; here = λ j h. absurd (omega arith); below = λ k h. refl; above = λ k h. refl }

  pub put_next : (n i : ℕ) (x : A) (now : List A) → i ≡ at + n → i < length before → x ≡ f n → Put d f at n before now → Put d f at (n + 1) before (set now i x)
  put_next n i x now q h e r = record {
    long = length-set now i x ∙ r.long;
    here = λ j l. elim (ℕ_discrete j n) [
      | yes z ↦ ap (λ (k : ℕ). get_or (set now i x) k d) (let w : at + j ≡ i = omega arith in w) ∙ get_or-set_same now i x d (omega (arith, r.long)) ∙ e ∙ ap f (sym z)
      | no z ↦ get_or-set_other now i (at + j) x d (λ w. z (omega arith)) ∙ r.here j (omega arith)
    ];
    below = λ k l. get_or-set_other now i k x d (λ w. omega arith) ∙ r.below k l;
    above = λ k l. get_or-set_other now i k x d (λ w. omega arith) ∙ r.above k (omega arith);
  }

pub put_ext : {A : Type 0} {d : A} {f h : ℕ → A} {at n : ℕ} {before after : List A} → ((j : ℕ) → f j ≡ h j) → Put d f at n before after → Put d h at n before after
put_ext e r = record { long = r.long; here = λ j l. r.here j l ∙ e j; below = r.below; above = r.above }

-- ---- rows

module _ {A : Type 0} (d : A) (f : ℕ → ℕ → A) (n : ℕ) where
  pub rows_none : (l : List A) → RowsAre d f 0 n l
  rows_none l i j h q = absurd (not-suc-le-zero h)

  pub rows_next : (m at : ℕ) (before after : List A) → at ≡ m * n → RowsAre d f m n before → Put d (f m) at n before after → RowsAre d f (m + 1) n after
  rows_next m at before after e r p i j h q = elim (ℕ_discrete i m) [
    | yes z ↦
        ap (λ (k : ℕ). get_or after k d) (let w : i * n + j ≡ at + j = omega (arith, ap (λ (k : ℕ). k * n) z) in w)
        ∙ p.here j q
        ∙ ap (λ (k : ℕ). f k j) (sym z)
    | no z ↦ p.below (i * n + j) (omega (arith, suc-mul i n, mul-le-mul_right n (let w : suc i ≤ m = omega arith in w))) ∙ r i j (omega arith) q
  ]

-- the cells past the rows
pub after_next : {A : Type 0} {d : A} {f : ℕ → A} (n m at : ℕ) (first before after : List A) → at ≡ m * n → RowsAfter d m n first before
    → Put d f at n before after → RowsAfter d (m + 1) n first after
after_next n m at first before after e r p k h =
    let w : (m + 1) * n ≡ m * n + n = omega (arith, suc-mul m n, ap (λ (i : ℕ). i * n) (add-one m)) in
    p.above k (omega arith) ∙ r k (omega arith)

-- the first cells as a list
pub cells_list : {A : Type 0} (d : A) (f : ℕ → A) (n : ℕ) (l : List A) → n ≤ length l → ((j : ℕ) → j < n → get_or l j d ≡ f j) → take n l ≡ cells n f
cells_list d f n l h r =
    ext_get_or d (take n l) (cells n f) (length-take n l ∙ omega (arith, cells_length n f))
    (λ i q. let w : i < n = omega (arith, length-take n l) in get_or-take n l i d w ∙ r i w ∙ sym (cells_at n f d i w))

pub rows_list : {A : Type 0} (d : A) (f : ℕ → ℕ → A) (m n : ℕ) (l : List A) → m * n ≤ length l → RowsAre d f m n l → take (m * n) l ≡ rows_of m n f
unfolding rows_of
rows_list {A = A} d f zero n l h r = ap (λ (k : ℕ). take k l) (zero-mul n)
rows_list {A = A} d f (suc m) n l h r =
    ap (λ (k : ℕ). take k l) (let w : suc m * n ≡ n + m * n = omega (arith, suc-mul m n) in w)
    ∙ take-add n (m * n) l
    ∙ ap₂ (λ (a b : List A). a ++ b)
    (cells_list d (f 0) n l (omega (arith, suc-mul m n)) (λ j q. ap (λ (k : ℕ). get_or l k d) (let w : j ≡ 0 * n + j = omega (arith, zero-mul n) in w) ∙ r 0 j (omega arith) q))
    (rows_list d (λ i. f (suc i)) m n (drop n l) (omega (arith, suc-mul m n, length-drop n l))
    (λ i j p q. get_or-drop n l (i * n + j) d ∙ ap (λ (k : ℕ). get_or l k d) (let w : n + (i * n + j) ≡ suc i * n + j = omega (arith, suc-mul i n) in w) ∙ r (suc i) j (omega arith) q))

-- cells put at the front, as a list
pub put_list : {A : Type 0} (d : A) (f : ℕ → A) (n : ℕ) (before after : List A) → n ≤ length before → Put d f 0 n before after → after ≡ cells n f ++ drop n before
put_list {A = A} d f n before after h r =
    sym (take-append-drop n after)
    ∙ ap₂ (λ (a b : List A). a ++ b) (cells_list d f n after (omega (arith, r.long)) (λ j q. ap (λ (k : ℕ). get_or after k d) (let w : j ≡ 0 + j = omega arith in w) ∙ r.here j q))
    (ext_get_or d (drop n after) (drop n before) (omega (arith, length-drop n after, length-drop n before, r.long))
    (λ i q. get_or-drop n after i d ∙ r.above (n + i) (omega arith) ∙ sym (get_or-drop n before i d)))

-- a cell of a row of n, where there are at most 32 rows of at most 64
pub at_mul : (r s n : ℕ) → r ≡ s → s < 32 → n ≤ 64 → r * n ≤ 1984
at_mul r s n e h q = mul-le-mul (let w : r ≤ 31 = omega arith in w) q

pub at_cell : (r s n : ℕ) {j : ℕ} → r ≡ s → s < 32 → j < n → n ≤ 64 → r * n + j < 2048
at_cell r s n e h l q = omega (arith, at_mul r s n e h q)
