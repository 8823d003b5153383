-- Lists of cells, and the two ways between nodes and sources. Assumes nothing.
use mathlib.Core.Path.{◌≡◌, refl, sym, ap, ◌∙◌}
use mathlib.Core.Logic.{◌≢◌}
use mathlib.Core.List.{◌++◌}
use Prim.Native.Nat.{ℕ, zero, suc, ◌+◌, ◌*◌, ◌≤◌, ◌<◌}
use native.Mathlib.Nat.{zero-mul, suc-mul, not-suc-le-zero, le_of_suc-le-suc}
use native.Mathlib.Decide.{ℕ_discrete}
use native.Mathlib.Omega.{arith}
use lib.ListN.{length, get_or, length-append, get_or-append}
use lib.Seq.{get_or-append-add}
use Rattle.flow_problem.specs.Network.{cells}
use Rattle.flow_problem.specs.inner.Reduce.{rows_of, swap, node_of, source_of}
use Rattle.flow_problem.proofs.SumsByNode.{cond_same, cond_other}

module _ {A : Type 0} where
  pub cells_length : (n : ℕ) (f : ℕ → A) → length (cells n f) ≡ n
  unfolding cells
  cells_length zero f = refl
  cells_length (suc n) f = ap suc (cells_length n (λ j. f (suc j)))

  pub cells_at : (n : ℕ) (f : ℕ → A) (z : A) (j : ℕ) → j < n → get_or (cells n f) j z ≡ f j
  unfolding cells
  cells_at zero f z j h = absurd (not-suc-le-zero h)
  cells_at (suc n) f z zero h = refl
  cells_at (suc n) f z (suc j) h = cells_at n (λ j. f (suc j)) z j (le_of_suc-le-suc h)

  pub rows_length : (m n : ℕ) (f : ℕ → ℕ → A) → length (rows_of m n f) ≡ m * n
  unfolding rows_of
  rows_length zero n f = sym (zero-mul n)
  rows_length (suc m) n f =
      length-append (cells n (f 0)) (rows_of m n (λ i. f (suc i)))
      ∙ omega (arith, cells_length n (f 0), rows_length m n (λ i. f (suc i)), suc-mul m n)

  pub rows_at : (m n : ℕ) (f : ℕ → ℕ → A) (z : A) (i j : ℕ) → i < m → j < n → get_or (rows_of m n f) (i * n + j) z ≡ f i j
  unfolding rows_of
  rows_at zero n f z i j h l = absurd (not-suc-le-zero h)
  rows_at (suc m) n f z zero j h l =
      ap (λ (k : ℕ). get_or (cells n (f 0) ++ rows_of m n (λ i. f (suc i))) k z) (let q : 0 * n + j ≡ j = omega (arith, zero-mul n) in q)
      ∙ get_or-append (cells n (f 0)) (rows_of m n (λ i. f (suc i))) z j (omega (arith, cells_length n (f 0)))
      ∙ cells_at n (f 0) z j l
  rows_at (suc m) n f z (suc i) j h l =
      ap (λ (k : ℕ). get_or (cells n (f 0) ++ rows_of m n (λ i. f (suc i))) k z)
      (let q : suc i * n + j ≡ length (cells n (f 0)) + (i * n + j) = omega (arith, suc-mul i n, cells_length n (f 0)) in q)
      ∙ get_or-append-add (cells n (f 0)) (rows_of m n (λ i. f (suc i))) (i * n + j) z
      ∙ rows_at m n (λ i. f (suc i)) z i j (le_of_suc-le-suc h) l

-- ---- a swap

swap_first : (a b : ℕ) → swap a b a ≡ b
unfolding swap
swap_first a b = cond_same a a b _ refl

swap_second : (a b i : ℕ) → i ≡ b → swap a b i ≡ a
unfolding swap
swap_second a b i e = elim (ℕ_discrete i a) [
  | yes d ↦ cond_same i a b _ d ∙ sym e ∙ d
  | no d ↦ cond_other i a b _ d ∙ cond_same i b a i e
]

swap_off : (a b i : ℕ) → i ≢ a → i ≢ b → swap a b i ≡ i
unfolding swap
swap_off a b i d e = cond_other i a b _ d ∙ cond_other i b a i e

swap_back : (a b i : ℕ) → swap a b (swap a b i) ≡ i
swap_back a b i = elim (ℕ_discrete i a) [
  | yes d ↦ swap_second a b (swap a b i) (ap (swap a b) d ∙ swap_first a b) ∙ sym d
  | no d ↦ elim (ℕ_discrete i b) [
    | yes e ↦ ap (swap a b) (swap_second a b i e) ∙ swap_first a b ∙ sym e
    | no e ↦ ap (swap a b) (swap_off a b i d e) ∙ swap_off a b i d e
  ]
]

swap_below : (a b i n : ℕ) → a < n → b < n → i < n → swap a b i < n
swap_below a b i n h l q = elim (ℕ_discrete i a) [
  | yes d ↦ omega (arith, ap (swap a b) d, swap_first a b)
  | no d ↦ elim (ℕ_discrete i b) [
    | yes e ↦ omega (arith, swap_second a b i e)
    | no e ↦ omega (arith, swap_off a b i d e)
  ]
]

-- ---- nodes and sources

module _ (w v : ℕ) where
  pub node_source : (i : ℕ) → node_of w v (source_of w v i) ≡ i
  unfolding node_of source_of
  node_source i = ap (swap 0 w) (swap_back 1 (swap 0 w v) (swap 0 w i)) ∙ swap_back 0 w i

  pub source_node : (s : ℕ) → source_of w v (node_of w v s) ≡ s
  unfolding node_of source_of
  source_node s = ap (swap 1 (swap 0 w v)) (swap_back 0 w (swap 1 (swap 0 w v) s)) ∙ swap_back 1 (swap 0 w v) s

  module _ (n : ℕ) (wn : w < n) (vn : v < n) (d : v ≢ w) where
    two : 1 < n
    two = elim (ℕ_discrete w 0) [ yes e ↦ omega (arith, e, d) | no e ↦ omega arith ]

    pub node_below : (s : ℕ) → s < n → node_of w v s < n
    unfolding node_of
    node_below s l = swap_below 0 w _ n (omega arith) wn (swap_below 1 _ s n two (swap_below 0 w v n (omega arith) wn vn) l)

    pub source_below : (i : ℕ) → i < n → source_of w v i < n
    unfolding source_of
    source_below i l = swap_below 1 _ _ n two (swap_below 0 w v n (omega arith) wn vn) (swap_below 0 w i n (omega arith) wn l)

  module _ (d : v ≢ w) where
    off_zero : swap 0 w v ≢ 0
    off_zero e = d (sym (swap_back 0 w v) ∙ ap (swap 0 w) e ∙ swap_first 0 w)

    -- source 0 is node w, source 1 node v
    pub node_0 : node_of w v 0 ≡ w
    unfolding node_of
    node_0 = ap (swap 0 w) (swap_off 1 (swap 0 w v) 0 (λ e. omega arith) (λ e. off_zero (sym e))) ∙ swap_first 0 w

    pub node_1 : node_of w v 1 ≡ v
    unfolding node_of
    node_1 = ap (swap 0 w) (swap_first 1 (swap 0 w v)) ∙ swap_back 0 w v

    pub source_w : source_of w v w ≡ 0
    source_w = ap (source_of w v) (sym node_0) ∙ source_node 0

    pub source_v : source_of w v v ≡ 1
    source_v = ap (source_of w v) (sym node_1) ∙ source_node 1

    -- every other node is a depot
    pub source_depot : (i : ℕ) → i ≢ w → i ≢ v → 2 ≤ source_of w v i
    source_depot i a b =
        let p : source_of w v i ≢ 0 = λ e. a (sym (node_source i) ∙ ap (node_of w v) e ∙ node_0) in
        let q : source_of w v i ≢ 1 = λ e. b (sym (node_source i) ∙ ap (node_of w v) e ∙ node_1) in
        omega arith

    -- a depot is another node
    pub depot_w : (s : ℕ) → 2 ≤ s → node_of w v s ≢ w
    depot_w s l e = omega (arith, sym (source_node s) ∙ ap (source_of w v) e ∙ source_w)

    pub depot_v : (s : ℕ) → 2 ≤ s → node_of w v s ≢ v
    depot_v s l e = omega (arith, sym (source_node s) ∙ ap (source_of w v) e ∙ source_v)
