-- After a search that found no path the nodes with a label are a closed set: what that says of other plans within the ceilings. Assumes nothing.
use mathlib.Core.Path.{◌≡◌, ap}
use mathlib.Core.Logic.{◌≢◌, ◌⊎◌}
use mathlib.Core.Bool.{Bool, cond}
use mathlib.Core.List.{List}
use Prim.Native.Nat.{ℕ, ◌+◌, ◌*◌, ◌≤◌, ◌<◌}
use native.Mathlib.Decide.{dec_lt}
use native.Mathlib.Omega.{arith}
use lib.Dec.{ltb}
use borrow.Author.Tests.{lt-ltb, le-ltb}
use Rattle.transport.specs.Plan.{Table, row, col, Under}
use Rattle.transport.specs.inner.AtSplit.{Same}
use Rattle.residual.specs.inner.Network.{Net, get}
use Rattle.residual.specs.inner.Labels.{far}
use Rattle.paths.specs.inner.Search.{Stuck}
use Rattle.transport.proofs.ClosedSet.{Closed, Full, stuck_source, greatest_split, most_second, most_first}

-- 1 where v has a label, else 0
inside : List ℕ → ℕ → ℕ
inside T v = cond (ltb (get T v) far) 1 0

inside_yes : (T : List ℕ) (v : ℕ) → get T v < far → inside T v ≡ 1
unfolding inside
inside_yes T v h = ap (λ (t : Bool). cond t 1 0) (lt-ltb (get T v) far h)

inside_no : (T : List ℕ) (v : ℕ) → far ≤ get T v → inside T v ≡ 0
unfolding inside
inside_no T v h = ap (λ (t : Bool). cond t 1 0) (le-ltb (get T v) far h)

inside_most : (T : List ℕ) (v : ℕ) → inside T v ≤ 1
inside_most T v = elim (dec_lt (get T v) far) [ yes l ↦ omega (arith, inside_yes T v l) | no l ↦ omega (arith, inside_no T v (omega arith)) ]

-- where v has a label, w has one
inside_le : (T : List ℕ) (v w : ℕ) → (get T v < far → get T w < far) → inside T v ≤ inside T w
inside_le T v w h = elim (dec_lt (get T v) far) [
  | yes l ↦ omega (arith, inside_most T v, inside_yes T w (h l))
  | no l ↦ omega (arith, inside_no T v (omega arith))
]

module _ {N : Net} {room : List ℕ} {s : ℕ} {T : List ℕ} (k : Stuck N room s T) where
  cut : Closed N.m N.n N.u N.x (inside T) (λ j. inside T (32 + j))
  cut = record {
    ahead = λ i j a b o. inside_le T i (32 + j) (k.ahead i j a b o);
    back = λ i j a b o. inside_le T (32 + j) i (k.back i j a b o);
  }

  -- another plan, in which a terminal of the set gets no more
  module _ (w : Table) (h : Under N.m N.n w N.u) (full : (j : ℕ) → j < N.n → get T (32 + j) < far → col N.m w j ≤ col N.m N.x j) where
    cut_full : Full N.m N.n N.u N.x w (inside T) (λ j. inside T (32 + j)) cut h
    cut_full j b = elim (dec_lt (get T (32 + j)) far) [
      | yes l ↦
          let e = inside_yes T (32 + j) l in
          omega (arith, full j b l, ap (λ v. v * col N.m w j) e, ap (λ v. v * col N.m N.x j) e)
      | no l ↦
          let e = inside_no T (32 + j) (omega arith) in
          omega (arith, ap (λ v. v * col N.m w j) e, ap (λ v. v * col N.m N.x j) e)
    ]

    -- a source from which no path leads on: where every other sends no less, it sends no more
    pub cut_source : s < N.m → ((i : ℕ) → i < N.m → i ≢ s → row N.n N.x i ≤ row N.n w i) → row N.n w s ≤ row N.n N.x s
    cut_source hs o =
        stuck_source N.m N.n N.u N.x w (inside T) (λ j. inside T (32 + j)) cut h cut_full s hs (inside_yes T s k.start) o

    module _ (two : 2 ≤ N.m) (depots : Same 2 N.m (row N.n N.x) (row N.n w)) where
      -- no path from plant 1 to plant 2
      pub cut_greatest : s ≡ 0 → far ≤ get T 1 → row N.n w 0 ≤ row N.n N.x 0
      cut_greatest e l =
          greatest_split N.m N.n N.u N.x w (inside T) (λ j. inside T (32 + j)) cut h cut_full two depots (rw e at (inside_yes T s k.start))
          (inside_no T 1 l)

      -- no path from plant 2
      pub cut_second : s ≡ 1 → row N.n N.x 0 ≤ row N.n w 0 → row N.n w 1 ≤ row N.n N.x 1
      cut_second e l =
          most_second N.m N.n N.u N.x w (inside T) (λ j. inside T (32 + j)) cut h cut_full two depots (rw e at (inside_yes T s k.start)) l

      -- no path from plant 1
      pub cut_first : s ≡ 0
          → (row N.n w 0 ≤ row N.n N.x 0) ⊎ (row N.n w 0 + row N.n w 1 ≤ row N.n N.x 0 + row N.n N.x 1)
      cut_first e =
          most_first N.m N.n N.u N.x w (inside T) (λ j. inside T (32 + j)) cut h cut_full two depots (rw e at (inside_yes T s k.start))
          (inside_most T 1)
