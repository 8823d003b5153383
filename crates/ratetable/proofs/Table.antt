-- One test of a whole table, and what it says of each number. Assumes nothing.
use mathlib.Core.Path.{◌≡◌, subst}
use mathlib.Core.Bool.{Bool, true, false, ◌&&◌}
use mathlib.Core.List.{List, [], ◌∷◌}
use Prim.Native.Nat.{ℕ, zero, suc, ◌+◌, ◌*◌, ◌≤◌, ◌<◌}
use native.Mathlib.Nat.{le_of_suc-le-suc, not-suc-le-zero}
use native.Mathlib.Omega.{arith}
use lib.Dec.{T, leb, ltb, eqb, leb→le, ltb→lt, eqb→eq}
use lib.ListN.{length, get_or}
use Rattle.ratetable.specs.Rate.{IsRate, RateTable}
use Rattle.ratetable.proofs.Squares.{is_rate}

-- from output y on: no number is below the one before, its square is at most 10,000 × y, and the next number's is above
abbrev pub passes : ℕ → ℕ → List ℕ → Bool
passes last y [] = true
passes last y (r ∷ l) = leb last r && (leb (r * r) (10000 * y) && (ltb (10000 * y) (suc r * suc r) && passes r (suc y) l))

-- the whole test: 4,001 numbers that pass from output 0 on
abbrev pub is_table : List ℕ → Bool
is_table l = eqb (length l) 4001 && passes 0 0 l

-- of two tests that pass
pub and_left : (a b : Bool) → T (a && b) → T a
and_left true b t = tt
and_left false b t = t

pub and_right : (a b : Bool) → T (a && b) → T b
and_right true b t = t
and_right false b t = absurd t

-- what the test says of each number
record Passed (last y : ℕ) (l : List ℕ) : Type 0 where
  rule : (k : ℕ) → k < length l → IsRate (y + k) (get_or l k 0)
  above : (k : ℕ) → k < length l → last ≤ get_or l k 0
  never_falls : (k : ℕ) → suc k < length l → get_or l k 0 ≤ get_or l (suc k) 0

passed : (last y : ℕ) (l : List ℕ) → T (passes last y l) → Passed last y l
passed last y [] t = record {
  rule = λ k h. absurd (not-suc-le-zero h);
  above = λ k h. absurd (not-suc-le-zero h);
  never_falls = λ k h. absurd (not-suc-le-zero h);
}
passed last y (r ∷ l) t =
    let t1 = and_right (leb last r) _ t in
    let t2 = and_right (leb (r * r) (10000 * y)) _ t1 in
    let order : last ≤ r = leb→le last r (and_left (leb last r) _ t) in
    let under : r * r ≤ 10000 * y = leb→le (r * r) (10000 * y) (and_left (leb (r * r) (10000 * y)) _ t1) in
    let over : 10000 * y < suc r * suc r = ltb→lt (10000 * y) (suc r * suc r) (and_left (ltb (10000 * y) (suc r * suc r)) _ t2) in
    more order (is_rate y r under over) (passed r (suc y) l (and_right (ltb (10000 * y) (suc r * suc r)) _ t2))
  where
    more : last ≤ r → IsRate y r → Passed r (suc y) l → Passed last y (r ∷ l)
    more order i p = record { rule = rule; above = above; never_falls = never_falls }
      where
        rule : (k : ℕ) → k < suc (length l) → IsRate (y + k) (get_or (r ∷ l) k 0)
        rule zero h = subst (λ (z : ℕ). IsRate z r) (omega arith) i
        rule (suc k) h = subst (λ (z : ℕ). IsRate z (get_or l k 0)) (omega arith) (p.rule k (le_of_suc-le-suc h))

        above : (k : ℕ) → k < suc (length l) → last ≤ get_or (r ∷ l) k 0
        above zero h = order
        above (suc k) h = omega (arith, p.above k (le_of_suc-le-suc h))

        never_falls : (k : ℕ) → suc k < suc (length l) → get_or (r ∷ l) k 0 ≤ get_or l k 0
        never_falls zero h = p.above 0 (le_of_suc-le-suc h)
        never_falls (suc k) h = p.never_falls k (le_of_suc-le-suc h)

-- numbers that pass the test are a table of the rates
pub rate_table : {l : List ℕ} → T (is_table l) → RateTable l
rate_table {l} t =
    let long : length l ≡ 4001 = eqb→eq (length l) 4001 (and_left (eqb (length l) 4001) _ t) in
    let p = passed 0 0 l (and_right (eqb (length l) 4001) _ t) in
    record {
      long = long;
      rule = λ y h. subst (λ (z : ℕ). IsRate z (get_or l y 0)) (omega arith) (p.rule y (omega arith));
      never_falls = λ y h. subst (λ (j : ℕ). get_or l y 0 ≤ get_or l j 0) (omega arith) (p.never_falls y (omega arith));
    }
