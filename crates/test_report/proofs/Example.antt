-- The report's example, 4.2, with the square-root rates as its production table: no plan has a lower total than x*(180). Assumes nothing.
use mathlib.Core.Path.{◌≡◌, refl, sym, ap, ◌∙◌, subst}
use mathlib.Core.Bool.{Bool, true, ◌&&◌}
use mathlib.Core.List.{List, [], ◌∷◌}
use Prim.Native.Nat.{ℕ, zero, suc, ◌+◌, ◌*◌, ◌≤◌, ◌<◌}
use mathlib.Core.Logic.{inl, inr}
use native.Mathlib.Nat.{eq-or-lt_of_le}
use native.Mathlib.Decide.{dec_lt}
use native.Mathlib.Omega.{arith}
use lib.Dec.{T, leb, leb→le, le→leb, lt→ltb, lit≤, lit<}
use lib.IntN.{ℤ, pos, nat_abs}
use lib.Signed.{◌≤ℤ◌, ◌<ℤ◌, le_z_yes, lt_z_yes}
use lib.ListN.{get_or}
use Rattle.transport.specs.Sum.{sum}
use Rattle.transport.specs.Plan.{row, col}
use Rattle.problem.specs.Integer.{sumℤ}
use Rattle.problem.specs.Freight.{freightℤ}
use Rattle.problem.specs.Plans.{row_sum, column_sum, freight_of, MeetsTP, plan_total}
use Rattle.problem.specs.Promise.{Cheapest}
use Rattle.ratetable.specs.Rate.{rate}
use Rattle.ratetable.proofs.Squares.{rate_is, only_rate, is_rate}
use Rattle.ratetable.proofs.Table.{and_left, and_right}
use Rattle.ratetable.proofs.Filling.{from_at}
use Rattle.test_report.specs.Report.{report}

-- x*(180) of the report
pub plan180 : List ℕ
plan180 = 0 ∷ 180 ∷ 0 ∷ 0 ∷ 50 ∷ 0 ∷ 0 ∷ 70 ∷ 30 ∷ 0 ∷ 120 ∷ 0 ∷ []

-- ---- the sums of a plan, lane by lane

abbrev lane : List ℕ → ℕ → ℕ
lane x k = get_or x k 0

abbrev split : List ℕ → ℕ
split x = lane x 0 + lane x 1 + lane x 2 + lane x 3

abbrev second : List ℕ → ℕ
second x = lane x 4 + lane x 5 + lane x 6 + lane x 7

abbrev spent : List ℕ → ℕ
spent x =
    12 * lane x 0 + lane x 1 + 3 * lane x 2 + 4 * lane x 3
    + (4 * lane x 4 + 9 * lane x 5 + 6 * lane x 6 + 2 * lane x 7)
    + (2 * lane x 8 + 6 * lane x 9 + 2 * lane x 10 + 10 * lane x 11)

split_is : (x : List ℕ) → row_sum report x 0 ≡ split x
unfolding report row_sum row sum
split_is x = omega arith

spent_is : (x : List ℕ) → freight_of report x ≡ pos (spent x)
unfolding report freight_of freightℤ sumℤ
spent_is x = ap pos (omega arith)

-- the entry at a split is its rate
total_is : (x : List ℕ) → split x ≤ 200 → plan_total report x ≡ pos (spent x + rate (split x))
unfolding report plan_total
total_is x h =
    rw (spent_is x, split_is x)
    (ap (λ (e : ℕ). pos (spent x + e)) (from_at 0 201 (split x) (omega arith) ∙ ap rate (let z : 0 + split x ≡ split x = omega arith in z)))

-- ---- freight from below: slope -7 up to split 180, slope -1 from there on. What is above the line stands beside it.

module _ (a b c d e f g h i j k l : ℕ) (depot : i + j + k + l ≡ 150) (t1 : a + e + i ≡ 80) (t2 : b + f + j ≡ 180) (t3 : c + g + k ≡ 120) (t4 : d + h + l ≡ 70) where
  slope7 :
      12 * a + b + 3 * c + 4 * d + (4 * e + 9 * f + 6 * g + 2 * h) + (2 * i + 6 * j + 2 * k + 10 * l) + 7 * (a + b + c + d)
      ≡ 2080 + (15 * a + 6 * c + 9 * d + f + 2 * g + 10 * l)
  slope7 = omega arith

  slope1 :
      12 * a + b + 3 * c + 4 * d + (4 * e + 9 * f + 6 * g + 2 * h) + (2 * i + 6 * j + 2 * k + 10 * l) + (a + b + c + d)
      ≡ 1000 + (9 * a + 3 * d + 7 * f + 2 * g + 6 * j + 10 * l)
  slope1 = omega arith

  both_plants : a + b + c + d + (e + f + g + h) ≡ 300
  both_plants = omega arith

-- what a plan that meets (TP) has, lane by lane
record Lanes (x : List ℕ) : Type 0 where
  first : split x ≤ 200
  last : second x ≤ 200
  depot : lane x 8 + lane x 9 + lane x 10 + lane x 11 ≡ 150
  t1 : lane x 0 + lane x 4 + lane x 8 ≡ 80
  t2 : lane x 1 + lane x 5 + lane x 9 ≡ 180
  t3 : lane x 2 + lane x 6 + lane x 10 ≡ 120
  t4 : lane x 3 + lane x 7 + lane x 11 ≡ 70

lanes : (x : List ℕ) → MeetsTP report x → Lanes x
unfolding report row_sum column_sum row col sum
lanes x m = record {
  first = omega (arith, m.plant1);
  last = omega (arith, m.plant2);
  depot = omega (arith, m.depots 2 (omega arith) (omega arith));
  t1 = omega (arith, m.terminals 0 (omega arith));
  t2 = omega (arith, m.terminals 1 (omega arith));
  t3 = omega (arith, m.terminals 2 (omega arith));
  t4 = omega (arith, m.terminals 3 (omega arith));
}

record Bounds (s y : ℕ) : Type 0 where
  low : 100 ≤ y
  high : y ≤ 200
  line7 : 2080 ≤ s + 7 * y
  line1 : 1000 ≤ s + y

bounds : (x : List ℕ) → Lanes x → Bounds (spent x) (split x)
bounds x p =
    let made = both_plants (lane x 0) (lane x 1) (lane x 2) (lane x 3) (lane x 4) (lane x 5) (lane x 6) (lane x 7) (lane x 8) (lane x 9) (lane x 10)
    (lane x 11) p.depot p.t1 p.t2 p.t3 p.t4 in
    let s7 = slope7 (lane x 0) (lane x 1) (lane x 2) (lane x 3) (lane x 4) (lane x 5) (lane x 6) (lane x 7) (lane x 8) (lane x 9) (lane x 10) (lane x 11) p.depot p.t1 p.t2 p.t3 p.t4 in
    let s1 = slope1 (lane x 0) (lane x 1) (lane x 2) (lane x 3) (lane x 4) (lane x 5) (lane x 6) (lane x 7) (lane x 8) (lane x 9) (lane x 10) (lane x 11) p.depot p.t1 p.t2 p.t3 p.t4 in
    go (spent x) (split x) (second x) _ _ p.first p.last made s7 s1
  where
    go : (s y z u v : ℕ) → y ≤ 200 → z ≤ 200 → y + z ≡ 300 → s + 7 * y ≡ 2080 + u → s + y ≡ 1000 + v → Bounds s y
    go s y z u v hy hz e e7 e1 = record { low = omega arith; high = hy; line7 = omega arith; line1 = omega arith }

-- ---- the rates from below, by one test for each line

abbrev every : (ℕ → Bool) → ℕ → ℕ → Bool
every p y zero = true
every p y (suc k) = p y && every p (suc y) k

every_at : (p : ℕ → Bool) (y k z : ℕ) → T (every p y k) → y ≤ z → z < y + k → T (p z)
every_at p y zero z t h l = absurd (omega arith)
every_at p y (suc k) z t h l =
    elim (eq-or-lt_of_le h) [
      | inl e ↦ subst (λ (i : ℕ). T (p i)) e (and_left (p y) _ t)
      | inr g ↦ every_at p (suc y) k z (and_right (p y) _ t) g (omega arith)
    ]

-- the rate of an output is at least r y
reaches : (ℕ → ℕ) → ℕ → Bool
reaches r y = leb (r y * r y) (10000 * y)

below_180 : (y : ℕ) → 100 ≤ y → y < 180 → 82 + 7 * y ≤ rate y
unfolding reaches
below_180 y h l =
    (rate_is y).greatest (82 + 7 * y) (leb→le _ _ (every_at (reaches (λ i. 82 + 7 * i)) 100 80 y tt h l))

from_180 : (y : ℕ) → 180 ≤ y → y ≤ 200 → 1161 + y ≤ rate y
unfolding reaches
from_180 y h l = (rate_is y).greatest (1161 + y) (leb→le _ _ (every_at (reaches (λ i. 1161 + i)) 180 21 y tt h (omega arith)))

rate_180 : rate 180 ≡ 1341
rate_180 = sym (only_rate (is_rate 180 1341 (lit≤ tt) (lit< tt)))

-- ---- no plan has a lower total, and with a smaller split each has a higher one

total_least : (s y : ℕ) → Bounds s y → 2161 ≤ s + rate y
total_least s y b = elim (dec_lt y 180) [
  | yes l ↦ omega (arith, b.line7, below_180 y b.low l)
  | no l ↦ omega (arith, b.line1, from_180 y (omega arith) b.high)
]

total_smaller : (s y : ℕ) → Bounds s y → y < 180 → 2161 < s + rate y
total_smaller s y b l = omega (arith, b.line7, below_180 y b.low l)

-- x*(180) is a plan
meets : MeetsTP report plan180
unfolding report plan180 row_sum column_sum row col sum
meets = record {
  cells = refl;
  plant1 = lit≤ tt;
  plant2 = lit≤ tt;
  runs1 = lit≤ tt;
  runs2 = lit≤ tt;
  depots = λ i h l. subst (λ (k : ℕ). row_sum report plan180 k ≡ get_or report.supplies k 0) (let e : 2 ≡ i = omega arith in e) refl;
  terminals = terminals;
  lanes = λ i j h l. leb→le _ _ (every_at (λ k. leb (lane plan180 k) (lane report.ceilings k)) 0 12 (i * 4 + j) tt (omega arith) (omega arith));
}
  where
    terminals : (j : ℕ) → j < 4 → column_sum report plan180 j ≡ get_or report.demands j 0
    terminals zero h = refl
    terminals (suc zero) h = refl
    terminals (suc (suc zero)) h = refl
    terminals (suc (suc (suc zero))) h = refl
    terminals (suc (suc (suc (suc j)))) h = absurd (omega arith)

pub cheapest : Cheapest report plan180 180 (pos 2161)
unfolding plan180
cheapest = record {
  plan = meets;
  own_split = split_is plan180;
  own_total = total_is plan180 (lit≤ tt) ∙ ap (λ (r : ℕ). pos (820 + r)) rate_180;
  least = λ z m. let p = lanes z m in subst (λ (t : ℤ). pos 2161 ≤ℤ t) (sym (total_is z p.first)) (le_z_yes (le→leb 2161 _ (total_least (spent z) (split z) (bounds z p))));
  smaller = λ z m l. let p = lanes z m in
      subst (λ (t : ℤ). pos 2161 <ℤ t) (sym (total_is z p.first)) (lt_z_yes (lt→ltb 2161 _ (total_smaller (spent z) (split z) (bounds z p) (omega (arith, split_is z)))));
}

-- the freight of a plan with this split and this total
pub freight_180 : (x : List ℕ) → MeetsTP report x → row_sum report x 0 ≡ 180 → plan_total report x ≡ pos 2161 → freight_of report x ≡ pos 820
freight_180 x m e t =
    let s : split x ≡ 180 = sym (split_is x) ∙ e in
    let n : spent x + rate (split x) ≡ 2161 = ap nat_abs (sym (total_is x (lanes x m).first) ∙ t) in
    let r : rate (split x) ≡ 1341 = ap rate s ∙ rate_180 in
    spent_is x ∙ ap pos (left_over (spent x) (rate (split x)) n r)
  where
    left_over : (a b : ℕ) → a + b ≡ 2161 → b ≡ 1341 → a ≡ 820
    left_over a b e f = omega arith
