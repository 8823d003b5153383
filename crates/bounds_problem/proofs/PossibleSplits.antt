-- Which splits can be the cheapest, and the smallest and the largest least total: from the two bounds alone. Assumes nothing.
use mathlib.Core.Path.{◌≡◌, refl, sym, ap, ◌∙◌, subst, subst₂}
use mathlib.Core.Logic.{◌≢◌, ◌⊎◌, inl, inr}
use mathlib.Core.Bool.{Bool, true, false, cond, ◌||◌}
use mathlib.Core.List.{List}
use Prim.Native.Nat.{ℕ, zero, suc, ◌+◌, ◌≤◌, ◌<◌}
use native.Mathlib.Nat.{le_refl, eq-or-lt_of_le}
use native.Mathlib.Decide.{ℕ_discrete}
use native.Mathlib.Omega.{arith}
use lib.Dec.{eqb}
use lib.IntN.{pos, ◌+ℤ◌}
use lib.Signed.{le_z, ◌≤ℤ◌, ≤ℤ_refl}
use lib.ListN.{length, get_or, set, length-set}
use lib.Seq.{get_or-set_same, get_or-set_other}
use borrow.Author.Tests.{eq-eqb, ne_eqb}
use Rattle.problem.specs.Case.{Case, supply, entry, least_split, greatest_split}
use Rattle.problem.specs.Plans.{least_freight_at}
use Rattle.bounds_problem.specs.Tables.{Split, after, total_with, Within, Possible, least_total, Smallest, Largest, all_from, can_be}
use Rattle.bounds_problem.proofs.IntegerOrder.{≤ℤ_trans, rise, le_z_true, true_le_z, least_low, least_high, least_rises}

-- ---- all of a range

pub all_true : (p : ℕ → Bool) (i k : ℕ) → all_from p i k ≡ true → (z : ℕ) → i ≤ z → z < i + k → p z ≡ true
unfolding all_from
all_true p i zero e z a b = absurd (omega arith)
all_true p i (suc k) e z a b = step (λ s g. all_true p (suc i) k s z g (omega arith)) (p i) refl e (eq-or-lt_of_le a)
  where
    step : (all_from p (suc i) k ≡ true → i < z → p z ≡ true) → (t : Bool) → p i ≡ t → cond t (all_from p (suc i) k) false ≡ true
        → (i ≡ z) ⊎ (i < z) → p z ≡ true
    step later true q s (inl g) = ap p (sym g) ∙ q
    step later true q s (inr g) = later s g
    step later false q s g = let n : ◌≡◌ {A = ℕ} 0 1 = cc in absurd (omega arith)

pub true_all : (p : ℕ → Bool) (i k : ℕ) → ((z : ℕ) → i ≤ z → z < i + k → p z ≡ true) → all_from p i k ≡ true
unfolding all_from
true_all p i zero f = refl
true_all p i (suc k) f =
    ap (λ (t : Bool). cond t (all_from p (suc i) k) false) (f i (le_refl i) (omega arith))
    ∙ true_all p (suc i) k (λ z a b. f z (omega arith) (omega arith))

-- ---- totals of two tables

module _ (c : Case) where
  pub total_rises : (s t : List ℕ) (y : ℕ) → get_or s y 0 ≤ get_or t y 0 → total_with c s y ≤ℤ total_with c t y
  unfolding total_with
  total_rises s t y h = rise (least_freight_at c y) (get_or s y 0) (get_or t y 0) h

-- what the tests leave of the two tables
pub record Bounds (c : Case) (high : List ℕ) : Type 0 where
  pub order : least_split c ≤ greatest_split c
  pub last : greatest_split c ≤ supply c 0
  pub low_long : length c.table ≡ supply c 0 + 1
  pub high_long : length high ≡ supply c 0 + 1
  pub rising : (y : ℕ) → Split c y → entry c y ≤ get_or high y 0

module _ {c : Case} {high : List ℕ} (b : Bounds c high) where
  -- the two bounds are such tables
  pub low_within : Within c high c.table
  low_within = record { long = b.low_long; above = λ y s. le_refl (entry c y); below = b.rising }

  pub high_within : Within c high high
  high_within = record { long = b.high_long; above = b.rising; below = λ y s. le_refl (get_or high y 0) }

  -- ---- the cheapest splits

  -- f(y) + low(y) is at most f(z) + high(z) for every other split z
  abbrev pub Clears : ℕ → Type 0
  Clears y = (z : ℕ) → Split c z → z ≢ y → total_with c c.table y ≤ℤ total_with c high z

  pub possible_clears : (y : ℕ) → Split c y → Possible c high y → Clears y
  possible_clears y s p z t d =
      ≤ℤ_trans (total_rises c c.table p.table y (p.within.above y s))
      (≤ℤ_trans (p.cheapest z t) (total_rises c p.table high z (p.within.below z t)))

  -- the table that is low at y and high elsewhere
  pub clears_possible : (y : ℕ) → Split c y → Clears y → Possible c high y
  unfolding total_with
  clears_possible y s f = record { table = set high y (entry c y); within = within; cheapest = cheapest }
    where
      in_table : y < length high
      in_table = omega (arith, s.to, b.last, b.high_long)

      here : get_or (set high y (entry c y)) y 0 ≡ entry c y
      here = get_or-set_same high y (entry c y) 0 in_table

      there : (z : ℕ) → z ≢ y → get_or (set high y (entry c y)) z 0 ≡ get_or high z 0
      there z d = get_or-set_other high y z (entry c y) 0 d

      above : (z : ℕ) → Split c z → entry c z ≤ get_or (set high y (entry c y)) z 0
      above z t = elim (ℕ_discrete z y) [
        | yes e ↦ subst (λ (w : ℕ). entry c w ≤ get_or (set high y (entry c y)) w 0) (sym e) (omega (arith, here))
        | no d ↦ omega (arith, there z d, b.rising z t)
      ]

      below : (z : ℕ) → Split c z → get_or (set high y (entry c y)) z 0 ≤ get_or high z 0
      below z t = elim (ℕ_discrete z y) [
        | yes e ↦ subst (λ (w : ℕ). get_or (set high y (entry c y)) w 0 ≤ get_or high w 0) (sym e) (omega (arith, here, b.rising y s))
        | no d ↦ omega (arith, there z d)
      ]

      within : Within c high (set high y (entry c y))
      within = record { long = length-set high y (entry c y) ∙ b.high_long; above = above; below = below }

      cheapest : (z : ℕ) → Split c z → total_with c (set high y (entry c y)) y ≤ℤ total_with c (set high y (entry c y)) z
      cheapest z t = elim (ℕ_discrete z y) [
        | yes e ↦ subst (λ (w : ℕ). total_with c (set high y (entry c y)) y ≤ℤ total_with c (set high y (entry c y)) w) (sym e) (≤ℤ_refl _)
        | no d ↦ subst₂ (λ (a b : ℕ). (least_freight_at c y +ℤ pos a) ≤ℤ (least_freight_at c z +ℤ pos b)) (sym here) (sym (there z d)) (f z t d)
      ]

  -- the test says the same
  in_range : (z : ℕ) → least_split c ≤ z → z < least_split c + (after c + 1) → Split c z
  in_range z a l = record { from = a; to = omega (arith, b.order) }

  pub can_be_clears : (y : ℕ) → can_be c high y ≡ true → Clears y
  unfolding can_be
  can_be_clears y e z t d =
      le_z_true _ _ (second (eqb z y) (le_z (total_with c c.table y) (total_with c high z)) (ne_eqb z y d)
      (all_true (λ z. eqb z y || le_z (total_with c c.table y) (total_with c high z)) (least_split c) (after c + 1) e z t.from (omega (arith, t.to))))
    where
      second : (a b : Bool) → a ≡ false → (a || b) ≡ true → b ≡ true
      second true b q e = let n : ◌≡◌ {A = ℕ} 0 1 = cc in absurd (omega arith)
      second false b q e = e

  pub clears_can_be : (y : ℕ) → Clears y → can_be c high y ≡ true
  unfolding can_be
  clears_can_be y f =
      true_all (λ z. eqb z y || le_z (total_with c c.table y) (total_with c high z)) (least_split c) (after c + 1)
      (λ z a l. each z (in_range z a l) (ℕ_discrete z y))
    where
      right_true : (a b : Bool) → b ≡ true → (a || b) ≡ true
      right_true true b e = refl
      right_true false b e = e

      each : (z : ℕ) → Split c z → Dec (z ≡ y) → (eqb z y || le_z (total_with c c.table y) (total_with c high z)) ≡ true
      each z t (yes e) = ap (λ (a : Bool). a || le_z (total_with c c.table y) (total_with c high z)) (eq-eqb z y e)
      each z t (no d) = right_true (eqb z y) _ (true_le_z (f z t d))

  -- POSSIBLE, as the test has it
  pub can_possible : (y : ℕ) → Split c y → can_be c high y ≡ true → Possible c high y
  can_possible y s e = clears_possible y s (can_be_clears y e)

  pub possible_can : (y : ℕ) → Split c y → Possible c high y → can_be c high y ≡ true
  possible_can y s p = clears_can_be y (possible_clears y s p)

  -- and by the least of f + high, since y's own high is no lower than its low
  pub clears_least : (y : ℕ) → Split c y → Clears y → total_with c c.table y ≤ℤ least_total c high
  unfolding least_total
  clears_least y s f =
      least_high (total_with c high) (least_split c) (total_with c c.table y) (after c) (λ z a l. each z (in_range z a (omega arith)) (ℕ_discrete z y))
    where
      each : (z : ℕ) → Split c z → Dec (z ≡ y) → total_with c c.table y ≤ℤ total_with c high z
      each z t (yes e) =
          subst (λ (w : ℕ). total_with c c.table y ≤ℤ total_with c high w) (sym e) (total_rises c c.table high y (b.rising y s))
      each z t (no d) = f z t d

  pub least_clears : (y : ℕ) → total_with c c.table y ≤ℤ least_total c high → Clears y
  unfolding least_total
  least_clears y h z t d = ≤ℤ_trans h (least_low (total_with c high) (least_split c) (after c) z t.from (omega (arith, t.to)))

  pub can_be_least : (y : ℕ) → Split c y → can_be c high y ≡ le_z (total_with c c.table y) (least_total c high)
  can_be_least y s =
      same (can_be c high y) (le_z (total_with c c.table y) (least_total c high)) (λ e. true_le_z (clears_least y s (can_be_clears y e)))
      (λ e. clears_can_be y (least_clears y (le_z_true _ _ e)))
    where
      same : (s t : Bool) → (s ≡ true → t ≡ true) → (t ≡ true → s ≡ true) → s ≡ t
      same true t f g = sym (f refl)
      same false true f g = g refl
      same false false f g = refl

  -- ---- the least totals

  pub smallest : Smallest c high (least_total c c.table)
  unfolding least_total
  smallest = record {
    table = c.table;
    within = low_within;
    met = refl;
    bound = λ t w. least_rises (total_with c c.table) (total_with c t) (least_split c) (after c)
        (λ z a l. total_rises c c.table t z (w.above z (in_range z a (omega arith))));
  }

  pub largest : Largest c high (least_total c high)
  unfolding least_total
  largest = record {
    table = high;
    within = high_within;
    met = refl;
    bound = λ t w. least_rises (total_with c t) (total_with c high) (least_split c) (after c)
        (λ z a l. total_rises c t high z (w.below z (in_range z a (omega arith))));
  }
