-- Case A with the certificate that is made of it: its bounds are f = 14, 11, 13, it is accepted, so split 3 with total 33 is the
-- promised answer. Assumes nothing.
use mathlib.Core.Path.{◌≡◌, refl, subst₂}
use mathlib.Core.List.{List, [], ◌∷◌}
use Prim.Native.Nat.{ℕ, zero, suc, ◌+◌, ◌*◌, ◌≤◌, ◌<◌}
use native.Mathlib.Omega.{arith}
use mathlib.Core.Bool.{cond}
use lib.Dec.{eqb}
use lib.ListN.{replicate, get_or}
use lib.IntN.{ℤ, pos, negsuc, ◌+ℤ◌}
use lib.Signed.{◌≤ℤ◌, ◌<ℤ◌, le_z_yes, lt_z_yes}
use Rattle.transport.specs.Sum.{sum}
use Rattle.transport.specs.Plan.{by_row, row, col}
use Rattle.transport.specs.Curve.{amounts_at}
use Rattle.problem.specs.Integer.{minℤ, sumℤ}
use Rattle.problem.specs.Freight.{freightℤ}
use Rattle.problem.specs.Case.{Case, lent, supply, demand, ceiling, entry, all_demand, depot_stock, made, lowest_split, highest_split}
use Rattle.problem.specs.Plans.{row_sum, column_sum, freight_of, MeetsTP, plan_total}
use Rattle.problem.specs.Promise.{Cheapest}
use Rattle.certificate.specs.Bound.{gain, bound, bound_with, bound_at, Shown, dearer, Accepted}
use Rattle.certificate.proofs.Certified.{accepted_cheapest}

pub A : Case
A = lent 3 2 0 0 (pos 2 ∷ pos 6 ∷ pos 5 ∷ pos 3 ∷ pos 1 ∷ pos 4 ∷ []) (3 ∷ 3 ∷ 1 ∷ []) (3 ∷ 2 ∷ []) (replicate {A = ℕ} 6 4000) (99 ∷ 20 ∷ 24 ∷ 20 ∷ []) 6 3 3

pub plan : List ℕ
plan = 3 ∷ 0 ∷ 0 ∷ 1 ∷ 0 ∷ 1 ∷ []

-- the prices of the two pieces, 1 to 2 and 2 to 3
pub sources : ℕ → ℕ → ℤ
sources y i = cond (eqb y 1) (get_or (pos 0 ∷ negsuc 2 ∷ pos 1 ∷ []) i (pos 0)) (get_or (pos 0 ∷ pos 2 ∷ pos 1 ∷ []) i (pos 0))

pub terminals : ℕ → ℕ → ℤ
terminals y j = cond (eqb y 1) (get_or (pos 2 ∷ pos 0 ∷ []) j (pos 0)) (get_or (pos 2 ∷ pos 5 ∷ []) j (pos 0))

abbrev pub bound_of : ℕ → ℤ
bound_of y = bound_at A (sources y) (terminals y) y

pub bounds-are : (bound_of 1 ≡ pos 14) × (bound_of 2 ≡ pos 11) × (bound_of 3 ≡ pos 13)
unfolding A sources terminals bound_at bound_with bound gain minℤ sumℤ amounts_at made all_demand depot_stock sum
bounds-are = (refl, refl, refl)

-- no amount is above 3
low : (k : ℕ) → get_or plan k 0 ≤ get_or A.ceilings k 0
unfolding A plan
low zero = omega arith
low (suc zero) = omega arith
low (suc (suc zero)) = omega arith
low (suc (suc (suc zero))) = omega arith
low (suc (suc (suc (suc zero)))) = omega arith
low (suc (suc (suc (suc (suc zero))))) = omega arith
low (suc (suc (suc (suc (suc (suc k)))))) = omega arith

splits_are : (lowest_split A ≡ 1) × (highest_split A ≡ 3)
unfolding A lowest_split highest_split made all_demand depot_stock sum
splits_are = (refl, refl)

total_is : (plan_total A plan ≡ pos 33) × (row_sum A plan 0 ≡ 3)
unfolding A plan plan_total freight_of freightℤ sumℤ row_sum row sum
total_is = (refl, refl)

meets : MeetsTP A plan
unfolding A plan row_sum column_sum row col sum
meets = record {
  cells = refl;
  plant1 = omega arith;
  plant2 = omega arith;
  runs1 = omega arith;
  runs2 = omega arith;
  depots = depots;
  terminals = terminals;
  lanes = lanes;
}
  where
    depots : (i : ℕ) → 2 ≤ i → i < 3 → row_sum A plan i ≡ supply A i
    depots zero a b = absurd (omega arith)
    depots (suc zero) a b = absurd (omega arith)
    depots (suc (suc zero)) a b = refl
    depots (suc (suc (suc i))) a b = absurd (omega arith)

    terminals : (j : ℕ) → j < 2 → column_sum A plan j ≡ demand A j
    terminals zero b = refl
    terminals (suc zero) b = refl
    terminals (suc (suc j)) b = absurd (omega arith)

    lanes : (i j : ℕ) → i < 3 → j < 2 → by_row 2 plan i j ≤ ceiling A i j
    lanes i j a b = low (i * 2 + j)

-- the certificate is accepted
pub accepted : Accepted A plan sources terminals
unfolding A
accepted = record { plan = meets; shown = λ y a b. shown y (omega (arith, splits_are)) (omega (arith, splits_are)) }
  where
    due : (y : ℕ) (z : ℤ) → bound_of y ≡ z → pos 33 ≤ℤ (z +ℤ pos (entry A y)) → (y < 3 → pos 33 <ℤ (z +ℤ pos (entry A y)))
        → Shown A (row_sum A plan 0) (plan_total A plan) (sources y) (terminals y) y
    due y z e h l = dearer (rw (e, total_is.0) h) (rw (e, total_is.0, total_is.1) l)

    shown : (y : ℕ) → 1 ≤ y → y ≤ 3 → Shown A (row_sum A plan 0) (plan_total A plan) (sources y) (terminals y) y
    shown zero a b = absurd (omega arith)
    shown (suc zero) a b = due 1 (pos 14) bounds-are.0 (le_z_yes tt) (λ l. lt_z_yes tt)
    shown (suc (suc zero)) a b = due 2 (pos 11) bounds-are.1 (le_z_yes tt) (λ l. lt_z_yes tt)
    shown (suc (suc (suc zero))) a b = due 3 (pos 13) bounds-are.2 (le_z_yes tt) (λ l. absurd (omega arith))
    shown (suc (suc (suc (suc y)))) a b = absurd (omega arith)

two : 2 ≤ A.m
unfolding A
two = omega arith

-- so split 3 with total 33 is what is promised
pub case_a : Cheapest A plan 3 (pos 33)
case_a =
    subst₂ (λ (y : ℕ) (t : ℤ). Cheapest A plan y t) total_is.1 total_is.0 (accepted_cheapest A two plan sources terminals accepted)
