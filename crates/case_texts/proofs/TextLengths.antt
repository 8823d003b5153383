-- How long the two texts are at most, and no number of them has a 0 in front. Assumes nothing.
use mathlib.Core.Path.{ap}
use mathlib.Core.List.{List, [], ◌∷◌, ◌++◌}
use Prim.Native.Nat.{ℕ, zero, suc, ◌+◌, ◌*◌, ◌/◌, ◌%◌, ◌≤◌, ◌<◌, ◌^◌}
use native.Mathlib.Omega.{arith}
use native.Mathlib.Decide.{dec_lt}
use native.Mathlib.Nat.{pow-suc, mul-suc, suc-mul, mul-le-mul}
use lib.IntN.{ℤ, pos, negsuc, nat_abs}
use lib.ListN.{length, get_or, length-append, get_or-append}
use Rattle.csv_print.specs.Text.{decimal, signed_text, field_text, record_text, each}
use Rattle.csv_print.specs.Column.{column_text}
use Rattle.csv_print.proofs.DecimalTexts.{decimal_small, decimal_large}
use Rattle.case_texts.specs.Texts.{costs_text, list_text, line_text, source_text, sources_text, demands_text, tariff_of, production_of}
use Rattle.case_texts.proofs.TextRecords.{Small}

-- a number below 10 ^ (k + 1) has at most k + 1 digits
decimal_digits : (k n : ℕ) → n < 10 ^ suc k → length (decimal n) ≤ suc k
decimal_digits zero n h = omega (arith, ap length (decimal_small n (omega arith)))
decimal_digits (suc k) n h =
    elim (dec_lt n 10) [
      | yes small ↦ omega (arith, ap length (decimal_small n small))
      | no large ↦
          omega (
            arith,
            ap length (decimal_large n (omega arith)),
            length-append (decimal (n / 10)) ((48 + n % 10) ∷ []),
            decimal_digits k (n / 10) (omega (arith, pow-suc 10 (suc k))),
          )
    ]

decimal_some : (n : ℕ) → 1 ≤ length (decimal n)
decimal_some n =
    elim (dec_lt n 10) [
      | yes small ↦ omega (arith, ap length (decimal_small n small))
      | no large ↦ omega (arith, ap length (decimal_large n (omega arith)), length-append (decimal (n / 10)) ((48 + n % 10) ∷ []))
    ]

-- the first digit of a number that is not 0 is not 0
pub no_zero : (k n : ℕ) → 1 ≤ n → n < 10 ^ suc k → 49 ≤ get_or (decimal n) 0 0
no_zero zero n some h = omega (arith, ap (λ (l : List ℕ). get_or l 0 0) (decimal_small n (omega arith)))
no_zero (suc k) n some h =
    elim (dec_lt n 10) [
      | yes small ↦ omega (arith, ap (λ (l : List ℕ). get_or l 0 0) (decimal_small n small))
      | no large ↦
          let d : 1 ≤ length (decimal (n / 10)) = decimal_some (n / 10) in
          omega (
            arith,
            ap (λ (l : List ℕ). get_or l 0 0) (decimal_large n (omega arith)),
            get_or-append (decimal (n / 10)) ((48 + n % 10) ∷ []) 0 0 d,
            no_zero k (n / 10) (omega arith) (omega (arith, pow-suc 10 (suc k))),
          )
    ]

each_most : (k most : ℕ) (f : ℕ → List ℕ) → ((i : ℕ) → i < k → length (f i) ≤ most) → length (each k f) ≤ most * k
unfolding each
each_most zero most f h = omega arith
each_most (suc k) most f h =
    omega (arith, length-append (each k f) (f k), each_most k most f (λ i l. h i (omega arith)), h k (omega arith), mul-suc most k)

field_most : (v b : ℕ) → v ≤ 9999999999 → length (field_text (pos v) b) ≤ 11
unfolding field_text signed_text
field_most v b h = omega (arith, length-append (decimal v) (b ∷ []), decimal_digits 9 v (omega arith))

-- a minus is one byte more
cost_most : (z : ℤ) (b : ℕ) → nat_abs z ≤ 9999999999 → length (field_text z b) ≤ 12
unfolding field_text signed_text
cost_most (pos v) b h = omega (arith, length-append (decimal v) (b ∷ []), decimal_digits 9 v (omega arith))
cost_most (negsuc v) b h = omega (arith, length-append (45 ∷ decimal (suc v)) (b ∷ []), decimal_digits 9 (suc v) (omega arith))

line_most : (v : ℕ) → v ≤ 9999999999 → length (line_text v) ≤ 12
unfolding record_text
line_most v h = omega (arith, length-append (field_text (pos v) 13) (10 ∷ []), field_most v 13 h)

costs_most : (costs : List ℤ) (start n : ℕ) → n ≤ 64 → ((j : ℕ) → j < n → nat_abs (get_or costs (start + j) (pos 0)) ≤ 9999999999) → length (costs_text costs start n) ≤ 768
unfolding costs_text
costs_most costs start n few h = omega (arith, each_most n 12 (λ j. field_text (get_or costs (start + j) (pos 0)) 44) (λ j k. cost_most _ 44 (h j k)))

list_most : (n : ℕ) (demands : List ℕ) → n ≤ 64 → ((j : ℕ) → j < n → get_or demands j 0 ≤ 9999999999) → length (list_text n demands) ≤ 704
unfolding list_text
list_most n demands few h = omega (arith, each_most n 11 (λ j. field_text (pos (get_or demands j 0)) 44) (λ j k. field_most _ 44 (h j k)))

source_most :
    (m n : ℕ) (costs : List ℤ) (supplies demands : List ℕ) → n ≤ 64 → Small m n costs supplies demands → (i : ℕ) → i < m → length (source_text costs supplies n (i * n) i) ≤ 780
unfolding source_text
source_most m n costs supplies demands few s i h =
    let p : suc i * n ≤ m * n = mul-le-mul {n₁ = suc i} {m₁ = n} {n₂ = m} {m₂ = n} h (omega arith) in
    omega (
      arith,
      length-append (costs_text costs (i * n) n) (line_text (get_or supplies i 0)),
      costs_most costs (i * n) n few (λ j k. s.small_costs (i * n + j) (omega (arith, p, suc-mul i n))),
      line_most (get_or supplies i 0) (s.small_supplies i h),
    )

pub tariff_most : (m n : ℕ) (costs : List ℤ) (supplies demands : List ℕ) → m ≤ 32 → n ≤ 64 → Small m n costs supplies demands → length (tariff_of m n costs supplies demands) ≤ 65536
unfolding tariff_of sources_text demands_text
tariff_most m n costs supplies demands few narrow s =
    omega (
      arith,
      length-append (each m (λ i. source_text costs supplies n (i * n) i)) (list_text n demands ++ (13 ∷ 10 ∷ [])),
      length-append (list_text n demands) (13 ∷ 10 ∷ []),
      each_most m 780 (λ i. source_text costs supplies n (i * n) i) (source_most m n costs supplies demands narrow s),
      list_most n demands narrow s.small_demands,
    )

pub production_most : (table : List ℕ) → length table ≤ 4001 → ((y : ℕ) → y < length table → get_or table y 0 ≤ 9999999999) → length (production_of table) ≤ 65536
unfolding column_text
production_most table few h = omega (arith, each_most (length table) 12 (λ y. line_text (get_or table y 0)) (λ y k. line_most (get_or table y 0) (h y k)))
