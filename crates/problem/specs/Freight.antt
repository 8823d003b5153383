-- Freight at signed unit costs: of a plan, the least of any plan, the first plan of least freight, the curve over the splits, its stops, and the
-- split of least total.
-- Plans and their listing are the engine's (crate transport). Assumes nothing.
use Rattle.std.specs.Prelude.{Bool, not, cond, ◌||◌, List, map, ℕ, zero, suc, ◌+◌, ◌-◌, ◌*◌, eqb, ℤ, pos, ◌+ℤ◌, ◌*ℤ◌, get_or}
use Rattle.std.specs.Int.Signed.{lt_z}
use Rattle.transport.specs.Plan.{Table, by_row}
use Rattle.transport.specs.Listing.{listing_in, up_from, select}
use Rattle.transport.specs.Curve.{amounts_at}
use Rattle.transport.specs.Canonical.{first}
use Rattle.problem.specs.Integer.{eq_z, sumℤ, leastℤ}

-- a unit cost for each lane (source i, terminal j), both counted from 0
abbrev pub Rates : Type 0
Rates = ℕ → ℕ → ℤ

-- the rates whose rows of n lie one after the other in a list
abbrev pub rates_by_row : ℕ → List ℤ → Rates
rates_by_row n l i j = get_or l (i * n + j) (pos 0)

-- freight: the sum of unit cost times amount over all lanes
unfoldable pub freightℤ : ℕ → ℕ → Rates → Table → ℤ
freightℤ m n c x = sumℤ m (λ i. sumℤ n (λ j. c i j *ℤ pos (x i j)))

-- the least freight of any plan within the ceilings u
unfoldable pub least_freightℤ : ℕ → ℕ → Rates → Table → (ℕ → ℕ) → (ℕ → ℕ) → ℤ
least_freightℤ m n c u r b = leastℤ (map (λ x. freightℤ m n c (by_row n x)) (listing_in m n u r b))

-- the first plan of least freight in the listing of the plans within the ceilings u: the listing rises, so it has the smaller amount at the first
-- lane, in row order, where it differs from another one of least freight
unfoldable pub canonicalℤ : ℕ → ℕ → Rates → Table → (ℕ → ℕ) → (ℕ → ℕ) → List ℕ
canonicalℤ m n c u r b =
    first (select (λ x. eq_z (freightℤ m n c (by_row n x)) (least_freightℤ m n c u r b)) (listing_in m n u r b))

-- f(y): the least freight of any plan within the ceilings at split y
unfoldable pub least_atℤ : ℕ → ℕ → Rates → Table → ℕ → (ℕ → ℕ) → (ℕ → ℕ) → ℕ → ℤ
least_atℤ m n c u d a b y = least_freightℤ m n c u (amounts_at d a y) b

-- the slope of f changes at y: f(y+1) - f(y) ≠ f(y) - f(y-1)
unfoldable pub bendsℤ : (ℕ → ℤ) → ℕ → Bool
bendsℤ f y = not (eq_z (f (y + 1) +ℤ f (y - 1)) (f y +ℤ f y))

-- a stop: the first split, the last, or one where the slope changes
unfoldable pub is_stopℤ : (ℕ → ℤ) → ℕ → ℕ → ℕ → Bool
is_stopℤ f lo hi y = eqb y lo || (eqb y hi || bendsℤ f y)

-- the stops from lo to hi, rising
unfoldable pub stops_ofℤ : (ℕ → ℤ) → ℕ → ℕ → List ℕ
stops_ofℤ f lo hi = select (is_stopℤ f lo hi) (up_from lo (suc (hi - lo)))

-- the smallest of i, i + 1, .., i + k at which g is least
unfoldable pub best_fromℤ : (ℕ → ℤ) → ℕ → ℕ → ℕ
best_fromℤ g i zero = i
best_fromℤ g i (suc k) = let b = best_fromℤ g i k in cond (lt_z (g (i + suc k)) (g b)) (i + suc k) b
