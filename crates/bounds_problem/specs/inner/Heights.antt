-- Freights as naturals, and the curve drawn from its stops. Assumes nothing.
use Rattle.std.specs.Prelude.{◌≡◌, cond, ◌||◌, List, map, ℕ, zero, suc, min, ◌+◌, ◌-◌, ◌*◌, ◌/◌, ◌≤◌, ◌<◌, leb, ltb, ℤ, pos, nat_abs, ◌+ℤ◌, length, get_or, Option, Some, None}
use Rattle.std.proofs.Math.Option.{none, some}
use Rattle.std.proofs.Math.Option as math
use Rattle.transport.specs.Listing.{up_from}
use Rattle.problem.specs.Integer.{Above}
use Rattle.problem.specs.Outcome.{first_from}

-- how far a freight stands above -128,000,000,000
unfoldable pub height : ℤ → ℕ
height z = nat_abs (z +ℤ pos 128000000000)

-- z lies from -128,000,000,000 to 128,000,000,000
pub record Moderate (z : ℤ) : Type 0 where
  pub above : Above 128000000000 z (height z)
  pub small : height z ≤ 256000000000

-- g is straight from a at p to b at q
pub record Line (g : ℕ → ℕ) (p q a b : ℕ) : Type 0 where
  pub rises : p < q
  pub first : a ≡ g p
  pub last : b ≡ g q
  pub straight : (y : ℕ) → p ≤ y → y ≤ q → (q - p) * g y ≡ (q - y) * a + (y - p) * b

-- the cells hold g from lo to y
abbrev pub Drawn : (ℕ → ℕ) → ℕ → ℕ → List ℕ → Type 0
Drawn g lo y cells = (z : ℕ) → lo ≤ z → z ≤ y → get_or cells (z - lo) 0 ≡ g z

-- the height at y on the line from a at p to b at q
abbrev pub point_at : ℕ → ℕ → ℕ → ℕ → ℕ → ℕ
point_at p q a b y = ((q - y) * a + (y - p) * b) / (q - p)

-- the cells of the splits after p up to q, counted from lo, hold the line, and all others keep their contents
pub record StretchDrawn (lo p q a b : ℕ) (cells cells' : List ℕ) : Type 0 where
  pub long : length cells' ≡ length cells
  pub points : (y : ℕ) → p < y → y ≤ q → get_or cells' (y - lo) 0 ≡ point_at p q a b y
  pub kept : (k : ℕ) → (p < k + lo → k + lo ≤ q → ⊥) → get_or cells' k 0 ≡ get_or cells k 0

-- the first count splits and freights are the stops of a curve that is straight between neighbouring ones
pub record Drawing (splits : List ℕ) (freights : List ℤ) (count : ℕ) : Type 0 where
  pub curve : ℕ → ℕ
  pub some : 1 ≤ count
  pub in_splits : count ≤ length splits
  pub in_freights : count ≤ length freights
  pub small : (k : ℕ) → k < count → get_or splits k 0 ≤ 4000
  pub lowest : (k : ℕ) → k < count → get_or splits 0 0 ≤ get_or splits k 0
  pub moderate : (k : ℕ) → k < count → Moderate (get_or freights k (pos 0))
  pub first : height (get_or freights 0 (pos 0)) ≡ curve (get_or splits 0 0)
  pub lines : (k : ℕ) → suc k < count
      → Line curve (get_or splits k 0) (get_or splits (suc k) 0) (height (get_or freights k (pos 0))) (height (get_or freights (suc k) (pos 0)))

-- the cells of the splits from the first stop to the last hold the curve, and all later ones keep their contents
pub record CurveDrawn (splits : List ℕ) (freights : List ℤ) (count : ℕ) (cells cells' : List ℕ) : Type 0 where
  pub long : length cells' ≡ length cells
  pub drawn : (d : Drawing splits freights count) → Drawn d.curve (get_or splits 0 0) (get_or splits (count - 1) 0) cells'
  pub kept : (k : ℕ) → get_or splits (count - 1) 0 < k + get_or splits 0 0 → get_or cells' k 0 ≡ get_or cells k 0

-- the line from p to q has its cells, counted from lo
pub record Stretch (lo p q a b cells : ℕ) : Type 0 where
  pub from : lo ≤ p
  pub rises : p < q
  pub limit : q ≤ 4000
  pub first : a ≤ 256000000000
  pub last : b ≤ 256000000000
  pub room : q - lo < cells

-- a curve with a table on top: no table is longer, and no sum is large
pub record Summed (curve table : List ℕ) : Type 0 where
  pub some : 1 ≤ length table
  pub long : length table ≤ length curve
  pub heights : (k : ℕ) → k < length table → get_or curve k 0 ≤ 256000000000
  pub entries : (k : ℕ) → k < length table → get_or table k 0 ≤ 1000000000

-- a mark for each number of the table: 1 where the curve with the table on top is at most the bound
unfoldable pub marks_by : List ℕ → List ℕ → ℕ → List ℕ
marks_by curve table bound = map (λ k. cond (leb (get_or curve k 0 + get_or table k 0) bound) 1 0) (up_from 0 (length table))

-- the least of h 0, h 1, .., h k
unfoldable pub least_up_to : (ℕ → ℕ) → ℕ → ℕ
least_up_to h zero = h 0
least_up_to h (suc k) = min (least_up_to h k) (h (suc k))

-- the least of the curve with the table on top
unfoldable pub least_sum : List ℕ → List ℕ → ℕ
least_sum curve table = least_up_to (λ k. get_or curve k 0 + get_or table k 0) (length table - 1)

-- the index found, if any
abbrev pub found : Option ℕ → math.Option ℕ
found (Some k) = some k
found None = none

-- the first index at which the high entry is below the low one or above 1,000,000,000
unfoldable pub first_bad : List ℕ → List ℕ → math.Option ℕ
first_bad low high = first_from (λ k. ltb (get_or high k 0) (get_or low k 0) || ltb 1000000000 (get_or high k 0)) 0 (length low)
