-- One plan for everybody: of the plans of least freight within the lane ceilings the one that has the smaller amount at the first lane, in row order, where it differs
-- from another. The listing rises in that order, so it is the first of least freight there. Assumes nothing.
use Rattle.std.specs.Prelude.{◌≡◌, List, [], ◌∷◌, map, ℕ, ◌<◌, eqb, get_or}
use Rattle.transport.specs.Plan.{Table, by_row, freight}
use Rattle.transport.specs.Listing.{select, least, listing_in}
use Rattle.transport.specs.Curve.{amounts_at}

-- x has the smaller amount at the first place where x and z differ
pub record Before (x z : List ℕ) : Type 0 where
  pub place : ℕ
  pub same : (k : ℕ) → k < place → get_or x k 0 ≡ get_or z k 0
  pub less : get_or x place 0 < get_or z place 0

-- the first member (of none: no amounts)
unfoldable pub first : List (List ℕ) → List ℕ
first [] = []
first (x ∷ l) = x

-- the first member at which g is least
unfoldable pub first_least : (List ℕ → ℕ) → List (List ℕ) → List ℕ
first_least g l = first (select (λ x. eqb (g x) (least (map g l))) l)

-- the plan for everybody: the first of least freight in the listing of the plans within the ceilings u
unfoldable pub canonical : ℕ → ℕ → Table → Table → (ℕ → ℕ) → (ℕ → ℕ) → List ℕ
canonical m n c u r b = first_least (λ x. freight m n c (by_row n x)) (listing_in m n u r b)

-- the same at split y, where both plants together send d
abbrev pub canonical_at : ℕ → ℕ → Table → Table → ℕ → (ℕ → ℕ) → (ℕ → ℕ) → ℕ → List ℕ
canonical_at m n c u d a b y = canonical m n c u (amounts_at d a y) b
