-- The freight curve of a case, in its own signed unit costs, and its stretches from ℓ to u. Assumes nothing.
use Rattle.std.specs.Prelude.{◌≡◌, ℕ, ℤ}
use Rattle.transport.specs.Plan.{Table}
use Rattle.transport.specs.Curve.{amounts_at}
use Rattle.problem.specs.Freight.{rates_by_row}
use Rattle.problem.specs.Case.{Case, supply, demand, ceiling, made, least_split, greatest_split}
use Rattle.problem.specs.Plans.{least_freight_at}
use Rattle.problem.specs.Outcome.{Outcome, planned}
use Rattle.sweep.specs.inner.Stretches.{FreightCurve, curve_of, Stretches}

-- f is `least_freight_at`, its last split u
abbrev pub case_curve : Case → FreightCurve
case_curve c =
    curve_of c.m c.n (rates_by_row c.n c.costs) (ceiling c) (amounts_at (made c) (λ i. supply c i)) (λ j. demand c j) (least_freight_at c) (greatest_split c)

-- a case that gets a plan was climbed by stretches, from a plan x at ℓ to a plan x' at u
pub record Climbed (c : Case) (o : Outcome) : Type 0 where
  pub stretches : (s : ℕ) (t f : ℤ) (k : ℕ) → o ≡ planned s t f k
      → (x : Table) × (x' : Table) × Stretches (case_curve c) (least_split c) x x'
