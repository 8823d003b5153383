-- The stretches of an accepted case, one and all: from y, t drums along the path of one add t times its cost to f, in the case's own unit costs.
-- Assumes nothing.
use mathlib.Core.Path.{◌≡◌, sym, ◌∙◌, subst, subst₂}
use mathlib.Core.List.{List}
use Prim.Native.Nat.{ℕ, ◌+◌, ◌-◌, ◌*◌, ◌≤◌}
use native.Mathlib.Omega.{arith}
use lib.IntN.{ℤ, pos}
use lib.ListN.{get_or}
use Rattle.transport.specs.Plan.{Table, by_row}
use Rattle.transport.specs.Curve.{amounts_at, least_in}
use Rattle.transport.specs.inner.AtSplit.{At}
use Rattle.residual.specs.inner.Cells.{cells}
use Rattle.residual.specs.inner.Network.{net}
use Rattle.incumbent.specs.declared.Incumbent.{Incumbent}
use Rattle.stretch.specs.inner.Stretch.{StretchReady, StretchDone}
use Rattle.problem.specs.Integer.{Above}
use Rattle.problem.specs.Freight.{rates_by_row}
use Rattle.problem.specs.Range.{raised_of}
use Rattle.problem.specs.Case.{Case, supply, demand, ceiling, all_demand, made, least_split}
use Rattle.problem.specs.Plans.{least_freight_at}
use Rattle.problem.specs.Outcome.{Outcome, refused}
use Rattle.problem.proofs.TestsPassed.{Formed}
use Rattle.problem.proofs.MachineIntegers.{raised_above}
use Rattle.problem.proofs.RaisedLists.{map_at}
use Rattle.problem.proofs.RaisedFreight.{Raised}
use Rattle.problem.proofs.RaisedCurve.{lane_in, added, least_above}
use Rattle.split_range.specs.inner.Range.{amount_in, demand_in}
use Rattle.sweep.specs.inner.Stretches.{FreightCurve, curve_of, Stretch, Stretches}
use Rattle.sweep.specs.inner.Sweep.{Swept}
use Rattle.sweep.proofs.OwnCosts.{own_stretch, own_stretches}
use Rattle.sweep.proofs.StretchChain.{stretch_of}
use Rattle.planner.specs.inner.CaseCurve.{case_curve, Climbed}
use Rattle.planner.proofs.EngineAnswer.{Prepared, Accepts, form_of, fitting_of, sends, curve}

module _ {c : Case} {lo hi all : ℕ} (a : Accepts c lo hi all) {cost cap amounts wants : List ℕ} (p : Prepared c cost cap amounts wants) where
  f : Formed c
  f = form_of a.on.on

  -- the working costs are the case's, raised
  raised : Raised 1000000 c.m c.n (rates_by_row c.n c.costs) (by_row 64 cost)
  raised i j h l =
      let k = lane_in c.m c.n i j h l in
      subst (λ (v : ℕ). Above 1000000 (get_or c.costs (i * c.n + j) (pos 0)) v)
      (sym (map_at raised_of c.costs (i * c.n + j) (omega (arith, f.costs_long))) ∙ sym (p.costs.cells i j h l))
      (raised_above (get_or c.costs (i * c.n + j) (pos 0)) (f.cost_inside (i * c.n + j) k))

  above : (y : ℕ) → lo ≤ y → y ≤ hi → Above (1000000 * all_demand c) (least_freight_at c y)
      (least_in c.m c.n (by_row 64 cost) (by_row 64 cap) all (amount_in amounts) (demand_in wants) y)
  unfolding added
  above y h l =
      subst (λ (g : ℕ → ℕ). Above (1000000 * all_demand c) (least_freight_at c y) (g y)) (sym (curve a p))
      (least_above f (fitting_of a.on) y (omega (arith, a.on.low)) (omega (arith, a.on.high)))

  -- the case's curve up to split h
  abbrev curve_to : ℕ → FreightCurve
  curve_to h =
      curve_of c.m c.n (rates_by_row c.n c.costs) (ceiling c) (amounts_at (made c) (λ i. supply c i)) (λ j. demand c j) (least_freight_at c) h

  -- one stretch: `stretch`, called at a plan x at y with u - y drums left, does one of the case's curve, from x to the plan x' that it leaves
  pub case_stretch : {pot x table : List ℕ} {y v : ℕ} {best : Incumbent} → lo ≤ y
      → At c.m c.n (amount_in amounts) (demand_in wants) y (all - y) (cells x)
      → StretchReady (net c.m c.n cost cap x) pot x table y v (hi - y) best
      → {kept held pot' x' kept' held' : List ℕ} {d y' v' gain loss : ℕ} {best' : Incumbent}
      → StretchDone (net c.m c.n cost cap x) table y v (hi - y) best kept held pot' x' kept' held' d y' v' gain loss best'
      → Stretch (case_curve c) y (cells x) d (cells x')
  unfolding all_demand
  case_stretch {x = x} {y = y} l t r {x' = x'} {d = d} q =
      subst (λ (h : ℕ). Stretch (curve_to h) y (cells x) d (cells x')) a.on.high
      (own_stretch f.few_sources raised p.ceilings.cells (sends a.on.on p) p.demands above l
      (stretch_of c.m c.n all hi cost cap x (amount_in amounts) (demand_in wants) t r q))

  -- all: those that led the sweep from the plan x to the plan x' lead there on the case's curve
  pub case_stretches : {plus : ℕ} {splits x splits' x' kept : List ℕ} {freights freights' : List ℤ} {y t v k : ℕ}
      → Swept c.m c.n (by_row 64 cost) (by_row 64 cap) all (amount_in amounts) (demand_in wants) lo hi c.table plus splits freights x splits' freights' x' kept y t v k
      → Stretches (case_curve c) (least_split c) (by_row 64 x) (by_row 64 x')
  unfolding all_demand
  case_stretches {x = x} {x' = x'} w =
      subst₂ (λ (h l : ℕ). Stretches (curve_to h) l (by_row 64 x) (by_row 64 x')) a.on.high a.on.low
      (own_stretches f.few_sources raised p.ceilings.cells (sends a.on.on p) p.demands above w.stretches)

-- the answer told otherwise
pub climbed : {c : Case} {x x' : Table} (o : Outcome) → Stretches (case_curve c) (least_split c) x x' → Climbed c o
climbed {x = x} {x' = x'} o q = record { stretches = λ s t f k e. (x, x', q) }

pub not_climbed : (c : Case) (k p : ℕ) → Climbed c (refused k p)
not_climbed c k p = record { stretches = λ s t f k' e. let z : ◌≡◌ {A = ℕ} 0 1 = cc in absurd (omega arith) }
