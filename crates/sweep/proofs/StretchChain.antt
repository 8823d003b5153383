-- What `stretch` does is a stretch of the freight curve; the climb's, one after the other. Assumes nothing.
use Rattle.std.proofs.Common.{◌≡◌, ℕ, suc, ◌+◌, ◌-◌, ◌<◌, ◌≤◌, List, [], ◌∷◌, ℤ, pos, ◌+ℤ◌, ◌*ℤ◌, neg_ℤ, ◌≤ℤ◌, sym, refl, ap, ◌∙◌, subst, ap₂, subst₂, arith}
use Rattle.transport.specs.Plan.{row, col, freight, Under}
use Rattle.transport.specs.Curve.{least_in}
use Rattle.transport.specs.inner.AtSplit.{At}
use Rattle.transport.proofs.Tables.{sends}
use Rattle.transport.proofs.Splits.{least_in_at}
use Rattle.residual.specs.inner.Cells.{cells}
use Rattle.residual.specs.inner.Network.{Net, net}
use Rattle.incumbent.specs.inner.Scan.{along}
use Rattle.incumbent.specs.declared.Incumbent.{Incumbent}
use Rattle.stretch.specs.inner.ResidualPath.{Arc, arc_cost, path_cost}
use Rattle.stretch.specs.inner.ResidualPath.Arc.{lane, return}
use Rattle.stretch.specs.inner.Stretch.{StretchReady, StretchDone}
use Rattle.sweep.specs.inner.Stretches.{CheapestAt, cost_along, raised_curve, Stretch, Chain, Stretches}
use Rattle.sweep.specs.inner.Climb.{both_in, StretchedTo, ClimbReady, Standing}
use Rattle.sweep.proofs.ClimbState.{two, both, here, stretch_ready}
use Rattle.sweep.proofs.OwnCosts.{path_ext, narrowest_ext, natural_freight}

-- the cost of a path at natural unit costs
as_raised : (N : Net) (l : List Arc) → path_cost N l ≡ cost_along (λ i j. pos (N.c i j)) l
unfolding path_cost arc_cost cost_along
as_raised N [] = refl
as_raised N (lane i j ∷ l) = ap (λ z. pos (N.c i j) +ℤ z) (as_raised N l)
as_raised N (return i j ∷ l) = ap (λ z. neg_ℤ (pos (N.c i j)) +ℤ z) (as_raised N l)

-- ---- one stretch: whatever is called with u - y drums left, from a plan at y

-- a plan of the least freight at its split
cheapest_at : (m n D hi : ℕ) (cost cap x : List ℕ) (a b : ℕ → ℕ) (y : ℕ) → 2 ≤ m → y ≤ D → At m n a b y (D - y) (cells x)
    → Under m n (cells x) (cells cap) → freight m n (cells cost) (cells x) ≡ least_in m n (cells cost) (cells cap) D a b y
    → CheapestAt (raised_curve m n (cells cost) (cells cap) D a b hi) y (cells x)
cheapest_at m n D hi cost cap x a b y two most t under e = record {
  rows = sends m n a b D y (D - y) two (omega arith) (cells x) t;
  columns = λ j l. t.demands j (omega arith) l;
  under = under;
  worth = natural_freight m n (cells cost) (cells x) ∙ ap pos e;
}

module _ (m n D hi : ℕ) (cost cap x : List ℕ) (a b : ℕ → ℕ) {p table : List ℕ} {y value : ℕ} {best : Incumbent} (t : At m n a b y (D - y) (cells x))
    (r : StretchReady (net m n cost cap x) p x table y value (hi - y) best) {k h k' h' p' x' : List ℕ} {d y' v' gain loss : ℕ} {best' : Incumbent}
    (q : StretchDone (net m n cost cap x) table y value (hi - y) best k h p' x' k' h' d y' v' gain loss best') where
  two_plants : 2 ≤ m
  two_plants = omega (arith, r.shift.plant_slack.plants)

  within : (y < hi) × (hi ≤ D) × (y + d ≤ hi)
  within = (omega (arith, r.shift.some), omega (arith, r.shift.some, r.shift.left, t.plant1), omega (arith, r.shift.some, q.over.most))

  on_curve : (s : ℕ) → s ≤ d → least_in m n (cells cost) (cells cap) D a b (y + s) ≡ along value gain loss s
  on_curve s l =
      least_in_at m n (cells cap) D a b (cells cost) (y + s) (D - y - s) (along value gain loss s) two_plants (q.line a b (D - y) t s l)
      (omega (arith, within.1, within.2))

  at_start : least_in m n (cells cost) (cells cap) D a b y ≡ value
  unfolding along
  at_start =
      let e : y ≡ y + 0 = omega arith in
      let e' : along value gain loss 0 ≡ value = omega arith in
      ap (λ z. least_in m n (cells cost) (cells cap) D a b z) e ∙ on_curve 0 (omega arith) ∙ e'

  cost_of : path_cost (net m n cost cap x) q.path.path ≡ cost_along (λ i j. pos (cells cost i j)) q.path.path
  cost_of = as_raised (net m n cost cap x) q.path.path

  -- what `stretch` does is a stretch of the curve, from the plan before it to the plan after it
  pub stretch_of : Stretch (raised_curve m n (cells cost) (cells cap) D a b hi) y (cells x) d (cells x')
  stretch_of = record {
    plan =
        cheapest_at m n D hi cost cap x a b y two_plants (omega (arith, within.0, within.1)) t r.shift.plant_slack.under
        (r.value ∙ sym at_start);
    path = q.path.path;
    arcs = path_ext m n (cells cost) (λ i j. 0) (cells cap) (cells cap) (cells x) (λ i j a c. refl) q.path.path 0 1 q.path.arcs;
    cheapest = λ l a.
        subst₂ (λ (z w : ℤ). z ≤ℤ w) cost_of (as_raised (net m n cost cap x) l)
        (q.path.cheapest l (path_ext m n (λ i j. 0) (cells cost) (cells cap) (cells cap) (cells x) (λ i j a c. refl) l 0 1 a));
    some = q.some;
    drums =
        q.path.drums
        ∙ narrowest_ext m n (cells cost) (λ i j. 0) (cells cap) (cells cap) (cells x) (λ i j a c. refl) (hi - y) q.path.path 0 1 q.path.arcs;
    within = within.2;
    line = λ s l.
        ap pos (on_curve s l) ∙ q.path.rise s l ∙ ap₂ (λ (z : ℕ) (w : ℤ). pos z +ℤ pos s *ℤ w) (sym at_start) cost_of;
    moves = q.moves;
  }

-- ---- those of the climb, one after the other

module _ {m n : ℕ} {cost cap x₀ p₀ : List ℕ} {lo hi v : ℕ} {table : List ℕ} {added : ℕ} {splits : List ℕ} {freights : List ℤ}
    (r : ClimbReady m n cost cap x₀ p₀ lo hi v table added splits freights) where
  pub stretched_start : StretchedTo m n cost cap x₀ lo hi lo x₀
  unfolding Chain
  stretched_start = record { count = 0; chain = (refl, refl) }

  module _ {x p kept held : List ℕ} {y value : ℕ} {b : Incumbent} (s : Standing m n cost cap x₀ x p kept held y value b) where
    -- one stretch more
    pub stretched_next : lo ≤ y → y < hi → {k h k' h' p' x' : List ℕ} {d y' v' gain loss : ℕ} {b' : Incumbent}
        → StretchDone (net m n cost cap x) table y value (hi - y) b k h p' x' k' h' d y' v' gain loss b'
        → StretchedTo m n cost cap x₀ lo hi y x → StretchedTo m n cost cap x₀ lo hi y' x'
    unfolding Chain
    stretched_next low top {d = d} q w = record {
      count = suc w.count;
      chain = (
        y,
        cells x,
        d,
        w.chain,
        stretch_of m n (both_in n x₀) hi cost cap x (row n (cells x₀)) (col m (cells x₀)) s.at (stretch_ready r s low top) q,
        q.split,
      );
    }

    pub stretched_end : y ≡ hi → StretchedTo m n cost cap x₀ lo hi y x
        → Stretches (raised_curve m n (cells cost) (cells cap) (both_in n x₀) (row n (cells x₀)) (col m (cells x₀)) hi) lo (cells x₀) (cells x)
    stretched_end e w = record {
      all = subst (λ (z : ℕ). StretchedTo m n cost cap x₀ lo hi z x) e w;
      end =
          subst
          (λ (z : ℕ). CheapestAt (raised_curve m n (cells cost) (cells cap) (both_in n x₀) (row n (cells x₀)) (col m (cells x₀)) hi) z (cells x)) e
          (cheapest_at m n (both_in n x₀) hi cost cap x (row n (cells x₀)) (col m (cells x₀)) y (two r) (both r y (omega arith)) s.at
          s.plant_slack.under (s.worth ∙ sym (here r s (omega arith))));
    }
