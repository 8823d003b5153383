-- From step 1 to the first and the last split of a prepared case. Assumes nothing.
use Rattle.std.proofs.Common.{◌≡◌, ℕ, ◌+◌, ◌-◌, ◌*◌, ◌<◌, ◌≤◌, min, max, true, List, length, get_or, sym, refl, ap, ◌∙◌, subst, arith}
use Rattle.std.proofs.Common.{None}
use Rattle.std.proofs.Common.{Some as found}
use Rattle.std.specs.Option.{unwrap_or}
use Rattle.std.proofs.lemmas.Option.{none-some}
use native.Mathlib.Decide.{dec_lt}
use Rattle.transport.specs.Plan.{Table, Under}
use Rattle.transport.specs.Plan.{by_row}
use Rattle.transport.specs.Listing.{least, greatest}
use Rattle.transport.specs.Curve.{has_plan, splits_of}
use Rattle.transport.specs.inner.AtSplit.{At}
use Rattle.residual.specs.inner.Cells.{cells}
use Rattle.residual.specs.inner.Network.{Net, net, get}
use Rattle.residual.specs.inner.LanesInUse.{Covers}
use Rattle.paths.specs.inner.Search.{Wanted}
use Rattle.firstsplit.specs.inner.Shipment.{Stocked}
use Rattle.firstsplit.specs.inner.FirstPlan.{BaseReady, PlantsReady, Admitted, FirstDone}
use Rattle.lastsplit.specs.inner.PlantShift.{PlantSlack}
use Rattle.lastsplit.specs.inner.LastSplit.{Some, Reached, LastReady}
use Rattle.split_range.specs.inner.Begun.{Begun}
use Rattle.split_range.specs.declared.begin.Range.{Range}
use Rattle.split_range.specs.inner.Range.{amount_in, demand_in, BeginReady, Ranged}
use Rattle.transport.proofs.Splits.{at_has, has_at, at_none, least_split, greatest_split_is, no_split}
use Rattle.firstsplit.proofs.FirstSplit.{first_at}

-- the stretches go on from step 1
pub base_plant_slack : {N : Net} {p room x : List ℕ} → 2 ≤ N.m → Stocked N p room x → PlantSlack N (get p 1) p x
base_plant_slack two k = record {
  sound = k.sound;
  under = k.under;
  ceilings = k.ceilings;
  long_x = k.long_x;
  long_p = k.long_p;
  plants = omega arith;
  one = refl;
  high = k.floor 1 (omega arith);
  floor = λ v h. omega (arith, k.floor v h);
}

-- what holds of a range that was found holds of whichever it is said to be
this : (P : Range → Type 0) {a : Range} → P a → (b : Range) → found a ≡ found b → P b
this P {a} p b e = subst P (ap (λ o. unwrap_or o a) e) p

module _ {m n : ℕ} {cost cap supply demand : List ℕ} {run0 run1 d : ℕ} (r : BeginReady m n cost cap supply demand run0 run1 d) where
  pub base_ready : {x : List ℕ} → length x ≡ 2048 → ((k : ℕ) → k < 2048 → get_or x k 0 ≡ 0) → BaseReady (net m n cost cap x) demand x
  base_ready e z = record {
    sources = r.sources;
    terminals = r.terminals;
    costs = r.costs;
    ceilings = r.ceilings;
    long_x = e;
    long_room = r.long_demand;
    blank = λ i j h l. z (i * 64 + j) (omega (arith, r.sources, r.terminals));
    quiet = r.quiet;
  }

  pub plants_ready : PlantsReady (λ i. get supply i) run0 run1 d
  plants_ready = record { first_run = r.first_run; second_run = r.second_run; low = r.low; high = r.high }

  -- the splits that are looked at are those that the plants may make
  admitted : (y : ℕ) → max run0 (d - amount_in supply 1) ≤ y → y ≤ min (amount_in supply 0) (d - run1) → Admitted (amount_in supply) run0 run1 d y (d - y)
  admitted y h l = record { low0 = omega arith; high0 = omega arith; low1 = omega (arith, r.low); high1 = omega arith; whole = omega (arith, r.low) }

  module _ {N : Net} {p x unmet : List ℕ} {split : ℕ} (f : FirstDone N (λ i. get supply i) demand run0 run1 d p unmet x (found split)) where
    pub split_within : (split ≤ d) × (split ≤ min (amount_in supply 0) (d - run1)) × (max run0 (d - amount_in supply 1) ≤ split)
    split_within = let t = f.cases.admitted in omega (arith, t.low0, t.high0, t.low1, t.high1, t.whole)

  -- the plan at the first split
  module _ {x₀ : Table} {p x unmet : List ℕ} {split : ℕ}
      (f : FirstDone (record { m = m; n = n; c = cells cost; u = cells cap; x = x₀ }) (λ i. get supply i) demand run0 run1 d p unmet x (found split)) where
    pub here : At m n (amount_in supply) (demand_in demand) split (d - split) (cells x)
    here = first_at d r.plants (f.cases.sending) (split_within f).0 r.balance

    pub plant_slacks : PlantSlack (net m n cost cap x) (get p 1) p x
    plant_slacks = base_plant_slack r.plants (f.cases.sending).stocked

    pub wanted : Wanted (net m n x cap x) demand
    wanted j h = omega (arith, (f.cases.sending).cols j h)

    pub last_ready : {limit : ℕ} → limit ≡ min (amount_in supply 0) (d - run1) - split → LastReady m n (cells cap) x limit
    last_ready e = record {
      plants = r.plants;
      sources = r.sources;
      terminals = r.terminals;
      under = plant_slacks.under;
      ceilings = r.ceilings;
      long_x = plant_slacks.long_x;
      left = omega (arith, here.plant1, split_within f);
    }

    module _ {limit gone : ℕ} (e : limit ≡ min (amount_in supply 0) (d - run1) - split) (q : Reached m n (cells cap) (cells x) limit gone) where
      pub far_within : (split + gone ≤ d) × (split + gone ≤ min (amount_in supply 0) (d - run1))
      far_within = omega (arith, q.most, split_within f)

      end : Some m n (cells cap) (amount_in supply) (demand_in demand) (split + gone) (d - (split + gone))
      end = record {
        plan = q.end.plan;
        at = record {
          plant0 = omega (arith, q.end.at.plant0, here.plant0);
          plant1 = omega (arith, q.end.at.plant1, here.plant1);
          depots = λ i h l. q.end.at.depots i h l ∙ here.depots i h l;
          demands = λ j h l. q.end.at.demands j h l ∙ here.demands j h l;
        };
        under = q.end.under;
      }

      -- a plan at a split that is looked at
      seen : (y : ℕ) → max run0 (d - amount_in supply 1) ≤ y → y ≤ min (amount_in supply 0) (d - run1)
          → has_plan m n (cells cap) d (amount_in supply) (demand_in demand) y ≡ true
          → (w : Table) × At m n (amount_in supply) (demand_in demand) y (d - y) w × Under m n w (cells cap)
      seen y h l t = has_at m n (cells cap) d (amount_in supply) (demand_in demand) r.plants y (d - y) (admitted y h l).whole t

      pub ranged : {serves : List ℕ} → Covers m n x serves → Ranged m n cost cap supply demand run0 run1 d x serves p (found (record { lo = split; hi = split + gone }))
      ranged {serves = serves} c = record {
        low = this (λ g. g.lo ≡ least (splits_of m n (by_row 64 cap) (amount_in supply) (demand_in demand) run0 run1 d)) (sym
            (least_split m n (cells cap) d (amount_in supply) (demand_in demand) (max run0 (d - amount_in supply 1)) (min (amount_in supply 0) (d - run1)) split
            (split_within f).2 (split_within f).1
            (at_has m n (cells cap) d (amount_in supply) (demand_in demand) r.plants split (d - split) (cells x) (omega (arith, split_within f)) here plant_slacks.under)
            (λ y h l t. let w = seen y h l t in f.cases.least w.0 y (d - y) (admitted y h l) w.1 w.2)));
        high = this (λ g. g.hi ≡ greatest (splits_of m n (by_row 64 cap) (amount_in supply) (demand_in demand) run0 run1 d)) (sym
            (greatest_split_is m n (cells cap) d (amount_in supply) (demand_in demand) (max run0 (d - amount_in supply 1)) (min (amount_in supply 0) (d - run1))
            (split + gone) (omega (arith, split_within f)) far_within.1
            (at_has m n (cells cap) d (amount_in supply) (demand_in demand) r.plants (split + gone) (d - (split + gone)) end.plan (omega (arith, far_within))
            end.at end.under)
            (λ y h l t. let w = seen y h l t in elim (dec_lt gone limit) [
              | yes o ↦ omega (
                arith,
                q.last o w.0 y (d - y)
                    (record {
                      plant0 = w.1.plant0;
                      plant1 = w.1.plant1;
                      depots = λ i a k. w.1.depots i a k ∙ sym (here.depots i a k);
                      demands = λ j a k. w.1.demands j a k ∙ sym (here.demands j a k);
                    })
                    w.2,
                here.plant0,
              )
              | no o ↦ omega (arith, q.most, split_within f)
            ])));
        begun = this (λ g. Begun m n cost cap (amount_in supply) (demand_in demand) d g.lo g.hi x serves p) (record { plant_slack = plant_slacks; at = here; end = end; covers = c; order = omega arith; within = far_within.0 });
        within = this (λ g. (g.lo ≤ g.hi) × (max run0 (d - amount_in supply 1) ≤ g.lo) × (g.hi ≤ min (amount_in supply 0) (d - run1))) (omega arith, (split_within f).2, far_within.1);
        none = λ z. absurd (none-some _ (sym z));
      }

  -- no plan
  pub none_ranged : {x₀ : Table} {p x unmet serves : List ℕ}
      → FirstDone (record { m = m; n = n; c = cells cost; u = cells cap; x = x₀ }) (λ i. get supply i) demand run0 run1 d p unmet x None
      → Ranged m n cost cap supply demand run0 run1 d x serves p None
  none_ranged f = record {
    low = λ g z. absurd (none-some g z);
    high = λ g z. absurd (none-some g z);
    begun = λ g z. absurd (none-some g z);
    within = λ g z. absurd (none-some g z);
    none = λ z.
        no_split m n (cells cap) d (amount_in supply) (demand_in demand) (max run0 (d - amount_in supply 1)) (min (amount_in supply 0) (d - run1))
        (λ y h l.
        at_none m n (cells cap) d (amount_in supply) (demand_in demand) r.plants y (d - y) (admitted y h l).whole
        (λ w t k. f.cases w y (d - y) (admitted y h l) t k));
  }
