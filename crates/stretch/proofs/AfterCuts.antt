-- The potentials after cuts: the plan is slack under them too, and the stretch goes on with them. Assumes nothing.
use mathlib.Core.Path.{refl}
use mathlib.Core.List.{List}
use Prim.Native.Nat.{ℕ}
use native.Mathlib.Omega.{arith}
use Rattle.residual.specs.inner.Network.{Net, net, get}
use Rattle.residual.specs.inner.LanesInUse.{Covers}
use Rattle.cuts.specs.inner.Cut.{WeightsReady, Priced}
use Rattle.cuts.specs.inner.Advance.{AdvancedUnder}
use Rattle.lastsplit.specs.inner.PlantShift.{PlantSlack}
use Rattle.incumbent.specs.declared.Incumbent.{Incumbent}
use Rattle.stretch.specs.inner.Stretch.{ShiftReady, StretchReady}

pub cut_levels : {N : Net} {p x : List ℕ} {limit : ℕ} → ShiftReady N p x limit → WeightsReady p
cut_levels k = record { high = k.plant_slack.sound.high; long = k.plant_slack.long_p }

module _ (cap : List ℕ) {m n : ℕ} {cost x p : List ℕ} {limit : ℕ} (k : ShiftReady (net m n cost cap x) p x limit) where
  pub cut_priced : Priced m n cost
  cut_priced = record { costs = k.plant_slack.sound.costs }

  plant_slack_on : {serves serves' p' : List ℕ} → Covers m n x serves → AdvancedUnder m n cost cap x serves p serves' p'
      → PlantSlack (net m n cost cap x) (get p' 1) p' x
  plant_slack_on c a =
      let s = k.plant_slack in
      record {
        sound = a.sound c s.sound;
        under = s.under;
        ceilings = s.ceilings;
        long_x = s.long_x;
        long_p = a.long;
        plants = s.plants;
        one = refl;
        high = omega (arith, s.one, s.high, a.floor 1 (omega arith));
        floor = λ v h. omega (arith, s.floor v h, a.floor v h);
      }

  pub shift_on : {serves serves' p' : List ℕ} → Covers m n x serves → AdvancedUnder m n cost cap x serves p serves' p'
      → ShiftReady (net m n cost cap x) p' x limit
  shift_on c a = record { plant_slack = plant_slack_on c a; some = k.some; left = k.left; end = k.end }

pub ready_on : {N : Net} {p p' x table : List ℕ} {y v limit : ℕ} {best : Incumbent} → StretchReady N p x table y v limit best
    → ShiftReady N p' x limit → StretchReady N p' x table y v limit best
ready_on r k = record {
  shift = k;
  few = r.few;
  split = r.split;
  value = r.value;
  start = r.start;
  entries = r.entries;
  small = r.small;
  behind = r.behind;
}
