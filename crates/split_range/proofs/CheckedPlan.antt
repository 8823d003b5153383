-- A plan that passes the check at the first split within the supplies and the least runs is what step 1 finds. Assumes nothing.
use Rattle.std.proofs.Common.{◌≡◌, ℕ, ◌+◌, ◌-◌, ◌<◌, max, List, length, replicate, sym, ◌∙◌, arith, Some}
use lib.ListN.{length-replicate, get_or-replicate}
use Rattle.transport.specs.Plan.{Table}
use Rattle.residual.specs.inner.Cells.{cells}
use Rattle.residual.specs.inner.Network.{get, again}
use Rattle.slackcheck.specs.inner.Checked.{Checked}
use Rattle.slackcheck.proofs.Checking.{amount_first, amount_second, amount_depot}
use Rattle.firstsplit.specs.inner.Shipment.{Stocked}
use Rattle.firstsplit.specs.inner.FirstPlan.{Sending, Admitted, FirstPlan}
use Rattle.split_range.specs.inner.Range.{amount_in, BeginReady}

module _ {m n : ℕ} {cost cap supply demand : List ℕ} {run0 run1 d : ℕ} (r : BeginReady m n cost cap supply demand run0 run1 d) where
  -- the first split within the supplies and the least runs
  module _ {y : ℕ} (e : y ≡ max run0 (d - amount_in supply 1)) where
    admitted : Admitted (λ i. get supply i) run0 run1 d y (d - y)
    admitted = record {
      low0 = omega arith;
      high0 = omega (arith, r.first_run, r.high);
      low1 = omega (arith, r.low, r.second_run);
      high1 = omega arith;
      whole = omega (arith, r.low);
    }

    -- a plan there that passes the check
    module _ {x p : List ℕ} (lx : length x ≡ 2048) (lp : length p ≡ 96) (o : Checked m n cost cap supply demand d y x p) where
      none : List ℕ
      none = replicate 96 0

      met : (v : ℕ) → v < 96 → get none v ≡ 0
      unfolding none
      met v h = get_or-replicate {A = ℕ} 96 v 0 0 h

      long_none : length none ≡ 96
      unfolding none
      long_none = length-replicate {A = ℕ} 96 0

      stocked : (x₀ : Table) → Stocked (again (record { m = m; n = n; c = cells cost; u = cells cap; x = x₀ }) x) p none x
      stocked x₀ = record {
        sound = record {
          sources = r.sources;
          terminals = r.terminals;
          costs = r.costs;
          slack = λ i j h l. ((o.rows i h).lanes j l).slack;
          high = o.levels.high;
        };
        under = λ i j h l. ((o.rows i h).lanes j l).under;
        ceilings = r.ceilings;
        long_x = lx;
        long_p = lp;
        long_room = long_none;
        home = λ v h l. absurd (omega (arith, met v h));
        floor = o.levels.low;
        quiet = λ v h. met v (omega arith);
      }

      sending : (x₀ : Table) → Sending (record { m = m; n = n; c = cells cost; u = cells cap; x = x₀ }) (λ i. get supply i) demand y (d - y) p none x
      sending x₀ = record {
        stocked = stocked x₀;
        plant0 = (o.rows 0 (omega (arith, r.plants))).sent ∙ sym (amount_first d (λ i. get supply i) y);
        plant1 = (o.rows 1 (omega (arith, r.plants))).sent ∙ sym (amount_second d (λ i. get supply i) y);
        depots = λ i h l. (o.rows i l).sent ∙ sym (amount_depot d (λ i. get supply i) y i h);
        cols = λ j h. omega (arith, o.columns j h, met (32 + j) (omega (arith, r.terminals)));
      }

      pub checked_first : (x₀ : Table) → FirstPlan (record { m = m; n = n; c = cells cost; u = cells cap; x = x₀ }) (λ i. get supply i) demand run0 run1 d p x (Some y)
      checked_first x₀ = record {
        unmet = none;
        done = record { cases = record { sending = sending x₀; admitted = admitted; least = λ w t v s q h. omega (arith, s.low0, s.high1, s.whole) } };
      }
