-- How large freights and totals are: those of the raised case, and the signed total of a plan given. Assumes nothing.
use mathlib.Core.Path.{◌≡◌, sym, ap₂, ◌∙◌, subst₂}
use mathlib.Core.Bool.{false}
use borrow.Author.Tests.{le-ltb}
use mathlib.Core.Option.{none}
use Prim.Native.Nat.{ℕ, zero, suc, ◌+◌, ◌*◌, ◌≤◌, ◌<◌}
use native.Mathlib.Omega.{arith}
use lib.IntN.{ℤ, pos}
use lib.Signed.{lt_z, ◌≤ℤ◌}
use Rattle.transport.specs.Sum.{sum}
use Rattle.transport.specs.Plan.{by_row, row}
use Rattle.transport.specs.Curve.{amounts_at}
use Rattle.transport.proofs.Sums.{sum_ext}
use Rattle.transport.proofs.Tables.{freight_bound}
use Rattle.problem.specs.Case.{Case, supply, all_demand, made, lowest_split, highest_split, least_split, greatest_split}
use Rattle.problem.specs.Plans.{total_at, best_split}
use Rattle.problem.specs.Outcome.{test9}
use Rattle.problem.specs.Promise.{Bounded}
use Rattle.problem.proofs.TestsPassed.{Formed, small_entry}
use Rattle.problem.proofs.TestParts.{sum_under}
use Rattle.problem.proofs.Splits.{Fitting, in_order, last_split, ends_within, most_made, sent_all}
use Rattle.transport.proofs.Differences.{sub_at_most, sub_lt, pos_sub, neg_sub}
use Rattle.problem.proofs.RaisedCurve.{raised_costs, raised_freight, raised_at, raised_total, added, met, cost_most, total_above, best_in}

-- at a split within the supplies no source sends more than 4,000
sends_little : (c : Case) → Formed c → (y : ℕ) → lowest_split c ≤ y → y ≤ highest_split c → (i : ℕ) → i < c.m
    → amounts_at (made c) (λ i. supply c i) y i ≤ 4000
unfolding amounts_at lowest_split highest_split
sends_little c f y a b zero h = omega (arith, f.small_supply 0 h)
sends_little c f y a b (suc zero) h = omega (arith, f.small_supply 1 h)
sends_little c f y a b (suc (suc i)) h = f.small_supply (suc (suc i)) h

module _ {c : Case} (f : Formed c) (t : Fitting c) where
  all_sent : (y : ℕ) → y ≤ greatest_split c → sum c.m (amounts_at (made c) (λ i. supply c i) y) ≡ all_demand c
  all_sent y h = sent_all c y f.two_sources (omega (arith, t.balanced.stock)) (omega (arith, most_made f t))

  -- at most 128,000 drums leave the sources
  pub few_drums : all_demand c ≤ 128000
  few_drums =
      let w = ends_within f t in
      let l = in_order f t in
      omega (
        arith,
        all_sent (least_split c) l,
        sum_under c.m 4000 _ (sends_little c f (least_split c) w.0 (omega arith)),
        f.few_sources,
      )

  -- the raised freight is at most 2,000,000 a drum
  pub raised_most : (y : ℕ) → least_split c ≤ y → y ≤ greatest_split c → raised_at c y ≤ 2000000 * all_demand c
  unfolding raised_freight
  raised_most y g h =
      let p = met f t y g h in
      omega (
        arith,
        p.2,
        freight_bound c.m c.n 2000000 (by_row c.n (raised_costs c)) (by_row c.n p.0) (cost_most f),
        sum_ext c.m (row c.n (by_row c.n p.0)) (amounts_at (made c) (λ i. supply c i) y) p.1.plan.rows,
        all_sent y h,
      )

  -- the total of the plan given
  pub total_bounded : test9 c ≡ none → Bounded (total_at c (best_split c))
  unfolding raised_total added
  total_bounded e =
      let here = best_in f t in
      let up = total_above f t (best_split c) here.0 here.1 in
      let few = few_drums in
      let most = raised_most (best_split c) here.0 here.1 in
      let entry-most = small_entry c e (best_split c) here.0 (omega (arith, last_split f t, here.1)) in
      record {
        low = subst₂ (λ (x y : ℤ). x ≤ℤ y) (sym (neg_sub 127999999999)) (sym up.is)
            (sub_at_most 0 128000000000 (raised_total c (best_split c)) (added c) (omega arith));
        high = subst₂ (λ (x y : ℤ). x ≤ℤ y) (sym up.is) (sym (pos_sub 129000000000))
            (sub_at_most (raised_total c (best_split c)) (added c) 129000000000 0 (omega arith));
      }

  -- the refusal that was numbered 12, total above 200,000,000,000, is never met
  pub never12 : test9 c ≡ none → lt_z (pos 200000000000) (total_at c (best_split c)) ≡ false
  unfolding raised_total added
  never12 e =
      let here = best_in f t in
      let up = total_above f t (best_split c) here.0 here.1 in
      let few = few_drums in
      let most = raised_most (best_split c) here.0 here.1 in
      let entry-most = small_entry c e (best_split c) here.0 (omega (arith, last_split f t, here.1)) in
      ap₂ (λ (x y : ℤ). lt_z x y) (pos_sub 200000000000) up.is ∙ sub_lt 200000000000 0 (raised_total c (best_split c)) (added c)
      ∙ le-ltb (200000000000 + added c) (raised_total c (best_split c) + 0) (omega arith)
