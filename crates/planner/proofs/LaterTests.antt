-- How the later tests decide: what the functions of tests 7 to 11 find is what the definitions say. Assumes nothing.
use mathlib.Core.Path.{◌≡◌, refl, sym, ap, ◌∙◌}
use mathlib.Core.Bool.{Bool, true, false, cond, ◌||◌}
use mathlib.Core.Option.{none, some}
use Prim.Native.Nat.{ℕ, ◌+◌, ◌-◌, ◌*◌}
use native.Mathlib.Omega.{arith}
use lib.Dec.{ltb}
use lib.ListN.{length, get_or}
use Rattle.transport.specs.Sum.{sum}
use Rattle.problem.specs.Case.{Case, supply, demand, all_demand, depot_stock, made, steps}
use Rattle.problem.specs.Outcome.{Outcome, refused, ◌or_else◌, form_refusal, refusal_of, test7, test8, test9, test11}
use Rattle.problem.specs.inner.LentTests.{entries_refusal, splits_refusal, Amounts, Within}
use Rattle.size.specs.Size.{checked_of}
use Rattle.size.specs.declared.limits.Size.{Size}
use Rattle.std.specs.Prelude.{Result, Ok, Err}
use Rattle.refusal.specs.Number.{number_of}
use Rattle.refusal.specs.declared.Cause.{Cause}
use Rattle.refusal.specs.declared.Cause.TheVariants.{Sources, Terminals, TooLittleWanted, TooMuchWanted}
use Rattle.validation.specs.Verdict.{made_of}
use Rattle.planner.specs.inner.Ready.{OnBalance}
use Rattle.problem.proofs.TestsPassed.{first_decides, first_passes, second_passes, formed}
use Rattle.problem.proofs.TestParts.{met, unmet}
use Rattle.problem.proofs.Promise.{from7, from8, from9}
use Rattle.planner.proofs.EngineAnswer.{OnSplits, Accepts, order, inside}

-- ---- the size

-- a size that fits has the two numbers that were checked
pub size_is : (m n : ℕ) (z : Size) → checked_of m n ≡ Ok z → (m ≡ z.sources) × (n ≡ z.terminals)
unfolding checked_of
size_is m n z e = go (ltb m 2 || ltb 32 m) (ltb n 1 || ltb 64 n) e
  where
    go : (a b : Bool) → cond {A = Result Size Cause} a (Err Sources) (cond b (Err Terminals) (Ok (record { sources = m; terminals = n }))) ≡ Ok z → (m ≡ z.sources) × (n ≡ z.terminals)
    go true b e = let w : ◌≡◌ {A = ℕ} 0 1 = cc in absurd (omega arith)
    go false true e = let w : ◌≡◌ {A = ℕ} 0 1 = cc in absurd (omega arith)
    go false false e =
        let w : ◌≡◌ {A = Size} (record { sources = m; terminals = n }) z = cc in
        (ap (λ (s : Size). s.sources) w, ap (λ (s : Size). s.terminals) w)

-- ---- the tests before the balance

pub form_decides : (c : Case) (r : Outcome) → form_refusal c ≡ some r → refusal_of c ≡ some r
unfolding refusal_of
form_decides c r e = first_decides (form_refusal c) _ r e

pub amounts : (c : Case) → form_refusal c ≡ none → Amounts c.run1 c.run2 c.supplies c.demands
amounts c e =
    let f = formed c e in
    record {
      two = omega (arith, f.supplies_long, f.two_sources);
      sources = omega (arith, f.supplies_long, f.few_sources);
      terminals = omega (arith, f.demands_long, f.few_terminals);
      supplies = λ k h. f.small_supply k (omega (arith, f.supplies_long));
      demands = λ k h. f.small_demand k (omega (arith, f.demands_long));
      run1 = f.first_run;
      run2 = f.second_run;
    }

-- ---- tests 7 and 8

module _ (c : Case) (e : form_refusal c ≡ none) where
  all_demand_lem : all_demand c ≡ sum (length c.demands) (λ j. get_or c.demands j 0)
  unfolding all_demand
  all_demand_lem = ap (λ (n : ℕ). sum n (λ j. demand c j)) (sym (formed c e).demands_long)

  all_stock : depot_stock c ≡ sum (length c.supplies - 2) (λ k. get_or c.supplies (2 + k) 0)
  unfolding depot_stock
  all_stock = ap (λ (m : ℕ). sum (m - 2) (λ k. supply c (2 + k))) (sym (formed c e).supplies_long)

  -- the definition by the case's own words
  pub made_by :
      made_of c.run1 c.run2 c.supplies c.demands ≡
      cond (ltb (all_demand c) (depot_stock c + c.run1 + c.run2)) (Err TooLittleWanted) (cond (ltb (supply c 0 + supply c 1) (made c)) (Err TooMuchWanted) (Ok (made c)))
  unfolding made_of made
  made_by = rw (all_demand_lem, all_stock) refl

  pub unbalanced : (k : Cause) → made_of c.run1 c.run2 c.supplies c.demands ≡ Err k → refusal_of c ≡ some (refused (number_of k) 0)
  unfolding test7 test8
  unbalanced k q = go (ltb (all_demand c) (depot_stock c + c.run1 + c.run2)) refl (ltb (supply c 0 + supply c 1) (made c)) refl (sym made_by ∙ q)
    where
      go : (a : Bool) → ltb (all_demand c) (depot_stock c + c.run1 + c.run2) ≡ a → (b : Bool) → ltb (supply c 0 + supply c 1) (made c) ≡ b
          → cond a (Err TooLittleWanted) (cond b (Err TooMuchWanted) (Ok (made c))) ≡ Err k → refusal_of c ≡ some (refused (number_of k) 0)
      go true ea b eb q =
          let z : TooLittleWanted ≡ k = cc in from7 c e ∙ first_decides _ _ _ (met 7 _ ea) ∙ ap (λ (i : Cause). some (refused (number_of i) 0)) z
      go false ea true eb q =
          let z : TooMuchWanted ≡ k = cc in from8 c e (unmet 7 _ ea) ∙ first_decides _ _ _ (met 8 _ eb) ∙ ap (λ (i : Cause). some (refused (number_of i) 0)) z
      go false ea false eb q = let z : ◌≡◌ {A = ℕ} 0 1 = cc in absurd (omega arith)

  pub on_balance : (all : ℕ) → made_of c.run1 c.run2 c.supplies c.demands ≡ Ok all → OnBalance c all
  unfolding test7 test8
  on_balance all q = go (ltb (all_demand c) (depot_stock c + c.run1 + c.run2)) refl (ltb (supply c 0 + supply c 1) (made c)) refl (sym made_by ∙ q)
    where
      go : (a : Bool) → ltb (all_demand c) (depot_stock c + c.run1 + c.run2) ≡ a → (b : Bool) → ltb (supply c 0 + supply c 1) (made c) ≡ b
          → cond a (Err TooLittleWanted) (cond b (Err TooMuchWanted) (Ok (made c))) ≡ Ok all → OnBalance c all
      go true ea b eb q = let z : ◌≡◌ {A = ℕ} 0 1 = cc in absurd (omega arith)
      go false ea true eb q = let z : ◌≡◌ {A = ℕ} 0 1 = cc in absurd (omega arith)
      go false ea false eb q = record { form = e; t7 = unmet 7 _ ea; t8 = unmet 8 _ eb; whole = let z : made c ≡ all = cc in sym z }

-- ---- tests 9 and 11

module _ {c : Case} {lo hi all : ℕ} (s : OnSplits c lo hi all) where
  pub within : Within c.table lo hi
  within = record { order = order s; long = inside s }

  splits_are : splits_refusal c.table lo hi (c.m * c.n) c.plan_cells c.split_cells c.freight_cells ≡ (test9 c or_else test11 c)
  unfolding splits_refusal entries_refusal test9 test11 steps
  splits_are = rw (s.low, s.high) refl

  pub by_splits : (r : Outcome) → splits_refusal c.table lo hi (c.m * c.n) c.plan_cells c.split_cells c.freight_cells ≡ some r → refusal_of c ≡ some r
  by_splits r e = from9 c s.on.form s.on.t7 s.on.t8 s.t27 ∙ sym splits_are ∙ e

  pub accepts : splits_refusal c.table lo hi (c.m * c.n) c.plan_cells c.split_cells c.freight_cells ≡ none → Accepts c lo hi all
  accepts e =
      record { on = s; t9 = first_passes (test9 c) (test11 c) (sym splits_are ∙ e); t11 = second_passes (test9 c) (test11 c) (sym splits_are ∙ e) }
