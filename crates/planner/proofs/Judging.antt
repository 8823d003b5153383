-- Tests 1 to 9: what each step of their function says of all; with least runs 0 and 4,000 on every lane, 23, 26 and 27 refuse none. Assumes nothing.
use mathlib.Core.Path.{◌≡◌, refl, sym, ap, ap₂, ◌∙◌}
use mathlib.Core.Bool.{Bool, true, false, cond}
use mathlib.Core.Option.{Option, none, some}
use mathlib.Core.List.{List}
use Prim.Native.Nat.{ℕ, max, min, ◌+◌, ◌-◌, ◌*◌, ◌≤◌}
use native.Mathlib.Omega.{arith}
use lib.Dec.{ltb}
use lib.IntN.{ℤ}
use lib.ListN.{take, replicate, length-replicate, replicate-append-replicate}
use lib.Seq.{take_at}
use Rattle.problem.specs.Case.{Case, supply, entry, all_demand, depot_stock, made, least_split, greatest_split, steps, lent}
use Rattle.problem.specs.Outcome.{Outcome, refused, refuse_at, first_from, form_refusal, test7, test8, test27, test9, ◌or_else◌}
use Rattle.problem.specs.inner.LentTests.{entries_refusal, Within}
use Rattle.validation.specs.Verdict.{made_of}
use Rattle.planner.specs.Judge.{case_refusal, free_case}
use Rattle.std.specs.Prelude.{Ok, Err}
use Rattle.refusal.specs.Number.{number_of}
use Rattle.refusal.specs.declared.Cause.{Cause}
use Rattle.refusal.specs.declared.Cause.TheVariants.{TooLittleWanted, TooMuchWanted}
use Rattle.planner.specs.inner.Ready.{OnBalance}
use Rattle.problem.proofs.TestsPassed.{first_decides, second_decides, first_passes, Formed, formed, Balanced, balanced}
use Rattle.problem.proofs.TestParts.{met, unmet}
use Rattle.validation.proofs.FormTests.{Limits, lanes}
use Rattle.planner.proofs.LaterTests.{made_by}
use Rattle.problem.proofs.WithoutCeilings as earlier
use Rattle.problem.proofs.Unchanged.{Free, no_27, ends_same}

-- as many of 2,048 ceilings of 4,000 as there are lanes
pub cut_ceilings : (k : ℕ) → k ≤ 2048 → take k (replicate {A = ℕ} 2048 4000) ≡ replicate {A = ℕ} k 4000
cut_ceilings k h =
    let e : k + (2048 - k) ≡ 2048 = omega arith in
    ap (λ (l : List ℕ). take k l) (sym (replicate-append-replicate {A = ℕ} k (2048 - k) 4000 ∙ ap (λ (j : ℕ). replicate {A = ℕ} j 4000) e))
    ∙ take_at (replicate {A = ℕ} k 4000) (replicate {A = ℕ} (2048 - k) 4000) k (length-replicate {A = ℕ} k 4000)

-- what is found of a case lent with so many of them is found of the case with 4,000 on every lane
pub free_formed :
    (m n : ℕ) (costs : List ℤ) (supplies demands ceilings table : List ℕ) (p s f : ℕ) (o : Option Outcome) → Limits m n → ceilings ≡ replicate {A = ℕ} 2048 4000 →
    o ≡ form_refusal (lent m n 0 0 costs supplies demands (take (m * n) ceilings) table p s f) → o ≡ form_refusal (free_case m n costs supplies demands table p s f)
free_formed m n costs supplies demands ceilings table p s f o h e q =
    q ∙ ap (λ (l : List ℕ). form_refusal (lent m n 0 0 costs supplies demands l table p s f)) (ap (λ (l : List ℕ). take (m * n) l) e ∙ cut_ceilings (m * n) (lanes h))

pub case_form : (c : Case) (r : Outcome) → form_refusal c ≡ some r → case_refusal c ≡ some r
unfolding case_refusal
case_form c r e = first_decides (form_refusal c) _ r e

-- a case that passes, passes the tests before the balance
pub case_formed : (c : Case) → case_refusal c ≡ none → form_refusal c ≡ none
unfolding case_refusal
case_formed c e = first_passes (form_refusal c) _ e

module _ (c : Case) (e : form_refusal c ≡ none) where
  pub case_unbalanced : (k : Cause) → made_of c.run1 c.run2 c.supplies c.demands ≡ Err k → case_refusal c ≡ some (refused (number_of k) 0)
  unfolding case_refusal test7 test8
  case_unbalanced k q = go (ltb (all_demand c) (depot_stock c + c.run1 + c.run2)) refl (ltb (supply c 0 + supply c 1) (made c)) refl (sym (made_by c e) ∙ q)
    where
      go : (a : Bool) → ltb (all_demand c) (depot_stock c + c.run1 + c.run2) ≡ a → (b : Bool) → ltb (supply c 0 + supply c 1) (made c) ≡ b
          → cond a (Err TooLittleWanted) (cond b (Err TooMuchWanted) (Ok (made c))) ≡ Err k
          → (form_refusal c or_else test7 c or_else test8 c or_else test27 c or_else test9 c) ≡ some (refused (number_of k) 0)
      go true ea b eb q =
          let z : TooLittleWanted ≡ k = cc in second_decides _ _ e ∙ first_decides _ _ _ (met 7 _ ea) ∙ ap (λ (i : Cause). some (refused (number_of i) 0)) z
      go false ea true eb q =
          let z : TooMuchWanted ≡ k = cc in second_decides _ _ e ∙ second_decides _ _ (unmet 7 _ ea) ∙ first_decides _ _ _ (met 8 _ eb) ∙ ap (λ (i : Cause). some (refused (number_of i) 0)) z
      go false ea false eb q = let z : ◌≡◌ {A = ℕ} 0 1 = cc in absurd (omega arith)

-- past the balance test 9 decides, at the splits within the supplies
module _ (c : Case) (free : Free c) (e1 : c.run1 ≡ 0) (e2 : c.run2 ≡ 0) (all : ℕ) (o : OnBalance c all) where
  form : Formed c
  form = formed c o.form

  even : Balanced c
  even = balanced c form o.t7 o.t8

  low : least_split c ≡ all - supply c 1
  unfolding earlier.least_split
  low = (ends_same c free form even).0 ∙ (let z : max c.run1 (made c - supply c 1) ≡ all - supply c 1 = omega (arith, e1, o.whole) in z)

  high : greatest_split c ≡ min (supply c 0) all
  unfolding earlier.greatest_split
  high = (ends_same c free form even).1 ∙ (let z : min (supply c 0) (made c - c.run2) ≡ min (supply c 0) all = omega (arith, e2, o.whole) in z)

  pub case_entries : (lo hi : ℕ) → lo ≡ all - supply c 1 → hi ≡ min (supply c 0) all → case_refusal c ≡ entries_refusal c.table lo hi
  unfolding case_refusal entries_refusal test9 steps
  case_entries lo hi el eh =
      second_decides _ _ o.form ∙ second_decides _ _ o.t7 ∙ second_decides _ _ o.t8 ∙ second_decides _ _ (no_27 c free form even)
      ∙ ap₂ (λ (l u : ℕ). refuse_at 9 (first_from (λ y. ltb 1000000000 (entry c y)) l (u - l + 1))) (low ∙ sym el) (high ∙ sym eh)

  pub case_within : (lo hi : ℕ) → lo ≡ all - supply c 1 → hi ≡ min (supply c 0) all → Within c.table lo hi
  case_within lo hi el eh = record { order = omega (arith, even.reach, o.whole); long = omega (arith, form.table_long) }
