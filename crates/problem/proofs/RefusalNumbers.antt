-- Which numbers a refusal has: of the tests after the balance 9 or 11, of no test 10; no test answers a plan. Assumes nothing.
use mathlib.Core.Path.{◌≡◌, refl, sym, ap, subst}
use mathlib.Core.Bool.{Bool, true, false}
use mathlib.Core.Option.{Option, none, some}
use Prim.Native.Nat.{ℕ, ◌<◌}
use native.Mathlib.Omega.{arith}
use lib.IntN.{ℤ}
use Rattle.problem.specs.Case.{Case}
use Rattle.problem.specs.Outcome.{Outcome, planned, refused, refuse_if, refuse_at, ◌or_else◌, form_refusal, refusal_of, plan_of, outcome_of, test1}
use Rattle.problem.specs.Outcome.{test2, test3, test4, test23, test5, test26, test6, test7, test8, test27, test9, test11}
use Rattle.problem.proofs.TestsPassed.{some≢none}

-- the number of a refusal, 0 of a plan
pub number : Outcome → ℕ
number (planned s t f k) = 0
number (refused k p) = k

-- what is refused here has a number of the kind P
abbrev pub Numbered : (ℕ → Type 0) → Option Outcome → Type 0
Numbered P o = (r : Outcome) → o ≡ some r → P (number r)

module _ (P : ℕ → Type 0) where
  pub by_if : (k : ℕ) (t : Bool) → P k → Numbered P (refuse_if k t)
  unfolding refuse_if number
  by_if k true l r e = let q : refused k 0 ≡ r = cc in subst (λ (r : Outcome). P (number r)) q l
  by_if k false l r e = absurd (some≢none r (sym e))

  pub by_place : (k : ℕ) (o : Option ℕ) → P k → Numbered P (refuse_at k o)
  unfolding refuse_at number
  by_place k none l r e = absurd (some≢none r (sym e))
  by_place k (some p) l r e = let q : refused k p ≡ r = cc in subst (λ (r : Outcome). P (number r)) q l

  pub by_either : (a b : Option Outcome) → Numbered P a → Numbered P b → Numbered P (a or_else b)
  unfolding ◌or_else◌
  by_either none b h l = l
  by_either (some r) b h l = h

-- above 8 and not 27: none of those for balance
abbrev pub Late : ℕ → Type 0
Late k = (8 < k) × (k < 27)

pub later_tests : (c : Case) (k p : ℕ) → (test9 c or_else test11 c) ≡ some (refused k p) → Late k
unfolding test9 test11 number
later_tests c k p e =
    by_either Late (test9 c) _ (by_place Late 9 _ (omega arith, omega arith)) (by_if Late 11 _ (omega arith, omega arith)) (refused k p) e

-- ---- the numbers of all tests

module _ (c : Case) (P : ℕ → Type 0) where
  form_numbers : P 1 → P 2 → P 3 → P 4 → P 23 → P 5 → P 26 → P 6 → Numbered P (form_refusal c)
  unfolding form_refusal test1 test2 test3 test4 test23 test5 test26 test6
  form_numbers p1 p2 p3 p4 p23 p5 p26 p6 =
      by_either P (test1 c) _ (by_if P 1 _ p1)
      (by_either P (test2 c) _ (by_if P 2 _ p2)
      (by_either P (test3 c) _ (by_if P 3 _ p3)
      (by_either P (test4 c) _ (by_place P 4 _ p4)
      (by_either P (test23 c) _ (by_place P 23 _ p23)
      (by_either P (test5 c) _ (by_place P 5 _ p5)
      (by_either P (test26 c) _ (by_either P (refuse_if 26 _) _ (by_if P 26 _ p26) (by_place P 26 _ p26)) (by_if P 6 _ p6)))))))

  all_numbers : P 1 → P 2 → P 3 → P 4 → P 23 → P 5 → P 26 → P 6 → P 7 → P 8 → P 27 → P 9 → P 11 → Numbered P (refusal_of c)
  unfolding refusal_of test7 test8 test27 test9 test11
  all_numbers p1 p2 p3 p4 p23 p5 p26 p6 p7 p8 p27 p9 p11 =
      by_either P (form_refusal c) _ (form_numbers p1 p2 p3 p4 p23 p5 p26 p6)
      (by_either P (test7 c) _ (by_if P 7 _ p7)
      (by_either P (test8 c) _ (by_if P 8 _ p8)
      (by_either P (test27 c) _ (by_if P 27 _ p27) (by_either P (test9 c) _ (by_place P 9 _ p9) (by_if P 11 _ p11)))))

-- not this number
abbrev Other : ℕ → ℕ → Type 0
Other n k = k ≡ n → ⊥

-- the refusal that was numbered 10 is gone
pub never10 : (c : Case) (k p : ℕ) → refusal_of c ≡ some (refused k p) → k ≡ 10 → ⊥
unfolding number
never10 c k p e =
    all_numbers c (Other 10) (λ e. omega arith) (λ e. omega arith) (λ e. omega arith) (λ e. omega arith) (λ e. omega arith) (λ e. omega arith)
    (λ e. omega arith) (λ e. omega arith) (λ e. omega arith) (λ e. omega arith) (λ e. omega arith) (λ e. omega arith) (λ e. omega arith) (refused k p) e

-- no test answers a plan
never_planned : (c : Case) (s : ℕ) (t f : ℤ) (k : ℕ) → refusal_of c ≡ some (planned s t f k) → ⊥
unfolding number
never_planned c s t f k e =
    all_numbers c (Other 0) (λ e. omega arith) (λ e. omega arith) (λ e. omega arith) (λ e. omega arith) (λ e. omega arith) (λ e. omega arith)
    (λ e. omega arith) (λ e. omega arith) (λ e. omega arith) (λ e. omega arith) (λ e. omega arith) (λ e. omega arith) (λ e. omega arith)
    (planned s t f k) e refl

-- where the outcome is a plan, all tests pass
pub planned_passes : (c : Case) (s : ℕ) (t f : ℤ) (k : ℕ) → outcome_of c ≡ planned s t f k → refusal_of c ≡ none
unfolding outcome_of
planned_passes c s t f k e = step (refusal_of c) (never_planned c s t f k) e
  where
    step : (o : Option Outcome) → (o ≡ some (planned s t f k) → ⊥) → (elim o [ some r ↦ r | none ↦ plan_of c ]) ≡ planned s t f k → o ≡ none
    step none h q = refl
    step (some r) h q = absurd (h (ap some q))
