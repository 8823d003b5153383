-- The writer's tests before 32 are the paper's 1 to 9: with least runs 0 and 4,000 on every lane, 23, 26 and 27 refuse none. Assumes nothing.
use mathlib.Core.Path.{◌≡◌, refl, ap, ◌∙◌}
use mathlib.Core.Option.{Option}
use mathlib.Core.List.{List}
use Prim.Native.Nat.{ℕ}
use lib.IntN.{ℤ}
use Rattle.problem.specs.Case.{Case}
use Rattle.problem.specs.Outcome.{Outcome, ◌or_else◌, form_refusal, test1, test2, test3, test4, test23, test5, test6, test7, test8, test27, test9}
use Rattle.planner.specs.Judge.{case_refusal, free_case}
use Rattle.problem.proofs.TestsPassed.{second_decides, under_first, formed, balanced}
use Rattle.problem.proofs.WithoutCeilings as earlier
use Rattle.problem.proofs.Unchanged.{Free, form_same, no_27}
use Rattle.plan_files.proofs.FileRefusals.{never_23}

module _ (c : Case) (free : Free c) (e1 : c.run1 ≡ 0) (e2 : c.run2 ≡ 0) where
  six : form_refusal c ≡ (test1 c or_else test2 c or_else test3 c or_else test4 c or_else test5 c or_else test6 c)
  unfolding earlier.form_refusal
  six =
      form_same c free
      ∙ ap (λ (o : Option Outcome). test1 c or_else test2 c or_else test3 c or_else test4 c or_else o) (second_decides (test23 c) (test5 c or_else test6 c) (never_23 c e1 e2))

  nine : case_refusal c ≡ ((test1 c or_else test2 c or_else test3 c or_else test4 c or_else test5 c or_else test6 c) or_else test7 c or_else test8 c or_else test9 c)
  unfolding case_refusal
  nine =
      under_first (form_refusal c) _ _ (λ e.
      under_first (test7 c) _ _ (λ e7.
      under_first (test8 c) _ _ (λ e8. let f = formed c e in second_decides (test27 c) (test9 c) (no_27 c free f (balanced c f e7 e8)))))
      ∙ ap (λ (o : Option Outcome). o or_else test7 c or_else test8 c or_else test9 c) six

-- of the case that is lent
pub one_to_nine :
    (m n : ℕ) (costs : List ℤ) (supplies demands table : List ℕ) (p s f : ℕ) → let c = free_case m n costs supplies demands table p s f in
    case_refusal c ≡ ((test1 c or_else test2 c or_else test3 c or_else test4 c or_else test5 c or_else test6 c) or_else test7 c or_else test8 c or_else test9 c)
one_to_nine m n costs supplies demands table p s f = nine (free_case m n costs supplies demands table p s f) refl refl refl
