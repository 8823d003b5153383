-- Two cases alike in their outcome; which refusals no case of two files has. Assumes nothing.
use mathlib.Core.Path.{◌≡◌, refl, sym, ap, ◌∙◌}
use mathlib.Core.Logic.{◌⊎◌, inl, inr}
use mathlib.Core.Option.{Option, none, some}
use mathlib.Core.List.{List, [], ◌∷◌}
use Prim.Native.Nat.{ℕ, ◌+◌, ◌*◌, ◌≤◌, ◌<◌}
use native.Mathlib.Omega.{arith}
use lib.IntN.{ℤ}
use lib.ListN.{length, get_or, replicate}
use Rattle.problem.specs.Case.{Case}
use Rattle.problem.specs.Outcome.{Outcome, planned, refused, form_refusal, outcome_of, test23, test26}
use Rattle.problem.specs.inner.LentTests.{first_outside, amounts_refusal, runs_refusal, ceilings_refusal, AtMost}
use Rattle.problem.proofs.TestsPassed.{some≢none, Formed, formed, accepted}
use Rattle.problem.proofs.RefusalNumbers.{planned_passes}
use Rattle.problem.proofs.Promise.{refused_outcome}
use Rattle.problem.proofs.WithoutCeilings as earlier
use Rattle.problem.proofs.Unchanged.{no_26, unchanged}
use Rattle.planner.proofs.LaterTests.{form_decides}
use Rattle.problem.proofs.TestParts.{amounts_none, runs_pass}
use Rattle.validation.proofs.FormTests.{Limits, by_amounts, by_cost, by_table}
use Rattle.plan_files.specs.Printed.{filed_case, case_of, file_case}

module _ (c : Case) where
  -- where the outcome is a plan, the case has passed the tests before the balance
  pub planned_formed : (s : ℕ) (t f : ℤ) (k : ℕ) → outcome_of c ≡ planned s t f k → Formed c
  planned_formed s t f k e = formed c (accepted c (planned_passes c s t f k e)).form

-- ---- two cases with one outcome, which are one case where that is a plan: they are one, or the tests before the balance refuse both alike

pub record Alike (c c' : Case) : Type 0 where
  pub same : outcome_of c ≡ outcome_of c'
  pub one : (s : ℕ) (t f : ℤ) (k : ℕ) → outcome_of c' ≡ planned s t f k → c ≡ c'
  pub either : (c ≡ c') ⊎ ((r : Outcome) × (form_refusal c ≡ some r) × (form_refusal c' ≡ some r))

pub alike_equal : (c c' : Case) → c ≡ c' → Alike c c'
alike_equal c c' e = record { same = ap outcome_of e; one = λ s t f k h. e; either = inl e }

-- the tests before the balance refuse both alike
pub alike_refused : (c c' : Case) (r : Outcome) → form_refusal c ≡ some r → form_refusal c' ≡ some r → Alike c c'
alike_refused c c' r e e' = record {
  same = refused_outcome c r (form_decides c r e) ∙ sym (refused_outcome c' r (form_decides c' r e'));
  one = λ s t f k h. absurd (some≢none r (sym (form_decides c' r e') ∙ planned_passes c' s t f k h));
  either = inr (r, e, e');
}

first_small : (s : List ℕ) → AtMost 4000 s → get_or s 0 0 ≤ 4000
first_small [] h = omega arith
first_small (a ∷ s) h = h 0 (omega arith)

-- ---- with least runs 0, test 23 refuses none

pub never_23 : (c : Case) → c.run1 ≡ 0 → c.run2 ≡ 0 → test23 c ≡ none
unfolding test23 runs_refusal
never_23 c e e' = runs_pass c.run1 c.run2 c.supplies (omega arith) (omega arith)

-- ---- the case of two files has 4,000 on every lane: its outcome is the one that is defined without ceilings, so neither 26 nor 27

pub file_unchanged : (t p : List ℕ) → outcome_of (file_case t p) ≡ earlier.outcome_of (file_case t p)
unfolding file_case case_of
file_unchanged t p = unchanged (file_case t p) refl

-- ---- two tables that are both too long

module _ (m n : ℕ) (costs : List ℤ) (s d t t' : List ℕ) (h : Limits m n) (lc : length costs ≡ m * n) (ls : length s ≡ m) (ld : length d ≡ n) where
  abbrev C : List ℕ → Case
  C table = filed_case m n costs s d (replicate (m * n) 4000) table

  runs : runs_refusal 0 0 s ≡ none
  unfolding test23 runs_refusal
  runs = never_23 (C t) refl refl

  -- no ceiling is above 4,000
  caps : ceilings_refusal (m * n) (replicate (m * n) 4000) ≡ none
  unfolding ceilings_refusal test26
  caps = no_26 (C t) refl

  pub alike_long : 4001 < length t → 4001 < length t' → Alike (C t) (C t')
  alike_long k k' = go (amounts_refusal s d) refl (first_outside costs) refl
    where
      go : (a : Option Outcome) → amounts_refusal s d ≡ a → (b : Option ℕ) → first_outside costs ≡ b → Alike (C t) (C t')
      go (some o) ea b eb = alike_refused _ _ o (by_amounts (C t) h lc ls ld o ea) (by_amounts (C t') h lc ls ld o ea)
      go none ea (some i) eb = alike_refused _ _ (refused 5 (i + 1)) (by_cost (C t) h lc ls ld ea runs i eb) (by_cost (C t') h lc ls ld ea runs i eb)
      go none ea none eb =
          let small = first_small s (amounts_none s d ea).0 in
          alike_refused _ _ (refused 6 0)
          (by_table (C t) h lc ls ld ea runs eb caps (λ e. omega (arith, small)))
          (by_table (C t') h lc ls ld ea runs eb caps (λ e. omega (arith, small)))
