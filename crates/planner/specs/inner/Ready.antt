-- What the planner's inner function asks: a case that has passed the tests so far. Assumes nothing.
use Rattle.std.specs.Prelude.{◌≡◌, ℕ, Result, Ok, Err}
use Rattle.std.proofs.Math.Option.{none, some}
use Rattle.refusal.specs.Number.{number_of}
use Rattle.refusal.specs.declared.Refusal.{Refusal}
use Rattle.problem.specs.Case.{Case, made}
use Rattle.problem.specs.Outcome.{refused, form_refusal, refusal_of, test7, test8}

-- past test 8: all is d
pub record OnBalance (c : Case) (all : ℕ) : Type 0 where
  pub form : form_refusal c ≡ none
  pub t7 : test7 c ≡ none
  pub t8 : test8 c ≡ none
  pub whole : all ≡ made c

-- what tests 1 to 8 give: d, or the refusal
abbrev pub Weighed : Case → Result ℕ Refusal → Type 0
Weighed c (Ok d) = OnBalance c d
Weighed c (Err r) = refusal_of c ≡ some (refused (number_of r.cause) r.place)
