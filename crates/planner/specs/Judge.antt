-- Tests 1 to 9, which look at the case alone and not at cells lent for an answer. Assumes nothing.
use Rattle.std.proofs.Math.Option.{Option, none, some}
use Rattle.std.specs.Prelude.{List, ℕ, ◌*◌, ℤ, replicate, Result, Ok, Err, ⊤}
use Rattle.problem.specs.Case.{Case, lent}
use Rattle.problem.specs.Outcome.{Outcome, refused, ◌or_else◌, form_refusal, test7, test8, test27, test9}
use Rattle.refusal.specs.Number.{number_of}
use Rattle.refusal.specs.declared.Refusal.{Refusal}

-- a case with least runs 0 and the ceiling 4,000 on every lane
abbrev pub free_case : ℕ → ℕ → List ℤ → List ℕ → List ℕ → List ℕ → ℕ → ℕ → ℕ → Case
free_case m n costs supplies demands table plan splits freights =
    lent m n 0 0 costs supplies demands (replicate (m * n) 4000) table plan splits freights

-- tests 1 to 9 in their order, with 23, 26 and 27 where they stand
unfoldable pub case_refusal : Case → Option Outcome
case_refusal c = form_refusal c or_else test7 c or_else test8 c or_else test27 c or_else test9 c

-- the refusal, if any
abbrev pub judged : Result ⊤ Refusal → Option Outcome
judged (Ok _) = none
judged (Err r) = some (refused (number_of r.cause) r.place)
