-- What is printed of a tariff file and two production files, one of the low and one of the high entries: the outcome of the case that the
-- tariff and the low file are, and the bytes. Assumes nothing.
use Rattle.std.specs.Prelude.{◌≡◌, Bool, true, false, List, ℕ, ◌-◌, ℤ, get_or, Ok, Err}
use Rattle.refusal.specs.Number.{number_of}
use Rattle.csv_print.specs.Text.{refusal_text}
use Rattle.csv_answers.specs.Bounds.{bounds_text}
use Rattle.problem.specs.Case as planner-case
use Rattle.plan_files.specs.declared.planned.Printed.{Printed}
use Rattle.csv_case.specs.CaseFiles.{CaseAnswer, case_answer}
use Rattle.csv_case.specs.Entries.{entries_of}
use Rattle.plan_files.specs.Printed.{file_case, sources_told, terminals_told, Told}
use Rattle.problem.specs.Case.{least_split}
use Rattle.bounds_problem.specs.Tables.{Split, Possible, Smallest, Largest, marks}
use Rattle.bounds_problem.specs.Answers.{Outcome, known, refused, outcome_of}

-- the outcome of a case with a high table; there is a cell for each split of the longest table
abbrev pub case_outcome : planner-case.Case → List ℕ → Outcome
case_outcome c high = outcome_of c high 4001

-- refusals 20 to 22 of two files, then the rest
abbrev pub files_then : CaseAnswer → Outcome → Outcome
files_then (Err r) o = refused (number_of r.cause) r.place
files_then (Ok k) o = o

-- the tariff is judged by 20 to 22, then the low file, then the high one; then the case
unfoldable pub files_outcome : List ℕ → List ℕ → List ℕ → Outcome
files_outcome t l h = files_then (case_answer t l) (files_then (case_answer t h) (case_outcome (file_case t l) (entries_of h)))

-- what the marks and the two totals say: a split has the mark 1 if and only if some table between the bounds makes it the cheapest, and the totals
-- are the smallest and the largest that the least total can be with such a table
pub record BoundsHold (c : planner-case.Case) (high : List ℕ) (s l : ℤ) : Type 0 where
  pub yes : (y : ℕ) → Split c y → get_or (marks c high) (y - least_split c) 0 ≡ 1 → Possible c high y
  pub no : (y : ℕ) → Split c y → get_or (marks c high) (y - least_split c) 0 ≡ 0 → Possible c high y → ⊥
  pub smallest : Smallest c high s
  pub largest : Largest c high l

-- what is printed of a case with the outcome o: the refusal's two numbers, or the two totals and the marks of the splits, with what holds of them
pub record OutcomePrinted (c : planner-case.Case) (high : List ℕ) (o : Outcome) (sources terminals : ℕ) (out out' : List ℕ) (answer : Printed) : Type 0 where
  pub refusal : (number place : ℕ) → o ≡ refused number place → Told number place sources terminals (refusal_text number place) out out' answer
  pub splits : (first count : ℕ) (s l : ℤ) → o ≡ known first count s l → Told 0 0 sources terminals (bounds_text s l first (marks c high)) out out' answer
  pub holds : (first count : ℕ) (s l : ℤ) → o ≡ known first count s l → BoundsHold c high s l

-- what is printed of a case with a high table
abbrev pub CasePrinted : planner-case.Case → List ℕ → List ℕ → List ℕ → Printed → Type 0
CasePrinted c high out out' answer = OutcomePrinted c high (case_outcome c high) c.m c.n out out' answer

-- what is printed of a case with a high file, read beside the tariff t
abbrev pub HighPrinted : List ℕ → List ℕ → planner-case.Case → List ℕ → List ℕ → Printed → Type 0
HighPrinted t h c out out' answer = OutcomePrinted c (entries_of h) (files_then (case_answer t h) (case_outcome c (entries_of h))) c.m c.n out out' answer

-- what is printed of the three files
abbrev pub FilesPrinted : List ℕ → List ℕ → List ℕ → List ℕ → List ℕ → Printed → Type 0
FilesPrinted t l h out out' answer =
    OutcomePrinted (file_case t l) (entries_of h) (files_outcome t l h) (sources_told (case_answer t l)) (terminals_told (case_answer t l)) out out' answer

-- neither of two files is refused by 20 to 22
abbrev pub both_stand : CaseAnswer → Bool
both_stand (Err r) = false
both_stand (Ok k) = true
