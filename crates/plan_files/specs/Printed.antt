-- What is printed of two files: the case that they are, its outcome, and the bytes. Assumes nothing.
use Rattle.std.specs.Prelude.{◌≡◌, List, ℕ, ◌*◌, ℤ, length, replicate, Ok, Err}
use Rattle.std.proofs.lemmas.List.Edits.{sets}
use Rattle.csv_print.specs.Text.{plan_text, refusal_text}
use Rattle.problem.specs.Case as planner-case
use Rattle.problem.specs.Plans.{PlanAt, freight_of, least_freight_at, plan_for}
use Rattle.problem.specs.Outcome.{Outcome, planned, refused, outcome_of}
use Rattle.problem.specs.Promise.{Cheapest}
use Rattle.problem.specs.Case.{lent}
use Rattle.csv_form.specs.declared.Kind.TheVariants.{Tariff, Production}
use Rattle.refusal.specs.Number.{number_of}
use Rattle.plan_files.specs.declared.planned.Printed.{Printed}
use Rattle.csv_form.specs.Records.{form_of}
use Rattle.csv_case.specs.CaseFiles.{CaseAnswer, records_of, sources_in, terminals_in, costs_in, supplies_in, demands_in, entries_in, case_answer}

-- a case as files give it: the least runs are 0, and there is room for 2,048 lanes and 4,001 stops
abbrev pub filed_case : ℕ → ℕ → List ℤ → List ℕ → List ℕ → List ℕ → List ℕ → planner-case.Case
filed_case m n costs supplies demands ceilings table = lent m n 0 0 costs supplies demands ceilings table 2048 4001 4001

-- the case of a tariff's and a production file's records, with the ceiling 4,000 on every lane
unfoldable pub case_of : List (List ℤ) → List (List ℤ) → planner-case.Case
case_of rs qs =
    filed_case (sources_in rs) (terminals_in rs) (costs_in rs) (supplies_in rs) (demands_in rs) (replicate (sources_in rs * terminals_in rs) 4000) (entries_in qs)

unfoldable pub file_case : List ℕ → List ℕ → planner-case.Case
file_case t p = case_of (records_of (form_of Tariff t)) (records_of (form_of Production p))

-- refusals 20 to 22 of the files, then the outcome of the case
abbrev pub outcome_for : CaseAnswer → planner-case.Case → Outcome
outcome_for (Err r) c = refused (number_of r.cause) r.place
outcome_for (Ok k) c = outcome_of c

unfoldable pub file_outcome : List ℕ → List ℕ → Outcome
file_outcome t p = outcome_for (case_answer t p) (file_case t p)

-- m and n of the case, 0 where a file is refused
abbrev pub sources_told : CaseAnswer → ℕ
sources_told (Err r) = 0
sources_told (Ok k) = k.m

abbrev pub terminals_told : CaseAnswer → ℕ
terminals_told (Err r) = 0
terminals_told (Ok k) = k.n

-- the text is printed as far as there is room, every later cell is as it was, and the answer has the text's length and these numbers
pub record Told (number place sources terminals : ℕ) (text out out' : List ℕ) (answer : Printed) : Type 0 where
  pub bytes : out' ≡ sets out 0 text
  pub ends : answer.length ≡ length text
  pub number_told : answer.number ≡ number
  pub place_told : answer.place ≡ place
  pub sources_told_lem : answer.sources ≡ sources
  pub terminals_told_lem : answer.terminals ≡ terminals

-- the plan for everybody at this split is printed, with what holds of it
pub record PlanPrinted (c : planner-case.Case) (split : ℕ) (total : ℤ) (out out' : List ℕ) (answer : Printed) : Type 0 where
  pub plan : PlanAt c split (plan_for c split)
  pub freight : freight_of c (plan_for c split) ≡ least_freight_at c split
  pub cheapest : Cheapest c (plan_for c split) split total
  pub text : Told 0 0 c.m c.n (plan_text c.m c.n c.costs (plan_for c split) split (planner-case.entry c split)) out out' answer

-- what is printed of a case with the outcome o: the refusal's two numbers, or the plan
pub record OutcomePrinted (c : planner-case.Case) (o : Outcome) (sources terminals : ℕ) (out out' : List ℕ) (answer : Printed) : Type 0 where
  pub refusal : (number place : ℕ) → o ≡ refused number place → Told number place sources terminals (refusal_text number place) out out' answer
  pub plan : (split : ℕ) (total freight : ℤ) (stops : ℕ) → o ≡ planned split total freight stops → PlanPrinted c split total out out' answer

-- what is printed of a case
abbrev pub CasePrinted : planner-case.Case → List ℕ → List ℕ → Printed → Type 0
CasePrinted c out out' answer = OutcomePrinted c (outcome_of c) c.m c.n out out' answer

-- what is printed of two files
abbrev pub FilesPrinted : List ℕ → List ℕ → List ℕ → List ℕ → Printed → Type 0
FilesPrinted t p out out' answer =
    OutcomePrinted (file_case t p) (file_outcome t p) (sources_told (case_answer t p)) (terminals_told (case_answer t p)) out out' answer

-- the bytes of an outcome: the plan for everybody, or the refusal
unfoldable pub outcome_text : planner-case.Case → Outcome → List ℕ
outcome_text c (planned split total freight stops) = plan_text c.m c.n c.costs (plan_for c split) split (planner-case.entry c split)
outcome_text c (refused number place) = refusal_text number place

-- the bytes that two files get, from the files alone
abbrev pub files_text : List ℕ → List ℕ → List ℕ
files_text t p = outcome_text (file_case t p) (file_outcome t p)
