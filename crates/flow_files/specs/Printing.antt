-- What is printed of a network file, the text that names one of its arcs, and the file of that arc's table: the outcome, and the bytes. Assumes nothing.
use Rattle.std.specs.Prelude.{◌≡◌, Option, None, Some, cond, List, map, ℕ, ◌-◌, ltb, ℤ, length, Result, Ok, Err}
use Rattle.refusal.specs.Number.{number_of}
use Rattle.refusal.specs.declared.Refusal.{Refusal}
use Rattle.csv_print.specs.Text.{refusal_text}
use Rattle.csv_answers.specs.Flow.{flow_text}
use Rattle.numbers.specs.Short.{short_of}
use Rattle.csv_form.specs.declared.Kind.TheVariants.{Production}
use Rattle.plan_files.specs.declared.planned.Printed.{Printed}
use Rattle.csv_table.specs.Files.{table_of}
use Rattle.plan_files.specs.Printed.{Told}
use Rattle.csv_case.specs.Entries.{entries_of, entries_for}
use Rattle.dimacs.specs.Arc.{Arc}
use Rattle.dimacs.specs.Form.{File, Form, whole, broken, form_of}
use Rattle.flow_problem.specs.Network.{listed}
use Rattle.flow_problem.specs.Answer.{CheapestFlow, arcs_of, network_of, Room, Outcome, carried, refused, outcome_of}

-- the place of the arc, from 1, that a text of one to four digits names; 0, which is none, of any other text
abbrev pub place_for : Option ℕ → ℕ
place_for (Some place) = place
place_for None = 0

unfoldable pub place_of : List ℕ → ℕ
place_of arc = place_for (short_of arc)

-- the outcome of a network file with a place and a table; there are cells for 64 arcs
abbrev pub room : Room
room = record { flow = 64; starts = 64; ends = 64; ceilings = 64; costs = 64 }

unfoldable pub network_outcome : List ℕ → ℕ → List ℕ → Outcome
network_outcome s place table = outcome_of s place table room

-- refusals 20 to 22 of the table file, then the rest
abbrev pub table_then : Result ℕ Refusal → Outcome → Outcome
table_then (Err r) o = refused (number_of r.cause) r.place
table_then (Ok count) o = o

unfoldable pub table_outcome : List ℕ → List ℕ → List ℕ → Outcome
table_outcome s arc t = table_then (entries_for (table_of Production t)) (network_outcome s (place_of arc) (entries_of t))

-- refusal 29 of the network file, then the rest
abbrev pub form_then : Form → Outcome → Outcome
form_then (broken line) o = refused 29 line
form_then (whole f) o = o

-- the order of the refusals: 20 and 29 of the network file, 20 to 22 of the table file, 30, 27
unfoldable pub files_outcome : List ℕ → List ℕ → List ℕ → Outcome
files_outcome s arc t = cond (ltb 65536 (length s)) (refused 20 0) (form_then (form_of s) (table_outcome s arc t))

-- the bytes of a flow x: the total, then the arcs in file order, the named one with the table's entry at its flow
unfoldable pub flow_bytes : File → ℕ → List ℕ → List ℕ → ℤ → List ℕ
flow_bytes f named table x total =
    flow_text total named (listed table (listed x named)) (map (λ (a : Arc). a.start) (arcs_of f)) (map (λ (a : Arc). a.end) (arcs_of f)) x
    (map (λ (a : Arc). a.cost) (arcs_of f))

-- a flow is printed: on the arcs but the named one it is left to the program, so it is named, with what holds of it
pub record FlowPrinted (f : File) (place : ℕ) (table : List ℕ) (total : ℤ) (out out' : List ℕ) (answer : Printed) : Type 0 where
  pub amounts : List ℕ
  pub cheapest : CheapestFlow (network_of f) (place - 1) table amounts total
  pub text : Told 0 0 0 0 (flow_bytes f (place - 1) table amounts total) out out' answer

-- a refusal is printed by its two numbers
abbrev pub RefusalPrinted : Outcome → List ℕ → List ℕ → Printed → Type 0
RefusalPrinted o out out' answer = (number at : ℕ) → o ≡ refused number at → Told number at 0 0 (refusal_text number at) out out' answer

-- what is printed of a network file with the outcome o: the refusal's two numbers, or a flow
pub record OutcomePrinted (s : List ℕ) (place : ℕ) (table : List ℕ) (o : Outcome) (out out' : List ℕ) (answer : Printed) : Type 0 where
  pub refusal : RefusalPrinted o out out' answer
  pub flow : (f : File) (total : ℤ) → form_of s ≡ whole f → o ≡ carried total → FlowPrinted f place table total out out' answer

-- what is printed of a network file with a place and a table
abbrev pub NetworkPrinted : List ℕ → ℕ → List ℕ → List ℕ → List ℕ → Printed → Type 0
NetworkPrinted s place table out out' answer = OutcomePrinted s place table (network_outcome s place table) out out' answer

-- what is printed of a network file that is not too long
abbrev pub TablePrinted : List ℕ → List ℕ → List ℕ → List ℕ → List ℕ → Printed → Type 0
TablePrinted s arc t out out' answer = OutcomePrinted s (place_of arc) (entries_of t) (form_then (form_of s) (table_outcome s arc t)) out out' answer

-- what is printed of the two files and the text
abbrev pub FilesPrinted : List ℕ → List ℕ → List ℕ → List ℕ → List ℕ → Printed → Type 0
FilesPrinted s arc t out out' answer = OutcomePrinted s (place_of arc) (entries_of t) (files_outcome s arc t) out out' answer
