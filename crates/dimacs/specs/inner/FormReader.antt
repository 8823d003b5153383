-- What the reader of a file's form answers: contracts. Assumes nothing.
use Rattle.std.specs.Prelude.{◌≡◌, Bool, true, cond, List, [], ◌∷◌, ℕ, ◌+◌, ◌-◌, ◌≤◌, ◌<◌, ltb, length, take, drop, Option, Some, None, Result, Ok, Err}
use Rattle.dimacs.specs.declared.form.Counts.{Counts}
use Rattle.refusal.specs.declared.Cause.TheVariants as causes
use Rattle.refusal.specs.declared.Refusal.{Refusal}
use Rattle.dimacs.specs.declared.form.Tally.{Tally}
use Rattle.dimacs.specs.declared.line.Line as line-answer
use Rattle.dimacs.specs.declared.line.Line.TheVariants as lines
use Rattle.dimacs.specs.Form.{pieces}

-- the line at an offset ends before e: an LF stands there, or the file ends
pub record LineEnd (s : List ℕ) (at e : ℕ) : Type 0 where
  pub from : at ≤ e
  pub upto : e ≤ length s
  pub line : e < length s → pieces (drop at s) ≡ take (e - at) (drop at s) ∷ pieces (drop (e + 1) s)
  pub last : length s ≤ e → pieces (drop at s) ≡ drop at s ∷ []

-- the counts after a further line
abbrev pub tally_of : Bool → ℕ → ℕ → ℕ → Tally
tally_of o n a k = record { opened = o; nodes = n; said = a; arcs = k }

abbrev pub on_problem : Tally → ℕ → ℕ → Option Tally
on_problem t n a = cond t.opened None (Some (tally_of true n a 0))

abbrev pub on_node : Tally → Option Tally
on_node t = cond t.opened (cond (ltb 0 t.arcs) None (Some t)) None

abbrev pub on_arc : Tally → Option Tally
on_arc t = cond t.opened (cond (ltb t.arcs t.said) (Some (tally_of true t.nodes t.said (t.arcs + 1))) None) None

abbrev pub next_of : Tally → Option line-answer.Line → Option Tally
next_of t (Some lines.Comment) = Some t
next_of t (Some (lines.Problem n a)) = on_problem t n a
next_of t (Some (lines.Node v)) = on_node t
next_of t (Some (lines.Arc v)) = on_arc t
next_of t None = None

abbrev pub wrong_line : {T : Type 0} → ℕ → Result T Refusal
wrong_line line = Err (record { cause = causes.Line; place = line })

abbrev pub counted : ℕ → ℕ → Result Counts Refusal
counted n a = Ok (record { nodes = n; arcs = a })

abbrev pub end_of : Tally → ℕ → Result Counts Refusal
end_of t line = cond t.opened (cond (ltb t.arcs t.said) (wrong_line line) (counted t.nodes t.said)) (wrong_line line)
