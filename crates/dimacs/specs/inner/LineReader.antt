-- What the reader of a line answers: contracts. Assumes nothing.
use Rattle.std.specs.Prelude.{◌≡◌, List, [], ◌∷◌, ℕ, ◌≤◌, ◌<◌, ◌^◌, nat_abs, length, drop, Option as Maybe, Some, None}
use Rattle.std.proofs.Math.Option.{Option, none, some}
use Rattle.dimacs.specs.declared.line.Line as line-answer
use Rattle.dimacs.specs.declared.line.Line.TheVariants as lines
use Rattle.dimacs.specs.Arc.{arc}
use Rattle.dimacs.specs.Bytes.{◌>>=◌, gap, word}
use Rattle.dimacs.specs.Form.{Line, comment, problem, node, arc_line, line_of}

-- the word min
abbrev pub min_word : List ℕ
min_word = 109 ∷ 105 ∷ 110 ∷ []

abbrev pub on_offset : List ℕ → Maybe ℕ → Option (List ℕ)
on_offset s (Some next) = some (drop next s)
on_offset s None = none

abbrev pub offset_ends : List ℕ → Maybe ℕ → Type 0
offset_ends s (Some next) = next ≤ length s
offset_ends s None = Unit {0}

pub record MinRead (s : List ℕ) (at : ℕ) (answer : Maybe ℕ) : Type 0 where
  pub ends : offset_ends s answer
  pub meaning : (gap (drop at s) >>= word min_word) ≡ on_offset s answer

-- the line that an answer is
abbrev pub on_line : Maybe line-answer.Line → Option Line
on_line (Some lines.Comment) = some comment
on_line (Some (lines.Problem n a)) = some (problem n a)
on_line (Some (lines.Node v)) = some (node (record { id = v.id; supply = v.supply }))
on_line (Some (lines.Arc v)) = some (arc_line (record { low = v.low; arc = arc v.start v.end v.ceiling v.cost }))
on_line None = none

-- its numbers have ten digits at most
abbrev pub Small : Maybe line-answer.Line → Type 0
Small (Some lines.Comment) = Unit {0}
Small (Some (lines.Problem n a)) = (n < 10 ^ 10) × (a < 10 ^ 10)
Small (Some (lines.Node v)) = (v.id < 10 ^ 10) × (nat_abs v.supply < 10 ^ 10)
Small (Some (lines.Arc v)) = (v.start < 10 ^ 10) × (v.end < 10 ^ 10) × (v.low < 10 ^ 10) × (v.ceiling < 10 ^ 10) × (nat_abs v.cost < 10 ^ 10)
Small None = Unit {0}

pub record LineRead (read : List ℕ → Option Line) (s : List ℕ) (at : ℕ) (answer : Maybe line-answer.Line) : Type 0 where
  pub small : Small answer
  pub meaning : read (drop at s) ≡ on_line answer

pub record WholeLine (s : List ℕ) (answer : Maybe line-answer.Line) : Type 0 where
  pub small : Small answer
  pub meaning : line_of s ≡ on_line answer
