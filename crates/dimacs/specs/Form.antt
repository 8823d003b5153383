-- The form of a DIMACS file: its lines, what a line may be, and which line may follow which, as an automaton over the lines. Limits are not judged
-- here. Assumes nothing.
use Rattle.std.specs.Prelude.{Bool, true, false, List, [], ◌∷◌, ◌++◌, ℕ, suc, eqb, ltb, ℤ, length}
use Rattle.std.proofs.Math.Option.{Option, none, some}
use Rattle.dimacs.specs.Arc.{Arc, arc}
use Rattle.dimacs.specs.Bytes.{◌>>=◌, gap, word, field, signed_field}

-- a byte before the first of the pieces
abbrev pub before : ℕ → List (List ℕ) → List (List ℕ)
before b [] = (b ∷ []) ∷ []
before b (p ∷ ps) = (b ∷ p) ∷ ps

-- the lines of a file without their LF, and last what stands after the last LF
unfoldable pub pieces : List ℕ → List (List ℕ)
pieces [] = [] ∷ []
pieces (b ∷ l) = elim (eqb b 10) [ true ↦ [] ∷ pieces l | false ↦ before b (pieces l) ]

pub record ArcLine : Type 0 where
  pub low : ℕ
  pub arc : Arc

pub record NodeLine : Type 0 where
  pub id : ℕ
  pub supply : ℤ

pub data Line : Type 0 where
  comment : Line
  -- p min NODES ARCS
  problem : ℕ → ℕ → Line
  -- n ID SUPPLY
  node : NodeLine → Line
  -- a START END LOW CAP COST
  arc_line : ArcLine → Line

-- the line ends here
unfoldable pub ending : {A : Type 0} → A → List ℕ → Option A
ending v [] = some v
ending v (b ∷ l) = none

unfoldable pub problem_line : List ℕ → Option Line
problem_line l = do
  l₁ ← gap l
  l₂ ← word (109 ∷ 105 ∷ 110 ∷ []) l₁
  n ← field l₂
  a ← field n.rest
  ending (problem n.value a.value) a.rest

unfoldable pub node_line : List ℕ → Option Line
node_line l = do
  i ← field l
  s ← signed_field i.rest
  ending (node (record { id = i.value; supply = s.value })) s.rest

unfoldable pub arc_of : List ℕ → Option Line
arc_of l = do
  s ← field l
  e ← field s.rest
  low ← field e.rest
  cap ← field low.rest
  c ← signed_field cap.rest
  ending (arc_line (record { low = low.value; arc = arc s.value e.value cap.value c.value })) c.rest

-- a line by its first byte: c, p, n or a
unfoldable pub line_of : List ℕ → Option Line
line_of [] = none
line_of (b ∷ l) =
    elim (eqb b 99) [
      | true ↦ some comment
      | false ↦ elim (eqb b 112) [
        | true ↦ problem_line l
        | false ↦ elim (eqb b 110) [ true ↦ node_line l | false ↦ elim (eqb b 97) [ true ↦ arc_of l | false ↦ none ] ]
      ]
    ]

-- what is read so far: how many nodes and arcs the p line says, the n lines and the a lines
pub record File : Type 0 where
  pub nodes : ℕ
  pub said : ℕ
  pub supplies : List NodeLine
  pub arcs : List ArcLine

abbrev pub file : ℕ → ℕ → List NodeLine → List ArcLine → File
file n a s l = record { nodes = n; said = a; supplies = s; arcs = l }

-- before the p line, and after it
pub data Stage : Type 0 where
  opening : Stage
  reading : File → Stage

abbrev pub is_empty : {A : Type 0} → List A → Bool
is_empty [] = true
is_empty (x ∷ l) = false

abbrev pub only_if : Bool → Stage → Option Stage
only_if true s = some s
only_if false s = none

-- the automaton: one p line, then n lines, then a lines as many as the p line says, comments anywhere
unfoldable pub step : Stage → Line → Option Stage
step opening comment = some opening
step opening (problem n a) = some (reading (file n a [] []))
step opening (node v) = none
step opening (arc_line v) = none
step (reading f) comment = some (reading f)
step (reading f) (problem n a) = none
step (reading f) (node v) = only_if (is_empty f.arcs) (reading (file f.nodes f.said (f.supplies ++ (v ∷ [])) f.arcs))
step (reading f) (arc_line v) = only_if (ltb (length f.arcs) f.said) (reading (file f.nodes f.said f.supplies (f.arcs ++ (v ∷ []))))

-- a file of the form, or the number of the first line, from 1, that is not of it after the lines before; a missing line is the one after the last
pub data Form : Type 0 where
  whole : File → Form
  broken : ℕ → Form

abbrev pub whole_if : Bool → File → ℕ → Form
whole_if true f i = whole f
whole_if false f i = broken i

-- where the lines end, i being the number after the last: all a lines are there
unfoldable pub at_end : ℕ → Stage → Form
at_end i opening = broken i
at_end i (reading f) = whole_if (eqb (length f.arcs) f.said) f i

-- what stands after the last LF: nothing; else it is a line without LF
unfoldable pub last : ℕ → Stage → List ℕ → Form
last i s [] = at_end i s
last i s (b ∷ l) = broken i

-- line i and those after it
unfoldable pub run : ℕ → Stage → List (List ℕ) → Form
run i s [] = broken i
run i s (p ∷ []) = last i s p
run i s (p ∷ q ∷ ps) = elim (line_of p >>= step s) [ none ↦ broken i | some t ↦ run (suc i) t (q ∷ ps) ]

unfoldable pub form_of : List ℕ → Form
form_of l = run 1 opening (pieces l)
