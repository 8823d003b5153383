-- Examples of the form, as a table: a file and its form. Assumes nothing.
use mathlib.Core.Path.{◌≡◌, refl}
use mathlib.Core.List.{List, [], ◌∷◌, map}
use Prim.Native.Nat.{ℕ}
use lib.IntN.{ℤ, pos, negsuc}
use Rattle.dimacs.specs.Arc.{arc}
use Rattle.dimacs.specs.Bytes.{◌>>=◌, digits, counting, number, signed, spaces, gap, word, field, signed_field}
use Rattle.dimacs.specs.Form.{ArcLine, NodeLine, file, pieces, ending, problem_line, node_line, arc_of, line_of, step, Form, whole, broken, at_end, last, run, form_of}

pub record Example : Type 0 where
  pub bytes : List ℕ
  pub form : Form

example : List ℕ → Form → Example
example l f = record { bytes = l; form = f }

line : ℕ → ℕ → ℕ → ℕ → ℤ → ArcLine
line s e low cap c = record { low = low; arc = arc s e cap c }

gives : ℕ → ℤ → NodeLine
gives i s = record { id = i; supply = s }

pub examples : List Example
unfolding example line gives
examples =
    -- an empty file:
    example [] (broken 1)
    ∷
    -- a blank line: LF
    example (10 ∷ []) (broken 1)
    ∷
    -- no p line: c LF
    example (99 ∷ 10 ∷ []) (broken 2)
    ∷
    -- a comment without LF: c
    example (99 ∷ []) (broken 1)
    ∷
    -- no a line: p min 2 1 LF
    example (112 ∷ 32 ∷ 109 ∷ 105 ∷ 110 ∷ 32 ∷ 50 ∷ 32 ∷ 49 ∷ 10 ∷ []) (broken 2)
    ∷
    -- the p line without LF: p min 2 1
    example (112 ∷ 32 ∷ 109 ∷ 105 ∷ 110 ∷ 32 ∷ 50 ∷ 32 ∷ 49 ∷ []) (broken 1)
    ∷
    -- one arc: p min 2 1 LF a 1 2 0 3 5 LF
    example (112 ∷ 32 ∷ 109 ∷ 105 ∷ 110 ∷ 32 ∷ 50 ∷ 32 ∷ 49 ∷ 10 ∷ 97 ∷ 32 ∷ 49 ∷ 32 ∷ 50 ∷ 32 ∷ 48 ∷ 32 ∷ 51 ∷ 32 ∷ 53 ∷ 10 ∷ []) (whole (file 2 1 [] (line 1 2 0 3 (pos 5) ∷ [])))
    ∷
    -- the last line without LF: p min 2 1 LF a 1 2 0 3 5
    example (112 ∷ 32 ∷ 109 ∷ 105 ∷ 110 ∷ 32 ∷ 50 ∷ 32 ∷ 49 ∷ 10 ∷ 97 ∷ 32 ∷ 49 ∷ 32 ∷ 50 ∷ 32 ∷ 48 ∷ 32 ∷ 51 ∷ 32 ∷ 53 ∷ []) (broken 2)
    ∷
    -- a comment last, without LF: p min 2 1 LF a 1 2 0 3 5 LF c end
    example (112 ∷ 32 ∷ 109 ∷ 105 ∷ 110 ∷ 32 ∷ 50 ∷ 32 ∷ 49 ∷ 10 ∷ 97 ∷ 32 ∷ 49 ∷ 32 ∷ 50 ∷ 32 ∷ 48 ∷ 32 ∷ 51 ∷ 32 ∷ 53 ∷ 10 ∷ 99 ∷ 32 ∷ 101 ∷ 110 ∷ 100 ∷ []) (broken 3)
    ∷
    -- a blank line first: LF p min 2 0 LF
    example (10 ∷ 112 ∷ 32 ∷ 109 ∷ 105 ∷ 110 ∷ 32 ∷ 50 ∷ 32 ∷ 48 ∷ 10 ∷ []) (broken 1)
    ∷
    -- a blank line last: p min 2 0 LF  LF
    example (112 ∷ 32 ∷ 109 ∷ 105 ∷ 110 ∷ 32 ∷ 50 ∷ 32 ∷ 48 ∷ 10 ∷ 10 ∷ []) (broken 2)
    ∷
    -- no arcs, a comment last: p min 2 0 LF c end LF
    example (112 ∷ 32 ∷ 109 ∷ 105 ∷ 110 ∷ 32 ∷ 50 ∷ 32 ∷ 48 ∷ 10 ∷ 99 ∷ 32 ∷ 101 ∷ 110 ∷ 100 ∷ 10 ∷ []) (whole (file 2 0 [] []))
    ∷
    -- a line that begins with c, whatever else it holds: cost255NULCR LF p min 2 0 LF
    example (99 ∷ 111 ∷ 115 ∷ 116 ∷ 255 ∷ 0 ∷ 13 ∷ 10 ∷ 112 ∷ 32 ∷ 109 ∷ 105 ∷ 110 ∷ 32 ∷ 50 ∷ 32 ∷ 48 ∷ 10 ∷ []) (whole (file 2 0 [] []))
    ∷
    -- a space before the c: c LF
    example (32 ∷ 99 ∷ 10 ∷ []) (broken 1)
    ∷
    -- a space at the end: p min 2 0  LF
    example (112 ∷ 32 ∷ 109 ∷ 105 ∷ 110 ∷ 32 ∷ 50 ∷ 32 ∷ 48 ∷ 32 ∷ 10 ∷ []) (broken 1)
    ∷
    -- a space in front: p min 2 0 LF
    example (32 ∷ 112 ∷ 32 ∷ 109 ∷ 105 ∷ 110 ∷ 32 ∷ 50 ∷ 32 ∷ 48 ∷ 10 ∷ []) (broken 1)
    ∷
    -- several spaces: p  min   2 0 LF
    example (112 ∷ 32 ∷ 32 ∷ 109 ∷ 105 ∷ 110 ∷ 32 ∷ 32 ∷ 32 ∷ 50 ∷ 32 ∷ 48 ∷ 10 ∷ []) (whole (file 2 0 [] []))
    ∷
    -- a tab: pTABmin 2 0 LF
    example (112 ∷ 9 ∷ 109 ∷ 105 ∷ 110 ∷ 32 ∷ 50 ∷ 32 ∷ 48 ∷ 10 ∷ []) (broken 1)
    ∷
    -- CR LF: p min 2 0CR LF
    example (112 ∷ 32 ∷ 109 ∷ 105 ∷ 110 ∷ 32 ∷ 50 ∷ 32 ∷ 48 ∷ 13 ∷ 10 ∷ []) (broken 1)
    ∷
    -- max: p max 2 0 LF
    example (112 ∷ 32 ∷ 109 ∷ 97 ∷ 120 ∷ 32 ∷ 50 ∷ 32 ∷ 48 ∷ 10 ∷ []) (broken 1)
    ∷
    -- a longer word: p mint 2 0 LF
    example (112 ∷ 32 ∷ 109 ∷ 105 ∷ 110 ∷ 116 ∷ 32 ∷ 50 ∷ 32 ∷ 48 ∷ 10 ∷ []) (broken 1)
    ∷
    -- no space: pmin 2 0 LF
    example (112 ∷ 109 ∷ 105 ∷ 110 ∷ 32 ∷ 50 ∷ 32 ∷ 48 ∷ 10 ∷ []) (broken 1)
    ∷
    -- a field too few: p min 2 LF
    example (112 ∷ 32 ∷ 109 ∷ 105 ∷ 110 ∷ 32 ∷ 50 ∷ 10 ∷ []) (broken 1)
    ∷
    -- a field too many: p min 2 0 0 LF
    example (112 ∷ 32 ∷ 109 ∷ 105 ∷ 110 ∷ 32 ∷ 50 ∷ 32 ∷ 48 ∷ 32 ∷ 48 ∷ 10 ∷ []) (broken 1)
    ∷
    -- a capital: P min 2 0 LF
    example (80 ∷ 32 ∷ 109 ∷ 105 ∷ 110 ∷ 32 ∷ 50 ∷ 32 ∷ 48 ∷ 10 ∷ []) (broken 1)
    ∷
    -- no fields: p min LF
    example (112 ∷ 32 ∷ 109 ∷ 105 ∷ 110 ∷ 10 ∷ []) (broken 1)
    ∷
    -- a 0 in front: p min 02 0 LF
    example (112 ∷ 32 ∷ 109 ∷ 105 ∷ 110 ∷ 32 ∷ 48 ∷ 50 ∷ 32 ∷ 48 ∷ 10 ∷ []) (broken 1)
    ∷
    -- 00: p min 00 0 LF
    example (112 ∷ 32 ∷ 109 ∷ 105 ∷ 110 ∷ 32 ∷ 48 ∷ 48 ∷ 32 ∷ 48 ∷ 10 ∷ []) (broken 1)
    ∷
    -- eleven digits: p min 2 12345678901 LF
    example (112 ∷ 32 ∷ 109 ∷ 105 ∷ 110 ∷ 32 ∷ 50 ∷ 32 ∷ 49 ∷ 50 ∷ 51 ∷ 52 ∷ 53 ∷ 54 ∷ 55 ∷ 56 ∷ 57 ∷ 48 ∷ 49 ∷ 10 ∷ []) (broken 1)
    ∷
    -- ten digits; then a lines are missing: p min 2 1234567890 LF
    example (112 ∷ 32 ∷ 109 ∷ 105 ∷ 110 ∷ 32 ∷ 50 ∷ 32 ∷ 49 ∷ 50 ∷ 51 ∷ 52 ∷ 53 ∷ 54 ∷ 55 ∷ 56 ∷ 57 ∷ 48 ∷ 10 ∷ []) (broken 2)
    ∷
    -- a minus at a count: p min -2 0 LF
    example (112 ∷ 32 ∷ 109 ∷ 105 ∷ 110 ∷ 32 ∷ 45 ∷ 50 ∷ 32 ∷ 48 ∷ 10 ∷ []) (broken 1)
    ∷
    -- a letter: p min 2x 0 LF
    example (112 ∷ 32 ∷ 109 ∷ 105 ∷ 110 ∷ 32 ∷ 50 ∷ 120 ∷ 32 ∷ 48 ∷ 10 ∷ []) (broken 1)
    ∷
    -- a second p line: p min 2 0 LF p min 2 0 LF
    example (112 ∷ 32 ∷ 109 ∷ 105 ∷ 110 ∷ 32 ∷ 50 ∷ 32 ∷ 48 ∷ 10 ∷ 112 ∷ 32 ∷ 109 ∷ 105 ∷ 110 ∷ 32 ∷ 50 ∷ 32 ∷ 48 ∷ 10 ∷ []) (broken 2)
    ∷
    -- an n line before p: n 1 2 LF p min 2 0 LF
    example (110 ∷ 32 ∷ 49 ∷ 32 ∷ 50 ∷ 10 ∷ 112 ∷ 32 ∷ 109 ∷ 105 ∷ 110 ∷ 32 ∷ 50 ∷ 32 ∷ 48 ∷ 10 ∷ []) (broken 1)
    ∷
    -- an a line before p: a 1 2 0 3 5 LF
    example (97 ∷ 32 ∷ 49 ∷ 32 ∷ 50 ∷ 32 ∷ 48 ∷ 32 ∷ 51 ∷ 32 ∷ 53 ∷ 10 ∷ []) (broken 1)
    ∷
    -- supplies with and without a minus: p min 2 0 LF n 1 -4 LF c LF n 2 4 LF
    example (112 ∷ 32 ∷ 109 ∷ 105 ∷ 110 ∷ 32 ∷ 50 ∷ 32 ∷ 48 ∷ 10 ∷ 110 ∷ 32 ∷ 49 ∷ 32 ∷ 45 ∷ 52 ∷ 10 ∷ 99 ∷ 10 ∷ 110 ∷ 32 ∷ 50 ∷ 32 ∷ 52 ∷ 10 ∷ [])
    (whole (file 2 0 (gives 1 (negsuc 3) ∷ gives 2 (pos 4) ∷ []) []))
    ∷
    -- -0: p min 2 0 LF n 1 -0 LF
    example (112 ∷ 32 ∷ 109 ∷ 105 ∷ 110 ∷ 32 ∷ 50 ∷ 32 ∷ 48 ∷ 10 ∷ 110 ∷ 32 ∷ 49 ∷ 32 ∷ 45 ∷ 48 ∷ 10 ∷ []) (broken 2)
    ∷
    -- 0: p min 2 0 LF n 1 0 LF
    example (112 ∷ 32 ∷ 109 ∷ 105 ∷ 110 ∷ 32 ∷ 50 ∷ 32 ∷ 48 ∷ 10 ∷ 110 ∷ 32 ∷ 49 ∷ 32 ∷ 48 ∷ 10 ∷ []) (whole (file 2 0 (gives 1 (pos 0) ∷ []) []))
    ∷
    -- a minus alone: p min 2 0 LF n 1 - LF
    example (112 ∷ 32 ∷ 109 ∷ 105 ∷ 110 ∷ 32 ∷ 50 ∷ 32 ∷ 48 ∷ 10 ∷ 110 ∷ 32 ∷ 49 ∷ 32 ∷ 45 ∷ 10 ∷ []) (broken 2)
    ∷
    -- a plus: p min 2 0 LF n 1 +4 LF
    example (112 ∷ 32 ∷ 109 ∷ 105 ∷ 110 ∷ 32 ∷ 50 ∷ 32 ∷ 48 ∷ 10 ∷ 110 ∷ 32 ∷ 49 ∷ 32 ∷ 43 ∷ 52 ∷ 10 ∷ []) (broken 2)
    ∷
    -- a minus at a node: p min 2 0 LF n -1 4 LF
    example (112 ∷ 32 ∷ 109 ∷ 105 ∷ 110 ∷ 32 ∷ 50 ∷ 32 ∷ 48 ∷ 10 ∷ 110 ∷ 32 ∷ 45 ∷ 49 ∷ 32 ∷ 52 ∷ 10 ∷ []) (broken 2)
    ∷
    -- -04: p min 2 0 LF n 1 -04 LF
    example (112 ∷ 32 ∷ 109 ∷ 105 ∷ 110 ∷ 32 ∷ 50 ∷ 32 ∷ 48 ∷ 10 ∷ 110 ∷ 32 ∷ 49 ∷ 32 ∷ 45 ∷ 48 ∷ 52 ∷ 10 ∷ []) (broken 2)
    ∷
    -- a space after the minus: p min 2 0 LF n 1 - 4 LF
    example (112 ∷ 32 ∷ 109 ∷ 105 ∷ 110 ∷ 32 ∷ 50 ∷ 32 ∷ 48 ∷ 10 ∷ 110 ∷ 32 ∷ 49 ∷ 32 ∷ 45 ∷ 32 ∷ 52 ∷ 10 ∷ []) (broken 2)
    ∷
    -- a node that is none, twice: of the form: p min 2 0 LF n 9 4 LF n 9 4 LF
    example (112 ∷ 32 ∷ 109 ∷ 105 ∷ 110 ∷ 32 ∷ 50 ∷ 32 ∷ 48 ∷ 10 ∷ 110 ∷ 32 ∷ 57 ∷ 32 ∷ 52 ∷ 10 ∷ 110 ∷ 32 ∷ 57 ∷ 32 ∷ 52 ∷ 10 ∷ []) (whole (file 2 0 (gives 9 (pos 4) ∷ gives 9 (pos 4) ∷ []) []))
    ∷
    -- a cost with a minus: p min 2 1 LF a 1 2 0 3 -5 LF c LF
    example (112 ∷ 32 ∷ 109 ∷ 105 ∷ 110 ∷ 32 ∷ 50 ∷ 32 ∷ 49 ∷ 10 ∷ 97 ∷ 32 ∷ 49 ∷ 32 ∷ 50 ∷ 32 ∷ 48 ∷ 32 ∷ 51 ∷ 32 ∷ 45 ∷ 53 ∷ 10 ∷ 99 ∷ 10 ∷ []) (whole (file 2 1 [] (line 1 2 0 3 (negsuc 4) ∷ [])))
    ∷
    -- a lower bound: of the form: p min 2 1 LF a 1 2 7 3 5 LF
    example (112 ∷ 32 ∷ 109 ∷ 105 ∷ 110 ∷ 32 ∷ 50 ∷ 32 ∷ 49 ∷ 10 ∷ 97 ∷ 32 ∷ 49 ∷ 32 ∷ 50 ∷ 32 ∷ 55 ∷ 32 ∷ 51 ∷ 32 ∷ 53 ∷ 10 ∷ []) (whole (file 2 1 [] (line 1 2 7 3 (pos 5) ∷ [])))
    ∷
    -- a minus at the lower bound: p min 2 1 LF a 1 2 -1 3 5 LF
    example (112 ∷ 32 ∷ 109 ∷ 105 ∷ 110 ∷ 32 ∷ 50 ∷ 32 ∷ 49 ∷ 10 ∷ 97 ∷ 32 ∷ 49 ∷ 32 ∷ 50 ∷ 32 ∷ 45 ∷ 49 ∷ 32 ∷ 51 ∷ 32 ∷ 53 ∷ 10 ∷ []) (broken 2)
    ∷
    -- a minus at the ceiling: p min 2 1 LF a 1 2 0 -3 5 LF
    example (112 ∷ 32 ∷ 109 ∷ 105 ∷ 110 ∷ 32 ∷ 50 ∷ 32 ∷ 49 ∷ 10 ∷ 97 ∷ 32 ∷ 49 ∷ 32 ∷ 50 ∷ 32 ∷ 48 ∷ 32 ∷ 45 ∷ 51 ∷ 32 ∷ 53 ∷ 10 ∷ []) (broken 2)
    ∷
    -- an arc without its cost: p min 2 1 LF a 1 2 0 3 LF
    example (112 ∷ 32 ∷ 109 ∷ 105 ∷ 110 ∷ 32 ∷ 50 ∷ 32 ∷ 49 ∷ 10 ∷ 97 ∷ 32 ∷ 49 ∷ 32 ∷ 50 ∷ 32 ∷ 48 ∷ 32 ∷ 51 ∷ 10 ∷ []) (broken 2)
    ∷
    -- an a line more than said: p min 2 1 LF a 1 2 0 3 5 LF a 1 2 0 3 5 LF
    example (112 ∷ 32 ∷ 109 ∷ 105 ∷ 110 ∷ 32 ∷ 50 ∷ 32 ∷ 49 ∷ 10 ∷ 97 ∷ 32 ∷ 49 ∷ 32 ∷ 50 ∷ 32 ∷ 48 ∷ 32 ∷ 51 ∷ 32 ∷ 53 ∷ 10 ∷ 97 ∷ 32 ∷ 49 ∷ 32 ∷ 50 ∷ 32 ∷ 48 ∷ 32 ∷ 51 ∷ 32 ∷ 53 ∷ 10 ∷ [])
    (broken 3)
    ∷
    -- an a line fewer than said: p min 2 2 LF a 1 2 0 3 5 LF
    example (112 ∷ 32 ∷ 109 ∷ 105 ∷ 110 ∷ 32 ∷ 50 ∷ 32 ∷ 50 ∷ 10 ∷ 97 ∷ 32 ∷ 49 ∷ 32 ∷ 50 ∷ 32 ∷ 48 ∷ 32 ∷ 51 ∷ 32 ∷ 53 ∷ 10 ∷ []) (broken 3)
    ∷
    -- an n line after an a line: p min 2 1 LF a 1 2 0 3 5 LF n 1 2 LF
    example (112 ∷ 32 ∷ 109 ∷ 105 ∷ 110 ∷ 32 ∷ 50 ∷ 32 ∷ 49 ∷ 10 ∷ 97 ∷ 32 ∷ 49 ∷ 32 ∷ 50 ∷ 32 ∷ 48 ∷ 32 ∷ 51 ∷ 32 ∷ 53 ∷ 10 ∷ 110 ∷ 32 ∷ 49 ∷ 32 ∷ 50 ∷ 10 ∷ []) (broken 3)
    ∷
    -- comments anywhere: p min 2 2 LF c LF a 1 2 0 3 5 LF c LF a 2 1 0 3 5 LF c LF
    example (112 ∷ 32 ∷ 109 ∷ 105 ∷ 110 ∷ 32 ∷ 50 ∷ 32 ∷ 50 ∷ 10 ∷ 99 ∷ 10 ∷ 97 ∷ 32 ∷ 49 ∷ 32 ∷ 50 ∷ 32 ∷ 48 ∷ 32 ∷ 51 ∷ 32 ∷ 53 ∷ 10 ∷ 99 ∷ 10 ∷
    97 ∷ 32 ∷ 50 ∷ 32 ∷ 49 ∷ 32 ∷ 48 ∷ 32 ∷ 51 ∷ 32 ∷ 53 ∷ 10 ∷ 99 ∷ 10 ∷ [])
    (whole (file 2 2 [] (line 1 2 0 3 (pos 5) ∷ line 2 1 0 3 (pos 5) ∷ [])))
    ∷
    -- another letter: p min 2 1 LF x LF
    example (112 ∷ 32 ∷ 109 ∷ 105 ∷ 110 ∷ 32 ∷ 50 ∷ 32 ∷ 49 ∷ 10 ∷ 120 ∷ 10 ∷ []) (broken 2)
    ∷
    -- an a line where p says none: p min 2 0 LF a 1 2 0 3 5 LF
    example (112 ∷ 32 ∷ 109 ∷ 105 ∷ 110 ∷ 32 ∷ 50 ∷ 32 ∷ 48 ∷ 10 ∷ 97 ∷ 32 ∷ 49 ∷ 32 ∷ 50 ∷ 32 ∷ 48 ∷ 32 ∷ 51 ∷ 32 ∷ 53 ∷ 10 ∷ []) (broken 2)
    ∷
    []

pub all_forms : map (λ (e : Example). form_of e.bytes) examples ≡ map (λ (e : Example). e.form) examples
unfolding examples example line gives ◌>>=◌ digits counting number signed spaces gap word field signed_field pieces ending problem_line node_line arc_of line_of step at_end last run form_of
all_forms = refl
