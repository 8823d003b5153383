-- The place of refusal 29: some file of the form begins with the lines before it, and none with these and that line. Assumes nothing.
use mathlib.Core.Path.{◌≡◌, refl, sym, ap, ◌∙◌, subst}
use mathlib.Core.Bool.{Bool, true, false}
use mathlib.Core.Option.{Option, none, some}
use mathlib.Core.List.{List, [], ◌∷◌, ◌++◌}
use Prim.Native.Nat.{ℕ, zero, suc, ◌+◌, ◌-◌, ◌≤◌, ◌<◌}
use native.Mathlib.Omega.{arith}
use lib.Dec.{eqb, ltb}
use lib.IntN.{pos}
use lib.ListN.{length, length-append}
use borrow.Author.Tests.{eq-eqb, ne_eqb, eqb-true, eqb-false, lt-ltb, ltb-true}
use Rattle.dimacs.specs.Arc.{arc}
use Rattle.dimacs.specs.Bytes.{◌>>=◌, digits, counting, number, signed, spaces, gap, word, field, signed_field}
use Rattle.dimacs.specs.Form.{before, pieces, ArcLine, Line, comment, problem, node, arc_line, ending, problem_line, node_line, arc_of, line_of, File}
use Rattle.dimacs.specs.Form.{file, Stage, opening, reading, is_empty, only_if, step, Form, whole, broken, whole_if, at_end, last, run, form_of}
use Rattle.dimacs.proofs.FileLines.{run_on, run_wrong, some_piece}

-- ---- lines and bytes

-- no LF
pub data Clean : List ℕ → Type 0 where
  nothing : Clean []
  byte : {b : ℕ} {l : List ℕ} → (b ≡ 10 → ⊥) → Clean l → Clean (b ∷ l)

-- lines, each with its LF, and bytes after them
pub joined : List (List ℕ) → List ℕ → List ℕ
joined [] t = t
joined (p ∷ ps) t = p ++ (10 ∷ joined ps t)

line_piece : (p t : List ℕ) → Clean p → pieces (p ++ (10 ∷ t)) ≡ p ∷ pieces t
unfolding pieces
line_piece p t nothing = refl
line_piece p t (byte {b} {l} d c) = rw (ne_eqb b 10 d, pieces) (ap (before b) (line_piece l t c))

-- a file with two pieces has a line
pub record Cut (l p : List ℕ) (ps : List (List ℕ)) : Type 0 where
  pub rest : List ℕ
  pub is : l ≡ p ++ (10 ∷ rest)
  pub clean : Clean p
  pub pieces_rest : pieces rest ≡ ps

cut : (l p : List ℕ) (q : List ℕ) (ps : List (List ℕ)) → pieces l ≡ p ∷ q ∷ ps → Cut l p (q ∷ ps)
unfolding pieces
cut [] p q ps e = absurd (let z : ◌≡◌ {A = List (List ℕ)} [] (q ∷ ps) = cc in clash z)
  where
    clash : [] ≡ q ∷ ps → ⊥
    clash z = let y : ◌≡◌ {A = ℕ} 0 1 = cc in omega arith
cut (b ∷ l) p q ps e = go (eqb b 10) refl e (λ p' k. cut l p' q ps k)
  where
    ahead : (x : List (List ℕ)) → pieces l ≡ x → before b x ≡ p ∷ q ∷ ps → (eqb b 10 ≡ false) → ((p' : List ℕ) → pieces l ≡ p' ∷ q ∷ ps → Cut l p' (q ∷ ps)) → Cut (b ∷ l) p (q ∷ ps)
    ahead [] k h d ih = absurd (let z : ◌≡◌ {A = List (List ℕ)} [] (q ∷ ps) = cc in let y : ◌≡◌ {A = ℕ} 0 1 = cc in omega arith)
    ahead (x ∷ xs) k h d ih =
        let tail : xs ≡ q ∷ ps = cc in
        let head : b ∷ x ≡ p = cc in
        let w = ih x (k ∙ ap (λ (t : List (List ℕ)). x ∷ t) tail) in
        subst (λ (z : List ℕ). Cut (b ∷ l) z (q ∷ ps)) head
        (record { rest = w.rest; is = ap (λ (t : List ℕ). b ∷ t) w.is; clean = byte (eqb-false b 10 d) w.clean; pieces_rest = w.pieces_rest })

    go : (t : Bool) → eqb b 10 ≡ t → elim t as (λ x. List (List ℕ)) [ true ↦ [] ∷ pieces l | false ↦ before b (pieces l) ] ≡ p ∷ q ∷ ps
        → ((p' : List ℕ) → pieces l ≡ p' ∷ q ∷ ps → Cut l p' (q ∷ ps)) → Cut (b ∷ l) p (q ∷ ps)
    go true k h ih =
        let head : [] ≡ p = cc in
        subst (λ (z : List ℕ). Cut (b ∷ l) z (q ∷ ps)) head
        (record { rest = l; is = ap (λ (c : ℕ). c ∷ l) (eqb-true b 10 k); clean = nothing; pieces_rest = (let tail : pieces l ≡ q ∷ ps = cc in tail) })
    go false k h ih = ahead (pieces l) refl h k ih

-- ---- every stage can still end well

-- no more a lines than said
abbrev pub Good : Stage → Type 0
Good opening = Unit {0}
Good (reading f) = length f.arcs ≤ f.said

step_good : (s t : Stage) (l : Line) → Good s → step s l ≡ some t → Good t
unfolding step
step_good opening t comment h e = subst Good (let q : opening ≡ t = cc in q) tt
step_good opening t (problem n a) h e = subst Good (let q : reading (file n a [] []) ≡ t = cc in q) (omega arith)
step_good opening t (node v) h e = absurd (let y : ◌≡◌ {A = ℕ} 0 1 = cc in omega arith)
step_good opening t (arc_line v) h e = absurd (let y : ◌≡◌ {A = ℕ} 0 1 = cc in omega arith)
step_good (reading f) t comment h e = subst Good (let q : reading f ≡ t = cc in q) h
step_good (reading f) t (problem n a) h e = absurd (let y : ◌≡◌ {A = ℕ} 0 1 = cc in omega arith)
step_good (reading f) t (node v) h e = go (is_empty f.arcs) e
  where
    go : (b : Bool) → only_if b (reading (file f.nodes f.said (f.supplies ++ (v ∷ [])) f.arcs)) ≡ some t → Good t
    go true k = subst Good (let q : reading (file f.nodes f.said (f.supplies ++ (v ∷ [])) f.arcs) ≡ t = cc in q) h
    go false k = absurd (let y : ◌≡◌ {A = ℕ} 0 1 = cc in omega arith)
step_good (reading f) t (arc_line v) h e = go (ltb (length f.arcs) f.said) refl e
  where
    go : (b : Bool) → ltb (length f.arcs) f.said ≡ b → only_if b (reading (file f.nodes f.said f.supplies (f.arcs ++ (v ∷ [])))) ≡ some t → Good t
    go true d k =
        subst Good (let q : reading (file f.nodes f.said f.supplies (f.arcs ++ (v ∷ []))) ≡ t = cc in q)
        (omega (arith, length-append f.arcs (v ∷ []), ltb-true (length f.arcs) f.said d))
    go false d k = absurd (let y : ◌≡◌ {A = ℕ} 0 1 = cc in omega arith)

pub record EndsWell (i : ℕ) (s : Stage) : Type 0 where
  pub bytes : List ℕ
  pub file : File
  pub ends : run i s (pieces bytes) ≡ whole file

-- a 0 0 0 0 0
zeros : List ℕ
zeros = 97 ∷ 32 ∷ 48 ∷ 32 ∷ 48 ∷ 32 ∷ 48 ∷ 32 ∷ 48 ∷ 32 ∷ 48 ∷ []

no_arc : ArcLine
no_arc = record { low = 0; arc = arc 0 0 0 (pos 0) }

zeros_clean : Clean zeros
unfolding zeros
zeros_clean =
    let h : (b : ℕ) → ltb 10 b ≡ true → b ≡ 10 → ⊥ = λ b d e. omega (arith, ltb-true 10 b d) in
    byte (h 97 refl)
    (byte (h 32 refl)
    (byte (h 48 refl) (byte (h 32 refl) (byte (h 48 refl) (byte (h 32 refl) (byte (h 48 refl) (byte (h 32 refl) (byte (h 48 refl) (byte (h 32 refl) (byte (h 48 refl) nothing))))))))))

zeros_step : (f : File) → length f.arcs < f.said → (line_of zeros >>= step (reading f)) ≡ some (reading (file f.nodes f.said f.supplies (f.arcs ++ (no_arc ∷ []))))
unfolding zeros no_arc ◌>>=◌ digits counting number signed spaces gap word field signed_field ending problem_line node_line arc_of line_of step
zeros_step f h = ap (λ (b : Bool). only_if b (reading (file f.nodes f.said f.supplies (f.arcs ++ (no_arc ∷ []))))) (lt-ltb (length f.arcs) f.said h)

more_arcs : (k i : ℕ) (f : File) → length f.arcs + k ≡ f.said → EndsWell i (reading f)
unfolding run last at_end pieces
more_arcs zero i f h = record {
  bytes = [];
  file = f;
  ends = ap (λ (b : Bool). whole_if b f i) (eq-eqb (length f.arcs) f.said (omega arith));
}
more_arcs (suc k) i f h = on (more_arcs k (suc i) (file f.nodes f.said f.supplies (f.arcs ++ (no_arc ∷ []))) (omega (arith, length-append f.arcs (no_arc ∷ []))))
  where
    on : EndsWell (suc i) (reading (file f.nodes f.said f.supplies (f.arcs ++ (no_arc ∷ [])))) → EndsWell i (reading f)
    on w = record {
      bytes = zeros ++ (10 ∷ w.bytes);
      file = w.file;
      ends =
          ap (run i (reading f)) (line_piece zeros w.bytes zeros_clean)
          ∙ run_on i (reading f) zeros w.bytes (reading (file f.nodes f.said f.supplies (f.arcs ++ (no_arc ∷ [])))) (zeros_step f (omega arith))
          ∙ w.ends;
    }

-- p min 0 0
problem_0 : (i : ℕ) → EndsWell i opening
unfolding run last at_end pieces ◌>>=◌ digits counting number signed spaces gap word field signed_field ending problem_line node_line arc_of line_of step
problem_0 i = record { bytes = 112 ∷ 32 ∷ 109 ∷ 105 ∷ 110 ∷ 32 ∷ 48 ∷ 32 ∷ 48 ∷ 10 ∷ []; file = file 0 0 [] []; ends = refl }

pub viable : (i : ℕ) (s : Stage) → Good s → EndsWell i s
viable i opening h = problem_0 i
viable i (reading f) h = more_arcs (f.said - length f.arcs) i f (omega arith)

-- ---- the place

pub record Place (i : ℕ) (s : Stage) (l : List ℕ) (place : ℕ) : Type 0 where
  -- the lines before, and the bytes from there on
  pub lines : List (List ℕ)
  pub rest : List ℕ
  pub is : l ≡ joined lines rest
  pub count : place ≡ i + length lines
  -- some file of the form begins with the lines before
  pub bytes : List ℕ
  pub file : File
  pub some_file : run i s (pieces (joined lines bytes)) ≡ whole file
  -- where the line at the place has its LF, no file begins with the lines before and that line
  pub no_file : (p t : List ℕ) → Clean p → rest ≡ p ++ (10 ∷ t) → (u : List ℕ) → run i s (pieces (joined lines (p ++ (10 ∷ u)))) ≡ broken place

at_once : (i : ℕ) (s : Stage) (l : List ℕ) → Good s → ((p t : List ℕ) → Clean p → l ≡ p ++ (10 ∷ t) → (u : List ℕ) → run i s (pieces (p ++ (10 ∷ u))) ≡ broken i) → Place i s l i
unfolding joined
at_once i s l h never = let w = viable i s h in record {
  lines = [];
  rest = l;
  is = refl;
  count = omega arith;
  bytes = w.bytes;
  file = w.file;
  some_file = w.ends;
  no_file = never;
}

-- one more line before
further : (i place : ℕ) (s t : Stage) (l p r : List ℕ) → l ≡ p ++ (10 ∷ r) → Clean p → (line_of p >>= step s) ≡ some t → Place (suc i) t r place → Place i s l place
unfolding joined
further i place s t l p r e c k w = record {
  lines = p ∷ w.lines;
  rest = w.rest;
  is = e ∙ ap (λ (x : List ℕ). p ++ (10 ∷ x)) w.is;
  count = omega (arith, w.count);
  bytes = w.bytes;
  file = w.file;
  some_file = ap (run i s) (line_piece p (joined w.lines w.bytes) c) ∙ run_on i s p (joined w.lines w.bytes) t k ∙ w.some_file;
  no_file = λ q y d m u.
      ap (run i s) (line_piece p (joined w.lines (q ++ (10 ∷ u))) c) ∙ run_on i s p (joined w.lines (q ++ (10 ∷ u))) t k ∙ w.no_file q y d m u;
}

line_good : (s t : Stage) (o : Option Line) → Good s → (o >>= step s) ≡ some t → Good t
unfolding ◌>>=◌
line_good s t none h e = absurd (let y : ◌≡◌ {A = ℕ} 0 1 = cc in omega arith)
line_good s t (some l) h e = step_good s t l h e

-- the last piece
last_place : (i place : ℕ) (s : Stage) (p : List ℕ) → last i s p ≡ broken place → place ≡ i
unfolding last at_end
last_place i place opening [] e = cc
last_place i place (reading f) [] e = go (eqb (length f.arcs) f.said) e
  where
    go : (b : Bool) → whole_if b f i ≡ broken place → place ≡ i
    go true k = absurd (let y : ◌≡◌ {A = ℕ} 0 1 = cc in omega arith)
    go false k = cc
last_place i place s (b ∷ p) e = cc

pub places : (ps : List (List ℕ)) (i place : ℕ) (s : Stage) (l : List ℕ) → Good s → pieces l ≡ ps → run i s ps ≡ broken place → Place i s l place
unfolding run
places [] i place s l h e k = absurd (let w = some_piece l in let z : ◌≡◌ {A = List (List ℕ)} [] (w.0 ∷ w.1) = sym e ∙ w.2 in let y : ◌≡◌ {A = ℕ} 0 1 = cc in omega arith)
places (p ∷ []) i place s l h e k =
    subst (λ (n : ℕ). Place i s l n) (sym (last_place i place s p k))
    (at_once i s l h
    (λ q t c m u.
    absurd
    (let w = some_piece t in
    let z : p ∷ [] ≡ q ∷ w.0 ∷ w.1 = sym e ∙ ap pieces m ∙ line_piece q t c ∙ ap (λ (x : List (List ℕ)). q ∷ x) w.2 in
    let y : ◌≡◌ {A = ℕ} 0 1 = cc in
    omega arith)))
places (p ∷ q ∷ ps) i place s l h e k = let w = cut l p q ps e in go w (line_of p >>= step s) refl k (λ t g r m. places (q ∷ ps) (suc i) place t w.rest g w.pieces_rest m)
  where
    go : (w : Cut l p (q ∷ ps)) (o : Option Stage) → (line_of p >>= step s) ≡ o
        → elim o as (λ x. Form) [ none ↦ broken i | some t ↦ run (suc i) t (q ∷ ps) ] ≡ broken place
        → ((t : Stage) → Good t → Unit {0} → run (suc i) t (q ∷ ps) ≡ broken place → Place (suc i) t w.rest place)
        → Place i s l place
    go w none d m ih =
        let same : i ≡ place = cc in
        subst (λ (n : ℕ). Place i s l n) same
        (at_once i s l h
        (λ x t c f u.
        let z : p ∷ q ∷ ps ≡ x ∷ pieces t = sym e ∙ ap pieces f ∙ line_piece x t c in
        let y : p ≡ x = cc in
        ap (run i s) (line_piece x u c) ∙ run_wrong i s x u (ap (λ (v : List ℕ). line_of v >>= step s) (sym y) ∙ d)))
    go w (some t) d m ih = further i place s t l p w.rest w.is w.clean d (ih t (line_good s t (line_of p) h d) tt m)

-- refusal 29 of a file: the place is the first line that no file of the form could have there after the lines before it, or the line after the last of
-- a file that ends too soon
pub first_wrong : (l : List ℕ) (line : ℕ) → form_of l ≡ broken line → Place 1 opening l line
unfolding form_of
first_wrong l line e = places (pieces l) 1 line opening l tt refl e
