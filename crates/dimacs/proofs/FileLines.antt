-- The lines of a file one after the other, and the counts that stand for what was read. Assumes nothing.
use mathlib.Core.Path.{◌≡◌, refl, sym, ap, ◌∙◌, subst}
use mathlib.Core.Bool.{Bool, true, false, cond}
use mathlib.Core.Option.{Option, none, some}
use mathlib.Core.List.{List, [], ◌∷◌, ◌++◌, append_assoc, append-nil}
use Prim.Native.Nat.{ℕ, suc, ◌+◌, ◌-◌, ◌≤◌, ◌<◌}
use native.Mathlib.Numerals.{add-one}
use native.Mathlib.Decide.{dec_lt}
use native.Mathlib.Omega.{arith}
use lib.Dec.{eqb, ltb}
use lib.IntN.{ℤ}
use lib.ListN.{length, get_or, take, drop, length-append, length-drop}
use lib.Seq.{drop-cons, take-suc, take_all, get_or-drop}
use borrow.Author.Tests.{eq-eqb, ne_eqb, lt-ltb, le-ltb}
use Rattle.std.proofs.Common.{Option as Maybe, Some, None}
use Rattle.dimacs.specs.declared.form.Tally.{Tally}
use Rattle.dimacs.specs.declared.line.Line as line-answer
use Rattle.dimacs.specs.declared.line.Line.TheVariants as lines
use Rattle.dimacs.specs.Bytes.{◌>>=◌}
use Rattle.dimacs.specs.Form.{before, pieces, ArcLine, Line, line_of, File, file, Stage, opening, reading, is_empty, only_if, step, Form, broken, at_end, last, run, form_of}
use Rattle.dimacs.specs.Arc.{arc}
use Rattle.dimacs.specs.declared.line.NodeNumbers as node-answer
use Rattle.dimacs.specs.declared.line.ArcNumbers as arc-answer
use Rattle.dimacs.specs.inner.LineReader.{on_line, WholeLine}
use Rattle.dimacs.specs.inner.Stored.{lines_of, stage_of}
use Rattle.dimacs.specs.inner.FormReader.{wrong_line, counted, LineEnd, tally_of, on_problem, on_node, on_arc, next_of, end_of}
use Rattle.dimacs.proofs.LineOffsets.{nothing}

-- ---- lines

-- bytes before the first of the pieces
pub prefix : List ℕ → List (List ℕ) → List (List ℕ)
prefix p [] = p ∷ []
prefix p (q ∷ qs) = (p ++ q) ∷ qs

prefix_nil : (l : List ℕ) → prefix [] (pieces l) ≡ pieces l
unfolding pieces prefix
prefix_nil [] = refl
prefix_nil (b ∷ l) = step (eqb b 10)
  where
    both : (ps : List (List ℕ)) → prefix [] (before b ps) ≡ before b ps
    both [] = refl
    both (p ∷ ps) = refl

    step : (t : Bool) → prefix [] (elim t as (λ x. List (List ℕ)) [ true ↦ [] ∷ pieces l | false ↦ before b (pieces l) ])
        ≡ elim t as (λ x. List (List ℕ)) [ true ↦ [] ∷ pieces l | false ↦ before b (pieces l) ]
    step true = refl
    step false = both (pieces l)

prefix_before : (p : List ℕ) (b : ℕ) (ps : List (List ℕ)) → prefix p (before b ps) ≡ prefix (p ++ (b ∷ [])) ps
unfolding prefix
prefix_before p b [] = refl
prefix_before p b (q ∷ qs) = ap (λ (l : List ℕ). l ∷ qs) (sym (append_assoc p (b ∷ []) q))

module _ (s : List ℕ) (i : ℕ) (h : i < length s) where
  front_0 : drop i s ≡ get_or s i 0 ∷ drop (i + 1) s
  front_0 = drop-cons s i 0 h ∙ ap (λ (n : ℕ). get_or s i 0 ∷ drop n s) (sym (add-one i))

  pieces_lf : get_or s i 0 ≡ 10 → pieces (drop i s) ≡ [] ∷ pieces (drop (i + 1) s)
  unfolding pieces
  pieces_lf e = ap pieces front_0 ∙ rw (eq-eqb (get_or s i 0) 10 e, pieces)

  pieces_on : (get_or s i 0 ≡ 10 → ⊥) → pieces (drop i s) ≡ before (get_or s i 0) (pieces (drop (i + 1) s))
  unfolding pieces
  pieces_on e = ap pieces front_0 ∙ rw (ne_eqb (get_or s i 0) 10 e, pieces)

-- the bytes from at to i have no LF
pub record Along (s : List ℕ) (at i : ℕ) : Type 0 where
  pub from : at ≤ i
  pub upto : i ≤ length s
  pub meaning : pieces (drop at s) ≡ prefix (take (i - at) (drop at s)) (pieces (drop i s))

pub along_start : (s : List ℕ) (at : ℕ) → at ≤ length s → Along s at at
along_start s at h = record {
  from = omega arith;
  upto = h;
  meaning = sym (ap (λ (n : ℕ). prefix (take n (drop at s)) (pieces (drop at s))) (let q : at - at ≡ 0 = omega arith in q) ∙ prefix_nil (drop at s));
}

module _ (s : List ℕ) (at i : ℕ) (r : Along s at i) where
  part_next : i < length s → take (i + 1 - at) (drop at s) ≡ take (i - at) (drop at s) ++ (get_or s i 0 ∷ [])
  part_next h =
      ap (λ (n : ℕ). take n (drop at s)) (let q : i + 1 - at ≡ suc (i - at) = omega (arith, r.from) in q)
      ∙ take-suc (drop at s) (i - at) 0 (omega (arith, length-drop at s, r.from))
      ∙ ap (λ (b : ℕ). take (i - at) (drop at s) ++ (b ∷ [])) (get_or-drop at s (i - at) 0 ∙ ap (λ (n : ℕ). get_or s n 0) (let q : at + (i - at) ≡ i = omega (arith, r.from) in q))

  pub along_next : i < length s → (get_or s i 0 ≡ 10 → ⊥) → Along s at (i + 1)
  along_next h d = record {
    from = omega (arith, r.from);
    upto = omega arith;
    meaning =
        r.meaning
        ∙ ap (prefix (take (i - at) (drop at s))) (pieces_on s i h d)
        ∙ prefix_before (take (i - at) (drop at s)) (get_or s i 0) (pieces (drop (i + 1) s))
        ∙ ap (λ (p : List ℕ). prefix p (pieces (drop (i + 1) s))) (sym (part_next h));
  }

  pub along_lf : i < length s → get_or s i 0 ≡ 10 → LineEnd s at i
  unfolding prefix
  along_lf h e = record {
    from = r.from;
    upto = r.upto;
    line = λ q.
        r.meaning
        ∙ ap (prefix (take (i - at) (drop at s))) (pieces_lf s i h e)
        ∙ ap (λ (p : List ℕ). p ∷ pieces (drop (i + 1) s)) (append-nil (take (i - at) (drop at s)));
    last = λ q. absurd (omega arith);
  }

  pub along_end : length s ≤ i → LineEnd s at i
  unfolding prefix pieces
  along_end h = record {
    from = r.from;
    upto = r.upto;
    line = λ q. absurd (omega arith);
    last = λ q.
        r.meaning
        ∙ ap (λ (l : List ℕ). prefix (take (i - at) (drop at s)) (pieces l)) (nothing s i h)
        ∙ ap (λ (p : List ℕ). p ∷ []) (append-nil (take (i - at) (drop at s)) ∙ take_all (i - at) (drop at s) (omega (arith, length-drop at s)));
  }

-- ---- the counts

-- the counts stand for the stage
abbrev pub Stands : Tally → Stage → Type 0
Stands t opening = t.opened ≡ false
Stands t (reading f) = (t.opened ≡ true) × (t.nodes ≡ f.nodes) × (t.said ≡ f.said) × (t.arcs ≡ length f.arcs) × (length f.arcs ≤ f.said)

-- what a further line makes of both
abbrev pub Moved : Stage → Maybe line-answer.Line → Maybe Tally → Type 0
Moved s l None = (on_line l >>= step s) ≡ none
Moved s l (Some t) = (s' : Stage) × ((on_line l >>= step s) ≡ some s') × Stands t s'

empty_is : (l : List ArcLine) → length l ≡ 0 → is_empty l ≡ true
empty_is [] h = refl
empty_is (x ∷ l) h = absurd (omega arith)

full_is : (l : List ArcLine) → 0 < length l → is_empty l ≡ false
full_is [] h = absurd (omega arith)
full_is (x ∷ l) h = refl

abbrev with_node : File → ℕ → ℤ → Stage
with_node f i z = reading (file f.nodes f.said (f.supplies ++ (record { id = i; supply = z } ∷ [])) f.arcs)

abbrev made : ℕ → ℕ → ℕ → ℕ → ℤ → ArcLine
made a e low most z = record { low = low; arc = arc a e most z }

abbrev with_arc : File → ArcLine → Stage
with_arc f v = reading (file f.nodes f.said f.supplies (f.arcs ++ (v ∷ [])))

module _ (t : Tally) (s : Stage) where
  moved_comment : Stands t s → Moved s (Some lines.Comment) (Some t)
  unfolding ◌>>=◌ step
  moved_comment h = (s, at_comment s, h)
    where
      at_comment : (s : Stage) → step s Rattle.dimacs.specs.Form.comment ≡ some s
      at_comment opening = refl
      at_comment (reading f) = refl

moved_problem : (t : Tally) (s : Stage) (n a : ℕ) → Stands t s → Moved s (Some (lines.Problem n a)) (on_problem t n a)
unfolding ◌>>=◌ step
moved_problem t opening n a h =
    subst (λ (b : Bool). Moved opening (Some (lines.Problem n a)) (cond b None (Some (tally_of true n a 0)))) (sym h)
    (reading (file n a [] []), refl, (refl, refl, refl, refl, omega arith))
moved_problem t (reading f) n a h =
    subst (λ (b : Bool). Moved (reading f) (Some (lines.Problem n a)) (cond b None (Some (tally_of true n a 0)))) (sym h.0) refl

moved_node : (t : Tally) (s : Stage) (v : node-answer.NodeNumbers) → Stands t s → Moved s (Some (lines.Node v)) (on_node t)
unfolding ◌>>=◌ step
moved_node t opening v h =
    subst (λ (b : Bool). Moved opening (Some (lines.Node v)) (cond b (cond (ltb 0 t.arcs) None (Some t)) None)) (sym h) refl
moved_node t (reading f) v h =
    subst (λ (b : Bool). Moved (reading f) (Some (lines.Node v)) (cond b (cond (ltb 0 t.arcs) None (Some t)) None)) (sym h.0)
    (elim (dec_lt 0 t.arcs) [
      | yes l ↦
          subst (λ (b : Bool). Moved (reading f) (Some (lines.Node v)) (cond b None (Some t))) (sym (lt-ltb 0 t.arcs l))
          (ap (λ (b : Bool). only_if b (with_node f v.id v.supply)) (full_is f.arcs (omega (arith, h.3))))
      | no l ↦
          subst (λ (b : Bool). Moved (reading f) (Some (lines.Node v)) (cond b None (Some t))) (sym (le-ltb 0 t.arcs (omega arith)))
          (with_node f v.id v.supply, ap (λ (b : Bool). only_if b (with_node f v.id v.supply)) (empty_is f.arcs (omega (arith, h.3))), (h.0, h.1, h.2, h.3, h.4))
    ])

moved_arc : (t : Tally) (s : Stage) (v : arc-answer.ArcNumbers) → Stands t s → Moved s (Some (lines.Arc v)) (on_arc t)
unfolding ◌>>=◌ step
moved_arc t opening v h =
    subst (λ (b : Bool). Moved opening (Some (lines.Arc v)) (cond b (cond (ltb t.arcs t.said) (Some (tally_of true t.nodes t.said (t.arcs + 1))) None) None))
    (sym h) refl
moved_arc t (reading f) v h =
    subst (λ (b : Bool). Moved (reading f) (Some (lines.Arc v)) (cond b (cond (ltb t.arcs t.said) (Some (tally_of true t.nodes t.said (t.arcs + 1))) None) None))
    (sym h.0)
    (elim (dec_lt t.arcs t.said) [
      | yes l ↦
          subst (λ (b : Bool). Moved (reading f) (Some (lines.Arc v)) (cond b (Some (tally_of true t.nodes t.said (t.arcs + 1))) None)) (sym (lt-ltb t.arcs t.said l)) (
            with_arc f (made v.start v.end v.low v.ceiling v.cost),
            ap (λ (b : Bool). only_if b (with_arc f (made v.start v.end v.low v.ceiling v.cost))) (lt-ltb (length f.arcs) f.said (omega (arith, h.2, h.3))),
            (
              refl,
              h.1,
              h.2,
              omega (arith, h.3, length-append f.arcs (made v.start v.end v.low v.ceiling v.cost ∷ [])),
              omega (arith, h.2, h.3, length-append f.arcs (made v.start v.end v.low v.ceiling v.cost ∷ [])),
            ),
          )
      | no l ↦
          subst (λ (b : Bool). Moved (reading f) (Some (lines.Arc v)) (cond b (Some (tally_of true t.nodes t.said (t.arcs + 1))) None))
          (sym (le-ltb t.arcs t.said (omega arith)))
          (ap (λ (b : Bool). only_if b (with_arc f (made v.start v.end v.low v.ceiling v.cost))) (le-ltb (length f.arcs) f.said (omega (arith, h.2, h.3))))
    ])

pub moved : (t : Tally) (s : Stage) (l : Maybe line-answer.Line) → Stands t s → Moved s l (next_of t l)
unfolding ◌>>=◌
moved t s (Some lines.Comment) h = moved_comment t s h
moved t s (Some (lines.Problem n a)) h = moved_problem t s n a h
moved t s (Some (lines.Node v)) h = moved_node t s v h
moved t s (Some (lines.Arc v)) h = moved_arc t s v h
moved t s None h = refl

-- ---- the loop over the lines

pub some_piece : (l : List ℕ) → (q : List ℕ) × (ps : List (List ℕ)) × (pieces l ≡ q ∷ ps)
unfolding pieces
some_piece [] = ([], [], refl)
some_piece (b ∷ l) = step (eqb b 10)
  where
    first : (ps : List (List ℕ)) → (q : List ℕ) × (qs : List (List ℕ)) × (before b ps ≡ q ∷ qs)
    first [] = (b ∷ [], [], refl)
    first (p ∷ ps) = (b ∷ p, ps, refl)

    step : (t : Bool) → (q : List ℕ) × (ps : List (List ℕ)) × (elim t as (λ x. List (List ℕ)) [ true ↦ [] ∷ pieces l | false ↦ before b (pieces l) ] ≡ q ∷ ps)
    step true = ([], pieces l, refl)
    step false = first (pieces l)

module _ (i : ℕ) (s : Stage) (p l : List ℕ) where
  pub run_wrong : (line_of p >>= step s) ≡ none → run i s (p ∷ pieces l) ≡ broken i
  unfolding run
  run_wrong e = let w = some_piece l in ap (λ (ps : List (List ℕ)). run i s (p ∷ ps)) w.2 ∙ rw (e, run)

  pub run_on : (t : Stage) → (line_of p >>= step s) ≡ some t → run i s (p ∷ pieces l) ≡ run (suc i) t (pieces l)
  unfolding run
  run_on t e =
      let w = some_piece l in
      ap (λ (ps : List (List ℕ)). run i s (p ∷ ps)) w.2 ∙ rw (e, run) (ap (run (suc i) t) (sym w.2))

  -- the same of the lines before the first that is not of the form
  pub lines_wrong : (line_of p >>= step s) ≡ none → lines_of s (p ∷ pieces l) ≡ s
  unfolding lines_of
  lines_wrong e = let w = some_piece l in ap (λ (ps : List (List ℕ)). lines_of s (p ∷ ps)) w.2 ∙ rw (e, lines_of)

  pub lines_on : (t : Stage) → (line_of p >>= step s) ≡ some t → lines_of s (p ∷ pieces l) ≡ lines_of t (pieces l)
  unfolding lines_of
  lines_on t e =
      let w = some_piece l in
      ap (λ (ps : List (List ℕ)). lines_of s (p ∷ ps)) w.2 ∙ rw (e, lines_of) (ap (lines_of t) (sym w.2))

pub record SoFar (s : List ℕ) (t : Tally) (at line : ℕ) : Type 0 where
  pub upto : at ≤ length s
  pub numbered : line ≤ at + 1
  pub stage : Stage
  pub stands : Stands t stage
  pub meaning : form_of s ≡ run line stage (pieces (drop at s))
  pub staged : stage_of s ≡ lines_of stage (pieces (drop at s))

module _ (s : List ℕ) (t : Tally) (at line e : ℕ) (r : SoFar s t at line) (d : LineEnd s at e) where
  pub no_lf : length s ≤ e → at < e → form_of s ≡ broken line
  unfolding run last
  no_lf h l =
      r.meaning
      ∙ ap (run line r.stage) (d.last h)
      ∙ ap (last line r.stage) (drop-cons s at 0 (omega (arith, d.upto)))

  pub form_ends : length s ≤ e → e ≤ at → form_of s ≡ at_end line r.stage
  unfolding run last
  form_ends h l =
      r.meaning
      ∙ ap (run line r.stage) (d.last h)
      ∙ ap (last line r.stage) (nothing s at (omega arith))

  pub stage_ends : length s ≤ e → stage_of s ≡ r.stage
  unfolding lines_of
  stage_ends h = r.staged ∙ ap (lines_of r.stage) (d.last h)

  module _ (h : e < length s) (l : Maybe line-answer.Line) (w : WholeLine (take (e - at) (drop at s)) l) where
    pub form_wrong : next_of t l ≡ None → form_of s ≡ broken line
    form_wrong q =
        r.meaning
        ∙ ap (run line r.stage) (d.line h)
        ∙ run_wrong line r.stage (take (e - at) (drop at s)) (drop (e + 1) s)
        (ap (λ (o : Option Line). o >>= step r.stage) w.meaning ∙ subst (Moved r.stage l) q (moved t r.stage l r.stands))

    pub stage_wrong : next_of t l ≡ None → stage_of s ≡ r.stage
    stage_wrong q =
        r.staged
        ∙ ap (lines_of r.stage) (d.line h)
        ∙ lines_wrong line r.stage (take (e - at) (drop at s)) (drop (e + 1) s)
        (ap (λ (o : Option Line). o >>= step r.stage) w.meaning ∙ subst (Moved r.stage l) q (moved t r.stage l r.stands))

    pub form_on : (t' : Tally) → next_of t l ≡ Some t' → (z : SoFar s t' (e + 1) (line + 1)) × ((on_line l >>= step r.stage) ≡ some z.stage)
    form_on t' q =
        let m = subst (Moved r.stage l) q (moved t r.stage l r.stands) in (
          record {
            upto = omega arith;
            numbered = omega (arith, r.numbered, d.from);
            stage = m.0;
            stands = m.2;
            meaning =
                r.meaning
                ∙ ap (run line r.stage) (d.line h)
                ∙ run_on line r.stage (take (e - at) (drop at s)) (drop (e + 1) s) m.0
                (ap (λ (o : Option Line). o >>= step r.stage) w.meaning ∙ m.1)
                ∙ ap (λ (n : ℕ). run n m.0 (pieces (drop (e + 1) s))) (sym (add-one line));
            staged =
                r.staged
                ∙ ap (lines_of r.stage) (d.line h)
                ∙ lines_on line r.stage (take (e - at) (drop at s)) (drop (e + 1) s) m.0
                (ap (λ (o : Option Line). o >>= step r.stage) w.meaning ∙ m.1);
          },
          m.1,
        )

-- ---- the counts' functions

pub end_closed : (t : Tally) (line : ℕ) → t.opened ≡ false → wrong_line line ≡ end_of t line
end_closed t line e = sym (ap (λ (b : Bool). cond b (cond (ltb t.arcs t.said) (wrong_line line) (counted t.nodes t.said)) (wrong_line line)) e)

pub end_short : (t : Tally) (line : ℕ) → t.opened ≡ true → t.arcs < t.said → wrong_line line ≡ end_of t line
end_short t line e h =
    sym (ap (λ (b : Bool). cond b (cond (ltb t.arcs t.said) (wrong_line line) (counted t.nodes t.said)) (wrong_line line)) e
    ∙ ap (λ (b : Bool). cond b (wrong_line line) (counted t.nodes t.said)) (lt-ltb t.arcs t.said h))

pub end_whole : (t : Tally) (line : ℕ) → t.opened ≡ true → t.said ≤ t.arcs → counted t.nodes t.said ≡ end_of t line
end_whole t line e h =
    sym (ap (λ (b : Bool). cond b (cond (ltb t.arcs t.said) (wrong_line line) (counted t.nodes t.said)) (wrong_line line)) e
    ∙ ap (λ (b : Bool). cond b (wrong_line line) (counted t.nodes t.said)) (le-ltb t.arcs t.said h))

pub problem_first : (t : Tally) (n a : ℕ) → t.opened ≡ false → Some (tally_of true n a 0) ≡ on_problem t n a
problem_first t n a e = sym (ap (λ (b : Bool). cond b None (Some (tally_of true n a 0))) e)

pub node_closed : (t : Tally) → t.opened ≡ false → None ≡ on_node t
node_closed t e = sym (ap (λ (b : Bool). cond b (cond (ltb 0 t.arcs) None (Some t)) None) e)

pub node_late : (t : Tally) → t.opened ≡ true → 0 < t.arcs → None ≡ on_node t
node_late t e h =
    sym (ap (λ (b : Bool). cond b (cond (ltb 0 t.arcs) None (Some t)) None) e
    ∙ ap (λ (b : Bool). cond b None (Some t)) (lt-ltb 0 t.arcs h))

pub node_good : (t : Tally) → t.opened ≡ true → t.arcs ≤ 0 → Some t ≡ on_node t
node_good t e h =
    sym (ap (λ (b : Bool). cond b (cond (ltb 0 t.arcs) None (Some t)) None) e
    ∙ ap (λ (b : Bool). cond b None (Some t)) (le-ltb 0 t.arcs h))

pub arc_closed : (t : Tally) → t.opened ≡ false → None ≡ on_arc t
arc_closed t e = sym (ap (λ (b : Bool). cond b (cond (ltb t.arcs t.said) (Some (tally_of true t.nodes t.said (t.arcs + 1))) None) None) e)

pub arc_good : (t : Tally) → t.opened ≡ true → t.arcs < t.said → Some (tally_of true t.nodes t.said (t.arcs + 1)) ≡ on_arc t
arc_good t e h =
    sym (ap (λ (b : Bool). cond b (cond (ltb t.arcs t.said) (Some (tally_of true t.nodes t.said (t.arcs + 1))) None) None) e
    ∙ ap (λ (b : Bool). cond b (Some (tally_of true t.nodes t.said (t.arcs + 1))) None) (lt-ltb t.arcs t.said h))

pub arc_late : (t : Tally) → t.opened ≡ true → t.said ≤ t.arcs → None ≡ on_arc t
arc_late t e h =
    sym (ap (λ (b : Bool). cond b (cond (ltb t.arcs t.said) (Some (tally_of true t.nodes t.said (t.arcs + 1))) None) None) e
    ∙ ap (λ (b : Bool). cond b (Some (tally_of true t.nodes t.said (t.arcs + 1))) None) (le-ltb t.arcs t.said h))
