-- Lines kept in cells, and the loop over them. Assumes nothing.
use mathlib.Core.Path.{◌≡◌, refl, sym, ap, ap₂, ◌∙◌, subst}
use mathlib.Core.Logic.{◌⊎◌, inl, inr, ⊎_elim}
use mathlib.Core.Bool.{Bool, true, false, cond, ◌||◌}
use mathlib.Core.Option.{none, some}
use mathlib.Core.List.{List, [], ◌∷◌, ◌++◌, append-nil}
use Prim.Native.Nat.{ℕ, suc, min, ◌≤◌, ◌<◌, ◌^◌}
use native.Mathlib.Decide.{ℕ_discrete, dec_lt}
use native.Mathlib.Omega.{arith}
use lib.Dec.{eqb, ltb}
use lib.IntN.{ℤ, pos, sub_ℕ}
use lib.ListN.{length, get_or, set, length-set, length-append, get_or-append, get_or-eq_default}
use lib.Seq.{get_or-set_same, get_or-set_other, get_or-append_seam}
use borrow.Author.Tests.{eqb-true, eq-eqb, ne_eqb, lt-ltb, le-ltb}
use Rattle.std.proofs.Common.{Option as Maybe, Some, None, Result, Ok, Err}
use Rattle.refusal.specs.declared.Refusal.{Refusal}
use Rattle.dimacs.specs.declared.form.Counts.{Counts}
use Rattle.dimacs.specs.declared.store.Reading as reading-answer
use Rattle.dimacs.specs.declared.form.Tally.{Tally}
use Rattle.dimacs.specs.declared.line.Line as line-answer
use Rattle.dimacs.specs.declared.line.Line.TheVariants as lines
use Rattle.dimacs.specs.Arc.{Arc}
use Rattle.dimacs.specs.Bytes.{◌>>=◌}
use Rattle.dimacs.specs.Form.{ArcLine, NodeLine, file, Stage, opening, reading, is_empty, only_if, step, whole_if, at_end, form_of}
use Rattle.dimacs.specs.Lines.{supply_in, any_of, twice, bad_arc}
use Rattle.dimacs.specs.inner.LineReader.{on_line}
use Rattle.dimacs.specs.inner.FormReader.{tally_of, end_of}
use Rattle.dimacs.specs.inner.Stored.{node_in, arc_in, no_line, arc_on, HeldBy, ArcsRead, listed_node, no_cell, NodesRead, stage_of, nodes_in, arcs_in, supplies_in, LinesKept, ReadAs}
use Rattle.dimacs.proofs.FileLines.{Stands, SoFar, end_closed, end_short, end_whole}
use Rattle.dimacs.proofs.NodeAndArcLines.{or_first, or_next, any_joined, any_more, twice_more, supply_more, other_supply}

-- ---- one more arc

module _ {A : Type 0} (d : A) (f : Arc → A) (arcs : List ArcLine) (v : ArcLine) (held : List A) where
  old_line : (j : ℕ) → (j ≡ length arcs → ⊥) → get_or (arcs ++ (v ∷ [])) j no_line ≡ get_or arcs j no_line
  old_line j h = elim (dec_lt j (length arcs)) [
    | yes l ↦ get_or-append arcs (v ∷ []) no_line j l
    | no l ↦
        get_or-eq_default (arcs ++ (v ∷ [])) no_line (omega (arith, length-append arcs (v ∷ []), h, l))
        ∙ sym (get_or-eq_default arcs no_line (omega (arith, l)))
  ]

  old_arc : (j : ℕ) → (j ≡ length arcs → ⊥) → arc_on (arcs ++ (v ∷ [])) j ≡ arc_on arcs j
  old_arc j h = ap (λ (z : ArcLine). z.arc) (old_line j h)

  pub held_next : (x : A) → x ≡ f v.arc → length held ≡ 64 → length arcs < 64 → HeldBy d f arcs held → HeldBy d f (arcs ++ (v ∷ [])) (set held (length arcs) x)
  held_next x e long h r j l = elim (ℕ_discrete j (length arcs)) [
    | yes w ↦
        ap (λ (i : ℕ). get_or (set held (length arcs) x) i d) w
        ∙ get_or-set_same held (length arcs) x d (omega arith)
        ∙ e
        ∙ sym (ap f (ap (arc_on (arcs ++ (v ∷ []))) w ∙ ap (λ (z : ArcLine). z.arc) (get_or-append_seam arcs v [] no_line)))
    | no w ↦
        get_or-set_other held (length arcs) j x d w
        ∙ r j l
        ∙ sym (ap f (old_arc j w))
  ]

  pub held_past : 64 ≤ length arcs → HeldBy d f arcs held → HeldBy d f (arcs ++ (v ∷ [])) held
  held_past h r j l = r j l ∙ sym (ap f (old_arc j (λ e. omega arith)))

module _ (nodes : ℕ) (arcs : List ArcLine) (v : ArcLine) (bad worse : Bool) (starts ends ceilings : List ℕ) (costs : List ℤ)
    (w : worse ≡ (bad || any_of (bad_arc nodes) (v ∷ []))) (r : ArcsRead nodes arcs bad starts ends ceilings costs) where
  flag_next : worse ≡ any_of (bad_arc nodes) (arcs ++ (v ∷ []))
  flag_next = w ∙ ap (λ (b : Bool). b || any_of (bad_arc nodes) (v ∷ [])) r.flag ∙ sym (any_joined (bad_arc nodes) arcs (v ∷ []))

  pub arc_past : 64 ≤ length arcs → ArcsRead nodes (arcs ++ (v ∷ [])) worse starts ends ceilings costs
  arc_past h = record {
    flag = flag_next;
    start = held_past 0 (λ (a : Arc). a.start) arcs v starts h r.start;
    end = held_past 0 (λ (a : Arc). a.end) arcs v ends h r.end;
    ceiling = held_past 0 (λ (a : Arc). a.ceiling) arcs v ceilings h r.ceiling;
    cost = held_past (pos 0) (λ (a : Arc). a.cost) arcs v costs h r.cost;
    starts_long = r.starts_long;
    ends_long = r.ends_long;
    ceilings_long = r.ceilings_long;
    costs_long = r.costs_long;
  }

  pub arc_next : (k : ℕ) (z : ℤ) → length arcs ≡ k → k < 64 → z ≡ v.arc.cost
      → ArcsRead nodes (arcs ++ (v ∷ [])) worse (set starts k v.arc.start) (set ends k v.arc.end) (set ceilings k v.arc.ceiling) (set costs k z)
  arc_next k z e h q =
      subst (λ (k : ℕ). ArcsRead nodes (arcs ++ (v ∷ [])) worse (set starts k v.arc.start) (set ends k v.arc.end) (set ceilings k v.arc.ceiling) (set costs k z)) e
      (record {
        flag = flag_next;
        start = held_next 0 (λ (a : Arc). a.start) arcs v starts v.arc.start refl r.starts_long (omega arith) r.start;
        end = held_next 0 (λ (a : Arc). a.end) arcs v ends v.arc.end refl r.ends_long (omega arith) r.end;
        ceiling = held_next 0 (λ (a : Arc). a.ceiling) arcs v ceilings v.arc.ceiling refl r.ceilings_long (omega arith) r.ceiling;
        cost = held_next (pos 0) (λ (a : Arc). a.cost) arcs v costs z q r.costs_long (omega arith) r.cost;
        starts_long = length-set starts (length arcs) v.arc.start ∙ r.starts_long;
        ends_long = length-set ends (length arcs) v.arc.end ∙ r.ends_long;
        ceilings_long = length-set ceilings (length arcs) v.arc.ceiling ∙ r.ceilings_long;
        costs_long = length-set costs (length arcs) z ∙ r.costs_long;
      })

-- ---- one more supply

module _ (nodes : ℕ) (sup : List NodeLine) (v : NodeLine) (odd : Bool) (gives takes marks : List ℕ) (r : NodesRead nodes sup odd gives takes marks) where
  flags_next : (any_of (no_cell nodes) (sup ++ (v ∷ [])) || twice (sup ++ (v ∷ [])))
      ≡ ((any_of (no_cell nodes) sup || no_cell nodes v) || (twice sup || listed_node sup v.id))
  flags_next = ap₂ (λ (a b : Bool). a || b) (any_more (no_cell nodes) sup v) (twice_more sup v)

  -- the node's number is none: nothing is stored
  marks_kept : ((i : ℕ) → i < 32 → eqb v.id (suc i) ≡ false) → (i : ℕ) → i < 32 → ltb 0 (get_or marks i 0) ≡ listed_node (sup ++ (v ∷ [])) (suc i)
  marks_kept h i l =
      r.mark i l ∙ sym (any_more (λ (z : NodeLine). eqb z.id (suc i)) sup v ∙ ap (λ (b : Bool). listed_node sup (suc i) || b) (h i l) ∙ or_false (listed_node sup (suc i)))
    where
      or_false : (a : Bool) → (a || false) ≡ a
      or_false true = refl
      or_false false = refl

  supplies_kept : ((i : ℕ) → i < 32 → eqb v.id (suc i) ≡ false) → (i : ℕ) → i < 32 → sub_ℕ (get_or gives i 0) (get_or takes i 0) ≡ supply_in (suc i) (sup ++ (v ∷ []))
  supplies_kept h i l = r.supply i l ∙ other_supply sup v (suc i) (h i l)

  pub node_none : (v.id < 1) ⊎ (32 < v.id) → NodesRead nodes (sup ++ (v ∷ [])) true gives takes marks
  node_none h =
      let other : (i : ℕ) → i < 32 → eqb v.id (suc i) ≡ false = λ i l. ne_eqb v.id (suc i) (λ e. ⊎_elim (λ q. omega arith) (λ q. omega arith) h) in
      record {
        flag = or_first (any_of (no_cell nodes) sup || no_cell nodes v) (twice sup || listed_node sup v.id) (sym (or_next (any_of (no_cell nodes) sup) (no_cell nodes v) (out h))) ∙ sym flags_next;
        mark = marks_kept other;
        mark_one = r.mark_one;
        supply = supplies_kept other;
        one_way = r.one_way;
        small = r.small;
        gives_long = r.gives_long;
        takes_long = r.takes_long;
        marks_long = r.marks_long;
      }
    where
      out : (v.id < 1) ⊎ (32 < v.id) → true ≡ no_cell nodes v
      out (inl h) = or_first (ltb v.id 1) (ltb (min nodes 32) v.id) (lt-ltb v.id 1 h)
      out (inr h) = or_next (ltb v.id 1) (ltb (min nodes 32) v.id) (sym (lt-ltb (min nodes 32) v.id (omega arith)))

  module _ (i : ℕ) (e : v.id ≡ suc i) (l : i < 32) where
    -- the node has a line already
    pub node_again : 0 < get_or marks i 0 → NodesRead nodes (sup ++ (v ∷ [])) true gives takes marks
    node_again h = record {
      flag =
          or_next (any_of (no_cell nodes) sup || no_cell nodes v) (twice sup || listed_node sup v.id) (or_next (twice sup) (listed_node sup v.id) (sym (ap (listed_node sup) e ∙ there))) ∙
          sym flags_next;
      mark = λ k q. r.mark k q ∙ same_mark k;
      mark_one = r.mark_one;
      supply = λ k q. r.supply k q ∙ same_supply k;
      one_way = r.one_way;
      small = r.small;
      gives_long = r.gives_long;
      takes_long = r.takes_long;
      marks_long = r.marks_long;
    }
      where
        there : listed_node sup (suc i) ≡ true
        there = sym (r.mark i l) ∙ lt-ltb 0 (get_or marks i 0) h

        or_same : (a b : Bool) → (b ≡ true → a ≡ true) → a ≡ (a || b)
        or_same true b q = refl
        or_same false true q = q refl
        or_same false false q = refl

        same_mark : (k : ℕ) → listed_node sup (suc k) ≡ listed_node (sup ++ (v ∷ [])) (suc k)
        same_mark k =
            or_same (listed_node sup (suc k)) (eqb v.id (suc k)) (λ q. ap (listed_node sup) (sym (eqb-true v.id (suc k) q) ∙ e) ∙ there)
            ∙ sym (any_more (λ (z : NodeLine). eqb z.id (suc k)) sup v)

        same_supply : (k : ℕ) → supply_in (suc k) sup ≡ supply_in (suc k) (sup ++ (v ∷ []))
        same_supply k = elim (ℕ_discrete v.id (suc k)) [
          | yes q ↦ sym (supply_more (suc k) sup v ∙ ap (λ (b : Bool). cond b (supply_in (suc k) sup) (cond (eqb v.id (suc k)) v.supply (pos 0))) (ap (listed_node sup) (sym q ∙ e) ∙ there))
          | no q ↦ other_supply sup v (suc k) (ne_eqb v.id (suc k) q)
        ]

    -- a further node
    module _ (g t : ℕ) (new : get_or marks i 0 ≤ 0) (is : sub_ℕ g t ≡ v.supply) (way : (g ≡ 0) ⊎ (t ≡ 0)) (sg : g < 10 ^ 10) (st : t < 10 ^ 10) where
      pub node_next : (worse : Bool) → worse ≡ (ltb nodes v.id || odd) → NodesRead nodes (sup ++ (v ∷ [])) worse (set gives i g) (set takes i t) (set marks i 1)
      node_next worse w = record {
        flag = w ∙ ap₂ (λ (a b : Bool). a || b) celled r.flag ∙ turn ∙ sym flags_next;
        mark = λ k q. elim (ℕ_discrete k i) [ yes z ↦ mark_here k q z | no z ↦ mark_other k q z ];
        mark_one = λ k q. elim (ℕ_discrete k i) [
          | yes z ↦ rw (z, get_or-set_same marks i 1 0 (omega (arith, r.marks_long))) (let h : 1 ≤ 1 = omega arith in h)
          | no z ↦ rw (get_or-set_other marks i k 1 0 z) (r.mark_one k q)
        ];
        supply = λ k q. elim (ℕ_discrete k i) [ yes z ↦ supply_here k q z | no z ↦ supply_other k q z ];
        one_way = λ k q. elim (ℕ_discrete k i) [
          | yes z ↦ rw (z, get_or-set_same gives i g 0 (omega (arith, r.gives_long)), get_or-set_same takes i t 0 (omega (arith, r.takes_long))) way
          | no z ↦ rw (get_or-set_other gives i k g 0 z, get_or-set_other takes i k t 0 z) (r.one_way k q)
        ];
        small = λ k q. elim (ℕ_discrete k i) [
          | yes z ↦ (rw (z, get_or-set_same gives i g 0 (omega (arith, r.gives_long))) sg, rw (z, get_or-set_same takes i t 0 (omega (arith, r.takes_long))) st)
          | no z ↦ (rw (get_or-set_other gives i k g 0 z) (r.small k q).0, rw (get_or-set_other takes i k t 0 z) (r.small k q).1)
        ];
        gives_long = length-set gives i g ∙ r.gives_long;
        takes_long = length-set takes i t ∙ r.takes_long;
        marks_long = length-set marks i 1 ∙ r.marks_long;
      }
        where
          fresh : listed_node sup (suc i) ≡ false
          fresh = sym (r.mark i l) ∙ le-ltb 0 (get_or marks i 0) new

          shuffle : (a b c d : Bool) → c ≡ false → (a || (b || d)) ≡ ((b || (false || a)) || (d || c))
          shuffle true true c d e = refl
          shuffle true false c d e = refl
          shuffle false true c d e = refl
          shuffle false false c true e = refl
          shuffle false false c false e = sym e

          -- a number of at most 32 has a cell where it is a node's
          celled : ltb nodes v.id ≡ ltb (min nodes 32) v.id
          celled = elim (dec_lt nodes v.id) [
            | yes h ↦ lt-ltb nodes v.id h ∙ sym (lt-ltb (min nodes 32) v.id (omega arith))
            | no h ↦ le-ltb nodes v.id (omega arith) ∙ sym (le-ltb (min nodes 32) v.id (omega arith))
          ]

          turn : (ltb (min nodes 32) v.id || (any_of (no_cell nodes) sup || twice sup))
              ≡ ((any_of (no_cell nodes) sup || no_cell nodes v) || (twice sup || listed_node sup v.id))
          turn =
              shuffle (ltb (min nodes 32) v.id) (any_of (no_cell nodes) sup) (listed_node sup v.id) (twice sup) (ap (listed_node sup) e ∙ fresh)
              ∙ ap (λ (b : Bool). (any_of (no_cell nodes) sup || (b || ltb (min nodes 32) v.id)) || (twice sup || listed_node sup v.id))
              (sym (le-ltb v.id 1 (omega arith)))

          mark_here : (k : ℕ) → k < 32 → k ≡ i → ltb 0 (get_or (set marks i 1) k 0) ≡ listed_node (sup ++ (v ∷ [])) (suc k)
          mark_here k q z =
              ap (ltb 0) (ap (λ (n : ℕ). get_or (set marks i 1) n 0) z ∙ get_or-set_same marks i 1 0 (omega (arith, r.marks_long)))
              ∙ or_next (listed_node sup (suc k)) _ (sym (eq-eqb v.id (suc k) (omega arith)))
              ∙ sym (any_more (λ (z : NodeLine). eqb z.id (suc k)) sup v)

          mark_other : (k : ℕ) → k < 32 → (k ≡ i → ⊥) → ltb 0 (get_or (set marks i 1) k 0) ≡ listed_node (sup ++ (v ∷ [])) (suc k)
          mark_other k q z =
              ap (ltb 0) (get_or-set_other marks i k 1 0 z)
              ∙ r.mark k q
              ∙ sym (any_more (λ (z : NodeLine). eqb z.id (suc k)) sup v ∙
              ap (λ (b : Bool). listed_node sup (suc k) || b) (ne_eqb v.id (suc k) (λ w. z (omega arith))) ∙ or_false (listed_node sup (suc k)))
            where
              or_false : (a : Bool) → (a || false) ≡ a
              or_false true = refl
              or_false false = refl

          supply_here : (k : ℕ) → k < 32 → k ≡ i → sub_ℕ (get_or (set gives i g) k 0) (get_or (set takes i t) k 0) ≡ supply_in (suc k) (sup ++ (v ∷ []))
          supply_here k q z =
              ap₂ (λ (a b : ℕ). sub_ℕ a b) (ap (λ (n : ℕ). get_or (set gives i g) n 0) z ∙ get_or-set_same gives i g 0 (omega (arith, r.gives_long)))
              (ap (λ (n : ℕ). get_or (set takes i t) n 0) z ∙ get_or-set_same takes i t 0 (omega (arith, r.takes_long)))
              ∙ is
              ∙ sym (supply_more (suc k) sup v
              ∙ ap₂ (λ (a b : Bool). cond a (supply_in (suc k) sup) (cond b v.supply (pos 0))) (ap (λ (n : ℕ). listed_node sup (suc n)) z ∙ fresh) (eq-eqb v.id (suc k) (omega arith)))

          supply_other : (k : ℕ) → k < 32 → (k ≡ i → ⊥) → sub_ℕ (get_or (set gives i g) k 0) (get_or (set takes i t) k 0) ≡ supply_in (suc k) (sup ++ (v ∷ []))
          supply_other k q z =
              ap₂ (λ (a b : ℕ). sub_ℕ a b) (get_or-set_other gives i k g 0 z) (get_or-set_other takes i k t 0 z)
              ∙ r.supply k q
              ∙ other_supply sup v (suc k) (ne_eqb v.id (suc k) (λ w. z (omega arith)))

-- ---- a further line

never : {A : Type 0} (x : A) → none ≡ some x → ⊥
never x e = let z : ◌≡◌ {A = ℕ} 0 1 = cc in omega arith

one : {A : Type 0} (x y : A) → some x ≡ some y → x ≡ y
one x y e = cc

only : (b : Bool) (x y : Stage) → only_if b x ≡ some y → x ≡ y
only true x y e = cc
only false x y e = absurd (never y e)

module _ (P Q : ℕ → List ArcLine → Type 0) (p0 : (n m : ℕ) → P n [] → P m []) (q0 : (n m : ℕ) → Q n [] → Q m []) where
  pub arcs_on : (t : Tally) (s s' : Stage) (l : Maybe line-answer.Line) → Stands t s → (on_line l >>= step s) ≡ some s' → P (nodes_in s) (arcs_in s)
      → ((arcs : List ArcLine) → (0 < length (arc_in l) → length arcs ≡ t.arcs) → P t.nodes arcs → Q t.nodes (arcs ++ arc_in l)) → Q (nodes_in s') (arcs_in s')
  unfolding ◌>>=◌ step
  arcs_on t opening s' (Some lines.Comment) h e p k = subst (λ (z : Stage). Q (nodes_in z) (arcs_in z)) (one _ _ e) (q0 _ _ (k [] (λ z. absurd (omega arith)) (p0 _ _ p)))
  arcs_on t opening s' (Some (lines.Problem n a)) h e p k = subst (λ (z : Stage). Q (nodes_in z) (arcs_in z)) (one _ _ e) (q0 _ _ (k [] (λ z. absurd (omega arith)) (p0 _ _ p)))
  arcs_on t opening s' (Some (lines.Node v)) h e p k = absurd (never s' e)
  arcs_on t opening s' (Some (lines.Arc v)) h e p k = absurd (never s' e)
  arcs_on t opening s' None h e p k = absurd (never s' e)
  arcs_on t (reading f) s' (Some lines.Comment) h e p k =
      subst (λ (z : Stage). Q (nodes_in z) (arcs_in z)) (one _ _ e)
      (subst (λ (n : ℕ). Q n f.arcs) h.1 (subst (Q t.nodes) (append-nil f.arcs) (k f.arcs (λ z. absurd (omega arith)) (subst (λ (n : ℕ). P n f.arcs) (sym h.1) p))))
  arcs_on t (reading f) s' (Some (lines.Problem n a)) h e p k = absurd (never s' e)
  arcs_on t (reading f) s' (Some (lines.Node v)) h e p k =
      subst (λ (z : Stage). Q (nodes_in z) (arcs_in z)) (only (is_empty f.arcs) (reading (file f.nodes f.said (f.supplies ++ node_in (Some (lines.Node v))) f.arcs)) s' e)
      (subst (λ (n : ℕ). Q n f.arcs) h.1 (subst (Q t.nodes) (append-nil f.arcs) (k f.arcs (λ z. absurd (omega arith)) (subst (λ (n : ℕ). P n f.arcs) (sym h.1) p))))
  arcs_on t (reading f) s' (Some (lines.Arc v)) h e p k =
      subst (λ (z : Stage). Q (nodes_in z) (arcs_in z)) (only (ltb (length f.arcs) f.said) (reading (file f.nodes f.said f.supplies (f.arcs ++ arc_in (Some (lines.Arc v))))) s' e)
      (subst (λ (n : ℕ). Q n (f.arcs ++ arc_in (Some (lines.Arc v)))) h.1 (k f.arcs (λ z. sym h.3) (subst (λ (n : ℕ). P n f.arcs) (sym h.1) p)))
  arcs_on t (reading f) s' None h e p k = absurd (never s' e)

module _ (P Q : ℕ → List NodeLine → Type 0) (p0 : (n m : ℕ) → P n [] → P m []) (q0 : (n m : ℕ) → Q n [] → Q m []) where
  pub nodes_on : (t : Tally) (s s' : Stage) (l : Maybe line-answer.Line) → Stands t s → (on_line l >>= step s) ≡ some s' → P (nodes_in s) (supplies_in s)
      → ((sup : List NodeLine) → P t.nodes sup → Q t.nodes (sup ++ node_in l)) → Q (nodes_in s') (supplies_in s')
  unfolding ◌>>=◌ step
  nodes_on t opening s' (Some lines.Comment) h e p k = subst (λ (z : Stage). Q (nodes_in z) (supplies_in z)) (one _ _ e) (q0 _ _ (k [] (p0 _ _ p)))
  nodes_on t opening s' (Some (lines.Problem n a)) h e p k = subst (λ (z : Stage). Q (nodes_in z) (supplies_in z)) (one _ _ e) (q0 _ _ (k [] (p0 _ _ p)))
  nodes_on t opening s' (Some (lines.Node v)) h e p k = absurd (never s' e)
  nodes_on t opening s' (Some (lines.Arc v)) h e p k = absurd (never s' e)
  nodes_on t opening s' None h e p k = absurd (never s' e)
  nodes_on t (reading f) s' (Some lines.Comment) h e p k =
      subst (λ (z : Stage). Q (nodes_in z) (supplies_in z)) (one _ _ e)
      (subst (λ (n : ℕ). Q n f.supplies) h.1 (subst (Q t.nodes) (append-nil f.supplies) (k f.supplies (subst (λ (n : ℕ). P n f.supplies) (sym h.1) p))))
  nodes_on t (reading f) s' (Some (lines.Problem n a)) h e p k = absurd (never s' e)
  nodes_on t (reading f) s' (Some (lines.Node v)) h e p k =
      subst (λ (z : Stage). Q (nodes_in z) (supplies_in z)) (only (is_empty f.arcs) (reading (file f.nodes f.said (f.supplies ++ node_in (Some (lines.Node v))) f.arcs)) s' e)
      (subst (λ (n : ℕ). Q n (f.supplies ++ node_in (Some (lines.Node v)))) h.1 (k f.supplies (subst (λ (n : ℕ). P n f.supplies) (sym h.1) p)))
  nodes_on t (reading f) s' (Some (lines.Arc v)) h e p k =
      subst (λ (z : Stage). Q (nodes_in z) (supplies_in z))
      (only (ltb (length f.arcs) f.said) (reading (file f.nodes f.said f.supplies (f.arcs ++ arc_in (Some (lines.Arc v))))) s' e)
      (subst (λ (n : ℕ). Q n f.supplies) h.1 (subst (Q t.nodes) (append-nil f.supplies) (k f.supplies (subst (λ (n : ℕ). P n f.supplies) (sym h.1) p))))
  nodes_on t (reading f) s' None h e p k = absurd (never s' e)

-- ---- the loop

pub no_arcs : {bad : Bool} {starts ends ceilings : List ℕ} {costs : List ℤ} (n m : ℕ) → ArcsRead n [] bad starts ends ceilings costs → ArcsRead m [] bad starts ends ceilings costs
unfolding any_of
no_arcs n m r = record {
  flag = r.flag;
  start = r.start;
  end = r.end;
  ceiling = r.ceiling;
  cost = r.cost;
  starts_long = r.starts_long;
  ends_long = r.ends_long;
  ceilings_long = r.ceilings_long;
  costs_long = r.costs_long;
}

pub no_nodes : {odd : Bool} {gives takes marks : List ℕ} (n m : ℕ) → NodesRead n [] odd gives takes marks → NodesRead m [] odd gives takes marks
unfolding any_of twice
no_nodes n m r = record {
  flag = r.flag;
  mark = r.mark;
  mark_one = r.mark_one;
  supply = r.supply;
  one_way = r.one_way;
  small = r.small;
  gives_long = r.gives_long;
  takes_long = r.takes_long;
  marks_long = r.marks_long;
}

-- the lines end: the answer with the two flags
abbrev pub with_flags : Bool → Bool → Result Counts Refusal → Result reading-answer.Reading Refusal
with_flags odd bad (Ok c) = Ok (record { nodes = c.nodes; arcs = c.arcs; odd = odd; bad = bad })
with_flags odd bad (Err r) = Err r

-- the lines so far are counted and kept
pub record Kept (s : List ℕ) (t : Tally) (at line : ℕ) (odd bad : Bool) (starts ends ceilings : List ℕ) (costs : List ℤ) (gives takes marks : List ℕ) : Type 0 where
  pub so_far : SoFar s t at line
  pub arc_lines : ArcsRead (nodes_in so_far.stage) (arcs_in so_far.stage) bad starts ends ceilings costs
  pub node_lines : NodesRead (nodes_in so_far.stage) (supplies_in so_far.stage) odd gives takes marks

module _ (s : List ℕ) (starts ends ceilings : List ℕ) (costs : List ℤ) (gives takes marks : List ℕ) where
  pub kept_start : ArcsRead 0 [] false starts ends ceilings costs → NodesRead 0 [] false gives takes marks
      → Kept s (tally_of false 0 0 0) 0 1 false false starts ends ceilings costs gives takes marks
  unfolding form_of stage_of
  kept_start a n = record {
    so_far = record { upto = omega arith; numbered = omega arith; stage = opening; stands = refl; meaning = refl; staged = refl };
    arc_lines = a;
    node_lines = n;
  }

  -- what was read before a line that is not of the form
  pub kept_before : {st : Stage} {odd bad : Bool} → stage_of s ≡ st → ArcsRead (nodes_in st) (arcs_in st) bad starts ends ceilings costs
      → NodesRead (nodes_in st) (supplies_in st) odd gives takes marks → LinesKept (stage_of s) starts ends ceilings costs gives takes marks
  kept_before {st} {odd} {bad} e a n =
      subst (λ (z : Stage). LinesKept z starts ends ceilings costs gives takes marks) (sym e) (record { bad = bad; odd = odd; arc_lines = a; node_lines = n })

  pub kept_ends : (t : Tally) (line : ℕ) (odd bad : Bool) (st : Stage) (a : Result Counts Refusal) → a ≡ end_of t line → Stands t st → form_of s ≡ at_end line st → stage_of s ≡ st
      → ArcsRead (nodes_in st) (arcs_in st) bad starts ends ceilings costs → NodesRead (nodes_in st) (supplies_in st) odd gives takes marks
      → ReadAs s (with_flags odd bad a) starts ends ceilings costs gives takes marks
  unfolding at_end
  kept_ends t line odd bad opening a ea h m b r n =
      subst (λ (z : Result Counts Refusal). ReadAs s (with_flags odd bad z) starts ends ceilings costs gives takes marks) (end_closed t line h ∙ sym ea) (m, kept_before b r n, refl)
  kept_ends t line odd bad (reading f) a ea h m b r n = elim (dec_lt t.arcs t.said) [
    | yes l ↦
        subst (λ (z : Result Counts Refusal). ReadAs s (with_flags odd bad z) starts ends ceilings costs gives takes marks) (end_short t line h.0 l ∙ sym ea)
        (m ∙ ap (λ (b : Bool). whole_if b f line) (ne_eqb (length f.arcs) f.said (λ q. omega (arith, h.2, h.3))), kept_before b r n, refl)
    | no l ↦
        subst (λ (z : Result Counts Refusal). ReadAs s (with_flags odd bad z) starts ends ceilings costs gives takes marks) (end_whole t line h.0 (omega arith) ∙ sym ea) (
          f,
          m ∙ ap (λ (b : Bool). whole_if b f line) (eq-eqb (length f.arcs) f.said (omega (arith, h.2, h.3, h.4))),
          record { nodes_are = h.1; arcs_are = omega (arith, h.2, h.3, h.4); arc_lines = r; node_lines = n },
        )
  ]

pub kept_on : {s : List ℕ} {t t' : Tally} {at line at' line' : ℕ} {odd bad odd' bad' : Bool} {starts ends ceilings starts' ends' ceilings' : List ℕ} {costs costs' : List ℤ}
    {gives takes marks gives' takes' marks' : List ℕ} (r : Kept s t at line odd bad starts ends ceilings costs gives takes marks) (z : SoFar s t' at' line')
    (l : Maybe line-answer.Line) → (on_line l >>= step r.so_far.stage) ≡ some z.stage
    → ((sup : List NodeLine) → NodesRead t.nodes sup odd gives takes marks → NodesRead t.nodes (sup ++ node_in l) odd' gives' takes' marks')
    → ((arcs : List ArcLine) → (0 < length (arc_in l) → length arcs ≡ t.arcs) → ArcsRead t.nodes arcs bad starts ends ceilings costs →
    ArcsRead t.nodes (arcs ++ arc_in l) bad' starts' ends' ceilings' costs')
    → Kept s t' at' line' odd' bad' starts' ends' ceilings' costs' gives' takes' marks'
kept_on {t = t} {odd = odd} {bad} {odd'} {bad'} {starts} {ends} {ceilings} {starts'} {ends'} {ceilings'} {costs} {costs'} {gives} {takes} {marks} {gives'} {takes'} {marks'} r z l e n a = record {
  so_far = z;
  arc_lines =
      arcs_on (λ m x. ArcsRead m x bad starts ends ceilings costs) (λ m x. ArcsRead m x bad' starts' ends' ceilings' costs') no_arcs no_arcs t r.so_far.stage z.stage l r.so_far.stands e
      r.arc_lines a;
  node_lines =
      nodes_on (λ m x. NodesRead m x odd gives takes marks) (λ m x. NodesRead m x odd' gives' takes' marks') no_nodes no_nodes t r.so_far.stage z.stage l r.so_far.stands e
      r.node_lines n;
}

-- a line that is no a line, or no n line
pub arc_none : {nodes : ℕ} {arcs : List ArcLine} {bad : Bool} {starts ends ceilings : List ℕ} {costs : List ℤ} (l : Maybe line-answer.Line) → arc_in l ≡ []
    → ArcsRead nodes arcs bad starts ends ceilings costs → ArcsRead nodes (arcs ++ arc_in l) bad starts ends ceilings costs
arc_none {nodes} {arcs} {bad} {starts} {ends} {ceilings} {costs} l e r =
    subst (λ (x : List ArcLine). ArcsRead nodes (arcs ++ x) bad starts ends ceilings costs) (sym e)
    (subst (λ (x : List ArcLine). ArcsRead nodes x bad starts ends ceilings costs) (sym (append-nil arcs)) r)

pub node_nothing : {nodes : ℕ} {sup : List NodeLine} {odd : Bool} {gives takes marks : List ℕ} (l : Maybe line-answer.Line) → node_in l ≡ []
    → NodesRead nodes sup odd gives takes marks → NodesRead nodes (sup ++ node_in l) odd gives takes marks
node_nothing {nodes} {sup} {odd} {gives} {takes} {marks} l e r =
    subst (λ (x : List NodeLine). NodesRead nodes (sup ++ x) odd gives takes marks) (sym e)
    (subst (λ (x : List NodeLine). NodesRead nodes x odd gives takes marks) (sym (append-nil sup)) r)

-- a line that is one
pub arc_some : {nodes : ℕ} {x : List ArcLine} {bad : Bool} {starts ends ceilings : List ℕ} {costs : List ℤ} (arcs : List ArcLine) (l : Maybe line-answer.Line) → arc_in l ≡ x
    → ArcsRead nodes (arcs ++ x) bad starts ends ceilings costs → ArcsRead nodes (arcs ++ arc_in l) bad starts ends ceilings costs
arc_some {nodes} {x} {bad} {starts} {ends} {ceilings} {costs} arcs l e r = subst (λ (x : List ArcLine). ArcsRead nodes (arcs ++ x) bad starts ends ceilings costs) (sym e) r

pub node_some : {nodes : ℕ} {x : List NodeLine} {odd : Bool} {gives takes marks : List ℕ} (sup : List NodeLine) (l : Maybe line-answer.Line) → node_in l ≡ x
    → NodesRead nodes (sup ++ x) odd gives takes marks → NodesRead nodes (sup ++ node_in l) odd gives takes marks
node_some {nodes} {x} {odd} {gives} {takes} {marks} sup l e r = subst (λ (x : List NodeLine). NodesRead nodes (sup ++ x) odd gives takes marks) (sym e) r
