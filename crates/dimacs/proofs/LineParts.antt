-- The parts of a line, one after the other. Assumes nothing.
use mathlib.Core.Path.{◌≡◌, refl, sym, ap, ◌∙◌, subst}
use mathlib.Core.Option.{Option, none, some}
use mathlib.Core.List.{List, [], ◌∷◌}
use Prim.Native.Nat.{ℕ, ◌+◌, ◌≤◌, ◌<◌, ◌^◌}
use native.Mathlib.Decide.{dec_lt}
use native.Mathlib.Omega.{arith}
use lib.IntN.{ℤ, pos, negsuc}
use mir.Syntax.{w64}
use mir.Val.{to_z, of_z}
use Rattle.csv_print.proofs.PrintedSigns.{read_back}
use lib.ListN.{length, get_or, drop}
use borrow.Author.Tests.{eq-eqb, ne_eqb}
use Rattle.std.proofs.Common.{Option as Maybe, Some, None, nat_abs}
use Rattle.dimacs.specs.declared.bytes.Read.{Read}
use Rattle.dimacs.specs.declared.line.Line as line-answer
use Rattle.dimacs.specs.declared.line.Line.TheVariants as lines
use Rattle.dimacs.specs.Arc.{arc}
use Rattle.dimacs.specs.Bytes.{got, ◌>>=◌, gap, word, field, signed_field}
use Rattle.dimacs.specs.Form.{Line, problem, node, arc_line, ending, problem_line, node_line, arc_of, line_of}
use Rattle.dimacs.specs.inner.Reader.{SpacesRead, on_read, number_ends, NumberRead, signed_ends, SignedRead}
use Rattle.dimacs.specs.inner.LineReader.{min_word, on_offset, offset_ends, MinRead, LineRead, WholeLine}
use Rattle.dimacs.proofs.LineOffsets.{read, there, front, nothing, gap_none, gap_some}

-- ---- one thing after the other

pub bind_none : {A B : Type 0} {o : Option A} (f : A → Option B) → o ≡ none → (o >>= f) ≡ none
unfolding ◌>>=◌
bind_none f e = ap (λ o. o >>= f) e

pub bind_some : {A B : Type 0} {o : Option A} (f : A → Option B) (a : A) → o ≡ some a → (o >>= f) ≡ f a
unfolding ◌>>=◌
bind_some f a e = ap (λ o. o >>= f) e

bind_assoc : {A B C : Type 0} (o : Option A) (f : A → Option B) (g : B → Option C) → (o >>= λ a. f a >>= g) ≡ ((o >>= f) >>= g)
unfolding ◌>>=◌
bind_assoc none f g = refl
bind_assoc (some a) f g = refl

ends_here : {A : Type 0} (v : A) (s : List ℕ) (at : ℕ) → length s ≤ at → ending v (drop at s) ≡ some v
unfolding ending
ends_here v s at h = ap (ending v) (nothing s at h)

goes_on : {A : Type 0} (v : A) (s : List ℕ) (at : ℕ) → at < length s → ending v (drop at s) ≡ none
unfolding ending
goes_on v s at h = ap (ending v) (front s at (get_or s at 10) refl h)

-- ---- the word min

module _ (s : List ℕ) (at b a : ℕ) (w : List ℕ) (e : b ≡ get_or s at 10) where
  word_more : b ≡ a → (a ≡ 10 → ⊥) → word (a ∷ w) (drop at s) ≡ word w (drop (at + 1) s)
  unfolding word
  word_more h d = ap (word (a ∷ w)) (front s at b e (there s at b e (λ q. d (sym h ∙ q)))) ∙ rw (eq-eqb a b (sym h), word)

  word_none : (b ≡ a → ⊥) → word (a ∷ w) (drop at s) ≡ none
  unfolding word
  word_none h = elim (dec_lt at (length s)) [
    | yes l ↦ rw (front s at b e l) (rw (ne_eqb a b (λ q. h (sym q)), word))
    | no l ↦ rw (nothing s at (omega arith)) refl
  ]

module _ (s : List ℕ) (at b : ℕ) (e : b ≡ get_or s at 10) where
  pub min_none : (b ≡ 32 → ⊥) → MinRead s at None
  min_none h = record { ends = tt; meaning = bind_none (word min_word) (gap_none s at b e h) }

  module _ (h : b ≡ 32) (m : ℕ) (r : SpacesRead s (at + 1) m) (b1 : ℕ) (e1 : b1 ≡ get_or s m 10) where
    to_word : (gap (drop at s) >>= word min_word) ≡ word min_word (drop m s)
    to_word = bind_some (word min_word) (drop m s) (gap_some s at b e h m r)

    pub min_1 : (b1 ≡ 109 → ⊥) → MinRead s at None
    min_1 d = record { ends = tt; meaning = to_word ∙ word_none s m b1 109 (105 ∷ 110 ∷ []) e1 d }

    module _ (h1 : b1 ≡ 109) (b2 : ℕ) (e2 : b2 ≡ get_or s (m + 1) 10) where
      to_second : (gap (drop at s) >>= word min_word) ≡ word (105 ∷ 110 ∷ []) (drop (m + 1) s)
      to_second = to_word ∙ word_more s m b1 109 (105 ∷ 110 ∷ []) e1 h1 (λ q. omega arith)

      pub min_2 : (b2 ≡ 105 → ⊥) → MinRead s at None
      min_2 d = record { ends = tt; meaning = to_second ∙ word_none s (m + 1) b2 105 (110 ∷ []) e2 d }

      module _ (h2 : b2 ≡ 105) (b3 : ℕ) (e3 : b3 ≡ get_or s (m + 2) 10) where
        to_third : (gap (drop at s) >>= word min_word) ≡ word (110 ∷ []) (drop (m + 2) s)
        to_third =
            to_second
            ∙ word_more s (m + 1) b2 105 (110 ∷ []) e2 h2 (λ q. omega arith)
            ∙ ap (λ (n : ℕ). word (110 ∷ []) (drop n s)) (let q : m + 1 + 1 ≡ m + 2 = omega arith in q)

        pub min_3 : (b3 ≡ 110 → ⊥) → MinRead s at None
        min_3 d = record { ends = tt; meaning = to_third ∙ word_none s (m + 2) b3 110 [] e3 d }

        pub min_read : b3 ≡ 110 → MinRead s at (Some (m + 3))
        unfolding word
        min_read h3 = record {
          ends = omega (arith, there s (m + 2) b3 e3 (λ q. omega arith));
          meaning =
              to_third
              ∙ word_more s (m + 2) b3 110 [] e3 h3 (λ q. omega arith)
              ∙ ap (λ (n : ℕ). some (drop n s)) (let q : m + 2 + 1 ≡ m + 3 = omega arith in q);
        }

-- ---- a number with a sign, as the machine reads it back
pub signed_stored : (z : ℤ) → nat_abs z < 10 ^ 10 → to_z w64 (of_z w64 z) ≡ z
signed_stored (pos v) h = read_back (pos v) (let k : v < 2 ^ 63 = omega (arith, h) in k)
signed_stored (negsuc v) h = read_back (negsuc v) (let k : v < 2 ^ 63 = omega (arith, h) in k)

-- ---- a field that is read, or not

abbrev pub signed_read : ℤ → ℕ → Maybe (Read ℤ)
signed_read z n = Some (record { value = z; next = n })

module _ {s : List ℕ} {at : ℕ} {n : Maybe (Read ℕ)} (r : NumberRead field s at n) where
  no_field : n ≡ None → field (drop at s) ≡ none
  no_field e = r.meaning ∙ ap (on_read s) e

  a_field : (v next : ℕ) → n ≡ read v next → field (drop at s) ≡ some (got v (drop next s))
  a_field v next e = r.meaning ∙ ap (on_read s) e

  pub field_in : (v next : ℕ) → n ≡ read v next → next ≤ length s
  field_in v next e = (subst (number_ends s) e r.ends).0

  field_small : (v next : ℕ) → n ≡ read v next → v < 10 ^ 10
  field_small v next e = (subst (number_ends s) e r.ends).1

module _ {s : List ℕ} {at : ℕ} {n : Maybe (Read ℤ)} (r : SignedRead signed_field s at n) where
  no_signed : n ≡ None → signed_field (drop at s) ≡ none
  no_signed e = r.meaning ∙ ap (on_read s) e

  a_signed : (v : ℤ) (next : ℕ) → n ≡ signed_read v next → signed_field (drop at s) ≡ some (got v (drop next s))
  a_signed v next e = r.meaning ∙ ap (on_read s) e

  pub signed_small : (v : ℤ) (next : ℕ) → n ≡ signed_read v next → nat_abs v < 10 ^ 10
  signed_small v next e = (subst (signed_ends s) e r.ends).1

wrong : {read : List ℕ → Option Line} {s : List ℕ} {at : ℕ} → read (drop at s) ≡ none → LineRead read s at None
wrong e = record { small = tt; meaning = e }

-- ---- the p line

arcs_part : ℕ → List ℕ → Option Line
arcs_part n l = field l >>= λ a. ending (problem n a.value) a.rest

nodes_part : List ℕ → Option Line
nodes_part l = field l >>= λ n. arcs_part n.value n.rest

problem_is : (l : List ℕ) → problem_line l ≡ ((gap l >>= word min_word) >>= nodes_part)
unfolding problem_line nodes_part arcs_part
problem_is l = bind_assoc (gap l) (word min_word) nodes_part

module _ {s : List ℕ} {at : ℕ} {w : Maybe ℕ} (r : MinRead s at w) where
  pub min_in : (first : ℕ) → w ≡ Some first → first ≤ length s
  min_in first e = subst (offset_ends s) e r.ends

  pub problem_no_min : w ≡ None → LineRead problem_line s at None
  problem_no_min e = wrong (problem_is (drop at s) ∙ bind_none nodes_part (r.meaning ∙ ap (on_offset s) e))

  module _ (first : ℕ) (e : w ≡ Some first) {n : Maybe (Read ℕ)} (q : NumberRead field s first n) where
    to_nodes : problem_line (drop at s) ≡ nodes_part (drop first s)
    to_nodes = problem_is (drop at s) ∙ bind_some nodes_part (drop first s) (r.meaning ∙ ap (on_offset s) e)

    pub problem_no_nodes : n ≡ None → LineRead problem_line s at None
    unfolding nodes_part
    problem_no_nodes d = wrong (to_nodes ∙ bind_none _ (no_field q d))

    module _ (nodes second : ℕ) (d : n ≡ read nodes second) {a : Maybe (Read ℕ)} (p : NumberRead field s second a) where
      to_arcs : problem_line (drop at s) ≡ arcs_part nodes (drop second s)
      unfolding nodes_part
      to_arcs = to_nodes ∙ bind_some (λ n. arcs_part n.value n.rest) (got nodes (drop second s)) (a_field q nodes second d)

      pub problem_no_arcs : a ≡ None → LineRead problem_line s at None
      unfolding arcs_part
      problem_no_arcs h = wrong (to_arcs ∙ bind_none _ (no_field p h))

      module _ (arcs end : ℕ) (h : a ≡ read arcs end) where
        to_end : problem_line (drop at s) ≡ ending (problem nodes arcs) (drop end s)
        unfolding arcs_part
        to_end = to_arcs ∙ bind_some (λ a. ending (problem nodes a.value) a.rest) (got arcs (drop end s)) (a_field p arcs end h)

        pub problem_long : end < length s → LineRead problem_line s at None
        problem_long l = wrong (to_end ∙ goes_on (problem nodes arcs) s end l)

        pub problem_read : length s ≤ end → LineRead problem_line s at (Some (lines.Problem nodes arcs))
        problem_read l = record {
          small = (field_small q nodes second d, field_small p arcs end h);
          meaning = to_end ∙ ends_here (problem nodes arcs) s end l;
        }

-- ---- an n line

supply_part : ℕ → List ℕ → Option Line
supply_part i l = signed_field l >>= λ v. ending (node (record { id = i; supply = v.value })) v.rest

node_is : (l : List ℕ) → node_line l ≡ (field l >>= λ i. supply_part i.value i.rest)
unfolding node_line supply_part
node_is l = refl

module _ {s : List ℕ} {at : ℕ} {n : Maybe (Read ℕ)} (r : NumberRead field s at n) where
  pub node_no_id : n ≡ None → LineRead node_line s at None
  node_no_id e = wrong (node_is (drop at s) ∙ bind_none _ (no_field r e))

  module _ (i first : ℕ) (e : n ≡ read i first) {v : Maybe (Read ℤ)} (q : SignedRead signed_field s first v) where
    to_supply : node_line (drop at s) ≡ supply_part i (drop first s)
    to_supply = node_is (drop at s) ∙ bind_some (λ i. supply_part i.value i.rest) (got i (drop first s)) (a_field r i first e)

    pub node_no_supply : v ≡ None → LineRead node_line s at None
    unfolding supply_part
    node_no_supply d = wrong (to_supply ∙ bind_none _ (no_signed q d))

    module _ (u : ℤ) (end : ℕ) (d : v ≡ signed_read u end) where
      to_node_end : node_line (drop at s) ≡ ending (node (record { id = i; supply = u })) (drop end s)
      unfolding supply_part
      to_node_end = to_supply ∙ bind_some (λ v. ending (node (record { id = i; supply = v.value })) v.rest) (got u (drop end s)) (a_signed q u end d)

      pub node_long : end < length s → LineRead node_line s at None
      node_long l = wrong (to_node_end ∙ goes_on (node (record { id = i; supply = u })) s end l)

      pub node_read : length s ≤ end → LineRead node_line s at (Some (lines.Node (record { id = i; supply = u })))
      node_read l = record {
        small = (field_small r i first e, signed_small q u end d);
        meaning = to_node_end ∙ ends_here (node (record { id = i; supply = u })) s end l;
      }

-- ---- an a line

arc_with : ℕ → ℕ → ℕ → ℕ → ℤ → Line
arc_with s e low cap c = arc_line (record { low = low; arc = arc s e cap c })

part5 : ℕ → ℕ → ℕ → ℕ → List ℕ → Option Line
part5 s e low cap l = signed_field l >>= λ c. ending (arc_with s e low cap c.value) c.rest

part4 : ℕ → ℕ → ℕ → List ℕ → Option Line
part4 s e low l = field l >>= λ v. part5 s e low v.value v.rest

part3 : ℕ → ℕ → List ℕ → Option Line
part3 s e l = field l >>= λ v. part4 s e v.value v.rest

part2 : ℕ → List ℕ → Option Line
part2 s l = field l >>= λ v. part3 s v.value v.rest

arc_is : (l : List ℕ) → arc_of l ≡ (field l >>= λ v. part2 v.value v.rest)
unfolding arc_of part2 part3 part4 part5 arc_with
arc_is l = refl

module _ {s : List ℕ} {at : ℕ} {n1 : Maybe (Read ℕ)} (r1 : NumberRead field s at n1) where
  pub arc_1 : n1 ≡ None → LineRead arc_of s at None
  arc_1 e = wrong (arc_is (drop at s) ∙ bind_none _ (no_field r1 e))

  module _ (v1 p1 : ℕ) (e1 : n1 ≡ read v1 p1) {n2 : Maybe (Read ℕ)} (r2 : NumberRead field s p1 n2) where
    to_2 : arc_of (drop at s) ≡ part2 v1 (drop p1 s)
    to_2 = arc_is (drop at s) ∙ bind_some (λ v. part2 v.value v.rest) (got v1 (drop p1 s)) (a_field r1 v1 p1 e1)

    pub arc_2 : n2 ≡ None → LineRead arc_of s at None
    unfolding part2
    arc_2 e = wrong (to_2 ∙ bind_none _ (no_field r2 e))

    module _ (v2 p2 : ℕ) (e2 : n2 ≡ read v2 p2) {n3 : Maybe (Read ℕ)} (r3 : NumberRead field s p2 n3) where
      to_3 : arc_of (drop at s) ≡ part3 v1 v2 (drop p2 s)
      unfolding part2
      to_3 = to_2 ∙ bind_some (λ v. part3 v1 v.value v.rest) (got v2 (drop p2 s)) (a_field r2 v2 p2 e2)

      pub arc_3 : n3 ≡ None → LineRead arc_of s at None
      unfolding part3
      arc_3 e = wrong (to_3 ∙ bind_none _ (no_field r3 e))

      module _ (v3 p3 : ℕ) (e3 : n3 ≡ read v3 p3) {n4 : Maybe (Read ℕ)} (r4 : NumberRead field s p3 n4) where
        to_4 : arc_of (drop at s) ≡ part4 v1 v2 v3 (drop p3 s)
        unfolding part3
        to_4 = to_3 ∙ bind_some (λ v. part4 v1 v2 v.value v.rest) (got v3 (drop p3 s)) (a_field r3 v3 p3 e3)

        pub arc_4 : n4 ≡ None → LineRead arc_of s at None
        unfolding part4
        arc_4 e = wrong (to_4 ∙ bind_none _ (no_field r4 e))

        module _ (v4 p4 : ℕ) (e4 : n4 ≡ read v4 p4) {n5 : Maybe (Read ℤ)} (r5 : SignedRead signed_field s p4 n5) where
          to_5 : arc_of (drop at s) ≡ part5 v1 v2 v3 v4 (drop p4 s)
          unfolding part4
          to_5 = to_4 ∙ bind_some (λ v. part5 v1 v2 v3 v.value v.rest) (got v4 (drop p4 s)) (a_field r4 v4 p4 e4)

          pub arc_5 : n5 ≡ None → LineRead arc_of s at None
          unfolding part5
          arc_5 e = wrong (to_5 ∙ bind_none _ (no_signed r5 e))

          module _ (v5 : ℤ) (p5 : ℕ) (e5 : n5 ≡ signed_read v5 p5) where
            to_6 : arc_of (drop at s) ≡ ending (arc_with v1 v2 v3 v4 v5) (drop p5 s)
            unfolding part5
            to_6 = to_5 ∙ bind_some (λ c. ending (arc_with v1 v2 v3 v4 c.value) c.rest) (got v5 (drop p5 s)) (a_signed r5 v5 p5 e5)

            pub arc_long : p5 < length s → LineRead arc_of s at None
            arc_long l = wrong (to_6 ∙ goes_on (arc_with v1 v2 v3 v4 v5) s p5 l)

            pub arc_read : length s ≤ p5 → LineRead arc_of s at (Some (lines.Arc (record { start = v1; end = v2; low = v3; ceiling = v4; cost = v5 })))
            unfolding arc_with
            arc_read l = record {
              small = (field_small r1 v1 p1 e1, field_small r2 v2 p2 e2, field_small r3 v3 p3 e3, field_small r4 v4 p4 e4, signed_small r5 v5 p5 e5);
              meaning = to_6 ∙ ends_here (arc_with v1 v2 v3 v4 v5) s p5 l;
            }

-- ---- a line by its first byte

module _ (s : List ℕ) (b : ℕ) (e : b ≡ get_or s 0 10) where
  begins : (b ≡ 10 → ⊥) → s ≡ b ∷ drop 1 s
  begins h = front s 0 b e (there s 0 b e h)

  pub room : (b ≡ 10 → ⊥) → 1 ≤ length s
  room h = omega (arith, there s 0 b e h)

  pub line_comment : b ≡ 99 → WholeLine s (Some lines.Comment)
  unfolding line_of
  line_comment h = record { small = tt; meaning = ap line_of (begins (λ q. omega arith)) ∙ rw (eq-eqb b 99 h, line_of) }

  module _ (a : Maybe line-answer.Line) where
    pub line_problem : b ≡ 112 → LineRead problem_line s 1 a → WholeLine s a
    unfolding line_of
    line_problem h r = record {
      small = r.small;
      meaning = ap line_of (begins (λ q. omega arith)) ∙ rw (ne_eqb b 99 (λ q. omega arith), eq-eqb b 112 h, line_of) r.meaning;
    }

    pub line_node : b ≡ 110 → LineRead node_line s 1 a → WholeLine s a
    unfolding line_of
    line_node h r = record {
      small = r.small;
      meaning = ap line_of (begins (λ q. omega arith)) ∙ rw (ne_eqb b 99 (λ q. omega arith), ne_eqb b 112 (λ q. omega arith), eq-eqb b 110 h, line_of) r.meaning;
    }

    pub line_arc : b ≡ 97 → LineRead arc_of s 1 a → WholeLine s a
    unfolding line_of
    line_arc h r = record {
      small = r.small;
      meaning = ap line_of (begins (λ q. omega arith)) ∙ rw (ne_eqb b 99 (λ q. omega arith), ne_eqb b 112 (λ q. omega arith), ne_eqb b 110 (λ q. omega arith), eq-eqb b 97 h, line_of) r.meaning;
    }

  pub line_wrong : (b ≡ 99 → ⊥) → (b ≡ 112 → ⊥) → (b ≡ 110 → ⊥) → (b ≡ 97 → ⊥) → WholeLine s None
  unfolding line_of
  line_wrong c p n a = record {
    small = tt;
    meaning = elim (dec_lt 0 (length s)) [
      | yes l ↦ ap line_of (front s 0 b e l) ∙ rw (ne_eqb b 99 c, ne_eqb b 112 p, ne_eqb b 110 n, ne_eqb b 97 a, line_of)
      | no l ↦ ap line_of (nothing s 0 (omega arith))
    ];
  }
