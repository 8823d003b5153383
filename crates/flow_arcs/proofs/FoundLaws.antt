-- What the function on separate slices answers, with arrays for the slices, is what is promised of the arrays. Assumes nothing.
use mathlib.Core.Path.{◌≡◌, refl, sym, ap, ap₂, ◌∙◌}
use mathlib.Core.Bool.{Bool, true, false, ◌||◌}
use mathlib.Core.List.{List, ◌++◌, map, append_assoc}
use Prim.Native.Nat.{ℕ, min, ◌-◌, ◌≤◌, ◌<◌}
use native.Mathlib.Decide.{dec_lt}
use native.Mathlib.Omega.{arith}
use lib.Dec.{ltb}
use lib.IntN.{ℤ, pos}
use lib.ListN.{length, get_or, take, drop, replicate, take-append-drop, length-map, length-append, length-replicate, get_or-append, get_or-map}
use lib.Seq.{ext_get_or, length-take-le, drop-append-le}
use borrow.Author.Tests.{lt-ltb, le-ltb, ltb-false}
use Rattle.transport.specs.Curve.{written}
use Rattle.dimacs.specs.Arc as file
use Rattle.dimacs.specs.Arc.{arc}
use Rattle.dimacs.specs.Form.{ArcLine, File, Form, whole, broken, form_of}
use Rattle.dimacs.proofs.NodeAndArcLines.{or_true}
use Rattle.std.specs.Prelude.{Result}
use Rattle.refusal.specs.declared.Refusal.{Refusal}
use Rattle.flow_network.specs.declared.Carried.{Carried}
use Rattle.flow_problem.specs.Network.{cells}
use Rattle.flow_problem.specs.Answer.{arcs_of, network_of, Room, bad_file, bad_name, out_of_limits, flows, least_total, Outcome, carried, refused, flow_outcome, limited, judged, outcome_of}
use Rattle.flow_problem.specs.Promise.{Slices, room_of, Answered}
use Rattle.flow_network.specs.Answer.{outcome, count_in, count_of, arcs_said, slices_of}
use Rattle.flow_problem.proofs.NodesAndSources.{cells_length, cells_at}
use Rattle.flow_problem.proofs.Answers.{answer-29, answer-30}
use Rattle.flow_arcs.specs.declared.Arc.{Arc}
use Rattle.flow_arcs.specs.declared.find.Found.{Found}
use Rattle.flow_arcs.specs.Lent.{lent_arc, room_for, ArcsAnswered, arc_at, arcs_found, FoundGiven, FoundIs}
use Rattle.problem.proofs.TestsPassed.{either_first, either_second}

-- ---- the cells that an array has of those lent

pub part_length : {A : Type 0} (r : ℕ) (a : A) → r ≤ 64 → length (take (r - 0) (drop 0 (replicate 64 a))) ≡ r
part_length r a h = ap (λ (n : ℕ). length (take n (replicate 64 a))) (let q : r - 0 ≡ r = omega arith in q) ∙ length-take-le r (replicate 64 a) (omega (arith, length-replicate 64 a))

-- the part and what is left of the cells
pub part_rest : {A : Type 0} (r : ℕ) (a : A) → take (r - 0) (drop 0 (replicate 64 a)) ++ drop (r - 0) (drop 0 (replicate 64 a)) ≡ replicate 64 a
part_rest r a = take-append-drop (r - 0) (replicate 64 a)

-- at most 64 arcs do not tell the two apart
short_same : (room n : ℕ) → n ≤ 64 → ltb (min room 64) n ≡ ltb room n
short_same room n h = elim (dec_lt 64 room) [
  | yes l ↦
      (let e : min room 64 ≡ 64 = omega arith in ap (λ (m : ℕ). ltb m n) e ∙ le-ltb 64 n h ∙ sym (le-ltb room n (omega (arith, l, h))))
  | no l ↦ (let e : min room 64 ≡ room = omega arith in ap (λ (m : ℕ). ltb m n) e)
]

module _ (place : ℕ) (table : List ℕ) (x room : ℕ) where
  limits_same : (f : File) → out_of_limits f place table (room_for x (min room 64)) ≡ out_of_limits f place table (room_for x room)
  unfolding out_of_limits bad_file
  limits_same f = elim (dec_lt 64 (length f.arcs)) [
    | yes l ↦
        (let e : bad_file f ≡ true = simp (lt-ltb 64 (length f.arcs) l, or_true) in
        ap₂ (λ (a b : Bool). a || (bad_name (network_of f) place table || b)) e refl ∙ sym (ap₂ (λ (a b : Bool). a || (bad_name (network_of f) place table || b)) e refl))
    | no l ↦
        ap (λ (b : Bool). bad_file f || (bad_name (network_of f) place table || (ltb x (length f.arcs) || (b || (b || (b || b)))))) (short_same room (length f.arcs) (omega (arith, l)))
  ]

  judged_same : (g : Form) → judged g place table (room_for x (min room 64)) ≡ judged g place table (room_for x room)
  unfolding judged limited
  judged_same (broken line) = refl
  judged_same (whole f) =
      ap (λ (b : Bool). elim b as (λ x. Outcome) [ true ↦ refused 30 0 | false ↦ flow_outcome (flows (network_of f)) (least_total (network_of f) (place - 1) table) ]) (limits_same f)

  pub outcome_same : (bytes : List ℕ) → outcome_of bytes place table (room_for x (min room 64)) ≡ outcome_of bytes place table (room_for x room)
  unfolding outcome_of
  outcome_same bytes = judged_same (form_of bytes)

-- ---- a flow: the arcs are few, and there is room

module _ (bytes : List ℕ) (place : ℕ) (table : List ℕ) (room : Room) (f : File) (total : ℤ) (form : form_of bytes ≡ whole f) (given : carried total ≡ outcome_of bytes place table room) where
  inside : out_of_limits f place table room ≡ false
  inside = cases (out_of_limits f place table room) refl
    where
      cases : (b : Bool) → out_of_limits f place table room ≡ b → out_of_limits f place table room ≡ false
      cases false h = h
      cases true h = absurd (let z : carried total ≡ refused 30 0 = given ∙ answer-30 bytes place table room f form h in let w : ◌≡◌ {A = ℕ} 0 1 = cc in omega arith)

  few_arcs : length f.arcs ≤ 64
  unfolding out_of_limits bad_file
  few_arcs = ltb-false 64 (length f.arcs) (either_first (ltb 64 (length f.arcs)) _ (either_second (ltb 32 f.nodes) _ (either_first (bad_file f) _ inside)))

  room_enough : length f.arcs ≤ room.starts
  unfolding out_of_limits
  room_enough =
      ltb-false room.starts (length f.arcs)
      (either_first (ltb room.starts (length f.arcs)) _
      (either_second (ltb room.flow (length f.arcs)) _
      (either_second (bad_name (network_of f) place table) _ (either_second (bad_file f) _ inside))))

-- ---- the arrays

-- a number of arc i, in an array whose front was written
front_at : {A : Type 0} (d : A) (h : file.Arc → A) (l : List file.Arc) (z w rest : List A) (i : ℕ) → h (arc 0 0 0 (pos 0)) ≡ d → w ≡ written (map h l) z → i < length l
    → get_or (w ++ rest) i d ≡ h (get_or l i (arc 0 0 0 (pos 0)))
front_at d h l z w rest i e q k =
    ap (λ (v : List _). get_or (v ++ rest) i d) q
    ∙ get_or-append (written (map h l) z) rest d i (omega (arith, k, length-map l h, long))
    ∙ get_or-append (map h l) (drop (length (map h l)) z) d i (omega (arith, k, length-map l h))
    ∙ ap (λ (v : _). get_or (map h l) i v) (sym e)
    ∙ get_or-map h l i (arc 0 0 0 (pos 0))
  where
    long : length (map h l) ≤ length (written (map h l) z)
    long = omega (arith, length-append (map h l) (drop (length (map h l)) z))

-- the front of an array written by way of a part
written_part : {A : Type 0} (l z w rest all : List A) → length l ≤ length z → w ≡ written l z → z ++ rest ≡ all → w ++ rest ≡ written l all
written_part l z w rest all h q e =
    ap (λ (v : List _). v ++ rest) q
    ∙ append_assoc l (drop (length l) z) rest
    ∙ ap (λ (v : List _). l ++ v) (sym (drop-append-le (length l) z rest h) ∙ ap (drop (length l)) e)

module _ (bytes : List ℕ) (place : ℕ) (table : List ℕ) (room : ℕ) (flow z e u : List ℕ) (c : List ℤ) (long-z : length z ≡ min room 64) (long-e : length e ≡ min room 64)
    (long-u : length u ≡ min room 64) (long-c : length c ≡ min room 64) where
  room_is : room_of (slices_of flow z e u c) ≡ room_for (length flow) (min room 64)
  room_is =
      ap₂ (λ (a b : ℕ). record { flow = length flow; starts = a; ends = b; ceilings = length u; costs = length c }) long-z long-e
      ∙ ap₂ (λ (a b : ℕ). record { flow = length flow; starts = min room 64; ends = min room 64; ceilings = a; costs = b }) long-u long-c

  module _ (answer : Result Carried Refusal) (count : ℕ) (flow' ys es us : List ℕ) (cs : List ℤ) (rs re ru : List ℕ) (rc : List ℤ)
      (all-z : z ++ rs ≡ replicate 64 0) (all-e : e ++ re ≡ replicate 64 0) (all-u : u ++ ru ≡ replicate 64 0) (all-c : c ++ rc ≡ replicate 64 (pos 0))
      (A : Answered bytes place table (outcome answer) (slices_of flow z e u c) (slices_of flow' ys es us cs)) (told-count : count_in answer ≡ count_of (outcome answer) (arcs_said (form_of bytes)))
      (count_told : count ≡ count_in answer) where
    abbrev r : Found
    r = record { answer = answer; count = count; starts = ys ++ rs; ends = es ++ re; ceilings = us ++ ru; costs = cs ++ rc }

    count_is : count ≡ count_of (outcome answer) (arcs_said (form_of bytes))
    count_is = count_told ∙ told-count

    told : outcome answer ≡ outcome_of bytes place table (room_for (length flow) (min room 64))
    told = A.answer ∙ ap (λ (s : Room). outcome_of bytes place table s) room_is

    module _ (f : File) (total : ℤ) (form : form_of bytes ≡ whole f) (carries : outcome answer ≡ carried total) where
      counted : count ≡ length f.arcs
      counted = count_is ∙ ap (λ (o : Outcome). count_of o (arcs_said (form_of bytes))) carries ∙ ap arcs_said form

      small : length f.arcs ≤ 64
      small = few_arcs bytes place table (room_for (length flow) (min room 64)) f total form (sym carries ∙ told)

      roomy : length f.arcs ≤ min room 64
      roomy = room_enough bytes place table (room_for (length flow) (min room 64)) f total form (sym carries ∙ told)

      long_arcs : length (arcs_of f) ≡ length f.arcs
      long_arcs = length-map f.arcs (λ (v : ArcLine). v.arc)

      arcs_are : arcs_found r ≡ map lent_arc (arcs_of f)
      arcs_are =
          let g = A.given f total form carries in
          let none : file.Arc = arc 0 0 0 (pos 0) in
          ext_get_or (lent_arc none) (arcs_found r) (map lent_arc (arcs_of f)) (cells_length count (arc_at r) ∙ counted ∙ sym long_arcs ∙ sym (length-map (arcs_of f) lent_arc))
          (λ i l.
          let k : i < count = omega (arith, l, cells_length count (arc_at r)) in
          let q : i < length (arcs_of f) = omega (arith, k, counted, long_arcs) in
          cells_at count (arc_at r) (lent_arc none) i k
          ∙ ap₂ (λ (a b : ℕ). record { start = a; end = b; ceiling = get_or (us ++ ru) i 0; cost = get_or (cs ++ rc) i (pos 0) })
          (front_at 0 (λ (a : file.Arc). a.start) (arcs_of f) z ys rs i refl g.starts q)
          (front_at 0 (λ (a : file.Arc). a.end) (arcs_of f) e es re i refl g.ends q)
          ∙ ap₂ (λ (a : ℕ) (b : ℤ). record { start = (get_or (arcs_of f) i none).start; end = (get_or (arcs_of f) i none).end; ceiling = a; cost = b })
          (front_at 0 (λ (a : file.Arc). a.ceiling) (arcs_of f) u us ru i refl g.ceilings q) (front_at (pos 0) (λ (a : file.Arc). a.cost) (arcs_of f) c cs rc i refl g.costs q)
          ∙ sym (get_or-map lent_arc (arcs_of f) i none))

      given_is : FoundGiven f place table total flow flow' r
      given_is = let g = A.given f total form carries in record {
        amounts = g.amounts;
        cheapest = g.cheapest;
        flow = g.flow;
        arcs = arcs_are;
        starts = written_part (map (λ (a : file.Arc). a.start) (arcs_of f)) z ys rs _ (omega (arith, length-map (arcs_of f) (λ (a : file.Arc). a.start), long_arcs, roomy, long-z)) g.starts all-z;
        ends = written_part (map (λ (a : file.Arc). a.end) (arcs_of f)) e es re _ (omega (arith, length-map (arcs_of f) (λ (a : file.Arc). a.end), long_arcs, roomy, long-e)) g.ends all-e;
        ceilings =
            written_part (map (λ (a : file.Arc). a.ceiling) (arcs_of f)) u us ru _ (omega (arith, length-map (arcs_of f) (λ (a : file.Arc). a.ceiling), long_arcs, roomy, long-u)) g.ceilings all-u;
        costs = written_part (map (λ (a : file.Arc). a.cost) (arcs_of f)) c cs rc _ (omega (arith, length-map (arcs_of f) (λ (a : file.Arc). a.cost), long_arcs, roomy, long-c)) g.costs all-c;
      }

    none_counted : (k p : ℕ) → outcome answer ≡ refused k p → count ≡ 0
    none_counted k p h = count_is ∙ ap (λ (o : Outcome). count_of o (arcs_said (form_of bytes))) h

    within : (o : Outcome) → outcome answer ≡ o → (g : Form) → form_of bytes ≡ g → (count ≤ 64) × (count ≤ room)
    within (refused k p) h g q = (omega (arith, none_counted k p h), omega (arith, none_counted k p h))
    within (carried t) h (whole f) q = (omega (arith, counted f t q h, small f t q h), omega (arith, counted f t q h, roomy f t q h))
    within (carried t) h (broken line) q =
        absurd (let w : carried t ≡ refused 29 line = sym h ∙ told ∙ answer-29 bytes place table (room_for (length flow) (min room 64)) line q in let v : ◌≡◌ {A = ℕ} 0 1 = cc in omega arith)

    pub found : FoundIs bytes place table room flow flow' r
    found = record {
      answer = told ∙ outcome_same place table (length flow) room bytes;
      given = given_is;
      kept = λ k p h. let q = A.kept k p h in (
        ap (λ (s : Slices). s.flow) q,
        record {
          count = none_counted k p h;
          starts = ap (λ (s : Slices). s.starts ++ rs) q ∙ all-z;
          ends = ap (λ (s : Slices). s.ends ++ re) q ∙ all-e;
          ceilings = ap (λ (s : Slices). s.ceilings ++ ru) q ∙ all-u;
          costs = ap (λ (s : Slices). s.costs ++ rc) q ∙ all-c;
        },
      );
      counted = count_told;
      few = (within (outcome answer) refl (form_of bytes) refl).0;
      fits = (within (outcome answer) refl (form_of bytes) refl).1;
    }

-- ---- the arcs in the lent slice

unwritten : (h : ℕ → Arc) (arcs : List Arc) → written (cells 0 h) arcs ≡ arcs
unfolding cells
unwritten h arcs = refl

pub arcs_answered :
    (bytes : List ℕ) (place : ℕ) (table flow flow' : List ℕ) (arcs arcs' : List Arc) (r : Found) (t : Result Carried Refusal) (n : ℕ) → FoundIs bytes place table (length arcs) flow flow' r → n ≡ r.count
    → arcs' ≡ written (cells n (arc_at r)) arcs → t ≡ r.answer → ArcsAnswered bytes place table (outcome t) flow flow' arcs arcs'
arcs_answered bytes place table flow flow' arcs arcs' r t n F n-is arcs_are t-is =
    let q : outcome t ≡ outcome r.answer = ap outcome t-is in
    let w : arcs' ≡ written (arcs_found r) arcs = arcs_are ∙ ap (λ (m : ℕ). written (cells m (arc_at r)) arcs) n-is in
    record {
      answer = q ∙ F.answer;
      given = λ f total form e.
          let g = F.given f total form (sym q ∙ e) in
          record { amounts = g.amounts; cheapest = g.cheapest; flow = g.flow; arcs = w ∙ ap (λ (l : List Arc). written l arcs) g.arcs };
      kept = λ k p e. let g = F.kept k p (sym q ∙ e) in (g.0, w ∙ ap (λ (m : ℕ). written (cells m (arc_at r)) arcs) g.1.count ∙ unwritten (arc_at r) arcs);
    }
