-- From the stops in the cells to the answer: what the tests and the passes find is what the definitions say. Assumes nothing.
use mathlib.Core.Path.{◌≡◌, refl, sym, ap, ap₂, ◌∙◌, subst, subst₂}
use mathlib.Core.Logic.{◌≢◌}
use mathlib.Core.Bool.{Bool, true, false, cond, ◌||◌}
use mathlib.Core.Option.{none, some}
use mathlib.Core.List.{List, ◌∷◌, ◌++◌, map}
use Prim.Native.Nat.{ℕ, zero, suc, min, ◌+◌, ◌-◌, ◌≤◌, ◌<◌}
use native.Mathlib.Decide.{dec_lt}
use native.Mathlib.Omega.{arith}
use lib.Dec.{leb, ltb}
use lib.IntN.{ℤ, pos, sub_ℕ, ◌+ℤ◌}
use lib.ListN.{length, get_or, take, drop, length-drop}
use lib.Seq.{length-take-le, get_or-take, get_or-drop}
use borrow.Author.Tests.{eq-eqb, ne_eqb, lt-ltb, le-ltb, ltb-false, lt-leb, le-leb}
use Rattle.transport.specs.Listing.{up_from}
use Rattle.transport.specs.Curve.{written, stops_of}
use Rattle.problem.specs.Integer.{minℤ, Above}
use Rattle.problem.specs.Case.{Case, supply, entry, least_split, greatest_split}
use Rattle.problem.specs.Plans.{least_freight_at, stops}
use Rattle.problem.specs.Outcome.{first_from}
use Rattle.problem.specs.Outcome as planner
use Rattle.problem.proofs.FirstFailing.{moved, first_moved, none_passes, some_first}
use Rattle.problem.proofs.Integers.{above_le, above_pos}
use Rattle.bounds_problem.specs.Tables.{Split, after, total_with, Smallest, Largest, least_over, least_total, can_be, mark, marks}
use Rattle.bounds_problem.specs.inner.Heights.{height, Moderate, Line, Drawn, Drawing, Summed, least_up_to, least_sum, marks_by, first_bad}
use Rattle.bounds_problem.specs.Answers.{known, refused, badEntry, place28, laterOf, outcome_of, Given, Answered}
use Rattle.bounds_problem.specs.inner.Settled.{Listed, settled_of}
use Rattle.bounds_problem.proofs.PlannedCase.{Ready, ready}
use Rattle.bounds_problem.proofs.BetweenStops.{height_at, stops_of_lem, some_stop, first_stop, last_stop, stop_in, stop_line}
use Rattle.bounds_problem.proofs.PossibleSplits.{Bounds, can_possible, possible_can, can_be_least, smallest, largest}
use Rattle.bounds_problem.proofs.HeightLoops.{bad}
use Rattle.problem.proofs.TestsPassed.{either_first, either_second}

-- ---- small laws

-- a list of values over a range, and over another of as many
map_shift : (f g : ℕ → ℕ) (i j m : ℕ) → ((k : ℕ) → k < m → f (i + k) ≡ g (j + k)) → map f (up_from i m) ≡ map g (up_from j m)
unfolding up_from
map_shift f g i j zero h = refl
map_shift f g i j (suc m) h =
    ap₂ (λ (a : ℕ) (s : List ℕ). a ∷ s) (ap f (let q : i ≡ i + 0 = omega arith in q) ∙ h 0 (omega arith) ∙ ap g (let q : j + 0 ≡ j = omega arith in q))
    (map_shift f g (suc i) (suc j) m
    (λ k l. ap f (let q : suc i + k ≡ i + suc k = omega arith in q) ∙ h (suc k) (omega arith) ∙ ap g (let q : j + suc k ≡ suc j + k = omega arith in q)))

-- the cell of a split
map_cell : (f : ℕ → ℕ) (i m k : ℕ) (rest : List ℕ) → k < m → get_or (map f (up_from i m) ++ rest) k 0 ≡ f (i + k)
unfolding up_from
map_cell f i zero k rest h = absurd (omega arith)
map_cell f i (suc m) zero rest h = ap f (omega arith)
map_cell f i (suc m) (suc k) rest h = map_cell f (suc i) m k rest (omega arith) ∙ ap f (omega arith)

-- what holds of an answer
given_by : {c : Case} {high : List ℕ} → Bounds c high → (s v : ℤ) (before cells : List ℕ) → cells ≡ written (marks c high) before
    → least_total c c.table ≡ s → least_total c high ≡ v → Given c high s v before cells
unfolding marks mark
given_by {c} {high} b s v before cells e a z = record {
  marked = e;
  yes = λ y i h. can_possible b y i (one (can_be c high y) (sym (at y i) ∙ h));
  no = λ y i h p. nought (can_be c high y) (possible_can b y i p) (sym (at y i) ∙ h);
  smallest = subst (λ (n : ℤ). Smallest c high n) a (smallest b);
  largest = subst (λ (n : ℤ). Largest c high n) z (largest b);
}
  where
    at : (y : ℕ) → Split c y → get_or cells (y - least_split c) 0 ≡ cond (can_be c high y) 1 0
    at y i =
        ap (λ (m : List ℕ). get_or m (y - least_split c) 0) e
        ∙ map_cell (λ y. cond (can_be c high y) 1 0) (least_split c) (after c + 1) (y - least_split c) _ (omega (arith, i.to))
        ∙ ap (λ (w : ℕ). cond (can_be c high w) 1 0) (let q : least_split c + (y - least_split c) ≡ y = omega (arith, i.from) in q)

    one : (t : Bool) → ◌≡◌ {A = ℕ} (cond t 1 0) 1 → t ≡ true
    one true q = refl
    one false q = absurd (omega arith)

    nought : (t : Bool) → t ≡ true → ◌≡◌ {A = ℕ} (cond t 1 0) 0 → ⊥
    nought true q r = omega arith
    nought false q r = let n : ◌≡◌ {A = ℕ} 0 1 = cc in omega arith

-- ---- the cells

module _ {c : Case} {S : List ℕ} {F : List ℤ} {count : ℕ} (l : Listed c S F count) where
  pub is_ready : Ready c
  is_ready = let g = l.given in ready c g.0 g.1 g.2 count g.3

  abbrev stopped : List ℕ
  stopped = stops_of (height_at c) (least_split c) (greatest_split c)

  same_stops : stops c ≡ stopped
  same_stops = stops_of_lem is_ready

  whole : count ≡ length stopped
  whole = l.all ∙ ap length same_stops

  -- a cell is a stop
  cell : (k : ℕ) → k < count → get_or S k 0 ≡ get_or stopped k 0
  cell k h = l.splits k h ∙ ap (λ (s : List ℕ). get_or s k 0) same_stops

  pub some_cell : 1 ≤ count
  some_cell = omega (arith, whole, some_stop (height_at c) (least_split c) (greatest_split c) is_ready.order)

  pub first_cell : get_or S 0 0 ≡ least_split c
  first_cell = cell 0 some_cell ∙ first_stop (height_at c) (least_split c) (greatest_split c) is_ready.order

  pub last_cell : get_or S (count - 1) 0 ≡ greatest_split c
  last_cell =
      cell (count - 1) (omega (arith, some_cell)) ∙ ap (λ (k : ℕ). get_or stopped (k - 1) 0) whole
      ∙ last_stop (height_at c) (least_split c) (greatest_split c) is_ready.order

  cell_in : (k : ℕ) → k < count → Split c (get_or S k 0)
  cell_in k h =
      let t = stop_in (height_at c) (least_split c) (greatest_split c) is_ready.order k (omega (arith, whole)) in
      record { from = omega (arith, t.0, cell k h); to = omega (arith, t.1, cell k h) }

  level : (k : ℕ) → k < count → get_or F k (pos 0) ≡ least_freight_at c (get_or S k 0)
  level k h = l.freights k h ∙ ap (least_freight_at c) (sym (l.splits k h))

  -- the cells are the stops of the case's curve
  pub drawing : Drawing S F count
  drawing = record {
    curve = height_at c;
    some = some_cell;
    in_splits = l.in_splits;
    in_freights = l.in_freights;
    small = λ k h. let s = cell_in k h in omega (arith, s.to, is_ready.last, is_ready.limit);
    lowest = λ k h. let s = cell_in k h in omega (arith, s.from, first_cell);
    moderate = λ k h. subst (λ (z : ℤ). Moderate z) (sym (level k h)) (is_ready.freights (get_or S k 0) (cell_in k h));
    first = ap height (level 0 some_cell);
    lines = λ k h.
        let t = stop_line (height_at c) (least_split c) (greatest_split c) is_ready.order k (omega (arith, whole)) in
        subst₂ (λ (p q : ℕ). Line (height_at c) p q (height (get_or F k (pos 0))) (height (get_or F (suc k) (pos 0)))) (sym (cell k (omega arith))) (sym (cell (suc k) h))
        (subst₂ (λ (a b : ℕ). Line (height_at c) (get_or stopped k 0) (get_or stopped (suc k) 0) a b)
        (sym (ap height (level k (omega arith)) ∙ ap (height_at c) (cell k (omega arith)))) (sym (ap height (level (suc k) h) ∙ ap (height_at c) (cell (suc k) h))) t);
  }

  -- what is drawn from the cells is the case's curve
  pub draws : (cells : List ℕ) → ((d : Drawing S F count) → Drawn d.curve (get_or S 0 0) (get_or S (count - 1) 0) cells)
      → Drawn (height_at c) (get_or S 0 0) (get_or S (count - 1) 0) cells
  unfolding drawing
  draws cells f = f drawing

-- ---- a table's part at the splits

abbrev pub part : List ℕ → ℕ → ℕ → List ℕ
part t lo hi = take (hi + 1 - lo) (drop lo t)

module _ (t : List ℕ) (lo hi : ℕ) (o : lo ≤ hi) (w : hi < length t) where
  pub part_length : length (part t lo hi) ≡ hi - lo + 1
  part_length = length-take-le (hi + 1 - lo) (drop lo t) (omega (arith, length-drop lo t)) ∙ omega arith

  pub part_at : (k : ℕ) → k ≤ hi - lo → get_or (part t lo hi) k 0 ≡ get_or t (lo + k) 0
  part_at k h = get_or-take (hi + 1 - lo) (drop lo t) k 0 (omega arith) ∙ get_or-drop lo t k 0

-- ---- the least of a curve with a table on top

least_match : (K : ℕ) (h : ℕ → ℤ) (g : ℕ → ℕ) (i n : ℕ) → ((k : ℕ) → k ≤ n → Above K (h (i + k)) (g k)) → Above K (least_over h i n) (least_up_to g n)
unfolding least_over least_up_to minℤ
least_match K h g i zero f = subst (λ (y : ℕ). Above K (h y) (g 0)) (omega arith) (f 0 (omega arith))
least_match K h g i (suc n) f = lower (least_match K h g i n (λ k a. f k (omega arith))) (f (suc n) (omega arith))
  where
    lower : {z w : ℤ} {a b : ℕ} → Above K z a → Above K w b → Above K (minℤ z w) (min a b)
    lower {z} {w} {a} {b} e d = elim (dec_lt b a) [
      | yes s ↦ subst₂ (λ (t : Bool) (v : ℕ). Above K (cond t z w) v) (sym (above_le e d ∙ lt-leb a b s)) (let q : b ≡ min a b = omega arith in q) d
      | no s ↦ subst₂ (λ (t : Bool) (v : ℕ). Above K (cond t z w) v) (sym (above_le e d ∙ le-leb a b (omega arith))) (let q : a ≡ min a b = omega arith in q) e
    ]

module _ {c : Case} (r : Ready c) (curve : List ℕ) (drawn : Drawn (height_at c) (least_split c) (greatest_split c) curve) where
  split_at : (k : ℕ) → k ≤ after c → Split c (least_split c + k)
  split_at k h = record { from = omega arith; to = omega (arith, r.order) }

  pub curve_at : (k : ℕ) → k ≤ after c → get_or curve k 0 ≡ height_at c (least_split c + k)
  curve_at k h =
      ap (λ (j : ℕ). get_or curve j 0) (let q : k ≡ least_split c + k - least_split c = omega arith in q)
      ∙ drawn (least_split c + k) (omega arith) (omega (arith, r.order))

  module _ (t p : List ℕ) (long : length p ≡ after c + 1) (at : (k : ℕ) → k ≤ after c → get_or p k 0 ≡ get_or t (least_split c + k) 0) where
    total_above : (k : ℕ) → k ≤ after c → Above 128000000000 (total_with c t (least_split c + k)) (get_or curve k 0 + get_or p k 0)
    unfolding total_with
    total_above k h =
        subst (λ (v : ℕ). Above 128000000000 (least_freight_at c (least_split c + k) +ℤ pos (get_or t (least_split c + k) 0)) v)
        (sym (ap₂ (λ (a b : ℕ). a + b) (curve_at k h) (at k h)))
        (above_pos (get_or t (least_split c + k) 0) (r.freights (least_split c + k) (split_at k h)).above)

    pub least_above : Above 128000000000 (least_total c t) (least_sum curve p)
    unfolding least_total least_sum
    least_above =
        subst (λ (n : ℕ). Above 128000000000 (least_over (total_with c t) (least_split c) (after c)) (least_up_to (λ k. get_or curve k 0 + get_or p k 0) n))
        (let q : after c ≡ length p - 1 = omega arith in q)
        (least_match 128000000000 (total_with c t) (λ k. get_or curve k 0 + get_or p k 0) (least_split c) (after c) total_above)

    pub summed : after c + 1 ≤ length curve → ((k : ℕ) → k ≤ after c → get_or p k 0 ≤ 1000000000) → Summed curve p
    summed room small = record {
      some = omega arith;
      long = omega arith;
      heights = λ k h. omega (arith, curve_at k (omega arith), (r.freights (least_split c + k) (split_at k (omega arith))).small);
      entries = λ k h. small k (omega arith);
    }

-- ---- the answers

module _ (c : Case) (high before : List ℕ) where
  pub refuse : (k p : ℕ) → outcome_of c high (length before) ≡ refused k p → Answered c high (refused k p) before before
  refuse k p e = record { answer = sym e; given = λ i n s l q. absurd (never q); kept = λ k p q. refl }
    where
      never : {i n : ℕ} {s l : ℤ} → refused k p ≡ known i n s l → ⊥
      never {i} {n} {s} {l} q = let z : ◌≡◌ {A = ℕ} 0 1 = cc in omega arith

  -- the planner refused: its refusal is handed on
  pub handed_on_lem : (k p : ℕ) → planner.outcome_of c ≡ planner.refused k p → outcome_of c high (length before) ≡ refused k p
  unfolding outcome_of
  handed_on_lem k p e =
      ap (λ (o : planner.Outcome). elim o [ planner.refused k p ↦ refused k p | planner.planned s t f k ↦ laterOf c high (length before) ]) e

  -- the planner gave a plan: the later tests decide
  pub to_later : (y : ℕ) (t v : ℤ) (k : ℕ) → planner.outcome_of c ≡ planner.planned y t v k → outcome_of c high (length before) ≡ laterOf c high (length before)
  unfolding outcome_of
  to_later y t v k e =
      ap (λ (o : planner.Outcome). elim o [ planner.refused k p ↦ refused k p | planner.planned s t f k ↦ laterOf c high (length before) ]) e

  pub later_28 : (p : ℕ) → place28 c high ≡ some p → laterOf c high (length before) ≡ refused 28 p
  unfolding laterOf
  later_28 p e = rw (e, laterOf) refl

  pub later_11 : place28 c high ≡ none → length before < after c + 1 → laterOf c high (length before) ≡ refused 11 0
  unfolding laterOf
  later_11 e h =
      let q : laterOf c high (length before) ≡ cond (ltb (length before) (after c + 1)) (refused 11 0) (known (least_split c) (after c + 1) (least_total c c.table) (least_total c high)) =
      rw (e, laterOf) refl in
      q ∙ ap (λ (t : Bool). cond t (refused 11 0) (known (least_split c) (after c + 1) (least_total c c.table) (least_total c high))) (lt-ltb (length before) (after c + 1) h)

  pub later_known : place28 c high ≡ none → after c + 1 ≤ length before
      → laterOf c high (length before) ≡ known (least_split c) (after c + 1) (least_total c c.table) (least_total c high)
  unfolding laterOf
  later_known e h =
      let q : laterOf c high (length before) ≡ cond (ltb (length before) (after c + 1)) (refused 11 0) (known (least_split c) (after c + 1) (least_total c c.table) (least_total c high)) =
      rw (e, laterOf) refl in
      q ∙ ap (λ (t : Bool). cond t (refused 11 0) (known (least_split c) (after c + 1) (least_total c c.table) (least_total c high))) (le-ltb (length before) (after c + 1) h)

-- ---- a case whose stops stand in the cells

module _ {c : Case} {S : List ℕ} {F : List ℤ} {count : ℕ} (l : Listed c S F count) (high : List ℕ) where
  abbrev lo : ℕ
  lo = get_or S 0 0

  abbrev hi : ℕ
  hi = get_or S (count - 1) 0

  abbrev lows : List ℕ
  lows = part c.table (get_or S 0 0) (get_or S (count - 1) 0)

  abbrev highs : List ℕ
  highs = part high (get_or S 0 0) (get_or S (count - 1) 0)

  pub in_order : lo ≤ hi
  in_order = omega (arith, first_cell l, last_cell l, (is_ready l).order)

  pub at_most : hi ≤ 4000
  at_most = omega (arith, last_cell l, (is_ready l).last, (is_ready l).limit)

  pub in_low : hi < length c.table
  in_low = omega (arith, last_cell l, (is_ready l).last, (is_ready l).low_long)

  from_later : (before : List ℕ) → outcome_of c high (length before) ≡ laterOf c high (length before)
  from_later before = let g = l.given in to_later c high before g.0 g.1 g.2 count g.3

  pub wrong_long : (before : List ℕ) → length high ≢ length c.table → Answered c high (refused 28 0) before before
  unfolding place28
  wrong_long before d =
      refuse c high before 28 0 (from_later before ∙ later_28 c high before 0
      (ap (λ (t : Bool). cond t (first_from (badEntry c high) (least_split c) (after c + 1)) (some 0)) (ne_eqb (length high) (supply c 0 + 1) (λ e. d (e ∙ sym (is_ready l).low_long)))))

  module _ (same : length high ≡ length c.table) where
    pub in_high : hi < length high
    in_high = omega (arith, in_low)

    steps : hi - lo ≡ after c
    steps = omega (arith, first_cell l, last_cell l)

    low_long : length lows ≡ after c + 1
    low_long = part_length c.table lo hi in_order in_low ∙ ap (λ (n : ℕ). n + 1) steps

    high_long : length highs ≡ after c + 1
    high_long = part_length high lo hi in_order in_high ∙ ap (λ (n : ℕ). n + 1) steps

    pub same_long : length lows ≤ length highs
    same_long = omega (arith, low_long, high_long)

    low_at : (k : ℕ) → k ≤ after c → get_or lows k 0 ≡ get_or c.table (least_split c + k) 0
    low_at k h = part_at c.table lo hi in_order in_low k (omega (arith, steps)) ∙ ap (λ (a : ℕ). get_or c.table (a + k) 0) (first_cell l)

    high_at : (k : ℕ) → k ≤ after c → get_or highs k 0 ≡ get_or high (least_split c + k) 0
    high_at k h = part_at high lo hi in_order in_high k (omega (arith, steps)) ∙ ap (λ (a : ℕ). get_or high (a + k) 0) (first_cell l)

    -- test 28 over the parts
    place : place28 c high ≡ moved (least_split c) 0 (first_bad lows highs)
    unfolding place28 first_bad badEntry
    place =
        ap (λ (t : Bool). cond t (first_from (badEntry c high) (least_split c) (after c + 1)) (some 0)) (eq-eqb (length high) (supply c 0 + 1) (same ∙ (is_ready l).low_long))
        ∙ first_moved (badEntry c high) (bad lows highs) (least_split c) 0 (after c + 1)
        (λ t h. ap₂ (λ (a b : ℕ). ltb b a || ltb 1000000000 b)
        (sym (low_at t (omega arith)) ∙ ap (λ (j : ℕ). get_or lows j 0) (let q : t ≡ 0 + t = omega arith in q))
        (sym (high_at t (omega arith)) ∙ ap (λ (j : ℕ). get_or highs j 0) (let q : t ≡ 0 + t = omega arith in q)))
        ∙ ap (λ (n : ℕ). moved (least_split c) 0 (first_from (bad lows highs) 0 n)) (sym low_long)

    pub bad_in : (k : ℕ) → first_bad lows highs ≡ some k → k ≤ after c
    unfolding first_bad
    bad_in k e = omega (arith, (some_first (bad lows highs) 0 (length lows) k e).high, low_long)

    pub bad_place : (before : List ℕ) (k : ℕ) → first_bad lows highs ≡ some k → Answered c high (refused 28 (lo + k)) before before
    unfolding moved
    bad_place before k e =
        refuse c high before 28 (lo + k) (from_later before ∙ later_28 c high before (lo + k)
        (place ∙ ap (moved (least_split c) 0) e ∙ ap some (let q : k - 0 + least_split c ≡ lo + k = omega (arith, first_cell l) in q)))

    module _ (none-bad : first_bad lows highs ≡ none) where
      no_place : place28 c high ≡ none
      unfolding moved
      no_place = place ∙ ap (moved (least_split c) 0) none-bad

      good : (k : ℕ) → k ≤ after c → (get_or lows k 0 ≤ get_or highs k 0) × (get_or highs k 0 ≤ 1000000000)
      unfolding first_bad
      good k h =
          let e : bad lows highs k ≡ false = none_passes (bad lows highs) 0 (length lows) none-bad k (omega arith) (omega (arith, low_long)) in
          let a = ltb (get_or highs k 0) (get_or lows k 0) in
          let b = ltb 1000000000 (get_or highs k 0) in
          (ltb-false (get_or highs k 0) (get_or lows k 0) (either_first a b e), ltb-false 1000000000 (get_or highs k 0) (either_second a b e))

      pub bounds : Bounds c high
      bounds = record {
        order = (is_ready l).order;
        last = (is_ready l).last;
        low_long = (is_ready l).low_long;
        high_long = same ∙ (is_ready l).low_long;
        rising = λ y s.
            let k = y - least_split c in
            let i : k ≤ after c = omega (arith, s.to) in
            let q : least_split c + k ≡ y = omega (arith, s.from) in
            subst (λ (z : ℕ). entry c z ≤ get_or high z 0) q (omega (arith, (good k i).0, low_at k i, high_at k i));
      }

      pub too_short : (before : List ℕ) → length before < length lows → Answered c high (refused 11 0) before before
      too_short before h = refuse c high before 11 0 (from_later before ∙ later_11 c high before no_place (omega (arith, low_long)))

      module _ (curve : List ℕ) (room : 4001 ≤ length curve) (there : Drawn (height_at c) lo hi curve) where
        drawn : Drawn (height_at c) (least_split c) (greatest_split c) curve
        drawn = subst₂ (λ (a b : ℕ). Drawn (height_at c) a b curve) (first_cell l) (last_cell l) there

        pub low_summed : Summed curve lows
        low_summed =
            summed (is_ready l) curve drawn c.table lows low_long low_at (omega (arith, (is_ready l).last, (is_ready l).limit))
            (λ k h. omega (arith, good k h))

        pub high_summed : Summed curve highs
        high_summed =
            summed (is_ready l) curve drawn high highs high_long high_at (omega (arith, (is_ready l).last, (is_ready l).limit)) (λ k h. (good k h).1)

        low_least : Above 128000000000 (least_total c c.table) (least_sum curve lows)
        low_least = least_above (is_ready l) curve drawn c.table lows low_long low_at

        high_least : Above 128000000000 (least_total c high) (least_sum curve highs)
        high_least = least_above (is_ready l) curve drawn high highs high_long high_at

        settled_is : settled_of lo curve lows highs ≡ known (least_split c) (after c + 1) (least_total c c.table) (least_total c high)
        unfolding settled_of
        settled_is =
            ap₂ (λ (i n : ℕ). known i n (sub_ℕ (least_sum curve lows) 128000000000) (sub_ℕ (least_sum curve highs) 128000000000)) (first_cell l) low_long
            ∙ ap₂ (λ (a b : ℤ). known (least_split c) (after c + 1) a b) (sym low_least.is) (sym high_least.is)

        -- the marks
        mark_at : (k : ℕ) → k ≤ after c → ◌≡◌ {A = ℕ} (cond (leb (get_or curve k 0 + get_or lows k 0) (least_sum curve highs)) 1 0) (mark c high (least_split c + k))
        unfolding mark
        mark_at k h =
            ap (λ (t : Bool). cond t 1 0)
            (sym (can_be_least bounds (least_split c + k) (record { from = omega arith; to = omega (arith, (is_ready l).order) })
            ∙ above_le (total_above (is_ready l) curve drawn c.table lows low_long low_at k h) high_least))

        marks_are : marks_by curve lows (least_sum curve highs) ≡ marks c high
        unfolding marks_by marks
        marks_are =
            ap (λ (n : ℕ). map (λ k. cond (leb (get_or curve k 0 + get_or lows k 0) (least_sum curve highs)) 1 0) (up_from 0 n)) low_long
            ∙ map_shift (λ k. cond (leb (get_or curve k 0 + get_or lows k 0) (least_sum curve highs)) 1 0) (mark c high) 0 (least_split c) (after c + 1)
            (λ k h. ap (λ (j : ℕ). cond (leb (get_or curve j 0 + get_or lows j 0) (least_sum curve highs)) 1 0) (let q : 0 + k ≡ k = omega arith in q) ∙ mark_at k (omega arith))

        pub settled : (before cells : List ℕ) → length lows ≤ length before → cells ≡ written (marks_by curve lows (least_sum curve highs)) before
            → Answered c high (settled_of lo curve lows highs) before cells
        settled before cells h e = record {
          answer = settled_is ∙ sym (from_later before ∙ later_known c high before no_place (omega (arith, low_long)));
          given = λ i n s v q.
              let r : known (least_split c) (after c + 1) (least_total c c.table) (least_total c high) ≡ known i n s v = sym settled_is ∙ q in
              let a : least_total c c.table ≡ s = cc in
              let b : least_total c high ≡ v = cc in
              given_by bounds s v before cells (e ∙ ap (λ (m : List ℕ). written m before) marks_are) a b;
          kept = λ k p q. absurd (never (sym settled_is ∙ q));
        }
          where
            never : {i n : ℕ} {a b : ℤ} {k p : ℕ} → known i n a b ≡ refused k p → ⊥
            never {i} {n} {a} {b} {k} {p} q = let z : ◌≡◌ {A = ℕ} 0 1 = cc in omega arith
