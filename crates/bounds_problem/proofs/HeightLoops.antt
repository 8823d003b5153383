-- What the loops over the curve need. Assumes nothing.
use mathlib.Core.Path.{◌≡◌, refl, sym, ap, ap₂, ◌∙◌, subst, subst₂}
use mathlib.Core.Bool.{Bool, true, false, cond, ◌||◌}
use mathlib.Core.Option.{none, some}
use mathlib.Core.List.{List, ◌++◌}
use Prim.Native.Nat.{ℕ, zero, suc, min, ◌+◌, ◌-◌, ◌*◌, ◌/◌, ◌≤◌, ◌<◌}
use native.Mathlib.Nat.{mul-le-mul, div-eq_of_eq-mul_right}
use native.Mathlib.Numerals.{add-one}
use native.Mathlib.Decide.{ℕ_discrete, dec_lt}
use native.Mathlib.Omega.{arith}
use lib.Dec.{leb, ltb}
use lib.IntN.{ℤ, pos, sub_ℕ, ◌+ℤ◌, ◌-ℤ◌}
use lib.ListN.{length, get_or, set, take, drop, length-map, length-set, get_or-map}
use lib.Seq.{get_or-set_same, get_or-set_other, paste, paste-zero, paste-suc, length-paste, take_all}
use borrow.Author.Tests.{lt-ltb, le-ltb}
use mir.Syntax.{w64}
use mir.Val.{SFits, to_z, of_z}
use mir.ValLaws.{to_z_pos, to_z-of_z}
use Rattle.transport.specs.Listing.{up_from}
use Rattle.transport.specs.Curve.{written}
use Rattle.transport.proofs.ListMembers.{up_from_length, up_from_get_d}
use Rattle.problem.proofs.FirstFailing.{first_none, first_some}
use Rattle.transport.proofs.Differences.{sub_add, sub_sub, sub_pos, pos_sub}
use Rattle.problem.proofs.MachineIntegers.{sub_fits}
use Rattle.bounds_problem.specs.inner.Heights.{height, Moderate, Line, Drawn, point_at, Stretch, StretchDrawn, Drawing, Summed, least_up_to, least_sum, marks_by, first_bad}

-- ---- heights as the machine has them

pub height_is : (z : ℤ) → Moderate z → z +ℤ pos 128000000000 ≡ pos (height z)
height_is z m =
    ap₂ (λ (a b : ℤ). a +ℤ b) m.above.is (pos_sub 128000000000) ∙ sub_add (height z) 128000000000 128000000000 0
    ∙ sub_pos (height z + 128000000000) (128000000000 + 0) (height z) (omega arith)

pub height_sum : (z : ℤ) → SFits w64 z → Moderate z → to_z w64 (of_z w64 z) +ℤ pos 128000000000 ≡ pos (height z)
height_sum z f m = ap (λ (y : ℤ). y +ℤ pos 128000000000) (to_z-of_z w64 z f) ∙ height_is z m

pub height_fits : (y : ℤ) (n : ℕ) → y ≡ pos n → n ≤ 256000000000 → SFits w64 y
height_fits y n e h = subst (λ (z : ℤ). SFits w64 z) (sym e) (record { sfits = omega arith })

pub stored : (y : ℤ) (n : ℕ) → y ≡ pos n → n ≤ 256000000000 → to_z w64 (of_z w64 y) ≡ pos n
stored y n e h = ap (λ (z : ℤ). to_z w64 (of_z w64 z)) e ∙ to_z_pos w64 n (omega arith)

pub signed_is : (v : ℕ) → v ≤ 1000000000000 → to_z w64 v -ℤ pos 128000000000 ≡ sub_ℕ v 128000000000
signed_is v h =
    ap₂ (λ (x y : ℤ). x -ℤ y) (to_z_pos w64 v (omega arith) ∙ pos_sub v) (pos_sub 128000000000) ∙ sub_sub v 0 128000000000 0
    ∙ ap₂ (λ (x y : ℕ). sub_ℕ x y) (let q : v + 0 ≡ v = omega arith in q) (let q : 0 + 128000000000 ≡ 128000000000 = omega arith in q)

pub signed_fits : (v : ℕ) → v ≤ 1000000000000 → SFits w64 (sub_ℕ v 128000000000)
signed_fits v h = sub_fits v 128000000000 h (omega arith)

-- ---- a line

pub product_small : (n a : ℕ) → n ≤ 4000 → a ≤ 256000000000 → n * a ≤ 1024000000000000
product_small n a h l = omega (arith, mul-le-mul h l)

pub on_line : {g : ℕ → ℕ} {p q a b : ℕ} → Line g p q a b → (y : ℕ) → p ≤ y → y ≤ q → ((q - y) * a + (y - p) * b) / (q - p) ≡ g y
on_line {g} {p} {q} {a} {b} l y h k = div-eq_of_eq-mul_right (omega (arith, l.rises)) (sym (l.straight y h k))

-- the cells after p and before y hold the line to q, and all others are as they were
pub record StretchSoFar (lo p q a b y : ℕ) (cells cells' : List ℕ) : Type 0 where
  pub long : length cells' ≡ length cells
  pub points : (z : ℕ) → p < z → z < y → get_or cells' (z - lo) 0 ≡ point_at p q a b z
  pub kept : (k : ℕ) → (p < k + lo → k + lo < y → ⊥) → get_or cells' k 0 ≡ get_or cells k 0

module _ {lo p q a b : ℕ} where
  pub stretch_start : (cells : List ℕ) → StretchSoFar lo p q a b (p + 1) cells cells
  stretch_start cells = record { long = refl; points = λ z h l. absurd (omega arith); kept = λ k no. refl }

  -- one cell more
  pub stretch_next :
      (y : ℕ) (cells cells' : List ℕ) (v : ℕ) → StretchSoFar lo p q a b y cells cells' → lo ≤ p → p < y → y - lo < length cells → v ≡ point_at p q a b y →
      StretchSoFar lo p q a b (y + 1) cells (set cells' (y - lo) v)
  stretch_next y cells cells' v s from up room e = record {
    long = length-set cells' (y - lo) v ∙ s.long;
    points = λ z h l. elim (ℕ_discrete z y) [
      | yes same ↦ subst (λ (w : ℕ). get_or (set cells' (y - lo) v) (w - lo) 0 ≡ point_at p q a b w) (sym same) (get_or-set_same cells' (y - lo) v 0 (omega (arith, s.long)) ∙ e)
      | no other ↦ get_or-set_other cells' (y - lo) (z - lo) v 0 (λ same. other (omega arith)) ∙ s.points z h (omega arith)
    ];
    kept = λ k no.
        get_or-set_other cells' (y - lo) k v 0 (λ same. no (omega arith) (omega arith)) ∙ s.kept k (λ h l. no h (omega arith));
  }

-- a curve that is straight there is drawn on
pub drawn_on :
    (g : ℕ → ℕ) {lo p q a b : ℕ} (cells cells' : List ℕ) → StretchDrawn lo p q a b cells cells' → lo ≤ p → Line g p q a b → Drawn g lo p cells → Drawn g lo q cells'
drawn_on g {lo} {p} {q} {a} {b} cells cells' s from l d z h k = elim (dec_lt p z) [
  | yes past ↦ s.points z past k ∙ on_line l z (omega arith) k
  | no before ↦ s.kept (z - lo) (λ u w. before (omega arith)) ∙ d z h (omega arith)
]

-- the first cell
pub drawn_first : (g : ℕ → ℕ) (lo : ℕ) (cells : List ℕ) (v : ℕ) → 0 < length cells → v ≡ g lo → Drawn g lo lo (set cells 0 v)
drawn_first g lo cells v l e z a b =
    subst (λ (w : ℕ). get_or (set cells 0 v) (w - lo) 0 ≡ g w) (let q : lo ≡ z = omega arith in q)
    (ap (λ (k : ℕ). get_or (set cells 0 v) k 0) (let q : lo - lo ≡ 0 = omega arith in q) ∙ get_or-set_same cells 0 v 0 l ∙ e)

-- ---- the least

pub least_start : (h : ℕ → ℕ) → h 0 ≡ least_up_to h (1 - 1)
unfolding least_up_to
least_start h = refl

pub least_next : (h : ℕ → ℕ) (k v : ℕ) → 1 ≤ k → v ≡ min (least_up_to h (k - 1)) (h k) → v ≡ least_up_to h (k + 1 - 1)
unfolding least_up_to
least_next h k v l e =
    let q : k ≡ suc (k - 1) = omega arith in
    e ∙ ap (λ (j : ℕ). min (least_up_to h (k - 1)) (h j)) q ∙ ap (least_up_to h) (let z : suc (k - 1) ≡ k + 1 - 1 = omega arith in z)

least_under : (h : ℕ → ℕ) (k : ℕ) → least_up_to h k ≤ h 0
unfolding least_up_to
least_under h zero = omega arith
least_under h (suc k) = omega (arith, least_under h k)

pub least_small : {curve table : List ℕ} → Summed curve table → least_sum curve table ≤ 1000000000000
unfolding least_sum
least_small {curve} {table} s =
    omega (arith, least_under (λ k. get_or curve k 0 + get_or table k 0) (length table - 1), s.heights 0 s.some, s.entries 0 s.some)

-- ---- the marks

pub marks_length : (curve table : List ℕ) (bound : ℕ) → length (marks_by curve table bound) ≡ length table
unfolding marks_by
marks_length curve table bound = length-map (up_from 0 (length table)) _ ∙ up_from_length 0 (length table)

marks_at : (curve table : List ℕ) (bound k : ℕ) → k < length table
    → get_or (marks_by curve table bound) k (cond (leb (get_or curve 0 0 + get_or table 0 0) bound) 1 0) ≡ cond (leb (get_or curve k 0 + get_or table k 0) bound) 1 0
unfolding marks_by
marks_at curve table bound k h =
    get_or-map (λ k. cond (leb (get_or curve k 0 + get_or table k 0) bound) 1 0) (up_from 0 (length table)) k 0
    ∙ ap (λ (k : ℕ). cond (leb (get_or curve k 0 + get_or table k 0) bound) 1 0) (up_from_get_d 0 (length table) k h ∙ omega arith)

-- the first k cells are marked
pub record Marking (curve table : List ℕ) (bound k : ℕ) (before after : List ℕ) : Type 0 where
  pub cells : after ≡ paste before 0 (marks_by curve table bound) k
  pub in_table : k ≤ length table
  pub in_cells : length table ≤ length before

module _ {curve table : List ℕ} {bound : ℕ} where
  pub mark_start : {before : List ℕ} → length table ≤ length before → Marking curve table bound 0 before before
  mark_start {before} h = record { cells = paste-zero before 0 (marks_by curve table bound); in_table = omega arith; in_cells = h }

  pub mark_long : {k : ℕ} {before after : List ℕ} → Marking curve table bound k before after → length after ≡ length before
  mark_long {k} {before} {after} m =
      ap length m.cells
      ∙ length-paste before 0 (marks_by curve table bound) k (omega (arith, m.in_table, m.in_cells)) (omega (arith, m.in_table, marks_length curve table bound))

  pub mark_next : {k : ℕ} {before after : List ℕ} (v : ℕ) → Marking curve table bound k before after → k < length table
      → v ≡ cond (leb (get_or curve k 0 + get_or table k 0) bound) 1 0 → Marking curve table bound (k + 1) before (set after k v)
  mark_next {k} {before} {after} v m h e =
      let s = marks_by curve table bound in
      let z0 : ℕ = cond (leb (get_or curve 0 0 + get_or table 0 0) bound) 1 0 in
      let q : v ≡ get_or s k z0 = e ∙ sym (marks_at curve table bound k h) in
      record {
        cells = rw (m.cells, q, add-one k)
            (ap (λ (j : ℕ). set (paste before 0 s k) j (get_or s k z0)) (let z : k ≡ 0 + k = omega arith in z)
            ∙ paste-suc before 0 s k z0 (omega (arith, m.in_cells)) (omega (arith, marks_length curve table bound)));
        in_table = omega arith;
        in_cells = m.in_cells;
      }

  pub mark_end : {k : ℕ} {before after : List ℕ} → Marking curve table bound k before after → k ≡ length table
      → after ≡ written (marks_by curve table bound) before
  mark_end {k} {before} {after} m e =
      let s = marks_by curve table bound in
      let n = marks_length curve table bound in
      m.cells ∙ ap (λ (j : ℕ). take j s ++ drop (0 + j) before) e
      ∙ ap₂ (λ (a : List ℕ) (j : ℕ). a ++ drop j before) (take_all (length table) s (omega arith)) (let z : 0 + length table ≡ length s = omega arith in z)

-- ---- the first bad entry

module _ (low high : List ℕ) where
  abbrev pub bad : ℕ → Bool
  bad k = ltb (get_or high k 0) (get_or low k 0) || ltb 1000000000 (get_or high k 0)

  pub good : (k : ℕ) → get_or low k 0 ≤ get_or high k 0 → get_or high k 0 ≤ 1000000000 → bad k ≡ false
  good k h l = simp (le-ltb (get_or high k 0) (get_or low k 0) h, le-ltb 1000000000 (get_or high k 0) l)

  pub below_low : (k : ℕ) → get_or high k 0 < get_or low k 0 → bad k ≡ true
  below_low k h = simp (lt-ltb (get_or high k 0) (get_or low k 0) h)

  pub above_most : (k : ℕ) → 1000000000 < get_or high k 0 → bad k ≡ true
  above_most k h = either (ltb (get_or high k 0) (get_or low k 0)) (ltb 1000000000 (get_or high k 0)) (lt-ltb 1000000000 (get_or high k 0) h)
    where
      either : (a b : Bool) → b ≡ true → (a || b) ≡ true
      either true b e = refl
      either false b e = e

  pub good_more : (k : ℕ) → ((j : ℕ) → j < k → bad j ≡ false) → bad k ≡ false → (j : ℕ) → j < k + 1 → bad j ≡ false
  good_more k f e j h = elim (ℕ_discrete j k) [ yes q ↦ ap bad q ∙ e | no q ↦ f j (omega arith) ]

  pub bad_some : (k : ℕ) → k < length low → ((j : ℕ) → j < k → bad j ≡ false) → bad k ≡ true → some k ≡ first_bad low high
  unfolding first_bad
  bad_some k h f e = sym (first_some bad 0 (length low) k (omega arith) (omega arith) (λ j a b. f j b) e)

  pub bad_none : ((j : ℕ) → j < length low → bad j ≡ false) → none ≡ first_bad low high
  unfolding first_bad
  bad_none f = sym (first_none bad 0 (length low) (λ j a b. f j (omega arith)))

-- ---- from stop to stop

module _ {S : List ℕ} {F : List ℤ} {count : ℕ} (d : Drawing S F count) (k last level rise : ℕ) (from : 1 ≤ k) (to : k < count)
    (e-last : last ≡ get_or S (k - 1) 0) (e-level : level ≡ height (get_or F (k - 1) (pos 0))) (e-rise : rise ≡ height (get_or F k (pos 0))) where
  pub line_at : Line d.curve last (get_or S k 0) level rise
  line_at =
      let e : suc (k - 1) ≡ k = omega arith in
      let l : Line d.curve (get_or S (k - 1) 0) (get_or S k 0) (height (get_or F (k - 1) (pos 0))) (height (get_or F k (pos 0))) =
      subst (λ (j : ℕ). Line d.curve (get_or S (k - 1) 0) (get_or S j 0) (height (get_or F (k - 1) (pos 0))) (height (get_or F j (pos 0)))) e
      (d.lines (k - 1) (omega arith)) in
      let m : Line d.curve last (get_or S k 0) level (height (get_or F k (pos 0))) =
      subst₂ (λ (p a : ℕ). Line d.curve p (get_or S k 0) a (height (get_or F k (pos 0)))) (sym e-last) (sym e-level) l in
      subst (λ (b : ℕ). Line d.curve last (get_or S k 0) level b) (sym e-rise) m

  pub stretch_at : (cells : ℕ) → 4001 ≤ cells → Stretch (get_or S 0 0) last (get_or S k 0) level rise cells
  stretch_at cells room = record {
    from = omega (arith, d.lowest (k - 1) (omega arith));
    rises = line_at.rises;
    limit = d.small k to;
    first = omega (arith, (d.moderate (k - 1) (omega arith)).small);
    last = omega (arith, (d.moderate k to).small);
    room = omega (arith, d.small k to);
  }
