-- What the tests' parts say of the tests. Assumes nothing.
use mathlib.Core.Path.{◌≡◌, refl, sym, ap, ◌∙◌}
use mathlib.Core.Bool.{Bool, true, false, ◌||◌}
use mathlib.Core.Option.{Option, none, some}
use mathlib.Core.List.{List, ◌++◌}
use Prim.Native.Nat.{ℕ, zero, suc, ◌+◌, ◌-◌, ◌*◌, ◌≤◌, ◌<◌}
use native.Mathlib.Nat.{suc-mul, mul-le-mul}
use native.Mathlib.Omega.{arith}
use lib.Dec.{ltb}
use lib.IntN.{ℤ}
use lib.ListN.{length, get_or, take, drop, get_or-append, length-take, length-drop}
use lib.Seq.{get_or-append-add, get_or-take, get_or-drop}
use borrow.Author.Tests.{lt-ltb, le-ltb, eq-eqb, ne_eqb, ltb-false}
use Rattle.problem.specs.Case.{Case, steps}
use Rattle.problem.specs.Outcome.{Outcome, refused, first_from, first_over, refuse_if, refuse_at, test11}
use Rattle.problem.specs.inner.LentTests.{first_above, first_outside, amounts_refusal, runs_refusal, ceilings_refusal, entries_refusal, splits_refusal, AtMost}
use Rattle.transport.specs.Sum.{sum}
use Rattle.transport.proofs.Sums.{sum_zero, sum_suc}
use Rattle.problem.proofs.TestsPassed.{Formed, first_decides, second_decides}
use Rattle.problem.proofs.Splits.{greatest_most}
use Rattle.problem.proofs.FirstFailing.{moved, first_moved, first_then, first_within, none_passes, some_first}

-- ---- a condition, a place

pub or_true : (a : Bool) → (a || true) ≡ true
or_true true = refl
or_true false = refl

pub met : (k : ℕ) (t : Bool) → t ≡ true → refuse_if k t ≡ some (refused k 0)
unfolding refuse_if
met k t e = rw e refl

pub unmet : (k : ℕ) (t : Bool) → t ≡ false → refuse_if k t ≡ none
unfolding refuse_if
unmet k t e = rw e refl

pub at_place : (k p : ℕ) (t : Option ℕ) → t ≡ some p → refuse_at k t ≡ some (refused k p)
unfolding refuse_at
at_place k p t e = rw e refl

pub no_place : (k : ℕ) (t : Option ℕ) → t ≡ none → refuse_at k t ≡ none
unfolding refuse_at
no_place k t e = rw e refl

pub moved_some : (i j a p : ℕ) (t : Option ℕ) → t ≡ some a → a - j + i ≡ p → moved i j t ≡ some p
unfolding moved
moved_some i j a p t e h = rw e (ap some h)

pub moved_none : (i j : ℕ) (t : Option ℕ) → t ≡ none → moved i j t ≡ none
unfolding moved
moved_none i j t e = rw e refl

-- ---- test 4

module _ (s d : List ℕ) where
  big : ℕ → Bool
  big p = ltb 4000 (get_or (s ++ d) (p - 1) 0)

  of_supplies : first_from big 1 (length s) ≡ moved 1 0 (first_above 4000 s)
  unfolding first_above big
  of_supplies =
      first_moved big _ 1 0 (length s)
      (λ t h. ap (λ (v : ℕ). ltb 4000 v)
      (ap (λ (k : ℕ). get_or (s ++ d) k 0) (let z : 1 + t - 1 ≡ t = omega arith in z) ∙ get_or-append s d 0 t h ∙ ap (λ (k : ℕ). get_or s k 0) (let z : t ≡ 0 + t = omega arith in z)))

  of_demands : first_from big (1 + length s) (length d) ≡ moved (1 + length s) 0 (first_above 4000 d)
  unfolding first_above big
  of_demands =
      first_moved big _ (1 + length s) 0 (length d)
      (λ t h. ap (λ (v : ℕ). ltb 4000 v)
      (ap (λ (k : ℕ). get_or (s ++ d) k 0) (let z : 1 + length s + t - 1 ≡ length s + t = omega arith in z) ∙ get_or-append-add s d t 0 ∙
      ap (λ (k : ℕ). get_or d k 0) (let z : t ≡ 0 + t = omega arith in z)))

  pub amounts_supply : (k : ℕ) → first_above 4000 s ≡ some k → amounts_refusal s d ≡ some (refused 4 (k + 1))
  unfolding amounts_refusal big
  amounts_supply k e =
      at_place 4 (k + 1) _ (first_within big 1 (length s) (length d) (k + 1) (of_supplies ∙ moved_some 1 0 k (k + 1) _ e (omega arith)))

  pub amounts_demand : (k : ℕ) → first_above 4000 s ≡ none → first_above 4000 d ≡ some k
      → amounts_refusal s d ≡ some (refused 4 (length s + k + 1))
  unfolding amounts_refusal big
  amounts_demand k n e =
      at_place 4 (length s + k + 1) _
      (first_then big 1 (length s) (length d) (of_supplies ∙ moved_none 1 0 _ n) ∙ of_demands
      ∙ moved_some (1 + length s) 0 k (length s + k + 1) _ e (omega arith))

  pub amounts_pass : first_above 4000 s ≡ none → first_above 4000 d ≡ none → amounts_refusal s d ≡ none
  unfolding amounts_refusal big
  amounts_pass n e =
      no_place 4 _
      (first_then big 1 (length s) (length d) (of_supplies ∙ moved_none 1 0 _ n) ∙ of_demands ∙ moved_none (1 + length s) 0 _ e)

-- ---- test 23

module _ (r1 r2 : ℕ) (s : List ℕ) where
  pub runs_first : get_or s 0 0 < r1 → runs_refusal r1 r2 s ≡ some (refused 23 1)
  unfolding runs_refusal first_over refuse_at
  runs_first h = rw (lt-ltb (get_or s 0 0) r1 h) refl

  pub runs_second : r1 ≤ get_or s 0 0 → get_or s 1 0 < r2 → runs_refusal r1 r2 s ≡ some (refused 23 2)
  unfolding runs_refusal first_over refuse_at
  runs_second h l = rw (le-ltb (get_or s 0 0) r1 h, lt-ltb (get_or s 1 0) r2 l) refl

  pub runs_pass : r1 ≤ get_or s 0 0 → r2 ≤ get_or s 1 0 → runs_refusal r1 r2 s ≡ none
  unfolding runs_refusal first_over refuse_at
  runs_pass h l = rw (le-ltb (get_or s 0 0) r1 h, le-ltb (get_or s 1 0) r2 l) refl

-- ---- test 26

module _ (lanes : ℕ) (l : List ℕ) where
  pub ceilings_length : (length l ≡ lanes → ⊥) → ceilings_refusal lanes l ≡ some (refused 26 0)
  unfolding ceilings_refusal
  ceilings_length h = first_decides _ _ _ (met 26 _ (simp (ne_eqb (length l) lanes h)))

  module _ (e : length l ≡ lanes) where
    by_index : first_from (λ p. ltb 4000 (get_or l (p - 1) 0)) 1 lanes ≡ moved 1 0 (first_above 4000 l)
    unfolding first_above
    by_index =
        first_moved (λ p. ltb 4000 (get_or l (p - 1) 0)) (λ k. ltb 4000 (get_or l k 0)) 1 0 lanes
        (λ t h. ap (λ (k : ℕ). ltb 4000 (get_or l k 0)) (let z : 1 + t - 1 ≡ 0 + t = omega arith in z))
        ∙ ap (λ (n : ℕ). moved 1 0 (first_from (λ k. ltb 4000 (get_or l k 0)) 0 n)) (sym e)

    pub ceilings_high : (k : ℕ) → first_above 4000 l ≡ some k → ceilings_refusal lanes l ≡ some (refused 26 (k + 1))
    unfolding ceilings_refusal
    ceilings_high k h =
        second_decides _ _ (unmet 26 _ (simp (eq-eqb (length l) lanes e)))
        ∙ at_place 26 (k + 1) _ (by_index ∙ moved_some 1 0 k (k + 1) _ h (omega arith))

    pub ceilings_pass : first_above 4000 l ≡ none → ceilings_refusal lanes l ≡ none
    unfolding ceilings_refusal
    ceilings_pass h = second_decides _ _ (unmet 26 _ (simp (eq-eqb (length l) lanes e))) ∙ no_place 26 _ (by_index ∙ moved_none 1 0 _ h)

-- ---- test 9

module _ (t : List ℕ) (lo hi : ℕ) (order : lo ≤ hi) (long : hi < length t) where
  part : List ℕ
  part = take (hi + 1 - lo) (drop lo t)

  pub part_length : length (take (hi + 1 - lo) (drop lo t)) ≡ hi - lo + 1
  part_length = simp (length-take, length-drop) (omega arith)

  pub part_at : (k : ℕ) → k < hi - lo + 1 → get_or (take (hi + 1 - lo) (drop lo t)) k 0 ≡ get_or t (lo + k) 0
  part_at k h = get_or-take (hi + 1 - lo) (drop lo t) k 0 (omega arith) ∙ get_or-drop lo t k 0

  cell : (k y : ℕ) → k < hi - lo + 1 → lo + k ≡ y → get_or t y 0 ≡ get_or (take (hi + 1 - lo) (drop lo t)) k 0
  cell k y h e = ap (λ (v : ℕ). get_or t v 0) (sym e) ∙ sym (part_at k h)

  high : first_from (λ y. ltb 1000000000 (get_or t y 0)) lo (hi - lo + 1) ≡ moved lo 0 (first_above 1000000000 (take (hi + 1 - lo) (drop lo t)))
  unfolding first_above
  high =
      first_moved (λ y. ltb 1000000000 (get_or t y 0)) (λ k. ltb 1000000000 (get_or (take (hi + 1 - lo) (drop lo t)) k 0)) lo 0 (hi - lo + 1)
      (λ k h. ap (λ (v : ℕ). ltb 1000000000 v) (cell (0 + k) (lo + k) (omega arith) (omega arith)))
      ∙ ap (λ (n : ℕ). moved lo 0 (first_from (λ k. ltb 1000000000 (get_or (take (hi + 1 - lo) (drop lo t)) k 0)) 0 n)) (sym part_length)

  pub entries_high : (k : ℕ) → first_above 1000000000 (take (hi + 1 - lo) (drop lo t)) ≡ some k → entries_refusal t lo hi ≡ some (refused 9 (lo + k))
  unfolding entries_refusal
  entries_high k e = at_place 9 (lo + k) _ (high ∙ moved_some lo 0 k (lo + k) _ e (omega arith))

  pub entries_pass : first_above 1000000000 (take (hi + 1 - lo) (drop lo t)) ≡ none → entries_refusal t lo hi ≡ none
  unfolding entries_refusal
  entries_pass n = no_place 9 _ (high ∙ moved_none lo 0 _ n)

-- ---- tests 9 and 11

module _ (t : List ℕ) (lo hi lanes plan splits freights : ℕ) where
  pub splits_entry : (r : Outcome) → entries_refusal t lo hi ≡ some r → splits_refusal t lo hi lanes plan splits freights ≡ some r
  unfolding splits_refusal
  splits_entry r e = first_decides _ _ r e

  module _ (e : entries_refusal t lo hi ≡ none) where
    no_room : (ltb plan lanes || (ltb splits (hi - lo + 1) || ltb freights (hi - lo + 1))) ≡ true
        → splits_refusal t lo hi lanes plan splits freights ≡ some (refused 11 0)
    unfolding splits_refusal
    no_room h = second_decides _ _ e ∙ met 11 _ h

    pub splits_plan : plan < lanes → splits_refusal t lo hi lanes plan splits freights ≡ some (refused 11 0)
    splits_plan h = no_room (simp (lt-ltb plan lanes h))

    pub splits_split : splits < hi - lo + 1 → splits_refusal t lo hi lanes plan splits freights ≡ some (refused 11 0)
    splits_split h = no_room (simp (lt-ltb splits (hi - lo + 1) h, or_true))

    pub splits_freight : freights < hi - lo + 1 → splits_refusal t lo hi lanes plan splits freights ≡ some (refused 11 0)
    splits_freight h = no_room (simp (lt-ltb freights (hi - lo + 1) h, or_true))

    pub splits_pass : lanes ≤ plan → hi - lo + 1 ≤ splits → hi - lo + 1 ≤ freights → splits_refusal t lo hi lanes plan splits freights ≡ none
    unfolding splits_refusal
    splits_pass p q r =
        second_decides _ _ e ∙ unmet 11 _ (simp (le-ltb plan lanes p, le-ltb splits (hi - lo + 1) q, le-ltb freights (hi - lo + 1) r))

-- ---- test 11

-- 2,048 cells for lanes and 4,001 for stops are enough for every case that passes the tests before the balance
pub never_11 : (c : Case) → Formed c → 2048 ≤ c.plan_cells → 4001 ≤ c.split_cells → 4001 ≤ c.freight_cells → test11 c ≡ none
unfolding test11 steps
never_11 c f room stops freights =
    let last = greatest_most c in
    let lanes : c.m * c.n ≤ 32 * 64 = mul-le-mul f.few_sources f.few_terminals in
    let first = f.small_supply 0 (omega (arith, f.two_sources)) in
    let few : steps c + 1 ≤ 4001 = omega arith in
    unmet 11 _
    (simp (
      le-ltb c.plan_cells (c.m * c.n) (omega arith),
      le-ltb c.split_cells (steps c + 1) (omega arith),
      le-ltb c.freight_cells (steps c + 1) (omega arith),
    ))

-- ---- what an answer of the search for a number above a limit says

pub above_all : (limit : ℕ) (l : List ℕ) → first_above limit l ≡ none → AtMost limit l
unfolding first_above
above_all limit l e k h = ltb-false limit (get_or l k 0) (none_passes _ 0 (length l) e k (omega arith) (omega arith))

pub above_within : (limit : ℕ) (l : List ℕ) (k : ℕ) → first_above limit l ≡ some k → k < length l
unfolding first_above
above_within limit l k e = let f = some_first _ 0 (length l) k e in omega (arith, f.high)

pub outside_within : (l : List ℤ) (k : ℕ) → first_outside l ≡ some k → k < length l
unfolding first_outside
outside_within l k e = let f = some_first _ 0 (length l) k e in omega (arith, f.high)

module _ (t : List ℕ) (lo hi : ℕ) (order : lo ≤ hi) (long : hi < length t) where
  pub high_within : (k : ℕ) → first_above 1000000000 (take (hi + 1 - lo) (drop lo t)) ≡ some k → lo + k ≤ hi
  high_within k e = omega (arith, above_within 1000000000 (take (hi + 1 - lo) (drop lo t)) k e, part_length t lo hi order long)

-- ---- sums

-- k numbers up to a limit
pub sum_under : (k limit : ℕ) (g : ℕ → ℕ) → ((i : ℕ) → i < k → g i ≤ limit) → sum k g ≤ k * limit
sum_under zero limit g h = omega (arith, sum_zero g)
sum_under (suc k) limit g h = omega (arith, sum_suc k g, sum_under k limit g (λ i l. h i (omega arith)), h k (omega arith), suc-mul k limit)

-- numbers up to 4,000, summed
pub sum_most : (l : List ℕ) → AtMost 4000 l → sum (length l) (λ j. get_or l j 0) ≤ 4000 * length l
sum_most l h = omega (arith, sum_under (length l) 4000 (λ j. get_or l j 0) h)

-- what the pass of test 4 says
pub amounts_none : (s d : List ℕ) → amounts_refusal s d ≡ none → AtMost 4000 s × AtMost 4000 d
amounts_none s d e = go (first_above 4000 s) refl (first_above 4000 d) refl
  where
    go : (a : Option ℕ) → first_above 4000 s ≡ a → (b : Option ℕ) → first_above 4000 d ≡ b → AtMost 4000 s × AtMost 4000 d
    go (some k) x b y = let f = amounts_supply s d k x in let z : ◌≡◌ {A = ℕ} 0 1 = cc in absurd (omega arith)
    go none x (some k) y = let f = amounts_demand s d k x y in let z : ◌≡◌ {A = ℕ} 0 1 = cc in absurd (omega arith)
    go none x none y = (above_all 4000 s x, above_all 4000 d y)
