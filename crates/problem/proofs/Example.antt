-- An example: a case with what the definitions must give it. One test that computes, and what it shows. Assumes nothing.
use mathlib.Core.Path.{◌≡◌, refl, sym, ap, subst}
use mathlib.Core.Logic.{◌⊎◌, inl, inr}
use mathlib.Core.Bool.{Bool, true, false, ◌&&◌}
use mathlib.Core.Option.{none, some}
use mathlib.Core.List.Memᴰ
use mathlib.Core.List.{List, [], ◌∷◌, Memᴰ}
use Prim.Native.Nat.{ℕ}
use native.Mathlib.Omega.{arith}
use lib.Dec.{eqb}
use lib.IntN.{ℤ, pos, negsuc}
use Rattle.problem.specs.Integer.{eq_z}
use borrow.Author.Tests.{eqb-true}
use Rattle.problem.specs.Case.{Case}
use Rattle.problem.specs.Plans.{plan_for, best_split, stops, stop_freights}
use Rattle.problem.specs.Outcome.{Outcome, planned, refused, refusal_of, outcome_of}

-- a case, its outcome, the amounts of the plan given, the stops and f at each (none where it is refused)
pub record Example : Type 0 where
  pub given : Case
  pub outcome : Outcome
  pub amounts : List ℕ
  pub splits : List ℕ
  pub freights : List ℤ

-- a list of the case where it is accepted, nothing where it is refused
unfoldable pub where_accepted : {A : Type 0} → (Case → List A) → Case → List A
where_accepted g c = elim (refusal_of c) [ some r ↦ [] | none ↦ g c ]

-- the plan given: the one for everybody at the best split
unfoldable pub plan_given : Case → List ℕ
plan_given c = plan_for c (best_split c)

-- the definitions give the example what it says
pub record Right (e : Example) : Type 0 where
  pub outcome_is : outcome_of e.given ≡ e.outcome
  pub amounts_are : where_accepted plan_given e.given ≡ e.amounts
  pub splits_are : where_accepted stops e.given ≡ e.splits
  pub freights_are : where_accepted stop_freights e.given ≡ e.freights

-- ---- the test

unfoldable pub same_list : List ℕ → List ℕ → Bool
same_list [] [] = true
same_list [] (b ∷ k) = false
same_list (a ∷ l) [] = false
same_list (a ∷ l) (b ∷ k) = eqb a b && same_list l k

unfoldable pub same_integers : List ℤ → List ℤ → Bool
same_integers [] [] = true
same_integers [] (b ∷ k) = false
same_integers (a ∷ l) [] = false
same_integers (a ∷ l) (b ∷ k) = eq_z a b && same_integers l k

unfoldable pub same_outcome : Outcome → Outcome → Bool
same_outcome (planned s t f k) (planned s' t' f' k') = eqb s s' && (eq_z t t' && (eq_z f f' && eqb k k'))
same_outcome (planned s t f k) (refused n p) = false
same_outcome (refused n p) (planned s t f k) = false
same_outcome (refused n p) (refused n' p') = eqb n n' && eqb p p'

unfoldable pub right : Example → Bool
right e =
    same_outcome (outcome_of e.given) e.outcome
    && (same_list (where_accepted plan_given e.given) e.amounts
    && (same_list (where_accepted stops e.given) e.splits && same_integers (where_accepted stop_freights e.given) e.freights))

-- each example of the table passes
unfoldable pub all_right : List Example → Bool
all_right [] = true
all_right (e ∷ l) = right e && all_right l

-- ---- what the test shows

both_left : (a b : Bool) → (a && b) ≡ true → a ≡ true
both_left true b e = refl
both_left false b e = e

both_right : (a b : Bool) → (a && b) ≡ true → b ≡ true
both_right true b e = e
both_right false b e = let z : ◌≡◌ {A = ℕ} 0 1 = cc in absurd (omega arith)

same_list_is : (l k : List ℕ) → same_list l k ≡ true → l ≡ k
unfolding same_list
same_list_is [] [] e = refl
same_list_is [] (b ∷ k) e = let z : ◌≡◌ {A = ℕ} 0 1 = cc in absurd (omega arith)
same_list_is (a ∷ l) [] e = let z : ◌≡◌ {A = ℕ} 0 1 = cc in absurd (omega arith)
same_list_is (a ∷ l) (b ∷ k) e =
    let h = eqb-true a b (both_left (eqb a b) (same_list l k) e) in
    let t = same_list_is l k (both_right (eqb a b) (same_list l k) e) in
    cc

eq_z_true : (a b : ℤ) → eq_z a b ≡ true → a ≡ b
unfolding eq_z
eq_z_true (pos a) (pos b) e = ap pos (eqb-true a b e)
eq_z_true (pos a) (negsuc b) e = let z : ◌≡◌ {A = ℕ} 0 1 = cc in absurd (omega arith)
eq_z_true (negsuc a) (pos b) e = let z : ◌≡◌ {A = ℕ} 0 1 = cc in absurd (omega arith)
eq_z_true (negsuc a) (negsuc b) e = ap negsuc (eqb-true a b e)

same_integers_is : (l k : List ℤ) → same_integers l k ≡ true → l ≡ k
unfolding same_integers
same_integers_is [] [] e = refl
same_integers_is [] (b ∷ k) e = let z : ◌≡◌ {A = ℕ} 0 1 = cc in absurd (omega arith)
same_integers_is (a ∷ l) [] e = let z : ◌≡◌ {A = ℕ} 0 1 = cc in absurd (omega arith)
same_integers_is (a ∷ l) (b ∷ k) e =
    let h = eq_z_true a b (both_left (eq_z a b) (same_integers l k) e) in
    let t = same_integers_is l k (both_right (eq_z a b) (same_integers l k) e) in
    cc

same_outcome_is : (o o' : Outcome) → same_outcome o o' ≡ true → o ≡ o'
unfolding same_outcome
same_outcome_is (planned s t f k) (planned s' t' f' k') e =
    let e1 = both_right (eqb s s') _ e in
    let e2 = both_right (eq_z t t') _ e1 in
    let h1 = eqb-true s s' (both_left (eqb s s') _ e) in
    let h2 = eq_z_true t t' (both_left (eq_z t t') _ e1) in
    let h3 = eq_z_true f f' (both_left (eq_z f f') _ e2) in
    let h4 = eqb-true k k' (both_right (eq_z f f') _ e2) in
    cc
same_outcome_is (planned s t f k) (refused n p) e = let z : ◌≡◌ {A = ℕ} 0 1 = cc in absurd (omega arith)
same_outcome_is (refused n p) (planned s t f k) e = let z : ◌≡◌ {A = ℕ} 0 1 = cc in absurd (omega arith)
same_outcome_is (refused n p) (refused n' p') e =
    let h1 = eqb-true n n' (both_left (eqb n n') _ e) in
    let h2 = eqb-true p p' (both_right (eqb n n') _ e) in
    cc

right_is : (e : Example) → right e ≡ true → Right e
unfolding right
right_is e t =
    let t' = both_right (same_outcome (outcome_of e.given) e.outcome) _ t in
    let t'' = both_right (same_list (where_accepted plan_given e.given) e.amounts) _ t' in
    record {
      outcome_is = same_outcome_is (outcome_of e.given) e.outcome (both_left (same_outcome (outcome_of e.given) e.outcome) _ t);
      amounts_are = same_list_is (where_accepted plan_given e.given) e.amounts (both_left (same_list (where_accepted plan_given e.given) e.amounts) _ t');
      splits_are = same_list_is (where_accepted stops e.given) e.splits (both_left (same_list (where_accepted stops e.given) e.splits) _ t'');
      freights_are = same_integers_is (where_accepted stop_freights e.given) e.freights (both_right (same_list (where_accepted stops e.given) e.splits) _ t'');
    }

-- the test of a whole table, at each example of it
pub each_right : (l : List Example) → all_right l ≡ true → (e : Example) → Memᴰ e l → Right e
unfolding all_right
each_right [] t e m = absurd (Memᴰ.not-nil m)
each_right (a ∷ l) t e m = step (each_right l (both_right (right a) (all_right l) t) e) (Memᴰ.cases_cons m)
  where
    step : (Memᴰ e l → Right e) → (e ≡ a) ⊎ Memᴰ e l → Right e
    step below (inl q) = subst (λ (e : Example). Right e) (sym q) (right_is a (both_left (right a) (all_right l) t))
    step below (inr k) = below k
