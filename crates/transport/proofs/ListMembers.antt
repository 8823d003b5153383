-- The laws of the lists that a listing and a list of stops are made of: members, parts, places. Assumes nothing.
use mathlib.Core.Path.{◌≡◌, refl, sym, ap, ◌∙◌, subst}
use mathlib.Core.Logic.{◌⊎◌, inl, inr}
use mathlib.Core.Bool.{Bool, true, false, cond, true≢false}
use mathlib.Core.List.Memᴰ
use mathlib.Core.List.{List, [], ◌∷◌, ◌++◌, flat_map, Memᴰ}
use Prim.Native.Nat.{ℕ, zero, suc, ◌+◌, ◌≤◌, ◌<◌, min}
use native.Mathlib.Nat.{add-suc, suc-add, le_of_lt, le_of_suc-le-suc, eq-or-lt_of_le, min-eq_left, min-eq_right}
use native.Mathlib.Omega.{arith}
use lib.ListN.{length, get_or}
use lib.Dec.{leb}
use borrow.Author.Tests.{leb-true, leb-false}
use Rattle.transport.specs.Listing.{up_from, select, least}

-- ---- flat_map

module _ {ℓ} {A B : Type ℓ} where
  pub flat_in : (g : A → List B) {a : A} {b : B} (l : List A) → Memᴰ a l → Memᴰ b (g a) → Memᴰ b (flat_map g l)
  unfolding flat_map
  flat_in g [] m h = absurd (Memᴰ.not-nil m)
  flat_in g {a} {b} (x ∷ xs) m h = step (λ k. flat_in g xs k h) (Memᴰ.cases_cons m)
    where
      step : (Memᴰ a xs → Memᴰ b (flat_map g xs)) → (a ≡ x) ⊎ Memᴰ a xs → Memᴰ b (g x ++ flat_map g xs)
      step below (inl e) = Memᴰ.append_left (flat_map g xs) (subst (λ (z : A). Memᴰ b (g z)) e h)
      step below (inr k) = Memᴰ.append_right (g x) (below k)

  pub flat_out : (g : A → List B) {b : B} (l : List A) → Memᴰ b (flat_map g l) → (a : A) × Memᴰ a l × Memᴰ b (g a)
  unfolding flat_map
  flat_out g [] m = absurd (Memᴰ.not-nil m)
  flat_out g {b} (x ∷ xs) m = step (λ k. flat_out g xs k) (Memᴰ.append_cases (g x) m)
    where
      step : (Memᴰ b (flat_map g xs) → (a : A) × Memᴰ a xs × Memᴰ b (g a)) → Memᴰ b (g x) ⊎ Memᴰ b (flat_map g xs)
          → (a : A) × Memᴰ a (x ∷ xs) × Memᴰ b (g a)
      step below (inl h) = (x, Memᴰ.head refl, h)
      step below (inr k) = let t = below k in (t.0, Memᴰ.tail t.1, t.2)

-- ---- select

module _ {ℓ} {A : Type ℓ} (p : A → Bool) where
  pub select_in : {a : A} (l : List A) → Memᴰ a l → p a ≡ true → Memᴰ a (select p l)
  unfolding select
  select_in [] m h = m
  select_in {a} (x ∷ xs) m h = step (λ k. select_in xs k h) (p x) refl (Memᴰ.cases_cons m)
    where
      step : (Memᴰ a xs → Memᴰ a (select p xs)) → (t : Bool) → p x ≡ t → (a ≡ x) ⊎ Memᴰ a xs → Memᴰ a (cond t (x ∷ select p xs) (select p xs))
      step below true q (inl e) = Memᴰ.head e
      step below true q (inr k) = Memᴰ.tail (below k)
      step below false q (inl e) = absurd (true≢false (sym h ∙ ap p e ∙ q))
      step below false q (inr k) = below k

  pub select_out : {a : A} (l : List A) → Memᴰ a (select p l) → Memᴰ a l × (p a ≡ true)
  unfolding select
  select_out [] m = absurd (Memᴰ.not-nil m)
  select_out {a} (x ∷ xs) m = step (λ k. select_out xs k) (p x) refl m
    where
      more : Memᴰ a xs × (p a ≡ true) → Memᴰ a (x ∷ xs) × (p a ≡ true)
      more h = (Memᴰ.tail h.0, h.1)

      first : (Memᴰ a (select p xs) → Memᴰ a xs × (p a ≡ true)) → p x ≡ true → (a ≡ x) ⊎ Memᴰ a (select p xs) → Memᴰ a (x ∷ xs) × (p a ≡ true)
      first below q (inl e) = (Memᴰ.head e, ap p e ∙ q)
      first below q (inr k) = more (below k)

      step : (Memᴰ a (select p xs) → Memᴰ a xs × (p a ≡ true)) → (t : Bool) → p x ≡ t → Memᴰ a (cond t (x ∷ select p xs) (select p xs)) → Memᴰ a (x ∷ xs) × (p a ≡ true)
      step below true q k = first below q (Memᴰ.cases_cons k)
      step below false q k = more (below k)

  -- a member that passes, and one that fails, in front
  pub select_yes : (x : A) (l : List A) → p x ≡ true → select p (x ∷ l) ≡ x ∷ select p l
  unfolding select
  select_yes x l e = ap (λ (t : Bool). cond t (x ∷ select p l) (select p l)) e

  pub select_no : (x : A) (l : List A) → p x ≡ false → select p (x ∷ l) ≡ select p l
  unfolding select
  select_no x l e = ap (λ (t : Bool). cond t (x ∷ select p l) (select p l)) e

  pub select_append : (l l' : List A) → select p (l ++ l') ≡ select p l ++ select p l'
  unfolding select
  select_append [] l' = refl
  select_append (x ∷ l) l' = step (p x) (select_append l l')
    where
      step : (t : Bool) → select p (l ++ l') ≡ select p l ++ select p l'
          → cond t (x ∷ select p (l ++ l')) (select p (l ++ l')) ≡ cond t (x ∷ select p l) (select p l) ++ select p l'
      step true e = ap (λ (k : List A). x ∷ k) e
      step false e = e

  -- no member passes
  pub select_none : (l : List A) → ((a : A) → Memᴰ a l → p a ≡ false) → select p l ≡ []
  unfolding select
  select_none [] h = refl
  select_none (x ∷ l) h = select_no x l (h x (Memᴰ.head refl)) ∙ select_none l (λ a m. h a (Memᴰ.tail m))

  -- at most as many as there are
  pub select_length : (l : List A) → length (select p l) ≤ length l
  unfolding select
  select_length [] = omega arith
  select_length (x ∷ l) = step (p x) (select_length l)
    where
      step : (t : Bool) → length (select p l) ≤ length l → length (cond t (x ∷ select p l) (select p l)) ≤ suc (length l)
      step true h = omega arith
      step false h = omega arith

-- two tests that agree on the members
pub select_ext {ℓ} : {A : Type ℓ} (p q : A → Bool) (l : List A) → ((a : A) → Memᴰ a l → p a ≡ q a) → select p l ≡ select q l
unfolding select
select_ext p q [] h = refl
select_ext {A = A} p q (x ∷ l) h = step (p x) (q x) (h x (Memᴰ.head refl)) (select_ext p q l (λ a m. h a (Memᴰ.tail m)))
  where
    step : (s t : Bool) → s ≡ t → select p l ≡ select q l → cond s (x ∷ select p l) (select p l) ≡ cond t (x ∷ select q l) (select q l)
    step true true e k = ap (λ (z : List A). x ∷ z) k
    step true false e k = absurd (true≢false e)
    step false true e k = absurd (true≢false (sym e))
    step false false e k = k

-- ---- up_from

pub up_from_in : (i k a : ℕ) → i ≤ a → a < i + k → Memᴰ a (up_from i k)
unfolding up_from
up_from_in i zero a h l = absurd (omega arith)
up_from_in i (suc k) a h l = step (up_from_in (suc i) k a) (eq-or-lt_of_le h)
  where
    step : (suc i ≤ a → a < suc i + k → Memᴰ a (up_from (suc i) k)) → (i ≡ a) ⊎ (i < a) → Memᴰ a (i ∷ up_from (suc i) k)
    step below (inl e) = Memᴰ.head (sym e)
    step below (inr g) = Memᴰ.tail (below g (omega arith))

pub up_from_out : (i k a : ℕ) → Memᴰ a (up_from i k) → (i ≤ a) × (a < i + k)
unfolding up_from
up_from_out i zero a m = absurd (Memᴰ.not-nil m)
up_from_out i (suc k) a m = step (up_from_out (suc i) k a) (Memᴰ.cases_cons m)
  where
    step : (Memᴰ a (up_from (suc i) k) → (suc i ≤ a) × (a < suc i + k)) → (a ≡ i) ⊎ Memᴰ a (up_from (suc i) k) → (i ≤ a) × (a < i + suc k)
    step below (inl e) = omega arith
    step below (inr n) = let h = below n in omega arith

up_from_same : (i i' k k' : ℕ) → i ≡ i' → k ≡ k' → up_from i k ≡ up_from i' k'
up_from_same i i' k k' e d = cc

-- the first j numbers, then the k after them
pub up_from_split : (i j k : ℕ) → up_from i (j + k) ≡ up_from i j ++ up_from (i + j) k
unfolding up_from
up_from_split i zero k = up_from_same i (i + 0) (0 + k) k (omega arith) (omega arith)
up_from_split i (suc j) k =
    up_from_same i i (suc j + k) (suc (j + k)) refl (omega arith)
    ∙ ap (λ (l : List ℕ). i ∷ l) (up_from_split (suc i) j k ∙ ap (λ (a : ℕ). up_from (suc i) j ++ up_from a k) (suc-add i j ∙ sym (add-suc i j)))

pub up_from_length : (i k : ℕ) → length (up_from i k) ≡ k
unfolding up_from
up_from_length i zero = refl
up_from_length i (suc k) = ap suc (up_from_length (suc i) k)

pub up_from_get_d : (i k j : ℕ) → j < k → get_or (up_from i k) j 0 ≡ i + j
unfolding up_from
up_from_get_d i zero j h = absurd (omega arith)
up_from_get_d i (suc k) zero h = omega arith
up_from_get_d i (suc k) (suc j) h = up_from_get_d (suc i) k j (le_of_suc-le-suc h) ∙ omega arith

-- ---- the least of some numbers

pub least_le : (l : List ℕ) (a : ℕ) → Memᴰ a l → least l ≤ a
unfolding least
least_le [] a m = absurd (Memᴰ.not-nil m)
least_le (b ∷ []) a m = step (Memᴰ.cases_cons m)
  where
    step : (a ≡ b) ⊎ Memᴰ a [] → b ≤ a
    step (inl e) = omega arith
    step (inr n) = absurd (Memᴰ.not-nil n)
least_le (b ∷ e ∷ l) a m = step (least_le (e ∷ l) a) (Memᴰ.cases_cons m)
  where
    step : (Memᴰ a (e ∷ l) → least (e ∷ l) ≤ a) → (a ≡ b) ⊎ Memᴰ a (e ∷ l) → min b (least (e ∷ l)) ≤ a
    step below (inl q) = omega arith
    step below (inr n) = let h = below n in omega arith

pub least_in_lem : (a : ℕ) (l : List ℕ) → Memᴰ (least (a ∷ l)) (a ∷ l)
unfolding least
least_in_lem a [] = Memᴰ.head refl
least_in_lem a (b ∷ l) = step (least_in_lem b l) (leb a (least (b ∷ l))) refl
  where
    step : Memᴰ (least (b ∷ l)) (b ∷ l) → (t : Bool) → leb a (least (b ∷ l)) ≡ t → Memᴰ (min a (least (b ∷ l))) (a ∷ b ∷ l)
    step below true q = let h = leb-true a (least (b ∷ l)) q in Memᴰ.head (min-eq_left h)
    step below false q = let h = leb-false a (least (b ∷ l)) q in Memᴰ.tail (Memᴰ.cast (min-eq_right (le_of_lt h)) below)
