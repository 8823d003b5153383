-- The listing of all plans rises: each plan has the smaller amount where it first differs from a later one. Assumes nothing.
use mathlib.Core.Path.{◌≡◌, refl, sym, ◌∙◌, subst, subst₂}
use mathlib.Core.Logic.{◌⊎◌, inl, inr}
use mathlib.Core.Bool.{Bool, true, false, cond}
use mathlib.Core.List.Memᴰ
use mathlib.Core.List.{List, [], ◌∷◌, ◌++◌, map, flat_map, Memᴰ}
use Prim.Native.Nat.{ℕ, zero, suc, ◌-◌, ◌<◌}
use native.Mathlib.Decide.{dec_lt}
use native.Mathlib.Nat.{le_of_suc-le-suc}
use native.Mathlib.Omega.{arith}
use lib.ListN.{length, get_or, get_or-append, get_or-eq_default}
use Rattle.transport.specs.Listing.{up_from, select, compositions, row_lists, served, listing}
use Rattle.transport.specs.Canonical.{Before}
use Rattle.transport.proofs.ListMembers.{flat_out, select_out, up_from_out}
use Rattle.transport.proofs.Listing.{compositions_out}

-- ---- lists in an order R

module _ {A : Type 0} (R : A → A → Type 0) where
  -- R holds of each member and each later one
  unfoldable pub Ordered : List A → Type 0
  Ordered [] = Unit {0}
  Ordered (x ∷ l) = ((z : A) → Memᴰ z l → R x z) × Ordered l

  ordered_append : (k l : List A) → Ordered k → Ordered l → ((x z : A) → Memᴰ x k → Memᴰ z l → R x z) → Ordered (k ++ l)
  unfolding Ordered
  ordered_append [] l o p h = p
  ordered_append (a ∷ k) l o p h = (
    λ z m. step z (Memᴰ.append_cases k m),
    ordered_append k l o.1 p (λ x z i j. h x z (Memᴰ.tail i) j),
  )
    where
      step : (z : A) → Memᴰ z k ⊎ Memᴰ z l → R a z
      step z (inl i) = o.0 z i
      step z (inr j) = h a z (Memᴰ.head refl) j

  pub ordered_select : (p : A → Bool) (l : List A) → Ordered l → Ordered (select p l)
  unfolding Ordered select
  ordered_select p [] o = o
  ordered_select p (a ∷ l) o = step (p a) (ordered_select p l o.1)
    where
      step : (t : Bool) → Ordered (select p l) → Ordered (cond t (a ∷ select p l) (select p l))
      step true q = (λ z m. o.0 z (select_out p l m).0, q)
      step false q = q

module _ {A B : Type 0} (R : A → A → Type 0) (S : B → B → Type 0) where
  ordered_map : (f : A → B) (l : List A) → ((x z : A) → R x z → S (f x) (f z)) → Ordered R l → Ordered S (map f l)
  unfolding Ordered
  ordered_map f [] h o = tt
  ordered_map f (a ∷ l) h o = (
    λ z m. let t = Memᴰ.of_map f l m in subst (λ (v : B). S (f a) v) t.2 (h a t.0 (o.0 t.0 t.1)),
    ordered_map f l h o.1,
  )

  ordered_flat : (g : A → List B) (l : List A) → Ordered R l → ((a : A) → Memᴰ a l → Ordered S (g a))
      → ((a a' : A) (b b' : B) → Memᴰ a l → Memᴰ a' l → R a a' → Memᴰ b (g a) → Memᴰ b' (g a') → S b b') → Ordered S (flat_map g l)
  unfolding Ordered flat_map
  ordered_flat g [] o h k = tt
  ordered_flat g (a ∷ l) o h k =
      ordered_append S (g a) (flat_map g l) (h a (Memᴰ.head refl))
      (ordered_flat g l o.1 (λ x m. h x (Memᴰ.tail m)) (λ x x' b b' i j. k x x' b b' (Memᴰ.tail i) (Memᴰ.tail j)))
      (λ b b' i j. let t = flat_out g l j in k a t.0 b b' (Memᴰ.head refl) (Memᴰ.tail t.1) (o.0 t.0 t.1) i t.2)

-- ---- numbers

abbrev Less : ℕ → ℕ → Type 0
Less a b = a < b

up_from_ordered : (i k : ℕ) → Ordered Less (up_from i k)
unfolding Ordered up_from
up_from_ordered i zero = tt
up_from_ordered i (suc k) = (λ z m. omega (arith, up_from_out (suc i) k z m), up_from_ordered (suc i) k)

-- ---- amounts

cons_before : (a : ℕ) (x z : List ℕ) → Before x z → Before (a ∷ x) (a ∷ z)
cons_before a x z b = record { place = suc b.place; same = same; less = b.less }
  where
    same : (k : ℕ) → k < suc b.place → get_or (a ∷ x) k 0 ≡ get_or (a ∷ z) k 0
    same zero h = refl
    same (suc k) h = b.same k (le_of_suc-le-suc h)

head_before : (a a' : ℕ) (x z : List ℕ) → a < a' → Before (a ∷ x) (a' ∷ z)
head_before a a' x z h = record { place = 0; same = λ k l. absurd (omega arith); less = h }

append_before : (w x z : List ℕ) → Before x z → Before (w ++ x) (w ++ z)
append_before [] x z b = b
append_before (a ∷ w) x z b = cons_before a (w ++ x) (w ++ z) (append_before w x z b)

-- of two lists of the same length what follows does not matter
front_before : (w w' x z : List ℕ) → length w ≡ length w' → Before w w' → Before (w ++ x) (w' ++ z)
front_before w w' x z e b = record {
  place = b.place;
  same = λ k h. get_or-append w x 0 k (omega (arith, lies)) ∙ b.same k h ∙ sym (get_or-append w' z 0 k (omega (arith, lies)));
  less = omega (arith, get_or-append w x 0 b.place (omega (arith, lies)), get_or-append w' z 0 b.place lies, b.less);
}
  where
    lies : b.place < length w'
    lies = elim (dec_lt b.place (length w')) [
      | yes h ↦ h
      | no h ↦ absurd (omega (arith, get_or-eq_default w' 0 {n = b.place} (omega arith), b.less))
    ]

compositions_rising : (k s : ℕ) → Ordered Before (compositions k s)
unfolding Ordered compositions
compositions_rising zero zero = (λ z m. absurd (Memᴰ.not-nil m), tt)
compositions_rising zero (suc s) = tt
compositions_rising (suc k) s =
    ordered_flat Less Before (λ a. map (λ w. a ∷ w) (compositions k (s - a))) (up_from 0 (suc s)) (up_from_ordered 0 (suc s))
    (λ a m. ordered_map Before Before (λ w. a ∷ w) (compositions k (s - a)) (λ x z b. cons_before a x z b) (compositions_rising k (s - a)))
    (λ a a' b b' i j h p q. step a a' b b' h (Memᴰ.of_map (λ w. a ∷ w) (compositions k (s - a)) p) (Memᴰ.of_map (λ w. a' ∷ w) (compositions k (s - a')) q))
  where
    step : (a a' : ℕ) (b b' : List ℕ) → a < a' → (x : List ℕ) × Memᴰ x (compositions k (s - a)) × (a ∷ x ≡ b)
        → (z : List ℕ) × Memᴰ z (compositions k (s - a')) × (a' ∷ z ≡ b') → Before b b'
    step a a' b b' h (x, p, e) (z, q, e') = subst₂ (λ (u v : List ℕ). Before u v) e e' (head_before a a' x z h)

row_lists_rising : (n m : ℕ) (r : ℕ → ℕ) → Ordered Before (row_lists n m r)
unfolding Ordered row_lists
row_lists_rising n zero r = (λ z m. absurd (Memᴰ.not-nil m), tt)
row_lists_rising n (suc m) r =
    ordered_flat Before Before (λ w. map (λ x. w ++ x) (row_lists n m (λ i. r (suc i)))) (compositions n (r 0)) (compositions_rising n (r 0))
    (λ w i. ordered_map Before Before (λ x. w ++ x) (row_lists n m (λ i. r (suc i))) (λ x z b. append_before w x z b) (row_lists_rising n m (λ i. r (suc i))))
    (λ w w' x z i j h p q.
    step w w' x z ((compositions_out n (r 0) w i).0 ∙ sym (compositions_out n (r 0) w' j).0) h
    (Memᴰ.of_map (λ v. w ++ v) (row_lists n m (λ i. r (suc i))) p) (Memᴰ.of_map (λ v. w' ++ v) (row_lists n m (λ i. r (suc i))) q))
  where
    step : (w w' x z : List ℕ) → length w ≡ length w' → Before w w' → (v : List ℕ) × Memᴰ v (row_lists n m (λ i. r (suc i))) × (w ++ v ≡ x)
        → (v : List ℕ) × Memᴰ v (row_lists n m (λ i. r (suc i))) × (w' ++ v ≡ z) → Before x z
    step w w' x z l h (v, p, e) (v', q, e') = subst₂ (λ (a b : List ℕ). Before a b) e e' (front_before w w' v v' l h)

pub listing_rising : (m n : ℕ) (r b : ℕ → ℕ) → Ordered Before (listing m n r b)
unfolding listing
listing_rising m n r b = ordered_select Before (λ x. served m n b x n) (row_lists n m r) (row_lists_rising n m r)
