-- The listing of all flows holds exactly the flows, and its least total is that of a cheapest flow. Assumes nothing.
use mathlib.Core.Path.{◌≡◌, refl, sym, ap, ap₂, ◌∙◌, subst}
use mathlib.Core.Logic.{◌⊎◌, inl, inr}
use mathlib.Core.Bool.{Bool, true, false, not, cond, ◌||◌, true≢false}
use mathlib.Core.List.Memᴰ
use mathlib.Core.List.{List, [], ◌∷◌, map, Memᴰ}
use Prim.Native.Nat.{ℕ, zero, suc, ◌≤◌, ◌<◌}
use native.Mathlib.Nat.{not-suc-le-zero, le_of_suc-le-suc}
use native.Mathlib.Omega.{arith}
use lib.Dec.{T, leb→le}
use lib.IntN.{ℤ, pos, negsuc}
use lib.Signed.{le_z, ◌≤ℤ◌, ◌<ℤ◌, <ℤ_irrefl}
use lib.ListN.{length, get_or}
use borrow.Author.Tests.{not-true, not-false, eqb-true}
use Rattle.transport.specs.Listing.{up_from, select, least}
use Rattle.transport.proofs.ListMembers.{flat_in, flat_out, select_in, select_out, up_from_in, up_from_out, least_le, least_in_lem as least-in-list}
use Rattle.problem.specs.Integer.{eq_z, minℤ, leastℤ}
use Rattle.dimacs.specs.Arc.{Arc, arc}
use Rattle.flow_problem.specs.Network.{Network, listed, Flow, flow_total, NoFlow}
use Rattle.dimacs.specs.Lines.{any_of}
use Rattle.flow_problem.specs.Answer.{CheapestFlow, any_below, amount_lists, lost, flows, least_total, named_flow, carried, refused, flow_outcome}
use Rattle.problem.proofs.TestsPassed.{either_first, either_second}

-- ---- tests over lists and numbers

pub or_regroup : (a b c : Bool) → ((a || b) || c) ≡ (a || (b || c))
or_regroup true b c = refl
or_regroup false b c = refl

pub or_both : (a b : Bool) → a ≡ false → b ≡ false → (a || b) ≡ false
or_both a b e d = ap₂ (λ (x y : Bool). x || y) e d

pub none_below : (k : ℕ) (p : ℕ → Bool) → any_below k p ≡ false → (i : ℕ) → i < k → p i ≡ false
unfolding any_below
none_below zero p e i l = absurd (not-suc-le-zero l)
none_below (suc k) p e i l = step (none_below k p (either_first (any_below k p) (p k) e)) (native.Mathlib.Decide.ℕ_discrete i k)
  where
    step : ((i : ℕ) → i < k → p i ≡ false) → Dec (i ≡ k) → p i ≡ false
    step below (yes q) = ap p q ∙ either_second (any_below k p) (p k) e
    step below (no q) = below i (omega arith)

pub below_none : (k : ℕ) (p : ℕ → Bool) → ((i : ℕ) → i < k → p i ≡ false) → any_below k p ≡ false
unfolding any_below
below_none zero p h = refl
below_none (suc k) p h = or_both (any_below k p) (p k) (below_none k p (λ i l. h i (omega arith))) (h k (omega arith))

pub none_of : {A : Type 0} (p : A → Bool) (l : List A) (d : A) → any_of p l ≡ false → (k : ℕ) → k < length l → p (get_or l k d) ≡ false
unfolding any_of
none_of p [] d e k h = absurd (not-suc-le-zero h)
none_of p (x ∷ l) d e zero h = either_first (p x) (any_of p l) e
none_of p (x ∷ l) d e (suc k) h = none_of p l d (either_second (p x) (any_of p l) e) k (le_of_suc-le-suc h)

-- ---- equality of integers as a test

pub eq_z_true : (a b : ℤ) → eq_z a b ≡ true → a ≡ b
unfolding eq_z
eq_z_true (pos a) (pos b) e = ap pos (eqb-true a b e)
eq_z_true (pos a) (negsuc b) e = absurd (true≢false (sym e))
eq_z_true (negsuc a) (pos b) e = absurd (true≢false (sym e))
eq_z_true (negsuc a) (negsuc b) e = ap negsuc (eqb-true a b e)

pub true_eq_z : (a b : ℤ) → a ≡ b → eq_z a b ≡ true
true_eq_z a b e = ap (eq_z a) (sym e) ∙ same a
  where
    same : (z : ℤ) → eq_z z z ≡ true
    same z = Rattle.flow_problem.proofs.Conservation.eq_z_same z

-- ---- the listing

Fits : List Arc → List ℕ → Type 0
Fits l x = (length x ≡ length l) × ((k : ℕ) → k < length l → get_or x k 0 ≤ (get_or l k (arc 0 0 0 (pos 0))).ceiling)

fits_in : (l : List Arc) (x : List ℕ) → Fits l x → Memᴰ x (amount_lists l)
unfolding amount_lists Fits
fits_in [] [] h = Memᴰ.head refl
fits_in [] (a ∷ x) h = absurd (omega (arith, h.0))
fits_in (a ∷ l) [] h = absurd (omega (arith, h.0))
fits_in (a ∷ l) (v ∷ x) h =
    flat_in (λ v. map (λ w. v ∷ w) (amount_lists l)) (up_from 0 (suc a.ceiling)) (up_from_in 0 (suc a.ceiling) v (omega arith) (omega (arith, h.1 0 (omega arith))))
    (Memᴰ.map (λ w. v ∷ w) (fits_in l x (omega (arith, h.0), λ k q. h.1 (suc k) (omega arith))))

in_fits : (l : List Arc) (x : List ℕ) → Memᴰ x (amount_lists l) → Fits l x
unfolding amount_lists Fits
in_fits [] x m = step (Memᴰ.cases_cons m)
  where
    step : (x ≡ []) ⊎ Memᴰ x [] → (length x ≡ 0) × ((k : ℕ) → k < 0 → get_or x k 0 ≤ (get_or [] k (arc 0 0 0 (pos 0))).ceiling)
    step (inl e) = (ap length e, λ k h. absurd (not-suc-le-zero h))
    step (inr h) = absurd (Memᴰ.not-nil h)
in_fits (a ∷ l) x m =
    let t = flat_out (λ v. map (λ w. v ∷ w) (amount_lists l)) (up_from 0 (suc a.ceiling)) m in
    let u = Memᴰ.of_map (λ w. t.0 ∷ w) (amount_lists l) t.2 in
    join t.0 u.0 u.2 (omega (arith, (up_from_out 0 (suc a.ceiling) t.0 t.1).1)) (in_fits l u.0 u.1)
  where
    join : (v : ℕ) (w : List ℕ) → v ∷ w ≡ x → v ≤ a.ceiling → (length w ≡ length l) × ((k : ℕ) → k < length l → get_or w k 0 ≤ (get_or l k (arc 0 0 0 (pos 0))).ceiling)
        → (length x ≡ suc (length l)) × ((k : ℕ) → k < suc (length l) → get_or x k 0 ≤ (get_or (a ∷ l) k (arc 0 0 0 (pos 0))).ceiling)
    join v w e h q =
        subst (λ (z : List ℕ). (length z ≡ suc (length l)) × ((k : ℕ) → k < suc (length l) → get_or z k 0 ≤ (get_or (a ∷ l) k (arc 0 0 0 (pos 0))).ceiling)) e
        (ap suc q.0, each)
      where
        each : (k : ℕ) → k < suc (length l) → get_or (v ∷ w) k 0 ≤ (get_or (a ∷ l) k (arc 0 0 0 (pos 0))).ceiling
        each zero g = h
        each (suc k) g = q.1 k (le_of_suc-le-suc g)

pub flow_listed : (g : Network) (x : List ℕ) → Flow g x → Memᴰ x (flows g)
unfolding flows Fits
flow_listed g x f =
    select_in (λ z. not (any_below g.nodes (lost g z))) (amount_lists g.arcs) (fits_in g.arcs x (f.long, f.within))
    (ap not (below_none g.nodes (lost g x) (λ i l. ap not (true_eq_z _ _ (f.conserved i l)))))

pub listed_flow : (g : Network) (x : List ℕ) → Memᴰ x (flows g) → Flow g x
unfolding flows Fits
listed_flow g x m =
    let t = select_out (λ z. not (any_below g.nodes (lost g z))) (amount_lists g.arcs) m in
    let h = in_fits g.arcs x t.0 in
    record {
      long = h.0;
      within = h.1;
      conserved = λ i l. eq_z_true _ _ (not-false _ (none_below g.nodes (lost g x) (not-true _ t.1) i l));
    }

-- ---- the least

antisym : (a b : ℤ) → T (le_z a b) → T (le_z b a) → a ≡ b
antisym (pos a) (pos b) h k = ap pos (let q : a ≡ b = omega (arith, leb→le a b h, leb→le b a k) in q)
antisym (pos a) (negsuc b) h k = absurd h
antisym (negsuc a) (pos b) h k = absurd k
antisym (negsuc a) (negsuc b) h k = ap negsuc (let q : a ≡ b = omega (arith, leb→le b a h, leb→le a b k) in q)

min_is : (a b : ℤ) → (minℤ a b ≡ a) ⊎ (minℤ a b ≡ b)
unfolding minℤ
min_is a b = step (le_z a b)
  where
    step : (t : Bool) → (cond t a b ≡ a) ⊎ (cond t a b ≡ b)
    step true = inl refl
    step false = inr refl

min_first : (a b : ℤ) → a ≤ℤ b → minℤ a b ≡ a
unfolding minℤ
min_first a b h = step (le_z a b) h.le
  where
    step : (t : Bool) → T t → cond t a b ≡ a
    step true k = refl
    step false k = absurd k

min_second : (a b : ℤ) → b ≤ℤ a → minℤ a b ≡ b
unfolding minℤ
min_second a b h = step (le_z a b) (λ k. antisym a b k h.le)
  where
    step : (t : Bool) → (T t → a ≡ b) → cond t a b ≡ b
    step true k = k tt
    step false k = refl

least_in_lem : (a : ℤ) (l : List ℤ) → Memᴰ (leastℤ (a ∷ l)) (a ∷ l)
unfolding leastℤ
least_in_lem a [] = Memᴰ.head refl
least_in_lem a (b ∷ l) = step (least_in_lem b l) (min_is a (leastℤ (b ∷ l)))
  where
    step : Memᴰ (leastℤ (b ∷ l)) (b ∷ l) → (minℤ a (leastℤ (b ∷ l)) ≡ a) ⊎ (minℤ a (leastℤ (b ∷ l)) ≡ leastℤ (b ∷ l))
        → Memᴰ (minℤ a (leastℤ (b ∷ l))) (a ∷ b ∷ l)
    step below (inl e) = Memᴰ.head e
    step below (inr e) = Memᴰ.tail (Memᴰ.cast e below)

-- a member that is at most each member is the least
pub least_is : (l : List ℤ) (v : ℤ) → Memᴰ v l → ((w : ℤ) → Memᴰ w l → v ≤ℤ w) → leastℤ l ≡ v
unfolding leastℤ
least_is [] v m h = absurd (Memᴰ.not-nil m)
least_is (a ∷ []) v m h = sym (Memᴰ.eq_of_singleton m)
least_is (a ∷ b ∷ l) v m h = step (λ k. least_is (b ∷ l) v k (λ w q. h w (Memᴰ.tail q))) (Memᴰ.cases_cons m)
  where
    step : (Memᴰ v (b ∷ l) → leastℤ (b ∷ l) ≡ v) → (v ≡ a) ⊎ Memᴰ v (b ∷ l) → minℤ a (leastℤ (b ∷ l)) ≡ v
    step below (inl e) =
        min_first a (leastℤ (b ∷ l)) (subst (λ (z : ℤ). z ≤ℤ leastℤ (b ∷ l)) e (h (leastℤ (b ∷ l)) (Memᴰ.tail (least_in_lem b l)))) ∙ sym e
    step below (inr k) = ap (minℤ a) (below k) ∙ min_second a v (h a (Memᴰ.head refl))

-- ---- the answer of a network within the limits

module _ (g : Network) (named : ℕ) (table x : List ℕ) (total : ℤ) (flow : Flow g x) (own : flow_total g named table x ≡ total)
    (low : (z : List ℕ) → Flow g z → total ≤ℤ flow_total g named table z) where
  -- a flow that none is cheaper than has the least total
  least_total_of : least_total g named table ≡ total
  unfolding least_total
  least_total_of =
      least_is (map (flow_total g named table) (flows g)) total (Memᴰ.cast (sym own) (Memᴰ.map (flow_total g named table) (flow_listed g x flow)))
      (λ w m.
      let u = Memᴰ.of_map (flow_total g named table) (flows g) m in
      subst (λ (z : ℤ). total ≤ℤ z) u.2 (low u.0 (listed_flow g u.0 u.1)))

  cheapest? : List ℕ → Bool
  cheapest? z = eq_z (flow_total g named table z) (least_total g named table)

  -- the flow on the named arc that is smallest among the cheapest ones is that of one of them
  some_least : (l : List (List ℕ)) (z : List ℕ) → Memᴰ z l → (w : List ℕ) × Memᴰ w l × (listed w named ≡ least (map (λ v. listed v named) l))
  some_least [] z m = absurd (Memᴰ.not-nil m)
  some_least (a ∷ l) z m = Memᴰ.of_map (λ v. listed v named) (a ∷ l) (least-in-list (listed a named) (map (λ v. listed v named) l))

  -- where each flow with less on the named arc is dearer, what it has there is the definition's
  pub named_flow_lem : ((z : List ℕ) → Flow g z → listed z named < listed x named → total <ℤ flow_total g named table z) → listed x named ≡ named_flow g named table
  unfolding named_flow cheapest?
  named_flow_lem smaller =
      let here = select_in cheapest? (flows g) (flow_listed g x flow) (true_eq_z _ _ (own ∙ sym least_total_of)) in
      let t = some_least (select cheapest? (flows g)) x here in
      let u = select_out cheapest? (flows g) t.1 in
      let other = listed_flow g t.0 u.0 in
      let same : flow_total g named table t.0 ≡ total = eq_z_true _ _ u.1 ∙ least_total_of in
      meet (least_le _ (listed x named) (Memᴰ.map (λ v. listed v named) here)) t.2 (λ l. <ℤ_irrefl (subst (λ (z : ℤ). total <ℤ z) same (smaller t.0 other l)))
    where
      meet : {a b c : ℕ} → c ≤ a → b ≡ c → (b < a → ⊥) → a ≡ c
      meet {a} {b} {c} h e k = step (native.Mathlib.Decide.ℕ_discrete a c)
        where
          step : Dec (a ≡ c) → a ≡ c
          step (yes q) = q
          step (no q) = absurd (k (omega (arith, h, e, q)))

-- a cheapest flow has the least total
pub least_total_lem : (g : Network) (named : ℕ) (table x : List ℕ) (total : ℤ) → CheapestFlow g named table x total → least_total g named table ≡ total
least_total_lem g named table x total c = least_total_of g named table x total c.flow c.own_total c.least

pub carried_is : (g : Network) (named : ℕ) (table x : List ℕ) (total : ℤ) → CheapestFlow g named table x total
    → flow_outcome (flows g) (least_total g named table) ≡ carried total
carried_is g named table x total c = step (flows g) (flow_listed g x c.flow) ∙ ap carried (least_total_lem g named table x total c)
  where
    step : (l : List (List ℕ)) → Memᴰ x l → flow_outcome l (least_total g named table) ≡ carried (least_total g named table)
    step [] m = absurd (Memᴰ.not-nil m)
    step (z ∷ l) m = refl

pub none_is : (g : Network) (named : ℕ) (table : List ℕ) → NoFlow g → flow_outcome (flows g) (least_total g named table) ≡ refused 27 0
none_is g named table h = step (flows g) (λ x m. h x (listed_flow g x m))
  where
    step : (l : List (List ℕ)) → ((x : List ℕ) → Memᴰ x l → ⊥) → flow_outcome l (least_total g named table) ≡ refused 27 0
    step [] k = refl
    step (z ∷ l) k = absurd (k z (Memᴰ.head refl))
