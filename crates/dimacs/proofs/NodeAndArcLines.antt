-- The n lines and the a lines, one more at the end. Assumes nothing.
use mathlib.Core.Path.{◌≡◌, refl, sym, ap, ap₂, ◌∙◌}
use mathlib.Core.Logic.{inl, inr}
use mathlib.Core.Bool.{Bool, true, false, cond, ◌||◌, true≢false}
use mathlib.Core.List.{List, [], ◌∷◌, ◌++◌}
use Prim.Native.Nat.{ℕ, suc, ◌-◌, ◌≤◌, ◌<◌, ◌^◌}
use native.Mathlib.Decide.{ℕ_discrete, dec_lt}
use native.Mathlib.Omega.{arith}
use lib.Dec.{eqb, ltb}
use lib.IntN.{ℤ, pos, negsuc, neg_ℤ, nat_abs, sub_ℕ}
use Rattle.dimacs.specs.declared.line.ArcNumbers.{ArcNumbers}
use lib.Signed.{lt_z}
use borrow.Author.Tests.{eq-eqb, ne_eqb, lt-ltb, le-ltb}
use Rattle.dimacs.specs.Form.{NodeLine}
use Rattle.dimacs.specs.Lines.{supply_in, any_of, no_node, twice, bad_arc}
use Rattle.dimacs.specs.inner.Stored.{arc_made, Parts}

-- ---- tests one after the other

pub or_first : (a b : Bool) → a ≡ true → true ≡ (a || b)
or_first true b e = refl
or_first false b e = absurd (true≢false (sym e))

pub or_next : (a b : Bool) → true ≡ b → true ≡ (a || b)
or_next true b e = refl
or_next false b e = e

pub or_true : (a : Bool) → (a || true) ≡ true
or_true true = refl
or_true false = refl

pub or_skip : (a b c : Bool) → a ≡ false → c ≡ b → c ≡ (a || b)
or_skip a b c e d = d ∙ sym (ap (λ (x : Bool). x || b) e)

-- ---- one more line

pub any_joined : {A : Type 0} (p : A → Bool) (l k : List A) → any_of p (l ++ k) ≡ (any_of p l || any_of p k)
unfolding any_of
any_joined p [] k = refl
any_joined p (x ∷ l) k = ap (λ (b : Bool). p x || b) (any_joined p l k) ∙ regroup (p x) (any_of p l) (any_of p k)
  where
    regroup : (a b c : Bool) → (a || (b || c)) ≡ ((a || b) || c)
    regroup true b c = refl
    regroup false b c = refl

pub any_more : {A : Type 0} (p : A → Bool) (l : List A) (v : A) → any_of p (l ++ (v ∷ [])) ≡ (any_of p l || p v)
unfolding any_of
any_more p l v = any_joined p l (v ∷ []) ∙ ap (λ (b : Bool). any_of p l || b) (or_false (p v))
  where
    or_false : (a : Bool) → (a || false) ≡ a
    or_false true = refl
    or_false false = refl

turned : (a b : ℕ) → eqb a b ≡ eqb b a
turned a b = elim (ℕ_discrete a b) [ yes e ↦ eq-eqb a b e ∙ sym (eq-eqb b a (sym e)) | no d ↦ ne_eqb a b d ∙ sym (ne_eqb b a (λ e. d (sym e))) ]

pub twice_more : (l : List NodeLine) (v : NodeLine) → twice (l ++ (v ∷ [])) ≡ (twice l || any_of (λ (z : NodeLine). eqb z.id v.id) l)
unfolding twice any_of
twice_more [] v = refl
twice_more (x ∷ l) v =
    ap₂ (λ (a b : Bool). a || b) (any_more (λ (z : NodeLine). eqb z.id x.id) l v) (twice_more l v)
    ∙ ap (λ (c : Bool). (any_of (λ (z : NodeLine). eqb z.id x.id) l || c) || (twice l || any_of (λ (z : NodeLine). eqb z.id v.id) l)) (turned v.id x.id)
    ∙ regroup (any_of (λ (z : NodeLine). eqb z.id x.id) l) (eqb x.id v.id) (twice l) (any_of (λ (z : NodeLine). eqb z.id v.id) l)
  where
    regroup : (a b c d : Bool) → ((a || b) || (c || d)) ≡ ((a || c) || (b || d))
    regroup true b c d = refl
    regroup false true true d = refl
    regroup false true false d = refl
    regroup false false c d = refl

pub supply_more : (i : ℕ) (l : List NodeLine) (v : NodeLine)
    → supply_in i (l ++ (v ∷ [])) ≡ cond (any_of (λ (z : NodeLine). eqb z.id i) l) (supply_in i l) (cond (eqb v.id i) v.supply (pos 0))
unfolding supply_in any_of
supply_more i [] v = refl
supply_more i (x ∷ l) v = go (supply_more i l v) (eqb x.id i)
  where
    go : supply_in i (l ++ (v ∷ [])) ≡ cond (any_of (λ (z : NodeLine). eqb z.id i) l) (supply_in i l) (cond (eqb v.id i) v.supply (pos 0)) → (b : Bool)
        → cond b x.supply (supply_in i (l ++ (v ∷ [])))
        ≡ cond (b || any_of (λ (z : NodeLine). eqb z.id i) l) (cond b x.supply (supply_in i l)) (cond (eqb v.id i) v.supply (pos 0))
    go h true = refl
    go h false = h

none_listed : (l : List NodeLine) (i : ℕ) (b : Bool) → any_of (λ (z : NodeLine). eqb z.id i) l ≡ b → cond b (supply_in i l) (pos 0) ≡ supply_in i l
unfolding supply_in any_of
none_listed l i true e = refl
none_listed [] i false e = refl
none_listed (x ∷ l) i false e = go (none_listed l i false) (eqb x.id i) e
  where
    go : (any_of (λ (z : NodeLine). eqb z.id i) l ≡ false → pos 0 ≡ supply_in i l) → (b : Bool) → (b || any_of (λ (z : NodeLine). eqb z.id i) l) ≡ false
        → pos 0 ≡ cond b x.supply (supply_in i l)
    go h true e = absurd (true≢false e)
    go h false e = h e

-- a line for another node
pub other_supply : (l : List NodeLine) (v : NodeLine) (i : ℕ) → eqb v.id i ≡ false → supply_in i l ≡ supply_in i (l ++ (v ∷ []))
other_supply l v i h =
    sym (supply_more i l v
    ∙ ap (λ (b : Bool). cond (any_of (λ (z : NodeLine). eqb z.id i) l) (supply_in i l) (cond b v.supply (pos 0))) h
    ∙ none_listed l i (any_of (λ (z : NodeLine). eqb z.id i) l) refl)

-- ---- a supply by its size

-- what is given less what is taken is the supply, where the one is below 0 and where it is not
supply_taken : (z : ℤ) → lt_z z (pos 0) ≡ true → sub_ℕ 0 (nat_abs z) ≡ z
supply_taken (pos v) e = absurd (true≢false (sym e ∙ le-ltb v 0 (omega arith)))
supply_taken (negsuc v) e = ap (λ (b : Bool). cond b (negsuc (suc v - 1)) (pos (0 - suc v))) (lt-ltb 0 (suc v) (omega arith)) ∙ ap negsuc (let q : suc v - 1 ≡ v = omega arith in q)

supply_given : (z : ℤ) → lt_z z (pos 0) ≡ false → sub_ℕ (nat_abs z) 0 ≡ z
supply_given (pos v) e = ap (λ (b : Bool). cond b (negsuc (0 - suc v)) (pos (v - 0))) (le-ltb v 0 (omega arith)) ∙ ap pos (let q : v - 0 ≡ v = omega arith in q)
supply_given (negsuc v) e = absurd (true≢false e)

pub parts_taken : (z : ℤ) → nat_abs z < 10 ^ 10 → lt_z z (pos 0) ≡ true → Parts z 0 (nat_abs z)
parts_taken z h e = record { is = supply_taken z e; way = inl refl; give_small = omega arith; take_small = h }

pub parts_given : (z : ℤ) → nat_abs z < 10 ^ 10 → lt_z z (pos 0) ≡ false → Parts z (nat_abs z) 0
parts_given z h e = record { is = supply_given z e; way = inr refl; give_small = h; take_small = omega arith }

-- ---- the range of a cost, by its size

cost_range : (z : ℤ) → ltb 1000000 (nat_abs z) ≡ (lt_z z (neg_ℤ (pos 1000000)) || lt_z (pos 1000000) z)
cost_range (pos c) = refl
cost_range (negsuc c) = elim (dec_lt 1000000 (suc c)) [
  | yes h ↦ lt-ltb 1000000 (suc c) h ∙ sym (ap (λ (b : Bool). b || false) (lt-ltb 999999 c (omega arith)))
  | no h ↦ le-ltb 1000000 (suc c) (omega arith) ∙ sym (ap (λ (b : Bool). b || false) (le-ltb 999999 c (omega arith)))
]

-- ---- an arc out of the limits

or_false : (a : Bool) → (a || false) ≡ a
or_false true = refl
or_false false = refl

module _ (nodes : ℕ) (v : ArcNumbers) where
  pub bad_start : no_node nodes v.start ≡ true → true ≡ any_of (bad_arc nodes) (arc_made v)
  unfolding any_of
  bad_start h = sym (let q : any_of (bad_arc nodes) (arc_made v) ≡ true = simp (h, or_true) in q)

  pub bad_end : no_node nodes v.end ≡ true → true ≡ any_of (bad_arc nodes) (arc_made v)
  unfolding any_of
  bad_end h = sym (let q : any_of (bad_arc nodes) (arc_made v) ≡ true = simp (h, or_true) in q)

  pub bad_loop : v.start ≡ v.end → true ≡ any_of (bad_arc nodes) (arc_made v)
  unfolding any_of
  bad_loop h = sym (let q : any_of (bad_arc nodes) (arc_made v) ≡ true = simp (eq-eqb v.start v.end h, or_true) in q)

  pub bad_low : 0 < v.low → true ≡ any_of (bad_arc nodes) (arc_made v)
  unfolding any_of
  bad_low h = sym (let q : any_of (bad_arc nodes) (arc_made v) ≡ true = simp (lt-ltb 0 v.low h, or_true) in q)

  pub bad_ceiling : 4000 < v.ceiling → true ≡ any_of (bad_arc nodes) (arc_made v)
  unfolding any_of
  bad_ceiling h = sym (let q : any_of (bad_arc nodes) (arc_made v) ≡ true = simp (lt-ltb 4000 v.ceiling h, or_true) in q)

  pub bad_cost : no_node nodes v.start ≡ false → no_node nodes v.end ≡ false → (v.start ≡ v.end → ⊥) → v.low ≤ 0 → v.ceiling ≤ 4000 →
      ltb 1000000 (nat_abs v.cost) ≡ any_of (bad_arc nodes) (arc_made v)
  unfolding any_of
  bad_cost h1 h2 h3 h4 h5 =
      or_skip _ _ _ h1 (or_skip _ _ _ h2 (or_skip _ _ _ (ne_eqb v.start v.end h3) (or_skip _ _ _ (le-ltb 0 v.low h4) (or_skip _ _ _ (le-ltb 4000 v.ceiling h5) (cost_range v.cost)))))
      ∙ sym (or_false _)
