-- The network of the slices, and what the code computes of it. Assumes nothing.
use mathlib.Core.Path.{◌≡◌, refl, sym, ap, ap₂, ◌∙◌}
use mathlib.Core.Bool.{Bool, not, ◌||◌}
use mathlib.Core.List.{List, map}
use Prim.Native.Nat.{ℕ, zero, suc, ◌+◌, ◌-◌, ◌≤◌, ◌<◌}
use native.Mathlib.Numerals.{add-one}
use native.Mathlib.Decide.{ℕ_discrete, dec_lt}
use native.Mathlib.Omega.{arith}
use lib.Dec.{eqb, ltb}
use lib.IntN.{ℤ, pos, sub_ℕ, nat_abs, ◌+ℤ◌}
use lib.Signed.{lt_z}
use lib.ListN.{length, get_or, length-map, get_or-map}
use lib.Seq.{ext_get_or}
use borrow.Author.Tests.{eq-eqb, ne_eqb, lt-ltb, le-ltb}
use Rattle.transport.specs.Sum.{sum}
use Rattle.problem.specs.Integer.{eq_z}
use Rattle.transport.proofs.Differences.{by_sign, sub_add, sub_pos, pos_sub}
use Rattle.dimacs.specs.Arc.{Arc, arc}
use Rattle.flow_problem.specs.Network.{Network, arc_count, arc_at, ceiling, supply, entering, amount}
use Rattle.flow_problem.specs.inner.Reduce.{node, stock, lane_cost, lane_ceiling, want}
use Rattle.flow_case.specs.inner.Build.{into, want_in, lane_in, cost_in, have_in, over_at, under_at}
use Rattle.flow_problem.specs.inner.Sound.{uneven}
use Rattle.flow_problem.specs.Answer.{any_below}
use Rattle.flow_case.specs.inner.Slices.{net_of}
use Rattle.flow_problem.proofs.NodesAndSources.{cells_length, cells_at}
use Rattle.flow_problem.proofs.SoundNetwork.{Proper}
use Rattle.flow_case.proofs.CaseParts.{starts_of, ends_of, ceilings_of, costs_of, want_is, lane_is, cost_is, into_is}
use Rattle.problem.proofs.RaisedFreight.{sum_above}

-- ---- an integer that is a difference

over_by : (a b : ℕ) → ltb (b + 4000) a ≡ lt_z (pos 4000) (sub_ℕ a b)
over_by a b =
    by_sign (λ z. ltb (b + 4000) a ≡ lt_z (pos 4000) z) a b (λ h. le-ltb (b + 4000) a (omega arith))
    (λ h. elim (dec_lt (b + 4000) a) [
      | yes l ↦ lt-ltb (b + 4000) a l ∙ sym (lt-ltb 4000 (a - b) (omega arith))
      | no l ↦ le-ltb (b + 4000) a (omega arith) ∙ sym (le-ltb 4000 (a - b) (omega arith))
    ])

under_by : (a b : ℕ) → ltb a b ≡ lt_z (sub_ℕ a b) (pos 0)
under_by a b =
    by_sign (λ z. ltb a b ≡ lt_z z (pos 0)) a b (λ h. lt-ltb a b h)
    (λ h. le-ltb a b h ∙ sym (le-ltb (a - b) 0 (omega arith)))

zero_by : (a b : ℕ) → eqb a b ≡ eq_z (sub_ℕ a b) (pos 0)
unfolding eq_z
zero_by a b =
    by_sign (λ z. eqb a b ≡ eq_z z (pos 0)) a b (λ h. ne_eqb a b (λ e. omega arith))
    (λ h. elim (ℕ_discrete a b) [
      | yes e ↦ eq-eqb a b e ∙ sym (eq-eqb (a - b) 0 (omega arith))
      | no e ↦ ne_eqb a b e ∙ sym (ne_eqb (a - b) 0 (λ q. e (omega arith)))
    ])

below_ext : (k : ℕ) (p q : ℕ → Bool) → ((i : ℕ) → i < k → p i ≡ q i) → any_below k p ≡ any_below k q
unfolding any_below
below_ext zero p q h = refl
below_ext (suc k) p q h = ap₂ (λ (a b : Bool). a || b) (below_ext k p q (λ i l. h i (omega arith))) (h k (omega arith))

-- ---- the slices

module _ (gives takes starts ends ceilings : List ℕ) (costs : List ℤ) (ee : length ends ≡ length starts) (ec : length ceilings ≡ length starts) (eo : length costs ≡ length starts) where
  abbrev g : Network
  g = net_of gives takes starts ends ceilings costs

  pub count_is : arc_count g ≡ length starts
  count_is = cells_length (length starts) (λ j. arc (get_or starts j 0) (get_or ends j 0) (get_or ceilings j 0) (get_or costs j (pos 0)))

  pub arc_is : (j : ℕ) → j < length starts → arc_at g j ≡ arc (get_or starts j 0) (get_or ends j 0) (get_or ceilings j 0) (get_or costs j (pos 0))
  arc_is j l = cells_at (length starts) (λ j. arc (get_or starts j 0) (get_or ends j 0) (get_or ceilings j 0) (get_or costs j (pos 0))) (arc 0 0 0 (pos 0)) j l

  listed_as : {A : Type 0} (d : A) (f : Arc → A) (l : List A) → f (arc 0 0 0 (pos 0)) ≡ d → length l ≡ length starts
      → ((j : ℕ) → j < length starts → f (arc (get_or starts j 0) (get_or ends j 0) (get_or ceilings j 0) (get_or costs j (pos 0))) ≡ get_or l j d) → map f g.arcs ≡ l
  listed_as d f l e n h =
      ext_get_or d (map f g.arcs) l (length-map g.arcs f ∙ count_is ∙ sym n)
      (λ j q.
      let w : j < length starts = omega (arith, length-map g.arcs f, count_is) in
      ap (get_or (map f g.arcs) j) (sym e) ∙ get_or-map f g.arcs j (arc 0 0 0 (pos 0)) ∙ ap f (arc_is j w) ∙ h j w)

  pub starts_are : starts_of g ≡ starts
  starts_are = listed_as 0 (λ (a : Arc). a.start) starts refl refl (λ j l. refl)

  pub ends_are : ends_of g ≡ ends
  ends_are = listed_as 0 (λ (a : Arc). a.end) ends refl ee (λ j l. refl)

  pub ceilings_are : ceilings_of g ≡ ceilings
  ceilings_are = listed_as 0 (λ (a : Arc). a.ceiling) ceilings refl ec (λ j l. refl)

  pub costs_are : costs_of g ≡ costs
  costs_are = listed_as (pos 0) (λ (a : Arc). a.cost) costs refl eo (λ j l. refl)

  pub supply_at : (i : ℕ) → i < length gives → supply g i ≡ sub_ℕ (get_or gives i 0) (get_or takes i 0)
  supply_at i l = cells_at (length gives) (λ i. sub_ℕ (get_or gives i 0) (get_or takes i 0)) (pos 0) i l

  module _ (ok : Proper g) where
    pub wants : (k j : ℕ) → want_in ceilings k j ≡ want g k j
    wants k j = ap (λ (l : List ℕ). want_in l k j) (sym ceilings_are) ∙ want_is g ok k j

    pub lanes : (k s j : ℕ) → j < length starts → lane_in starts ends (node g k s + 1) j ≡ lane_ceiling g k s j
    lanes k s j l =
        ap (λ (i : ℕ). lane_in starts ends i j) (add-one (node g k s))
        ∙ ap₂ (λ (a b : List ℕ). lane_in a b (suc (node g k s)) j) (sym starts_are) (sym ends_are)
        ∙ lane_is g ok k s j (omega (arith, count_is))

    pub rates : (k s j : ℕ) → j < length starts → cost_in starts costs (node g k s + 1) j ≡ lane_cost g k s j
    rates k s j l =
        ap (λ (i : ℕ). cost_in starts costs i j) (add-one (node g k s))
        ∙ ap₂ (λ (a : List ℕ) (b : List ℤ). cost_in a b (suc (node g k s)) j) (sym starts_are) (sym costs_are)
        ∙ cost_is g ok k s j (omega (arith, count_is))

    into_at : (i : ℕ) → into ends ceilings (i + 1) (length ends) ≡ entering g (ceiling g) i
    into_at i =
        ap₂ (λ (k n : ℕ). into ends ceilings k n) (add-one i) (ee ∙ sym count_is)
        ∙ ap₂ (λ (a b : List ℕ). into a b (suc i) (arc_count g)) (sym ends_are) (sym ceilings_are)
        ∙ into_is g ok i

    pub amount_is : (i : ℕ) → i < length gives → amount g i ≡ sub_ℕ (have_in ends ceilings gives i) (get_or takes i 0)
    unfolding amount
    amount_is i l =
        ap₂ (λ (a b : ℤ). a +ℤ b) (supply_at i l) (ap pos (sym (into_at i)) ∙ pos_sub (into ends ceilings (i + 1) (length ends)))
        ∙ sub_add (get_or gives i 0) (get_or takes i 0) (into ends ceilings (i + 1) (length ends)) 0
        ∙ ap (sub_ℕ (have_in ends ceilings gives i)) (let q : get_or takes i 0 + 0 ≡ get_or takes i 0 = omega arith in q)

    -- ---- by cells that hold what each node has

    module _ (haves : List ℕ) (hold : (i : ℕ) → i < length gives → get_or haves i 0 ≡ have_in ends ceilings gives i) where
      pub amount_held : (i : ℕ) → i < length gives → amount g i ≡ sub_ℕ (get_or haves i 0) (get_or takes i 0)
      amount_held i l = amount_is i l ∙ ap (λ (n : ℕ). sub_ℕ n (get_or takes i 0)) (sym (hold i l))

      pub over_is : any_below (length gives) (over_at haves takes) ≡ any_below (length gives) (λ i. lt_z (pos 4000) (amount g i))
      over_is =
          below_ext (length gives) (over_at haves takes) (λ i. lt_z (pos 4000) (amount g i))
          (λ i l. over_by (get_or haves i 0) (get_or takes i 0) ∙ ap (lt_z (pos 4000)) (sym (amount_held i l)))

      pub under_is : any_below (length gives) (under_at haves takes) ≡ any_below (length gives) (λ i. lt_z (amount g i) (pos 0))
      under_is =
          below_ext (length gives) (under_at haves takes) (λ i. lt_z (amount g i) (pos 0))
          (λ i l. under_by (get_or haves i 0) (get_or takes i 0) ∙ ap (λ (z : ℤ). lt_z z (pos 0)) (sym (amount_held i l)))

      pub stock_held : (i : ℕ) → i < length gives → get_or takes i 0 ≤ get_or haves i 0 → stock g i ≡ get_or haves i 0 - get_or takes i 0
      unfolding stock
      stock_held i l h = ap nat_abs (amount_held i l ∙ sub_pos (get_or haves i 0) (get_or takes i 0) (get_or haves i 0 - get_or takes i 0) (omega arith))

      -- the two checks before the planner
      pub even_is : (not (eqb (sum (length gives) (λ i. get_or gives i 0)) (sum (length gives) (λ i. get_or takes i 0))) || any_below (length gives) (under_at haves takes)) ≡ uneven g
      unfolding uneven
      even_is =
          ap₂ (λ (a b : Bool). not a || b)
          (zero_by (sum (length gives) (λ i. get_or gives i 0)) (sum (length gives) (λ i. get_or takes i 0))
          ∙ ap (λ (z : ℤ). eq_z z (pos 0)) (sym (sum_above (length gives) (supply g) (λ i. get_or gives i 0) (λ i. get_or takes i 0) (λ i l. record { is = supply_at i l })).is))
          under_is
