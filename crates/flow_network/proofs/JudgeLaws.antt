-- The tests of a network in slices, and what each way out of them is answered. Assumes nothing.
use mathlib.Core.Path.{◌≡◌, refl, sym, ap, ap₂, ◌∙◌, subst}
use mathlib.Core.Bool.{Bool, true, false, not, ◌||◌}
use mathlib.Core.List.{List, [], ◌∷◌}
use Prim.Native.Nat.{ℕ, ◌+◌, ◌-◌, ◌≤◌}
use native.Mathlib.Decide.{dec_lt}
use native.Mathlib.Omega.{arith}
use lib.Dec.{eqb, ltb}
use lib.IntN.{ℤ, pos}
use lib.Signed.{lt_z}
use lib.ListN.{length, get_or, take, drop, get_or-map, get_or-eq_default}
use lib.Seq.{length-take-le, get_or-take}
use borrow.Author.Tests.{ltb-false, eqb-true, not-false}
use Rattle.transport.specs.Sum.{sum}
use Rattle.transport.specs.Curve.{written}
use Rattle.dimacs.specs.Arc.{Arc, arc}
use Rattle.dimacs.specs.Lines.{any_of}
use Rattle.dimacs.proofs.NodeAndArcLines.{or_true}
use Rattle.flow_problem.specs.Network.{Network, arc_count, ceiling, amount, NoFlow}
use Rattle.flow_case.specs.inner.Build.{Put, have_in, over_at, under_at, dear_at, uneven_in, Given}
use Rattle.flow_problem.specs.inner.Sound.{uneven}
use Rattle.flow_problem.specs.Answer.{any_below, Room, too_short, bad_name, flows, least_total, carried, refused, flow_outcome}
use Rattle.flow_problem.specs.Promise.{Slices, room_of}
use Rattle.flow_case.specs.inner.Slices.{net_of}
use Rattle.flow_network.specs.inner.Ready.{Arcs, Amounts, Named, CarriedAs}
use Rattle.std.specs.Prelude.{Some}
use Rattle.flow_network.specs.inner.Judged.{beyond, judged_net, bad_name_in, Holding, Told, Judged}
use Rattle.flow_problem.proofs.FlowListing.{or_both, none_below, carried_is, none_is}
use Rattle.flow_problem.proofs.SoundNetwork.{Proper, uneven_none, four}
use Rattle.std.specs.List.{list_any}
use Rattle.flow_case.proofs.CellTests.{any_cells}
use Rattle.flow_case.proofs.NetworkSlices as slices
use Rattle.flow_network.proofs.CarryCase.{proper_of}
use Rattle.problem.proofs.TestsPassed.{either_first, either_second}

-- ---- a test of a list

any_listed : (p : ℕ → Bool) (l : List ℕ) → any_below (length l) (λ i. p (get_or l i 0)) ≡ any_of p l
unfolding any_of
any_listed p l = sym (any_cells p l) ∙ or_list l
  where
    or_list : (l : List ℕ) → list_any p l ≡ any_of p l
    or_list [] = refl
    or_list (x ∷ l) = ap (λ (b : Bool). p x || b) (or_list l)

-- ---- the network

module _ (gives takes haves starts ends ceilings : List ℕ) (costs : List ℤ) (place : ℕ) (table : List ℕ) (A : Arcs (length gives) starts ends ceilings costs) (G : Given gives takes)
    (H : Holding gives ends ceilings haves) where
  abbrev g : Network
  g = net_of gives takes starts ends ceilings costs

  ok : Proper g
  ok = proper_of gives takes starts ends ceilings costs A

  count : arc_count g ≡ length starts
  count = slices.count_is gives takes starts ends ceilings costs A.ends_long A.ceilings_long A.costs_long

  ceiling_at : (k : ℕ) → get_or ceilings k 0 ≡ ceiling g k
  ceiling_at k =
      ap (λ (l : List ℕ). get_or l k 0) (sym (slices.ceilings_are gives takes starts ends ceilings costs A.ends_long A.ceilings_long A.costs_long))
      ∙ get_or-map (λ (a : Arc). a.ceiling) g.arcs k (arc 0 0 0 (pos 0))

  over_is : any_below (length haves) (over_at haves takes) ≡ any_below g.nodes (λ i. lt_z (pos 4000) (amount g i))
  over_is =
      ap (λ (n : ℕ). any_below n (over_at haves takes)) H.long
      ∙ slices.over_is gives takes starts ends ceilings costs A.ends_long A.ceilings_long A.costs_long ok haves H.hold

  name_is : bad_name_in ceilings place table ≡ bad_name g place table
  unfolding bad_name
  name_is =
      ap₂ (λ (n u : ℕ). ltb place 1 || (ltb n place || (not (eqb (length table) (u + 1)) || any_below (length table) (dear_at table)))) (A.ceilings_long ∙ sym count) (ceiling_at (place - 1))
      ∙ ap (λ (b : Bool). ltb place 1 || (ltb (arc_count g) place || (not (eqb (length table) (ceiling g (place - 1) + 1)) || b))) (any_listed (λ e. ltb 1000000000 e) table)

  even_is : uneven_in gives takes haves ≡ uneven g
  even_is =
      ap₂ (λ (a b : ℕ). not (eqb (sum (length gives) (λ i. get_or gives i 0)) (sum a (λ i. get_or takes i 0))) || any_below b (under_at haves takes)) G.takes_long H.long
      ∙ slices.even_is gives takes starts ends ceilings costs A.ends_long A.ceilings_long A.costs_long ok haves H.hold

  module _ (before : Slices) where
    abbrev room : Room
    room = room_of before

    abbrev short : Bool
    short = too_short room (length starts)

    short_is : short ≡ too_short room (arc_count g)
    short_is = ap (too_short room) (sym count)

    refused_there : (after : Slices) (k p : ℕ) → after ≡ before → judged_net g place table room ≡ refused k p → Judged g starts ends ceilings costs place table (refused k p) before after
    refused_there after k p q e = record {
      answer = sym e;
      given = λ t z. absurd (let w : ◌≡◌ {A = ℕ} 0 1 = cc in omega arith);
      kept = λ k p z. q;
    }

    thirty : beyond g place table room ≡ true → Judged g starts ends ceilings costs place table (refused 30 0) before before
    unfolding judged_net
    thirty e = refused_there before 30 0 refl (rw (e, judged_net) refl)

    pub by_over : true ≡ any_below (length haves) (over_at haves takes) → Judged g starts ends ceilings costs place table (refused 30 0) before before
    by_over e = thirty (let q : beyond g place table room ≡ true = simp (let z : any_below g.nodes (λ i. lt_z (pos 4000) (amount g i)) ≡ true = sym over_is ∙ sym e in z) in q)

    pub by_name : true ≡ bad_name_in ceilings place table → Judged g starts ends ceilings costs place table (refused 30 0) before before
    by_name e = thirty (let q : beyond g place table room ≡ true = simp (let z : bad_name g place table ≡ true = sym name_is ∙ sym e in z, or_true) in q)

    pub by_room : true ≡ short → Judged g starts ends ceilings costs place table (refused 30 0) before before
    by_room e = thirty (let q : beyond g place table room ≡ true = simp (let z : too_short room (arc_count g) ≡ true = sym short_is ∙ sym e in z, or_true) in q)

    module _ (o : false ≡ any_below (length haves) (over_at haves takes)) (b : false ≡ bad_name_in ceilings place table) (s : false ≡ short) where
      within : beyond g place table room ≡ false
      within =
          or_both (any_below g.nodes (λ i. lt_z (pos 4000) (amount g i))) (bad_name g place table || too_short room (arc_count g)) (sym over_is ∙ sym o)
          (or_both (bad_name g place table) (too_short room (arc_count g)) (sym name_is ∙ sym b) (sym short_is ∙ sym s))

      passed : judged_net g place table room ≡ flow_outcome (flows g) (least_total g (place - 1) table)
      unfolding judged_net
      passed = rw (within, judged_net) refl

      pub by_uneven : true ≡ uneven_in gives takes haves → Judged g starts ends ceilings costs place table (refused 27 0) before before
      by_uneven e = refused_there before 27 0 refl (passed ∙ none_is g (place - 1) table (uneven_none g ok (sym even_is ∙ sym e)))

      pub by_nothing : (after : Slices) → after ≡ before → NoFlow g → Judged g starts ends ceilings costs place table (refused 27 0) before after
      by_nothing after q h = refused_there after 27 0 q (passed ∙ none_is g (place - 1) table h)

      pub by_flow : (after : Slices) (total : ℤ) → Told g starts ends ceilings costs place table total before after → Judged g starts ends ceilings costs place table (carried total) before after
      by_flow after total h = record {
        answer = sym (passed ∙ carried_is g (place - 1) table h.amounts total h.cheapest);
        given = λ t e. subst (λ (t : ℤ). Told g starts ends ceilings costs place table t before after) (let q : total ≡ t = cc in q) h;
        kept = λ k p e. absurd (let w : ◌≡◌ {A = ℕ} 0 1 = cc in omega arith);
      }

      names : (ltb place 1 ≡ false) × (ltb (length ceilings) place ≡ false) × (not (eqb (length table) (get_or ceilings (place - 1) 0 + 1)) ≡ false) × (any_below (length table) (dear_at table) ≡ false)
      names = four (ltb place 1) (ltb (length ceilings) place) (not (eqb (length table) (get_or ceilings (place - 1) 0 + 1))) (any_below (length table) (dear_at table)) (sym b)

      pub place_low : 1 ≤ place
      place_low = ltb-false place 1 names.0

      pub named_there : Named starts (place - 1) table
      named_there = record {
        place = omega (arith, place_low, ltb-false (length ceilings) place names.1, A.ceilings_long);
        small = λ y. elim (dec_lt y (length table)) [
          | yes l ↦ ltb-false 1000000000 (get_or table y 0) (none_below (length table) (dear_at table) names.3 y l)
          | no l ↦ let q : get_or table y 0 ≡ 0 = get_or-eq_default table 0 (omega arith) in omega (arith, q)
        ];
      }

      shorts :
          (ltb room.flow (length starts) ≡ false) × (ltb room.starts (length starts) ≡ false) × (ltb room.ends (length starts) ≡ false) ×
          ((ltb room.ceilings (length starts) || ltb room.costs (length starts)) ≡ false)
      shorts =
          four (ltb room.flow (length starts)) (ltb room.starts (length starts)) (ltb room.ends (length starts))
          (ltb room.ceilings (length starts) || ltb room.costs (length starts)) (sym s)

      pub flow_room : length starts ≤ length before.flow
      flow_room = ltb-false (length before.flow) (length starts) shorts.0

      pub starts_room : length starts ≤ length before.starts
      starts_room = ltb-false (length before.starts) (length starts) shorts.1

      pub ends_room : length ends ≤ length before.ends
      ends_room = omega (arith, A.ends_long, ltb-false (length before.ends) (length starts) shorts.2)

      pub ceilings_room : length ceilings ≤ length before.ceilings
      ceilings_room =
          omega (arith, A.ceilings_long, ltb-false (length before.ceilings) (length starts) (either_first (ltb room.ceilings (length starts)) (ltb room.costs (length starts)) shorts.3))

      pub costs_room : length costs ≤ length before.costs
      costs_room =
          omega (arith, A.costs_long, ltb-false (length before.costs) (length starts) (either_second (ltb room.ceilings (length starts)) (ltb room.costs (length starts)) shorts.3))

      pub amounts_there : false ≡ uneven_in gives takes haves → Amounts gives takes haves ends ceilings
      amounts_there u =
          let sums = not (eqb (sum (length gives) (λ i. get_or gives i 0)) (sum (length takes) (λ i. get_or takes i 0))) in
          let n = either_second sums (any_below (length haves) (under_at haves takes)) (sym u) in
          record {
            few = G.few;
            takes_long = G.takes_long;
            haves_long = H.long;
            hold = H.hold;
            enough = λ i l. ltb-false (get_or haves i 0) (get_or takes i 0) (none_below (length haves) (under_at haves takes) n i (omega (arith, H.long)));
            most = λ i l. ltb-false (get_or takes i 0 + 4000) (get_or haves i 0) (none_below (length haves) (over_at haves takes) (sym o) i (omega (arith, H.long)));
            even =
                eqb-true (sum (length gives) (λ i. get_or gives i 0)) (sum (length takes) (λ i. get_or takes i 0)) (not-false _ (either_first sums (any_below (length haves) (under_at haves takes)) (sym u)))
                ∙ ap (λ (n : ℕ). sum n (λ i. get_or takes i 0)) G.takes_long;
          }

      pub told_there : (after : Slices) (total : ℤ) → CarriedAs g (place - 1) table before.flow after.flow (Some total)
          → after.starts ≡ written starts before.starts → after.ends ≡ written ends before.ends → after.ceilings ≡ written ceilings before.ceilings → after.costs ≡ written costs before.costs
          → Told g starts ends ceilings costs place table total before after
      told_there after total h p q r t = record {
        amounts = h.0;
        cheapest = h.1;
        flow = h.2;
        starts = p;
        ends = q;
        ceilings = r;
        costs = t;
      }

-- the cells filled hold what each node has
pub holding_of : (gives ends ceilings zeros filled : List ℕ) → length gives ≤ length zeros → Put 0 (have_in ends ceilings gives) 0 (length gives) zeros filled
    → Holding gives ends ceilings (take (length gives - 0) (drop 0 filled))
holding_of gives ends ceilings zeros filled h p =
    let q : length gives - 0 ≡ length gives = omega arith in
    let e = ap (λ (n : ℕ). take n filled) q in
    record {
      long = ap length e ∙ length-take-le (length gives) filled (omega (arith, p.long));
      hold = λ i l.
          ap (λ (x : List ℕ). get_or x i 0) e ∙ get_or-take (length gives) filled i 0 l
          ∙ ap (λ (n : ℕ). get_or filled n 0) (let z : i ≡ 0 + i = omega arith in z) ∙ p.here i l;
    }
