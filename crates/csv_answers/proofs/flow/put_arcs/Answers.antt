-- `csv_answers::flow::put_arcs` meets its contract. Assumes nothing.
use mathlib.Core.Path.{◌≡◌, refl, ap, ◌∙◌, subst}
use mathlib.Core.List.{List, [], ◌∷◌}
use lib.IntN.{ℤ, pos, negsuc, nat_abs}
use lib.Signed.{mag}
use mir.Val.{to_z, of_z}
use Prim.Native.Nat.{ℕ, ◌*◌, ◌≤◌, ◌<◌, ◌^◌}
use native.Mathlib.Omega.{arith}
use native.Mathlib.Nat.{mul-le-mul}
use lib.ListN.{length, get_or}
use mir.Syntax.{w64}
use Rattle.csv_print.specs.Text.{record_text}
use Rattle.csv_answers.specs.Flow.{paid_on, arc_text, arcs_text}
use Rattle.csv_answers.specs.inner.FlowFits.{FlowFits}
use Rattle.csv_print.specs.inner.Writing.{Written}
use Rattle.csv_print.proofs.PrintedSigns.{read_back}
use Rattle.csv_print.proofs.DecimalTexts.{each_start, each_next, each_end, written_length}
use Rattle.csv_answers.proofs.flow.put_arcs.Goals as goal

-- an amount times a unit cost fits
product : {charge : ℕ} (starts ends amounts : List ℕ) (costs : List ℤ) (k : ℕ) → FlowFits charge starts ends amounts costs → k < length starts
    → get_or amounts k 0 * nat_abs (get_or costs k (pos 0)) < 2 ^ 63
product starts ends amounts costs k f h =
    let p : get_or amounts k 0 ≤ 4294967295 = omega (arith, f.narrow_amounts.below k h) in
    let q : nat_abs (get_or costs k (pos 0)) ≤ 2147483647 = omega (arith, f.narrow_costs.below k h) in
    let z : get_or amounts k 0 * nat_abs (get_or costs k (pos 0)) ≤ 4294967295 * 2147483647 = mul-le-mul p q in
    omega arith

-- a unit cost, as the machine reads it back
stored : (z : ℤ) → nat_abs z < 2 ^ 31 → to_z w64 (of_z w64 z) ≡ z
stored z h = read_back z (below z h)
  where
    below : (z : ℤ) → nat_abs z < 2 ^ 31 → mag z < 2 ^ 63
    below (pos n) h = omega arith
    below (negsuc n) h = omega arith

pub loop-k-init : goal.loop-k-init
loop-k-init c = (omega arith, refl, each_start _ 85 _ _)

pub offset_bounds-amounts-k : goal.offset_bounds-amounts-k
offset_bounds-amounts-k c = omega (arith, c.loop-k-test.true, c.loop-k.invariant.1, c.requires.1.few)

pub bounds-amounts-k : goal.bounds-amounts-k
bounds-amounts-k c = omega (arith, c.loop-k-test.true, c.loop-k.invariant.1, c.requires.1.narrow_amounts.there)

pub offset_bounds-costs-k : goal.offset_bounds-costs-k
offset_bounds-costs-k c = omega (arith, c.loop-k-test.true, c.loop-k.invariant.1, c.requires.1.few)

pub bounds-costs-k : goal.bounds-costs-k
bounds-costs-k c = omega (arith, c.loop-k-test.true, c.loop-k.invariant.1, c.requires.1.narrow_costs.there)

pub paid-sum-requires : goal.paid-sum-requires
paid-sum-requires c =
    let l = c.loop-k in
    let h : l.k < length c.args.starts.now = omega (arith, c.loop-k-test.true, l.invariant.1) in
    let e = stored (get_or c.args.costs.now l.k (pos 0)) (c.requires.1.narrow_costs.below l.k h) in
    (omega (arith, c.requires.1.charged), omega (arith, c.requires.1.narrow_amounts.below l.k h), rw e (product _ _ _ _ l.k c.requires.1 h))

pub offset_bounds-starts-k : goal.offset_bounds-starts-k
offset_bounds-starts-k c =
    omega (arith, c.loop-k-test.true, c.loop-k.invariant.1, c.requires.1.few)

pub bounds-starts-k : goal.bounds-starts-k
bounds-starts-k c = omega (arith, c.loop-k-test.true, c.loop-k.invariant.1)

pub offset_bounds-ends-k : goal.offset_bounds-ends-k
offset_bounds-ends-k c =
    omega (arith, c.loop-k-test.true, c.loop-k.invariant.1, c.requires.1.few)

pub bounds-ends-k : goal.bounds-ends-k
bounds-ends-k c =
    omega (arith, c.loop-k-test.true, c.loop-k.invariant.1, c.requires.1.in_ends)

pub put_lane-next-requires : goal.put_lane-next-requires
put_lane-next-requires c =
    omega (arith, c.loop-k-test.true, c.loop-k.invariant.0, c.loop-k.invariant.1, c.loop-k.invariant.2.ends, c.loop-k.invariant.2.short, c.requires.0, c.requires.1.few)

pub loop-k-preserved : goal.loop-k-preserved
unfolding arc_text
loop-k-preserved c =
    let l = c.loop-k in
    let h : l.k < length c.args.starts.now = omega (arith, c.loop-k-test.true, l.invariant.1) in
    let e = stored (get_or c.args.costs.now l.k (pos 0)) (c.requires.1.narrow_costs.below l.k h) in
    let w = c.put_lane-next in
    let k = l.k in
    let amount = get_or c.args.amounts.now k 0 in
    let v = c.paid-sum in
    let q = read_back v.result v.type_inv ∙ v.ensures ∙ ap (λ (z : ℤ). paid_on k c.args.named c.args.charge amount z) e in (
      omega (arith, h),
      l.invariant.1,
      each_next _ 85 _ l.invariant.2
          (subst (λ (v : ℤ). Written l.out w.new.out l.next w.result (record_text (pos (get_or c.args.starts.now k 0) ∷ pos (get_or c.args.ends.now k 0) ∷ pos amount ∷ v ∷ [])) 85)
          q w.ensures),
    )

pub shape_of-out : goal.shape_of-out
shape_of-out c = written_length c.loop-k.invariant.2

pub returns : goal.returns
unfolding arcs_text
returns c = each_end _ 85 _ _ c.loop-k.invariant.0 (omega (arith, c.loop-k.invariant.1, c.loop-k-test.false)) c.loop-k.invariant.2
