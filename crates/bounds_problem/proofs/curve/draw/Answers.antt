-- `bounds_problem::curve::draw` meets its contract. The invariant: the curve is drawn up to stop k - 1. Assumes nothing.
use mathlib.Core.Path.{◌≡◌, refl, sym, ap, ◌∙◌, subst}
use Prim.Native.Nat.{ℕ, ◌+◌, ◌-◌}
use native.Mathlib.Omega.{arith}
use lib.IntN.{ℤ, pos}
use lib.ListN.{length, get_or, length-set}
use lib.Seq.{get_or-set_other}
use Rattle.problem.proofs.MachineIntegers.{read_back}
use Rattle.bounds_problem.specs.inner.Heights.{height, Moderate}
use Rattle.bounds_problem.proofs.HeightLoops.{drawn_first, drawn_on, line_at, stretch_at}
use Rattle.bounds_problem.proofs.curve.draw.Goals as goal

pub bounds-splits-0 : goal.bounds-splits-0
bounds-splits-0 c = let d = c.requires.0 in omega (arith, d.some, d.in_splits)

pub bounds-freights-0 : goal.bounds-freights-0
bounds-freights-0 c = let d = c.requires.0 in omega (arith, d.some, d.in_freights)

pub height_of-level-requires : goal.height_of-level-requires
height_of-level-requires c = let d = c.requires.0 in subst (λ (z : ℤ). Moderate z) (sym (read_back _ c.height_of-arg-1.given)) (d.moderate 0 d.some)

pub bounds-to-0 : goal.bounds-to-0
bounds-to-0 c = omega (arith, c.requires.1)

pub loop-k-init : goal.loop-k-init
loop-k-init c =
    let e : c.height_of-level.result ≡ height (get_or c.args.freights.now 0 (pos 0)) = c.height_of-level.ensures ∙ ap height (read_back _ c.height_of-arg-1.given) in (
      refl,
      e,
      refl,
      λ d. drawn_first d.curve (get_or c.args.splits.now 0 0) c.args.to.now c.height_of-level.result (omega (arith, c.requires.1)) (e ∙ d.first),
      λ j h. refl,
    )

pub offset_bounds-splits-k : goal.offset_bounds-splits-k
offset_bounds-splits-k c = omega (arith, c.requires.0.in_splits)

pub bounds-splits-k : goal.bounds-splits-k
bounds-splits-k c = omega (arith, c.requires.0.in_splits, c.loop-k-test.true)

pub offset_bounds-freights-k : goal.offset_bounds-freights-k
offset_bounds-freights-k c = omega (arith, c.requires.0.in_splits, c.loop-k-test.true)

pub bounds-freights-k : goal.bounds-freights-k
bounds-freights-k c = omega (arith, c.requires.0.in_freights, c.loop-k-test.true)

pub height_of-rise-requires : goal.height_of-rise-requires
height_of-rise-requires c =
    let d = c.requires.0 in
    subst (λ (z : ℤ). Moderate z) (sym (read_back _ c.height_of-arg-in-loop-k-1.given)) (d.moderate _ c.loop-k-test.true)

pub draw_stretch-requires : goal.draw_stretch-requires
draw_stretch-requires c =
    let i = c.loop-k.invariant in
    let k = c.loop-k.k in
    stretch_at c.requires.0 k c.loop-k.last c.loop-k.level c.height_of-rise.result c.loop-k.auto.k c.loop-k-test.true i.0 i.1
    (c.height_of-rise.ensures ∙ ap height (read_back _ c.height_of-arg-in-loop-k-1.given)) (length c.loop-k.to)
    (omega (arith, i.2, length-set c.args.to.now 0 c.height_of-level.result, c.requires.1))

pub loop-k-preserved : goal.loop-k-preserved
loop-k-preserved c =
    let i = c.loop-k.invariant in
    let k = c.loop-k.k in
    let t = c.loop-k-test.true in
    let q : k ≡ k + 1 - 1 = omega arith in
    let w = c.draw_stretch.ensures in
    let e : c.height_of-rise.result ≡ height (get_or c.args.freights.now k (pos 0)) =
    c.height_of-rise.ensures ∙ ap height (read_back _ c.height_of-arg-in-loop-k-1.given) in
    let st = stretch_at c.requires.0 k c.loop-k.last c.loop-k.level c.height_of-rise.result c.loop-k.auto.k t i.0 i.1 e 4001 (omega arith) in (
      ap (λ (j : ℕ). get_or c.args.splits.now j 0) q,
      e ∙ ap (λ (j : ℕ). height (get_or c.args.freights.now j (pos 0))) q,
      w.long ∙ i.2,
      λ d. drawn_on d.curve _ _ w st.from (line_at d k c.loop-k.last c.loop-k.level c.height_of-rise.result c.loop-k.auto.k t i.0 i.1 e) (i.3 d),
      λ j h. w.kept j (λ a b. omega arith) ∙ i.4 j (omega (arith, st.rises)),
    )

pub shape_of-to : goal.shape_of-to
shape_of-to c = c.loop-k.invariant.2 ∙ length-set c.args.to.now 0 c.height_of-level.result

pub returns : goal.returns
returns c =
    let i = c.loop-k.invariant in
    let e : c.loop-k.k - 1 ≡ c.args.count - 1 = omega (arith, c.requires.0.some, c.loop-k-test.false) in
    let l : c.loop-k.last ≡ get_or c.args.splits.now (c.args.count - 1) 0 = i.0 ∙ ap (λ (j : ℕ). get_or c.args.splits.now j 0) e in
    record {
      long = i.2 ∙ length-set c.args.to.now 0 c.height_of-level.result;
      drawn = λ d z a h. i.3 d z a (omega arith);
      kept = λ j h.
          i.4 j (omega arith)
          ∙ get_or-set_other c.args.to.now 0 j c.height_of-level.result 0 (λ z. omega (arith, c.requires.0.lowest (c.args.count - 1) (omega (arith, c.requires.0.some))));
    }
