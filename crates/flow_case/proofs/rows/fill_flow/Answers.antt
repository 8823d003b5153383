-- `flow_case::rows::fill_flow` meets its contract. Assumes nothing.
use mathlib.Core.Path.{ap, ◌∙◌}
use Prim.Native.Nat.{ℕ, ◌+◌, ◌*◌}
use native.Mathlib.Omega.{arith}
use lib.ListN.{length, get_or}
use mathlib.Core.Bool.{cond}
use lib.Dec.{eqb}
use Rattle.flow_case.specs.inner.Build.{flow_in}
use Rattle.flow_case.proofs.RowLoops.{put_none, put_next, at_cell, at_mul}
use Rattle.flow_case.proofs.rows.fill_flow.Goals as goal

pub loop-j-init : goal.loop-j-init
loop-j-init c = put_none 0 (flow_in c.args.plan.now c.args.starts.now c.args.w c.args.v c.args.named c.args.carried) 0 c.args.flow.now

pub overflow_sub-start : goal.overflow_sub-start
overflow_sub-start c = omega (arith, (c.requires.by_index c.loop-j.j c.loop-j-test.true).0)

pub overflow_mul-at : goal.overflow_mul-at
overflow_mul-at c = omega (arith, at_mul _ _ _ c.source_of-s.ensures (c.requires.by_index c.loop-j.j c.loop-j-test.true).1 c.requires.starts_len_bound.0)

pub overflow_add-at : goal.overflow_add-at
overflow_add-at c =
    omega (arith, at_cell _ _ _ c.source_of-s.ensures (c.requires.by_index c.loop-j.j c.loop-j-test.true).1 c.loop-j-test.true c.requires.starts_len_bound.0)

pub offset_bounds-plan-at : goal.offset_bounds-plan-at
offset_bounds-plan-at c =
    omega (arith, at_cell _ _ _ c.source_of-s.ensures (c.requires.by_index c.loop-j.j c.loop-j-test.true).1 c.loop-j-test.true c.requires.starts_len_bound.0)

pub bounds-plan-at : goal.bounds-plan-at
bounds-plan-at c =
    omega (
      arith,
      c.requires.starts_len_bound.2,
      at_cell _ _ _ c.source_of-s.ensures (c.requires.by_index c.loop-j.j c.loop-j-test.true).1 c.loop-j-test.true c.requires.starts_len_bound.0,
    )

pub bounds-flow-j : goal.bounds-flow-j
bounds-flow-j c = omega (arith, c.loop-j-test.true, c.requires.starts_len_bound.1, c.loop-j.invariant.long)

pub loop-j-preserved : goal.loop-j-preserved
loop-j-preserved c =
    let a = c.args in
    put_next 0 (flow_in c.args.plan.now c.args.starts.now c.args.w c.args.v c.args.named c.args.carried) 0 a.flow.now c.loop-j.j c.loop-j.j _ _
    (omega arith) (omega (arith, c.loop-j-test.true, c.requires.starts_len_bound.1))
    (c.at_named.ensures ∙
    ap (λ (s : ℕ). cond (eqb c.loop-j.j a.named) a.carried (get_or a.plan.now (s * length a.starts.now + c.loop-j.j) 0)) c.source_of-s.ensures)
    c.loop-j.invariant
