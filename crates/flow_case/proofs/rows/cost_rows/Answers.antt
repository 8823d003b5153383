-- `flow_case::rows::cost_rows` meets its contract. Assumes nothing.
use mathlib.Core.Path.{refl, ap, ◌∙◌}
use Prim.Native.Nat.{ℕ, ◌+◌}
use native.Mathlib.Omega.{arith}
use lib.ListN.{length}
use lib.IntN.{pos}
use Rattle.flow_problem.specs.inner.Reduce.{node_of}
use Rattle.flow_case.specs.inner.Build.{cost_in}
use Rattle.flow_case.proofs.RowLoops.{rows_none, rows_next, after_next, put_ext, at_mul}
use Rattle.flow_case.proofs.rows.cost_rows.Goals as goal

pub loop-s-init : goal.loop-s-init
loop-s-init c = (rows_none (pos 0) (λ s j. cost_in c.args.starts.now c.args.costs.now (node_of c.args.w c.args.v s + 1) j) (length c.args.starts.now) c.args.to.now, c.requires.m_bound.3, λ k h. refl)

pub overflow_add-i : goal.overflow_add-i
overflow_add-i c = omega (arith, c.node_of-i.ensures, c.requires.by_index c.loop-s.s c.loop-s-test.true, c.requires.m_bound.0)

pub overflow_mul-s : goal.overflow_mul-s
overflow_mul-s c = omega (arith, at_mul c.loop-s.s c.loop-s.s (length c.args.starts.now) refl (omega (arith, c.loop-s-test.true, c.requires.m_bound.0)) c.requires.m_bound.1)

pub costs_into-requires : goal.costs_into-requires
costs_into-requires c = (
  c.requires.m_bound.2,
  omega (arith, c.requires.m_bound.1, at_mul c.loop-s.s c.loop-s.s (length c.args.starts.now) refl (omega (arith, c.loop-s-test.true, c.requires.m_bound.0)) c.requires.m_bound.1),
  c.loop-s.invariant.1,
)

pub loop-s-preserved : goal.loop-s-preserved
loop-s-preserved c =
    let a = c.args in
    let n = length a.starts.now in
    let s = c.loop-s.s in (
      rows_next (pos 0) (λ s j. cost_in c.args.starts.now c.args.costs.now (node_of c.args.w c.args.v s + 1) j) n s
          _ _ _ refl c.loop-s.invariant.0
          (put_ext (λ j. ap (λ (i : ℕ). cost_in a.starts.now a.costs.now (i + 1) j) c.node_of-i.ensures) c.costs_into.ensures),
      c.costs_into.ensures.long ∙ c.loop-s.invariant.1,
      after_next n s _ a.to.now _ _ refl c.loop-s.invariant.2 c.costs_into.ensures,
    )
