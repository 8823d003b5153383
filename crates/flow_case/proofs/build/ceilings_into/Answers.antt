-- `flow_case::build::ceilings_into` meets its contract. Assumes nothing.
use native.Mathlib.Omega.{arith}
use lib.ListN.{get_or}
use Rattle.flow_case.proofs.FillLoops.{into_none, into_next, at_most_value}
use Rattle.flow_case.proofs.build.ceilings_into.Goals as goal

pub loop-j-init : goal.loop-j-init
loop-j-init c = (into_none _ _ _, omega arith)

pub overflow_add-sum : goal.overflow_add-sum
overflow_add-sum c =
    let a = c.args in
    omega (
      arith,
      c.loop-j.invariant.1,
      c.loop-j-test.true,
      c.requires.moderate.few,
      c.requires.ends_len,
      at_most_value (get_or a.ends.now c.loop-j.j 0) a.id (get_or a.ceilings.now c.loop-j.j 0),
      c.counted-sum.ensures,
      c.requires.moderate.small c.loop-j.j (omega (arith, c.loop-j-test.true, c.requires.ends_len)),
    )

pub loop-j-preserved : goal.loop-j-preserved
loop-j-preserved c =
    let a = c.args in (
      into_next a.ends.now a.ceilings.now a.id _ _ _ c.counted-sum.ensures c.loop-j.invariant.0,
      omega (
        arith,
        c.loop-j.invariant.1,
        at_most_value (get_or a.ends.now c.loop-j.j 0) a.id (get_or a.ceilings.now c.loop-j.j 0),
        c.counted-sum.ensures,
        c.requires.moderate.small c.loop-j.j (omega (arith, c.loop-j-test.true, c.requires.ends_len)),
      ),
    )
