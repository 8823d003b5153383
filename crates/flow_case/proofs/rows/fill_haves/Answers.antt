-- `flow_case::rows::fill_haves` meets its contract. Assumes nothing.
use mathlib.Core.Path.{ap}
use Prim.Native.Nat.{ℕ, ◌+◌}
use native.Mathlib.Omega.{arith}
use lib.ListN.{get_or}
use Rattle.flow_case.specs.inner.Build.{have_in}
use Rattle.flow_case.proofs.RowLoops.{put_none, put_next}
use Rattle.flow_case.proofs.FillLoops.{into_most}
use Rattle.flow_case.proofs.rows.fill_haves.Goals as goal

pub loop-i-init : goal.loop-i-init
loop-i-init c = put_none 0 (have_in c.args.ends.now c.args.ceilings.now c.args.gives.now) 0 c.args.haves.now

pub ceilings_into-into-requires : goal.ceilings_into-into-requires
ceilings_into-into-requires c = record { ends_len = c.requires.ends_len.0; moderate = c.requires.moderate.0 }

pub overflow_add-haves : goal.overflow_add-haves
overflow_add-haves c =
    omega (
      arith,
      c.requires.moderate.1 c.loop-i.i c.loop-i-test.true,
      c.ceilings_into-into.ensures,
      into_most c.args.ends.now c.args.ceilings.now (c.loop-i.i + 1) c.requires.ends_len.0 c.requires.moderate.0,
    )

pub bounds-haves-i : goal.bounds-haves-i
bounds-haves-i c = omega (arith, c.loop-i-test.true, c.requires.ends_len.1, c.loop-i.invariant.long)

pub loop-i-preserved : goal.loop-i-preserved
loop-i-preserved c =
    put_next 0 (have_in c.args.ends.now c.args.ceilings.now c.args.gives.now) 0 c.args.haves.now
    c.loop-i.i c.loop-i.i _ _ (omega arith) (omega (arith, c.loop-i-test.true, c.requires.ends_len.1))
    (ap (λ (n : ℕ). get_or c.args.gives.now c.loop-i.i 0 + n) c.ceilings_into-into.ensures) c.loop-i.invariant
