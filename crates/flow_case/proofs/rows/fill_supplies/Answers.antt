-- `flow_case::rows::fill_supplies` meets its contract. Assumes nothing.
use mathlib.Core.Path.{sym, ap, subst}
use Prim.Native.Nat.{ℕ, ◌-◌, ◌≤◌}
use native.Mathlib.Omega.{arith}
use lib.ListN.{get_or}
use Rattle.flow_case.specs.inner.Build.{stock_in}
use Rattle.flow_case.proofs.RowLoops.{put_none, put_next}
use Rattle.flow_case.proofs.rows.fill_supplies.Goals as goal

pub loop-s-init : goal.loop-s-init
loop-s-init c = put_none 0 (stock_in c.args.haves.now c.args.takes.now c.args.w c.args.v) 0 c.args.supplies.now

pub bounds-haves-i : goal.bounds-haves-i
bounds-haves-i c = omega (arith, c.node_of-i.ensures, (c.requires.by_index c.loop-s.s c.loop-s-test.true).0)

pub bounds-takes-i : goal.bounds-takes-i
bounds-takes-i c = omega (arith, c.node_of-i.ensures, (c.requires.by_index c.loop-s.s c.loop-s-test.true).0, c.requires.haves_len.0)

pub overflow_sub-supplies : goal.overflow_sub-supplies
overflow_sub-supplies c =
    let a = c.args in
    subst (λ (i : ℕ). get_or a.takes.now i 0 ≤ get_or a.haves.now i 0) (sym c.node_of-i.ensures) (c.requires.by_index c.loop-s.s c.loop-s-test.true).1

pub bounds-supplies-s : goal.bounds-supplies-s
bounds-supplies-s c = omega (arith, c.loop-s-test.true, c.requires.haves_len.1, c.loop-s.invariant.long)

pub loop-s-preserved : goal.loop-s-preserved
loop-s-preserved c =
    let a = c.args in
    put_next 0 (stock_in a.haves.now a.takes.now a.w a.v) 0 a.supplies.now
    c.loop-s.s c.loop-s.s _ _ (omega arith) (omega (arith, c.loop-s-test.true, c.requires.haves_len.1))
    (ap (λ (i : ℕ). get_or a.haves.now i 0 - get_or a.takes.now i 0) c.node_of-i.ensures) c.loop-s.invariant
