-- `dimacs::form::line_end` meets its contract. Assumes nothing.
use mathlib.Core.Path.{◌≡◌, sym}
use lib.ListN.{length}
use native.Mathlib.Omega.{arith}
use Rattle.dimacs.proofs.FileLines.{along_start, along_next, along_lf, along_end}
use Rattle.dimacs.proofs.form.line_end.Goals as goal

pub loop-i-init : goal.loop-i-init
loop-i-init c = along_start _ _ c.requires

pub returns-then-s-i-eq10 : goal.returns-then-s-i-eq10
returns-then-s-i-eq10 c = along_lf _ _ _ c.loop-i.invariant c.loop-i-test.true c.if-s-i-eq10.true

pub loop-i-preserved : goal.loop-i-preserved
loop-i-preserved c = along_next _ _ _ c.loop-i.invariant c.loop-i-test.true c.if-s-i-eq10.false

pub returns : goal.returns
returns c =
    let e : c.loop-i.i ≡ length c.args.s.now = omega (arith, c.loop-i-test.false, c.loop-i.invariant.upto) in
    rw (sym e) (along_end _ _ _ c.loop-i.invariant c.loop-i-test.false)
