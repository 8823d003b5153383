-- `cuts::cut::cut` meets its contract. Assumes nothing.
use native.Mathlib.Omega.{arith}
use Rattle.cuts.proofs.CutSteps.{weigh_most}
use Rattle.cuts.proofs.CutSlack.{shift_lift}
use Rattle.cuts.proofs.cut.cut.Goals as goal

pub nearest-far-requires : goal.nearest-far-requires
nearest-far-requires c =
    let r = c.requires.cut_ready in
    record { sources = r.sources; terminals = r.terminals; costs = r.costs; columns_most = r.columns_most; most = weigh_most c.weights-weight.ensures r.high }

pub returns-then-back-ahead : goal.returns-then-back-ahead
returns-then-back-ahead c =
    shift_lift _ c.requires.cut_ready c.way_out-exit.ensures c.weights-weight.ensures c.nearest-far.ensures
    (omega (arith, c.if-exit-lt1000000000.false, c.if-back-ahead.true))
    (omega (arith, c.if-far-lt800000000.false, c.if-back-ahead.true))
    c.lift-done.ensures

pub returns : goal.returns
returns c =
    shift_lift _ c.requires.cut_ready c.way_out-exit.ensures c.weights-weight.ensures c.nearest-far.ensures
    (omega (arith, c.if-exit-lt1000000000.false, c.if-back-ahead.false))
    (omega (arith, c.if-far-lt800000000.false, c.if-back-ahead.false))
    c.lift-done-2.ensures
