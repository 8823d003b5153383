-- `treepath::follow::tied_ahead` meets its contract. Assumes nothing.
use Prim.Native.Nat.{◌-◌}
use native.Mathlib.Omega.{arith}
use mathlib.Core.Path.{refl}
use Rattle.treepath.proofs.TreeWalk.{tied_ahead_lem}
use Rattle.treepath.proofs.follow.tied_ahead.Goals as goal

pub returns-then-lanes-w : goal.returns-then-lanes-w
returns-then-lanes-w c = λ e. absurd (omega arith)

pub returns-then-lanes-k : goal.returns-then-lanes-k
returns-then-lanes-k c = λ e. absurd (omega arith)

pub even-requires : goal.even-requires
even-requires c =
    let r = c.requires.follow_ready in
    let v = c.requires.v_lt in (r.costs c.args.w (c.args.v - 32) (omega (arith, c.if-lanes-w.false)) (omega (arith, v.0, v.1)), r.high c.args.w (omega (arith, r.sources, c.if-lanes-w.false)))

pub returns-then-even : goal.returns-then-even
returns-then-even c =
    let r = c.requires.follow_ready in
    let v = c.requires.v_lt in λ e. tied_ahead_lem r.sources r.terminals e v.0 v.1 (omega (arith, c.if-lanes-w.false)) refl (c.even.ensures c.if-even.true)

pub returns : goal.returns
returns c = λ e. absurd (omega arith)
