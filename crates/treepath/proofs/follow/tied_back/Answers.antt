-- `treepath::follow::tied_back` meets its contract. Assumes nothing.
use Prim.Native.Nat.{◌-◌}
use native.Mathlib.Omega.{arith}
use mathlib.Core.Path.{refl}
use Rattle.treepath.proofs.TreeWalk.{tied_back}
use Rattle.treepath.proofs.follow.tied_back.Goals as goal

pub returns-then-w-lt32 : goal.returns-then-w-lt32
returns-then-w-lt32 c = λ e. absurd (omega arith)

pub returns-then-lanes-w : goal.returns-then-lanes-w
returns-then-lanes-w c = λ e. absurd (omega arith)

pub even-requires : goal.even-requires
even-requires c =
    let r = c.requires.follow_ready in
    let l = c.requires.lt_m in (r.costs c.args.v (c.args.w - 32) l (omega (arith, c.if-lanes-w.false, c.if-w-lt32.false)), r.high c.args.v (omega (arith, r.sources, l)))

pub returns-then-even : goal.returns-then-even
returns-then-even c =
    let r = c.requires.follow_ready in
    λ e. tied_back r.sources r.terminals e c.requires.lt_m c.if-w-lt32.false c.if-lanes-w.false refl (c.even.ensures c.if-even.true)

pub returns : goal.returns
returns c = λ e. absurd (omega arith)
