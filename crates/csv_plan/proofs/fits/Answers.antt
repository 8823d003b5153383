-- `csv_plan::fits` meets its contract. Assumes nothing.
use mathlib.Core.Bool.{false≢true}
use Prim.Native.Nat.{◌*◌, ◌≤◌}
use native.Mathlib.Omega.{arith}
use native.Mathlib.Nat.{mul-le-mul}
use Rattle.csv_plan.proofs.fits.Goals as goal

pub returns-then-m-gt32 : goal.returns-then-m-gt32
returns-then-m-gt32 c = record { yes = λ e. absurd (false≢true e); no = λ e p. omega (arith, p.sources, c.if-m-gt32.true) }

pub returns-then-n-gt64 : goal.returns-then-n-gt64
returns-then-n-gt64 c = record { yes = λ e. absurd (false≢true e); no = λ e p. omega (arith, p.terminals, c.if-n-gt64.true) }

pub overflow_mul-m : goal.overflow_mul-m
overflow_mul-m c = let z : c.args.m * c.args.n ≤ 32 * 64 = mul-le-mul c.if-m-gt32.false c.if-n-gt64.false in omega arith

pub overflow_mul-m-then-narrow_costs : goal.overflow_mul-m-then-narrow_costs
overflow_mul-m-then-narrow_costs c =
    let z : c.args.m * c.args.n ≤ 32 * 64 = mul-le-mul c.if-m-gt32.false c.if-n-gt64.false in omega arith

pub returns-then-narrow_costs : goal.returns-then-narrow_costs
returns-then-narrow_costs c =
    let costs = c.narrow_costs.ensures.yes c.if-narrow_costs.true in
    record {
      yes = λ e. record { sources = c.if-m-gt32.false; terminals = c.if-n-gt64.false; narrow_costs = costs; narrow_plan = c.narrow.ensures.yes e };
      no = λ e p. c.narrow.ensures.no e p.narrow_plan;
    }

pub returns : goal.returns
returns c = record { yes = λ e. absurd (false≢true e); no = λ e p. c.narrow_costs.ensures.no c.if-narrow_costs.false p.narrow_costs }
