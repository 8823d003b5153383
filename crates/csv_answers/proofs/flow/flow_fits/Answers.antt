-- `csv_answers::flow::flow_fits` meets its contract. Assumes nothing.
use mathlib.Core.Bool.{false≢true}
use native.Mathlib.Omega.{arith}
use Rattle.csv_answers.proofs.flow.flow_fits.Goals as goal

pub returns-then-count-gt64 : goal.returns-then-count-gt64
returns-then-count-gt64 c = record { yes = λ e. absurd (false≢true e); no = λ e p. omega (arith, p.few, c.if-count-gt64.true) }

pub returns-then-ends-count : goal.returns-then-ends-count
returns-then-ends-count c = record { yes = λ e. absurd (false≢true e); no = λ e p. omega (arith, p.in_ends, c.if-ends-count.true) }

pub returns-then-charge-gt4294967295 : goal.returns-then-charge-gt4294967295
returns-then-charge-gt4294967295 c = record { yes = λ e. absurd (false≢true e); no = λ e p. omega (arith, p.charged, c.if-charge-gt4294967295.true) }

pub returns-then-narrow_costs : goal.returns-then-narrow_costs
returns-then-narrow_costs c =
    let costs = c.narrow_costs.ensures.yes c.if-narrow_costs.true in
    record {
      yes = λ e. record {
        few = omega arith;
        in_ends = omega arith;
        charged = omega arith;
        narrow_costs = costs;
        narrow_amounts = c.narrow.ensures.yes e;
      };
      no = λ e p. c.narrow.ensures.no e p.narrow_amounts;
    }

pub returns : goal.returns
returns c = record { yes = λ e. absurd (false≢true e); no = λ e p. c.narrow_costs.ensures.no c.if-narrow_costs.false p.narrow_costs }
