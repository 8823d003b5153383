-- `validation::tests::made_of` meets its contract. Assumes nothing.
use mathlib.Core.Path.{◌≡◌, sym, ◌∙◌}
use Prim.Native.Nat.{◌-◌, ◌+◌, ◌≤◌}
use native.Mathlib.Omega.{arith}
use lib.ListN.{length, get_or, take, drop}
use Rattle.transport.specs.Sum.{sum}
use Rattle.problem.proofs.TestParts.{sum_most}
use Rattle.validation.proofs.Balance.{depots_length, depots_most, depots_sum, made_below, made_above, made_drums}
use Rattle.validation.proofs.tests.made_of.Goals.{After-sum_of-stock}
use Rattle.validation.proofs.tests.made_of.Goals as goal

-- the depots' stock
stock_is :
    (c : After-sum_of-stock) →
    c.sum_of-stock.result ≡ sum (length c.args.supplies.now - 2) (λ k. get_or c.args.supplies.now (2 + k) 0)
stock_is c = c.sum_of-stock.ensures ∙ depots_sum c.args.supplies.now c.requires.two

-- it is small, and so are the runs
small : (c : After-sum_of-stock) → (c.sum_of-stock.result ≤ 128000) × (c.args.run1 ≤ 4000) × (c.args.run2 ≤ 4000)
small c =
    let p = c.requires in (
      omega (
        arith,
        c.sum_of-stock.ensures,
        sum_most (take (length c.args.supplies.now - 2) (drop 2 c.args.supplies.now)) (depots_most c.args.supplies.now p.two p.supplies),
        depots_length c.args.supplies.now p.two,
        p.sources,
      ),
      omega (arith, p.run1, p.supplies 0 (omega (arith, p.two))),
      omega (arith, p.run2, p.supplies 1 (omega (arith, p.two))),
    )

pub sum_of-stock-requires-clause-small : goal.sum_of-stock-requires-clause-small
sum_of-stock-requires-clause-small c = depots_most c.args.supplies.now c.requires.two c.requires.supplies

pub overflow_add-stock : goal.overflow_add-stock
overflow_add-stock c = omega (arith, small (goal.at.overflow_add-stock c).After-sum_of-stock)

pub overflow_add-stock-2 : goal.overflow_add-stock-2
overflow_add-stock-2 c = omega (arith, small (goal.at.overflow_add-stock-2 c).After-sum_of-stock)

pub returns-then-all-stock : goal.returns-then-all-stock
returns-then-all-stock c =
    sym (made_below c.args.run1 c.args.run2 c.args.supplies.now c.args.demands.now _ _ c.sum_of-all.ensures (stock_is (goal.at.returns-then-all-stock c).After-sum_of-stock) c.if-all-stock.true)

pub returns-then-supplies-made : goal.returns-then-supplies-made
returns-then-supplies-made c =
    sym (made_above c.args.run1 c.args.run2 c.args.supplies.now c.args.demands.now _ _
    c.sum_of-all.ensures (stock_is (goal.at.returns-then-supplies-made c).After-sum_of-stock) c.if-all-stock.false c.if-supplies-made.true)

pub returns : goal.returns
returns c =
    sym (made_drums c.args.run1 c.args.run2 c.args.supplies.now c.args.demands.now _ _
    c.sum_of-all.ensures (stock_is (goal.at.returns c).After-sum_of-stock) c.if-all-stock.false c.if-supplies-made.false)
