-- `flow_case::rows::costs_into` meets its contract. Assumes nothing.
use mathlib.Core.Path.{refl, ap, ◌∙◌}
use native.Mathlib.Omega.{arith}
use lib.ListN.{get_or}
use mathlib.Core.Bool.{cond}
use lib.Dec.{eqb}
use lib.IntN.{ℤ, pos}
use Rattle.flow_case.specs.inner.Build.{cost_in}
use Rattle.flow_case.proofs.RowLoops.{put_none, put_next}
use Rattle.problem.proofs.MachineIntegers.{read_back}
use Rattle.flow_case.proofs.rows.costs_into.Goals as goal

pub loop-j-init : goal.loop-j-init
loop-j-init c = put_none (pos 0) (cost_in c.args.starts.now c.args.costs.now c.args.id) c.args.at c.args.to.now

pub loop-j-preserved : goal.loop-j-preserved
loop-j-preserved c =
    let a = c.args in
    put_next (pos 0) (cost_in a.starts.now a.costs.now a.id) a.at a.to.now c.loop-j.j _ _
    _ refl (omega (arith, c.loop-j-test.true, c.requires.1, c.requires.2))
    (read_back _ c.rate.type_inv ∙ c.rate.ensures ∙ ap (λ (z : ℤ). cond (eqb (get_or a.starts.now c.loop-j.j 0) a.id) z (pos 0)) (read_back _ c.rate-arg-1.given))
    c.loop-j.invariant
