-- `work_edits::edits::least_run` meets its contract. Assumes nothing.
use borrow.Author.Tests.{eq-eqb, ne_eqb}
use Rattle.work_store.specs.inner.OpenStore.{run_in}
use Rattle.work_edits.proofs.edits.least_run.Goals as goal

pub returns-then-i-eq1 : goal.returns-then-i-eq1
unfolding run_in
returns-then-i-eq1 c = simp (eq-eqb c.args.i 1 c.if-i-eq1.true)

pub returns-then-i-eq2 : goal.returns-then-i-eq2
unfolding run_in
returns-then-i-eq2 c =
    simp (ne_eqb c.args.i 1 c.if-i-eq1.false, eq-eqb c.args.i 2 c.if-i-eq2.true)

pub returns-else-i-eq2 : goal.returns-else-i-eq2
unfolding run_in
returns-else-i-eq2 c = simp (ne_eqb c.args.i 1 c.if-i-eq1.false, ne_eqb c.args.i 2 c.if-i-eq2.false)
