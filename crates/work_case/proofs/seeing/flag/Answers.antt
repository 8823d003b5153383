-- `work_case::seeing::flag` meets its contract. Assumes nothing.
use borrow.Author.Tests.{eq-eqb, ne_eqb}
use Rattle.work_store.proofs.LimitLaws.{flag_0, flag_1}
use Rattle.work_case.proofs.seeing.flag.Goals as goal

pub returns-then-cell-eq0 : goal.returns-then-cell-eq0
returns-then-cell-eq0 c = flag_0 c.args.cell (eq-eqb _ 0 c.if-cell-eq0.true)

pub returns-else-cell-eq0 : goal.returns-else-cell-eq0
returns-else-cell-eq0 c = flag_1 c.args.cell (ne_eqb _ 0 c.if-cell-eq0.false)
