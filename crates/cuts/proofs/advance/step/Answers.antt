-- `cuts::advance::step` meets its contract. Assumes nothing.
use Rattle.cuts.proofs.Advancing.{advance_start, advance_cut}
use Rattle.cuts.proofs.advance.step.Goals as goal

pub returns-in_default : goal.returns-in_default
returns-in_default c = advance_start c.requires.cut_ready

pub returns-in_err-joint : goal.returns-in_err-joint
returns-in_err-joint c = advance_cut c.forget_above.ensures c.next_lane.ensures

pub returns : goal.returns
returns c = advance_cut c.forget_above.ensures c.next_lane.ensures
