-- `treepath::follow::tied` meets its contract. Assumes nothing.
use Rattle.treepath.proofs.follow.tied.Goals as goal

pub tied_back-requires : goal.tied_back-requires
tied_back-requires c = record { follow_ready = c.requires.follow_ready; lt_m = c.requires.v_lt_m.0 c.if-v-lt32.true }

pub returns-then-v-lt32 : goal.returns-then-v-lt32
returns-then-v-lt32 c = c.tied_back.ensures

pub tied_ahead-requires : goal.tied_ahead-requires
tied_ahead-requires c = record { follow_ready = c.requires.follow_ready; v_lt = (c.if-v-lt32.false, c.requires.v_lt_m.1 c.if-v-lt32.false) }

pub returns : goal.returns
returns c = c.tied_ahead.ensures
