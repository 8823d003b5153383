-- `stretch::shift::shift` meets its contract. Assumes nothing.
use Rattle.stretch.proofs.TableArcs.{tables_wide, tables_within}
use Rattle.stretch.proofs.shift.shift.Goals as goal

pub push-requires : goal.push-requires
push-requires c = record { walkable = c.requires.walkable; trail = c.requires.trail }

pub returns-then-wide : goal.returns-then-wide
returns-then-wide c = record { walked = c.push.ensures.walked; marks = c.push.ensures.marks; by_index = λ m n t. tables_wide _ _ _ _ _ _ c.if-wide.true c.push.ensures.walked m n t }

pub shift_within-requires : goal.shift_within-requires
shift_within-requires c = record { walkable = c.requires.walkable; trail = c.requires.trail }

pub returns : goal.returns
returns c = let s = c.shift_within.ensures in record { walked = s.walked; marks = s.marks; by_index = tables_within c.if-wide.false s.by_index }
