-- `csv_form::field::digit_at` meets its contract. Assumes nothing.
use mathlib.Core.Path.{sym, ap}
use Rattle.csv_form.specs.inner.Reader.{digit_of}
use Rattle.csv_form.proofs.ByteMarks.{mark_digit, below_none, above_none, nothing_none}
use Rattle.csv_form.proofs.field.digit_at.Goals as goal

pub returns-then-s-at : goal.returns-then-s-at
returns-then-s-at c = nothing_none c.args.s.now c.args.at c.if-s-at.true

pub returns-then-b-lt48 : goal.returns-then-b-lt48
returns-then-b-lt48 c = below_none _ c.if-b-lt48.true

pub returns-then-b-gt57 : goal.returns-then-b-gt57
returns-then-b-gt57 c = above_none _ c.if-b-gt57.true

pub returns : goal.returns
returns c = sym (ap digit_of (mark_digit _ c.if-b-lt48.false c.if-b-gt57.false))
