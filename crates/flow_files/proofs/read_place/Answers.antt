-- `flow_files::read_place` meets its contract. Assumes nothing.
use mathlib.Core.Path.{sym, ap, ◌∙◌}
use Rattle.flow_files.specs.Printing.{place_for, place_of}
use Rattle.flow_files.proofs.read_place.Goals as goal

pub returns-in-Some : goal.returns-in-Some
unfolding place_of
returns-in-Some c = sym (ap place_for (sym c.read_short.ensures ∙ c.in-Some.is))

pub returns-in-None : goal.returns-in-None
unfolding place_of
returns-in-None c = sym (ap place_for (sym c.read_short.ensures ∙ c.in-None.is))
