-- The arcs that a trial lends: six of sevens. Assumes nothing.
use Rattle.std.specs.Prelude.{List, [], ◌∷◌, pos}
use Rattle.flow_arcs.specs.declared.Arc.{Arc}

abbrev pub seven_arc : Arc
seven_arc = record { start = 7; end = 7; ceiling = 7; cost = pos 7 }

abbrev pub seven_arcs : List Arc
seven_arcs = seven_arc ∷ seven_arc ∷ seven_arc ∷ seven_arc ∷ seven_arc ∷ seven_arc ∷ []
