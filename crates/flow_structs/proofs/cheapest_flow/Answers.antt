-- `flow_structs::cheapest_flow` meets its contract, by what is found and how the arcs are written. Assumes nothing.
use mathlib.Core.Path.{refl}
use Rattle.flow_arcs.proofs.FoundLaws.{arcs_answered}
use Rattle.flow_structs.proofs.cheapest_flow.Goals as goal

pub returns : goal.returns
returns c = arcs_answered _ _ _ _ _ _ _ _ _ _ c.find-found.ensures refl c.write.ensures refl
