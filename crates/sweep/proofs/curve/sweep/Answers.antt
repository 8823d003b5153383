-- `sweep::curve::sweep` meets its contract. Assumes nothing.
use Rattle.std.proofs.Common.{arith}
use Rattle.sweep.proofs.SweepEnds.{freight_ready, climb_ready, both_made, cols_met, swept_same}
use Rattle.sweep.proofs.curve.sweep.Goals as goal

pub freight_of-freight-requires : goal.freight_of-freight-requires
freight_of-freight-requires c = let s = c.requires in freight_ready s.sweep_start.begun s.sweep_ready

pub climb-requires : goal.climb-requires
climb-requires c =
    let b = c.requires.sweep_start.begun in
    let r = c.requires.sweep_ready in record { climb_ready = climb_ready b r c.freight_of-freight.ensures; wanted = λ j h. omega (arith, cols_met b r j h); covers = b.covers }

pub returns : goal.returns
returns c =
    let r = c.requires.sweep_ready in
    λ made a b. swept_same _ _ (both_made b r) (λ i h l. b.at.depots i h l) (cols_met b r) b.plant_slack.sound.sources c.climb.ensures
