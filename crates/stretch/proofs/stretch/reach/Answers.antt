-- `stretch::stretch::reach` meets its contract. Assumes nothing.
use native.Mathlib.Omega.{arith}
use mathlib.Core.Path.{refl}
use Rattle.stretch.proofs.ShiftPath.{reached_by}
use Rattle.stretch.proofs.stretch.reach.Goals as goal

pub search-requires : goal.search-requires
search-requires c =
    let r = c.requires in record { search_ready = record { sound = r.shift_ready.plant_slack.sound; ceilings = r.shift_ready.plant_slack.ceilings; start = omega (arith, r.shift_ready.plant_slack.plants) }; wanted = r.wanted; covers = r.covers }

pub returns : goal.returns
returns c = let r = c.requires.shift_ready in record { reached = reached_by r (c.search.ensures.answered _ r.some); below = (refl, refl) }
