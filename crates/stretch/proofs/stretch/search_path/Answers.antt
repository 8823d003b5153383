-- `stretch::stretch::search_path` meets its contract. Assumes nothing.
use native.Mathlib.Omega.{arith}
use mathlib.Core.Path.{refl}
use Rattle.lastsplit.proofs.LastSplit.{only}
use Rattle.augment.proofs.PathMeasure.{route}
use Rattle.stretch.proofs.ShiftPath.{path_low, search_found, search_lower, search_taken}
use Rattle.stretch.proofs.stretch.search_path.Goals as goal

pub reach-found-requires : goal.reach-found-requires
reach-found-requires c = record { shift_ready = c.requires.shift_ready; wanted = c.requires.wanted; covers = c.requires.covers }

pub measure-way-requires : goal.measure-way-requires
measure-way-requires c =
    route c.args.lanes.now.m c.args.lanes.now.n c.args.lanes.now.cost.now c.requires.shift_ready.plant_slack.sound.sources (omega arith) c.reach-found.ensures.reached.searched

pub overflow_sub-gap : goal.overflow_sub-gap
overflow_sub-gap c =
    path_low c.requires.shift_ready (only c.args.limit) c.reach-found.ensures.reached.searched

pub lower-requires : goal.lower-requires
lower-requires c =
    search_lower c.requires.shift_ready c.reach-found.ensures.reached.searched

pub returns : goal.returns
returns c =
    let q = c.reach-found.ensures.reached.searched in
    let w = c.measure-way.ensures in
    let r = route c.args.lanes.now.m c.args.lanes.now.n c.args.lanes.now.cost.now c.requires.shift_ready.plant_slack.sound.sources (omega arith) q in
    record { path_taken = search_taken (search_found c.requires.shift_ready q refl refl (w.arcs r) (w.width r)) c.lower.ensures q.long.prevs; same = (refl, refl); below = c.reach-found.ensures.below }
