-- `stretch::stretch::send_drums` meets its contract. Assumes nothing.
use Rattle.augment.proofs.LaneMarks.{trail_wide, cover_walk}
use Rattle.stretch.proofs.stretch.send_drums.Goals as goal

pub find_path-path-requires : goal.find_path-path-requires
find_path-path-requires c = record { shift_ready = c.requires.shift_ready; wanted = c.requires.wanted; covers = c.requires.covers; tables = c.requires.tables; prev_len = c.requires.prev_len }

pub shift-path-requires : goal.shift-path-requires
shift-path-requires c =
    let e = c.find_path-path.ensures.same in
    let f = c.find_path-path.ensures.path_taken.ahead in record { walkable = rw e f.done.able; trail = trail_wide _ f.ready.plant_slack.sound.sources _ _ f.done.trail }

pub returns : goal.returns
returns c =
    let f = c.find_path-path.ensures in
    let e = f.same in
    let s = c.shift-path.ensures in record { sent = record { taken = f.path_taken; walked = rw (← e) s.walked }; covers_2 = cover_walk f.path_taken.ahead.ready.plant_slack.sound.terminals _ _ _ _ _ _ f.path_taken.ahead.done.trail (rw e f.covers_2) s.walked s.marks; tables_2 = s.by_index _ _ (rw e c.requires.tables) }
