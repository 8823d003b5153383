-- `stretch::stretch::find_path` meets its contract. Assumes nothing.
use mathlib.Core.Path.{refl, ◌∙◌}
use Rattle.stretch.proofs.AfterCuts.{cut_levels, cut_priced, shift_on}
use Rattle.stretch.proofs.ShiftPath.{tree_taken}
use Rattle.stretch.proofs.stretch.find_path.Goals as goal

pub advance-requires : goal.advance-requires
advance-requires c =
    let r = c.requires in record { tables = r.tables; weights_ready = cut_levels r.shift_ready; priced = cut_priced c.args.lanes.now.cap.now r.shift_ready; lt_sources = (r.shift_ready.plant_slack.plants, r.prev_len) }

pub search_path-requires : goal.search_path-requires
search_path-requires c =
    let r = c.requires in
    let e = c.advance.ensures.same in
    let a = c.advance.ensures.advanced_under in record { shift_ready = rw e (shift_on c.args.lanes.now.cap.now r.shift_ready r.covers a); wanted = rw e r.wanted; covers = rw e (a.covers r.covers) }

pub returns-in_default : goal.returns-in_default
returns-in_default c =
    let e = c.advance.ensures.same in
    let s = c.search_path.ensures in
    record { path_taken = rw (← e) s.path_taken; covers_2 = rw s.same.1 (c.advance.ensures.advanced_under.covers c.requires.covers); same = s.same.0 ∙ e }

pub returns : goal.returns
returns c =
    let r = c.requires in
    let a = c.advance.ensures in record { path_taken = tree_taken (shift_on c.args.lanes.now.cap.now r.shift_ready r.covers a.advanced_under) refl c.in-Some.ensures.followed; covers_2 = a.advanced_under.covers r.covers; same = a.same }
