-- `canonical::canon::follow` meets its contract. Assumes nothing.
use Rattle.canonical.proofs.Rerouting.{way_route, way_walkable, way_marks, way_covers, followed}
use Rattle.canonical.proofs.canon.follow.Goals as goal

pub measure-way-requires : goal.measure-way-requires
measure-way-requires c = let s = c.requires in way_route s.free_ready s.limit_nonzero s.trodden

pub push-requires : goal.push-requires
push-requires c =
    let s = c.requires in
    let w = c.measure-way.ensures in record { walkable = way_walkable s.free_ready s.limit_nonzero s.trodden w; trail = way_marks s.free_ready s.limit_nonzero s.trodden w }

pub returns : goal.returns
returns c =
    let s = c.requires in
    let w = c.measure-way.ensures in
    let k = c.push.ensures in record { followed = followed s.free_ready s.limit_nonzero s.trodden w k.walked; covers_2 = way_covers s.free_ready s.limit_nonzero s.trodden w s.covers k.walked k.marks }
