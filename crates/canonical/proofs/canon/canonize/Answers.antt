-- `canonical::canon::canonize` meets its contract. Assumes nothing.
use Rattle.canonical.proofs.LaneStores.{part_ready, part_begin, kept_all, open_start, canonized}
use Rattle.canonical.proofs.canon.canonize.Goals as goal

pub part-requires : goal.part-requires
part-requires c =
    let r = part_ready c.requires in record { part_ready = r; parted_to = part_begin r c.places.ensures }

pub settle-requires : goal.settle-requires
settle-requires c =
    let d = c.part.ensures in open_start c.requires d.parted_to_2 (kept_all d.kept)

pub returns : goal.returns
returns c =
    let d = c.part.ensures in canonized c.requires d.parted_to_2 (kept_all d.kept) c.settle.ensures.onward c.settle.ensures.fact.longs.long_o
