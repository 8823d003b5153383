-- `work_store::marks::copy_slot` meets its contract. Assumes nothing.
use Rattle.work_store.proofs.Slots.{slots_pair, slot_copied}
use Rattle.work_store.proofs.marks.copy_slot.Goals as goal

pub copy_cells-requires : goal.copy_cells-requires
copy_cells-requires c =
    slots_pair _ _ _ _ _ _ _ _ c.slot_start-a.ensures c.slot_start-b.ensures c.slot_width-width.ensures c.requires.fact c.requires.slots

pub returns : goal.returns
returns c =
    slot_copied _ _ _ _ _ _ _ _ c.slot_start-a.ensures c.slot_start-b.ensures c.slot_width-width.ensures _ c.copy_cells.ensures
