-- The text has room: no text that is printed of three files is longer.
use Rattle.std.proofs.Common.{arith}
use Rattle.bounds_files.proofs.TextRoom.{text_fits}
use Rattle.bounds_command.proofs.answer.Goals as goal

pub whole-requires : goal.whole-requires
whole-requires c =
    let printed = c.bounds_files-printed in
    omega (arith, text_fits _ _ _ _ _ printed.result printed.ensures (omega arith) (omega arith))
