-- `cuts::columns::tables` meets its contract. Assumes nothing.
use Rattle.cuts.proofs.TablesKept.{refill, roomy_turn, tables_wide, tables_narrow}
use Rattle.cuts.proofs.columns.tables.Goals as goal

pub returns-then-wide : goal.returns-then-wide
returns-then-wide c = let r = c.requires in tables_wide c.if-wide.true r.transpose_ready.0 r.x_len.0 r.x_len.1 c.by_terminal.ensures

pub by_terminal-requires-2 : goal.by_terminal-requires-2
by_terminal-requires-2 c = let r = c.requires in (roomy_turn r.transpose_ready.0 c.with_room.ensures, refill r.transpose_ready.1)

pub returns : goal.returns
returns c =
    let r = c.requires in tables_narrow c.if-wide.false r.transpose_ready.0 r.x_len.0 c.with_room.ensures c.by_terminal-2.ensures
