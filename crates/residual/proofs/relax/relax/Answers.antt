-- `residual::relax::relax` meets its contract. Assumes nothing.
use Rattle.residual.proofs.Keys.{next_start}
use Rattle.residual.proofs.relax.relax.Goals as goal

pub relax_row-requires : goal.relax_row-requires
relax_row-requires c = record { row_ready = c.requires.relax_ready.row c.if-v-lt32.true; tags = c.requires.tags }

pub returns-then-v-lt32 : goal.returns-then-v-lt32
returns-then-v-lt32 c =
    let l = c.if-v-lt32.true in record { by_index = λ m a. c.relax_row.ensures.by_index m (a.source l) a.sources; by_index_2 = λ m a. c.relax_row.ensures.by_index_2 m (a.source l) a.sources; next = next_start }

pub relax_column-requires : goal.relax_column-requires
relax_column-requires c = record { column_ready = c.requires.relax_ready.column c.if-v-lt32.false; bits = c.requires.tags.bits }

pub returns : goal.returns
returns c = record { by_index = λ m a. c.relax_column.ensures.by_index m _ c.args.lanes.now.cap.now a; by_index_2 = λ m a. c.relax_column.ensures.rekeyed _ _; next = c.relax_column.ensures.next }
