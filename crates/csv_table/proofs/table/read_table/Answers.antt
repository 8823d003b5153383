-- `csv_table::table::read_table` meets its contract. Assumes nothing.
use Rattle.csv_table.proofs.TableReading.{whole_read}
use Rattle.csv_table.proofs.table.read_table.Goals as goal

pub returns : goal.returns
returns c = whole_read _ _ _ _ _ c.scan.ensures _ _ _ c.scan-2.ensures _ _ c.in_ok-scan.was
