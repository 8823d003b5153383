use mathlib.Core.Path.{refl}
use Rattle.export_reports.proofs.Reports.{two_written}
use Rattle.export_files.proofs.printing.tell_printed.Goals as goal

-- src/printing.rt:13:1
pub returns : goal.returns
returns c = (refl, two_written c.args.report.now _ _ c.requires)
