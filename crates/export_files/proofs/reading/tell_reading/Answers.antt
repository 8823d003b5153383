use mathlib.Core.Path.{◌≡◌, sym, ap, ◌∙◌}
use native.Mathlib.Omega.{arith}
use Rattle.transport.specs.Curve.{written}
use Rattle.export_files.specs.Reading.{reading_number, reading_report}
use Rattle.export_reports.proofs.Reports.{two_written}
use Rattle.export_files.proofs.Readings.{three_written}
use lib.ListN.{length-set}
use Rattle.export_files.proofs.reading.tell_reading.Goals as goal

-- src/reading.rt:175:13
pub bounds-report-1 : goal.bounds-report-1
bounds-report-1 c = omega (arith, c.requires, length-set c.args.report.now 0 c.in-Read.m)

-- src/reading.rt:185:13
pub bounds-report-1-in-Refused : goal.bounds-report-1-in-Refused
bounds-report-1-in-Refused c = omega (arith, c.requires, length-set c.args.report.now 0 c.in-Refused.place)

-- src/reading.rt:168:1
pub returns-in-Read : goal.returns-in-Read
returns-in-Read c =
    let e : c.args.reading ≡ _ = c.in-Read.is in (
      sym (ap reading_number e),
      three_written c.args.report.now _ _ _ c.requires ∙ sym (ap (λ a. written (reading_report a) c.args.report.now) e),
    )

-- src/reading.rt:168:1
pub returns-in-Refused : goal.returns-in-Refused
returns-in-Refused c =
    let e : c.args.reading ≡ _ = c.in-Refused.is in (
      sym (ap reading_number e),
      two_written c.args.report.now _ _ (omega (arith, c.requires)) ∙ sym (ap (λ a. written (reading_report a) c.args.report.now) e),
    )
