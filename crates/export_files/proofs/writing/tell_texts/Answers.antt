use mathlib.Core.Path.{◌≡◌, sym, ap, ◌∙◌}
use Rattle.transport.specs.Curve.{written}
use Rattle.write_case.specs.Writing.{refusal}
use Rattle.export_files.specs.Writing.{refusal_number, texts_report}
use Rattle.export_reports.proofs.Reports.{two_written, one_written}
use Rattle.export_files.proofs.writing.tell_texts.Goals as goal

-- src/writing.rt:13:1
pub returns-in-Written : goal.returns-in-Written
returns-in-Written c =
    let e : c.args.texts ≡ _ = c.in-Written.is in (
      sym (ap (λ a. refusal_number (refusal a)) e),
      two_written c.args.report.now _ _ c.requires ∙ sym (ap (λ a. written (texts_report a) c.args.report.now) e),
    )

-- src/writing.rt:13:1
pub returns-in-Refused : goal.returns-in-Refused
returns-in-Refused c =
    let e : c.args.texts ≡ _ = c.in-Refused.is in (
      sym (ap (λ a. refusal_number (refusal a)) e),
      one_written c.args.report.now _ c.requires ∙ sym (ap (λ a. written (texts_report a) c.args.report.now) e),
    )
