use Rattle.export_files.proofs.Writings.{texts_untold, texts_told}
use Rattle.export_files.proofs.writing.write_texts.Goals as goal

-- src/writing.rt:45:9
pub returns-then-report-lt2 : goal.returns-then-report-lt2
returns-then-report-lt2 c = texts_untold _ _ _ _ _ _ c.if-report-lt2.true

-- src/writing.rt:31:1
pub returns : goal.returns
returns c =
    let t = c.tell_texts.ensures in
    texts_told _ _ _ _ _ _ _ _ _ _ _ c.if-report-lt2.false (c.write_case-texts.ensures 2048 4001 4001) t.0 t.1
