use Rattle.export_files.proofs.Writings.{texts_untold, texts_told}
use Rattle.export_files.proofs.writing.rewrite_texts.Goals as goal

-- src/writing.rt:71:9
pub returns-then-report-lt2 : goal.returns-then-report-lt2
returns-then-report-lt2 c = texts_untold _ _ _ _ _ _ c.if-report-lt2.true

-- src/writing.rt:61:1
pub returns : goal.returns
returns c =
    let t = c.tell_texts.ensures in
    texts_told _ _ _ _ _ _ _ _ _ _ _ c.if-report-lt2.false c.rewrite_files-texts.ensures t.0 t.1
