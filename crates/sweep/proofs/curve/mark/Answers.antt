-- `sweep::curve::mark` meets its contract. Assumes nothing.
use Rattle.std.proofs.Common.{sym, refl, ◌∙◌, true≢false}
use Rattle.sweep.proofs.curve.mark.Goals as goal

pub returns-then-stop : goal.returns-then-stop
returns-then-stop c =
    let t = c.if-stop.true in
    record {
      noted = λ e. c.note.ensures;
      same_splits = λ e. absurd (true≢false (sym t ∙ e));
      same_freights = λ e. absurd (true≢false (sym t ∙ e));
      same_count = λ e. absurd (true≢false (sym t ∙ e));
    }

pub returns : goal.returns
returns c =
    record { noted = λ e. absurd (true≢false (sym e ∙ c.if-stop.false)); same_splits = λ e. refl; same_freights = λ e. refl; same_count = λ e. refl }
