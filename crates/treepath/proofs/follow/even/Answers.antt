-- `treepath::follow::even` meets its contract. Assumes nothing.
use mathlib.Core.Bool.{true≢false}
use mathlib.Core.Path.{sym}
use Rattle.treepath.proofs.follow.even.Goals as goal

pub returns : goal.returns
returns c = λ e. absurd (true≢false (sym e))
