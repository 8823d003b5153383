-- `residual::relax::wins` meets its contract. Assumes nothing.
use mathlib.Core.Bool.{false≢true, true≢false}
use native.Mathlib.Omega.{arith}
use Rattle.residual.proofs.relax.wins.Goals as goal

pub returns-then-old-t : goal.returns-then-old-t
returns-then-old-t c = record { taken = λ e. absurd (false≢true e); left = λ e l. c.if-old-t.true }

pub returns-then-cap-x : goal.returns-then-cap-x
returns-then-cap-x c = record { taken = λ e. absurd (false≢true e); left = λ e l. absurd (omega (arith, c.if-cap-x.true)) }

pub returns : goal.returns
returns c = record { taken = λ e. (omega (arith, c.if-old-t.false), omega (arith, c.if-cap-x.false)); left = λ e l. absurd (true≢false e) }
