-- `sweep::curve::keep_last` meets its contract. Assumes nothing.
use Rattle.std.proofs.Common.{sym, arith}
use Rattle.stretch.proofs.HeldPlan.{held_here, held_kept}
use Rattle.sweep.proofs.curve.keep_last.Goals as goal

pub returns-then-split-y : goal.returns-then-split-y
returns-then-split-y c = record { kept_after = sym (held_here _ _ (omega arith)); prices_after = sym (held_here _ _ (omega arith)) }

pub returns-else-split-y : goal.returns-else-split-y
returns-else-split-y c = record { kept_after = sym (held_kept _ _ (λ e. omega arith)); prices_after = sym (held_kept _ _ (λ e. omega arith)) }
