-- `stretch::stretch::revise` meets its contract. Assumes nothing.
use native.Mathlib.Omega.{arith}
use Rattle.stretch.proofs.StretchLine.{revise_scan, revise_gains, revise_losses, revise_short, revise_keep, revised}
use Rattle.stretch.proofs.stretch.revise.Goals as goal

pub overflow_cast-gain : goal.overflow_cast-gain
overflow_cast-gain c = let s = c.requires in omega (arith, (revise_scan s.ready s.sent).rise)

pub overflow_cast-loss : goal.overflow_cast-loss
overflow_cast-loss c = let s = c.requires in omega (arith, (revise_scan s.ready s.sent).fall)

pub overflow_mul-value : goal.overflow_mul-value
overflow_mul-value c = let s = c.requires in omega (arith, revise_gains s.ready s.sent)

pub overflow_add-value : goal.overflow_add-value
overflow_add-value c = let s = c.requires in omega (arith, revise_gains s.ready s.sent, s.ready.start)

pub overflow_mul-value-2 : goal.overflow_mul-value-2
overflow_mul-value-2 c = let s = c.requires in omega (arith, revise_losses s.ready s.sent)

pub overflow_sub-value : goal.overflow_sub-value
overflow_sub-value c = let s = c.requires in revise_short s.ready s.sent

pub scan-held-requires : goal.scan-held-requires
scan-held-requires c = let s = c.requires in revise_scan s.ready s.sent

pub keep-requires : goal.keep-requires
keep-requires c = let s = c.requires in revise_keep s.ready s.sent c.scan-held.ensures

pub returns : goal.returns
returns c = λ N x₀ p₀ limit r s. revised r s c.scan-held.ensures c.keep.ensures c.hold.ensures
