-- `dimacs::bytes::byte_at` meets its contract. Assumes nothing.
use mathlib.Core.Path.{sym}
use native.Mathlib.Omega.{arith}
use lib.ListN.{get_or-eq_default}
use Rattle.dimacs.proofs.LineOffsets.{at_any}
use Rattle.dimacs.proofs.bytes.byte_at.Goals as goal

pub returns-then-at-s : goal.returns-then-at-s
returns-then-at-s c = let a = c.args in at_any a.s.now a.at 0 10 (omega arith)

pub returns-else-at-s : goal.returns-else-at-s
returns-else-at-s c = let a = c.args in sym (get_or-eq_default a.s.now 10 {n = a.at} (omega arith))
