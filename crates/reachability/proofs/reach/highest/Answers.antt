-- `reachability::reach::highest` meets its contract. Assumes nothing.
use native.Mathlib.Omega.{arith}
use Rattle.reachability.proofs.MaskBits.{high_set, high_fits}
use Rattle.reachability.proofs.reach.highest.Goals as goal

pub overflow_cast-result : goal.overflow_cast-result
overflow_cast-result c = omega (arith, high_fits 64 c.args.rest c.requires.rest_nonzero c.requires.rest_bound)

pub overflow_sub-result : goal.overflow_sub-result
overflow_sub-result c = omega (arith, high_fits 64 c.args.rest c.requires.rest_nonzero c.requires.rest_bound)

pub returns : goal.returns
returns c = high_set 64 c.args.rest c.requires.rest_nonzero c.requires.rest_bound
