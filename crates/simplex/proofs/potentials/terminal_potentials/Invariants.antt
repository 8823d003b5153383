-- `simplex::potentials::terminal_potentials` meets its contract. Assumes nothing.
use Rattle.std.proofs.Common.{◌≡◌, length}
use Rattle.simplex.proofs.potentials.terminal_potentials.Given as goal

abbrev pub invariant-loop-j : goal.invariant-loop-j
invariant-loop-j l = length l.pot ≡ 96
