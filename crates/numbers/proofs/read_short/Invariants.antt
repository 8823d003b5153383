-- `numbers::read_short` meets its contract. The invariant: the first k bytes are digits, and value is their number. Assumes nothing.
use Rattle.numbers.proofs.DigitsRead.{Reading}
use Rattle.numbers.proofs.read_short.Given as goal

abbrev pub invariant-loop-byte : goal.invariant-loop-byte
invariant-loop-byte l = Reading l.text l.value l.byte-index
