-- `csv_print::put_byte` meets its contract. Assumes nothing.
use mathlib.Core.Path.{sym}
use lib.Seq.{set_out}
use borrow.Author.Rules.{rules}
use Rattle.csv_print.proofs.put_byte.Goals as goal

pub returns : goal.returns
returns c = record { bytes = sym (set_out c.args.out.now c.args.at c.args.b c.if-at-out.false); ends = search rules; short = search rules }
