-- `csv_print::put_bytes` meets its contract. Assumes nothing.
use mathlib.Core.Path.{refl}
use Prim.Native.Nat.{◌-◌}
use native.Mathlib.Omega.{arith}
use Rattle.csv_print.proofs.Stores.{storing_start, storing_next, storing_end}
use Rattle.csv_print.proofs.put_bytes.Goals as goal

pub loop-j-init : goal.loop-j-init
loop-j-init c = storing_start _ _ _

pub overflow_add-at : goal.overflow_add-at
overflow_add-at c = omega (arith, c.requires)

pub put_byte-requires : goal.put_byte-requires
put_byte-requires c = omega (arith, c.requires)

pub loop-j-preserved : goal.loop-j-preserved
loop-j-preserved c =
    storing_next _ _ _ _ _ _ _ 0 c.loop-j-test.true refl c.put_byte.ensures.bytes c.loop-j.invariant

pub overflow_add-result : goal.overflow_add-result
overflow_add-result c = omega (arith, c.requires)

pub shape_of-out : goal.shape_of-out
shape_of-out c = c.loop-j.invariant.same

pub returns : goal.returns
returns c = record { bytes = storing_end _ _ _ _ _ c.loop-j-test.false c.loop-j.invariant; ends = refl; short = c.requires.text_len_bound }
