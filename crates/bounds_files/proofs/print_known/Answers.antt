-- `bounds_files::print_known` meets its contract. Assumes nothing.
use mathlib.Core.Path.{refl, sym}
use native.Mathlib.Omega.{arith}
use lib.Seq.{length-take-le}
use mir.Syntax.{w64}
use mir.ValLaws.{to_z-of_z}
use Rattle.bounds_files.proofs.print_known.Goals as goal

pub slice_bounds-marks-end : goal.slice_bounds-marks-end
slice_bounds-marks-end c = sym (length-take-le _ _ c.requires.0)

pub returns : goal.returns
returns c =
    let w = rw (to_z-of_z w64 c.args.smallest c.ranges.smallest, to_z-of_z w64 c.args.largest c.ranges.largest) at (c.put_bounds-length.ensures.text_written c.requires.1) in
    record { bytes = w.bytes; ends = omega (arith, w.ends); number_told = refl; place_told = refl; sources_told_lem = refl; terminals_told_lem = refl }
