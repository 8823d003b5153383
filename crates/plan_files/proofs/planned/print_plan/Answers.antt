-- `plan_files::planned::print_plan` meets its contract. Assumes nothing.
use mathlib.Core.Path.{refl, sym}
use native.Mathlib.Omega.{arith}
use lib.Seq.{length-take-le}
use Rattle.plan_files.proofs.planned.print_plan.Goals as goal

pub slice_bounds-amounts-end : goal.slice_bounds-amounts-end
slice_bounds-amounts-end c = sym (length-take-le _ _ c.requires.n_in_bounds)

pub returns : goal.returns
returns c =
    let w = c.put_plan-length.ensures.text_written c.requires.fits in
    record { bytes = w.bytes; ends = omega (arith, w.ends); number_told = refl; place_told = refl; sources_told_lem = refl; terminals_told_lem = refl }
