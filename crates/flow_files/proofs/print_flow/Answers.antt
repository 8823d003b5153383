-- `flow_files::print_flow` meets its contract. Assumes nothing.
use mathlib.Core.Path.{refl, sym}
use native.Mathlib.Omega.{arith}
use lib.Seq.{length-take-le}
use mir.Syntax.{w64}
use mir.ValLaws.{to_z-of_z}
use Rattle.flow_files.proofs.print_flow.Goals as goal

pub slice_bounds-put_flow-end : goal.slice_bounds-put_flow-end
slice_bounds-put_flow-end c = sym (length-take-le _ _ c.requires.in_starts)

pub slice_bounds-put_flow-end-2 : goal.slice_bounds-put_flow-end-2
slice_bounds-put_flow-end-2 c = sym (length-take-le _ _ c.requires.in_ends)

pub slice_bounds-put_flow-end-3 : goal.slice_bounds-put_flow-end-3
slice_bounds-put_flow-end-3 c = sym (length-take-le _ _ c.requires.in_flow)

pub slice_bounds-put_flow-end-4 : goal.slice_bounds-put_flow-end-4
slice_bounds-put_flow-end-4 c = sym (length-take-le _ _ c.requires.in_costs)

pub returns : goal.returns
returns c =
    let w = rw (to_z-of_z w64 c.args.total c.ranges.total) at (c.put_flow-length.ensures.text_written c.requires.fits) in
    record { bytes = w.bytes; ends = omega (arith, w.ends); number_told = refl; place_told = refl; sources_told_lem = refl; terminals_told_lem = refl }
