-- `engine_arrays::work::raise_into` meets its contract. The invariant: the first k cells are written. Assumes nothing.
use mathlib.Core.Path.{◌≡◌, sym, ap, ◌∙◌}
use mathlib.Core.List.{map}
use Prim.Native.Nat.{◌-◌}
use native.Mathlib.Omega.{arith}
use lib.ListN.{get_or, length-map}
use Rattle.problem.specs.Range.{outside, raised_of}
use Rattle.engine_arrays.proofs.CellCopies.{copy_start, copy_next, copy_end, cost_back}
use Rattle.problem.proofs.RaisedLists.{map_at}
use Rattle.engine_arrays.proofs.work.raise_into.Goals as goal

pub loop-k-init : goal.loop-k-init
loop-k-init c = (copy_start _ _ _, omega arith)

pub raised-requires : goal.raised-requires
raised-requires c = let e = c.requires.1 _ c.loop-k-test.true in ap outside (cost_back _ e) ∙ e

pub bounds-to-at : goal.bounds-to-at
bounds-to-at c = omega (arith, c.loop-k.invariant.0.long)

pub loop-k-preserved : goal.loop-k-preserved
loop-k-preserved c =
    let a = c.args in
    let k = c.loop-k.k in
    let e : c.raised.result ≡ get_or (map raised_of a.source.now) k 0 =
    c.raised.ensures ∙ ap raised_of (cost_back _ (c.requires.1 k c.loop-k-test.true)) ∙ sym (map_at raised_of a.source.now k c.loop-k-test.true) in (
      rw e (copy_next c.loop-k.invariant.0 (omega (arith, length-map a.source.now raised_of)) (omega arith)),
      omega arith,
    )

pub shape_of-to : goal.shape_of-to
shape_of-to c = c.loop-k.invariant.0.long

pub returns : goal.returns
returns c = copy_end c.loop-k.invariant.0 (omega (arith, length-map c.args.source.now raised_of))
