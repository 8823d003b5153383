-- `flow_structs::find::find` meets its contract, by that of the function on separate slices. Assumes nothing.
use mathlib.Core.Path.{◌∙◌}
use native.Mathlib.Omega.{arith}
use Prim.Native.Nat.{ℕ, ◌≤◌}
use lib.IntN.{pos}
use lib.ListN.{length-replicate}
use Rattle.flow_arcs.proofs.FoundLaws.{part_length, part_rest, found}
use Rattle.flow_structs.proofs.find.find.Goals as goal

pub slice_bounds-starts-end : goal.slice_bounds-starts-end
slice_bounds-starts-end c = omega (arith, c.min-r.ensures, length-replicate {A = ℕ} 64 0)

pub slice_bounds-ends-end : goal.slice_bounds-ends-end
slice_bounds-ends-end c = omega (arith, c.min-r.ensures, length-replicate {A = ℕ} 64 0)

pub slice_bounds-ceilings-end : goal.slice_bounds-ceilings-end
slice_bounds-ceilings-end c = omega (arith, c.min-r.ensures, length-replicate {A = ℕ} 64 0)

pub slice_bounds-costs-end : goal.slice_bounds-costs-end
slice_bounds-costs-end c =
    omega (arith, c.min-r.ensures, length-replicate 64 (pos 0))

pub returns : goal.returns
returns c =
    let a = c.min-r in
    let w = c.cheapest_flow-answer.ensures in
    let room = c.args.room in
    let h : a.result ≤ 64 = omega (arith, a.ensures) in
    found _ _ _ room _ _ _ _ _ (part_length _ 0 h ∙ a.ensures) (part_length _ 0 h ∙ a.ensures) (part_length _ 0 h ∙ a.ensures) (part_length _ (pos 0) h ∙ a.ensures)
    _ _ _ _ _ _ _ _ _ _ _ (part_rest a.result 0) (part_rest a.result 0) (part_rest a.result 0) (part_rest a.result (pos 0)) w.0 w.1 c.count_of-count.ensures
