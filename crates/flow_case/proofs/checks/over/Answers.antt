-- `flow_case::checks::over` meets its contract. Assumes nothing.
use mathlib.Core.Path.{◌∙◌}
use Prim.Native.Nat.{ℕ, ◌-◌}
use lib.ListN.{length, get_or}
use Rattle.std.proofs.Common.{ltb, rules, tests}
use Rattle.std.proofs.lemmas.Iterator.{YieldsList-from_slice, YieldsList-from_zip}
use Rattle.std.proofs.lemmas.Iterator.Search.{any_from_yields_List}
use Rattle.flow_case.specs.inner.Build.{over_at}
use Rattle.flow_case.proofs.CellTests.{any_pairs, any_ext, over_same}
use Rattle.flow_case.proofs.checks.over.Goals as goal

pub returns : goal.returns
returns c =
    let haves = c.args.haves.now in
    let takes = c.args.takes.now in
    any_from_yields_List (λ (p : ℕ × ℕ). ltb 4000 (p.0 - p.1)) c.any.new.self _ _ c.any.ensures.ran (YieldsList-from_zip (YieldsList-from_slice haves cc) (YieldsList-from_slice takes cc)) (λ x b q k. search (rules, tests))
    ∙ any_pairs (λ p. ltb 4000 (p.0 - p.1)) haves takes c.requires
    ∙ any_ext (length haves) (λ i. ltb 4000 (get_or haves i 0 - get_or takes i 0)) (over_at haves takes) (λ i. over_same (get_or haves i 0) (get_or takes i 0))
