-- `flow_case::checks::under` meets its contract. Assumes nothing.
use mathlib.Core.Path.{◌∙◌}
use Prim.Native.Nat.{ℕ}
use Rattle.std.proofs.Common.{ltb, rules, tests}
use Rattle.std.proofs.lemmas.Iterator.{YieldsList-from_slice, YieldsList-from_zip}
use Rattle.std.proofs.lemmas.Iterator.Search.{any_from_yields_List}
use Rattle.flow_case.proofs.CellTests.{any_pairs}
use Rattle.flow_case.proofs.checks.under.Goals as goal

pub returns : goal.returns
returns c =
    let haves = c.args.haves.now in
    let takes = c.args.takes.now in
    any_from_yields_List (λ (p : ℕ × ℕ). ltb p.0 p.1) c.any.new.self _ _ c.any.ensures.ran (YieldsList-from_zip (YieldsList-from_slice haves cc) (YieldsList-from_slice takes cc)) (λ x b q k. search (rules, tests))
    ∙ any_pairs (λ p. ltb p.0 p.1) haves takes c.requires
