-- `write_case::write_case` meets its contract. Assumes nothing.
use mathlib.Core.Path.{◌≡◌, sym, ap, ◌∙◌}
use Prim.Native.Nat.{ℕ}
use native.Mathlib.Omega.{arith}
use Rattle.problem.specs.Case.{Case}
use Rattle.planner.specs.Judge.{free_case, judged}
use Rattle.write_case.proofs.RoundTrip.{tariff_room, table_room}
use Rattle.write_case.proofs.WriterParts.{write_tested, write_tariff, write_production, write_room, refused_written, texts_written}
use Rattle.write_case.proofs.write_case.Goals.{Start}
use Rattle.write_case.proofs.write_case.Goals as goal

-- the case
abbrev the : Start → ℕ → ℕ → ℕ → Case
the s p q f = free_case s.args.m s.args.n s.args.costs.now s.args.supplies.now s.args.demands.now s.args.table.now p q f

pub returns-in-Err : goal.returns-in-Err
returns-in-Err c p s f =
    rw c.number.ensures (refused_written _ _ _ _ _ (write_tested _ _ _ _ (sym (c.test_case.ensures p s f) ∙ ap judged c.in-Err.is)))

pub put_tariff-t-requires : goal.put_tariff-t-requires
put_tariff-t-requires c = let the-whole = tariff_room (the (goal.at.put_tariff-t-requires c).Start 0 0 0) (sym (c.test_case.ensures 0 0 0) ∙ ap judged c.in_default.is) in record { m_bound = the-whole.0; n_in_bounds = the-whole.1 }

pub put_production-p-requires : goal.put_production-p-requires
put_production-p-requires c =
    table_room (the (goal.at.put_production-p-requires c).Start 0 0 0) (sym (c.test_case.ensures 0 0 0) ∙ ap judged c.in_default.is)

pub returns-then-tariff-t : goal.returns-then-tariff-t
returns-then-tariff-t c p s f =
    refused_written (the (goal.at.returns-then-tariff-t c).Start p s f) _ _ 33 0 (write_tariff (the (goal.at.returns-then-tariff-t c).Start p s f) _ _ (sym (c.test_case.ensures p s f) ∙ ap judged c.in_default.is) (omega (arith, c.if-tariff-t.true, c.put_tariff-t.ensures.ends)))

pub returns-then-production-p : goal.returns-then-production-p
returns-then-production-p c p s f =
    refused_written (the (goal.at.returns-then-production-p c).Start p s f) _ _ 33 0 (write_production (the (goal.at.returns-then-production-p c).Start p s f) _ _ (sym (c.test_case.ensures p s f) ∙ ap judged c.in_default.is) (omega (arith, c.if-production-p.true, c.put_production-p.ensures.ends)))

pub put_tariff-requires : goal.put_tariff-requires
put_tariff-requires c = let the-whole = tariff_room (the (goal.at.put_tariff-requires c).Start 0 0 0) (sym (c.test_case.ensures 0 0 0) ∙ ap judged c.in_default.is) in record { m_bound = the-whole.0; n_in_bounds = the-whole.1 }

pub put_production-requires : goal.put_production-requires
put_production-requires c =
    table_room (the (goal.at.put_production-requires c).Start 0 0 0) (sym (c.test_case.ensures 0 0 0) ∙ ap judged c.in_default.is)

pub returns : goal.returns
returns c p s f =
    let t = c.put_tariff-t.ensures.ends in
    let q = c.put_production-p.ensures.ends in
    texts_written (the (goal.at.returns c).Start p s f) _ _ _ _ _ _
    (write_room (the (goal.at.returns c).Start p s f) _ _ (sym (c.test_case.ensures p s f) ∙ ap judged c.in_default.is) (omega (arith, t, c.if-tariff-t.false)) (omega (arith, q, c.if-production-p.false)))
    (omega (arith, t)) (omega (arith, q)) c.put_tariff.ensures.bytes c.put_production.ensures.bytes
