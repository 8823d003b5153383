-- `dimacs::store::read_file` meets its contract. Assumes nothing.
use mathlib.Core.Path.{◌≡◌, sym, ap, subst, ◌∙◌}
use native.Mathlib.Omega.{arith}
use Rattle.std.proofs.Common.{Result, Option, Some, None, take, drop, ◌-◌}
use Rattle.dimacs.specs.declared.line.Line.{Line}
use Rattle.dimacs.specs.inner.FormReader.{next_of}
use Rattle.dimacs.specs.inner.LineReader.{WholeLine}
use Rattle.std.proofs.lemmas.Result.{err_from_is_err_and}
use Rattle.refusal.specs.declared.Refusal.{Refusal}
use Rattle.dimacs.specs.Form.{broken}
use Rattle.dimacs.specs.declared.form.Counts.{Counts}
use Rattle.dimacs.specs.inner.Stored.{ReadAs}
use Rattle.dimacs.proofs.FileLines.{no_lf, form_ends, stage_ends, form_wrong, stage_wrong, form_on}
use Rattle.dimacs.proofs.StoredLines.{with_flags, kept_start, kept_before, kept_ends, kept_on}
use Rattle.dimacs.proofs.store.read_file.Goals.{After-at_end}
use Rattle.dimacs.proofs.store.read_file.Goals as goal

pub loop-t-init : goal.loop-t-init
loop-t-init c = kept_start _ _ _ _ _ _ _ _ c.requires.arcs_read c.requires.nodes_read

pub returns-then-at-e : goal.returns-then-at-e
returns-then-at-e c =
    let k = c.loop-t.invariant in
    let e = c.line_end-e.ensures in
    record {
      reads = (
        no_lf _ _ _ _ _ k.so_far e c.if-s-e.true c.if-at-e.true ∙ ap broken (sym c.at-wrong.ensures.place),
        kept_before _ _ _ _ _ _ _ _ (stage_ends _ _ _ _ _ k.so_far e c.if-s-e.true) k.arc_lines k.node_lines,
        c.at-wrong.ensures.cause,
      );
    }

-- the lines end
ended : (c : After-at_end) → ReadAs c.args.s.now (with_flags c.loop-t.odd c.loop-t.bad c.at_end.result) c.loop-t.starts c.loop-t.ends c.loop-t.ceilings
    c.loop-t.costs c.loop-t.gives c.loop-t.takes c.loop-t.marks
ended c =
    let k = c.loop-t in
    kept_ends _ _ _ _ _ _ _ _ k.t k.line k.odd k.bad k.invariant.so_far.stage c.at_end.result c.at_end.ensures k.invariant.so_far.stands
    (form_ends _ _ _ _ _ k.invariant.so_far c.line_end-e.ensures c.if-s-e.true c.if-at-e.false)
    (stage_ends _ _ _ _ _ k.invariant.so_far c.line_end-e.ensures c.if-s-e.true) k.invariant.arc_lines k.invariant.node_lines

pub returns-in_err-c : goal.returns-in_err-c
returns-in_err-c c =
    let k = c.loop-t in
    let p = err_from_is_err_and c.from_residual.result c.from_residual.ensures.1 in
    rw (p.1, p.2)
    (record {
      reads = subst (λ (z : Result Counts Refusal). ReadAs c.args.s.now (with_flags k.odd k.bad z) k.starts k.ends k.ceilings k.costs k.gives k.takes k.marks)
          c.in_err-c.was (ended (goal.at.returns-in_err-c c).After-at_end);
    })

pub returns-then-s-e : goal.returns-then-s-e
returns-then-s-e c =
    let k = c.loop-t in
    record {
      reads = subst (λ (z : Result Counts Refusal). ReadAs c.args.s.now (with_flags k.odd k.bad z) k.starts k.ends k.ceilings k.costs k.gives k.takes k.marks)
          c.in_ok-c.was (ended (goal.at.returns-then-s-e c).After-at_end);
    }

pub returns-in_default : goal.returns-in_default
returns-in_default c =
    let k = c.loop-t.invariant in
    let e = c.line_end-e.ensures in
    let l = c.if-s-e.false in
    let w = c.read_line.ensures in
    let q = ap (next_of c.loop-t.t) c.in_default.is in
    record {
      reads = (
        form_wrong _ _ _ _ _ k.so_far e l _ w q ∙ ap broken (sym c.at-wrong.ensures.place),
        kept_before _ _ _ _ _ _ _ _ (stage_wrong _ _ _ _ _ k.so_far e l _ w q) k.arc_lines k.node_lines,
        c.at-wrong.ensures.cause,
      );
    }

pub returns-in_default-with_line : goal.returns-in_default-with_line
returns-in_default-with_line c =
    let k = c.loop-t.invariant in
    let e = c.line_end-e.ensures in
    let l = c.if-s-e.false in
    let w = c.read_line.ensures in
    let q = ap (next_of c.loop-t.t) c.in-Some.is ∙ sym c.with_line.ensures ∙ c.in_default-with_line.is in
    record {
      reads = (
        form_wrong _ _ _ _ _ k.so_far e l _ w q ∙ ap broken (sym c.at-wrong.ensures.place),
        kept_before _ _ _ _ _ _ _ _ (stage_wrong _ _ _ _ _ k.so_far e l _ w q) k.arc_lines k.node_lines,
        c.at-wrong.ensures.cause,
      );
    }

pub loop-t-preserved : goal.loop-t-preserved
loop-t-preserved c =
    let w = subst (λ (z : Option Line). WholeLine (take (c.line_end-e.result - c.loop-t.at) (drop c.loop-t.at c.args.s.now)) z) c.in-Some.is c.read_line.ensures in
    let f = form_on _ _ _ _ _ c.loop-t.invariant.so_far c.line_end-e.ensures c.if-s-e.false _ w _ (sym c.with_line.ensures ∙ c.in-Some-with_line.is) in
    kept_on c.loop-t.invariant f.0 (Some c.in-Some.l) f.1 c.store_node-odd.ensures c.store_arc-bad.ensures
