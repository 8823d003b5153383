-- `case_texts::put_costs` meets its contract. Assumes nothing.
use mathlib.Core.Path.{subst}
use Prim.Native.Nat.{◌+◌}
use native.Mathlib.Omega.{arith}
use lib.IntN.{ℤ, pos}
use lib.ListN.{get_or}
use Rattle.csv_print.specs.Text.{field_text}
use Rattle.csv_print.specs.inner.Writing.{Written}
use Rattle.csv_print.proofs.PrintedSigns.{read_back}
use Rattle.csv_print.proofs.DecimalTexts.{each_start, each_next, each_end, written_length}
use Rattle.case_texts.specs.Texts.{costs_text}
use Rattle.case_texts.proofs.put_costs.Goals as goal

pub loop-j-init : goal.loop-j-init
loop-j-init c = (omega arith, each_start _ 21 _ _)

pub overflow_add-start : goal.overflow_add-start
overflow_add-start c = omega (arith, c.requires.n_in_bounds)

pub offset_bounds-costs-start : goal.offset_bounds-costs-start
offset_bounds-costs-start c = omega (arith, c.requires.n_in_bounds)

pub bounds-costs-start : goal.bounds-costs-start
bounds-costs-start c = omega (arith, c.requires.n_in_bounds)

pub put_signed_field-next-requires : goal.put_signed_field-next-requires
put_signed_field-next-requires c = omega (arith, c.requires.at_bound, c.loop-j.invariant)

pub loop-j-preserved : goal.loop-j-preserved
loop-j-preserved c =
    let l = c.loop-j in
    let w = c.put_signed_field-next in
    let e = read_back (get_or c.args.costs.now (c.args.start + l.j) (pos 0)) c.put_signed_field-arg-in-loop-j-1.given in (
      omega (arith, c.loop-j-test.true),
      each_next _ 21 _ l.invariant.1 (subst (λ (v : ℤ). Written l.out w.new.out l.next w.result (field_text v 44) 21) e w.ensures),
    )

pub shape_of-out : goal.shape_of-out
shape_of-out c = written_length c.loop-j.invariant.1

pub returns : goal.returns
unfolding costs_text
returns c = each_end _ 21 _ _ c.loop-j.invariant.0 c.loop-j-test.false c.loop-j.invariant.1
