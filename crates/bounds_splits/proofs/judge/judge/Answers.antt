-- `bounds_splits::judge::judge` meets its contract. Assumes nothing.
use mathlib.Core.Path.{sym, ap, ◌∙◌, subst}
use Prim.Native.Nat.{◌≤◌}
use native.Mathlib.Omega.{arith}
use lib.ListN.{length}
use Rattle.bounds_problem.specs.inner.Heights.{found}
use Rattle.bounds_problem.specs.Answers.{Outcome, Answered}
use Rattle.bounds_splits.specs.inner.Judge.{tabled}
use Rattle.bounds_problem.proofs.AnswerFromStops.{some_cell, first_cell, last_cell, drawing, draws, in_order, at_most, in_low, in_high, wrong_long}
use Rattle.bounds_problem.proofs.AnswerFromStops.{bad_in, bad_place, too_short, low_summed, high_summed, settled}
use Rattle.bounds_splits.proofs.judge.judge.Goals as goal

pub bounds-splits-0 : goal.bounds-splits-0
bounds-splits-0 c =
    omega (arith, some_cell c.requires.listed, c.requires.listed.in_splits)

pub overflow_sub-hi : goal.overflow_sub-hi
overflow_sub-hi c = some_cell c.requires.listed

pub bounds-splits-count : goal.bounds-splits-count
bounds-splits-count c =
    omega (arith, some_cell c.requires.listed, c.requires.listed.in_splits)

pub returns-then-high-low : goal.returns-then-high-low
returns-then-high-low c =
    λ q l. rw (c.at.ensures.cause, c.at.ensures.place) (wrong_long l c.args.high.now c.args.answers.now c.if-high-low.true)

pub overflow_add-end : goal.overflow_add-end
overflow_add-end c =
    omega (arith, at_most c.requires.listed c.args.high.now)

pub offset_bounds-low-start : goal.offset_bounds-low-start
offset_bounds-low-start c =
    omega (arith, at_most c.requires.listed c.args.high.now, in_order c.requires.listed c.args.high.now)

pub slice_bounds-lows-count : goal.slice_bounds-lows-count
slice_bounds-lows-count c =
    omega (arith, in_order c.requires.listed c.args.high.now)

pub slice_bounds-lows-start : goal.slice_bounds-lows-start
slice_bounds-lows-start c =
    omega (arith, in_order c.requires.listed c.args.high.now)

pub slice_bounds-lows-end : goal.slice_bounds-lows-end
slice_bounds-lows-end c =
    omega (arith, in_low c.requires.listed c.args.high.now)

pub offset_bounds-high-start : goal.offset_bounds-high-start
offset_bounds-high-start c =
    omega (arith, at_most c.requires.listed c.args.high.now, in_order c.requires.listed c.args.high.now)

pub slice_bounds-highs-count : goal.slice_bounds-highs-count
slice_bounds-highs-count c =
    omega (arith, in_order c.requires.listed c.args.high.now)

pub slice_bounds-highs-start : goal.slice_bounds-highs-start
slice_bounds-highs-start c =
    omega (arith, in_order c.requires.listed c.args.high.now)

pub slice_bounds-highs-end : goal.slice_bounds-highs-end
slice_bounds-highs-end c =
    omega (arith, in_high c.requires.listed c.args.high.now c.if-high-low.false)

pub overflow_add-lo : goal.overflow_add-lo
overflow_add-lo c =
    let same = c.if-high-low.false in
    omega (
      arith,
      bad_in c.requires.listed c.args.high.now same c.in-Some.k (sym c.first_bad.ensures ∙ ap found c.in-Some.is),
      at_most c.requires.listed c.args.high.now,
      in_order c.requires.listed c.args.high.now,
      first_cell c.requires.listed,
      last_cell c.requires.listed,
    )

pub returns-in-Some : goal.returns-in-Some
returns-in-Some c =
    λ q l. rw (c.at-in-Some.ensures.cause, c.at-in-Some.ensures.place) (bad_place l c.args.high.now c.if-high-low.false c.args.answers.now c.in-Some.k (sym c.first_bad.ensures ∙ ap found c.in-Some.is))

pub returns-then-answers-lows : goal.returns-then-answers-lows
returns-then-answers-lows c =
    λ q l. rw (c.at-then-answers-lows.ensures.cause, c.at-then-answers-lows.ensures.place) (too_short l c.args.high.now c.if-high-low.false (sym c.first_bad.ensures ∙ ap found c.in_default.is) c.args.answers.now c.if-answers-lows.true)

pub draw-requires : goal.draw-requires
draw-requires c = (drawing c.requires.listed, omega arith)

pub settle-requires : goal.settle-requires
settle-requires c =
    let same = c.if-high-low.false in
    let n = sym c.first_bad.ensures ∙ ap found c.in_default.is in
    let d = c.draw in
    let room : 4001 ≤ length d.new.to = omega (arith, d.ensures.long) in (
      low_summed c.requires.listed c.args.high.now same n d.new.to room (draws c.requires.listed d.new.to d.ensures.drawn),
      high_summed c.requires.listed c.args.high.now same n d.new.to room (draws c.requires.listed d.new.to d.ensures.drawn),
      c.if-answers-lows.false,
    )

pub returns : goal.returns
returns c =
    let same = c.if-high-low.false in
    let n = sym c.first_bad.ensures ∙ ap found c.in_default.is in
    let d = c.draw in
    let room : 4001 ≤ length d.new.to = omega (arith, d.ensures.long) in
    let w = c.settle in
    λ q l. subst (λ (o : Outcome). Answered (tabled q c.args.low.now) c.args.high.now o c.args.answers.now w.new.answers) (sym w.ensures.0)
    (settled l c.args.high.now same n d.new.to room (draws l d.new.to d.ensures.drawn) c.args.answers.now
    w.new.answers c.if-answers-lows.false w.ensures.1)
