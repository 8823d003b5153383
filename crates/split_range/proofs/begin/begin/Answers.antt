-- `split_range::begin::begin` meets its contract. Assumes nothing.
use Rattle.std.proofs.Common.{◌-◌, ap, arith}
use Rattle.split_range.proofs.SplitRange.{split_within, last_ready, wanted, ranged, none_ranged}
use Rattle.split_range.proofs.begin.begin.Goals as goal

pub overflow_sub-top : goal.overflow_sub-top
overflow_sub-top c =
    let f = c.in-Some.ensures.first_plan.done in omega (arith, split_within c.requires f, c.min-top.ensures)

pub last-gone-requires : goal.last-gone-requires
last-gone-requires c =
    let r = c.requires in
    let f = c.in-Some.ensures.first_plan.done in record { all_wide = c.all_wide-wide.ensures; last_ready = last_ready r f (ap (λ v. v - c.in-Some.split) c.min-top.ensures); wanted = wanted r f; covers = c.cheapest_first-first.ensures.covers }

pub returns-in-Some : goal.returns-in-Some
returns-in-Some c =
    let r = c.requires in
    let f = c.in-Some.ensures.first_plan.done in
    ranged r f (ap (λ v. v - c.in-Some.split) c.min-top.ensures) c.last-gone.ensures c.cheapest_first-first.ensures.covers

pub returns : goal.returns
returns c =
    let r = c.requires in
    none_ranged r c.in_default.ensures.first_plan.done
