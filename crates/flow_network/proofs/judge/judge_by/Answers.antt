-- `flow_network::judge::judge_by` meets its contract. Assumes nothing.
use mathlib.Core.Path.{refl, sym, ap, ◌∙◌}
use mathlib.Core.List.{List}
use Prim.Native.Nat.{ℕ}
use native.Mathlib.Omega.{arith}
use Rattle.flow_network.specs.Answer.{slices_of}
use Rattle.flow_network.proofs.CarryCase.{carried_flow, carried_nothing}
use Rattle.flow_network.proofs.JudgeLaws.{by_over, by_name, by_room, by_uneven, by_nothing, by_flow, place_low, named_there, amounts_there}
use Rattle.flow_network.proofs.JudgeLaws.{told_there, flow_room, starts_room, ends_room, ceilings_room, costs_room}
use Rattle.flow_network.proofs.judge.judge_by.Goals.{then-over-via-then-over, then-over-via-else-over+then-bad_name, then-over-via-else-over+else-bad_name+then-too_short}
use Rattle.flow_network.proofs.judge.judge_by.Goals as goal

pub over-requires : goal.over-requires
over-requires c = c.requires.holding.long ∙ sym c.requires.given.takes_long

pub bad_name-requires : goal.bad_name-requires
bad_name-requires c =
    λ k l. c.requires.arcs.ceiling_most k (omega (arith, l, c.requires.arcs.ceilings_long))

pub returns-then-over : goal.returns-then-over
returns-then-over c =
    rw (c.at.ensures.cause, c.at.ensures.place) (
      elim c.then-over.branch [
        | then-over-via-then-over w ↦ by_over _ _ _ _ _ _ _ c.args.place c.args.table.now c.requires.arcs c.requires.given c.requires.holding
            (slices_of c.args.flow.now c.args.starts.now c.args.ends.now c.args.ceilings.now c.args.costs.now) (sym w.if-over.true ∙ c.over.ensures)
        | then-over-via-else-over+then-bad_name w ↦ by_name _ _ _ _ _ _ _ c.args.place c.args.table.now c.requires.arcs c.requires.given c.requires.holding
            (slices_of c.args.flow.now c.args.starts.now c.args.ends.now c.args.ceilings.now c.args.costs.now) (sym w.if-bad_name.true ∙ w.bad_name.ensures)
        | then-over-via-else-over+else-bad_name+then-too_short w ↦ by_room _ _ _ _ _ _ _ c.args.place c.args.table.now c.requires.arcs c.requires.given c.requires.holding
            (slices_of c.args.flow.now c.args.starts.now c.args.ends.now c.args.ceilings.now c.args.costs.now) (sym w.if-too_short.true ∙ w.too_short.ensures)
      ],
      refl,
    )

pub uneven-requires : goal.uneven-requires
uneven-requires c =
    (c.requires.given, c.requires.holding.long ∙ sym c.requires.given.takes_long)

pub returns-then-uneven : goal.returns-then-uneven
returns-then-uneven c =
    rw (c.at-then-uneven.ensures.cause, c.at-then-uneven.ensures.place) (
      by_uneven _ _ _ _ _ _ _ c.args.place c.args.table.now c.requires.arcs c.requires.given
          c.requires.holding
          (slices_of c.args.flow.now c.args.starts.now c.args.ends.now c.args.ceilings.now c.args.costs.now)
          (sym c.if-over.false ∙ c.over.ensures) (sym c.if-bad_name.false ∙ c.bad_name.ensures)
          (sym c.if-too_short.false ∙ c.too_short.ensures) (sym c.if-uneven.true ∙ c.uneven.ensures),
      refl,
    )

pub overflow_sub-place : goal.overflow_sub-place
overflow_sub-place c =
    place_low _ _ _ _ _ _ _ c.args.place c.args.table.now c.requires.arcs c.requires.given
    c.requires.holding
    (slices_of c.args.flow.now c.args.starts.now c.args.ends.now c.args.ceilings.now c.args.costs.now)
    (sym c.if-over.false ∙ c.over.ensures) (sym c.if-bad_name.false ∙ c.bad_name.ensures)
    (sym c.if-too_short.false ∙ c.too_short.ensures)

pub carry-requires : goal.carry-requires
carry-requires c = record {
  arcs = c.requires.arcs;
  amounts = amounts_there _ _ _ _ _ _ _ c.args.place c.args.table.now
      c.requires.arcs c.requires.given c.requires.holding
      (slices_of c.args.flow.now c.args.starts.now c.args.ends.now c.args.ceilings.now c.args.costs.now)
      (sym c.if-over.false ∙ c.over.ensures) (sym c.if-bad_name.false ∙ c.bad_name.ensures)
      (sym c.if-too_short.false ∙ c.too_short.ensures) (sym c.if-uneven.false ∙ c.uneven.ensures);
  named = named_there _ _ _ _ _ _ _ c.args.place c.args.table.now
      c.requires.arcs c.requires.given c.requires.holding
      (slices_of c.args.flow.now c.args.starts.now c.args.ends.now c.args.ceilings.now c.args.costs.now)
      (sym c.if-over.false ∙ c.over.ensures) (sym c.if-bad_name.false ∙ c.bad_name.ensures)
      (sym c.if-too_short.false ∙ c.too_short.ensures);
  starts_in_bounds = flow_room _ _ _ _ _ _ _ c.args.place c.args.table.now
      c.requires.arcs c.requires.given c.requires.holding
      (slices_of c.args.flow.now c.args.starts.now c.args.ends.now c.args.ceilings.now c.args.costs.now)
      (sym c.if-over.false ∙ c.over.ensures) (sym c.if-bad_name.false ∙ c.bad_name.ensures)
      (sym c.if-too_short.false ∙ c.too_short.ensures);
}

pub returns-in_default : goal.returns-in_default
returns-in_default c =
    let h = carried_nothing c.carry.ensures c.in_default.is in
    rw (c.at-in_default.ensures.cause, c.at-in_default.ensures.place) (
      by_nothing _ _ _ _ _ _ _ c.args.place c.args.table.now
          c.requires.arcs c.requires.given c.requires.holding
          (slices_of c.args.flow.now c.args.starts.now c.args.ends.now c.args.ceilings.now c.args.costs.now)
          (sym c.if-over.false ∙ c.over.ensures) (sym c.if-bad_name.false ∙ c.bad_name.ensures)
          (sym c.if-too_short.false ∙ c.too_short.ensures) _
          (ap (λ (x : List ℕ). slices_of x c.args.starts.now c.args.ends.now c.args.ceilings.now c.args.costs.now) h.1)
          h.0,
      refl,
    )

pub copy_front-requires : goal.copy_front-requires
copy_front-requires c =
    omega (
      arith,
      starts_room _ _ _ _ _ _ _ c.args.place c.args.table.now
          c.requires.arcs c.requires.given c.requires.holding
          (slices_of c.args.flow.now c.args.starts.now c.args.ends.now c.args.ceilings.now c.args.costs.now)
          (sym c.if-over.false ∙ c.over.ensures) (sym c.if-bad_name.false ∙ c.bad_name.ensures)
          (sym c.if-too_short.false ∙ c.too_short.ensures),
      c.requires.arcs.ends_long,
    )

pub copy_front-requires-2 : goal.copy_front-requires-2
copy_front-requires-2 c =
    ends_room _ _ _ _ _ _ _ c.args.place c.args.table.now c.requires.arcs c.requires.given
    c.requires.holding
    (slices_of c.args.flow.now c.args.starts.now c.args.ends.now c.args.ceilings.now c.args.costs.now)
    (sym c.if-over.false ∙ c.over.ensures) (sym c.if-bad_name.false ∙ c.bad_name.ensures)
    (sym c.if-too_short.false ∙ c.too_short.ensures)

pub copy_front-requires-3 : goal.copy_front-requires-3
copy_front-requires-3 c =
    ceilings_room _ _ _ _ _ _ _ c.args.place c.args.table.now
    c.requires.arcs c.requires.given c.requires.holding
    (slices_of c.args.flow.now c.args.starts.now c.args.ends.now c.args.ceilings.now c.args.costs.now)
    (sym c.if-over.false ∙ c.over.ensures) (sym c.if-bad_name.false ∙ c.bad_name.ensures)
    (sym c.if-too_short.false ∙ c.too_short.ensures)

pub copy_front-requires-4 : goal.copy_front-requires-4
copy_front-requires-4 c =
    costs_room _ _ _ _ _ _ _ c.args.place c.args.table.now c.requires.arcs c.requires.given
    c.requires.holding
    (slices_of c.args.flow.now c.args.starts.now c.args.ends.now c.args.ceilings.now c.args.costs.now)
    (sym c.if-over.false ∙ c.over.ensures) (sym c.if-bad_name.false ∙ c.bad_name.ensures)
    (sym c.if-too_short.false ∙ c.too_short.ensures)

pub returns : goal.returns
returns c =
    let h = carried_flow c.carry.ensures c.in-Some.is in (
      by_flow _ _ _ _ _ _ _ c.args.place c.args.table.now c.requires.arcs c.requires.given
          c.requires.holding
          (slices_of c.args.flow.now c.args.starts.now c.args.ends.now c.args.ceilings.now c.args.costs.now)
          (sym c.if-over.false ∙ c.over.ensures) (sym c.if-bad_name.false ∙ c.bad_name.ensures)
          (sym c.if-too_short.false ∙ c.too_short.ensures) _ _
          (told_there _ _ _ _ _ _ _ c.args.place c.args.table.now
          c.requires.arcs c.requires.given c.requires.holding
          (slices_of c.args.flow.now c.args.starts.now c.args.ends.now c.args.ceilings.now c.args.costs.now)
          (sym c.if-over.false ∙ c.over.ensures) (sym c.if-bad_name.false ∙ c.bad_name.ensures)
          (sym c.if-too_short.false ∙ c.too_short.ensures) _ _ h c.copy_front.ensures
          c.copy_front-2.ensures c.copy_front-3.ensures c.copy_front-4.ensures),
      refl,
    )
