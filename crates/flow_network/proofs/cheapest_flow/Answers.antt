-- `flow_network::cheapest_flow` meets its contract. Assumes nothing.
use mathlib.Core.Path.{refl, sym, ◌∙◌}
use Rattle.std.proofs.lemmas.Result.{err_from_is_err_and}
use native.Mathlib.Omega.{arith}
use Rattle.flow_network.specs.Answer.{outcome, slices_of}
use Rattle.flow_network.proofs.FileLaws.{read_refused, read_whole, zero_arcs, zero_nodes, answered_29, answered_30, few_nodes, few_arcs, arcs_good, given_good, answered, counted}
use Rattle.flow_network.proofs.cheapest_flow.Goals as goal

pub read_file-requires : goal.read_file-requires
read_file-requires c = record { arcs_read = zero_arcs; nodes_read = zero_nodes }

pub returns-then-out_of_limits : goal.returns-then-out_of_limits
returns-then-out_of_limits c =
    let h = read_whole c.read_file.ensures c.in_ok-file.was in
    rw (c.at.ensures.cause, c.at.ensures.place) (
      answered_30 h.0 _ _ _ _ _ _ _ _ _ _ _ h.2 c.args.bytes.now c.args.place c.args.table.now
          (slices_of c.args.flow.now c.args.starts.now c.args.ends.now c.args.ceilings.now c.args.costs.now)
          h.1 (sym c.if-out_of_limits.true ∙ c.out_of_limits.ensures),
      refl,
    )

pub slice_bounds-judge-end : goal.slice_bounds-judge-end
slice_bounds-judge-end c =
    let h = read_whole c.read_file.ensures c.in_ok-file.was in
    omega (arith, few_nodes h.0 _ _ _ _ _ _ _ _ _ _ _ h.2 (sym c.if-out_of_limits.false ∙ c.out_of_limits.ensures), h.2.node_lines.gives_long)

pub slice_bounds-judge-end-2 : goal.slice_bounds-judge-end-2
slice_bounds-judge-end-2 c =
    let h = read_whole c.read_file.ensures c.in_ok-file.was in
    omega (arith, few_nodes h.0 _ _ _ _ _ _ _ _ _ _ _ h.2 (sym c.if-out_of_limits.false ∙ c.out_of_limits.ensures), h.2.node_lines.takes_long)

pub slice_bounds-judge-end-3 : goal.slice_bounds-judge-end-3
slice_bounds-judge-end-3 c =
    let h = read_whole c.read_file.ensures c.in_ok-file.was in
    omega (arith, few_arcs h.0 _ _ _ _ _ _ _ _ _ _ _ h.2 (sym c.if-out_of_limits.false ∙ c.out_of_limits.ensures), h.2.arc_lines.starts_long)

pub slice_bounds-judge-end-4 : goal.slice_bounds-judge-end-4
slice_bounds-judge-end-4 c =
    let h = read_whole c.read_file.ensures c.in_ok-file.was in
    omega (arith, few_arcs h.0 _ _ _ _ _ _ _ _ _ _ _ h.2 (sym c.if-out_of_limits.false ∙ c.out_of_limits.ensures), h.2.arc_lines.ends_long)

pub slice_bounds-judge-end-5 : goal.slice_bounds-judge-end-5
slice_bounds-judge-end-5 c =
    let h = read_whole c.read_file.ensures c.in_ok-file.was in
    omega (arith, few_arcs h.0 _ _ _ _ _ _ _ _ _ _ _ h.2 (sym c.if-out_of_limits.false ∙ c.out_of_limits.ensures), h.2.arc_lines.ceilings_long)

pub slice_bounds-judge-end-6 : goal.slice_bounds-judge-end-6
slice_bounds-judge-end-6 c =
    let h = read_whole c.read_file.ensures c.in_ok-file.was in
    omega (arith, few_arcs h.0 _ _ _ _ _ _ _ _ _ _ _ h.2 (sym c.if-out_of_limits.false ∙ c.out_of_limits.ensures), h.2.arc_lines.costs_long)

pub judge-requires : goal.judge-requires
judge-requires c =
    let h = read_whole c.read_file.ensures c.in_ok-file.was in record { arcs = arcs_good h.0 _ _ _ _ _ _ _ _ _ _ _ h.2 (sym c.if-out_of_limits.false ∙ c.out_of_limits.ensures); given = given_good h.0 _ _ _ _ _ _ _ _ _ _ _ h.2 (sym c.if-out_of_limits.false ∙ c.out_of_limits.ensures) }

pub returns-in_err-file : goal.returns-in_err-file
returns-in_err-file c =
    let k = read_refused c.read_file.ensures c.in_err-file.was in
    let p = err_from_is_err_and c.from_residual.result c.from_residual.ensures.1 in
    rw (p.1, p.2, k.1) (
      answered_29 c.args.bytes.now c.args.place c.args.table.now
          (slices_of c.args.flow.now c.args.starts.now c.args.ends.now c.args.ceilings.now c.args.costs.now) _ k.0,
      refl,
    )

pub returns : goal.returns
returns c =
    let h = read_whole c.read_file.ensures c.in_ok-file.was in (
      answered h.0 _ _ _ _ _ _ _ _ _ _ _ h.2 (sym c.if-out_of_limits.false ∙ c.out_of_limits.ensures) c.args.bytes.now
          c.args.place c.args.table.now h.1 _
          (slices_of c.args.flow.now c.args.starts.now c.args.ends.now c.args.ceilings.now c.args.costs.now) _
          c.judge.ensures.0,
      counted h.0 _ _ _ _ _ _ _ _ _ _ _ h.2 (sym c.if-out_of_limits.false ∙ c.out_of_limits.ensures) c.args.bytes.now
          h.1 (outcome c.judge.result) _ c.judge.ensures.1,
    )
