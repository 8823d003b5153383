-- `flow_network::carry::carry` meets its contract. Assumes nothing.
use mathlib.Core.Path.{refl, sym, ◌∙◌}
use Prim.Native.Nat.{ℕ}
use native.Mathlib.Nat.{mul-le-mul}
use native.Mathlib.Omega.{arith}
use lib.IntN.{ℤ, pos}
use lib.ListN.{length-replicate}
use Rattle.flow_network.proofs.CarryCase.{w_in, nodes_in, sources_in, case_is, found_split, found_nothing, split_fits, flow_total, flow_told, nothing_told}
use Rattle.flow_network.proofs.carry.carry.Goals as goal

pub overflow_sub-w : goal.overflow_sub-w
overflow_sub-w c =
    omega (arith, c.requires.arcs.end_low c.args.named c.requires.named.place)

pub overflow_sub-v : goal.overflow_sub-v
overflow_sub-v c =
    omega (arith, c.requires.arcs.start_low c.args.named c.requires.named.place)

pub offset_bounds-haves-w : goal.offset_bounds-haves-w
offset_bounds-haves-w c =
    omega (
      arith,
      w_in _ _ _ _ _ _ _ c.args.named c.args.table.now c.requires.arcs c.requires.amounts
          c.requires.named,
      c.requires.amounts.few,
    )

pub bounds-haves-w : goal.bounds-haves-w
bounds-haves-w c =
    omega (
      arith,
      w_in _ _ _ _ _ _ _ c.args.named c.args.table.now c.requires.arcs c.requires.amounts
          c.requires.named,
      c.requires.amounts.haves_long,
    )

pub offset_bounds-takes-w : goal.offset_bounds-takes-w
offset_bounds-takes-w c =
    omega (
      arith,
      w_in _ _ _ _ _ _ _ c.args.named c.args.table.now c.requires.arcs c.requires.amounts
          c.requires.named,
      c.requires.amounts.few,
    )

pub bounds-takes-w : goal.bounds-takes-w
bounds-takes-w c =
    omega (
      arith,
      w_in _ _ _ _ _ _ _ c.args.named c.args.table.now c.requires.arcs c.requires.amounts
          c.requires.named,
      c.requires.amounts.takes_long,
    )

pub overflow_sub-most : goal.overflow_sub-most
overflow_sub-most c =
    c.requires.amounts.enough _
    (w_in _ _ _ _ _ _ _ c.args.named c.args.table.now c.requires.arcs c.requires.amounts
    c.requires.named)

pub fill_supplies-requires : goal.fill_supplies-requires
fill_supplies-requires c = record {
  haves_len = (c.requires.amounts.haves_long ∙ sym c.requires.amounts.takes_long, omega (arith, c.requires.amounts.haves_long, c.requires.amounts.few));
  by_index = λ s l. let q = nodes_in _ _ _ _ _ _ _ c.args.named c.args.table.now c.requires.arcs
      c.requires.amounts c.requires.named s (omega (arith, l, c.requires.amounts.haves_long)) in
      (omega (arith, q, c.requires.amounts.haves_long), c.requires.amounts.enough _ q);
}

pub fill_demands-requires : goal.fill_demands-requires
fill_demands-requires c =
    omega (arith, c.requires.arcs.ceilings_long, c.requires.arcs.few)

pub lane_rows-requires : goal.lane_rows-requires
lane_rows-requires c = record {
  m_bound = (c.requires.amounts.few, c.requires.arcs.few, sym c.requires.arcs.ends_long, length-replicate {A = ℕ} 2048 0);
  by_index = nodes_in _ _ _ _ _ _ _ c.args.named c.args.table.now c.requires.arcs c.requires.amounts
      c.requires.named;
}

pub cost_rows-requires : goal.cost_rows-requires
cost_rows-requires c = record {
  m_bound = (c.requires.amounts.few, c.requires.arcs.few, sym c.requires.arcs.costs_long, length-replicate {A = ℤ} 2048 (pos 0));
  by_index = nodes_in _ _ _ _ _ _ _ c.args.named c.args.table.now c.requires.arcs c.requires.amounts
      c.requires.named;
}

pub fill_table-requires : goal.fill_table-requires
fill_table-requires c = record {
  most_in_bounds = omega (
    arith,
    c.requires.amounts.most _
        (w_in _ _ _ _ _ _ _ c.args.named c.args.table.now c.requires.arcs
        c.requires.amounts c.requires.named),
    length-replicate {A = ℕ} 4001 0,
  );
  most_bound = (
    omega (
      arith,
      c.requires.amounts.most _
          (w_in _ _ _ _ _ _ _ c.args.named c.args.table.now c.requires.arcs
          c.requires.amounts c.requires.named),
    ),
    c.requires.arcs.ceiling_most c.args.named c.requires.named.place,
  );
}

pub overflow_mul-all : goal.overflow_mul-all
overflow_mul-all c =
    omega (arith, mul-le-mul c.requires.amounts.few c.requires.arcs.few)

pub overflow_add-last : goal.overflow_add-last
overflow_add-last c =
    omega (
      arith,
      c.requires.amounts.most _
          (w_in _ _ _ _ _ _ _ c.args.named c.args.table.now c.requires.arcs c.requires.amounts
          c.requires.named),
    )

pub slice_bounds-case-end : goal.slice_bounds-case-end
slice_bounds-case-end c =
    omega (arith, mul-le-mul c.requires.amounts.few c.requires.arcs.few, c.cost_rows.ensures.1)

pub slice_bounds-case-end-2 : goal.slice_bounds-case-end-2
slice_bounds-case-end-2 c =
    omega (arith, c.requires.amounts.few, c.fill_supplies.ensures.long, length-replicate {A = ℕ} 32 0)

pub slice_bounds-case-end-3 : goal.slice_bounds-case-end-3
slice_bounds-case-end-3 c =
    omega (arith, c.requires.arcs.few, c.fill_demands.ensures.long, length-replicate {A = ℕ} 64 0)

pub slice_bounds-case-end-4 : goal.slice_bounds-case-end-4
slice_bounds-case-end-4 c =
    omega (arith, mul-le-mul c.requires.amounts.few c.requires.arcs.few, c.lane_rows.ensures.1)

pub slice_bounds-case-end-5 : goal.slice_bounds-case-end-5
slice_bounds-case-end-5 c =
    omega (
      arith,
      c.requires.amounts.most _
          (w_in _ _ _ _ _ _ _ c.args.named c.args.table.now c.requires.arcs c.requires.amounts
          c.requires.named),
      c.fill_table.ensures.long,
      length-replicate {A = ℕ} 4001 0,
    )

pub plan_case-requires : goal.plan_case-requires
plan_case-requires c = length-replicate {A = ℕ} 2048 0

pub overflow_add-found : goal.overflow_add-found
overflow_add-found c =
    let h = found_split
    (case_is _ _ _ _ _ _ _ c.args.named c.args.table.now c.requires.arcs c.requires.amounts
    c.requires.named _ _ _ _ _ _ _ _ _ c.saturating_sub.ensures c.cost_rows.ensures.0 c.cost_rows.ensures.1
    c.fill_supplies.ensures (length-replicate {A = ℕ} 32 0) c.fill_demands.ensures (length-replicate {A = ℕ} 64 0)
    c.lane_rows.ensures.0 c.lane_rows.ensures.1 c.fill_table.ensures (length-replicate {A = ℕ} 4001 0))
    c.plan_case.ensures c.in_ok-found.was in
    omega (
      arith,
      (split_fits _ _ _ _ _ _ _ c.args.named c.args.table.now c.requires.arcs
          c.requires.amounts c.requires.named _ _ h.0).1,
      c.requires.amounts.most _
          (w_in _ _ _ _ _ _ _ c.args.named c.args.table.now c.requires.arcs c.requires.amounts
          c.requires.named),
      c.requires.arcs.ceiling_most c.args.named c.requires.named.place,
    )

pub overflow_sub-found : goal.overflow_sub-found
overflow_sub-found c =
    let h = found_split
    (case_is _ _ _ _ _ _ _ c.args.named c.args.table.now c.requires.arcs c.requires.amounts
    c.requires.named _ _ _ _ _ _ _ _ _ c.saturating_sub.ensures c.cost_rows.ensures.0 c.cost_rows.ensures.1
    c.fill_supplies.ensures (length-replicate {A = ℕ} 32 0) c.fill_demands.ensures (length-replicate {A = ℕ} 64 0)
    c.lane_rows.ensures.0 c.lane_rows.ensures.1 c.fill_table.ensures (length-replicate {A = ℕ} 4001 0))
    c.plan_case.ensures c.in_ok-found.was in
    omega (
      arith,
      (split_fits _ _ _ _ _ _ _ c.args.named c.args.table.now c.requires.arcs
          c.requires.amounts c.requires.named _ _ h.0).0,
    )

pub fill_flow-requires : goal.fill_flow-requires
fill_flow-requires c = record {
  starts_len_bound = (c.requires.arcs.few, c.requires.starts_in_bounds, omega (arith, c.plan_case.auto, length-replicate {A = ℕ} 2048 0));
  by_index = λ j l. (
    c.requires.arcs.start_low j l,
    omega (
      arith,
      sources_in _ _ _ _ _ _ _ c.args.named c.args.table.now c.requires.arcs
          c.requires.amounts c.requires.named j l,
      c.requires.amounts.few,
    ),
  );
}

pub returns : goal.returns
returns c =
    let h = found_split
    (case_is _ _ _ _ _ _ _ c.args.named c.args.table.now c.requires.arcs c.requires.amounts
    c.requires.named _ _ _ _ _ _ _ _ _ c.saturating_sub.ensures c.cost_rows.ensures.0 c.cost_rows.ensures.1
    c.fill_supplies.ensures (length-replicate {A = ℕ} 32 0) c.fill_demands.ensures (length-replicate {A = ℕ} 64 0)
    c.lane_rows.ensures.0 c.lane_rows.ensures.1 c.fill_table.ensures (length-replicate {A = ℕ} 4001 0))
    c.plan_case.ensures c.in_ok-found.was in
    record {
      told = flow_total _ _ _ _ _ _ h.2
          (flow_told _ _ _ _ _ _ _ c.args.named c.args.table.now c.requires.arcs
          c.requires.amounts c.requires.named _ _ _ _ h.0 h.1 _ _ c.requires.starts_in_bounds c.fill_flow.ensures h.2);
    }

pub returns-in_err-found : goal.returns-in_err-found
returns-in_err-found c =
    rw c.from_residual.ensures (record {
      told = (
        nothing_told _ _ _ _ _ _ _ c.args.named c.args.table.now c.requires.arcs
            c.requires.amounts c.requires.named _ _
            (found_nothing
            (case_is _ _ _ _ _ _ _ c.args.named c.args.table.now c.requires.arcs
            c.requires.amounts c.requires.named _ _ _ _ _ _ _ _ _ c.saturating_sub.ensures c.cost_rows.ensures.0
            c.cost_rows.ensures.1 c.fill_supplies.ensures (length-replicate {A = ℕ} 32 0)
            c.fill_demands.ensures (length-replicate {A = ℕ} 64 0) c.lane_rows.ensures.0 c.lane_rows.ensures.1
            c.fill_table.ensures (length-replicate {A = ℕ} 4001 0))
            c.plan_case.ensures c.in_err-found.was),
        refl,
      );
    })
