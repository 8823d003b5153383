-- `flow_network::judge::judge` meets its contract. Assumes nothing.
use mathlib.Core.Path.{sym, ◌∙◌}
use Prim.Native.Nat.{ℕ}
use native.Mathlib.Omega.{arith}
use lib.ListN.{length-replicate}
use Rattle.flow_network.proofs.JudgeLaws.{holding_of}
use Rattle.flow_network.proofs.judge.judge.Goals as goal

pub fill_haves-requires : goal.fill_haves-requires
fill_haves-requires c = record {
  ends_len = (c.requires.arcs.ends_long ∙ sym c.requires.arcs.ceilings_long, omega (arith, c.requires.given.few, length-replicate {A = ℕ} 32 0), c.requires.given.few);
  moderate = (
    record { few = omega (arith, c.requires.arcs.ceilings_long, c.requires.arcs.few); small = λ k l. c.requires.arcs.ceiling_most k (omega (arith, l, c.requires.arcs.ceilings_long)) },
    c.requires.given.gives_small,
  );
}

pub slice_bounds-judge_by-end : goal.slice_bounds-judge_by-end
slice_bounds-judge_by-end c =
    omega (arith, c.requires.given.few, c.fill_haves.ensures.long, length-replicate {A = ℕ} 32 0)

pub judge_by-requires : goal.judge_by-requires
judge_by-requires c = record {
  arcs = c.requires.arcs;
  given = c.requires.given;
  holding = holding_of c.args.gives.now c.args.heads.now c.args.capacities.now _ _
      (omega (arith, c.requires.given.few, length-replicate {A = ℕ} 32 0)) c.fill_haves.ensures;
}

pub returns : goal.returns
returns c = c.judge_by.ensures
