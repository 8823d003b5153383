-- `paths::search::explore` meets its contract. Assumes nothing.
use mathlib.Core.Path.{◌≡◌}
use Prim.Native.Nat.{ℕ, ◌-◌, ◌<◌}
use native.Mathlib.Omega.{arith}
use lib.ListN.{replicate, length-set, length-replicate, get_or-replicate}
use Rattle.residual.specs.inner.Keys.{shut}
use Rattle.paths.proofs.SettledNode.{at_node, relax_ready, search_found, search_stuck}
use Rattle.paths.proofs.SearchPasses.{explore_near, explore_end}
use Rattle.paths.proofs.FullLabels.{label_start, label_step}
use borrow.Author.Rules.{rules}
use Rattle.paths.proofs.search.explore.Goals as goal

pub loop-pass-init : goal.loop-pass-init
loop-pass-init c limit o =
    label_start (replicate {A = ℕ} 96 shut) c.requires.search_ready o c.requires.blank
    (length-replicate {A = ℕ} 96 shut) (λ v h. get_or-replicate {A = ℕ} 96 v shut 0 h)

pub returns-then-v-eq96 : goal.returns-then-v-eq96
returns-then-v-eq96 c = record {
  answered = λ limit o. record {
    hops = (c.loop-pass.invariant limit o).hops;
    widths = (c.loop-pass.invariant limit o).widths;
    searched =
        rw c.if-v-eq96.true at (search_stuck c.requires.search_ready.sound (c.loop-pass.invariant limit o).exploring.searching
        (explore_near c.requires.search_ready.sound (c.loop-pass.invariant limit o).exploring c.choose-v.ensures) c.if-v-eq96.true);
  };
  goal = λ g e. cc;
}

pub offset_bounds-room-v : goal.offset_bounds-room-v
offset_bounds-room-v c =
    let near = explore_near c.requires.search_ready.sound (c.loop-pass.invariant 1 (omega arith)).exploring c.choose-v.ensures in
    let hv : c.choose-v.result < 96 = omega (arith, near.bound, c.if-v-eq96.false) in
    search rules

pub bounds-room-v : goal.bounds-room-v
bounds-room-v c =
    let near = explore_near c.requires.search_ready.sound (c.loop-pass.invariant 1 (omega arith)).exploring c.choose-v.ensures in
    let hv : c.choose-v.result < 96 = omega (arith, near.bound, c.if-v-eq96.false) in
    search rules

pub returns-then-room-v-gt0 : goal.returns-then-room-v-gt0
returns-then-room-v-gt0 c =
    let near = λ (limit : ℕ) (o : 0 < limit). explore_near c.requires.search_ready.sound (c.loop-pass.invariant limit o).exploring c.choose-v.ensures in
    let hv : c.choose-v.result < 96 = omega (arith, (near 1 (omega arith)).bound, c.if-v-eq96.false) in
    record {
      answered = λ limit o. record {
        hops = (c.loop-pass.invariant limit o).hops;
        widths = (c.loop-pass.invariant limit o).widths;
        searched = search_found c.requires.search_ready.sound (c.loop-pass.invariant limit o).exploring.searching (near limit o) hv c.if-room-v-gt0.true;
      };
      goal = λ g e. let same : c.choose-v.result ≡ g = cc in omega arith;
    }

pub offset_bounds-key-v : goal.offset_bounds-key-v
offset_bounds-key-v c =
    let near = explore_near c.requires.search_ready.sound (c.loop-pass.invariant 1 (omega arith)).exploring c.choose-v.ensures in
    let hv : c.choose-v.result < 96 = omega (arith, near.bound, c.if-v-eq96.false) in
    search rules

pub bounds-key-v : goal.bounds-key-v
bounds-key-v c =
    let near = explore_near c.requires.search_ready.sound (c.loop-pass.invariant 1 (omega arith)).exploring c.choose-v.ensures in
    let hv : c.choose-v.result < 96 = omega (arith, near.bound, c.if-v-eq96.false) in
    search rules

pub offset_bounds-key-v-in-loop-pass : goal.offset_bounds-key-v-in-loop-pass
offset_bounds-key-v-in-loop-pass c =
    let near = explore_near c.requires.search_ready.sound (c.loop-pass.invariant 1 (omega arith)).exploring c.choose-v.ensures in
    let hv : c.choose-v.result < 96 = omega (arith, near.bound, c.if-v-eq96.false) in
    search rules

pub bounds-key-v-in-loop-pass : goal.bounds-key-v-in-loop-pass
bounds-key-v-in-loop-pass c =
    let near = explore_near c.requires.search_ready.sound (c.loop-pass.invariant 1 (omega arith)).exploring c.choose-v.ensures in
    let hv : c.choose-v.result < 96 = omega (arith, near.bound, c.if-v-eq96.false) in
    search rules

pub offset_bounds-dist-v : goal.offset_bounds-dist-v
offset_bounds-dist-v c =
    let near = explore_near c.requires.search_ready.sound (c.loop-pass.invariant 1 (omega arith)).exploring c.choose-v.ensures in
    let hv : c.choose-v.result < 96 = omega (arith, near.bound, c.if-v-eq96.false) in
    search rules

pub bounds-dist-v : goal.bounds-dist-v
bounds-dist-v c =
    let near = explore_near c.requires.search_ready.sound (c.loop-pass.invariant 1 (omega arith)).exploring c.choose-v.ensures in
    let hv : c.choose-v.result < 96 = omega (arith, near.bound, c.if-v-eq96.false) in
    search rules

pub relax-next-requires : goal.relax-next-requires
relax-next-requires c =
    let near = explore_near c.requires.search_ready.sound (c.loop-pass.invariant 1 (omega arith)).exploring c.choose-v.ensures in
    let hv : c.choose-v.result < 96 = omega (arith, near.bound, c.if-v-eq96.false) in record {
      relax_ready = relax_ready c.requires.search_ready.sound (c.loop-pass.invariant 1 (omega arith)).exploring.searching c.requires.search_ready.ceilings
          (c.loop-pass.invariant 1 (omega arith)).exploring.most c.requires.covers.within hv (near.fresh hv).1
          (simp length-set (c.loop-pass.invariant 1 (omega arith)).exploring.long_key);
      tags = c.requires.plan_tagged.tags;
    }

pub loop-pass-preserved : goal.loop-pass-preserved
loop-pass-preserved c limit o =
    let near = explore_near c.requires.search_ready.sound (c.loop-pass.invariant limit o).exploring c.choose-v.ensures in
    let hv : c.choose-v.result < 96 = omega (arith, near.bound, c.if-v-eq96.false) in
    let at = at_node c.requires.search_ready.sound (c.loop-pass.invariant limit o).exploring.searching hv (near.fresh hv).1 c.requires.covers in
    label_step c.requires.search_ready.sound (c.loop-pass.invariant limit o) c.requires.search_ready.ceilings c.requires.plan_tagged hv near
    (omega (arith, c.if-room-v-gt0.false)) (c.relax-next.ensures.by_index _ at) (c.relax-next.ensures.by_index_2 _ at) c.relax-next.ensures.next

pub returns : goal.returns
returns c = record {
  answered = λ limit o. record {
    hops = (c.loop-pass.invariant limit o).hops;
    widths = (c.loop-pass.invariant limit o).widths;
    searched = explore_end c.requires.search_ready.sound (c.loop-pass.invariant limit o).exploring c.loop-pass-test.false;
  };
  goal = λ g e. cc;
}
