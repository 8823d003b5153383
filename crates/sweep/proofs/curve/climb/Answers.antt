-- `sweep::curve::climb` meets its contract. Assumes nothing.
use Rattle.std.proofs.Common.{ℕ, refl, ◌∙◌, arith}
use lib.ListN.{length-replicate}
use Rattle.cuts.proofs.ByTerminal.{fill_start}
use Rattle.sweep.proofs.ClimbState.{stand_start, start_most, stretch_ready, last_ready, stand_next, most, gain_most, loss_most}
use Rattle.sweep.proofs.StretchChain.{stretched_start, stretched_next}
use Rattle.sweep.proofs.ClimbSteps.{ascend_start, ascend_splits, ascend_freights, ascend_room, ascend_next, ascend_end}
use Rattle.sweep.proofs.curve.climb.Goals as goal

pub tables-requires : goal.tables-requires
tables-requires c =
    let s = c.requires.climb_ready.plant_slack in record { transpose_ready = (record { sources = s.sound.sources; terminals = s.sound.terminals; costs = λ i j a b. omega (arith, s.sound.costs i j a b) }, fill_start); x_len = (s.long_x, length-replicate {A = ℕ} 2048 0) }

pub offset_bounds-table-at : goal.offset_bounds-table-at
offset_bounds-table-at c = omega (arith, c.requires.climb_ready.entries, c.requires.climb_ready.order, c.well_formed)

pub bounds-table-at : goal.bounds-table-at
bounds-table-at c = omega (arith, c.requires.climb_ready.entries, c.requires.climb_ready.order)

pub overflow_add-best : goal.overflow_add-best
overflow_add-best c =
    let r = c.requires.climb_ready in omega (arith, start_most r, r.small c.args.course.lo (omega arith) r.order)

pub loop-y-init : goal.loop-y-init
loop-y-init c =
    let r = c.requires.climb_ready in
    (stand_start r _ _, ascend_start r, omega arith, omega arith, c.requires.covers, stretched_start r, c.tables.ensures, length-replicate {A = ℕ} 96 0)

pub overflow_sub-left : goal.overflow_sub-left
overflow_sub-left c = omega (arith, c.loop-y-test.true)

pub overflow_cast-left : goal.overflow_cast-left
overflow_cast-left c = omega (arith, c.requires.climb_ready.short, c.loop-y.invariant.1.low)

pub send_drums-path-requires : goal.send_drums-path-requires
send_drums-path-requires c =
    let i = c.loop-y.invariant in
    let r = c.requires.climb_ready in record { shift_ready = (stretch_ready r i.0 i.1.low c.loop-y-test.true).shift; wanted = λ j h. omega (arith, i.0.at.demands j (omega arith) h, c.requires.wanted j h); covers = i.4; tables = i.6; prev_len = i.7 }

pub revise-moved-requires : goal.revise-moved-requires
revise-moved-requires c =
    let i = c.loop-y.invariant in
    let r = c.requires.climb_ready in
    record {
      net = _;
      plan = _;
      pots = _;
      limit = _;
      ready = stretch_ready r i.0 i.1.low c.loop-y-test.true;
      sent = c.send_drums-path.ensures.sent;
    }

pub turn-stop-requires : goal.turn-stop-requires
turn-stop-requires c =
    let i = c.loop-y.invariant in
    let r = c.requires.climb_ready in
    let l = c.loop-y-test.true in
    let q = c.revise-moved.ensures _ _ _ _ (stretch_ready r i.0 i.1.low l) c.send_drums-path.ensures.sent in
    (omega (arith, gain_most r i.0 i.1.low l q, i.3), omega (arith, loss_most r i.0 i.1.low l q, i.2))

pub mark-count-requires : goal.mark-count-requires
mark-count-requires c =
    let i = c.loop-y.invariant in
    let r = c.requires.climb_ready in
    ascend_room r i.0 i.1

pub loop-y-smaller : goal.loop-y-smaller
loop-y-smaller c =
    let i = c.loop-y.invariant in
    let r = c.requires.climb_ready in
    let l = c.loop-y-test.true in
    let q = c.revise-moved.ensures _ _ _ _ (stretch_ready r i.0 i.1.low l) c.send_drums-path.ensures.sent in
    omega (arith, most r i.0 i.1.low l q, q.some, q.split, l)

pub loop-y-preserved : goal.loop-y-preserved
loop-y-preserved c =
    let i = c.loop-y.invariant in
    let r = c.requires.climb_ready in
    let l = c.loop-y-test.true in
    let s = c.send_drums-path.ensures in
    let q = c.revise-moved.ensures _ _ _ _ (stretch_ready r i.0 i.1.low l) s.sent in (
      stand_next r i.0 i.1.low l q refl refl refl refl,
      ascend_next r i.0 i.1 l q c.turn-stop.ensures c.mark-count.ensures,
      gain_most r i.0 i.1.low l q,
      loss_most r i.0 i.1.low l q,
      s.covers_2,
      stretched_next r i.0 i.1.low l q i.5,
      s.tables_2,
      s.sent.taken.long,
    )

pub note-count-requires : goal.note-count-requires
note-count-requires c =
    let i = c.loop-y.invariant in
    let r = c.requires.climb_ready in
    ascend_room r i.0 i.1

pub canonize-requires : goal.canonize-requires
canonize-requires c =
    let k = c.keep_last.ensures in last_ready c.requires.climb_ready c.loop-y.invariant.0 k.kept_after k.prices_after

pub shape_of-splits : goal.shape_of-splits
shape_of-splits c =
    let i = c.loop-y.invariant in
    let r = c.requires.climb_ready in
    c.note-count.auto.splits ∙ ascend_splits r i.0 i.1

pub shape_of-freights : goal.shape_of-freights
shape_of-freights c =
    let i = c.loop-y.invariant in
    let r = c.requires.climb_ready in
    c.note-count.auto.freights ∙ ascend_freights r i.0 i.1

pub returns : goal.returns
returns c =
    let i = c.loop-y.invariant in
    let r = c.requires.climb_ready in
    ascend_end r i.0 i.1 c.loop-y-test.false c.note-count.ensures c.keep_last.ensures.kept_after c.canonize.ensures i.5
