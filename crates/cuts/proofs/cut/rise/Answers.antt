-- `cuts::cut::rise` meets its contract. Assumes nothing.
use Prim.Native.Nat.{◌^◌, ◌<◌}
use native.Mathlib.Omega.{arith}
use Rattle.cuts.proofs.CutSteps.{rose, rise_room, rise_room_2}
use mathlib.Core.Bool.{true≢false}
use mathlib.Core.Path.{refl, sym}
use Rattle.cuts.proofs.cut.rise.Goals as goal

pub returns-then-most-gt800000000 : goal.returns-then-most-gt800000000
returns-then-most-gt800000000 c = record { rose = λ e. absurd (true≢false (sym e)); same = λ e. refl }

pub returns-then-most-d : goal.returns-then-most-d
returns-then-most-d c = record { rose = λ e. absurd (true≢false (sym e)); same = λ e. refl }

pub change-requires : goal.change-requires
change-requires c =
    let f : c.args.rows < 2 ^ 32 = omega (arith, c.ranges.rows) in rise_room f c.requires c.top-most.ensures (omega (arith, c.if-most-d.false, c.if-most-gt800000000.false))

pub change-requires-2 : goal.change-requires-2
change-requires-2 c =
    let f : c.args.rows < 2 ^ 32 = omega (arith, c.ranges.rows) in
    rise_room_2 f c.top-most.ensures (omega (arith, c.if-most-d.false, c.if-most-gt800000000.false)) c.change.ensures (omega (arith, c.ranges.cols))

pub returns : goal.returns
returns c =
    let f : c.args.rows < 2 ^ 32 = omega (arith, c.ranges.rows) in
    record {
      rose = λ e. (_, rose f c.top-most.ensures (omega (arith, c.if-most-d.false, c.if-most-gt800000000.false)) c.change.ensures c.change-2.ensures);
      same = λ e. absurd (true≢false e);
    }
