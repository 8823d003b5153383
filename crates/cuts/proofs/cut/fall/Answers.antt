-- `cuts::cut::fall` meets its contract. Assumes nothing.
use native.Mathlib.Omega.{arith}
use mathlib.Core.Bool.{true≢false}
use mathlib.Core.Path.{refl, sym}
use Rattle.cuts.proofs.CutSteps.{fall_room, fall_room_2, fell}
use Rattle.cuts.proofs.cut.fall.Goals as goal

pub returns-then-least-lt416000000 : goal.returns-then-least-lt416000000
returns-then-least-lt416000000 c = record { rose = λ e. absurd (true≢false (sym e)); same = λ e. refl }

pub returns-then-least-d : goal.returns-then-least-d
returns-then-least-d c = record { rose = λ e. absurd (true≢false (sym e)); same = λ e. refl }

pub others-sources-requires : goal.others-sources-requires
others-sources-requires c = omega (arith, c.requires.sources)

pub others-terminals-requires : goal.others-terminals-requires
others-terminals-requires c = c.requires.terminals

pub change-requires : goal.change-requires
change-requires c =
    fall_room _ c.requires c.bottom-least.ensures (omega (arith, c.if-least-lt416000000.false, c.if-least-d.false)) c.others-sources.ensures c.others-terminals.ensures

pub change-requires-2 : goal.change-requires-2
change-requires-2 c =
    fall_room_2 _ c.requires c.bottom-least.ensures (omega (arith, c.if-least-lt416000000.false, c.if-least-d.false)) c.others-sources.ensures
    c.others-terminals.ensures c.change.ensures

pub returns : goal.returns
returns c =
    record {
      rose =
          λ e. (
            _,
            fell _ c.requires c.bottom-least.ensures (omega (arith, c.if-least-lt416000000.false, c.if-least-d.false)) c.others-sources.ensures
                c.others-terminals.ensures c.change.ensures c.change-2.ensures,
          );
      same = λ e. absurd (true≢false e);
    }
