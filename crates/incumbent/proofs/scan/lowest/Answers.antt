-- `incumbent::scan::lowest` meets its contract. What the loop holds is said of every incumbent of the total that it starts from. Assumes nothing.
use mathlib.Core.Path.{◌≡◌, refl}
use Prim.Native.Nat.{◌+◌, ◌-◌, ◌*◌, ◌%◌}
use native.Mathlib.Omega.{arith}
use Rattle.incumbent.specs.inner.Scan.{LineReady}
use Rattle.incumbent.proofs.IncumbentScan.{line_ready}
use Rattle.incumbent.proofs.FourSplits.{lowest_start, lowest_new, lowest_old}
use Rattle.incumbent.proofs.scan.lowest.Goals.{In-loop-block, then-low-held, else-low-held}
use Rattle.incumbent.proofs.scan.lowest.Goals as goal

pub loop-block-init : goal.loop-block-init
loop-block-init c = (omega arith, λ b e. rw (← e) lowest_start)

-- the next four splits
ready : (c : In-loop-block)
    → LineReady c.args.table.now (c.args.y + 4 * c.loop-block.block) 4 c.loop-block.value
    c.args.gain c.args.loss
ready c = line_ready (4 * c.loop-block.block) 4 c.requires (omega arith) c.loop-block.invariant.0

pub four-low-requires : goal.four-low-requires
four-low-requires c = ready (goal.at.four-low-requires c).In-loop-block

pub overflow_mul-value : goal.overflow_mul-value
overflow_mul-value c = omega (arith, (ready (goal.at.overflow_mul-value c).In-loop-block).room)

pub overflow_add-value : goal.overflow_add-value
overflow_add-value c = omega (arith, (ready (goal.at.overflow_add-value c).In-loop-block).room)

pub overflow_mul-value-in-loop-block : goal.overflow_mul-value-in-loop-block
overflow_mul-value-in-loop-block c = let p = ready (goal.at.overflow_mul-value-in-loop-block c).In-loop-block in omega (arith, p.room, p.above 4 (omega arith))

pub overflow_sub-value : goal.overflow_sub-value
overflow_sub-value c = omega (arith, (ready (goal.at.overflow_sub-value c).In-loop-block).above 4 (omega arith))

pub loop-block-preserved : goal.loop-block-preserved
loop-block-preserved c =
    let i = c.loop-block.invariant in
    let p = ready (goal.at.loop-block-preserved c).In-loop-block in
    let e : 4 * (c.loop-block.block + 1) ≡ 4 * c.loop-block.block + 4 = omega arith in
    rw e (
      omega (arith, i.0, p.above 4 (omega arith)),
      λ b e. elim c.if-low-held.branch [
        | then-low-held w ↦ rw w.held-is (lowest_new (i.1 b e) _ i.0 c.four-low.ensures w.if-low-held.true)
        | else-low-held w ↦ rw w.held-is (lowest_old (i.1 b e) _ i.0 c.four-low.ensures w.if-low-held.false)
      ],
    )

pub returns : goal.returns
returns c =
    let e : 4 * c.loop-block.block ≡ c.args.amount - c.args.amount % 4 = omega arith in
    rw (← e) (c.loop-block.invariant.1 _ refl)
