-- `incumbent::scan::ones` meets its contract. Assumes nothing.
use mathlib.Core.Path.{◌≡◌, subst}
use Prim.Native.Nat.{ℕ, ◌+◌, ◌-◌, ◌<◌}
use native.Mathlib.Omega.{arith}
use lib.ListN.{get_or}
use Rattle.incumbent.specs.inner.Scan.{better}
use Rattle.incumbent.proofs.IncumbentScan.{scan_start, scan_room, scan_fall, scan_next}
use Rattle.incumbent.proofs.scan.ones.Goals as goal

pub loop-split-init : goal.loop-split-init
loop-split-init c = let e : c.args.y + 1 - (c.args.y + 1) ≡ 0 = omega arith in rw e scan_start

pub overflow_add-value : goal.overflow_add-value
overflow_add-value c =
    let l : c.loop-split.split - (c.args.y + 1) < c.args.amount = omega arith in omega (arith, scan_room c.requires c.loop-split.invariant l)

pub overflow_sub-value : goal.overflow_sub-value
overflow_sub-value c =
    let l : c.loop-split.split - (c.args.y + 1) < c.args.amount = omega arith in scan_fall c.requires c.loop-split.invariant l

pub better_of-held-requires : goal.better_of-held-requires
better_of-held-requires c =
    let p = c.requires in
    let t : ℕ = c.loop-split.split - (c.args.y + 1) in
    let l : t < c.args.amount = omega arith in
    let s : c.args.y + (t + 1) ≡ c.loop-split.split = omega arith in
    omega (arith, rw s at (p.small (t + 1) (omega arith)), scan_room p c.loop-split.invariant l)

pub loop-split-preserved : goal.loop-split-preserved
loop-split-preserved c =
    let t : ℕ = c.loop-split.split - (c.args.y + 1) in
    let l : t < c.args.amount = omega arith in
    let s : c.loop-split.split ≡ c.args.y + (t + 1) = omega arith in
    let e : c.loop-split.split + 1 - (c.args.y + 1) ≡ t + 1 = omega arith in
    let v : ℕ = c.loop-split.value + c.args.gain - c.args.loss in
    rw e (scan_next c.requires c.loop-split.invariant l _
    (subst (λ (k : ℕ). c.better_of-held.result ≡ better c.loop-split.held k v (get_or c.args.table.now k 0)) s c.better_of-held.ensures))

pub returns : goal.returns
returns c =
    let e : c.loop-split.split - (c.args.y + 1) ≡ c.args.amount = omega arith in
    rw (← e) c.loop-split.invariant.best
