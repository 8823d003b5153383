-- What there is for the incumbent: at its own split what stands there, else what was kept. Assumes nothing.
use mathlib.Core.Path.{◌≡◌, ap, ◌∙◌}
use mathlib.Core.Bool.{cond}
use mathlib.Core.List.{List}
use Prim.Native.Nat.{ℕ, zero, suc, ◌+◌, ◌-◌, ◌*◌}
use native.Mathlib.Decide.{dec_lt}
use native.Mathlib.Omega.{arith}
use lib.ListN.{set}
use lib.Seq.{set-get_or}
use borrow.Author.Tests.{eq-eqb, ne_eqb}
use Rattle.residual.specs.inner.Network.{get}
use Rattle.augment.specs.inner.PathWalk.{Carried, Walked}
use Rattle.stretch.specs.inner.Stretch.{held_at}

pub held_here : {split y : ℕ} (here kept : List ℕ) → split ≡ y → held_at split y here kept ≡ here
unfolding held_at
held_here {split} {y} here kept e = ap (λ b. cond b here kept) (eq-eqb split y e)

pub held_kept : {split y : ℕ} (here kept : List ℕ) → (split ≡ y → ⊥) → held_at split y here kept ≡ kept
unfolding held_at
held_kept {split} {y} here kept e = ap (λ b. cond b here kept) (ne_eqb split y e)

-- a walk of no drums changes nothing
carried_none : {v w : ℕ} {x y : List ℕ} → Carried v w 0 x y → y ≡ x
carried_none {v} {w} {x} {y} c = elim (dec_lt v 32) [
  | yes h ↦ let k = v * 64 + (w - 32) in let e : get x k - 0 ≡ get x k = omega arith in c.less h ∙ ap (set x k) e ∙ set-get_or x k 0
  | no h ↦ let k = w * 64 + (v - 32) in let e : get x k + 0 ≡ get x k = omega arith in c.more (omega arith) ∙ ap (set x k) e ∙ set-get_or x k 0
]

pub walked_none : (P : List ℕ) (h v : ℕ) (x x' : List ℕ) → Walked P 0 h v x x' → x' ≡ x
unfolding Walked
walked_none P zero v x x' w = w
walked_none P (suc h) v x x' w = walked_none P h (get P v) w.0 x' w.2 ∙ carried_none w.1
