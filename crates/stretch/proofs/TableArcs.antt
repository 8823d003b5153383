-- The tables of the cuts follow an arc that drums go over. Assumes nothing.
use mathlib.Core.Path.{◌≡◌, refl, sym, ap, subst, ◌∙◌}
use mathlib.Core.Bool.{Bool, true, false}
use mathlib.Core.List.{List}
use Prim.Native.Nat.{ℕ, zero, suc, ◌+◌, ◌-◌, ◌*◌, ◌≤◌}
use native.Mathlib.Decide.{dec_lt}
use native.Mathlib.Omega.{arith}
use lib.ListN.{length, length-set}
use Rattle.residual.specs.inner.Network.{get}
use Rattle.augment.specs.inner.PathWalk.{CarryReady, Carried, Walked}
use Rattle.cuts.specs.inner.Tables.{Tables, LaneEnds, Renewed}
use Rattle.cuts.proofs.TablesKept.{tables_same, tables_lane}

pub lane_ends : {v w d : ℕ} {x : List ℕ} → CarryReady v w d x → LaneEnds v w
lane_ends r = record { source = λ h. let s = r.less h in (s.0, s.1); terminal = λ h. let s = r.more h in (s.0, s.1) }

carried_long : {v w d : ℕ} {x x' : List ℕ} → Carried v w d x x' → length x ≡ 2048 → length x' ≡ 2048
carried_long {v} {w} {d} {x} q l = elim (dec_lt v 32) [
  | yes h ↦ ap length (q.less h) ∙ length-set x (v * 64 + (w - 32)) (get x (v * 64 + (w - 32)) - d) ∙ l
  | no h ↦ ap length (q.more (omega arith)) ∙ length-set x (w * 64 + (v - 32)) (get x (w * 64 + (v - 32)) + d) ∙ l
]

walked_long : (P : List ℕ) (d h v : ℕ) (x x' : List ℕ) → Walked P d h v x x' → length x ≡ 2048 → length x' ≡ 2048
unfolding Walked
walked_long P d zero v x x' w l = ap length w ∙ l
walked_long P d (suc h) v x x' w l = walked_long P d h (get P v) w.0 x' w.2 (carried_long w.1 l)

-- where ceilings are wide they stay
pub tables_wide : (P : List ℕ) (d h v : ℕ) (x x' : List ℕ) {wide : Bool} → wide ≡ true → Walked P d h v x x' → (m n : ℕ) {cost cap ahead columns : List ℕ}
    → Tables wide m n cost cap x ahead columns → Tables wide m n cost cap x' ahead columns
tables_wide P d h v x x' e w m n t = tables_same e (walked_long P d h v x x' w t.long) t

-- where they are not, they are followed as such
pub tables_within : {wide : Bool} {cost cap x x' ahead columns ahead' columns' : List ℕ} → wide ≡ false
    → ((m n : ℕ) → Tables false m n cost cap x ahead columns → Tables false m n cost cap x' ahead' columns') → (m n : ℕ)
    → Tables wide m n cost cap x ahead columns → Tables wide m n cost cap x' ahead' columns'
tables_within {wide} {cost} {cap} {x} {x'} {ahead} {columns} {ahead'} {columns'} e f m n t =
    subst (λ (b : Bool). Tables b m n cost cap x' ahead' columns') (sym e) (f m n (subst (λ (b : Bool). Tables b m n cost cap x ahead columns) e t))

pub tables_arc : {m n v w d : ℕ} {cost cap x x' ahead columns ahead' columns' : List ℕ} → LaneEnds v w → Carried v w d x x'
    → Renewed v w cost cap x' ahead columns ahead' columns' → Tables false m n cost cap x ahead columns
    → Tables false m n cost cap x' ahead' columns'
tables_arc {v = v} {w} {d} {x = x} e q r t = elim (dec_lt v 32) [
  | yes h ↦
      let s = e.source h in
      tables_lane (get x (v * 64 + (w - 32)) - d) refl h (omega (arith, s.0, s.1)) t (q.less h) (r.less h)
  | no h ↦
      let h' : 32 ≤ v = omega arith in
      let s = e.terminal h' in
      tables_lane (get x (w * 64 + (v - 32)) + d) refl s.0 (omega (arith, s.1, h')) t (q.more h') (r.more h')
]
