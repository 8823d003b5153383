-- The laws of one residual arc. Assumes nothing.
use mathlib.Core.Path.{◌≡◌, sym, ap, ◌∙◌}
use Prim.Native.Nat.{ℕ, ◌+◌, ◌≤◌, ◌<◌}
use native.Mathlib.Omega.{arith}
use Rattle.residual.specs.inner.Network.{Net, Arc}
use Rattle.residual.specs.inner.Network.Arc.{ahead, back}

-- the label that an arc offers is one
pub arc_same : (N : Net) → N.m ≤ 32 → (v w b t k t' k' : ℕ) → Arc N v w b t k → Arc N v w b t' k' → t ≡ t'
arc_same N s v w b t k t' k' (ahead j a e f g h i) (ahead j' a' e' f' g' h' i') =
    let z : j ≡ j' = omega arith in h ∙ ap (λ j. b + N.c v j) z ∙ sym h'
arc_same N s v w b t k t' k' (ahead j a e f g h i) (back j' a' e' f' g' h' i') = absurd (omega arith)
arc_same N s v w b t k t' k' (back j a e f g h i) (ahead j' a' e' f' g' h' i') = absurd (omega arith)
arc_same N s v w b t k t' k' (back j a e f g h i) (back j' a' e' f' g' h' i') =
    let z : j ≡ j' = omega arith in omega (arith, ap (λ j. N.c w j) z)

-- a lane with nothing on it gives no return arc
pub shut_back : {N : Net} {v w b : ℕ} (j : ℕ) → N.m ≤ 32 → w < N.m → v ≡ 32 + j → N.x w j ≤ 0 → (t k : ℕ) → Arc N v w b t k → ⊥
shut_back j s hw e l t k (ahead j' a a' f g h i) = omega arith
shut_back {N} {w = w} j s hw e l t k (back j' a a' f g h i) = let z : j ≡ j' = omega arith in omega (arith, ap (λ j. N.x w j) z)

pub arc_room : {N : Net} {v w b t k : ℕ} → Arc N v w b t k → 0 < k
arc_room (ahead j a e f g h i) = omega arith
arc_room (back j a e f g h i) = omega arith

pub arc_source : {N : Net} {v w b t k : ℕ} → Arc N v w b t k → w < 32 → w < N.m
arc_source (ahead j a e f g h i) l = absurd (omega arith)
arc_source (back j a e f g h i) l = a

pub arc_terminal : {N : Net} {v w b t k : ℕ} → N.m ≤ 32 → Arc N v w b t k → 32 ≤ w → w < 32 + N.n
arc_terminal s (ahead j a e f g h i) l = omega arith
arc_terminal s (back j a e f g h i) l = absurd (omega arith)

pub arc_eq : {N : Net} {v v' w b b' t t' k : ℕ} → v' ≡ v → b' ≡ b → t' ≡ t → Arc N v w b t k → Arc N v' w b' t' k
arc_eq ev eb et a = rw (ev, eb, et) a
