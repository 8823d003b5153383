-- A pass over the sources that serve a terminal, by the bits of its word. Assumes nothing.
use mathlib.Core.Path.{◌≡◌, ap}
use mathlib.Core.List.{List}
use Prim.Native.Nat.{ℕ, ◌+◌, ◌^◌, ◌≤◌, ◌<◌}
use native.Mathlib.Omega.{arith}
use lib.Pow.{pow_mono}
use lib.Count.{count_trailing_zeros}
use Rattle.residual.specs.inner.Network.{net, get, Arc}
use Rattle.residual.specs.inner.Network.Arc.{ahead, back}
use Rattle.residual.specs.inner.Labels.{Relabelling}
use Rattle.residual.specs.inner.Bits.{bit, Left}
use Rattle.residual.specs.inner.LanesInUse.{Covers}
use Rattle.residual.proofs.Relaxation.{pass_skip}
use Rattle.residual.proofs.Bits.{bit_place, left_set}

pub word_fits : {m s : ℕ} → s < 2 ^ m → m ≤ 32 → s < 2 ^ 32
word_fits {m} l h = omega (arith, pow_mono {i = m} {j = 32} h)

-- no arc leads from a terminal to a source whose bit is not set
unserved : {m n : ℕ} (cost cap : List ℕ) {x s : List ℕ} {v w b : ℕ} (j : ℕ) → Covers m n x s → m ≤ 32 → v ≡ 32 + j → bit (get s j) w ≡ 0
    → (t k : ℕ) → Arc (net m n cost cap x) v w b t k → ⊥
unserved cost cap j c h e z t k (ahead i a o f g p q) = omega arith
unserved cost cap {s = s} {w = w} j c h e z t k (back i a o f g p q) =
    let y : i ≡ j = omega arith in omega (arith, c.serving w i a o g, ap (λ j. bit (get s j) w) y)

-- so the pass goes by it
pub column_skip : {m n : ℕ} (cost cap : List ℕ) {x s : List ℕ} {v b lo hi : ℕ} {T P T' P' : List ℕ} (j : ℕ) → Covers m n x s → m ≤ 32 → v ≡ 32 + j
    → Relabelling (net m n cost cap x) v b 0 lo T P T' P' → lo ≤ hi → ((i : ℕ) → lo ≤ i → i < hi → bit (get s j) i ≡ 0)
    → Relabelling (net m n cost cap x) v b 0 hi T P T' P'
column_skip cost cap j c h e p l f = pass_skip p l (λ w a o. unserved cost cap j c h e (f w a o))

-- and what it comes to is a source
pub next_source : {m s r lo : ℕ} → s < 2 ^ m → Left s r lo → 0 < r → r < 2 ^ 32 → count_trailing_zeros 32 r < m
next_source {m} {s} {r} h q p b = bit_place m s (count_trailing_zeros 32 r) h (left_set 32 q p b)
