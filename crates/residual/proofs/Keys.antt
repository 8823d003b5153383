-- How the keys follow one pass over the arcs out of a node. Assumes nothing.
use mathlib.Core.Path.{◌≡◌, refl, sym, ◌∙◌}
use mathlib.Core.Logic.{◌≢◌, ◌⊎◌, inl, inr}
use mathlib.Core.Bool.{Bool, true, false≢true}
use mathlib.Core.List.{List}
use Prim.Native.Nat.{ℕ, ◌+◌, ◌≤◌, ◌<◌}
use native.Mathlib.Decide.{ℕ_discrete}
use native.Mathlib.Omega.{arith}
use lib.ListN.{length, set, length-set}
use lib.Seq.{get_or-set_same, get_or-set_other}
use Rattle.residual.specs.inner.Network.{Net, get}
use Rattle.residual.specs.inner.Labels.{Offered}
use Rattle.residual.specs.inner.Labels.Offered.{kept, won}
use Rattle.residual.specs.inner.Keys.{shut, Keyed, Lone, Rekey, Rekeyed, Next, Named}
use Rattle.residual.specs.inner.Keys.Named.{other, this}
use Rattle.residual.specs.inner.Keys.Rekey.{same, new, lone}

-- ---- a pass

pub rekey_start : {N : Net} {want p T K : List ℕ} {v : ℕ} → length K ≡ 96 → Rekeyed N want v p T T K K
rekey_start e = record { long = e; each = λ w h. same refl refl }

-- a node is offered a label and a key
pub rekey_open : {N : Net} {want : List ℕ} {w t v f : ℕ} {take : Bool} {p T₀ T T' P P' K₀ K K' : List ℕ}
    → Rekeyed N want v p T₀ T K₀ K → length T ≡ 96 → w < 96 → (take ≡ true → t < get T w)
    → (take ≡ true → Keyed t (get p w) f ⊎ ((f ≡ shut) × Lone N want v w))
    → Offered take w t v f T T' P P' K K' → Rekeyed N want v p T₀ T' K₀ K'
rekey_open q e b less made (kept h et ep ek) = rw (et, ek) q
rekey_open {N} {want} {w} {t} {v} {f} {p = p} {T₀} {T} {K₀ = K₀} {K} q e b less made (won h et ep ek) =
    rw (et, ek) (record { long = length-set K w f ∙ q.long; each = each })
  where
    below : Rekey N want v w (get p w) (get T₀ w) (get T w) (get K₀ w) (get K w) → t < get T₀ w
    below (same a c) = omega (arith, less h)
    below (new a c) = omega (arith, less h)
    below (lone a c d) = omega (arith, less h)

    fresh : Keyed t (get p w) f ⊎ ((f ≡ shut) × Lone N want v w) → Rekey N want v w (get p w) (get T₀ w) t (get K₀ w) f
    fresh (inl k) = new (below (q.each w b)) k
    fresh (inr k) = lone (below (q.each w b)) k.0 k.1

    here : Rekey N want v w (get p w) (get T₀ w) (get (set T w t) w) (get K₀ w) (get (set K w f) w)
    here = rw (get_or-set_same T w t 0 (omega arith), get_or-set_same K w f 0 (omega (arith, q.long))) (fresh (made h))

    off : (u : ℕ) → u ≢ w → Rekey N want v u (get p u) (get T₀ u) (get T u) (get K₀ u) (get K u)
        → Rekey N want v u (get p u) (get T₀ u) (get (set T w t) u) (get K₀ u) (get (set K w f) u)
    off u z r = rw (get_or-set_other T w u t 0 z, get_or-set_other K w u f 0 z) r

    each : (u : ℕ) → u < 96 → Rekey N want v u (get p u) (get T₀ u) (get (set T w t) u) (get K₀ u) (get (set K w f) u)
    each u hu = elim (ℕ_discrete u w) [ yes z ↦ rw z here | no z ↦ off u z (q.each u hu) ]

-- ---- the node that a pass names

pub next_start : {K : List ℕ} {level k : ℕ} → Next K level k 96
next_start = record { bound = omega arith; past = λ h. absurd (omega arith); near = λ h. absurd (omega arith) }

pub next_most : {K : List ℕ} {level k k' r : ℕ} → Next K level k r → k ≤ k' → Next K level k' r
next_most q h = record { bound = q.bound; past = λ o. omega (arith, q.past o); near = q.near }

pub next_kept : {K : List ℕ} {level k r : ℕ} → Next K level k r → Next K level (k + 1) r
next_kept q = next_most q (omega arith)

pub next_open : {w t v f level next r : ℕ} {take : Bool} {T T' P P' K K' : List ℕ} → Next K level w next → length K ≡ 96 → w < 96 → f < shut
    → Offered take w t v f T T' P P' K K' → Named take f level w next r → Next K' level (w + 1) r
next_open q e h s (kept a et ep ek) (other z) = rw (ek, z) (next_kept q)
next_open q e h s (kept a et ep ek) (this z o d) = absurd (false≢true (sym a ∙ o))
next_open {w} {f = f} {next = next} {K = K} q e h s (won a et ep ek) (other z) = rw (ek, z) (record {
  bound = q.bound;
  past = λ o. omega (arith, q.past o);
  near = λ o. rw (get_or-set_other K w next f 0 (λ y. absurd (omega (arith, q.past o)))) (q.near o);
})
next_open {w} {f = f} {K = K} q e h s (won a et ep ek) (this z o d) = rw (ek, z) (record {
  bound = omega arith;
  past = λ o. omega arith;
  near = λ o. rw (get_or-set_same K w f 0 (omega arith)) (d, s);
})
