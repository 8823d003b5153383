-- Split and total of a cheapest plan are the only ones. Assumes nothing.
use mathlib.Core.Path.{◌≡◌, ap, subst}
use mathlib.Core.List.{List}
use Prim.Native.Nat.{ℕ, ◌<◌}
use native.Mathlib.Decide.{dec_lt}
use native.Mathlib.Omega.{arith}
use lib.Dec.{leb→le}
use lib.IntN.{ℤ, pos, negsuc}
use lib.Signed.{◌≤ℤ◌, ◌<ℤ◌, clash_ℤ}
use Rattle.problem.specs.Case.{Case}
use Rattle.problem.specs.Promise.{Cheapest}

both_ways : (a b : ℤ) → a ≤ℤ b → b ≤ℤ a → a ≡ b
both_ways (pos a) (pos b) h k = ap pos (omega (arith, leb→le a b h.le, leb→le b a k.le))
both_ways (pos a) (negsuc b) h k = absurd h.le
both_ways (negsuc a) (pos b) h k = absurd k.le
both_ways (negsuc a) (negsuc b) h k = ap negsuc (omega (arith, leb→le b a h.le, leb→le a b k.le))

module _ {c : Case} {x x' : List ℕ} {s s' : ℕ} {t t' : ℤ} (p : Cheapest c x s t) (q : Cheapest c x' s' t') where
  no_more : t ≤ℤ t'
  no_more = subst (λ (z : ℤ). t ≤ℤ z) q.own_total (p.least x' q.plan)

  no_smaller : s' < s → ⊥
  no_smaller h = clash_ℤ (subst (λ (z : ℤ). t <ℤ z) q.own_total (p.smaller x' q.plan (omega (arith, q.own_split)))) (subst (λ (z : ℤ). t' ≤ℤ z) p.own_total (q.least x p.plan))

pub same_answer : {c : Case} {x x' : List ℕ} {s s' : ℕ} {t t' : ℤ} → Cheapest c x s t → Cheapest c x' s' t' → (s ≡ s') × (t ≡ t')
same_answer {c} {x} {x'} {s} {s'} {t} {t'} p q = (split, both_ways t t' (no_more p q) (no_more q p))
  where
    split : s ≡ s'
    split = elim (dec_lt s s') [
      | yes l ↦ absurd (no_smaller q p l)
      | no l ↦ elim (dec_lt s' s) [ yes k ↦ absurd (no_smaller p q k) | no k ↦ omega arith ]
    ]
