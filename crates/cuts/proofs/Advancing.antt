-- Cuts one after the other, and an empty lane that is no longer noted. Assumes nothing.
use mathlib.Core.Path.{◌≡◌, sym, ap, ◌∙◌}
use mathlib.Core.Logic.{◌≢◌}
use mathlib.Core.List.{List}
use Prim.Native.Nat.{ℕ, ◌+◌, ◌-◌, ◌*◌, ◌^◌, ◌<◌}
use native.Mathlib.Decide.{ℕ_discrete}
use native.Mathlib.Omega.{arith}
use lib.ListN.{set, length-set}
use lib.Seq.{get_or-set_same, get_or-set_other}
use Rattle.residual.specs.inner.Network.{get}
use Rattle.residual.specs.inner.Bits.{bit}
use Rattle.residual.specs.inner.LanesInUse.{Covers}
use Rattle.treepath.specs.inner.Follow.{FollowReady}
use Rattle.cuts.specs.inner.Cut.{CutReady, Priced, Shifted}
use Rattle.cuts.specs.inner.Advance.{Forgot, Advanced}
use Rattle.cuts.proofs.PartBits.{bit_drop}

pub forgot_none : {x s : List ℕ} → Forgot x s s
forgot_none = record { covers = λ m n c. c }

pub forgot : {x s : List ℕ} (i : ℕ) {j : ℕ} → j < 64 → bit (get s j) i ≡ 1 → get x (i * 64 + j) ≡ 0 → Forgot x s (set s j (get s j - 2 ^ i))
forgot {x} {s} i {j} hj o e = record {
  covers = λ m n c. record {
    long = length-set s j (get s j - 2 ^ i) ∙ c.long;
    within = λ b l. elim (ℕ_discrete b j) [
      | yes z ↦ rw z (omega (arith, here c, c.within b l, ap (λ k. get s k) z))
      | no z ↦ omega (arith, off b z, c.within b l)
    ];
    serving = λ a b ha hb k. elim (ℕ_discrete b j) [
      | yes z ↦ elim (ℕ_discrete a i) [
        | yes y ↦ absurd (omega (arith, k, ap (λ w. get x w) (same a b y z)))
        | no y ↦ rw z (ap (λ w. bit w a) (here c) ∙ bit_drop i (get s j) a o y ∙ ap (λ w. bit (get s w) a) (sym z) ∙ c.serving a b ha hb k)
      ]
      | no z ↦ ap (λ w. bit w a) (off b z) ∙ c.serving a b ha hb k
    ];
  };
}
  where
    here : {m n : ℕ} → Covers m n x s → get (set s j (get s j - 2 ^ i)) j ≡ get s j - 2 ^ i
    here c = get_or-set_same s j (get s j - 2 ^ i) 0 (omega (arith, c.long))

    off : (b : ℕ) → b ≢ j → get (set s j (get s j - 2 ^ i)) b ≡ get s b
    off b z = get_or-set_other s j b (get s j - 2 ^ i) 0 z

    same : (a b : ℕ) → a ≡ i → b ≡ j → a * 64 + b ≡ i * 64 + j
    same a b y z = omega arith

-- one cut, after an empty lane is no longer noted
pub advance_cut : {m n : ℕ} {cost table columns x s p s' p' : List ℕ} → Forgot x s s' → Shifted m n cost table columns x s' p p' → Advanced m n cost table columns x s p s' p'
advance_cut {m} {n} {x = x} f q = record {
  long = q.long;
  floor = q.floor;
  high = q.high;
  covers = f.covers m n;
  sound = λ cap t c o. q.sound cap t (f.covers m n c) o;
}

pub advance_start : {m n : ℕ} {cost table columns x s p : List ℕ} → CutReady m n table columns p → Advanced m n cost table columns x s p s p
advance_start r = record { long = r.long; floor = λ v h. omega arith; high = r.high; covers = λ c. c; sound = λ cap t c o. o }

pub advance_next :
    {m n : ℕ} {cost table columns x s p s₁ p₁ s' p' : List ℕ} → Advanced m n cost table columns x s p s₁ p₁ →
    Advanced m n cost table columns x s₁ p₁ s' p' → Advanced m n cost table columns x s p s' p'
advance_next a b = record {
  long = b.long;
  floor = λ v h. omega (arith, a.floor v h, b.floor v h);
  high = b.high;
  covers = λ c. b.covers (a.covers c);
  sound = λ cap t c o. b.sound cap t (a.covers c) (a.sound cap t c o);
}

-- the same, where the second is of a plan x' that is x
pub advance_on :
    {m n : ℕ} {cost table columns x x' s p s₁ p₁ s' p' : List ℕ} → x' ≡ x → Advanced m n cost table columns x s p s₁ p₁ →
    Advanced m n cost table columns x' s₁ p₁ s' p' → Advanced m n cost table columns x s p s' p'
advance_on e a b = advance_next a (rw (← e) b)

-- the next cut can be made
pub advance_ready : {m n : ℕ} {cost table columns x s p s' p' : List ℕ} → CutReady m n table columns p → Advanced m n cost table columns x s p s' p'
    → CutReady m n table columns p'
advance_ready r a = record { sources = r.sources; terminals = r.terminals; costs = r.costs; columns_most = r.columns_most; high = a.high; long = a.long }

-- the tree's path can be walked
pub follow_ready : {m n : ℕ} {cost table columns x s p s' p' : List ℕ} → CutReady m n table columns p → Priced m n cost
    → Advanced m n cost table columns x s p s' p' → FollowReady m n cost p'
follow_ready r q a = record { sources = r.sources; terminals = r.terminals; costs = q.costs; high = a.high; long = a.long }
