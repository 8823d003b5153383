-- The walk from plant 2 up a tree, arc by arc. Assumes nothing.
use mathlib.Core.Path.{◌≡◌, refl, sym, ap, ◌∙◌}
use mathlib.Core.Logic.{◌≢◌}
use mathlib.Core.List.{List}
use Prim.Native.Nat.{ℕ, zero, suc, min, ◌+◌, ◌-◌, ◌≤◌, ◌<◌}
use native.Mathlib.Decide.{ℕ_discrete, dec_lt}
use native.Mathlib.Numerals.{add-one}
use native.Mathlib.Omega.{arith}
use lib.ListN.{length, set, length-set}
use lib.Seq.{get_or-set_same, get_or-set_other}
use Rattle.residual.specs.inner.Network.{Net, get}
use Rattle.residual.specs.inner.Network.Arc.{ahead, back}
use Rattle.treepath.specs.inner.Follow.{FollowReady, either, carries, Tied, Bears, Chain, width, Followed}

-- ---- one arc

pub either_yes : {P : Type 0} (d : Dec P) (a b : ℕ) → P → either d a b ≡ a
unfolding either
either_yes (yes h) a b p = refl
either_yes (no h) a b p = absurd (h p)

pub either_no : {P : Type 0} (d : Dec P) (a b : ℕ) → (P → ⊥) → either d a b ≡ b
unfolding either
either_no (yes h) a b p = absurd (p h)
either_no (no h) a b p = refl

module _ {N : Net} {p : List ℕ} {w v k : ℕ} (hm : N.m ≤ 32) (hn : N.n ≤ 64) (some : 0 < k) where
  pub tied_back : v < N.m → 32 ≤ w → w < 32 + N.n → k ≡ N.x v (w - 32) → N.c v (w - 32) + get p v ≡ get p w → Bears N p w v k
  unfolding carries
  tied_back hv l u o e =
      let f = either_yes (dec_lt v 32) (N.x v (w - 32)) (N.u w (v - 32) - N.x w (v - 32)) (omega arith) in
      record {
        tied = record {
          node = omega arith;
          source = λ z. absurd (omega arith);
          terminal = λ z. u;
          some = omega arith;
          arc = back (w - 32) hv (omega arith) (omega arith) (omega arith) (omega arith) f;
        };
        room = omega arith;
      }

  pub tied_ahead_lem : 32 ≤ v → v < 32 + N.n → w < N.m → k ≡ N.u w (v - 32) - N.x w (v - 32) → N.c w (v - 32) + get p w ≡ get p v → Bears N p w v k
  unfolding carries
  tied_ahead_lem h hv l o e =
      let f = either_no (dec_lt v 32) (N.x v (w - 32)) (N.u w (v - 32) - N.x w (v - 32)) (λ z. absurd (omega arith)) in
      record {
        tied = record {
          node = omega arith;
          source = λ z. l;
          terminal = λ z. absurd (omega arith);
          some = omega arith;
          arc = ahead (v - 32) l (omega arith) (omega arith) (omega arith) (omega arith) f;
        };
        room = omega arith;
      }

-- ---- the walk

-- h arcs lead from a up to v, by f, and P has them; d drums of those that a has can go over them all, e of d
unfoldable pub Part : Net → List ℕ → (ℕ → ℕ) → List ℕ → ℕ → ℕ → ℕ → ℕ → ℕ → Type 0
Part N p f P zero a d v e = (a ≡ v) × (d ≡ e)
Part N p f P (suc h) a d v e = (a ≢ 0) × (get P a ≡ f a) × Tied N p (f a) a × Part N p f P h (f a) (min d (carries N (f a) a)) v e

-- the walk up from plant 2 by f has come to v after some arcs, over which amount drums of limit can go
pub record Walk (N : Net) (p : List ℕ) (f : ℕ → ℕ) (limit : ℕ) (P : List ℕ) (v steps amount : ℕ) : Type 0 where
  pub long : length P ≡ 96
  pub node : v < 96
  pub away : v ≢ 0
  pub source : v < 32 → v < N.m
  pub terminal : 32 ≤ v → v < 32 + N.n
  pub part : Part N p f P steps 1 limit v amount

pub within : (N : Net) (limit : ℕ) (P : List ℕ) (h a : ℕ) → width N limit P h a ≤ limit
unfolding width
within N limit P zero a = omega arith
within N limit P (suc h) a = omega (arith, within N limit P h (get P a))

module _ (N : Net) (p : List ℕ) (f : ℕ → ℕ) (P : List ℕ) where
  -- an entry more, also where the walk has been
  write : {u : ℕ} → u < length P → (h a d v e : ℕ) → Part N p f P h a d v e → Part N p f (set P u (f u)) h a d v e
  unfolding Part
  write l zero a d v e q = q
  write {u} l (suc h) a d v e q =
      let k : get (set P u (f u)) a ≡ f a = elim (ℕ_discrete a u) [
        | yes z ↦ ap (λ y. get (set P u (f u)) y) z ∙ get_or-set_same P u (f u) 0 l ∙ sym (ap f z)
        | no z ↦ get_or-set_other P u a (f u) 0 z ∙ q.1
      ] in
      (q.0, k, q.2, write l h (f a) (min d (carries N (f a) a)) v e q.3)

  -- an arc more
  more : {v : ℕ} → v ≢ 0 → get P v ≡ f v → Tied N p (f v) v → (h a d e : ℕ) → Part N p f P h a d v e
      → Part N p f P (suc h) a d (f v) (min e (carries N (f v) v))
  unfolding Part
  more n k t zero a d e q = rw (q.0, q.1) (n, k, t, (refl, refl))
  more n k t (suc h) a d e q = (q.0, q.1, q.2, more n k t h (f a) (min d (carries N (f a) a)) e q.3)

  whole : {v : ℕ} → v ≡ 0 → (h a d e : ℕ) → Part N p f P h a d v e → Chain N p P h a
  unfolding Part Chain
  whole z zero a d e q = q.0 ∙ z
  whole z (suc h) a d e q = rw q.1 (q.0, q.2, whole z h (f a) (min d (carries N (f a) a)) e q.3)

  least : (limit h a d v e : ℕ) → d ≤ limit → Part N p f P h a d v e → e ≡ min d (width N limit P h a)
  unfolding Part width
  least limit zero a d v e l q = omega (arith, q.1)
  least limit (suc h) a d v e l q =
      rw q.1 (omega (arith, least limit h (f a) (min d (carries N (f a) a)) v e (omega arith) q.3))

module _ {N : Net} {p : List ℕ} {f : ℕ → ℕ} {limit : ℕ} where
  pub walk_start : {P : List ℕ} → 1 < N.m → length P ≡ 96 → Walk N p f limit P 1 0 limit
  unfolding Part
  walk_start h l = record {
    long = l;
    node = omega arith;
    away = λ z. absurd (omega arith);
    source = λ z. h;
    terminal = λ z. absurd (omega arith);
    part = (refl, refl);
  }

  module _ {P : List ℕ} {v steps amount room : ℕ} (q : Walk N p f limit P v steps amount) (t : Bears N p (f v) v room) where
    next_part : Part N p f (set P v (f v)) (suc steps) 1 limit (f v) (min amount room)
    next_part =
        let l : v < length P = omega (arith, q.long, q.node) in
        rw t.room
        (more N p f (set P v (f v)) q.away (get_or-set_same P v (f v) 0 l) t.tied steps 1 limit amount (write N p f P l steps 1 limit v amount q.part))

    pub walk_next : {amount' : ℕ} → amount' ≡ min amount room → f v ≢ 0 → Walk N p f limit (set P v (f v)) (f v) (steps + 1) amount'
    walk_next e z = record {
      long = length-set P v (f v) ∙ q.long;
      node = t.tied.node;
      away = z;
      source = t.tied.source;
      terminal = t.tied.terminal;
      part = rw (e, add-one) next_part;
    }

    pub walk_end : {amount' : ℕ} → amount' ≡ min amount room → f v ≡ 0 → steps < 95 → Followed N p limit (set P v (f v)) (steps + 1) amount'
    walk_end e z h = record {
      long = length-set P v (f v) ∙ q.long;
      few = omega arith;
      chain = rw add-one (whole N p f (set P v (f v)) z (suc steps) 1 limit (min amount room) next_part);
      drums = rw (e, add-one) (omega (arith, within N limit (set P v (f v)) (suc steps) 1, least N p f (set P v (f v)) limit (suc steps) 1 limit (f v) (min amount room) (omega arith) next_part));
    }
