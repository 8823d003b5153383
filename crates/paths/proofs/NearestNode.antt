-- How the least key is found, node by node, and why a node that has it is the nearest. Assumes nothing.
use mathlib.Core.Path.{◌≡◌, sym, ap, ◌∙◌}
use mathlib.Core.Logic.{◌≢◌}
use mathlib.Core.List.{List}
use Prim.Native.Nat.{ℕ, min, ◌+◌, ◌≤◌, ◌<◌}
use native.Mathlib.Decide.{ℕ_discrete, dec_lt}
use native.Mathlib.Omega.{arith}
use Rattle.residual.specs.inner.Network.{get}
use Rattle.residual.specs.inner.Labels.{far}
use Rattle.residual.specs.inner.Keys.{shut}
use Rattle.paths.specs.inner.NearestNode.{Key, Nearest, Held, LeastKey, ClosestNode, Chosen}

pub least_start : (K : List ℕ) (lo : ℕ) → LeastKey K lo lo shut
least_start K lo = record { bound = omega arith; all = λ v l h. absurd (omega arith); held = λ h. absurd (omega arith) }

pub least_next : {K : List ℕ} {lo k r r' : ℕ} → LeastKey K lo k r → lo ≤ k → r' ≡ min (get K k) r → LeastKey K lo (k + 1) r'
least_next {K} {lo} {k} {r} {r'} q b e = record {
  bound = omega (arith, q.bound);
  all = λ v l h. elim (ℕ_discrete v k) [ yes z ↦ rw z (omega arith) | no z ↦ omega (arith, q.all v l (omega arith)) ];
  held = λ h. elim (dec_lt (get K k) r) [
    | yes o ↦ (k, b, omega arith, omega arith)
    | no o ↦ let t = q.held (omega arith) in (t.0, t.1, omega (arith, t.2), omega (arith, t.3))
  ];
}

pub least_end : {K : List ℕ} {lo k hi r : ℕ} → LeastKey K lo k r → hi ≤ k → k ≤ hi → LeastKey K lo hi r
least_end {K} {lo} {k} {hi} q h o = let e : hi ≡ k = omega arith in rw e q

pub held_more : (K : List ℕ) {lo hi hi' r : ℕ} → hi ≤ hi' → Held K lo hi r → Held K lo hi' r
held_more K h t = (t.0, t.1, omega (arith, t.2), t.3)

-- it is not the first one
pub held_next : (K : List ℕ) {lo hi r : ℕ} → Held K lo hi r → get K lo ≢ r → Held K (lo + 1) hi r
held_next K {lo} {r = r} t d = elim (ℕ_discrete t.0 lo) [
  | yes z ↦ absurd (d (ap (λ v. get K v) (sym z) ∙ t.3))
  | no z ↦ (t.0, omega (arith, t.1), t.2, t.3)
]

-- ---- of both sides

module _ {m n : ℕ} {K : List ℕ} {a b : ℕ} (s : LeastKey K 0 m a) (t : LeastKey K 32 (32 + n) b) where
  pub side_source : {r : ℕ} → a < b → r < 96 → get K r ≡ a → ClosestNode m n K r
  side_source h l e = record {
    bound = omega arith;
    near = λ o. omega (arith, t.bound);
    sources = λ v o k. (l, omega (arith, s.all v (omega arith) o));
    terminals = λ v o p k. (l, omega (arith, t.all v o p));
  }

  pub side_terminal : {r : ℕ} → b ≤ a → b < shut → r < 96 → get K r ≡ b → ClosestNode m n K r
  side_terminal h o l e = record {
    bound = omega arith;
    near = λ p. omega arith;
    sources = λ v p k. (l, omega (arith, s.all v (omega arith) p));
    terminals = λ v p q k. (l, omega (arith, t.all v p q));
  }

  pub side_none : b ≤ a → b ≡ shut → ClosestNode m n K 96
  side_none h e = record {
    bound = omega arith;
    near = λ o. absurd (omega arith);
    sources = λ v o k. absurd (omega (arith, s.all v (omega arith) o));
    terminals = λ v o p k. absurd (omega (arith, t.all v o p));
  }

-- ---- the nearest node

-- of the nodes, only sources and terminals have a label
pub record Placed (m n : ℕ) (T : List ℕ) : Type 0 where
  pub source : (v : ℕ) → v < 96 → get T v < far → v < 32 → v < m
  pub terminal : (v : ℕ) → v < 96 → get T v < far → 32 ≤ v → v < 32 + n

pub near_key : {m n : ℕ} {p T D K : List ℕ} {r : ℕ} → Placed m n T → ((v : ℕ) → v < 96 → Key (get D v) (get T v) (get p v) (get K v))
    → ClosestNode m n K r → Nearest p T D r
near_key {m} {n} {p} {T} {D} {K} {r} at keys c = record {
  bound = c.bound;
  fresh = λ h. (keys r h).some (c.near h);
  least = λ v h e l.
      let k = (keys v h).fresh e l in
      let o = least v h l (omega arith) in
      let d = (keys r o.0).some (c.near o.0) in (o.0, omega (arith, o.1, (keys r o.0).fresh d.0 d.1));
}
  where
    least : (v : ℕ) → v < 96 → get T v < far → get K v < shut → (r < 96) × (get K r ≤ get K v)
    least v h l k = elim (dec_lt v 32) [ yes o ↦ c.sources v (at.source v h l o) k | no o ↦ c.terminals v (omega arith) (at.terminal v h l (omega arith)) k ]

-- the node chosen, where the one named is nearest
pub near_chosen : {m n : ℕ} {p T D K : List ℕ} {next r : ℕ} → Placed m n T → ((v : ℕ) → v < 96 → Key (get D v) (get T v) (get p v) (get K v))
    → (next < 96 → Nearest p T D next) → Chosen m n K next r → Nearest p T D r
near_chosen {next = next} at keys hint c = elim (dec_lt next 96) [
  | yes l ↦ rw (c.named l) (hint l)
  | no l ↦ near_key at keys (c.least (omega arith))
]
