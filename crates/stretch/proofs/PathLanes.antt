-- The lanes of a path are pairwise apart: the hops fall along it, and a lane's cell tells its two ends. Assumes nothing.
use mathlib.Core.Path.{◌≡◌, ap}
use mathlib.Core.List.{List}
use Prim.Native.Nat.{ℕ, zero, suc, ◌+◌, ◌-◌, ◌*◌, ◌≤◌, ◌<◌}
use native.Mathlib.Omega.{arith}
use Rattle.residual.specs.inner.Network.{Net, get}
use Rattle.residual.specs.inner.Network.Arc.{ahead, back}
use Rattle.residual.specs.inner.Labels.{Book, far}
use Rattle.paths.specs.inner.Search.{Near, Prev}
use Rattle.paths.specs.inner.Search.Prev.{root, step}
use Rattle.augment.specs.inner.PathWalk.{WalkReady}
use Rattle.stretch.specs.inner.PathUndone.{Apart, Lanes}

module _ {N : Net} {p : List ℕ} {s limit : ℕ} {B : Book} {g d : ℕ} {x : List ℕ} (r : WalkReady N p s limit B g d x) (root_hops : get B.hops s ≡ 0) where
  -- the arc to v, before which h arcs come
  pub record Last (h v : ℕ) : Type 0 where
    pub node : get B.prev v < 96
    pub label : get B.dist (get B.prev v) < far
    pub hops : get B.hops (get B.prev v) ≡ h
    pub width : d ≤ get B.width (get B.prev v)
    less : v < 32 → (32 ≤ get B.prev v) × (d ≤ get x (v * 64 + (get B.prev v - 32))) × (get x (v * 64 + (get B.prev v - 32)) ≤ 4000000000)
    more : 32 ≤ v → get B.prev v < 32

  pub last : (h v : ℕ) → v < 96 → get B.dist v < far → get B.hops v ≡ suc h → d ≤ get B.width v → Last h v
  last h v b l e w = go (r.label v b l).prev
    where
      go : Prev N s (Near p B.dist g) B v → Last h v
      go (root z) = absurd (omega (arith, ap (λ w. get B.hops w) z))
      go (step k b' n (ahead j a c f o t i) eh ew) = record {
        node = b';
        label = n.0;
        hops = omega arith;
        width = omega arith;
        less = λ z. absurd (omega arith);
        more = λ z. omega (arith, r.sources);
      }
      go (step k b' n (back j a c f o t i) eh ew) =
          let q : get x (v * 64 + (get B.prev v - 32)) ≡ N.x v j = rw (f, r.plan) (ap (λ z. get x (v * 64 + z)) (let y : (32 + j) - 32 ≡ j = omega arith in y)) in
          record {
            node = b';
            label = n.0;
            hops = omega arith;
            width = omega arith;
            less = λ z. (omega arith, omega arith, omega (arith, r.under v j a c, r.ceilings v j a c));
            more = λ z. absurd (omega (arith, r.sources));
          }

  -- a lane of which one end is more hops away than v
  apart : (h v i j : ℕ) → v < 96 → get B.dist v < far → get B.hops v ≡ h → d ≤ get B.width v → j < 64
      → (get B.hops i ≤ h → get B.hops (32 + j) ≤ h → ⊥) → Apart B.prev h v (i * 64 + j)
  unfolding Apart
  apart zero v i j b l e w a out = tt
  apart (suc h) v i j b l e w a out =
      let q = last h v b l e w in (
        record {
          less = λ z f.
              let y : v ≡ i = omega (arith, q.less z, q.node) in
              let u : get B.prev v ≡ 32 + j = omega (arith, q.less z, q.node) in
              out (omega (arith, ap (λ t. get B.hops t) y)) (omega (arith, ap (λ t. get B.hops t) u, q.hops));
          more = λ z f.
              let y : get B.prev v ≡ i = omega (arith, q.more z) in
              let u : v ≡ 32 + j = omega (arith, q.more z) in
              out (omega (arith, ap (λ t. get B.hops t) y, q.hops)) (omega (arith, ap (λ t. get B.hops t) u));
        },
        apart h (get B.prev v) i j q.node q.label q.hops q.width a (λ y u. out (omega arith) (omega arith)),
      )

  pub lanes : (h v : ℕ) → v < 96 → get B.dist v < far → get B.hops v ≡ h → d ≤ get B.width v → Lanes B.prev d h v x
  unfolding Lanes
  lanes zero v b l e w = tt
  lanes (suc h) v b l e w =
      let q = last h v b l e w in (
        record {
          node = b;
          less = λ z. ((q.less z).0, q.node, (q.less z).1, (q.less z).2);
          more = q.more;
          apart_less = λ z.
              apart h (get B.prev v) v (get B.prev v - 32) q.node q.label q.hops q.width (omega (arith, q.node)) (λ y u. omega arith);
          apart_more = λ z.
              let u : 32 + (v - 32) ≡ v = omega arith in
              apart h (get B.prev v) (get B.prev v) (v - 32) q.node q.label q.hops q.width (omega arith)
              (λ y o. omega (arith, ap (λ t. get B.hops t) u));
        },
        lanes h (get B.prev v) q.node q.label q.hops q.width,
      )
