-- How the walk back from the goal goes on by one arc. Assumes nothing.
use mathlib.Core.Path.{◌≡◌, refl, sym, ap, ◌∙◌}
use mathlib.Core.Logic.{◌≢◌, inl, inr}
use mathlib.Core.List.{List}
use Prim.Native.Nat.{ℕ, zero, suc, ◌+◌, ◌-◌, ◌*◌, ◌≤◌, ◌<◌}
use native.Mathlib.Decide.{ℕ_discrete, dec_lt}
use native.Mathlib.Omega.{arith}
use lib.ListN.{set, length-set}
use Rattle.transport.specs.inner.PathFlow.{Step, more, less, Flow}
use Rattle.residual.specs.inner.Cells.{cells}
use Rattle.residual.specs.inner.Network.{Net, get}
use Rattle.residual.specs.inner.Network.Arc.{ahead, back}
use Rattle.residual.specs.inner.Labels.{Book}
use Rattle.paths.specs.inner.Search.{Near, Label, Prev}
use Rattle.paths.specs.inner.Search.Prev.{root, step}
use Rattle.augment.specs.inner.LaneMarks.{Trail}
use Rattle.augment.specs.inner.PathWalk.{WalkReady, Walking, Tight, CarryReady, Carried, Walkable, Walked}
use Rattle.transport.proofs.CellChange.{Put}
use Rattle.transport.proofs.PathFlow.{flow_start, flow_ahead, flow_back, trace_start, trace_fresh, trace_step}
use Rattle.augment.proofs.CellStores.{cells_at, cells_put}

pub walk_start : {N : Net} {p : List ℕ} {s limit : ℕ} {B : Book} {g d : ℕ} {x : List ℕ} → WalkReady N p s limit B g d x → Walking N p B g d x g
walk_start {N} {p} {B = B} {g} {d} {x} r = record {
  node = r.goal;
  near = (r.labelled, omega arith);
  width = r.width;
  flow = rw r.plan (flow_start N.m N.n d (cells x) g);
  trace = rw r.plan (trace_start N.m N.n d (cells x) (λ w. get B.hops w) (get B.hops g));
  under = λ i j a b. omega (arith, r.under i j a b, ap (λ f. f i j) r.plan);
  tight = λ i j a b e. absurd (e (ap (λ f. f i j) (sym r.plan)));
  long = r.long;
}

-- one lane changes, from a to a', at an arc between i and 32 + j; the walk comes from node o and goes to node e
module _ {N : Net} {p : List ℕ} {B : Book} {g d : ℕ} {x : List ℕ} {o e : ℕ} (terminals : N.n ≤ 64) (sources : N.m ≤ 32) (q : Walking N p B g d x o)
    (i j a : ℕ) (hi : i < N.m) (hj : j < N.n) (tight : Tight N p B.dist g i j) (node : e < 96) (near : Near p B.dist g e)
    (wide : d ≤ get B.width e) (li : get B.hops e ≤ get B.hops i) (lj : get B.hops e ≤ get B.hops (32 + j))
    (lo : get B.hops e < get B.hops o) (fresh : cells x i j ≡ N.x i j) (fits : a ≤ N.u i j) (move : Step d (cells x i j) a) where
  x' : List ℕ
  x' = set x (i * 64 + j) a

  put : Put N.m N.n (cells x) (cells x') i j
  unfolding x'
  put = cells_put N.m N.n x i j a terminals hi hj

  here : cells x' i j ≡ a
  unfolding x'
  here = cells_at x i j a (omega (arith, q.long))

  pub walk_cell : Flow N.m N.n d N.x (cells (set x (i * 64 + j) a)) g e → Walking N p B g d (set x (i * 64 + j) a) e
  unfolding x'
  walk_cell flow = record {
    node = node;
    near = near;
    width = wide;
    flow = flow;
    trace = trace_step q.trace put (get B.hops e) (omega arith) li lj fresh (rw here move);
    under = λ k l b c. under k l b c (ℕ_discrete k i) (ℕ_discrete l j);
    tight = λ k l b c z. tights k l b c z (ℕ_discrete k i) (ℕ_discrete l j);
    long = length-set x (i * 64 + j) a ∙ q.long;
  }
    where
      under : (k l : ℕ) → k < N.m → l < N.n → Dec (k ≡ i) → Dec (l ≡ j) → cells x' k l ≤ N.u k l
      under k l b c (yes y) (yes z) = rw (y, z) (omega (arith, here))
      under k l b c (no y) z = omega (arith, put.off_row k l b c y, q.under k l b c)
      under k l b c (yes y) (no z) = omega (arith, put.off_col k l b c z, q.under k l b c)

      tights : (k l : ℕ) → k < N.m → l < N.n → cells x' k l ≢ N.x k l → Dec (k ≡ i) → Dec (l ≡ j) → Tight N p B.dist g k l
      tights k l b c h (yes y) (yes z) = rw (y, z) tight
      tights k l b c h (no y) z = q.tight k l b c (λ f. h (put.off_row k l b c y ∙ f))
      tights k l b c h (yes y) (no z) = q.tight k l b c (λ f. h (put.off_col k l b c z ∙ f))

module _ {N : Net} {p : List ℕ} {B : Book} {g d : ℕ} {x : List ℕ} (terminals : N.n ≤ 64) (sources : N.m ≤ 32) (i j : ℕ) (hi : i < N.m) (hj : j < N.n)
  where
    fresh_ahead : Walking N p B g d x (32 + j) → get B.hops (32 + j) ≡ get B.hops i + 1 → cells x i j ≡ N.x i j
    fresh_ahead q e = trace_fresh q.trace i j (get B.hops i) hi hj (omega arith) (inl refl)

    fresh_back : Walking N p B g d x i → get B.hops i ≡ get B.hops (32 + j) + 1 → cells x i j ≡ N.x i j
    fresh_back q e = trace_fresh q.trace i j (get B.hops (32 + j)) hi hj (omega arith) (inr refl)

    walk_ahead : Walking N p B g d x (32 + j) → Near p B.dist g i → d ≤ get B.width i → get B.hops (32 + j) ≡ get B.hops i + 1
        → N.x i j < N.u i j → get B.dist (32 + j) ≡ get B.dist i + N.c i j → d ≤ N.u i j - N.x i j
        → Walking N p B g d (set x (i * 64 + j) (cells x i j + d)) i
    walk_ahead q near wide e room even most =
        walk_cell terminals sources q i j (cells x i j + d) hi hj (record { even = even; source = near; terminal = q.near })
        (omega arith) near wide (omega arith) (omega arith) (omega arith) (fresh_ahead q e)
        (omega (arith, fresh_ahead q e)) (more refl)
        (flow_ahead sources (cells_put N.m N.n x i j (cells x i j + d) terminals hi hj) q.flow
        (cells_at x i j (cells x i j + d) (omega (arith, q.long))))

    walk_back : Walking N p B g d x i → Near p B.dist g (32 + j) → d ≤ get B.width (32 + j) → get B.hops i ≡ get B.hops (32 + j) + 1
        → get B.dist (32 + j) ≡ get B.dist i + N.c i j → d ≤ N.x i j
        → Walking N p B g d (set x (i * 64 + j) (cells x i j - d)) (32 + j)
    walk_back q near wide e even most =
        let f = fresh_back q e in
        walk_cell terminals sources q i j (cells x i j - d) hi hj (record { even = even; source = q.near; terminal = near })
        (omega arith) near wide (omega arith) (omega arith) (omega arith) f
        (omega (arith, q.under i j hi hj)) (less (omega arith))
        (flow_back sources (cells_put N.m N.n x i j (cells x i j - d) terminals hi hj) q.flow
        (omega (arith, cells_at x i j (cells x i j - d) (omega (arith, q.long)))))

-- ---- the next arc

module _ {N : Net} {p : List ℕ} {s limit : ℕ} {B : Book} {g d : ℕ} {x₀ x : List ℕ} {v : ℕ}
    (r : WalkReady N p s limit B g d x₀) (q : Walking N p B g d x v) (away : v ≢ s) where
  label : Label N s (Near p B.dist g) p 96 limit B v
  label = r.label v q.node q.near.0

  pub walk_less : (get B.prev v < 96) × (get B.hops (get B.prev v) < get B.hops v)
  walk_less = go label.prev
    where
      go : Prev N s (Near p B.dist g) B v → (get B.prev v < 96) × (get B.hops (get B.prev v) < get B.hops v)
      go (root z) = absurd (away z)
      go (step k b n a eh ew) = (b, omega arith)

  pub walk_ready : CarryReady v (get B.prev v) d x
  walk_ready = go label.prev
    where
      go : Prev N s (Near p B.dist g) B v → CarryReady v (get B.prev v) d x
      go (root z) = absurd (away z)
      go (step k b n (ahead j a e f o h i) eh ew) = record {
        less = λ l. absurd (omega arith);
        more = λ l. (
          omega (arith, r.sources),
          q.node,
          omega (
            arith,
            ap (λ z. get x (get B.prev v * 64 + z)) (vj f),
            fresh_ahead r.terminals r.sources (get B.prev v) j a e (rw f at q) (omega (arith, ap (λ z. get B.hops z) f)),
            r.ceilings (get B.prev v) j a e,
            q.width,
          ),
        );
      }
        where
          vj : {z : ℕ} → v ≡ 32 + z → v - 32 ≡ z
          vj e = omega arith
      go (step k b n (back j a e f o h i) eh ew) = record {
        less = λ l. (
          omega arith,
          b,
          omega (
            arith,
            ap (λ z. get x (v * 64 + z)) (vj f),
            fresh_back r.terminals r.sources v j a e q (omega (arith, ap (λ z. get B.hops z) f)),
            q.width,
          ),
        );
        more = λ l. absurd (omega (arith, r.sources));
      }
        where
          vj : {z : ℕ} → get B.prev v ≡ 32 + z → get B.prev v - 32 ≡ z
          vj e = omega arith

  pub walk_source : 32 ≤ v → get B.prev v < N.m
  walk_source l = go label.prev
    where
      go : Prev N s (Near p B.dist g) B v → get B.prev v < N.m
      go (root z) = absurd (away z)
      go (step k b n (ahead j a e f o h i) eh ew) = a
      go (step k b n (back j a e f o h i) eh ew) = absurd (omega (arith, r.sources))

  pub walk_next : {x' : List ℕ} → Carried v (get B.prev v) d x x' → Walking N p B g d x' (get B.prev v)
  walk_next {x'} c = go label.prev
    where
      go : Prev N s (Near p B.dist g) B v → Walking N p B g d x' (get B.prev v)
      go (root z) = absurd (away z)
      go (step k b n (ahead j a e f o h i) eh ew) =
          let z : v - 32 ≡ j = omega arith in
          rw (c.more (omega arith), z)
          (walk_ahead r.terminals r.sources (get B.prev v) j a e (rw f at q) n (omega (arith, q.width))
          (omega (arith, ap (λ z. get B.hops z) f)) o (omega (arith, ap (λ z. get B.dist z) f)) (omega (arith, q.width)))
      go (step k b n (back j a e f o h i) eh ew) =
          let z : get B.prev v - 32 ≡ j = omega arith in
          rw (c.less (omega (arith, r.sources)), z, f)
          (walk_back r.terminals r.sources v j a e q (rw f at n) (omega (arith, q.width, ap (λ z. get B.width z) f))
          (omega (arith, ap (λ z. get B.hops z) f)) (omega (arith, ap (λ z. get B.dist z) f)) (omega (arith, q.width)))

-- ---- the whole walk

-- what an arc leaves
carries : (v w d : ℕ) (x : List ℕ) → (x' : List ℕ) × Carried v w d x x'
carries v w d x = elim (dec_lt v 32) [
  | yes h ↦ (set x (v * 64 + (w - 32)) (get x (v * 64 + (w - 32)) - d), record { less = λ l. refl; more = λ l. absurd (omega arith) })
  | no h ↦ (set x (w * 64 + (v - 32)) (get x (w * 64 + (v - 32)) + d), record { less = λ l. absurd (omega arith); more = λ l. refl })
]

module _ {N : Net} {p : List ℕ} {s limit : ℕ} {B : Book} {g d : ℕ} {x₀ : List ℕ}
    (r : WalkReady N p s limit B g d x₀) (root_hops : get B.hops s ≡ 0) where
  off_root : {v h : ℕ} → get B.hops v ≡ suc h → v ≢ s
  off_root e z = let k = ap (λ w. get B.hops w) z in omega (arith, k)

  at_root : {x : List ℕ} {v : ℕ} → get B.hops v ≡ 0 → Walking N p B g d x v → v ≡ s
  at_root {x} {v} e q = go (r.label v q.node q.near.0).prev
    where
      go : Prev N s (Near p B.dist g) B v → v ≡ s
      go (root z) = z
      go (step k b n a eh ew) = absurd (omega arith)

  hops_less : {x : List ℕ} {v h : ℕ} → get B.hops v ≡ suc h → Walking N p B g d x v → get B.hops (get B.prev v) ≡ h
  hops_less {x} {v} {h} e q = go (r.label v q.node q.near.0).prev
    where
      go : Prev N s (Near p B.dist g) B v → get B.hops (get B.prev v) ≡ h
      go (root z) = absurd (off_root e z)
      go (step k b n a eh ew) = omega arith

  pub walkable : (h v : ℕ) (x : List ℕ) → get B.hops v ≡ h → Walking N p B g d x v → Walkable B.prev d h v x
  unfolding Walkable
  walkable zero v x e q = tt
  walkable (suc h) v x e q = (
    q.node,
    walk_ready r q (off_root e),
    λ y c. walkable h (get B.prev v) y (hops_less e q) (walk_next r q (off_root e) c),
  )

  pub trail : (h v : ℕ) (x : List ℕ) → get B.hops v ≡ h → Walking N p B g d x v → Trail N.m B.prev h v
  unfolding Trail
  trail zero v x e q = tt
  trail (suc h) v x e q =
      let a = carries v (get B.prev v) d x in
      let off = off_root e in (
        q.node,
        (walk_less r q off).0,
        walk_source r q off,
        trail h (get B.prev v) a.0 (hops_less e q) (walk_next r q off a.1),
      )

  pub walked : (h v : ℕ) (x x' : List ℕ) → get B.hops v ≡ h → Walking N p B g d x v → Walked B.prev d h v x x' → Walking N p B g d x' s
  unfolding Walked
  walked zero v x x' e q w = rw (w, ← (at_root e q)) q
  walked (suc h) v x x' e q w = walked h (get B.prev v) w.0 x' (hops_less e q) (walk_next r q (off_root e) w.1) w.2

-- ---- one pass of the loop

module _ (P : List ℕ) (d v : ℕ) (x : List ℕ) where
  pub pass_node : (h : ℕ) → 0 < h → Walkable P d h v x → (v < 96) × CarryReady v (get P v) d x
  unfolding Walkable
  pass_node zero l w = absurd (omega arith)
  pass_node (suc h) l w = (w.0, w.1)

  pub pass_prev : (h : ℕ) → 0 < h → Walkable P d h v x → get P v < 96
  pass_prev h l w =
      let c = (pass_node h l w).1 in
      elim (dec_lt v 32) [ yes k ↦ (c.less k).1 | no k ↦ omega (arith, (c.more (omega arith)).0) ]

  pub pass_able : (h : ℕ) → 0 < h → Walkable P d h v x → (y : List ℕ) → Carried v (get P v) d x y → Walkable P d (h - 1) (get P v) y
  unfolding Walkable
  pass_able zero l w y c = absurd (omega arith)
  pass_able (suc h) l w y c = let z : suc h - 1 ≡ h = omega arith in rw z (w.2 y c)

  pub pass_back : (h : ℕ) → 0 < h → (y z : List ℕ) → Carried v (get P v) d x y → Walked P d (h - 1) (get P v) y z → Walked P d h v x z
  unfolding Walked
  pass_back zero l y z c w = absurd (omega arith)
  pass_back (suc h) l y z c w = let e : suc h - 1 ≡ h = omega arith in (y, c, rw e at w)

  pub walked_none : (h : ℕ) → h ≤ 0 → Walked P d h v x x
  unfolding Walked
  walked_none zero l = refl
  walked_none (suc h) l = absurd (omega arith)

-- what a walk leaves that can be made
pub walks : (P : List ℕ) (d h v : ℕ) (x : List ℕ) → (x' : List ℕ) × Walked P d h v x x'
unfolding Walked
walks P d zero v x = (x, refl)
walks P d (suc h) v x =
    let a = carries v (get P v) d x in
    let b = walks P d h (get P v) a.0 in (b.0, (a.0, a.1, b.1))
