-- The measure of a path: how the walk back along the nodes before goes on by one arc. Assumes nothing.
use mathlib.Core.Path.{◌≡◌, ap}
use mathlib.Core.Logic.{◌≢◌}
use mathlib.Core.List.{List}
use Prim.Native.Nat.{ℕ, min, ◌+◌, ◌-◌, ◌*◌, ◌≤◌, ◌<◌}
use native.Mathlib.Omega.{arith}
use Rattle.residual.specs.inner.Network.{net, get}
use Rattle.residual.specs.inner.Network.Arc.{ahead, back}
use Rattle.residual.specs.inner.Labels.{book, far}
use Rattle.paths.specs.inner.Search.{Near, Label, Prev, Searched}
use Rattle.paths.specs.inner.Search.Prev.{root, step}
use Rattle.augment.specs.inner.PathMeasure.{ResidualReady, Residual, Route, Measuring, Measured}

abbrev pub route : (m n : ℕ) (cost : List ℕ) {cap x p room T P H W : List ℕ} {s g limit : ℕ} → m ≤ 32 → g < 96
    → Searched (net m n cost cap x) p room s limit (book T P H W) g → Route P x cap s g limit
route m n cost {p = p} {room} {T} {H = H} {W} hm hg q = record {
  m = m;
  n = n;
  cost = cost;
  p = p;
  room = room;
  dist = T;
  sources = hm;
  goal = hg;
  labelled = record { hops = H; widths = W; searched = q };
}

module _ {P x cap : List ℕ} {s g limit : ℕ} where
  label : (r : Route P x cap s g limit) (v : ℕ) → v < 96 → get r.dist v < far
      → Label (net r.m r.n r.cost cap x) s (Near r.p r.dist g) r.p 96 limit (book r.dist P r.labelled.hops r.labelled.widths) v
  label r v hv l = (r.labelled.searched.found r.goal).label v hv l

  pub measure_start : Measuring P x cap s g limit g 0 limit
  measure_start = record {
    most = omega arith;
    each = λ r.
        let l = (r.labelled.searched.found r.goal).goal in
        record { node = r.goal; label = l; arcs = omega arith; width = omega (arith, (label r g r.goal l).most) };
  }

  pub measure_end : {v count amount : ℕ} → Measuring P x cap s g limit v count amount → v ≡ s → Measured P x cap s g limit count amount
  measure_end q e = record {
    arcs = λ r. omega (arith, (q.each r).arcs, r.labelled.searched.root_hops, ap (λ z. get r.labelled.hops z) e);
    width = λ r. omega (arith, q.most, (q.each r).width, r.labelled.searched.root_width, ap (λ z. get r.labelled.widths z) e);
  }

  -- ---- one arc

  -- the arc to v, of ceiling k
  record Last (r : Route P x cap s g limit) (v : ℕ) : Type 0 where
    k : ℕ
    node : get P v < 96
    label : get r.dist (get P v) < far
    arcs : get r.labelled.hops v ≡ get r.labelled.hops (get P v) + 1
    width : get r.labelled.widths v ≡ min (get r.labelled.widths (get P v)) k
    ready : ResidualReady v (get P v) x cap
    ceiling : (a : ℕ) → Residual v (get P v) x cap a → a ≡ k

  module _ {v count amount : ℕ} (q : Measuring P x cap s g limit v count amount) (away : v ≢ s) where
    last : (r : Route P x cap s g limit) → Last r v
    last r = go (label r v (q.each r).node (q.each r).label).prev
      where
        at : (l : List ℕ) (i j : ℕ) {a : ℕ} → a ≡ 32 + j → get l (i * 64 + (a - 32)) ≡ get l (i * 64 + j)
        at l i j {a} e = let z : a - 32 ≡ j = omega arith in ap (λ z. get l (i * 64 + z)) z

        go : Prev (net r.m r.n r.cost cap x) s (Near r.p r.dist g) (book r.dist P r.labelled.hops r.labelled.widths) v → Last r v
        go (root z) = absurd (away z)
        go (step k b n (ahead j a e f o h i) eh ew) = record {
          k = k;
          node = b;
          label = n.0;
          arcs = eh;
          width = ew;
          ready = record {
            less = λ l. absurd (omega arith);
            more = λ l. (omega (arith, r.sources), (q.each r).node, omega (arith, at x (get P v) j f, at cap (get P v) j f));
          };
          ceiling = λ c y. omega (arith, y.more (omega arith), at x (get P v) j f, at cap (get P v) j f);
        }
        go (step k b n (back j a e f o h i) eh ew) = record {
          k = k;
          node = b;
          label = n.0;
          arcs = eh;
          width = ew;
          ready = record { less = λ l. (omega arith, b); more = λ l. absurd (omega (arith, r.sources)) };
          ceiling = λ c y. omega (arith, y.less (omega (arith, r.sources)), at x v j f);
        }

    pub measure_prev : Route P x cap s g limit → get P v < 96
    measure_prev r = (last r).node

    pub measure_ready : Route P x cap s g limit → ResidualReady v (get P v) x cap
    measure_ready r = (last r).ready

    pub measure_few : Route P x cap s g limit → count < 96
    measure_few r =
        omega (arith, (q.each r).arcs, (last r).arcs, (label r g r.goal (r.labelled.searched.found r.goal).goal).count)

    pub measure_next : {a amount' : ℕ} → Residual v (get P v) x cap a → amount' ≡ min amount a
        → Measuring P x cap s g limit (get P v) (count + 1) amount'
    measure_next {a} {amount'} y e = record {
      most = omega (arith, q.most);
      each = λ r.
          let l = last r in
          record {
            node = l.node;
            label = l.label;
            arcs = omega (arith, l.arcs, (q.each r).arcs);
            width = omega (arith, l.width, l.ceiling a y, (q.each r).width);
          };
    }
