-- What a search, a walk and the lower potentials make together. Assumes nothing.
use mathlib.Core.Path.{◌≡◌, refl, sym}
use mathlib.Core.Logic.{◌≢◌}
use mathlib.Core.List.{List}
use Prim.Native.Nat.{ℕ, min, ◌+◌, ◌-◌, ◌≤◌, ◌<◌}
use native.Mathlib.Decide.{dec_lt}
use native.Mathlib.Omega.{arith}
use Rattle.transport.specs.inner.Slackness.{Slack}
use Rattle.residual.specs.inner.Cells.{cells}
use Rattle.residual.specs.inner.Network.{Net, get}
use Rattle.residual.specs.inner.Network.Arc.{ahead, back}
use Rattle.residual.specs.inner.Labels.{Book, far}
use Rattle.paths.specs.inner.Search.{Near, Label, Searched, Found}
use Rattle.augment.specs.inner.Send.{SendReady, Delivered}
use Rattle.augment.specs.inner.LaneMarks.{Trail}
use Rattle.augment.specs.inner.Potentials.{LowerReady, Lowered}
use Rattle.augment.specs.inner.PathWalk.{Walkable, Walked, WalkReady, Walking}
use Rattle.transport.proofs.SlacknessKept.{change_tight}
use Rattle.augment.proofs.PathWalk.{walk_start, walkable, trail, walked}

module _ {N : Net} {p room : List ℕ} {s limit : ℕ} {x : List ℕ} {B : Book} {g : ℕ}
    (r : SendReady N p room s limit x) (q : Searched N p room s limit B g) (hg : g < 96) where
  f : Found N p room s limit B g
  f = q.found hg

  lg : Label N s (Near p B.dist g) p 96 limit B g
  lg = f.label g hg f.goal

  hs : s < 96
  hs = omega (arith, r.start, r.sound.sources)

  -- no label is below the goal's distance
  pub above : (v : ℕ) → v < 96 → get B.dist g ≤ get B.dist v + get p g
  above v hv = elim (dec_lt (get B.dist v) far) [
    | yes l ↦ omega (arith, lg.up, lg.count, (f.label v hv l).down, (f.label v hv l).count, r.floor g hg f.has_room)
    | no l ↦ omega (arith, f.goal)
  ]

  pub lower_ready : {D : ℕ} → D ≡ get B.dist g - get p g → LowerReady D B.dist p
  lower_ready e = record { long = r.long_p; above = λ v hv. omega (arith, above v hv) }

  pub stroll_ready : {d : ℕ} → N.x ≡ cells x → d ≤ get B.width g → WalkReady N p s limit B g d x
  stroll_ready e z = record {
    sources = r.sound.sources;
    terminals = r.sound.terminals;
    goal = hg;
    labelled = f.goal;
    label = f.label;
    width = z;
    under = r.under;
    ceilings = r.ceilings;
    long = r.long_x;
    plan = e;
  }

  module _ {d h : ℕ} (e : N.x ≡ cells x) (eh : h ≡ get B.hops g) (z : d ≤ get B.width g) where
    w : WalkReady N p s limit B g d x
    w = stroll_ready e z

    pub push_ready : Walkable B.prev d h g x
    push_ready = walkable w q.root_hops h g x (sym eh) (walk_start w)

    pub mark_ready : Trail N.m B.prev h g
    mark_ready = trail w q.root_hops h g x (sym eh) (walk_start w)

    pub pushed : {x' : List ℕ} → Walked B.prev d h g x x' → Walking N p B g d x' s
    pushed {x'} k = walked w q.root_hops h g x x' (sym eh) (walk_start w) k

  module _ {p' : List ℕ} {D : ℕ} (eD : D ≡ get B.dist g - get p g) (lo : Lowered D B.dist p 96 p') where
    down : (v : ℕ) → v < 96 → get p' v ≡ min (get p v) (get B.dist v - D)
    down v hv = lo.down v hv

    gap : D + get p g ≡ get B.dist g
    gap = omega (arith, q.low g hg)

    -- the lane's open arcs keep their reduced costs no less than 0
    slack : Slack N.m N.n N.c N.u N.x (λ i. get p' i) (λ j. get p' (32 + j))
    slack i j a b =
        record {
          ahead = λ l. ahead_ok l (dec_lt (get B.dist i + get p g) (get B.dist g + get p i));
          back = λ l. back_ok l (dec_lt (get B.dist (32 + j) + get p g) (get B.dist g + get p (32 + j)));
        }
      where
        hi : i < 96
        hi = omega (arith, r.sound.sources)

        hj : 32 + j < 96
        hj = omega (arith, r.sound.terminals)

        ahead_ok : N.x i j < N.u i j → Dec (get B.dist i + get p g < get B.dist g + get p i) → get p' (32 + j) ≤ N.c i j + get p' i
        ahead_ok l (yes o) =
            omega (
              arith,
              down i hi,
              down (32 + j) hj,
              gap,
              above i hi,
              above (32 + j) hj,
              f.relaxed i (32 + j) (get B.dist i + N.c i j) (N.u i j - N.x i j) hi hj o (ahead j a b refl l refl refl),
            )
        ahead_ok l (no o) = omega (arith, down i hi, down (32 + j) hj, gap, above i hi, (r.sound.slack i j a b).ahead l)

        back_ok : 0 < N.x i j → Dec (get B.dist (32 + j) + get p g < get B.dist g + get p (32 + j)) → N.c i j + get p' i ≤ get p' (32 + j)
        back_ok l (yes o) =
            let z : N.c i j ≤ get B.dist (32 + j) = omega (arith, (r.sound.slack i j a b).back l, q.low (32 + j) hj) in
            omega (
              arith,
              down i hi,
              down (32 + j) hj,
              gap,
              above i hi,
              above (32 + j) hj,
              f.relaxed (32 + j) i (get B.dist (32 + j) - N.c i j) (N.x i j) hj hi o (back j a b refl l (omega arith) refl),
            )
        back_ok l (no o) = omega (arith, down i hi, down (32 + j) hj, gap, above (32 + j) hj, (r.sound.slack i j a b).back l)

    -- the amounts after a walk are slack under the new potentials too
    pub after : {x' : List ℕ} {d : ℕ} → Walking N p B g d x' s
        → Slack N.m N.n N.c N.u (cells x') (λ i. get p' i) (λ j. get p' (32 + j))
    after {x'} w = change_tight N.m N.n N.c N.u N.x (cells x') (λ i. get p' i) (λ j. get p' (32 + j)) slack tight
      where
        tight : (i j : ℕ) → i < N.m → j < N.n → cells x' i j ≢ N.x i j → N.c i j + get p' i ≡ get p' (32 + j)
        tight i j a b z =
            let t = w.tight i j a b z in
            omega (
              arith,
              down i (omega (arith, r.sound.sources)),
              down (32 + j) (omega (arith, r.sound.terminals)),
              gap,
              t.even,
              t.source.1,
              t.terminal.1,
              above i (omega (arith, r.sound.sources)),
            )

    pub delivered : {x' : List ℕ} {d : ℕ} → d ≡ min (get B.width g) (get room g) → Walking N p B g d x' s → Delivered N p room s limit x' p' g d
    delivered {x'} {d} ed w = record {
      has_room = f.has_room;
      some = omega (arith, f.has_room, lg.some);
      most = omega (arith, lg.most);
      fits = omega arith;
      flow = w.flow;
      steps = w.trace.step;
      under = w.under;
      old = slack;
      new = after w;
      long_x = w.long;
      long_p = lo.long;
      fall = λ v hv. omega (arith, down v hv);
      keep = λ v hv o. elim (dec_lt (get B.dist v + get p g) (get B.dist g + get p v)) [
        | yes l ↦ absurd (omega (arith, f.empty v hv l))
        | no l ↦ omega (arith, down v hv, gap, above v hv)
      ];
      floor = λ v k hv l o. elim (dec_lt (get B.dist v) far) [
        | yes z ↦ omega (arith, down v hv, gap, lg.up, lg.count, (f.label v hv z).down, (f.label v hv z).count)
        | no z ↦ omega (arith, down v hv, gap, f.goal, lg.up, lg.count, r.sound.high s hs, r.sound.high g hg)
      ];
    }
