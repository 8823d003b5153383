-- The path that a search found as its arcs: they are open, their costs sum to the difference of the labels, drums along it change their lanes
-- alone, and no other path costs less. Assumes nothing.
use mathlib.Core.Path.{◌≡◌, refl, sym, ap, ◌∙◌, subst}
use mathlib.Core.List.{List, [], ◌∷◌}
use Prim.Native.Nat.{ℕ, zero, suc, min, ◌+◌, ◌-◌, ◌*◌, ◌≤◌, ◌<◌}
use native.Mathlib.Decide.{ℕ_discrete}
use native.Mathlib.Omega.{arith}
use lib.IntN.{ℤ, pos, neg_ℤ, ◌+ℤ◌, ◌-ℤ◌, ◌*ℤ◌, +ℤ_idr, +ℤ_assoc, zero-*ℤ, suc_ℤ-*ℤ}
use lib.ListN.{length, set, length-set}
use lib.Signed.{◌≤ℤ◌}
use Rattle.transport.specs.inner.Slackness.{Slack}
use Rattle.transport.specs.inner.PathFlow.{pulse}
use Rattle.residual.specs.inner.Cells.{cells}
use Rattle.residual.specs.inner.Network.{Net, get}
use Rattle.residual.specs.inner.Network.Arc.{ahead, back}
use Rattle.residual.specs.inner.Labels.{Book, far, Low}
use Rattle.paths.specs.inner.Search.{Near, Prev}
use Rattle.paths.specs.inner.Search.Prev.{root, step}
use Rattle.augment.specs.inner.PathWalk.{WalkReady, Carried, Walked}
use Rattle.incumbent.specs.inner.Scan.{along}
use Rattle.stretch.specs.inner.ResidualPath.{Arc, from, to, Open, ceiling, arc_cost, PathIn, path_cost, narrowest, carried, moved, Amounts, Measured, Distances, Route}
use Rattle.stretch.specs.inner.ResidualPath.Arc.{lane, return}
use Rattle.transport.proofs.CellChange.{Put}
use Rattle.transport.proofs.PathFlow.{pulse_same, pulse_off}
use Rattle.augment.proofs.CellStores.{cells_at, cells_put}
use Rattle.stretch.proofs.PathLanes.{last}
use Rattle.transport.proofs.Differences.{by_sign, pos_sub, diff_sub, diff_same, diff_at_most, add_diff, take_diff, shift}

-- ---- what a path's lanes cost, what its return arcs do

lanes_cost : Net → List Arc → ℕ
lanes_cost N [] = 0
lanes_cost N (lane i j ∷ l) = N.c i j + lanes_cost N l
lanes_cost N (return i j ∷ l) = lanes_cost N l

returns-cost : Net → List Arc → ℕ
returns-cost N [] = 0
returns-cost N (lane i j ∷ l) = returns-cost N l
returns-cost N (return i j ∷ l) = returns-cost N l + N.c i j

cost_split : (N : Net) (l : List Arc) → path_cost N l ≡ pos (lanes_cost N l) -ℤ pos (returns-cost N l)
unfolding path_cost arc_cost lanes_cost returns-cost
cost_split N [] = refl
cost_split N (lane i j ∷ l) =
    ap (λ z. pos (N.c i j) +ℤ z) (cost_split N l) ∙ add_diff (N.c i j) (lanes_cost N l) (returns-cost N l)
cost_split N (return i j ∷ l) =
    ap (λ z. neg_ℤ (pos (N.c i j)) +ℤ z) (cost_split N l) ∙ take_diff (N.c i j) (lanes_cost N l) (returns-cost N l)

-- ---- the distances at the ends of an arc

measured_lane : (N : Net) (dist prev : List ℕ) (i j : ℕ) → get prev (32 + j) ≡ i → get dist (32 + j) ≡ get dist i + N.c i j
    → Measured N dist prev (lane i j)
unfolding from to arc_cost
measured_lane N dist prev i j b e = record { before = b; distance = ap pos e }

measured_return : (N : Net) (dist prev : List ℕ) (i j : ℕ) → get prev i ≡ 32 + j → get dist i + N.c i j ≡ get dist (32 + j)
    → Measured N dist prev (return i j)
unfolding from to arc_cost
measured_return N dist prev i j b e = record {
  before = b;
  distance = sym (diff_same (get dist (32 + j)) (N.c i j) (get dist i) 0 (omega arith) ∙ diff_sub (get dist i) 0 ∙ sym (pos_sub (get dist i)));
}

-- ---- no path costs less than the potentials of its ends differ, where the plan is slack under them

module _ (N : Net) (q : List ℕ) (slack : Slack N.m N.n N.c N.u N.x (λ i. get q i) (λ j. get q (32 + j))) where
  over : (l : List Arc) (v w : ℕ) → PathIn N v l w → get q w + returns-cost N l ≤ get q v + lanes_cost N l
  unfolding PathIn Open from to lanes_cost returns-cost
  over [] v w h = omega (arith, ap (λ z. get q z) h)
  over (lane i j ∷ l) v w h =
      omega (arith, over l (32 + j) w h.2, (slack i j h.1.0 h.1.1).ahead h.1.2, ap (λ z. get q z) h.0)
  over (return i j ∷ l) v w h =
      omega (arith, over l i w h.2, (slack i j h.1.0 h.1.1).back h.1.2, ap (λ z. get q z) h.0)

  pub no_less : (l : List Arc) (v w : ℕ) → PathIn N v l w → (pos (get q w) -ℤ pos (get q v)) ≤ℤ path_cost N l
  no_less l v w h =
      subst (λ (z : ℤ). (pos (get q w) -ℤ pos (get q v)) ≤ℤ z) (sym (cost_split N l))
      (diff_at_most (get q w) (get q v) (lanes_cost N l) (returns-cost N l) (omega (arith, over l v w h)))

-- ---- labels that are nowhere below the potentials, and no more at a path's end, are the potentials along it

lane_distance : (N : Net) (dist prev : List ℕ) (i j : ℕ) → Measured N dist prev (lane i j) → get dist (32 + j) ≡ get dist i + N.c i j
unfolding from to arc_cost
lane_distance N dist prev i j k = let e = k.distance in cc

taken : (a b c : ℕ) → pos a ≡ pos b +ℤ neg_ℤ (pos c) → a + c ≡ b
taken a b c e =
    by_sign (λ z. pos a ≡ z → a + c ≡ b) b c
    (λ h f. let z : ◌≡◌ {A = ℕ} 0 1 = cc in absurd (omega arith))
    (λ h f. let z : a ≡ b - c = cc in omega arith)
    (e ∙ diff_sub b c)

return_distance : (N : Net) (dist prev : List ℕ) (i j : ℕ) → Measured N dist prev (return i j) → get dist i + N.c i j ≡ get dist (32 + j)
unfolding from to arc_cost
return_distance N dist prev i j k = taken (get dist i) (get dist (32 + j)) (N.c i j) k.distance

module _ (N : Net) (q T P : List ℕ) (sources : N.m ≤ 32) (terminals : N.n ≤ 64)
    (slack : Slack N.m N.n N.c N.u N.x (λ i. get q i) (λ j. get q (32 + j))) (low : Low q T) where
  pub even_path : (l : List Arc) (v g : ℕ) → PathIn N v l g → Distances N T P l → get T g ≡ get q g → (get T v ≡ get q v) × Distances N q P l
  unfolding PathIn Open Distances from to
  even_path [] v g h d e = (ap (λ z. get T z) h ∙ e ∙ ap (λ z. get q z) (sym h), tt)
  even_path (lane i j ∷ l) v g h d e =
      let k = even_path l (32 + j) g h.2 d.1 e in
      let a = lane_distance N T P i j d.0 in
      let b = (slack i j h.1.0 h.1.1).ahead h.1.2 in
      let f : get T i ≡ get q i = omega (arith, k.0, a, b, low i (omega (arith, h.1.0))) in
      (rw h.0 at f, (measured_lane N q P i j d.0.before (omega (arith, k.0, a, f)), k.1))
  even_path (return i j ∷ l) v g h d e =
      let k = even_path l i g h.2 d.1 e in
      let a = return_distance N T P i j d.0 in
      let b = (slack i j h.1.0 h.1.1).back h.1.2 in
      let f : get T (32 + j) ≡ get q (32 + j) = omega (arith, k.0, a, b, low (32 + j) (omega (arith, h.1.1))) in
      (rw h.0 at f, (measured_return N q P i j d.0.before (omega (arith, k.0, a, f)), k.1))

-- ---- a store to the cell of a lane is what an arc makes of the amounts

zero_pulse : (t a b : ℕ) → t ≡ 0 → pulse t a b ≡ 0
zero_pulse t a b e = elim (ℕ_discrete a b) [ yes f ↦ pulse_same t a b f ∙ e | no f ↦ pulse_off t a b f ]

stored : (op : ℕ → ℕ → ℕ) → ((a : ℕ) → op a 0 ≡ a) → (m n : ℕ) (z : List ℕ) (i j t : ℕ) → n ≤ 64 → i < m → j < n → i * 64 + j < length z
    → (k l : ℕ) → k < m → l < n → cells (set z (i * 64 + j) (op (cells z i j) t)) k l ≡ op (cells z k l) (pulse (pulse t i k) j l)
stored op none m n z i j t hn hi hj long k l a b = go (ℕ_discrete k i) (ℕ_discrete l j)
  where
    put : Put m n (cells z) (cells (set z (i * 64 + j) (op (cells z i j) t))) i j
    put = cells_put m n z i j (op (cells z i j) t) hn hi hj

    same : (e : ℕ) → e ≡ 0 → cells z k l ≡ op (cells z k l) e
    same e f = sym (ap (λ c. op (cells z k l) c) f ∙ none (cells z k l))

    go : Dec (k ≡ i) → Dec (l ≡ j) → cells (set z (i * 64 + j) (op (cells z i j) t)) k l ≡ op (cells z k l) (pulse (pulse t i k) j l)
    go (yes e) (yes f) =
        rw (e, f)
        (cells_at z i j (op (cells z i j) t) long
        ∙ ap (λ c. op (cells z i j) c) (sym (pulse_same (pulse t i i) j j refl ∙ pulse_same t i i refl)))
    go (no e) f = put.off_row k l a b e ∙ same (pulse (pulse t i k) j l) (zero_pulse (pulse t i k) j l (pulse_off t i k (λ q. e (sym q))))
    go (yes e) (no f) = put.off_col k l a b f ∙ same (pulse (pulse t i k) j l) (pulse_off (pulse t i k) j l (λ q. f (sym q)))

-- ---- the path of a search

module _ {N : Net} {p : List ℕ} {s limit : ℕ} {B : Book} {g d : ℕ} {x : List ℕ} (r : WalkReady N p s limit B g d x) (root_hops : get B.hops s ≡ 0)
    (root_width : get B.width s ≡ limit) where
  -- a walk back over the path has come to v, with h arcs before it, and left z
  record Come (t : ℕ) (path : List Arc) (h v : ℕ) (x' : List ℕ) : Type 0 where
    z : List ℕ
    long : length z ≡ 2048
    amounts : Amounts N t path z
    walked : Walked B.prev t h v z x'

  -- the path from v on, and what a walk makes of the amounts on it
  record Rest (h v : ℕ) : Type 0 where
    path : List Arc
    arcs : PathIn N v path g
    nodes : Distances N B.dist B.prev path
    even : get B.dist g + returns-cost N path ≡ get B.dist v + lanes_cost N path
    most : narrowest N limit path ≤ limit
    drums : min (get B.width v) (narrowest N limit path) ≡ get B.width g
    come : (t : ℕ) (x' : List ℕ) → Walked B.prev t (get B.hops g) g x x' → Come t path h v x'

  end : Rest (get B.hops g) g
  unfolding PathIn Distances narrowest lanes_cost returns-cost moved
  end = record {
    path = [];
    arcs = refl;
    nodes = tt;
    even = refl;
    most = omega arith;
    drums = omega (arith, (r.label g r.goal r.labelled).most);
    come = λ t x' w. record { z = x; long = r.long; amounts = λ i j a b. ap (λ f. f i j) (sym r.plan); walked = w };
  }

  -- the next arc of the walk
  gone : (t : ℕ) (path : List Arc) (h v : ℕ) (x' : List ℕ) (m : Come t path (suc h) v x')
      → (y : List ℕ) × Carried v (get B.prev v) t m.z y × Walked B.prev t h (get B.prev v) y x'
  unfolding Walked
  gone t path h v x' m = m.walked

  come_next : (op : ℕ → ℕ → ℕ) → ((a : ℕ) → op a 0 ≡ a) → (i j : ℕ) → i < N.m → j < N.n → (t : ℕ) (path path' : List Arc) (h v : ℕ) (x' : List ℕ)
      → ((k l : ℕ) → moved t path' N.x k l ≡ op (moved t path N.x k l) (pulse (pulse t i k) j l)) → (m : Come t path (suc h) v x')
      → (gone t path h v x' m).0 ≡ set m.z (i * 64 + j) (op (cells m.z i j) t) → Come t path' h (get B.prev v) x'
  come_next op none i j hi hj t path path' h v x' f m e = record {
    z = (gone t path h v x' m).0;
    long = ap length e ∙ length-set m.z (i * 64 + j) (op (cells m.z i j) t) ∙ m.long;
    amounts = λ k l a b.
        ap (λ z. cells z k l) e
        ∙ stored op none N.m N.n m.z i j t r.terminals hi hj (omega (arith, r.sources, r.terminals, m.long)) k l a b
        ∙ ap (λ c. op c (pulse (pulse t i k) j l)) (m.amounts k l a b)
        ∙ sym (f k l);
    walked = (gone t path h v x' m).2;
  }

  -- one arc more
  more : (h v : ℕ) → Prev N s (Near p B.dist g) B v → 0 < get B.hops v → Rest (suc h) v → Rest h (get B.prev v)
  unfolding PathIn Open Distances from to ceiling narrowest lanes_cost returns-cost carried moved Walked
  more h v (root z) l q = absurd (omega (arith, ap (λ w. get B.hops w) z))
  more h v (step k b n (ahead j a c f o t i) eh ew) l q = record {
    path = lane (get B.prev v) j ∷ q.path;
    arcs = (refl, (a, c, o), subst (λ (z : ℕ). PathIn N z q.path g) f q.arcs);
    nodes = (measured_lane N B.dist B.prev (get B.prev v) j (ap (λ z. get B.prev z) (sym f)) (ap (λ z. get B.dist z) (sym f) ∙ t), q.nodes);
    even = omega (arith, q.even);
    most = omega (arith, q.most);
    drums = omega (arith, q.drums);
    come = λ t x' w.
        let y : v - 32 ≡ j = omega arith in
        come_next (λ a b. a + b) (λ a. omega arith) (get B.prev v) j a c t q.path (lane (get B.prev v) j ∷ q.path) h v x' (λ k l. refl)
        (q.come t x' w) (rw y at ((gone t q.path h v x' (q.come t x' w)).1.more (omega arith)));
  }
  more h v (step k b n (back j a c f o t i) eh ew) l q = record {
    path = return v j ∷ q.path;
    arcs = (sym f, (a, c, o), q.arcs);
    nodes = (measured_return N B.dist B.prev v j f (t ∙ ap (λ z. get B.dist z) f), q.nodes);
    even = omega (arith, q.even);
    most = omega (arith, q.most);
    drums = omega (arith, q.drums);
    come = λ t x' w.
        let y : get B.prev v - 32 ≡ j = omega arith in
        come_next (λ a b. a - b) (λ a. omega arith) v j a c t q.path (return v j ∷ q.path) h v x' (λ k l. refl)
        (q.come t x' w) (rw y at ((gone t q.path h v x' (q.come t x' w)).1.less (omega (arith, r.sources))));
  }

  whole : (h v : ℕ) → v < 96 → get B.dist v < far → get B.hops v ≡ h → d ≤ get B.width v → Rest h v → Rest 0 s
  whole zero v b l e w q = go (r.label v b l).prev
    where
      go : Prev N s (Near p B.dist g) B v → Rest 0 s
      go (root z) = subst (λ (w : ℕ). Rest 0 w) z q
      go (step k b' n a eh ew) = absurd (omega arith)
  whole (suc h) v b l e w q =
      let f = last r root_hops h v b l e w in
      whole h (get B.prev v) f.node f.label f.hops f.width (more h v (r.label v b l).prev (omega arith) q)

  pub route : {h w : ℕ} → h ≡ get B.hops g → w ≡ get B.width g → Route N s g limit x B.dist B.prev h w
  unfolding Walked
  route {h} {w} eh e =
      let q = whole (get B.hops g) g r.goal r.labelled refl r.width end in
      record {
        path = q.path;
        arcs = q.arcs;
        nodes = q.nodes;
        drums = omega (arith, q.drums, q.most);
        cost =
            cost_split N q.path
            ∙ diff_same (lanes_cost N q.path) (returns-cost N q.path) (get B.dist g) (get B.dist s) (omega (arith, q.even));
        amounts = λ t z k.
            let m = q.come t z (subst (λ (c : ℕ). Walked B.prev t c g x z) eh k) in
            λ i j a b. ap (λ y. cells y i j) m.walked ∙ m.amounts i j a b;
      }

-- ---- the freights on the way

pub rises : (v gain loss k : ℕ) (c : ℤ) → c ≡ pos gain -ℤ pos loss → ((t : ℕ) → t ≤ k → loss * t ≤ v + gain * t) → (t : ℕ) → t ≤ k
    → pos (along v gain loss t) ≡ pos v +ℤ pos t *ℤ c
unfolding along
rises v gain loss k c e above zero h =
    let z : (v + gain * 0) - loss * 0 ≡ v = omega arith in
    ap pos z ∙ sym (+ℤ_idr (pos v)) ∙ ap (λ w. pos v +ℤ w) (sym (zero-*ℤ c))
rises v gain loss k c e above (suc t) h =
    let z : ((v + gain * suc t) - loss * suc t) + loss ≡ ((v + gain * t) - loss * t) + gain =
    omega (arith, above t (omega arith), above (suc t) h) in
    shift ((v + gain * suc t) - loss * suc t) ((v + gain * t) - loss * t) loss gain z
    ∙ ap (λ w. pos ((v + gain * t) - loss * t) +ℤ w) (sym e)
    ∙ ap (λ w. w +ℤ c) (rises v gain loss k c e above t (omega arith))
    ∙ +ℤ_assoc (pos v) (pos t *ℤ c) c
    ∙ ap (λ w. pos v +ℤ w) (sym (suc_ℤ-*ℤ (pos t) c))
