-- How a path search goes on by one settled node. Assumes nothing.
use mathlib.Core.Path.{◌≡◌, refl, sym, ap, ◌∙◌}
use mathlib.Core.Logic.{◌≢◌, ◌⊎◌, inl, inr}
use mathlib.Core.List.{List}
use Prim.Native.Nat.{ℕ, ◌+◌, ◌-◌, ◌^◌, ◌≤◌, ◌<◌}
use native.Mathlib.Decide.{ℕ_discrete, dec_lt}
use native.Mathlib.Omega.{arith}
use lib.ListN.{length, set, length-set, replicate, length-replicate, get_or-replicate}
use lib.Seq.{get_or-set_same, get_or-set_other}
use Rattle.transport.specs.Sum.{sum}
use Rattle.residual.specs.inner.Network.{Net, get, Arc}
use Rattle.residual.specs.inner.Network.Arc.{ahead, back}
use Rattle.residual.specs.inner.Labels.{Book, book, far, Touched, Passed, RelaxReady}
use Rattle.residual.specs.inner.Labels.Touched.{stays, gains}
use Rattle.residual.specs.inner.LanesInUse.{Covers, AtNode}
use Rattle.paths.specs.inner.NearestNode.{Nearest}
use Rattle.paths.specs.inner.Search.{Sound, Prev, Label, Searching, Near, Searched, SearchReady, Blank}
use Rattle.paths.specs.inner.Search.Prev.{root, step}
use Rattle.transport.proofs.Sums.{sum_change, marks_most}
use Rattle.residual.proofs.ResidualArc.{arc_room, arc_source, arc_terminal, arc_eq}
use Rattle.residual.proofs.Bits.{bit_place}
use Rattle.residual.proofs.LanesInUse.{word_fits}

-- ---- arcs

-- the reduced cost of an open arc is no less than 0
pub arc_reduced : {N : Net} {p : List ℕ} {v w b t k : ℕ} → Sound N p → Arc N v w b t k → get p w + b ≤ t + get p v
arc_reduced {p = p} {v = v} so (ahead j a e f g h i) = omega (arith, (so.slack v j a e).ahead g, ap (λ w. get p w) f)
arc_reduced {p = p} {w = w} so (back j a e f g h i) = omega (arith, (so.slack w j a e).back g, ap (λ v. get p v) f)

pub arc_near : {N : Net} {p : List ℕ} {v w b t k : ℕ} → Sound N p → Arc N v w b t k → (t ≤ b + 2000000) × (b ≤ t + 2000000)
arc_near {v = v} so (ahead j a e f g h i) = omega (arith, so.costs v j a e)
arc_near {w = w} so (back j a e f g h i) = omega (arith, so.costs w j a e)

-- ---- one node is settled

pub record Stays (B B' : Book) (w : ℕ) : Type 0 where
  pub dists : get B'.dist w ≡ get B.dist w
  prevs : get B'.prev w ≡ get B.prev w
  hopss : get B'.hops w ≡ get B.hops w
  widths : get B'.width w ≡ get B.width w

module _ {N : Net} {p room : List ℕ} {s limit : ℕ} {B B' : Book} {D : List ℕ} {v : ℕ}
    (so : Sound N p) (q : Searching N p room s limit B D) (hv : v < 96) (near : Nearest p B.dist D v) (none : get room v ≡ 0)
    (pass : Passed N v (get B.dist v) (get B.hops v + 1) (get B.width v) B B') where
  D' : List ℕ
  D' = set D v 1

  here : get D' v ≡ 1
  unfolding D'
  here = get_or-set_same D v 1 0 (omega (arith, q.marks))

  off : (w : ℕ) → w ≢ v → get D' w ≡ get D w
  unfolding D'
  off w z = get_or-set_other D v w 1 0 z

  was : (w : ℕ) → get D' w ≡ 1 → (w ≡ v) ⊎ (get D w ≡ 1)
  was w e = elim (ℕ_discrete w v) [ yes z ↦ inl z | no z ↦ inr (sym (off w z) ∙ e) ]

  fresh : (w : ℕ) → get D' w ≡ 0 → get D w ≡ 0
  fresh w e = elim (ℕ_discrete w v) [ yes z ↦ absurd (omega (arith, here, ap (λ w. get D' w) z)) | no z ↦ sym (off w z) ∙ e ]

  now_settled : (w : ℕ) → get D w ≡ 1 → get D' w ≡ 1
  now_settled w e = elim (ℕ_discrete w v) [ yes z ↦ rw z here | no z ↦ off w z ∙ e ]

  pub count : sum 96 (λ w. get (set D v 1) w) ≡ sum 96 (λ w. get D w) + 1
  unfolding D'
  count = omega (arith, sum_change 96 v (λ w. get D' w) (λ w. get D w) hv (λ w l z. off w z), here, near.fresh hv)

  -- a settled node is no farther than v
  closer : (w : ℕ) → w < 96 → get D' w ≡ 1 → get B.dist w + get p v ≤ get B.dist v + get p w
  closer w hw e = go (was w e)
    where
      go : (w ≡ v) ⊎ (get D w ≡ 1) → get B.dist w + get p v ≤ get B.dist v + get p w
      go (inl z) = rw z (omega arith)
      go (inr z) = q.order w v hw hv z (near.fresh hv).0

  stayed : (w : ℕ) → w < 96 → get D' w ≡ 1 → Touched N v (get B.dist v) (get B.hops v + 1) (get B.width v) B B' w → Stays B B' w
  stayed w hw e (stays e₁ e₂ e₃ e₄) = record { dists = e₁; prevs = e₂; hopss = e₃; widths = e₄ }
  stayed w hw e (gains t k a l e₁ e₂ e₃ e₄) = absurd (omega (arith, arc_reduced so a, closer w hw e))

  pub stay : (w : ℕ) → w < 96 → get (set D v 1) w ≡ 1 → Stays B B' w
  unfolding D'
  stay w hw e = stayed w hw e (pass.each w)

  shrink : (w : ℕ) → get B'.dist w ≤ get B.dist w
  shrink w = go (pass.each w)
    where
      go : Touched N v (get B.dist v) (get B.hops v + 1) (get B.width v) B B' w → get B'.dist w ≤ get B.dist w
      go (stays e₁ e₂ e₃ e₄) = omega arith
      go (gains t k a l e₁ e₂ e₃ e₄) = omega arith

  lv : Label N s (λ w. get D w ≡ 1) p (sum 96 (λ w. get D w)) limit B v
  lv = q.label v hv (near.fresh hv).1

  label_stays : (w : ℕ) → Stays B B' w → Label N s (λ w. get D w ≡ 1) p (sum 96 (λ w. get D w)) limit B w
      → Label N s (λ w. get D' w ≡ 1) p (sum 96 (λ w. get D' w)) limit B' w
  unfolding D'
  label_stays w e l = record {
    source = l.source;
    terminal = l.terminal;
    up = omega (arith, l.up, e.dists, e.hopss);
    down = omega (arith, l.down, e.dists, e.hopss);
    count = omega (arith, l.count, e.hopss, count);
    some = omega (arith, l.some, e.widths);
    most = omega (arith, l.most, e.widths);
    prev = go l.prev;
  }
    where
      go : Prev N s (λ w. get D w ≡ 1) B w → Prev N s (λ w. get D' w ≡ 1) B' w
      go (root z) = root z
      go (step k b d a eh ew) =
          let f = stay (get B.prev w) b (now_settled (get B.prev w) d) in
          step k (rw e.prevs b) (rw e.prevs (now_settled (get B.prev w) d))
          (arc_eq e.prevs (ap (λ z. get B'.dist z) e.prevs ∙ f.dists) e.dists a)
          (omega (arith, eh, e.hopss, ap (λ z. get B'.hops z) e.prevs, f.hopss))
          (omega (arith, ew, e.widths, ap (λ z. get B'.width z) e.prevs, f.widths))

  label_new : (w : ℕ) → Touched N v (get B.dist v) (get B.hops v + 1) (get B.width v) B B' w → w < 96 → get B'.dist w < far
      → Label N s (λ w. get D' w ≡ 1) p (sum 96 (λ w. get D' w)) limit B' w
  unfolding D'
  label_new w (stays e₁ e₂ e₃ e₄) hw h =
      label_stays w (record { dists = e₁; prevs = e₂; hopss = e₃; widths = e₄ }) (q.label w hw (omega arith))
  label_new w (gains t k a l e₁ e₂ e₃ e₄) hw h =
      let f = stay v hv here in
      record {
        source = arc_source a;
        terminal = arc_terminal so.sources a;
        up = omega (arith, lv.up, arc_near so a);
        down = omega (arith, lv.down, arc_near so a);
        count = omega (arith, lv.count, count);
        some = omega (arith, lv.some, arc_room a);
        most = omega (arith, lv.most);
        prev =
            step k (rw e₂ hv) (rw e₂ here)
            (arc_eq e₂ (ap (λ z. get B'.dist z) e₂ ∙ f.dists) e₁ a)
            (omega (arith, e₃, ap (λ z. get B'.hops z) e₂, f.hopss))
            (omega (arith, e₄, ap (λ z. get B'.width z) e₂, f.widths));
      }

  -- each node that is not settled is no nearer than v
  beyond : (w : ℕ) → w < 96 → get D w ≡ 0 → Touched N v (get B.dist v) (get B.hops v + 1) (get B.width v) B B' w
      → get B.dist v + get p w ≤ get B'.dist w + get p v
  beyond w hw e (stays e₁ e₂ e₃ e₄) = elim (dec_lt (get B.dist w) far) [
    | yes l ↦ omega (arith, near.least w hw e l)
    | no l ↦ omega (arith, lv.up, lv.count, marks_most 96 (λ w. get D w) q.zero_one, so.high s q.start, so.high w hw)
  ]
  beyond w hw e (gains t k a l e₁ e₂ e₃ e₄) = omega (arith, arc_reduced so a)

  lows : (w : ℕ) → w < 96 → Touched N v (get B.dist v) (get B.hops v + 1) (get B.width v) B B' w → get p w ≤ get B'.dist w
  lows w hw (stays e₁ e₂ e₃ e₄) = omega (arith, q.low w hw)
  lows w hw (gains t k a l e₁ e₂ e₃ e₄) = omega (arith, arc_reduced so a, q.low v hv)

  pub search_step : Searching N p room s limit B' (set D v 1)
  unfolding D'
  search_step = record {
    long = pass.long;
    marks = length-set D v 1 ∙ q.marks;
    zero_one = λ w hw. elim (ℕ_discrete w v) [ yes z ↦ rw z (omega (arith, here)) | no z ↦ omega (arith, off w z, q.zero_one w hw) ];
    low = λ w hw. lows w hw (pass.each w);
    start = q.start;
    root_dist = (root_stays (pass.each s)).0;
    root_hops = (root_stays (pass.each s)).1;
    root_width = (root_stays (pass.each s)).2;
    label = λ w hw h. label_new w (pass.each w) hw h;
    settled = λ w hw e. settled w hw e (was w e);
    order = λ a b ha hb ea eb. omega (arith, (stay a ha ea).dists, closer a ha ea, beyond b hb (fresh b eb) (pass.each b));
    relaxed = λ a b t k ha hb ea arc. relaxed a b t k ha hb ea arc (was a ea);
  }
    where
      root_stays : Touched N v (get B.dist v) (get B.hops v + 1) (get B.width v) B B' s
          → (get B'.dist s ≡ get p s) × (get B'.hops s ≡ 0) × (get B'.width s ≡ limit)
      root_stays (stays e₁ e₂ e₃ e₄) = (e₁ ∙ q.root_dist, e₃ ∙ q.root_hops, e₄ ∙ q.root_width)
      root_stays (gains t k a l e₁ e₂ e₃ e₄) = absurd (omega (arith, arc_reduced so a, q.low v hv, q.root_dist))

      settled : (w : ℕ) → w < 96 → get D' w ≡ 1 → (w ≡ v) ⊎ (get D w ≡ 1) → (get B'.dist w < far) × (get room w ≡ 0)
      settled w hw e (inl z) = rw z (omega (arith, shrink v, (near.fresh hv).1), none)
      settled w hw e (inr z) = (omega (arith, shrink w, (q.settled w hw z).0), (q.settled w hw z).1)

      relaxed : (a b t k : ℕ) → a < 96 → b < 96 → get D' a ≡ 1 → Arc N a b (get B'.dist a) t k → (a ≡ v) ⊎ (get D a ≡ 1) → get B'.dist b ≤ t
      relaxed a b t k ha hb ea arc (inl z) =
          pass.offers b t k (arc_eq (sym z) (sym (ap (λ z. get B'.dist z) z ∙ (stay v hv here).dists)) refl arc)
      relaxed a b t k ha hb ea arc (inr z) =
          omega (arith, shrink b, q.relaxed a b t k ha hb z (arc_eq refl (sym (stay a ha ea).dists) refl arc))

-- ---- the start

pub search_start : {N : Net} {p room : List ℕ} {s limit : ℕ} {T P D : List ℕ} → SearchReady N p s → 0 < limit → Blank T P → length D ≡ 96
    → ((v : ℕ) → v < 96 → get D v ≡ 0)
    → Searching N p room s limit (book (set T s (get p s)) P (replicate 96 0) (replicate 96 limit)) D
search_start {N} {p} {room} {s} {limit} {T} {P} {D} r o k e z = record {
  long = record {
    dists = length-set T s (get p s) ∙ k.long_dist;
    prevs = k.long_prev;
    hopss = length-replicate {A = ℕ} 96 0;
    widths = length-replicate {A = ℕ} 96 limit;
  };
  marks = e;
  zero_one = λ v h. omega (arith, z v h);
  low = λ v h. elim (ℕ_discrete v s) [
    | yes d ↦ rw d (omega (arith, here))
    | no d ↦ omega (arith, off v d, k.dists v h, r.sound.high v h)
  ];
  start = hs;
  root_dist = here;
  root_hops = hops;
  root_width = width;
  label = λ v h l. elim (ℕ_discrete v s) [ yes d ↦ rw d label | no d ↦ absurd (omega (arith, off v d, k.dists v h)) ];
  settled = λ v h d. absurd (omega (arith, z v h));
  order = λ v w hv hw d f. absurd (omega (arith, z v hv));
  relaxed = λ v w t k hv hw d a. absurd (omega (arith, z v hv));
}
  where
    hs : s < 96
    hs = omega (arith, r.start, r.sound.sources)

    C : Book
    C = book (set T s (get p s)) P (replicate 96 0) (replicate 96 limit)

    here : get C.dist s ≡ get p s
    here = get_or-set_same T s (get p s) 0 (omega (arith, k.long_dist, hs))

    hops : get C.hops s ≡ 0
    hops = get_or-replicate {A = ℕ} 96 s 0 0 hs

    width : get C.width s ≡ limit
    width = get_or-replicate {A = ℕ} 96 s limit 0 hs

    off : (v : ℕ) → v ≢ s → get C.dist v ≡ get T v
    off v d = get_or-set_other T s v (get p s) 0 d

    label : Label N s (λ w. get D w ≡ 1) p (sum 96 (λ w. get D w)) limit C s
    label = record {
      source = λ l. r.start;
      terminal = λ l. absurd (omega (arith, r.start, r.sound.sources));
      up = omega (arith, here, hops);
      down = omega (arith, here, hops);
      count = omega (arith, hops);
      some = omega (arith, width);
      most = omega (arith, width);
      prev = root refl;
    }

-- ---- what the next pass asks

module _ {N : Net} {p room : List ℕ} {s limit : ℕ} {B : Book} {D : List ℕ} (so : Sound N p) (q : Searching N p room s limit B D) where
  pub counted : sum 96 (λ w. get D w) ≤ 96
  counted = marks_most 96 (λ w. get D w) q.zero_one

  pub label_near : {v : ℕ} → v < 96 → get B.dist v < far → (get B.dist v ≤ 1000000000) × (get B.hops v ≤ 96)
  label_near {v} hv l = omega (arith, (q.label v hv l).up, (q.label v hv l).count, counted, so.high s q.start)

  pub at_node : {v : ℕ} {x serves : List ℕ} → v < 96 → get B.dist v < far → Covers N.m N.n x serves → AtNode N.m N.n x serves v
  at_node {v} hv l k = record { sources = so.sources; source = (q.label v hv l).source; terminal = (q.label v hv l).terminal; covers = k }

  pub relax_ready : {v : ℕ} {serves K : List ℕ} → ((i j : ℕ) → i < N.m → j < N.n → N.u i j ≤ 4000000000) → ((w : ℕ) → w < 96 → get B.dist w ≤ far)
      → ((j : ℕ) → j < N.n → get serves j < 2 ^ N.m) → v < 96 → get B.dist v < far → length K ≡ 96
      → RelaxReady N.n N.c N.u N.x serves p v (get B.dist v) B.dist B.prev K
  relax_ready {v} {serves} ceilings most within hv l e = record {
    row = λ h. let o = lv.source h in record {
      long_dist = q.long.dists;
      long_prev = q.long.prevs;
      long_key = e;
      terminals = so.terminals;
      source = h;
      near = (label_near hv l).0;
      costs = λ j b. so.costs v j o b;
      ceilings = λ j b. ceilings v j o b;
      low = q.low;
      most = most;
      ahead = λ j b f. omega (arith, (so.slack v j o b).ahead f, q.low v hv);
    };
    column = λ h.
        let b : v - 32 < N.n = omega (arith, lv.terminal h) in
        let z : 32 + (v - 32) ≡ v = omega arith in
        record {
          long_dist = q.long.dists;
          long_prev = q.long.prevs;
          long_key = e;
          low = h;
          high = hv;
          near = (label_near hv l).0;
          word = word_fits (within (v - 32) b) so.sources;
          back = λ i o f.
              omega (arith, (so.slack i (v - 32) (bit_place N.m (get serves (v - 32)) i (within (v - 32) b) o) b).back f, q.low v hv, ap (λ v. get p v) z);
        };
  }
    where
      lv : Label N s (λ w. get D w ≡ 1) p (sum 96 (λ w. get D w)) limit B v
      lv = q.label v hv l

  -- ---- the end

  label_end : (g : ℕ) → g < 96 → get D g ≡ 0 → (w : ℕ) → w < 96 → get B.dist w < far → Label N s (Near p B.dist g) p 96 limit B w
  label_end g hg e w hw l = record {
    source = lw.source;
    terminal = lw.terminal;
    up = lw.up;
    down = lw.down;
    count = omega (arith, lw.count, counted);
    some = lw.some;
    most = lw.most;
    prev = go lw.prev;
  }
    where
      lw : Label N s (λ w. get D w ≡ 1) p (sum 96 (λ w. get D w)) limit B w
      lw = q.label w hw l

      go : Prev N s (λ w. get D w ≡ 1) B w → Prev N s (Near p B.dist g) B w
      go (root z) = root z
      go (step k b d a eh ew) =
          step k b ((q.settled (get B.prev w) b d).0, q.order (get B.prev w) g b hg d e) a eh ew

  -- a node that is nearer than the nearest is settled
  nearer : {v : ℕ} → Nearest p B.dist D v → v < 96 → (w : ℕ) → w < 96 → get B.dist w + get p v < get B.dist v + get p w → get D w ≡ 1
  nearer {v} near hv w hw l = elim (ℕ_discrete (get D w) 0) [
    | yes z ↦ elim (dec_lt (get B.dist w) far) [
      | yes o ↦ absurd (omega (arith, near.least w hw z o))
      | no o ↦ absurd (omega (arith, label_near hv (near.fresh hv).1, so.high w hw))
    ]
    | no z ↦ omega (arith, q.zero_one w hw)
  ]

  pub search_found : {v : ℕ} → Nearest p B.dist D v → v < 96 → 0 < get room v → Searched N p room s limit B v
  search_found {v} near hv o = record {
    long = q.long;
    low = q.low;
    root_dist = q.root_dist;
    root_hops = q.root_hops;
    root_width = q.root_width;
    bound = near.bound;
    found = λ h. record {
      goal = (near.fresh hv).1;
      has_room = o;
      label = label_end v hv (near.fresh hv).0;
      relaxed = λ a b t k ha hb l arc. q.relaxed a b t k ha hb (nearer near hv a ha l) arc;
      empty = λ a ha l. (q.settled a ha (nearer near hv a ha l)).1;
    };
    stuck = λ e. absurd (omega arith);
  }

  pub search_stuck : {v : ℕ} → Nearest p B.dist D v → v ≡ 96 → Searched N p room s limit B v
  search_stuck {v} near e = record {
    long = q.long;
    low = q.low;
    root_dist = q.root_dist;
    root_hops = q.root_hops;
    root_width = q.root_width;
    bound = near.bound;
    found = λ h. absurd (omega arith);
    stuck = λ z. record {
      start = omega (arith, q.root_dist, so.high s q.start);
      empty = λ a ha l. (q.settled a ha (done a ha l)).1;
      ahead = λ i j a b o l.
          closed i (32 + j) (get B.dist i + N.c i j) (N.u i j - N.x i j) (omega (arith, so.sources)) (omega (arith, so.terminals)) l
          (ahead j a b refl o refl refl);
      back = λ i j a b o l.
          let z : N.c i j ≤ get B.dist (32 + j) = omega (arith, (so.slack i j a b).back o, q.low (32 + j) (omega (arith, so.terminals))) in
          closed (32 + j) i (get B.dist (32 + j) - N.c i j) (N.x i j) (omega (arith, so.terminals)) (omega (arith, so.sources)) l
          (back j a b refl o (omega arith) refl);
    };
  }
    where
      done : (a : ℕ) → a < 96 → get B.dist a < far → get D a ≡ 1
      done a ha l = elim (ℕ_discrete (get D a) 0) [
        | yes z ↦ absurd (omega (arith, (near.least a ha z l).0))
        | no z ↦ omega (arith, q.zero_one a ha)
      ]

      far_offer : (a b t k : ℕ) → a < 96 → get B.dist a < far → Arc N a b (get B.dist a) t k → t < far
      far_offer a b t k ha l arc = omega (arith, arc_near so arc, (q.label a ha l).up, (q.label a ha l).count, counted, so.high s q.start)

      closed : (a b t k : ℕ) → a < 96 → b < 96 → get B.dist a < far → Arc N a b (get B.dist a) t k → get B.dist b < far
      closed a b t k ha hb l arc = elim (dec_lt (get B.dist b) far) [
        | yes o ↦ o
        | no o ↦ absurd (omega (arith, q.relaxed a b t k ha hb (done a ha l) arc, far_offer a b t k ha l arc))
      ]
