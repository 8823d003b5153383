-- How a path search goes on by one pass: its keys follow its labels, and a node or more is settled. Assumes nothing.
use mathlib.Core.Path.{◌≡◌, refl, ap, ◌∙◌}
use mathlib.Core.Logic.{◌≢◌}
use mathlib.Core.List.{List}
use Prim.Native.Nat.{ℕ, zero, suc, ◌+◌, ◌≤◌, ◌<◌}
use native.Mathlib.Decide.{ℕ_discrete}
use native.Mathlib.Omega.{arith}
use lib.ListN.{length, set, length-set, replicate, length-replicate, get_or-replicate}
use lib.Seq.{get_or-set_same, get_or-set_other}
use Rattle.transport.specs.Sum.{sum}
use Rattle.transport.specs.Plan.{Table, col}
use Rattle.residual.specs.inner.Network.{Net, get, Arc}
use Rattle.residual.specs.inner.Network.Arc.{ahead, back}
use Rattle.residual.specs.inner.Labels.{Book, book, far, Touched, Passed}
use Rattle.residual.specs.inner.Labels.Touched.{stays, gains}
use Rattle.residual.specs.inner.Keys.{shut, Lone, Rekey, Rekeyed, Next}
use Rattle.residual.specs.inner.Keys.Rekey.{same, new, lone}
use Rattle.paths.specs.inner.NearestNode.{Key, Nearest, Chosen}
use Rattle.paths.specs.inner.Search.{Sound, Searching, Exploring, Searched, SearchReady, Blank}
use Rattle.paths.specs.inner.NodeTags.{PlanTagged}
use Rattle.transport.proofs.Sums.{sum_pair, marks_free}
use Rattle.paths.proofs.NearestNode.{near_chosen}
use Rattle.paths.proofs.SettledNode.{arc_near, stay, count, label_near, search_start, search_step, search_stuck}

-- ---- the start

pub explore_start : {N : Net} {p room : List ℕ} {s limit : ℕ} {T P : List ℕ} (K : List ℕ) → SearchReady N p s → 0 < limit → Blank T P → length K ≡ 96
    → ((v : ℕ) → v < 96 → get K v ≡ shut)
    → Exploring N p room s limit (book (set T s (get p s)) P (replicate 96 0) (replicate 96 limit)) (set K s 0) s 0
explore_start {N} {p} {room} {s} {limit} {T} {P} K r o k e z = record {
  marks = replicate 96 0;
  searching = search_start r o k (length-replicate {A = ℕ} 96 0) zeros;
  count = omega arith;
  most = λ v h. elim (ℕ_discrete v s) [ yes d ↦ rw d (omega (arith, own, r.sound.high s hs)) | no d ↦ omega (arith, apart v d, k.dists v h) ];
  hint = λ h. record {
    bound = omega arith;
    fresh = λ l. (zeros s hs, omega (arith, own, r.sound.high s hs));
    least = λ v l d t. elim (ℕ_discrete v s) [ yes d ↦ rw d (hs, omega arith) | no d ↦ absurd (omega (arith, apart v d, k.dists v l)) ];
  };
  long_key = length-set K s 0 ∙ e;
  keys = λ v h. elim (ℕ_discrete v s) [ yes d ↦ rw d here | no d ↦ off v h d ];
}
  where
    zeros : (v : ℕ) → v < 96 → get (replicate 96 0) v ≡ 0
    zeros v h = get_or-replicate {A = ℕ} 96 v 0 0 h

    hs : s < 96
    hs = omega (arith, r.start, r.sound.sources)

    own : get (set T s (get p s)) s ≡ get p s
    own = get_or-set_same T s (get p s) 0 (omega (arith, k.long_dist, hs))

    apart : (v : ℕ) → v ≢ s → get (set T s (get p s)) v ≡ get T v
    apart v d = get_or-set_other T s v (get p s) 0 d

    here : Key (get (replicate 96 0) s) (get (set T s (get p s)) s) (get p s) (get (set K s 0) s)
    here =
        rw (zeros s hs, own, get_or-set_same K s 0 0 (omega (arith, hs)))
        (record { fresh = λ a b. (omega arith, omega arith); some = λ a. (refl, omega (arith, r.sound.high s hs)) })

    off : (v : ℕ) → v < 96 → v ≢ s → Key (get (replicate 96 0) v) (get (set T s (get p s)) v) (get p v) (get (set K s 0) v)
    off v h d =
        rw (apart v d, get_or-set_other K s v 0 0 d)
        (record { fresh = λ a b. absurd (omega (arith, k.dists v h)); some = λ a. absurd (omega (arith, z v h)) })

-- ---- one pass

col_pair : {m : ℕ} (x : Table) (i l j : ℕ) → i < m → l < m → i ≢ l → x i j + x l j ≤ col m x j
unfolding col
col_pair {m} x i l j h o d = sum_pair m i l (λ i. x i j) h o d

module _ {N : Net} {p room : List ℕ} {s limit : ℕ} {B : Book} {K : List ℕ} {next passes : ℕ} (so : Sound N p)
    (q : Exploring N p room s limit B K next passes) where
  pub explore_near : {v : ℕ} → Chosen N.m N.n K next v → Nearest p B.dist q.marks v
  explore_near c =
      near_chosen
      (record { source = λ v h l. (q.searching.label v h l).source; terminal = λ v h l. (q.searching.label v h l).terminal }) q.keys
      q.hint c

  -- all nodes are settled
  pub explore_end : 96 ≤ passes → Searched N p room s limit B 96
  explore_end h =
      search_stuck so q.searching
      (record {
        bound = omega arith;
        fresh = λ l. absurd (omega arith);
        least = λ v l e t. absurd (omega (arith, marks_free 96 v (λ w. get q.marks w) q.searching.zero_one l e, q.count));
      }) refl

  module _ {full want : List ℕ} {B' : Book} {K' : List ℕ} {v next' : ℕ} (ceilings : (i j : ℕ) → i < N.m → j < N.n → N.u i j ≤ 4000000000)
      (tagged : PlanTagged N room full want) (hv : v < 96) (near : Nearest p B.dist q.marks v) (none : get room v ≡ 0)
      (pass : Passed N v (get B.dist v) (get B.hops v + 1) (get B.width v) B B') (k : Rekeyed N want v p B.dist B'.dist (set K v shut) K')
      (named : Next K' (get K v) 32 next') where
    D : List ℕ
    D = set q.marks v 1

    first : Searching N p room s limit B' D
    unfolding D
    first = search_step so q.searching hv near none pass

    here : get D v ≡ 1
    unfolding D
    here = get_or-set_same q.marks v 1 0 (omega (arith, q.searching.marks))

    own_dist : get B'.dist v ≡ get B.dist v
    unfolding D
    own_dist = (stay so q.searching hv near none pass v hv here).dists

    settled : (w : ℕ) → w < 96 → get D w ≡ 1 → get B'.dist w ≡ get B.dist w
    unfolding D
    settled w hw e = (stay so q.searching hv near none pass w hw e).dists

    one : (w : ℕ) → w < 96 → get D w ≢ 0 → get D w ≡ 1
    one w hw e = omega (arith, first.zero_one w hw)

    -- a new label is below far
    near_label : (w : ℕ) → Touched N v (get B.dist v) (get B.hops v + 1) (get B.width v) B B' w → get B'.dist w < get B.dist w
        → get B'.dist w < far
    near_label w (stays e₁ e₂ e₃ e₄) h = absurd (omega arith)
    near_label w (gains t k a l e₁ e₂ e₃ e₄) h = omega (arith, arc_near so a, label_near so q.searching hv (near.fresh hv).1)

    most : (w : ℕ) → w < 96 → Touched N v (get B.dist v) (get B.hops v + 1) (get B.width v) B B' w → get B'.dist w ≤ far
    most w hw (stays e₁ e₂ e₃ e₄) = omega (arith, q.most w hw)
    most w hw (gains t k a l e₁ e₂ e₃ e₄) = omega (arith, q.most w hw)

    -- ---- a lone terminal is settled with its source

    module _ (w : ℕ) (hw : w < 96) (less : get B'.dist w < get B.dist w) (o : Lone N want v w) where
      full? : (get room (32 + o.j) ≡ 0) × (0 < N.x v o.j) × (col N.m N.x o.j ≤ N.x v o.j)
      full? =
          tagged.whole o.j (N.x v o.j) o.terminal (omega (arith, o.free, ceilings v o.j o.source o.terminal))
          (o.all ∙ ap (λ z. get want z) o.node)

      label : Touched N v (get B.dist v) (get B.hops v + 1) (get B.width v) B B' w → get B'.dist w ≡ get B.dist v + N.c v o.j
      label (stays e₁ e₂ e₃ e₄) = absurd (omega arith)
      label (gains t k (ahead j a e f g h i) l e₁ e₂ e₃ e₄) =
          let z : j ≡ o.j = omega (arith, o.node) in omega (arith, e₁, h, ap (λ j. N.c v j) z)
      label (gains t k (back j a e f g h i) l e₁ e₂ e₃ e₄) = absurd (omega (arith, o.node, so.sources))

      -- it is as near as its source
      even : get B'.dist w + get p v ≡ get B'.dist v + get p w
      even =
          let lane = so.slack v o.j o.source o.terminal in
          omega (arith, label (pass.each w), own_dist, lane.ahead o.free, lane.back full?.1, ap (λ z. get p z) o.node)

      -- and no other source serves it
      pub lone_pass : {hop wide : ℕ} → Passed N w (get B'.dist w) hop wide B' B'
      lone_pass = record { long = pass.long; each = λ u. stays refl refl refl refl; offers = λ u t k a. go u t k a }
        where
          go : (u t k : ℕ) → Arc N w u (get B'.dist w) t k → get B'.dist u ≤ t
          go u t k (ahead j a e f g h i) = absurd (omega (arith, o.node, so.sources))
          go u t k (back j a e f g h i) =
              let z : j ≡ o.j = omega (arith, o.node) in
              elim (ℕ_discrete u v) [
                | yes y ↦ rw y (omega (arith, own_dist, label (pass.each w), h, ap (λ j. N.c u j) z, ap (λ u. N.c u o.j) y))
                | no y ↦ absurd (omega (
                  arith,
                  col_pair N.x u v o.j a o.source y,
                  full?.2,
                  g,
                  ap (λ j. N.x u j) z,
                ))
              ]

      pub lone_near : {D : List ℕ} → Searching N p room s limit B' D → get D v ≡ 1 → get D w ≡ 0 → Nearest p B'.dist D w
      lone_near r e z = record {
        bound = omega arith;
        fresh = λ h. (z, near_label w (pass.each w) less);
        least = λ u hu y l. (hw, omega (arith, r.order v u hv hu e y, even));
      }

      pub lone_empty : get room w ≡ 0
      lone_empty = ap (λ z. get room z) o.node ∙ full?.0

    -- ---- the marks below u are right

    record Marked (u : ℕ) : Type 0 where
      marks : List ℕ
      searching : Searching N p room s limit B' marks
      more : sum 96 (λ w. get D w) ≤ sum 96 (λ w. get marks w)
      own : get marks v ≡ 1
      keys : (w : ℕ) → w < u → Key (get marks w) (get B'.dist w) (get p w) (get K' w)
      rest : (w : ℕ) → u ≤ w → get marks w ≡ get D w

    module _ (u : ℕ) (hu : u < 96) (r : Marked u) where
      stands : Key (get r.marks u) (get B'.dist u) (get p u) (get K' u) → Marked (suc u)
      stands o = record {
        marks = r.marks;
        searching = r.searching;
        more = r.more;
        own = r.own;
        keys = λ w h. elim (ℕ_discrete w u) [ yes z ↦ rw z o | no z ↦ r.keys w (omega arith) ];
        rest = λ w h. r.rest w (omega arith);
      }

      kept_key : Key (get D u) (get B'.dist u) (get p u) (get K' u) → Marked (suc u)
      kept_key o = stands (rw (r.rest u (omega arith)) o)

      own_key : u ≡ v → get K' u ≡ get (set K v shut) u → Key (get D u) (get B'.dist u) (get p u) (get K' u)
      own_key z e = record {
        fresh = λ d t. absurd (omega (arith, here, ap (λ z. get D z) z));
        some = λ l. absurd (omega (arith, get_or-set_same K v shut 0 (omega (arith, q.long_key)), e, ap (λ z. get (set K v shut) z) z));
      }

      other_key : u ≢ v → get B'.dist u ≡ get B.dist u → get K' u ≡ get (set K v shut) u → Key (get D u) (get B'.dist u) (get p u) (get K' u)
      unfolding D
      other_key z a c = rw (get_or-set_other q.marks v u 1 0 z, a, c, get_or-set_other K v u shut 0 z) (q.keys u hu)

      fresh_label : get B'.dist u < get B.dist u → get D u ≡ 0
      fresh_label a = elim (ℕ_discrete (get D u) 0) [ yes e ↦ e | no e ↦ absurd (omega (arith, settled u hu (one u hu e))) ]

      go : Rekey N want v u (get p u) (get B.dist u) (get B'.dist u) (get (set K v shut) u) (get K' u) → Marked (suc u)
      go (same a c) = kept_key (elim (ℕ_discrete u v) [ yes z ↦ own_key z c | no z ↦ other_key z a c ])
      go (new a c) = kept_key (record { fresh = λ d t. c; some = λ l. (fresh_label a, near_label u (pass.each u) a) })
      go (lone a c o) = record {
        marks = set r.marks u 1;
        searching = search_step so r.searching hu near' (lone_empty u hu a o) (lone_pass u hu a o);
        more = omega (arith, r.more, count so r.searching hu near' (lone_empty u hu a o) (lone_pass u hu a o));
        own = elim (ℕ_discrete v u) [ yes z ↦ absurd (omega (arith, o.node, o.source, so.sources)) | no z ↦ get_or-set_other r.marks u v 1 0 z ∙ r.own ];
        keys = λ w h. elim (ℕ_discrete w u) [
          | yes z ↦ rw z (record { fresh = λ d t. absurd (omega (arith, marked)); some = λ l. absurd (omega arith) })
          | no z ↦ rw (get_or-set_other r.marks u w 1 0 z) (r.keys w (omega arith))
        ];
        rest = λ w h. get_or-set_other r.marks u w 1 0 (omega arith) ∙ r.rest w (omega arith);
      }
        where
          zero? : get r.marks u ≡ 0
          zero? = r.rest u (omega arith) ∙ fresh_label a

          near' : Nearest p B'.dist r.marks u
          near' = lone_near u hu a o r.searching r.own zero?

          marked : get (set r.marks u 1) u ≡ 1
          marked = get_or-set_same r.marks u 1 0 (omega (arith, r.searching.marks))

      mark : Marked (suc u)
      mark = go (k.each u hu)

    all_marked : (u : ℕ) → u ≤ 96 → Marked u
    all_marked zero h = record {
      marks = D;
      searching = first;
      more = omega arith;
      own = here;
      keys = λ w h. absurd (omega arith);
      rest = λ w h. refl;
    }
    all_marked (suc u) h = mark u (omega arith) (all_marked u (omega arith))

    pub explore_step : Exploring N p room s limit B' K' next' (passes + 1)
    unfolding D
    explore_step = record {
      marks = r.marks;
      searching = r.searching;
      count = omega (arith, r.more, count so q.searching hv near none pass, q.count);
      most = λ w h. most w h (pass.each w);
      hint = λ h.
          let d = (keys next' h).some (named.near h).1 in
          record {
            bound = omega arith;
            fresh = λ l. d;
            least = λ u hu e l. (
              h,
              omega (
                arith,
                (named.near h).0,
                (keys next' h).fresh d.0 d.1,
                (q.keys v hv).fresh (near.fresh hv).0 (near.fresh hv).1,
                own_dist,
                r.searching.order v u hv hu r.own e,
              ),
            );
          };
      long_key = k.long;
      keys = keys;
    }
      where
        r : Marked 96
        r = all_marked 96 (omega arith)

        keys : (w : ℕ) → w < 96 → Key (get r.marks w) (get B'.dist w) (get p w) (get K' w)
        keys w h = r.keys w h
