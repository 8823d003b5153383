-- Ways over free lanes: one node more that is reached, the set that is left. Assumes nothing.
use mathlib.Core.Path.{◌≡◌, refl, sym, ap, ◌∙◌}
use mathlib.Core.Logic.{◌≢◌}
use mathlib.Core.Bool.{Bool, cond}
use mathlib.Core.List.{List, []}
use Prim.Native.Nat.{ℕ, min, ◌+◌, ◌-◌, ◌^◌, ◌≤◌, ◌<◌}
use native.Mathlib.Decide.{ℕ_discrete, dec_lt}
use native.Mathlib.Omega.{arith}
use borrow.Author.Tests.{lt-ltb, le-ltb}
use lib.ListN.{length, set, length-set, replicate, length-replicate, get_or-replicate}
use lib.Seq.{get_or-set_same, get_or-set_other}
use lib.Pow.{pow_pos, pow-lt}
use lib.Bits.{bit_and, bit_or, and_le_l, and_le_r, or_lt, or_add_and}
use lib.Count.{count_trailing_zeros}
use Rattle.transport.specs.Sum.{sum}
use Rattle.residual.specs.inner.Cells.{cells}
use Rattle.residual.specs.inner.Network.{Net, net, get, Arc}
use Rattle.residual.specs.inner.Network.Arc.{ahead, back}
use Rattle.residual.specs.inner.Labels.{Book, book, far}
use Rattle.residual.specs.inner.Bits.{bit}
use Rattle.residual.specs.inner.LanesInUse.{Covers}
use Rattle.paths.specs.inner.Search.{Near, Label, Prev}
use Rattle.paths.specs.inner.Search.Prev.{root, step}
use Rattle.reachability.specs.inner.Reachability.{Opens, Supplied, Known, Dropped, level, reached, Tree, Reaching, AtTerminal, Aiming, ReachAt}
use Rattle.reachability.specs.inner.Reachability.{AheadAt, Moved, Back, Shut, Trodden, NoRoute, Through}
use Rattle.transport.proofs.Sums.{sum_change, marks_most}
use Rattle.residual.proofs.ResidualArc.{arc_room, arc_source, arc_terminal, arc_eq}
use Rattle.residual.proofs.Bits.{bit_none, bit_most, bit_or_lem, bit_own, bit_place, low_set, rest_same, rest_other}
use Rattle.reachability.proofs.MaskBits.{bit_and_lem, bit_ones, bit_power, take_fits, take_own, take_other, take_less, take_gone, take_kept, none_common}

-- ---- one node more

reached_yes : (t : ℕ) → t < far → reached t ≡ 1
unfolding reached
reached_yes t h = ap (λ (b : Bool). cond b 1 0) (lt-ltb t far h)

reached_no : (t : ℕ) → far ≤ t → reached t ≡ 0
unfolding reached
reached_no t h = ap (λ (b : Bool). cond b 1 0) (le-ltb t far h)

reached_most : (t : ℕ) → reached t ≤ 1
reached_most t = elim (dec_lt t far) [ yes l ↦ omega (arith, reached_yes t l) | no l ↦ omega (arith, reached_no t (omega arith)) ]

abbrev grown : Book → ℕ → ℕ → ℕ → Book
grown B v w k =
    book (set B.dist w 800000000) (set B.prev w v) (set B.hops w (get B.hops v + 1)) (set B.width w (min (get B.width v) k))

module _ {N : Net} {s limit : ℕ} {B : Book} (hm : N.m ≤ 32) (q : Tree N s limit B) {v w k : ℕ} (hv : v < 96) (hw : w < 96)
    (seen : get B.dist v < far) (fresh : far ≤ get B.dist w) (arc : Arc N v w 800000000 800000000 k) where
  abbrev T' : List ℕ
  T' = set B.dist w 800000000

  dist_own : get T' w ≡ 800000000
  dist_own = get_or-set_same B.dist w 800000000 0 (omega (arith, q.long.dists))

  dist_off : (u : ℕ) → u ≢ w → get T' u ≡ get B.dist u
  dist_off u z = get_or-set_other B.dist w u 800000000 0 z

  prev_own : get (set B.prev w v) w ≡ v
  prev_own = get_or-set_same B.prev w v 0 (omega (arith, q.long.prevs))

  prev_off : (u : ℕ) → u ≢ w → get (set B.prev w v) u ≡ get B.prev u
  prev_off u z = get_or-set_other B.prev w u v 0 z

  hops_own : get (set B.hops w (get B.hops v + 1)) w ≡ get B.hops v + 1
  hops_own = get_or-set_same B.hops w (get B.hops v + 1) 0 (omega (arith, q.long.hopss))

  hops_off : (u : ℕ) → u ≢ w → get (set B.hops w (get B.hops v + 1)) u ≡ get B.hops u
  hops_off u z = get_or-set_other B.hops w u (get B.hops v + 1) 0 z

  width_own : get (set B.width w (min (get B.width v) k)) w ≡ min (get B.width v) k
  width_own = get_or-set_same B.width w (min (get B.width v) k) 0 (omega (arith, q.long.widths))

  width_off : (u : ℕ) → u ≢ w → get (set B.width w (min (get B.width v) k)) u ≡ get B.width u
  width_off u z = get_or-set_other B.width w u (min (get B.width v) k) 0 z

  -- a node with a label is another
  other : (u : ℕ) → get B.dist u < far → u ≢ w
  other u l z = absurd (omega (arith, ap (λ y. get B.dist y) z))

  pub still : (u : ℕ) → get B.dist u < far → get (set B.dist w 800000000) u < far
  still u l = omega (arith, dist_off u (other u l))

  counts : sum 96 (λ u. reached (get T' u)) ≡ sum 96 (λ u. reached (get B.dist u)) + 1
  counts =
      omega (
        arith,
        sum_change 96 w (λ u. reached (get T' u)) (λ u. reached (get B.dist u)) hw (λ u l z. ap reached (dist_off u z)),
        reached_yes (get T' w) (omega (arith, dist_own)),
        reached_no (get B.dist w) fresh,
      )

  lv : Label N s (λ u. get B.dist u < far) level (sum 96 (λ u. reached (get B.dist u))) limit B v
  lv = q.label v hv seen

  old : (u : ℕ) → u ≢ w → Label N s (λ u. get B.dist u < far) level (sum 96 (λ u. reached (get B.dist u))) limit B u
      → Label N s (λ u. get T' u < far) level (sum 96 (λ u. reached (get T' u))) limit (grown B v w k) u
  old u z l = record {
    source = l.source;
    terminal = l.terminal;
    up = omega (arith, l.up, dist_off u z, hops_off u z);
    down = omega (arith, l.down, dist_off u z, hops_off u z);
    count = omega (arith, l.count, hops_off u z, counts);
    some = omega (arith, l.some, width_off u z);
    most = omega (arith, l.most, width_off u z);
    prev = go l.prev;
  }
    where
      go : Prev N s (λ u. get B.dist u < far) B u → Prev N s (λ u. get T' u < far) (grown B v w k) u
      go (root y) = root y
      go (step c b d a eh ew) =
          let e = prev_off u z in
          let o = other (get B.prev u) d in
          step c (rw e b) (rw e (still (get B.prev u) d))
          (arc_eq e (ap (λ y. get T' y) e ∙ dist_off (get B.prev u) o) (dist_off u z) a)
          (omega (arith, eh, hops_off u z, ap (λ y. get (set B.hops w (get B.hops v + 1)) y) e, hops_off (get B.prev u) o))
          (omega (
            arith,
            ew,
            width_off u z,
            ap (λ y. get (set B.width w (min (get B.width v) c)) y) e,
            ap (λ y. get (set B.width w (min (get B.width v) k)) y) e,
            width_off (get B.prev u) o,
          ))

  own : Label N s (λ u. get T' u < far) level (sum 96 (λ u. reached (get T' u))) limit (grown B v w k) w
  own =
      let o = other v seen in
      record {
        source = arc_source arc;
        terminal = arc_terminal hm arc;
        up = omega (arith, dist_own, lv.up, q.flat v hv seen, hops_own);
        down = omega (arith, dist_own, lv.down, q.flat v hv seen, hops_own);
        count = omega (arith, lv.count, hops_own, counts);
        some = omega (arith, lv.some, width_own, arc_room arc);
        most = omega (arith, lv.most, width_own);
        prev =
            step k (rw prev_own hv) (rw prev_own (still v seen))
            (arc_eq prev_own (ap (λ y. get T' y) prev_own ∙ dist_off v o ∙ q.flat v hv seen) dist_own arc)
            (omega (arith, hops_own, ap (λ y. get (set B.hops w (get B.hops v + 1)) y) prev_own, hops_off v o))
            (omega (arith, width_own, ap (λ y. get (set B.width w (min (get B.width v) k)) y) prev_own, width_off v o));
      }

  pub grow : get B.dist s < far → Tree N s limit (grown B v w k)
  grow hs =
      let o = other s hs in
      record {
        long = record {
          dists = length-set B.dist w 800000000 ∙ q.long.dists;
          prevs = length-set B.prev w v ∙ q.long.prevs;
          hopss = length-set B.hops w (get B.hops v + 1) ∙ q.long.hopss;
          widths = length-set B.width w (min (get B.width v) k) ∙ q.long.widths;
        };
        root_dist = dist_off s o ∙ q.root_dist;
        root_hops = hops_off s o ∙ q.root_hops;
        root_width = width_off s o ∙ q.root_width;
        flat = λ u hu l. elim (ℕ_discrete u w) [ yes z ↦ rw z dist_own | no z ↦ dist_off u z ∙ q.flat u hu (omega (arith, dist_off u z)) ];
        label = λ u hu l. elim (ℕ_discrete u w) [ yes z ↦ rw z own | no z ↦ old u z (q.label u hu (omega (arith, dist_off u z))) ];
      }

-- ---- the masks

module _ {m n : ℕ} {f x : List ℕ} {s limit t R S W : ℕ} {P : List ℕ} (hm : m ≤ 32) (hn : n ≤ 64) where
  -- a source that sends to terminal j, which is reached
  pub visit_source : {a j : ℕ} → AtTerminal m n f x s limit t R S W P j → a < m → j < n → bit S a ≡ 1 → 0 < cells x a j
      → AtTerminal m n f x s limit t R (S - 2 ^ a) (bit_or W (2 ^ a)) (set P a (32 + j)) j
  visit_source {a} {j} c ha hj fresh o = record {
    reaching = record {
      dist = set q.dist a 800000000;
      hops = _;
      widths = _;
      tree =
          grow hm q.tree {v = 32 + j} {w = a} {k = cells x a j} (omega arith) (omega arith) c.here there
          (back j ha hj refl o (omega arith) refl) (omega (arith, q.tree.root_dist));
      fits_r = q.fits_r;
      fits_s = omega (arith, q.fits_s);
      fits_w = or_lt 32 W (2 ^ a) q.fits_w (pow-lt {i = a} {j = 32} (omega arith));
      fresh_s = λ b hb e. let t = take_less a S b fresh e in omega (arith, off b t.0, q.fresh_s b hb t.1);
      seen_s = λ b hb e. elim (ℕ_discrete b a) [
        | yes z ↦ omega (arith, ap (λ y. get (set q.dist a 800000000) y) z, own)
        | no z ↦ omega (arith, off b z, q.seen_s b hb (take_gone a S b fresh z e))
      ];
      fresh_t = λ b hb e. omega (arith, off (32 + b) (omega arith), q.fresh_t b hb e);
      others = λ b hb e. let w = q.others b hb e in (w.0, omega (arith, off (32 + b) (omega arith), w.1));
      waits = λ b hb e. elim (ℕ_discrete b a) [
        | yes z ↦ rw z (take_own a S fresh)
        | no z ↦ take_kept a S b fresh (q.waits b hb (omega (arith, e, bit_or_lem W (2 ^ a) b, bit_power a b z)))
      ];
    };
    here = omega (arith, off (32 + j) (omega arith), c.here);
  }
    where
      q : Reaching m n f x s limit t R S W P
      q = c.reaching

      there : far ≤ get q.dist a
      there = q.fresh_s a (omega arith) fresh

      own : get (set q.dist a 800000000) a ≡ 800000000
      own = get_or-set_same q.dist a 800000000 0 (omega (arith, q.tree.long.dists))

      off : (u : ℕ) → u ≢ a → get (set q.dist a 800000000) u ≡ get q.dist u
      off u z = get_or-set_other q.dist a u 800000000 0 z

  -- a terminal that a source reached has room to send to
  pub visit_terminal : {i j : ℕ} → Reaching m n f x s limit t R S W P → i < m → j < n → bit S i ≡ 0 → bit R j ≡ 1 → cells x i j < cells f i j
      → AtTerminal m n f x s limit t (R - 2 ^ j) S W (set P (32 + j) i) j
  visit_terminal {i} {j} q hi hj seen fresh o = record {
    reaching = record {
      dist = set q.dist (32 + j) 800000000;
      hops = _;
      widths = _;
      tree =
          grow hm q.tree {v = i} {w = 32 + j} {k = cells f i j - cells x i j} (omega arith) (omega arith) near there
          (ahead j hi hj refl o (omega arith) refl) (omega (arith, q.tree.root_dist));
      fits_r = omega (arith, q.fits_r);
      fits_s = q.fits_s;
      fits_w = q.fits_w;
      fresh_s = λ b hb e. omega (arith, off b (omega arith), q.fresh_s b hb e);
      seen_s = λ b hb e. omega (arith, off b (omega arith), q.seen_s b hb e);
      fresh_t = λ b hb e. let t = take_less j R b fresh e in omega (arith, off (32 + b) (λ z. t.0 (omega arith)), q.fresh_t b hb t.1);
      others = λ b hb e.
          let w = q.others b hb e in
          let z : b ≢ j = λ z. absurd (omega (arith, ap (λ y. bit R y) z, w.0)) in
          (take_kept j R b fresh w.0, omega (arith, off (32 + b) (λ y. z (omega arith)), w.1));
      waits = q.waits;
    };
    here = omega (arith, get_or-set_same q.dist (32 + j) 800000000 0 (omega (arith, q.tree.long.dists)));
  }
    where
      near : get q.dist i < far
      near = q.seen_s i (omega arith) seen

      there : far ≤ get q.dist (32 + j)
      there = q.fresh_t j (omega arith) fresh

      off : (u : ℕ) → u ≢ 32 + j → get (set q.dist (32 + j) 800000000) u ≡ get q.dist u
      off u z = get_or-set_other q.dist (32 + j) u 800000000 0 z

-- ---- the goal is reached

module _ {m n i j limit : ℕ} {f x : List ℕ} {t R S W : ℕ} {P : List ℕ} (at : ReachAt m n i j) (c : AtTerminal m n f x i limit t R S W P j) where
  abbrev q : Reaching m n f x i limit t R S W P
  q = c.reaching

  flat : (u : ℕ) → u < 96 → get level u ≡ 800000000
  flat u h = get_or-replicate {A = ℕ} 96 u 800000000 0 h

  low : (u : ℕ) → u < 96 → get level u ≤ get q.dist u
  low u h = elim (dec_lt (get q.dist u) far) [ yes l ↦ omega (arith, flat u h, q.tree.flat u h l) | no l ↦ omega (arith, flat u h) ]

  pub trodden : Trodden m n i j limit f x P
  trodden = record {
    dist = q.dist;
    labelled = record {
      hops = q.hops;
      widths = q.widths;
      searched = record {
        long = q.tree.long;
        low = low;
        root_dist = q.tree.root_dist ∙ sym (flat i (omega (arith, at.source, at.sources)));
        root_hops = q.tree.root_hops;
        root_width = q.tree.root_width;
        bound = omega (arith, goal);
        found = λ _. record {
          goal = seen;
          has_room = omega (arith, get_or-replicate {A = ℕ} 96 (32 + j) 1 0 goal);
          label = label_end;
          relaxed = λ a b t k ha hb l arc. absurd (omega (arith, nearer a ha l));
          empty = λ a ha l. absurd (omega (arith, nearer a ha l));
        };
        stuck = λ e. absurd (omega (arith, goal));
      };
    };
  }
    where
      goal : 32 + j < 96
      goal = omega (arith, at.terminal, at.terminals)

      seen : get q.dist (32 + j) < far
      seen = c.here

      even : get q.dist (32 + j) ≡ 800000000
      even = q.tree.flat (32 + j) goal seen

      nearer : (a : ℕ) → a < 96 → get q.dist a + get level (32 + j) < get q.dist (32 + j) + get level a → 1 ≤ 0
      nearer a ha l = absurd (omega (arith, low a ha, even, flat (32 + j) goal, flat a ha))

      label_end : (w : ℕ) → w < 96 → get q.dist w < far
          → Label (net m n [] f x) i (Near level q.dist (32 + j)) level 96 limit (book q.dist P q.hops q.widths) w
      label_end w hw l = record {
        source = lw.source;
        terminal = lw.terminal;
        up = lw.up;
        down = lw.down;
        count = omega (arith, lw.count, marks_most 96 (λ u. reached (get q.dist u)) (λ u h. reached_most (get q.dist u)));
        some = lw.some;
        most = lw.most;
        prev = go lw.prev;
      }
        where
          lw : Label (net m n [] f x) i (λ u. get q.dist u < far) level (sum 96 (λ u. reached (get q.dist u))) limit (book q.dist P q.hops q.widths) w
          lw = q.tree.label w hw l

          go : Prev (net m n [] f x) i (λ u. get q.dist u < far) (book q.dist P q.hops q.widths) w
              → Prev (net m n [] f x) i (Near level q.dist (32 + j)) (book q.dist P q.hops q.widths) w
          go (root z) = root z
          go (step k b d a eh ew) =
              step k b (d, omega (arith, q.tree.flat (get P w) b d, even, flat (32 + j) goal, flat (get P w) b)) a eh ew

  pub through : Through m n i j limit f x P t
  unfolding trodden
  through = record {
    trodden = trodden;
    within = λ b hb l. elim (ℕ_discrete (bit t b) 0) [
      | yes z ↦ absurd (omega (arith, (q.others b hb z).1))
      | no z ↦ omega (arith, bit_most t b)
    ];
  }

-- ---- sources that come to wait

pub moved_none : {S W : ℕ} → Moved S W S W
moved_none = record { kept = λ a h. h; new = λ a h l. (h, l); fewer = omega arith }

pub moved_then : {S W S' W' S'' W'' : ℕ} → Moved S W S' W' → Moved S' W' S'' W'' → Moved S W S'' W''
moved_then p q = record {
  kept = λ a h. q.kept a (p.kept a h);
  new = λ a h l. let t = q.new a h l in p.new a t.0 t.1;
  fewer = omega (arith, p.fewer, q.fewer);
}

pub moved_one : {S W : ℕ} (i : ℕ) → bit S i ≡ 1 → Moved S W (S - 2 ^ i) (bit_or W (2 ^ i))
moved_one {S} {W} i h = record {
  kept = λ a e. take_kept i S a h e;
  new = λ a e l. elim (ℕ_discrete a i) [
    | yes z ↦ absurd (omega (arith, bit_or_lem W (2 ^ i) a, bit_own i, ap (λ y. bit (2 ^ i) y) z))
    | no z ↦ (take_gone i S a h z e, omega (arith, bit_or_lem W (2 ^ i) a))
  ];
  fewer = omega (arith, or_add_and W (2 ^ i), take_fits i S h);
}

-- ---- the sources that send to terminal j, bit by bit

-- the sources left in rest are to be looked at
pub record LookingBack (m n j g : ℕ) (f x : List ℕ) (s limit t R S₀ W₀ : ℕ) (P Y : List ℕ) (S W rest : ℕ) : Type 0 where
  pub fits : rest < 2 ^ 32
  pub covers : Covers m n x Y
  pub at : AtTerminal m n f x s limit t R S W P j
  pub aiming : Aiming m n g f x R S
  pub moved : Moved S₀ W₀ S W
  pub left : (a : ℕ) → bit rest a ≡ 1 → (bit S a ≡ 1) × (a < m)
  pub done : (a : ℕ) → a < m → bit rest a ≡ 0 → 0 < cells x a j → bit S a ≡ 0

-- a source that sends nothing there does not serve it
pub cover_drop : {m n i j : ℕ} {x Y Y' : List ℕ} → m ≤ 32 → i < m → j < n → Covers m n x Y → cells x i j ≤ 0 → n ≤ 64 → Dropped i j Y Y' → Covers m n x Y'
cover_drop {m} {n} {i} {j} {x} {Y} {Y'} hm hi hj c e hn d = rw d.same (record {
  long = length-set Y j v ∙ c.long;
  within = λ b hb. elim (ℕ_discrete b j) [
    | yes z ↦ omega (arith, ap (λ y. get (set Y j v) y) z, own, and_le_l (get Y j) (2 ^ 32 - 1 - 2 ^ i), c.within j hj)
    | no z ↦ omega (arith, get_or-set_other Y j b v 0 z, c.within b hb)
  ];
  serving = λ a b ha hb o. elim (ℕ_discrete b j) [
    | yes z ↦ rw z (rw own (still a ha (rw z at o)))
    | no z ↦ rw (get_or-set_other Y j b v 0 z) (c.serving a b ha hb o)
  ];
})
  where
    v : ℕ
    v = bit_and (get Y j) (2 ^ 32 - 1 - 2 ^ i)

    own : get (set Y j v) j ≡ v
    own = get_or-set_same Y j v 0 (omega (arith, c.long))

    still : (a : ℕ) → a < m → 0 < cells x a j → bit v a ≡ 1
    still a ha o =
        let z : a ≢ i = λ z. absurd (omega (arith, ap (λ y. cells x y j) z)) in
        omega (arith, bit_and_lem (get Y j) (2 ^ 32 - 1 - 2 ^ i) a, c.serving a j ha hj o, take_other i (2 ^ 32 - 1) a (bit_ones 32 i (omega arith)) z, bit_ones 32 a (omega arith))

module _ {m n s j g limit : ℕ} {f x : List ℕ} {t R S₀ W₀ : ℕ} (at : ReachAt m n s j) where
  pub back_start : {P Y : List ℕ} → Covers m n x Y → AtTerminal m n f x s limit t R S₀ W₀ P j → Aiming m n g f x R S₀
      → LookingBack m n j g f x s limit t R S₀ W₀ P Y S₀ W₀ (bit_and (get Y j) S₀)
  back_start {P} {Y} c y w = record {
    fits = omega (arith, and_le_r (get Y j) S₀, y.reaching.fits_s);
    covers = c;
    at = y;
    aiming = w;
    moved = moved_none;
    left = λ a e.
        let b : min (bit (get Y j) a) (bit S₀ a) ≡ 1 = sym (bit_and_lem (get Y j) S₀ a) ∙ e in
        (omega (arith, bit_most S₀ a), bit_place m (get Y j) a (c.within j at.terminal) (omega (arith, bit_most (get Y j) a)));
    done = λ a h e o. omega (arith, bit_and_lem (get Y j) S₀ a, c.serving a j h at.terminal o);
  }

  module _ {P Y : List ℕ} {S W rest : ℕ} (q : LookingBack m n j g f x s limit t R S₀ W₀ P Y S W rest) (p : 0 < rest) where
    abbrev i : ℕ
    i = count_trailing_zeros 32 rest

    both : (bit S i ≡ 1) × (i < m)
    both = q.left i (low_set 32 rest p q.fits)

    pub back_source : count_trailing_zeros 32 rest < m
    back_source = both.1

    pub back_fresh : bit S (count_trailing_zeros 32 rest) ≡ 1
    back_fresh = both.0

    pub back_fewer : bit_and rest (rest - 1) < rest
    back_fewer = omega (arith, and_le_r rest (rest - 1))

    -- what is left still is
    rest_left : (a : ℕ) → bit (bit_and rest (rest - 1)) a ≡ 1 → (a ≢ i) × (bit rest a ≡ 1)
    rest_left a e = elim (ℕ_discrete a i) [
      | yes z ↦ absurd (omega (arith, rest_same 32 rest p q.fits, ap (λ y. bit (bit_and rest (rest - 1)) y) z))
      | no z ↦ (z, sym (rest_other 32 rest a p q.fits z) ∙ e)
    ]

    back_visit : 0 < cells x i j → AtTerminal m n f x s limit t R (S - 2 ^ i) (bit_or W (2 ^ i)) (set P i (32 + j)) j
    back_visit o = visit_source at.sources at.terminals q.at back_source at.terminal back_fresh o

    pub back_found : 0 < cells x (count_trailing_zeros 32 rest) j → cells x (count_trailing_zeros 32 rest) g < cells f (count_trailing_zeros 32 rest) g
        → Through m n s g limit f x (set (set P (count_trailing_zeros 32 rest) (32 + j)) (32 + g) (count_trailing_zeros 32 rest)) t
    back_found o l =
        through (record { sources = at.sources; terminals = at.terminals; source = at.source; terminal = q.aiming.terminal })
        (visit_terminal at.sources at.terminals (back_visit o).reaching back_source q.aiming.terminal (take_own i S back_fresh) q.aiming.fresh l)

    pub back_take : 0 < cells x (count_trailing_zeros 32 rest) j → cells f (count_trailing_zeros 32 rest) g ≤ cells x (count_trailing_zeros 32 rest) g
        → LookingBack m n j g f x s limit t R S₀ W₀ (set P (count_trailing_zeros 32 rest) (32 + j)) Y (S - 2 ^ count_trailing_zeros 32 rest) (bit_or W (2 ^ count_trailing_zeros 32 rest)) (bit_and rest (rest - 1))
    back_take o l = record {
      fits = omega (arith, back_fewer, q.fits);
      covers = q.covers;
      at = back_visit o;
      aiming = record {
        terminal = q.aiming.terminal;
        fresh = q.aiming.fresh;
        full = λ a h e. elim (ℕ_discrete a i) [ yes z ↦ rw z l | no z ↦ q.aiming.full a h (take_gone i S a back_fresh z e) ];
      };
      moved = moved_then q.moved (moved_one i back_fresh);
      left = λ a e. let y = rest_left a e in let u = q.left a y.1 in (take_other i S a back_fresh y.0 ∙ u.0, u.1);
      done = λ a h e y. elim (ℕ_discrete a i) [
        | yes z ↦ rw z (take_own i S back_fresh)
        | no z ↦ take_kept i S a back_fresh (q.done a h (sym (rest_other 32 rest a p q.fits z) ∙ e) y)
      ];
    }

    pub back_skip : {Y' : List ℕ} → cells x (count_trailing_zeros 32 rest) j ≤ 0 → Covers m n x Y'
        → LookingBack m n j g f x s limit t R S₀ W₀ P Y' S W (bit_and rest (rest - 1))
    back_skip o c = record {
      fits = omega (arith, back_fewer, q.fits);
      covers = c;
      at = q.at;
      aiming = q.aiming;
      moved = q.moved;
      left = λ a e. q.left a (rest_left a e).1;
      done = λ a h e y. elim (ℕ_discrete a i) [
        | yes z ↦ absurd (omega (arith, ap (λ y. cells x y j) z))
        | no z ↦ q.done a h (sym (rest_other 32 rest a p q.fits z) ∙ e) y
      ];
    }

  pub back_end : {P Y : List ℕ} {S W rest : ℕ} → LookingBack m n j g f x s limit t R S₀ W₀ P Y S W rest → rest ≤ 0 → Back m j x R S₀ W₀ R S W
  back_end {P} {Y} {S} {W} {rest} q e = record {
    same = refl;
    moved = q.moved;
    closed = λ a h o. q.done a h (none a) o;
  }
    where
      none : (a : ℕ) → bit rest a ≡ 0
      none a = let z : rest ≡ 0 = omega arith in ap (λ y. bit y a) z ∙ bit_none a

-- ---- the terminals that source i has room to send to, bit by bit

-- the terminals left in rest are to be looked at
pub record LookingAhead (m n i g : ℕ) (f x : List ℕ) (s limit S₀ W₀ : ℕ) (P Y : List ℕ) (t R S W rest : ℕ) : Type 0 where
  pub fits : rest < 2 ^ 64
  pub covers : Covers m n x Y
  pub known : Known m n s g x t
  pub reaching : Reaching m n f x s limit t R S W P
  pub aiming : Aiming m n g f x R S
  pub moved : Moved S₀ W₀ S W
  pub shut : Shut m n i f x R S W
  pub left : (b : ℕ) → bit rest b ≡ 1 → (bit R b ≡ 1) × (b < n) × (b ≢ g)
  pub done : (b : ℕ) → b < n → bit rest b ≡ 0 → cells x i b < cells f i b → bit R b ≡ 0

-- the start is reached
root_seen : {m n : ℕ} {f x : List ℕ} {s limit t R S W : ℕ} {P : List ℕ} → s < 32 → Reaching m n f x s limit t R S W P → bit S s ≡ 0
root_seen {s = s} {S = S} h q = elim (ℕ_discrete (bit S s) 0) [
  | yes z ↦ z
  | no z ↦ absurd (omega (arith, q.fresh_s s h (omega (arith, bit_most S s)), q.tree.root_dist))
]

module _ {m n s i g limit : ℕ} {f x : List ℕ} {S₀ W₀ : ℕ} (at : AheadAt m n s i) (seen : bit S₀ i ≡ 0) where
  pub ahead_start : {P Y ways : List ℕ} {t R : ℕ} → Opens m n f ways → Covers m n x Y → Known m n s g x t → Reaching m n f x s limit t R S₀ W₀ P
      → Aiming m n g f x R S₀ → Shut m n i f x R S₀ W₀ → LookingAhead m n i g f x s limit S₀ W₀ P Y t R S₀ W₀ (bit_and (get ways i) (R - 2 ^ g))
  ahead_start {P} {Y} {ways} {t} {R} o c k q w h = record {
    fits = omega (arith, and_le_r (get ways i) (R - 2 ^ g), q.fits_r);
    covers = c;
    known = k;
    reaching = q;
    aiming = w;
    moved = moved_none;
    shut = h;
    left = λ b e.
        let y : min (bit (get ways i) b) (bit (R - 2 ^ g) b) ≡ 1 = sym (bit_and_lem (get ways i) (R - 2 ^ g) b) ∙ e in
        let u = take_less g R b w.fresh (omega (arith, bit_most (R - 2 ^ g) b)) in
        (u.1, bit_place n (get ways i) b (o.within i at.source) (omega (arith, bit_most (get ways i) b)), u.0);
    done = λ b h e l. elim (ℕ_discrete b g) [
      | yes z ↦ absurd (omega (arith, w.full i at.source seen, ap (λ y. cells x i y) z, ap (λ y. cells f i y) z))
      | no z ↦ take_gone g R b w.fresh z (omega (arith, bit_and_lem (get ways i) (R - 2 ^ g) b, o.has i b at.source h (omega arith)))
    ];
  }

  -- terminal j is one of those left
  module _ {P Y : List ℕ} {t R S W rest : ℕ} (j : ℕ) (q : LookingAhead m n i g f x s limit S₀ W₀ P Y t R S W rest) (p : bit rest j ≡ 1) where
    pub ahead_terminal : j < n
    ahead_terminal = (q.left j p).1

    pub ahead_fresh : bit R j ≡ 1
    ahead_fresh = (q.left j p).0

    not_goal : g ≢ j
    not_goal z = (q.left j p).2 (sym z)

    pub ahead_supplied : bit t j ≡ 1
    ahead_supplied = elim (ℕ_discrete (bit t j) 0) [
      | yes z ↦ absurd (omega (arith, (q.reaching.others j (omega (arith, ahead_terminal, at.terminals)) z).0, ahead_fresh))
      | no z ↦ omega (arith, bit_most t j)
    ]

    pub ahead_fewer : rest - 2 ^ j < rest
    ahead_fewer = omega (arith, take_fits j rest p, pow_pos j)

    pub ahead_aim : Aiming m n g f x (R - 2 ^ j) S
    ahead_aim = record {
      terminal = q.aiming.terminal;
      fresh = take_other j R g ahead_fresh not_goal ∙ q.aiming.fresh;
      full = q.aiming.full;
    }

    still_left : {R' : ℕ} → R' ≡ R - 2 ^ j → (b : ℕ) → bit (rest - 2 ^ j) b ≡ 1 → (bit R' b ≡ 1) × (b < n) × (b ≢ g)
    still_left e b h =
        let y = take_less j rest b p h in
        let u = q.left b y.1 in
        (rw e (take_other j R b ahead_fresh y.0 ∙ u.0), u.1, u.2)

    rest_done : {R' : ℕ} → R' ≡ R - 2 ^ j → (b : ℕ) → b < n → bit (rest - 2 ^ j) b ≡ 0 → cells x i b < cells f i b → bit R' b ≡ 0
    rest_done e b hb h l = rw e (elim (ℕ_discrete b j) [
      | yes z ↦ rw z (take_own j R ahead_fresh)
      | no z ↦ take_kept j R b ahead_fresh (q.done b hb (take_gone j rest b p z h) l)
    ])

    -- no source but the start serves it
    module _ (u : (a : ℕ) → a < 32 → a ≢ s → bit (get Y j) a ≡ 0) where
      none : (a : ℕ) → a < m → a ≢ s → cells x a j ≤ 0
      none a ha z = elim (dec_lt 0 (cells x a j)) [
        | yes l ↦ absurd (omega (arith, q.covers.serving a j ha ahead_terminal l, u a (omega (arith, at.sources)) z))
        | no l ↦ omega arith
      ]

      pub ahead_drop : LookingAhead m n i g f x s limit S₀ W₀ P Y (t - 2 ^ j) (R - 2 ^ j) S W (rest - 2 ^ j)
      ahead_drop = record {
        fits = omega (arith, q.fits);
        covers = q.covers;
        known = record {
          supplied = record {
            fits = omega (arith, q.known.supplied.fits);
            has = λ a b ha hb z o. elim (ℕ_discrete b j) [
              | yes y ↦ absurd (omega (arith, none a ha z, ap (λ v. cells x a v) y))
              | no y ↦ take_other j t b ahead_supplied y ∙ q.known.supplied.has a b ha hb z o
            ];
          };
          goal = take_other j t g ahead_supplied not_goal ∙ q.known.goal;
        };
        reaching = record {
          dist = q.reaching.dist;
          hops = q.reaching.hops;
          widths = q.reaching.widths;
          tree = q.reaching.tree;
          fits_r = omega (arith, q.reaching.fits_r);
          fits_s = q.reaching.fits_s;
          fits_w = q.reaching.fits_w;
          fresh_s = q.reaching.fresh_s;
          seen_s = q.reaching.seen_s;
          fresh_t = λ b hb e. q.reaching.fresh_t b hb (take_less j R b ahead_fresh e).1;
          others = λ b hb e. elim (ℕ_discrete b j) [
            | yes z ↦ rw z (take_own j R ahead_fresh, q.reaching.fresh_t j (omega (arith, ahead_terminal, at.terminals)) ahead_fresh)
            | no z ↦ let w = q.reaching.others b hb (take_gone j t b ahead_supplied z e) in (take_kept j R b ahead_fresh w.0, w.1)
          ];
          waits = q.reaching.waits;
        };
        aiming = ahead_aim;
        moved = q.moved;
        shut = record {
          ahead = λ a b ha hb z h es ew. take_kept j R b ahead_fresh (q.shut.ahead a b ha hb z h es ew);
          back = λ a b ha hb h e. elim (ℕ_discrete b j) [
            | yes z ↦ elim (ℕ_discrete a s) [
              | yes y ↦ rw y (root_seen (omega (arith, at.start, at.sources)) q.reaching)
              | no y ↦ absurd (omega (arith, none a ha y, ap (λ v. cells x a v) z))
            ]
            | no z ↦ q.shut.back a b ha hb h (take_gone j R b ahead_fresh z e)
          ];
        };
        left = still_left refl;
        done = rest_done refl;
      }

    -- each source that serves it is reached
    pub ahead_pass : ((a : ℕ) → bit S a ≡ 1 → bit (get Y j) a ≡ 0) → LookingAhead m n i g f x s limit S₀ W₀ P Y t (R - 2 ^ j) S W (rest - 2 ^ j)
    ahead_pass u = record {
      fits = omega (arith, q.fits);
      covers = q.covers;
      known = q.known;
      reaching = record {
        dist = q.reaching.dist;
        hops = q.reaching.hops;
        widths = q.reaching.widths;
        tree = q.reaching.tree;
        fits_r = omega (arith, q.reaching.fits_r);
        fits_s = q.reaching.fits_s;
        fits_w = q.reaching.fits_w;
        fresh_s = q.reaching.fresh_s;
        seen_s = q.reaching.seen_s;
        fresh_t = λ b hb e. q.reaching.fresh_t b hb (take_less j R b ahead_fresh e).1;
        others = λ b hb e. let w = q.reaching.others b hb e in (take_kept j R b ahead_fresh w.0, w.1);
        waits = q.reaching.waits;
      };
      aiming = ahead_aim;
      moved = q.moved;
      shut = record {
        ahead = λ a b ha hb z h es ew. take_kept j R b ahead_fresh (q.shut.ahead a b ha hb z h es ew);
        back = λ a b ha hb h e. elim (ℕ_discrete b j) [
          | yes z ↦ elim (ℕ_discrete (bit S a) 0) [
            | yes y ↦ y
            | no y ↦ absurd (omega (arith, q.covers.serving a j ha ahead_terminal (rw z at h), u a (omega (arith, bit_most S a))))
          ]
          | no z ↦ q.shut.back a b ha hb h (take_gone j R b ahead_fresh z e)
        ];
      };
      left = still_left refl;
      done = rest_done refl;
    }

    module _ (h : cells x i j < cells f i j) where
      pub ahead_visit : AtTerminal m n f x s limit t (R - 2 ^ j) S W (set P (32 + j) i) j
      ahead_visit =
          visit_terminal at.sources at.terminals q.reaching at.source ahead_terminal (q.moved.kept i seen) ahead_fresh h

      pub ahead_take : {P' Y' : List ℕ} {t' R' S' W' : ℕ} → t' ≡ t → Covers m n x Y' → Reaching m n f x s limit t' R' S' W' P' → Aiming m n g f x R' S'
          → Back m j x (R - 2 ^ j) S W R' S' W' → LookingAhead m n i g f x s limit S₀ W₀ P' Y' t' R' S' W' (rest - 2 ^ j)
      ahead_take {P'} {Y'} {t'} {R'} {S'} {W'} e c r y d = record {
        fits = omega (arith, q.fits);
        covers = c;
        known = rw e q.known;
        reaching = r;
        aiming = y;
        moved = moved_then q.moved d.moved;
        shut = record {
          ahead = λ a b ha hb z h es ew. let t = d.moved.new a es ew in rw d.same (take_kept j R b ahead_fresh (q.shut.ahead a b ha hb z h t.0 t.1));
          back = λ a b ha hb h e. elim (ℕ_discrete b j) [
            | yes z ↦ d.closed a ha (rw z at h)
            | no z ↦ d.moved.kept a (q.shut.back a b ha hb h (take_gone j R b ahead_fresh z (rw d.same at e)))
          ];
        };
        left = still_left d.same;
        done = rest_done d.same;
      }

    pub ahead_skip : cells f i j ≤ cells x i j → LookingAhead m n i g f x s limit S₀ W₀ P Y t R S W (rest - 2 ^ j)
    ahead_skip y = record {
      fits = omega (arith, q.fits);
      covers = q.covers;
      known = q.known;
      reaching = q.reaching;
      aiming = q.aiming;
      moved = q.moved;
      shut = q.shut;
      left = λ b e. q.left b (take_less j rest b p e).1;
      done = λ b hb e l. elim (ℕ_discrete b j) [
        | yes z ↦ absurd (omega (arith, ap (λ y. cells x i y) z, ap (λ y. cells f i y) z))
        | no z ↦ q.done b hb (take_gone j rest b p z e) l
      ];
    }

  pub ahead_end : {P Y : List ℕ} {t R S W rest : ℕ} → LookingAhead m n i g f x s limit S₀ W₀ P Y t R S W rest → rest ≤ 0 → Shut m n 32 f x R S W
  ahead_end {P} {Y} {t} {R} {S} {W} {rest} q e = record {
    ahead = λ a b ha hb z h es ew. elim (ℕ_discrete a i) [
      | yes y ↦ q.done b hb (nothing b) (rw y at h)
      | no y ↦ q.shut.ahead a b ha hb y h es ew
    ];
    back = q.shut.back;
  }
    where
      nothing : (b : ℕ) → bit rest b ≡ 0
      nothing b = let z : rest ≡ 0 = omega arith in ap (λ y. bit y b) z ∙ bit_none b

-- ---- the start

module _ {m n i j limit : ℕ} (f x : List ℕ) (at : ReachAt m n i j) (some : 0 < limit) where
  abbrev T₀ : List ℕ
  T₀ = set (replicate 96 far) i 800000000

  hs : i < 96
  hs = omega (arith, at.source, at.sources)

  start_own : get T₀ i ≡ 800000000
  start_own = get_or-set_same (replicate 96 far) i 800000000 0 (omega (arith, hs, length-replicate {A = ℕ} 96 far))

  start_off : (v : ℕ) → v < 96 → v ≢ i → get T₀ v ≡ far
  start_off v h z = get_or-set_other (replicate 96 far) i v 800000000 0 z ∙ get_or-replicate {A = ℕ} 96 v far 0 h

  hops_none : get (replicate 96 0) i ≡ 0
  hops_none = get_or-replicate {A = ℕ} 96 i 0 0 hs

  width_all : get (replicate 96 limit) i ≡ limit
  width_all = get_or-replicate {A = ℕ} 96 i limit 0 hs

  start_label : (P : List ℕ) → Label (net m n [] f x) i (λ w. get T₀ w < far) level (sum 96 (λ w. reached (get T₀ w))) limit (book T₀ P (replicate 96 0) (replicate 96 limit)) i
  start_label P = record {
    source = λ l. at.source;
    terminal = λ l. absurd (omega (arith, at.source, at.sources));
    up = omega (arith, start_own, hops_none, get_or-replicate {A = ℕ} 96 i 800000000 0 hs);
    down = omega (arith, start_own, hops_none, get_or-replicate {A = ℕ} 96 i 800000000 0 hs);
    count = omega (arith, hops_none);
    some = omega (arith, width_all, some);
    most = omega (arith, width_all);
    prev = root refl;
  }

  every_source : (a : ℕ) → a < 32 → bit (2 ^ 32 - 1) a ≡ 1
  every_source = bit_ones 32

  own_source : bit (2 ^ 32 - 1) i ≡ 1
  own_source = every_source i (omega (arith, at.source, at.sources))

  pub reach_start : {P : List ℕ} {R : ℕ} → length P ≡ 96 → R < 2 ^ 64 → Reaching m n f x i limit R R (2 ^ 32 - 1 - 2 ^ i) (2 ^ i) P
  reach_start {P} {R} long fits = record {
    dist = T₀;
    hops = replicate 96 0;
    widths = replicate 96 limit;
    tree = record {
      long = record {
        dists = length-set (replicate 96 far) i 800000000 ∙ length-replicate {A = ℕ} 96 far;
        prevs = long;
        hopss = length-replicate {A = ℕ} 96 0;
        widths = length-replicate {A = ℕ} 96 limit;
      };
      root_dist = start_own;
      root_hops = hops_none;
      root_width = width_all;
      flat = λ v h l. elim (ℕ_discrete v i) [ yes z ↦ rw z start_own | no z ↦ absurd (omega (arith, start_off v h z)) ];
      label = λ v h l. elim (ℕ_discrete v i) [ yes z ↦ rw z (start_label P) | no z ↦ absurd (omega (arith, start_off v h z)) ];
    };
    fits_r = fits;
    fits_s = omega arith;
    fits_w = pow-lt {i = i} {j = 32} (omega (arith, at.source, at.sources));
    fresh_s = λ a h e. let t = take_less i (2 ^ 32 - 1) a own_source e in omega (arith, start_off a (omega arith) t.0);
    seen_s = λ a h e. elim (ℕ_discrete a i) [
      | yes z ↦ omega (arith, ap (λ y. get T₀ y) z, start_own)
      | no z ↦ absurd (omega (arith, take_gone i (2 ^ 32 - 1) a own_source z e, every_source a h))
    ];
    fresh_t = λ a h e. omega (arith, start_off (32 + a) (omega arith) (omega (arith, at.source, at.sources)));
    others = λ a h e. (e, omega (arith, start_off (32 + a) (omega arith) (omega (arith, at.source, at.sources))));
    waits = λ a h e. elim (ℕ_discrete a i) [
      | yes z ↦ rw z (take_own i (2 ^ 32 - 1) own_source)
      | no z ↦ absurd (omega (arith, bit_power i a z))
    ];
  }

  -- only the start is reached
  alone : (a : ℕ) → a < m → bit (2 ^ 32 - 1 - 2 ^ i) a ≡ 0 → a ≡ i
  alone a ha e = elim (ℕ_discrete a i) [
    | yes z ↦ z
    | no z ↦ absurd (omega (arith, take_gone i (2 ^ 32 - 1) a own_source z e, every_source a (omega (arith, at.sources))))
  ]

  pub shut_start : {R : ℕ} → Supplied m n i x R → Shut m n 32 f x R (2 ^ 32 - 1 - 2 ^ i) (2 ^ i)
  shut_start u = record {
    ahead = λ a b ha hb z h es ew. absurd (omega (arith, bit_own i, ap (λ v. bit (2 ^ i) v) (alone a ha es)));
    back = λ a b ha hb h e. elim (ℕ_discrete a i) [
      | yes z ↦ rw z (take_own i (2 ^ 32 - 1) own_source)
      | no z ↦ absurd (omega (arith, u.has a b ha hb z h))
    ];
  }

  pub aim_start : {R : ℕ} → cells f i j ≡ 0 → bit R j ≡ 1 → Aiming m n j f x R (2 ^ 32 - 1 - 2 ^ i)
  aim_start e g = record {
    terminal = at.terminal;
    fresh = g;
    full = λ a ha es. rw (alone a ha es) (omega arith);
  }

-- ---- a source that waits is looked at

module _ {m n i j limit : ℕ} {f x : List ℕ} {t R S W : ℕ} {P : List ℕ} (at : ReachAt m n i j) (q : Reaching m n f x i limit t R S W P) where
  module _ (p : 0 < W) where
    abbrev v : ℕ
    v = count_trailing_zeros 32 W

    waiting : bit W (count_trailing_zeros 32 W) ≡ 1
    waiting = low_set 32 W p q.fits_w

    v_short : v < 32
    v_short = bit_place 32 W v q.fits_w waiting

    pub pass_seen : bit S (count_trailing_zeros 32 W) ≡ 0
    pass_seen = q.waits v v_short waiting

    pub pass_at : AheadAt m n i (count_trailing_zeros 32 W)
    pass_at = record {
      sources = at.sources;
      terminals = at.terminals;
      start = at.source;
      source = (q.tree.label v (omega (arith, v_short)) (q.seen_s v v_short pass_seen)).source v_short;
    }

    pub pass_fewer : bit_and W (W - 1) < W
    pass_fewer = omega (arith, and_le_r W (W - 1))

    pub pass_reaching : Reaching m n f x i limit t R S (bit_and W (W - 1)) P
    pass_reaching = record {
      dist = q.dist;
      hops = q.hops;
      widths = q.widths;
      tree = q.tree;
      fits_r = q.fits_r;
      fits_s = q.fits_s;
      fits_w = omega (arith, pass_fewer, q.fits_w);
      fresh_s = q.fresh_s;
      seen_s = q.seen_s;
      fresh_t = q.fresh_t;
      others = q.others;
      waits = λ a h e. elim (ℕ_discrete a v) [
        | yes z ↦ rw z pass_seen
        | no z ↦ q.waits a h (sym (rest_other 32 W a p q.fits_w z) ∙ e)
      ];
    }

    pub pass_shut : Shut m n 32 f x R S W → Shut m n (count_trailing_zeros 32 W) f x R S (bit_and W (W - 1))
    pass_shut h = record {
      ahead = λ a b ha hb z o es ew. h.ahead a b ha hb (omega (arith, at.sources)) o es (sym (rest_other 32 W a p q.fits_w z) ∙ ew);
      back = h.back;
    }

  -- ---- the end

  pub no_route : Shut m n 32 f x R S W → W ≤ 0 → bit R j ≡ 1 → NoRoute m n i j f x
  no_route h e g = record {
    p = bit S;
    q = bit R;
    start = root_seen (omega (arith, at.source, at.sources)) q;
    goal = g;
    most = bit_most R;
    ahead = λ a b ha hb o. elim (ℕ_discrete (bit S a) 0) [
      | yes z ↦ omega (arith, h.ahead a b ha hb (omega (arith, at.sources)) o z (none a))
      | no z ↦ omega (arith, bit_most R b)
    ];
    back = λ a b ha hb o. elim (ℕ_discrete (bit R b) 0) [
      | yes z ↦ omega (arith, h.back a b ha hb o z)
      | no z ↦ omega (arith, bit_most S a)
    ];
  }
    where
      none : (a : ℕ) → bit W a ≡ 0
      none a = let z : W ≡ 0 = omega arith in ap (λ y. bit y a) z ∙ bit_none a

-- ---- no terminal to begin with

-- source i has no free lane to a terminal that another source may serve, but to terminal j
pub no_start : {m n i j : ℕ} {f x w : List ℕ} {t : ℕ} → m ≤ 32 → i < m → Opens m n f w → Known m n i j x t → cells f i j ≡ 0
    → bit_and (get w i) (t - 2 ^ j) ≡ 0 → NoRoute m n i j f x
no_start {m} {n} {i} {j} {f} {x} {w} {t} hm hi o k e z = record {
  p = bit (2 ^ 32 - 1 - 2 ^ i);
  q = bit t;
  start = take_own i (2 ^ 32 - 1) (bit_ones 32 i (omega arith));
  goal = k.goal;
  most = bit_most t;
  ahead = λ a b ha hb l. elim (ℕ_discrete a i) [
    | yes y ↦ omega (arith, none b hb (rw y at l))
    | no y ↦ omega (arith, bit_most t b, other a (omega arith) y)
  ];
  back = λ a b ha hb l. elim (ℕ_discrete a i) [
    | yes y ↦ rw y (omega (arith, take_own i (2 ^ 32 - 1) (bit_ones 32 i (omega arith))))
    | no y ↦ omega (arith, k.supplied.has a b ha hb y l, bit_most (2 ^ 32 - 1 - 2 ^ i) a)
  ];
}
  where
    other : (a : ℕ) → a < 32 → a ≢ i → bit (2 ^ 32 - 1 - 2 ^ i) a ≡ 1
    other a h y = take_other i (2 ^ 32 - 1) a (bit_ones 32 i (omega arith)) y ∙ bit_ones 32 a h

    none : (b : ℕ) → b < n → cells x i b < cells f i b → bit t b ≡ 0
    none b hb l = elim (ℕ_discrete (bit t b) 0) [
      | yes y ↦ y
      | no y ↦
          let g : b ≢ j = λ v. absurd (omega (arith, ap (λ u. cells f i u) v)) in
          absurd (omega (
            arith,
            o.has i b hi hb (omega arith),
            none_common (get w i) (t - 2 ^ j) b z (omega (arith, take_other j t b k.goal g, bit_most t b)),
          ))
    ]
