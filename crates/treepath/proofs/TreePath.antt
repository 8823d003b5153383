-- The path that a tree has is what a search promises of the path that it finds: the labels are the potentials. Assumes nothing.
use mathlib.Core.Path.{◌≡◌, refl, sym, ap, ◌∙◌}
use mathlib.Core.Logic.{◌≢◌}
use mathlib.Core.List.{List}
use Prim.Native.Nat.{ℕ, zero, suc, min, ◌+◌, ◌*◌, ◌≤◌, ◌<◌}
use native.Mathlib.Decide.{ℕ_discrete}
use native.Mathlib.Omega.{arith}
use lib.ListN.{length}
use Rattle.transport.proofs.Tables.{cells_of, cells_of_length, cells_of_at}
use Rattle.residual.specs.inner.Network.{Net, get, Arc}
use Rattle.residual.specs.inner.Network.Arc.{ahead, back}
use Rattle.residual.specs.inner.Labels.{Book, book, far}
use Rattle.paths.specs.inner.Search.{Sound, Near, Label, Prev, Searched}
use Rattle.paths.specs.inner.Search.Prev.{root, step}
use Rattle.treepath.specs.inner.Follow.{either, carries, Tied, Chain, width, Followed}
use Rattle.treepath.proofs.TreeWalk.{either_yes, either_no, within}

-- ---- the nodes of a list

-- f, but k at w
abbrev put : (ℕ → ℕ) → ℕ → ℕ → ℕ → ℕ
put f w k a = either (ℕ_discrete a w) k (f a)

put_new : (f : ℕ → ℕ) (w k a : ℕ) → a ≡ w → put f w k a ≡ k
put_new f w k a z = either_yes (ℕ_discrete a w) k (f a) z

put_old : (f : ℕ → ℕ) (w k a : ℕ) → a ≢ w → put f w k a ≡ f a
put_old f w k a z = either_no (ℕ_discrete a w) k (f a) z

module _ (N : Net) (p P : List ℕ) where
  -- only one number of arcs leads from plant 1 to a node
  alone : (h k v : ℕ) → Chain N p P h v → Chain N p P k v → h ≡ k
  unfolding Chain
  alone zero zero v a b = refl
  alone zero (suc k) v a b = absurd (b.0 a)
  alone (suc h) zero v a b = absurd (a.0 b)
  alone (suc h) (suc k) v a b = ap suc (alone h k (get P v) a.2 b.2)

  -- the last arc to a
  record Last (h a : ℕ) : Type 0 where
    arcs : ℕ
    one : h ≡ suc arcs
    tied : Tied N p (get P a) a
    rest : Chain N p P arcs (get P a)

  last : (h a : ℕ) → Chain N p P h a → a ≢ 0 → Last h a
  unfolding Chain
  last zero a c z = absurd (z c)
  last (suc h) a c z = record { arcs = h; one = refl; tied = c.1; rest = c.2 }

  along : {h k a b : ℕ} → h ≡ k → a ≡ b → Chain N p P k b → Chain N p P h a
  along e z c = rw (e, z) c

  module _ (s : Sound N p) (two : 1 < N.m) (limit : ℕ) (positive : 0 < limit) where
    record Bounds (h a : ℕ) : Type 0 where
      source : a < 32 → a < N.m
      terminal : 32 ≤ a → a < 32 + N.n
      up : get p a ≤ get p 0 + h * 2000000
      down : get p 0 ≤ get p a + h * 2000000
      some : 0 < width N limit P h a

    arc_cost : {w v b t k : ℕ} → Arc N w v b t k → (t ≤ b + 2000000) × (b ≤ t + 2000000)
    arc_cost {w} {v} (ahead j a c e o f g) = (omega (arith, s.costs w j a c), omega arith)
    arc_cost {w} {v} (back j a c e o f g) = (omega arith, omega (arith, s.costs v j a c))

    arc_goal : {w v b t k : ℕ} → Arc N w v b t k → (v < 32 → v < N.m) × (32 ≤ v → v < 32 + N.n)
    arc_goal (ahead j a c e o f g) = (λ z. absurd (omega arith), λ z. omega arith)
    arc_goal (back j a c e o f g) = (λ z. a, λ z. absurd (omega (arith, s.sources)))

    bounds : (h a : ℕ) → Chain N p P h a → Bounds h a
    unfolding Chain width
    bounds zero a z =
        rw z (record { source = λ l. omega arith; terminal = λ l. absurd (omega arith); up = omega arith; down = omega arith; some = positive })
    bounds (suc h) a q =
        let b = bounds h (get P a) q.2 in
        let c = arc_cost q.1.arc in
        record {
          source = (arc_goal q.1.arc).0;
          terminal = (arc_goal q.1.arc).1;
          up = omega (arith, b.up, c.0);
          down = omega (arith, b.down, c.1);
          some = omega (arith, b.some, q.1.some);
        }

    -- ---- the nodes on the way

    -- node a is one of them: hop a arcs lead to it
    record Mark (T hop : ℕ → ℕ) (h a : ℕ) : Type 0 where
      label : T a ≡ get p a
      most : hop a ≤ h
      chain : Chain N p P (hop a) a
      next : a ≢ 0 → T (get P a) < far

    -- T has the potentials of some of them, at most h arcs from plant 1, and far elsewhere
    record Marks (h : ℕ) (T hop : ℕ → ℕ) : Type 0 where
      low : (a : ℕ) → a < 96 → get p a ≤ T a
      each : (a : ℕ) → a < 96 → T a < far → Mark T hop h a

    under : (a : ℕ) → a < 96 → get p a < far
    under a l = omega (arith, s.high a l)

    blank : Marks 0 (λ a. far) (λ a. 0)
    blank = record { low = λ a l. omega (arith, under a l); each = λ a l o. absurd (omega arith) }

    -- a node more, k arcs from plant 1
    module _ {h k v : ℕ} {T hop : ℕ → ℕ} (farther : h ≤ k) (node : v < 96) (c : Chain N p P k v) (before : v ≢ 0 → T (get P v) < far) (m : Marks h T hop) where
      kept : (b : ℕ) → T b < far → put T v (get p v) b < far
      kept b l = elim (ℕ_discrete b v) [
        | yes z ↦ omega (arith, put_new T v (get p v) b z, under v node)
        | no z ↦ omega (arith, put_old T v (get p v) b z)
      ]

      onward : Marks k (put T v (get p v)) (put hop v k)
      onward = record {
        low = λ a l. elim (ℕ_discrete a v) [
          | yes z ↦ omega (arith, put_new T v (get p v) a z, ap (λ y. get p y) z)
          | no z ↦ omega (arith, put_old T v (get p v) a z, m.low a l)
        ];
        each = λ a l o. elim (ℕ_discrete a v) [
          | yes z ↦
              record {
                label = put_new T v (get p v) a z ∙ ap (λ y. get p y) (sym z);
                most = omega (arith, put_new hop v k a z);
                chain = along (put_new hop v k a z) z c;
                next = λ y. kept (get P a) (omega (arith, ap (λ y. T (get P y)) z, before (λ x. y (z ∙ x))));
              }
          | no z ↦
              let b = m.each a l (omega (arith, put_old T v (get p v) a z)) in
              record {
                label = put_old T v (get p v) a z ∙ b.label;
                most = omega (arith, put_old hop v k a z, b.most);
                chain = along (put_old hop v k a z) refl b.chain;
                next = λ y. kept (get P a) (b.next y);
              }
        ];
      }

    -- all nodes of the h arcs to v
    record Way (h v : ℕ) : Type 0 where
      T : ℕ → ℕ
      hop : ℕ → ℕ
      marks : Marks h T hop
      here : T v ≡ get p v
      root : T 0 ≡ get p 0

    way : (h v : ℕ) → v < 96 → Chain N p P h v → Way h v
    unfolding Chain
    way zero v l c = record {
      T = put (λ a. far) v (get p v);
      hop = put (λ a. 0) v 0;
      marks = onward (omega arith) l c (λ z. absurd (z c)) blank;
      here = put_new (λ a. far) v (get p v) v refl;
      root = put_new (λ a. far) v (get p v) 0 (sym c) ∙ ap (λ y. get p y) c;
    }
    way (suc h) v l c =
        let n = c.1.node in
        let w = way h (get P v) n c.2 in
        record {
          T = put w.T v (get p v);
          hop = put w.hop v (suc h);
          marks = onward (omega arith) l c (λ z. omega (arith, w.here, under (get P v) n)) w.marks;
          here = put_new w.T v (get p v) v refl;
          root = put_old w.T v (get p v) 0 (λ z. c.0 (sym z)) ∙ w.root;
        }

    -- ---- the labels

    module _ {count : ℕ} (few : count ≤ 95) (m : Way count 1) (long : length P ≡ 96) where
      abbrev wide : ℕ → ℕ
      wide a = width N limit P (m.hop a) a

      abbrev dist : List ℕ
      dist = cells_of 96 m.T

      B : Book
      B = book (cells_of 96 m.T) P (cells_of 96 m.hop) (cells_of 96 wide)

      dist_at : (a : ℕ) → a < 96 → get (cells_of 96 m.T) a ≡ m.T a
      dist_at a h = cells_of_at 96 m.T a h

      hop_at : (a : ℕ) → a < 96 → get (cells_of 96 m.hop) a ≡ m.hop a
      hop_at a h = cells_of_at 96 m.hop a h

      wide_at : (a : ℕ) → a < 96 → get (cells_of 96 wide) a ≡ width N limit P (m.hop a) a
      wide_at a h = cells_of_at 96 wide a h

      marked : (a : ℕ) → a < 96 → get dist a < far → Mark m.T m.hop count a
      marked a h l = m.marks.each a h (omega (arith, dist_at a h))

      labelled : (a : ℕ) → a < 96 → m.T a < far → get dist a < far
      labelled a h l = omega (arith, dist_at a h)

      label_at : (a : ℕ) → a < 96 → get dist a < far → get dist a ≡ get p a
      label_at a h l = dist_at a h ∙ (marked a h l).label

      goal : get dist 1 ≡ get p 1
      goal = dist_at 1 (omega arith) ∙ m.here

      near : (a : ℕ) → a < 96 → get dist a < far → Near p dist 1 a
      near a h l = (l, omega (arith, label_at a h l, goal))

      prev : (a : ℕ) → a < 96 → get dist a < far → Dec (a ≡ 0) → Prev N 0 (Near p dist 1) B a
      unfolding B width
      prev a h l (yes z) = root z
      prev a h l (no z) =
          let b = marked a h l in
          let f = last (m.hop a) a b.chain z in
          let n = f.tied.node in
          let o = labelled (get P a) n (b.next z) in
          let e : m.hop (get P a) ≡ f.arcs = alone (m.hop (get P a)) f.arcs (get P a) (marked (get P a) n o).chain f.rest in
          step (carries N (get P a) a) n (near (get P a) n o)
          (rw (label_at a h l, label_at (get P a) n o) f.tied.arc)
          (omega (arith, hop_at a h, hop_at (get P a) n, f.one))
          (wide_at a h ∙ ap (λ y. width N limit P y a) f.one
          ∙ ap (λ y. min y (carries N (get P a) a)) (ap (λ y. width N limit P y (get P a)) (sym e) ∙ sym (wide_at (get P a) n)))

      label : (a : ℕ) → a < 96 → get dist a < far → Label N 0 (Near p dist 1) p 96 limit B a
      unfolding B
      label a h l =
          let b = marked a h l in
          let e = bounds (m.hop a) a b.chain in
          record {
            source = e.source;
            terminal = e.terminal;
            up = omega (arith, e.up, label_at a h l, hop_at a h);
            down = omega (arith, e.down, label_at a h l, hop_at a h);
            count = omega (arith, hop_at a h, b.most);
            some = omega (arith, e.some, wide_at a h);
            most = omega (arith, within N limit P (m.hop a) a, wide_at a h);
            prev = prev a h l (ℕ_discrete a 0);
          }

      low : (a : ℕ) → a < 96 → get p a ≤ get dist a
      low a h = omega (arith, dist_at a h, m.marks.low a h)

      -- no node is nearer than plant 2
      none : (a : ℕ) → a < 96 → get dist a + get p 1 < get dist 1 + get p a → ⊥
      none a h l = omega (arith, low a h, goal)

      root_hop : m.hop 0 ≡ 0
      unfolding Chain
      root_hop = alone (m.hop 0) 0 0 (m.marks.each 0 (omega arith) (omega (arith, m.root, under 0 (omega arith)))).chain refl

      searched : (room : List ℕ) → 0 < get room 1 → Searched N p room 0 limit B 1
      unfolding B width
      searched room some = record {
        long = record { dists = cells_of_length 96 m.T; prevs = long; hopss = cells_of_length 96 m.hop; widths = cells_of_length 96 wide };
        low = low;
        root_dist = dist_at 0 (omega arith) ∙ m.root;
        root_hops = hop_at 0 (omega arith) ∙ root_hop;
        root_width = wide_at 0 (omega arith) ∙ ap (λ y. width N limit P y 0) root_hop;
        bound = omega arith;
        found = λ h. record {
          goal = omega (arith, goal, under 1 (omega arith));
          has_room = some;
          label = label;
          relaxed = λ v w t k a b o c. absurd (none v a o);
          empty = λ v a o. absurd (none v a o);
        };
        stuck = λ e. absurd (omega arith);
      }

-- the labels of a path of so many arcs, along which amount drums can go: its reduced cost is 0
pub record TreeLabels (N : Net) (p room : List ℕ) (limit : ℕ) (P : List ℕ) (count amount : ℕ) : Type 0 where
  pub dist : List ℕ
  pub hops : List ℕ
  pub widths : List ℕ
  pub searched : Searched N p room 0 limit (book dist P hops widths) 1
  pub goal : get dist 1 ≡ get p 1
  pub arcs : count ≡ get hops 1
  pub drums : amount ≡ get widths 1

pub tree_path : {N : Net} {p P : List ℕ} {limit count amount : ℕ} → Sound N p → 1 < N.m → 0 < limit → Followed N p limit P count amount
    → (room : List ℕ) → 0 < get room 1 → TreeLabels N p room limit P count amount
unfolding B
tree_path {N} {p} {P} {limit} {count} {amount} s two positive q room some =
    let m = way N p P s two limit positive count 1 (omega arith) q.chain in
    let b = m.marks.each 1 (omega arith) (omega (arith, m.here, under N p P s two limit positive 1 (omega arith))) in
    let e : m.hop 1 ≡ count = alone N p P (m.hop 1) count 1 b.chain q.chain in
    record {
      dist = cells_of 96 m.T;
      hops = cells_of 96 m.hop;
      widths = cells_of 96 (λ a. width N limit P (m.hop a) a);
      searched = searched N p P s two limit positive q.few m q.long room some;
      goal = goal N p P s two limit positive q.few m q.long;
      arcs = sym (hop_at N p P s two limit positive q.few m q.long 1 (omega arith) ∙ e);
      drums = q.drums ∙ ap (λ y. width N limit P y 1) (sym e) ∙ sym (wide_at N p P s two limit positive q.few m q.long 1 (omega arith));
    }
