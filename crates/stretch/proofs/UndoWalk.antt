-- A part of the drums taken back from a path: the same as if only the others had gone, since the path's lanes are apart. Assumes nothing.
use mathlib.Core.Path.{◌≡◌, refl, sym, ap, subst, ◌∙◌}
use mathlib.Core.List.{List}
use Prim.Native.Nat.{ℕ, zero, suc, ◌+◌, ◌-◌, ◌*◌, ◌≤◌, ◌<◌}
use native.Mathlib.Decide.{dec_lt}
use native.Mathlib.Omega.{arith}
use lib.ListN.{length, set, length-set}
use lib.Seq.{get_or-set_same, get_or-set_other, set-set, set_comm}
use Rattle.residual.specs.inner.Network.{get}
use Rattle.augment.specs.inner.PathWalk.{CarryReady, Carried, Walked}
use Rattle.stretch.specs.inner.PathUndone.{Off, Apart, Link, Lanes, Undoing, Underway}

-- ---- a walk over lanes apart from cell k leaves k alone, and does the same whatever k holds

module _ {v w d k : ℕ} (o : Off v w k) {x y : List ℕ} (c : Carried v w d x y) where
  carried_set : (a : ℕ) → Carried v w d (set x k a) (set y k a)
  carried_set a = record {
    less = λ h.
        let b = v * 64 + (w - 32) in
        rw (get_or-set_other x k b a 0 (o.less h), c.less h) (set_comm x b k (get x b - d) a (o.less h));
    more = λ h.
        let b = w * 64 + (v - 32) in
        rw (get_or-set_other x k b a 0 (o.more h), c.more h) (set_comm x b k (get x b + d) a (o.more h));
  }

  carried_frame : get y k ≡ get x k
  carried_frame = elim (dec_lt v 32) [
    | yes h ↦
        let b = v * 64 + (w - 32) in
        rw (c.less h) (get_or-set_other x b k (get x b - d) 0 (λ e. o.less h (sym e)))
    | no h ↦
        let b = w * 64 + (v - 32) in
        rw (c.more (omega arith)) (get_or-set_other x b k (get x b + d) 0 (λ e. o.more (omega arith) (sym e)))
  ]

module _ (P : List ℕ) (d k : ℕ) where
  walked_set : (h v : ℕ) (x x' : List ℕ) → Apart P h v k → Walked P d h v x x' → (a : ℕ) → Walked P d h v (set x k a) (set x' k a)
  unfolding Apart Walked
  walked_set zero v x x' o w a = ap (λ l. set l k a) w
  walked_set (suc h) v x x' o w a = (set w.0 k a, carried_set o.0 w.1 a, walked_set h (get P v) w.0 x' o.1 w.2 a)

  walked_frame : (h v : ℕ) (x x' : List ℕ) → Apart P h v k → Walked P d h v x x' → get x' k ≡ get x k
  unfolding Apart Walked
  walked_frame zero v x x' o w = ap (λ l. get l k) w
  walked_frame (suc h) v x x' o w = walked_frame h (get P v) w.0 x' o.1 w.2 ∙ carried_frame o.0 w.1

  lanes_set : (h v : ℕ) (x : List ℕ) → Apart P h v k → Lanes P d h v x → (a : ℕ) → Lanes P d h v (set x k a)
  unfolding Apart Lanes
  lanes_set zero v x o l a = tt
  lanes_set (suc h) v x o l a = (
    record {
      node = l.0.node;
      less = λ z.
          let e = get_or-set_other x k (v * 64 + (get P v - 32)) a 0 (o.0.less z) in
          let q = l.0.less z in (q.0, q.1, omega (arith, e, q.2), omega (arith, e, q.3));
      more = l.0.more;
      apart_less = l.0.apart_less;
      apart_more = l.0.apart_more;
    },
    lanes_set h (get P v) x o.1 l.1 a,
  )

-- ---- one arc

-- an arc on cell k, before which h arcs lead to w: the walk put b there
module _ (P : List ℕ) (t d h w k b : ℕ) (y y₁ z : List ℕ) (most : t ≤ d) (long : length y ≡ 2048) (cell : k < 2048) (lanes : Lanes P d h w y)
    (apart : Apart P h w k) (gone : y₁ ≡ set y k b) (walked : Walked P d h w y₁ z) where
  was : get z k ≡ b
  was = walked_frame P d k h w y₁ z apart walked ∙ rw gone (get_or-set_same y k b 0 (omega arith))

  -- and a is put there
  again : (a : ℕ) (z' : List ℕ) → z' ≡ set z k a → Undoing P t h w z'
  again a z' e = record {
    plan = set y k a;
    drums = d;
    most = most;
    long = length-set y k a ∙ long;
    lanes = lanes_set P d k h w y apart lanes a;
    walked = rw e (rw (gone, set-set y k b a) at (walked_set P d k h w y₁ z apart walked a));
  }

-- what an arc asks, and what it leaves
module _ {P : List ℕ} {t h v : ℕ} {z : List ℕ} (u : Undoing P t (suc h) v z) where
  link : Link P u.drums h v u.plan
  unfolding Lanes
  link = u.lanes.0

  beyond : Lanes P u.drums h (get P v) u.plan
  unfolding Lanes
  beyond = u.lanes.1

  gone : (y₁ : List ℕ) × Carried v (get P v) u.drums u.plan y₁ × Walked P u.drums h (get P v) y₁ z
  unfolding Walked
  gone = u.walked

  pub undo_node : (v < 96) × (get P v < 96)
  undo_node = elim (dec_lt v 32) [ yes l ↦ (link.node, (link.less l).1) | no l ↦ (link.node, omega (arith, link.more (omega arith))) ]

  -- a return arc is on cell v * 64 + (w - 32), a lane on w * 64 + (v - 32)
  was_less : v < 32 → get z (v * 64 + (get P v - 32)) ≡ get u.plan (v * 64 + (get P v - 32)) - u.drums
  was_less l =
      was P t u.drums h (get P v) (v * 64 + (get P v - 32)) (get u.plan (v * 64 + (get P v - 32)) - u.drums) u.plan gone.0 z u.most u.long
      (omega (arith, link.less l)) beyond (link.apart_less l) (gone.1.less l) gone.2

  was_more : 32 ≤ v → get z (get P v * 64 + (v - 32)) ≡ get u.plan (get P v * 64 + (v - 32)) + u.drums
  was_more l =
      was P t u.drums h (get P v) (get P v * 64 + (v - 32)) (get u.plan (get P v * 64 + (v - 32)) + u.drums) u.plan gone.0 z u.most u.long
      (omega (arith, link.node, link.more l)) beyond (link.apart_more l) (gone.1.more l) gone.2

  pub undo_ready : CarryReady (get P v) v t z
  undo_ready = record {
    less = λ l. elim (dec_lt v 32) [
      | yes k ↦ absurd (omega (arith, (link.less k).0))
      | no k ↦ (omega arith, link.node, omega (arith, was_more (omega arith), u.most))
    ];
    more = λ l. elim (dec_lt v 32) [
      | yes k ↦ (k, undo_node.1, omega (arith, was_less k, (link.less k).2, (link.less k).3, u.most))
      | no k ↦ absurd (omega (arith, link.more (omega arith)))
    ];
  }

  pub undo_next : (z' : List ℕ) → Carried (get P v) v t z z'
      → (n : Undoing P t h (get P v) z') × (n.drums ≡ u.drums) × Carried v (get P v) (u.drums - t) u.plan n.plan
  unfolding again
  undo_next z' c = elim (dec_lt v 32) [
    | yes l ↦
        let k = v * 64 + (get P v - 32) in
        let e : get z k + t ≡ get u.plan k - (u.drums - t) = omega (arith, was_less l, (link.less l).2, u.most) in (
          again P t u.drums h (get P v) k (get u.plan k - u.drums) u.plan gone.0 z u.most u.long (omega (arith, link.less l)) beyond (link.apart_less l) (gone.1.less l)
              gone.2 (get z k + t) z' (c.more (link.less l).0),
          refl,
          record { less = λ o. ap (λ a. set u.plan k a) e; more = λ o. absurd (omega arith) },
        )
    | no l ↦
        let o : 32 ≤ v = omega arith in
        let k = get P v * 64 + (v - 32) in
        let e : get z k - t ≡ get u.plan k + (u.drums - t) = omega (arith, was_more o, u.most) in (
          again P t u.drums h (get P v) k (get u.plan k + u.drums) u.plan gone.0 z u.most u.long (omega (arith, link.node, link.more o)) beyond (link.apart_more o)
              (gone.1.more o) gone.2 (get z k - t) z' (c.less (link.more o)),
          refl,
          record { less = λ o. absurd (omega arith); more = λ o. ap (λ a. set u.plan k a) e },
        )
  ]

-- ---- the loop

module _ {P : List ℕ} {t count goal : ℕ} {z : List ℕ} where
  pub under_start : (u : Undoing P t count goal z) → Underway P t count goal z u count goal z
  under_start u = record { left = u; same = refl; onward = λ z' w. w }

  module _ {u : Undoing P t count goal z} {h v : ℕ} {z₁ : List ℕ} (q : Underway P t count goal z u h v z₁) where
    pub under_node : 0 < h → (v < 96) × (get P v < 96) × CarryReady (get P v) v t z₁
    under_node l = go h l q.left
      where
        go : (h : ℕ) → 0 < h → Undoing P t h v z₁ → (v < 96) × (get P v < 96) × CarryReady (get P v) v t z₁
        go zero l n = absurd (omega arith)
        go (suc h) l n = ((undo_node n).0, (undo_node n).1, undo_ready n)

    pub under_next : {z₂ : List ℕ} → 0 < h → Carried (get P v) v t z₁ z₂ → Underway P t count goal z u (h - 1) (get P v) z₂
    unfolding Walked
    under_next {z₂} l c = go h l q.left q.same q.onward
      where
        go : (h : ℕ) → 0 < h → (n : Undoing P t h v z₁) → n.drums ≡ u.drums
            → ((z' : List ℕ) → Walked P (u.drums - t) h v n.plan z' → Walked P (u.drums - t) count goal u.plan z')
            → Underway P t count goal z u (h - 1) (get P v) z₂
        go zero l n e f = absurd (omega arith)
        go (suc h) l n e f =
            let k : suc h - 1 ≡ h = omega arith in
            let s = undo_next n z₂ c in
            rw k (record { left = s.0; same = s.1 ∙ e; onward = λ z' w. f z' (s.0.plan, subst (λ (a : ℕ). Carried v (get P v) (a - t) n.plan s.0.plan) e s.2, w) })

    pub under_end : h ≤ 0 → Walked P (u.drums - t) count goal u.plan z₁
    unfolding Walked
    under_end l = go h l q.left q.onward
      where
        go : (h : ℕ) → h ≤ 0 → (n : Undoing P t h v z₁)
            → ((z' : List ℕ) → Walked P (u.drums - t) h v n.plan z' → Walked P (u.drums - t) count goal u.plan z')
            → Walked P (u.drums - t) count goal u.plan z₁
        go zero l n f = f z₁ n.walked
        go (suc h) l n f = absurd (omega arith)
