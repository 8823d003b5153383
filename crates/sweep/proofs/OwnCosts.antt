-- The stretches of a curve at unit costs raised by k are those at the unit costs themselves: from source to source a path has as many lanes as
-- return arcs, so the raise leaves its cost as it is. Assumes nothing.
use Rattle.std.proofs.Common.{◌≡◌, ℕ, zero, suc, ◌+◌, ◌-◌, ◌*◌, ◌<◌, ◌≤◌, min, List, [], ◌∷◌, ℤ, pos, ◌+ℤ◌, ◌-ℤ◌, ◌*ℤ◌, neg_ℤ, nat_abs, ◌≤ℤ◌, sym, refl, ap, ◌∙◌, ap₂, subst₂, arith}
use lib.IntN.{sub_ℕ, +ℤ_assoc, +ℤ_comm}
use Rattle.transport.specs.Sum.{sum}
use Rattle.transport.specs.Plan.{Table, col, total, freight}
use Rattle.transport.proofs.Sums.{sum_ext, sum_swap}
use Rattle.transport.proofs.Differences.{sub_same, sub_pos, sub_add, sub_negate, pos_sub, diff_sub}
use Rattle.problem.specs.Integer.{Above}
use Rattle.problem.specs.Freight.{Rates, freightℤ}
use Rattle.problem.proofs.Integers.{above_zero}
use Rattle.problem.proofs.RaisedFreight.{Raised, freight_above}
use Rattle.residual.specs.inner.Network.{Net}
use Rattle.stretch.specs.inner.ResidualPath.{Arc, from, to, Open, ceiling, PathIn, narrowest}
use Rattle.stretch.specs.inner.ResidualPath.Arc.{lane, return}
use Rattle.sweep.specs.inner.Stretches.{curve_of, CheapestAt, network, cost_along, Stretch, Chain, Stretches}

-- ---- paths and ceilings of equal networks

abbrev lanes_of : ℕ → ℕ → Table → Table → Table → Net
lanes_of m n c u x = record { m = m; n = n; c = c; u = u; x = x }

module _ (m n : ℕ) (c c' u u' x : Table) (eu : (i j : ℕ) → i < m → j < n → u i j ≡ u' i j) where
  pub path_ext : (l : List Arc) (v w : ℕ) → PathIn (lanes_of m n c u x) v l w → PathIn (lanes_of m n c' u' x) v l w
  unfolding PathIn Open from to
  path_ext [] v w h = h
  path_ext (lane i j ∷ l) v w h =
      (h.0, (h.1.0, h.1.1, omega (arith, h.1.2, eu i j h.1.0 h.1.1)), path_ext l (32 + j) w h.2)
  path_ext (return i j ∷ l) v w h = (h.0, (h.1.0, h.1.1, h.1.2), path_ext l i w h.2)

  pub narrowest_ext : (limit : ℕ) (l : List Arc) (v w : ℕ) → PathIn (lanes_of m n c u x) v l w
      → narrowest (lanes_of m n c u x) limit l ≡ narrowest (lanes_of m n c' u' x) limit l
  unfolding PathIn Open from to ceiling narrowest
  narrowest_ext limit [] v w h = refl
  narrowest_ext limit (lane i j ∷ l) v w h =
      ap₂ (λ a b. min a b) (ap (λ z. z - x i j) (eu i j h.1.0 h.1.1)) (narrowest_ext limit l (32 + j) w h.2)
  narrowest_ext limit (return i j ∷ l) v w h = ap (λ b. min (x i j) b) (narrowest_ext limit l i w h.2)

-- ---- the cost of a path

-- the order of three summands
last_two : (a z b : ℤ) → (a +ℤ z) +ℤ b ≡ (a +ℤ b) +ℤ z
last_two a z b = +ℤ_assoc a z b ∙ ap (λ w. a +ℤ w) (+ℤ_comm z b) ∙ sym (+ℤ_assoc a b z)

-- a raised cost
up_again : {k : ℕ} {z : ℤ} {v : ℕ} → Above k z v → z +ℤ pos k ≡ pos v
up_again {k} {z} {v} e =
    ap₂ (λ (a b : ℤ). a +ℤ b) e.is (pos_sub k) ∙ sub_add v k k 0 ∙ sub_pos (v + k) (k + 0) v (omega arith)

back_again : {k : ℕ} {z : ℤ} {v : ℕ} → Above k z v → neg_ℤ z ≡ neg_ℤ (pos v) +ℤ pos k
back_again {k} {z} {v} e =
    ap neg_ℤ e.is ∙ sub_negate v k ∙ sub_same k v (0 + k) (v + 0) (omega arith) ∙ sym (sub_add 0 v k 0)
    ∙ ap₂ (λ (a b : ℤ). a +ℤ b) (sym (ap neg_ℤ (pos_sub v) ∙ sub_negate v 0)) (sym (pos_sub k))

module _ {m n k : ℕ} {c : Table} {rates : Rates} (few : m ≤ 32) (raised : Raised k m n rates c) (u x : Table) where
  abbrev up : Rates
  up i j = pos (c i j)

  -- from a source and from a terminal on, to a source
  both : (l : List Arc) → ((v w : ℕ) → v < 32 → w < 32 → PathIn (network m n u x) v l w → cost_along rates l ≡ cost_along up l)
      × ((v w : ℕ) → 32 ≤ v → w < 32 → PathIn (network m n u x) v l w → cost_along rates l ≡ cost_along up l +ℤ pos k)
  unfolding PathIn Open from to cost_along
  both [] = (λ v w a b h. refl, λ v w a b h. absurd (omega (arith, h)))
  both (lane i j ∷ l) = (
    λ v w a b h.
        ap (λ z. rates i j +ℤ z) ((both l).1 (32 + j) w (omega arith) b h.2 ∙ +ℤ_comm (cost_along up l) (pos k))
        ∙ sym (+ℤ_assoc (rates i j) (pos k) (cost_along up l)) ∙ ap (λ z. z +ℤ cost_along up l) (up_again (raised i j h.1.0 h.1.1)),
    λ v w a b h. absurd (omega (arith, h.0, h.1.0, few)),
  )
  both (return i j ∷ l) = (
    λ v w a b h. absurd (omega (arith, h.0)),
    λ v w a b h.
        ap₂ (λ (y z : ℤ). y +ℤ z) (back_again (raised i j h.1.0 h.1.1)) ((both l).0 i w (omega (arith, h.1.0, few)) b h.2)
        ∙ last_two (neg_ℤ (pos (c i j))) (pos k) (cost_along up l),
  )

  -- from source to source, adding k to every cost leaves the path's cost
  pub cost_stays : (l : List Arc) (v w : ℕ) → v < 32 → w < 32 → PathIn (network m n u x) v l w → cost_along rates l ≡ cost_along up l
  cost_stays l v w = (both l).0 v w

-- ---- the stretches

-- freight at natural costs
pub natural_freight : (m n : ℕ) (c x : Table) → freightℤ m n (λ i j. pos (c i j)) x ≡ pos (freight m n c x)
natural_freight m n c x =
    (freight_above {k = 0} {c = λ i j. pos (c i j)} {c' = c} (λ i j h l. above_zero (c i j)) x).is
    ∙ sub_pos (freight m n c x) (0 * total m n x) (freight m n c x) (omega arith)

module _ {m n k : ℕ} {c : Table} {rates : Rates} (few : m ≤ 32) (raised : Raised k m n rates c) {u u' : Table}
    (eu : (i j : ℕ) → i < m → j < n → u i j ≡ u' i j) {r r' : ℕ → ℕ → ℕ} (er : (y i : ℕ) → i < m → r y i ≡ r' y i) {b b' : ℕ → ℕ}
    (eb : (j : ℕ) → j < n → b j ≡ b' j) {g : ℕ → ℕ} {f : ℕ → ℤ} {lo hi : ℕ}
    (above : (y : ℕ) → lo ≤ y → y ≤ hi → Above (k * sum n b') (f y) (g y)) where
  own_plan : {y : ℕ} {x : Table} → lo ≤ y → y ≤ hi → CheapestAt (curve_of m n (λ i j. pos (c i j)) u r b (λ y. pos (g y)) hi) y x
      → CheapestAt (curve_of m n rates u' r' b' f hi) y x
  unfolding total col
  own_plan {y} {x} a l q = record {
    rows = λ i h. q.rows i h ∙ er y i h;
    columns = met;
    under = λ i j h o. omega (arith, q.under i j h o, eu i j h o);
    worth =
        (freight_above raised x).is
        ∙ ap₂ (λ (v w : ℕ). sub_ℕ v (k * w)) (ap nat_abs (sym (natural_freight m n c x) ∙ q.worth)) (sum_swap m n x ∙ sum_ext n _ b' met)
        ∙ sym (above y a l).is;
  }
    where
      met : (j : ℕ) → j < n → col m x j ≡ b' j
      met j h = q.columns j h ∙ eb j h

  -- a stretch at raised costs is one at the costs themselves
  pub own_stretch : {y : ℕ} {x : Table} {d : ℕ} {x' : Table} → lo ≤ y → Stretch (curve_of m n (λ i j. pos (c i j)) u r b (λ y. pos (g y)) hi) y x d x'
      → Stretch (curve_of m n rates u' r' b' f hi) y x d x'
  own_stretch {y} {x} {d} {x'} a q = record {
    plan = own_plan a (omega (arith, q.within)) q.plan;
    path = q.path;
    arcs = ours;
    cheapest = λ l h.
        subst₂ (λ (v w : ℤ). v ≤ℤ w) (sym cost) (sym (cost_stays few raised u' x l 0 1 (omega arith) (omega arith) h))
        (q.cheapest l (path_ext m n (λ i j. 0) (λ i j. 0) u' u x (λ i j o e. sym (eu i j o e)) l 0 1 h));
    some = q.some;
    drums = q.drums ∙ narrowest_ext m n (λ i j. 0) (λ i j. 0) u u' x eu (hi - y) q.path 0 1 q.arcs;
    within = q.within;
    line = λ t h.
        (above (y + t) (omega arith) (omega (arith, q.within))).is ∙ sym (diff_sub (g (y + t)) (k * sum n b'))
        ∙ ap (λ (z : ℤ). z -ℤ pos (k * sum n b')) (q.line t h)
        ∙ last_two (pos (g y)) (pos t *ℤ cost_along (λ i j. pos (c i j)) q.path) (neg_ℤ (pos (k * sum n b')))
        ∙ ap₂ (λ (v w : ℤ). v +ℤ pos t *ℤ w) (diff_sub (g y) (k * sum n b') ∙ sym (above y a (omega (arith, q.within))).is) (sym cost);
    moves = q.moves;
  }
    where
      ours : PathIn (network m n u' x) 0 q.path 1
      ours = path_ext m n (λ i j. 0) (λ i j. 0) u u' x eu q.path 0 1 q.arcs

      cost : cost_along rates q.path ≡ cost_along (λ i j. pos (c i j)) q.path
      cost = cost_stays few raised u' x q.path 0 1 (omega arith) (omega arith) ours

  chain_from : (x₀ : Table) (s y : ℕ) (x : Table) → Chain (curve_of m n (λ i j. pos (c i j)) u r b (λ y. pos (g y)) hi) s lo x₀ y x → lo ≤ y
  unfolding Chain
  chain_from x₀ zero y x q = omega (arith, q.0)
  chain_from x₀ (suc s) y x q = omega (arith, chain_from x₀ s q.0 q.1 q.3, q.5)

  own_chain : (x₀ : Table) (s y : ℕ) (x : Table) → Chain (curve_of m n (λ i j. pos (c i j)) u r b (λ y. pos (g y)) hi) s lo x₀ y x
      → Chain (curve_of m n rates u' r' b' f hi) s lo x₀ y x
  unfolding Chain
  own_chain x₀ zero y x q = q
  own_chain x₀ (suc s) y x q =
      (q.0, q.1, q.2, own_chain x₀ s q.0 q.1 q.3, own_stretch (chain_from x₀ s q.0 q.1 q.3) q.4, q.5)

  -- so are all, and they lead from the same plan to the same plan
  pub own_stretches : {x₀ x : Table} → Stretches (curve_of m n (λ i j. pos (c i j)) u r b (λ y. pos (g y)) hi) lo x₀ x
      → Stretches (curve_of m n rates u' r' b' f hi) lo x₀ x
  own_stretches {x₀} {x} q = record {
    all = record { count = q.all.count; chain = own_chain x₀ q.all.count hi x q.all.chain };
    end = own_plan (chain_from x₀ q.all.count hi x q.all.chain) (omega arith) q.end;
  }
