-- How a pass over the arcs out of a node goes on by one node. Assumes nothing.
use mathlib.Core.Path.{◌≡◌, refl, ap, ◌∙◌}
use mathlib.Core.Logic.{◌≢◌, ◌⊎◌, inl, inr}
use mathlib.Core.Bool.{Bool, true, false, cond}
use mathlib.Core.List.{List}
use Prim.Native.Nat.{ℕ, ◌+◌, ◌≤◌, ◌<◌}
use native.Mathlib.Decide.{ℕ_discrete, dec_lt}
use native.Mathlib.Omega.{arith}
use lib.ListN.{length, get_or, set, length-set}
use lib.Seq.{get_or-set_same, get_or-set_other, set-get_or}
use Rattle.residual.specs.inner.Network.{Net, get, Arc}
use Rattle.residual.specs.inner.Network.Arc.{ahead, back}
use Rattle.residual.specs.inner.Labels.{far, Wins, Offered, Relabel, Relabelling, Relabelled}
use Rattle.residual.specs.inner.Labels.Offered.{kept, won}
use Rattle.residual.specs.inner.Labels.Relabel.{keeps, takes}
use Rattle.residual.specs.inner.Keys.{shut, Keyed, Lone, RowKey}
use Rattle.residual.proofs.ResidualArc.{arc_same}

pub pass_start : {N : Net} {v b lo hi : ℕ} {T P : List ℕ} → length T ≡ 96 → length P ≡ 96 → hi ≡ lo → Relabelling N v b lo hi T P T P
pass_start lt lp e = record {
  long_dist = lt;
  long_prev = lp;
  each = λ w. keeps refl refl;
  rest = λ w h. refl;
  offers = λ w t k h h' a. absurd (omega arith);
}

module _ {N : Net} {v b lo hi : ℕ} {T P T' P' : List ℕ} where
  -- no arc leads to the nodes from hi up to hi'
  pub pass_skip : {hi' : ℕ} → Relabelling N v b lo hi T P T' P' → hi ≤ hi' → ((w : ℕ) → hi ≤ w → w < hi' → (t k : ℕ) → Arc N v w b t k → ⊥)
      → Relabelling N v b lo hi' T P T' P'
  pass_skip p e no-arc = record {
    long_dist = p.long_dist;
    long_prev = p.long_prev;
    each = p.each;
    rest = λ w h. p.rest w (omega arith);
    offers = λ w t k h h' a. elim (dec_lt w hi) [
      | yes z ↦ p.offers w t k h z a
      | no z ↦ absurd (no-arc w (omega arith) h' t k a)
    ];
  }

  pub pass_open : {hi' t k f : ℕ} {take : Bool} {T'' P'' : List ℕ} → Relabelling N v b lo hi T P T' P' → hi' ≡ hi + 1 → N.m ≤ 32 → hi < 96
      → (take ≡ true → Arc N v hi b t k × (t < get T' hi))
      → (take ≡ false → (t' k' : ℕ) → Arc N v hi b t' k' → get T' hi ≤ t')
      → {K K' : List ℕ} → Offered take hi t v f T' T'' P' P'' K K' → Relabelling N v b lo hi' T P T'' P''
  pass_open p e s big won? left? (kept h qt qp qk) = rw (qt, qp) (record {
    long_dist = p.long_dist;
    long_prev = p.long_prev;
    each = p.each;
    rest = λ w h. p.rest w (omega arith);
    offers = λ w t' k' o o' a. elim (ℕ_discrete w hi) [
      | yes z ↦ rw z (left? h t' k' (rw z at a))
      | no z ↦ p.offers w t' k' o (omega arith) a
    ];
  })
  pass_open {t = t} {k = k} p e s big won? left? (won h qt qp qk) = rw (qt, qp) (record {
    long_dist = length-set T' hi t ∙ p.long_dist;
    long_prev = length-set P' hi v ∙ p.long_prev;
    each = each;
    rest = λ w h. get_or-set_other T' hi w t 0 (omega arith) ∙ p.rest w (omega arith);
    offers = λ w t' k' o o' a. elim (ℕ_discrete w hi) [
      | yes z ↦ rw z (omega (arith, same T' t p.long_dist, arc_same N s v hi b t k t' k' arc (rw z at a)))
      | no z ↦ omega (arith, p.offers w t' k' o (omega arith) a, off T' w t z)
    ];
  })
    where
      arc : Arc N v hi b t k
      arc = (won? h).0

      off : (l : List ℕ) (w a : ℕ) → w ≢ hi → get_or (set l hi a) w 0 ≡ get_or l w 0
      off l w a z = get_or-set_other l hi w a 0 z

      same : (l : List ℕ) (a : ℕ) → length l ≡ 96 → get_or (set l hi a) hi 0 ≡ a
      same l a z = get_or-set_same l hi a 0 (omega arith)

      other : (w : ℕ) → w ≢ hi → Relabel N v b T P T' P' w → Relabel N v b T P (set T' hi t) (set P' hi v) w
      other w z (keeps e₁ e₂) = keeps (off T' w t z ∙ e₁) (off P' w v z ∙ e₂)
      other w z (takes t' k' a o e₁ e₂) = takes t' k' a o (off T' w t z ∙ e₁) (off P' w v z ∙ e₂)

      here : Relabel N v b T P (set T' hi t) (set P' hi v) hi
      here = takes t k arc (omega (arith, (won? h).1, p.rest hi (omega arith))) (same T' t p.long_dist) (same P' v p.long_prev)

      each : (w : ℕ) → Relabel N v b T P (set T' hi t) (set P' hi v) w
      each w = elim (ℕ_discrete w hi) [ yes z ↦ rw z here | no z ↦ other w z (p.each w) ]

-- all arcs out of a source lead to terminals
pub pass_row : {N : Net} {v b hi : ℕ} {T P T' P' : List ℕ} → Relabelling N v b 32 hi T P T' P' → v < N.m → N.m ≤ 32 → 32 + N.n ≤ hi
    → Relabelled N v b T P T' P'
pass_row {N} {v} {b} {T' = T'} p hv s z = record { long_dist = p.long_dist; long_prev = p.long_prev; each = p.each; offers = offers }
  where
    offers : (w t k : ℕ) → Arc N v w b t k → get T' w ≤ t
    offers w t k (ahead j a e f g h i) = p.offers w t k (omega arith) (omega arith) (ahead j a e f g h i)
    offers w t k (back j a e f g h i) = absurd (omega arith)

-- and out of a terminal to sources
pub pass_column : {N : Net} {v b hi : ℕ} {T P T' P' : List ℕ} → Relabelling N v b 0 hi T P T' P' → 32 ≤ v → N.m ≤ 32 → N.m ≤ hi
    → Relabelled N v b T P T' P'
pass_column {N} {v} {b} {T' = T'} p hv s z = record { long_dist = p.long_dist; long_prev = p.long_prev; each = p.each; offers = offers }
  where
    offers : (w t k : ℕ) → Arc N v w b t k → get T' w ≤ t
    offers w t k (ahead j a e f g h i) = absurd (omega arith)
    offers w t k (back j a e f g h i) = p.offers w t k (omega arith) (omega arith) (back j a e f g h i)

-- each cell is stored anew, as it was where the offer is left
pub offer_made : (take : Bool) (w t from f : ℕ) (T P K : List ℕ) {r₁ r₂ r₃ : ℕ} → r₁ ≡ cond take t (get T w) → r₂ ≡ cond take from (get P w)
    → r₃ ≡ cond take f (get K w) → Offered take w t from f T (set T w r₁) P (set P w r₂) K (set K w r₃)
offer_made true w t from f T P K e₁ e₂ e₃ = won refl (rw e₁ refl) (rw e₂ refl) (rw e₃ refl)
offer_made false w t from f T P K e₁ e₂ e₃ = kept refl (same T e₁) (same P e₂) (same K e₃)
  where
    same : (l : List ℕ) {r : ℕ} → r ≡ get l w → set l w r ≡ l
    same l e = ap (λ z. set l w z) e ∙ set-get_or l w 0

pub offer_long : {take : Bool} {w t from f : ℕ} {T T' P P' K K' : List ℕ} → Offered take w t from f T T' P P' K K' → length T ≡ 96 → length T' ≡ 96
offer_long (kept h qt qp qk) e = rw qt e
offer_long {w = w} {t} {T = T} (won h qt qp qk) e = rw qt (length-set T w t ∙ e)

-- the label that stands after an offer can have a key
pub pick_low : {take : Bool} {t old x u p r : ℕ} → Wins t old x u take → (x < u → p ≤ t) → p ≤ old → old ≤ far → r ≡ cond take t old → (p ≤ r) × (r ≤ far)
pick_low {take = true} w a b c e = (omega (arith, a (w.taken refl).1), omega (arith, (w.taken refl).0))
pick_low {take = false} w a b c e = (omega arith, omega arith)

-- a label that is not taken is no smaller than the old one, or the lane is at its ceiling
pub row_left : (N : Net) (j : ℕ) {v b t old t' k' : ℕ} {take : Bool} → Wins t old (N.x v j) (N.u v j) take → t ≡ b + N.c v j → N.m ≤ 32 → v < N.m
    → take ≡ false → Arc N v (32 + j) b t' k' → old ≤ t'
row_left N j {v} {b} w e s hv h (ahead i a o f g p q) =
    let z : i ≡ j = omega arith in omega (arith, w.left h (omega (arith, ap (λ j. N.x v j) z, ap (λ j. N.u v j) z)), ap (λ j. N.c v j) z)
row_left N j w e s hv h (back i a o f g p q) = absurd (omega arith)

-- the same of a lane in use backwards
pub column_left : (N : Net) (j : ℕ) {v i b t old t' k' : ℕ} {take : Bool} → Wins t old 0 (N.x i j) take → t + N.c i j ≡ b → N.m ≤ 32 → v ≡ 32 + j
    → 0 < N.x i j → take ≡ false → Arc N v i b t' k' → old ≤ t'
column_left N j w e s ev o h (ahead l a z f g p q) = absurd (omega arith)
column_left N j {i = i} w e s ev o h (back l a z f g p q) =
    let y : l ≡ j = omega arith in omega (arith, w.left h o, ap (λ j. N.c i j) y)

-- the key of an offer that is taken
pub row_made : {N : Net} {want : List ℕ} {v w j t old p r f : ℕ} {take : Bool} → Wins t old (N.x v j) (N.u v j) take → r ≡ cond take t old
    → RowKey (N.x v j) (get want w) r p f → v < N.m → j < N.n → w ≡ 32 + j → take ≡ true → Keyed t p f ⊎ ((f ≡ shut) × Lone N want v w)
row_made {N} {want} {v} {w} {j} {t} {old} {p} {r} {f} {take} wins e k hv hj ew h = elim (ℕ_discrete (N.x v j) (get want w)) [
  | yes z ↦ inr (k.alone z, record { j = j; source = hv; terminal = hj; node = ew; free = (wins.taken h).1; all = z })
  | no z ↦ inl (omega (arith, (k.apart z).0, same), omega (arith, (k.apart z).1, same))
]
  where
    same : r ≡ t
    same = e ∙ ap (λ b. cond b t old) h
