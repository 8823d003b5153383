-- The cut's loops, pass by pass. Assumes nothing.
use mathlib.Core.Path.{◌≡◌, refl, ap, subst, ◌∙◌}
use mathlib.Core.Bool.{Bool, false}
use mathlib.Core.List.{List}
use Prim.Native.Nat.{ℕ, ◌+◌, ◌-◌, ◌*◌, ◌^◌, ◌≤◌, ◌<◌}
use native.Mathlib.Decide.{ℕ_discrete, dec_lt}
use native.Mathlib.Omega.{arith}
use lib.ListN.{length, set, length-set, replicate, length-replicate, get_or-replicate, get_or-eq_default}
use lib.Seq.{get_or-set_same, get_or-set_other}
use lib.Bits.{bit_or, bit_and, and_le_l, and_le_r}
use lib.Pow.{pow_mono}
use lib.Count.{count_trailing_zeros}
use Rattle.residual.specs.inner.Cells.{cells}
use Rattle.residual.specs.inner.Network.{get}
use Rattle.residual.specs.inner.Bits.{bit}
use Rattle.residual.proofs.Bits.{bit_or_lem, or_above, bit_most, bit_none, bit_place, low_set, rest_same, rest_other}
use Rattle.cuts.specs.inner.Cut.{has, share, Others, ChangeReady, Changed, Shut, Gathered, Folded, Weighed, Lows, Counted, LowTo}
use Rattle.cuts.specs.inner.Cut.{Low, Top, Bottom, LiftReady, Rose, Lifted, Nearer, OutTo, ExitTo}
use Rattle.cuts.proofs.PartBits.{apart, bit_and_lem, rest_done, own_low, own_next}
use Rattle.cuts.proofs.CutSlack.{share_in, share_out, share_most}

-- ---- the rise and the fall

pub change_start : {part first up down : ℕ} {p : List ℕ} → length p ≡ 96 → Changed part first up down p part p
change_start {part} {first} {up} {down} {p} e = record {
  long = e;
  own = λ k. omega arith;
  each = λ k. omega (arith, share_out up (has part k - bit part k) (omega arith), share_out down (has part k - bit part k) (omega arith));
  below = λ v h. refl;
}

module _ {part first up down : ℕ} {p p' : List ℕ} {r : ℕ} (q : Changed part first up down p r p') (o : 0 < r) (h : r < 2 ^ 64) where
  -- the node that the lowest bit stands for
  v : ℕ
  v = first + count_trailing_zeros 64 r

  pub change_in : has part (count_trailing_zeros 64 r) ≡ 1
  change_in = own_low 64 part q.own o h

  pub change_old : get p' (first + count_trailing_zeros 64 r) ≡ get p (first + count_trailing_zeros 64 r)
  change_old =
      let z : has part (count_trailing_zeros 64 r) - bit r (count_trailing_zeros 64 r) ≡ 0 = omega (arith, change_in, low_set 64 r o h) in
      omega (arith, q.each (count_trailing_zeros 64 r), share_out up _ z, share_out down _ z)

  pub change_next : (a : ℕ) → first + count_trailing_zeros 64 r < 96 → a + down ≡ get p' (first + count_trailing_zeros 64 r) + up
      → Changed part first up down p (bit_and r (r - 1)) (set p' (first + count_trailing_zeros 64 r) a)
  unfolding v
  change_next a l e = record {
    long = length-set p' v a ∙ q.long;
    own = own_next 64 part q.own o h;
    each = λ k. elim (ℕ_discrete k (count_trailing_zeros 64 r)) [
      | yes z ↦
          let y : has part (count_trailing_zeros 64 r) - bit (bit_and r (r - 1)) (count_trailing_zeros 64 r) ≡ 1 = omega (arith, change_in, rest_same 64 r o h) in
          rw z (omega (arith, get_or-set_same p' v a 0 (omega (arith, q.long)), change_old, share_in up _ y, share_in down _ y))
      | no z ↦
          omega (
            arith,
            get_or-set_other p' v (first + k) a 0 (omega arith),
            q.each k,
            ap (λ (y : ℕ). share up (has part k - y)) (rest_other 64 r k o h z),
            ap (λ (y : ℕ). share down (has part k - y)) (rest_other 64 r k o h z),
          )
    ];
    below = λ u b. get_or-set_other p' v u a 0 (omega arith) ∙ q.below u b;
  }

pub change_end : {part first up down : ℕ} {p p' : List ℕ} {r : ℕ} → Changed part first up down p r p' → r ≤ 0 → Changed part first up down p 0 p'
change_end {part} {first} {up} {down} {p} {p'} {r} q h = let z : r ≡ 0 = omega arith in subst (λ (y : ℕ). Changed part first up down p y p') z q

-- what has changed where nothing is left
changed : {part first up down : ℕ} {p p' : List ℕ} → Changed part first up down p 0 p' → (k : ℕ)
    → get p' (first + k) + share down (has part k) ≡ get p (first + k) + share up (has part k)
changed {part} {first} {up} {down} {p} {p'} q k =
    let z : has part k - bit 0 k ≡ has part k = omega (arith, bit_none k) in
    omega (arith, q.each k, ap (λ (y : ℕ). share up y) z, ap (λ (y : ℕ). share down y) z)

none_above : (n r k : ℕ) → r < 2 ^ n → n ≤ k → bit r k ≡ 0
none_above n r k h l = elim (ℕ_discrete (bit r k) 1) [ yes z ↦ absurd (omega (arith, bit_place n r k h z)) | no z ↦ omega (arith, bit_most r k) ]

share_none : (b : ℕ) → share 0 b ≡ 0
share_none b = omega (arith, share_most 0 b)

-- the sources changed, then the terminals
module _ {rows up down : ℕ} {p p₁ : List ℕ} (fit : rows < 2 ^ 32) (a : Changed rows 0 up down p 0 p₁) where
  sources : (v : ℕ) → get p₁ v + share down (has rows v) ≡ get p v + share up (has rows v)
  sources v = let z : 0 + v ≡ v = omega arith in rw z at (changed a v)

  pub terminals : (v : ℕ) → 32 ≤ v → get p₁ v ≡ get p v
  terminals v l = let z = none_above 32 rows v fit l in omega (arith, sources v, share_out up _ z, share_out down _ z)

  module _ {cols : ℕ} {p' : List ℕ} (b : Changed cols 32 up down p₁ 0 p') where
    source_changed : (i : ℕ) → i < 32 → get p' i + share down (has rows i) ≡ get p i + share up (has rows i)
    source_changed i h = omega (arith, b.below i h, sources i)

    terminal_changed : (j : ℕ) → get p' (32 + j) + share down (has cols j) ≡ get p (32 + j) + share up (has cols j)
    terminal_changed j = omega (arith, changed b j, terminals (32 + j) (omega arith))

    -- no node changed by more
    between : (v : ℕ) → v < 96 → (get p v ≤ get p' v + down) × (get p' v ≤ get p v + up)
    between v l = elim (dec_lt v 32) [
      | yes o ↦ (omega (arith, source_changed v o, share_most down (has rows v)), omega (arith, source_changed v o, share_most up (has rows v)))
      | no o ↦
          let z : 32 + (v - 32) ≡ v = omega arith in
          let e : get p' v + share down (has cols (v - 32)) ≡ get p v + share up (has cols (v - 32)) = rw z at (terminal_changed (v - 32)) in
          (omega (arith, e, share_most down (has cols (v - 32))), omega (arith, e, share_most up (has cols (v - 32))))
    ]

pub rise_room : {rows d most : ℕ} {p : List ℕ} → rows < 2 ^ 32 → length p ≡ 96 → Top p 96 most → most + d ≤ 800000000 → ChangeReady rows 0 d 0 p
rise_room {rows} fit long t h = record {
  within = λ k e. omega (arith, bit_place 32 rows k fit e);
  long = long;
  top = λ v l. omega (arith, t.each v l);
  low = λ k e. omega arith;
}

module _ {rows d most : ℕ} {p p₁ : List ℕ} (fit : rows < 2 ^ 32) (t : Top p 96 most) (h : most + d ≤ 800000000) (a : Changed rows 0 d 0 p 0 p₁) where
  pub rise_room_2 : {cols : ℕ} → cols < 2 ^ 64 → ChangeReady cols 32 d 0 p₁
  rise_room_2 {cols} fits = record {
    within = λ k e. omega (arith, bit_place 64 cols k fits e);
    long = a.long;
    top = λ v l. omega (arith, sources fit a v, share_most d (has rows v), t.each v l);
    low = λ k e. omega arith;
  }

  -- both rises together
  pub rose : {cols : ℕ} {p' : List ℕ} → Changed cols 32 d 0 p₁ 0 p' → Rose 32 64 rows cols d 0 p p'
  rose {cols} {p'} b = record {
    long = b.long;
    source = λ i l. omega (arith, source_changed fit a b i l, share_none (has rows i));
    terminal = λ j l. omega (arith, terminal_changed fit a b j, share_none (has cols j));
    floor = λ v l. omega (arith, between fit a b v l);
    high = λ v l. omega (arith, between fit a b v l, t.each v l);
  }

-- a node falls where the part does not have it
share_rest : (d b c : ℕ) → b ≤ 1 → (b ≡ 0 → c ≡ 1) → (b ≡ 1 → c ≡ 0) → share d b + share d c ≡ d
share_rest d b c h f g = elim (ℕ_discrete b 0) [
  | yes z ↦ omega (arith, share_out d b z, share_in d c (f z))
  | no z ↦ let e : b ≡ 1 = omega arith in omega (arith, share_in d b e, share_out d c (g e))
]

module _ {m n rows cols least s t : ℕ} {p : List ℕ} (d : ℕ) (r : LiftReady m n p) (low : Bottom p 96 least) (h : d + 416000000 ≤ least)
    (os : Others m rows s) (ot : Others n cols t) where
  fits : s < 2 ^ 32
  fits = omega (arith, os.within, pow_mono r.sources)

  pub fall_room : ChangeReady s 0 0 d p
  fall_room = record {
    within = λ k e. omega (arith, bit_place 32 s k fits e);
    long = r.long;
    top = λ v l. omega (arith, r.high v l);
    low = λ k e. let z : 0 + k ≡ k = omega arith in rw z (omega (arith, low.each k (omega (arith, bit_place 32 s k fits e))));
  }

  module _ {p₁ : List ℕ} (a : Changed s 0 0 d p 0 p₁) where
    pub fall_room_2 : ChangeReady t 32 0 d p₁
    fall_room_2 = record {
      within = λ k e. omega (arith, place k e);
      long = a.long;
      top = λ v l. omega (arith, sources fits a v, share_none (has s v), r.high v l);
      low = λ k e. omega (arith, terminals fits a (32 + k) (omega arith), low.each (32 + k) (omega (arith, place k e)));
    }
      where
        place : (k : ℕ) → has t k ≡ 1 → k < 64
        place k e = omega (arith, bit_place n t k ot.within e, r.terminals)

    -- both falls together: against the rest the part has risen
    pub fell : {p' : List ℕ} → Changed t 32 0 d p₁ 0 p' → Rose m n rows cols d d p p'
    fell {p'} b = record {
      long = b.long;
      source = λ i l.
          omega (
            arith,
            source_changed fits a b i (omega (arith, r.sources)),
            share_none (has s i),
            share_rest d (has rows i) (has s i) (bit_most rows i) (os.out i l) (os.only i),
          );
      terminal = λ j l.
          omega (arith, terminal_changed fits a b j, share_none (has t j), share_rest d (has cols j) (has t j) (bit_most cols j) (ot.out j l) (ot.only j));
      floor = λ v l. omega (arith, between fits a b v l, low.each v l);
      high = λ v l. omega (arith, between fits a b v l, r.high v l);
    }

-- what holds of all sources and terminals holds of those below m and n
pub lifted_fewer : {m n rows cols d : ℕ} {p p' : List ℕ} {r : Bool} → m ≤ 32 → n ≤ 64 → Lifted 32 64 rows cols d p p' r → Lifted m n rows cols d p p' r
lifted_fewer a b l = record {
  rose = λ z. let q = l.rose z in (
    q.0,
    record {
      long = q.1.long;
      source = λ i h. q.1.source i (omega arith);
      terminal = λ j h. q.1.terminal j (omega arith);
      floor = q.1.floor;
      high = q.1.high;
    },
  );
  same = l.same;
}

-- after a fall that was not made
pub lifted_after : {m n rows cols d : ℕ} {p p₁ p' : List ℕ} {s r : Bool} → m ≤ 32 → n ≤ 64 → Lifted m n rows cols d p p₁ s → s ≡ false
    → Lifted 32 64 rows cols d p₁ p' r → Lifted m n rows cols d p p' r
lifted_after {m} {n} {rows} {cols} {d} {p' = p'} {r = r} a b f z l = subst (λ (q : List ℕ). Lifted m n rows cols d q p' r) (f.same z) (lifted_fewer a b l)

-- ---- the check that no lane in use leaves

pub gather_start : {n cols : ℕ} {serves : List ℕ} {r : ℕ} → Others n cols r → Gathered n cols serves r 0
gather_start {r = r} o = record { each = λ i j h e z l. absurd (omega (arith, o.out j h e)) }

pub gather_next : {n cols : ℕ} {serves : List ℕ} {r out : ℕ} → Gathered n cols serves r out → 0 < r → r < 2 ^ 64
    → Gathered n cols serves (bit_and r (r - 1)) (bit_or out (get serves (count_trailing_zeros 64 r)))
gather_next {serves = serves} {r} {out} q p h = record {
  each = λ i j l e z o. let w = get serves (count_trailing_zeros 64 r) in elim (ℕ_discrete j (count_trailing_zeros 64 r)) [
    | yes y ↦ omega (arith, bit_or_lem out w i, bit_most out i, ap (λ k. bit (get serves k) i) y)
    | no y ↦ omega (arith, bit_or_lem out w i, bit_most w i, q.each i j l e (rest_done 64 p h j z y) o)
  ];
}

pub gather_end : {n rows cols : ℕ} {serves : List ℕ} {r out : ℕ} → Gathered n cols serves r out → r ≤ 0 → bit_and out rows ≡ 0 → Shut n rows cols serves
gather_end {rows = rows} {r = r} {out = out} q h e = record {
  each = λ i j l z o.
      let y : r ≡ 0 = omega arith in
      apart out rows i e (q.each i j l z (ap (λ k. bit k j) y ∙ bit_none j) o);
}

-- ---- the least over the cut

pub fold_start : {k base : ℕ} {table acc : List ℕ} → length acc ≡ 32 → Folded k base table acc 0 acc
fold_start e = record { long = e; low = λ i h. absurd (omega arith); less = λ i. omega arith }

pub fold_next : {k base : ℕ} {table acc acc' : List ℕ} {c a : ℕ} → Folded k base table acc c acc' → c < 32 → a ≤ get table (k + c) + base → a ≤ get acc' c
    → Folded k base table acc (c + 1) (set acc' c a)
fold_next {acc' = acc'} {c} {a} q h e f = record {
  long = length-set acc' c a ∙ q.long;
  low = λ i l. elim (ℕ_discrete i c) [
    | yes z ↦ rw z (omega (arith, get_or-set_same acc' c a 0 (omega (arith, q.long))))
    | no z ↦ omega (arith, get_or-set_other acc' c i a 0 z, q.low i (omega arith))
  ];
  less = λ i. elim (ℕ_discrete i c) [
    | yes z ↦ rw z (omega (arith, get_or-set_same acc' c a 0 (omega (arith, q.long)), q.less c))
    | no z ↦ omega (arith, get_or-set_other acc' c i a 0 z, q.less i)
  ];
}

pub weigh_start : {p : List ℕ} → length p ≡ 96 → Weighed p 32 p
weigh_start e = record { long = e; source = λ v h. refl; terminal = λ v l h. absurd (omega arith) }

pub weigh_next : {p w : List ℕ} {k a : ℕ} → Weighed p k w → 32 ≤ k → k < 96 → get p k ≤ 800000000 → a ≡ 800000000 - get p k → Weighed p (k + 1) (set w k a)
weigh_next {p} {w} {k} {a} q l h most e = record {
  long = length-set w k a ∙ q.long;
  source = λ v o. get_or-set_other w k v a 0 (omega arith) ∙ q.source v o;
  terminal = λ v o u. elim (ℕ_discrete v k) [
    | yes z ↦ rw z (omega (arith, get_or-set_same w k a 0 (omega (arith, q.long))))
    | no z ↦ omega (arith, get_or-set_other w k v a 0 z, q.terminal v o (omega arith))
  ];
}

pub weigh_most : {p w : List ℕ} → Weighed p 96 w → ((v : ℕ) → v < 96 → get p v ≤ 800000000) → (v : ℕ) → v < 96 → get w v ≤ 800000000
weigh_most q high v h = elim (dec_lt v 32) [ yes l ↦ omega (arith, q.source v l, high v h) | no l ↦ omega (arith, q.terminal v (omega arith) h) ]

pub lows_start : {part at stride first : ℕ} {table w : List ℕ} → Lows part at stride first table w part (replicate 32 1000000000)
lows_start = record {
  long = length-replicate {A = ℕ} 32 1000000000;
  most = λ i. elim (dec_lt i 32) [
    | yes h ↦ omega (arith, get_or-replicate {A = ℕ} 32 i 1000000000 0 h)
    | no h ↦ omega (arith, get_or-eq_default {A = ℕ} (replicate 32 1000000000) 0 {n = i} (omega (arith, length-replicate {A = ℕ} 32 1000000000)))
  ];
  own = λ b. omega arith;
  low = λ b i e z. absurd (omega arith);
}

pub lows_next : {part at stride first : ℕ} {table w acc acc' : List ℕ} {r : ℕ} → Lows part at stride first table w r acc → 0 < r → r < 2 ^ 64
    → Folded (count_trailing_zeros 64 r * stride + first) (get w (at + count_trailing_zeros 64 r)) table acc 32 acc'
    → Lows part at stride first table w (bit_and r (r - 1)) acc'
lows_next {part} {r = r} q o h f = record {
  long = f.long;
  most = λ i. omega (arith, f.less i, q.most i);
  own = own_next 64 part q.own o h;
  low = λ b i e z l. elim (ℕ_discrete b (count_trailing_zeros 64 r)) [
    | yes y ↦ rw y (f.low i l)
    | no y ↦ omega (arith, f.less i, q.low b i e (rest_done 64 o h b z y) l)
  ];
}

pub lows_end : {part at stride first : ℕ} {table w acc : List ℕ} {r : ℕ} → Lows part at stride first table w r acc → r ≤ 0
    → Lows part at stride first table w 0 acc
lows_end {part} {at} {stride} {first} {table} {w} {acc} {r} q h =
    let z : r ≡ 0 = omega arith in subst (λ (y : ℕ). Lows part at stride first table w y acc) z q

pub low_start : {part at : ℕ} {low w : List ℕ} → LowTo part at low w 0 2000000000
low_start = record { most = omega arith; each = λ b h. absurd (omega arith) }

pub low_next : {part at k key key' a : ℕ} {low w : List ℕ} → LowTo part at low w k key → Counted part k (get low k + get w (at + k)) a → key' ≤ a → key' ≤ key
    → LowTo part at low w (k + 1) key'
low_next {k = k} q c e f = record {
  most = omega (arith, q.most);
  each = λ b h z. elim (ℕ_discrete b k) [
    | yes y ↦ rw y (omega (arith, c.inside (rw y at z)))
    | no y ↦ omega (arith, q.each b (omega arith) z)
  ];
}

pub low_end : {part at from key key' : ℕ} {low w : List ℕ} → part < 2 ^ 32 → LowTo part at low w 32 key → key' ≤ key → key' ≤ from → Low part at low w from key'
low_end {part} h q e f = record { less = f; each = λ b z. omega (arith, q.each b (bit_place 32 part b h z) z) }

pub top_next : {p : List ℕ} {k most : ℕ} → Top p k most → Top p (k + 1) (bit_or most (get p k))
top_next {p} {k} {most} q = record {
  each = λ v l. elim (ℕ_discrete v k) [
    | yes z ↦ rw z (or_above most (get p k)).1
    | no z ↦ omega (arith, (or_above most (get p k)).0, q.each v (omega arith))
  ];
}

pub bottom_next : {p : List ℕ} {k least : ℕ} → Bottom p k least → Bottom p (k + 1) (bit_and least (get p k))
bottom_next {p} {k} {least} q = record {
  each = λ v l. elim (ℕ_discrete v k) [
    | yes z ↦ rw z (and_le_r least (get p k))
    | no z ↦ omega (arith, and_le_l least (get p k), q.each v (omega arith))
  ];
}

-- ---- the lanes in use that leave

pub and_in : (a b i : ℕ) → bit (bit_and a b) i ≡ 1 → bit b i ≡ 1
and_in a b i e = omega (arith, bit_and_lem a b i, bit_most b i)

pub and_few : {k : ℕ} (a b : ℕ) → b < k → bit_and a b < k
and_few {k} a b h = omega (arith, and_le_r a b)

pub out_start : {j from : ℕ} {cost x p : List ℕ} {before : ℕ} → OutTo j from cost x p before from before
out_start = record { less = omega arith; own = λ i. omega arith; each = λ i e z o. absurd (omega arith) }

module _ {j from : ℕ} {cost x p : List ℕ} {before r key : ℕ} (q : OutTo j from cost x p before r key) (o : 0 < r) (h : r < 2 ^ 64) where
  pub out_in : has from (count_trailing_zeros 64 r) ≡ 1
  out_in = own_low 64 from q.own o h

  pub out_next : {a key' : ℕ} → Nearer (get x (count_trailing_zeros 64 r * 64 + j)) a key key'
      → a + (cells cost (count_trailing_zeros 64 r) j + get p (count_trailing_zeros 64 r)) ≡ 1000000000 + get p (32 + j) → OutTo j from cost x p before (bit_and r (r - 1)) key'
  out_next {a} {key'} d e = record {
    less = omega (arith, q.less, d.less);
    own = own_next 64 from q.own o h;
    each = λ i f z u. elim (ℕ_discrete i (count_trailing_zeros 64 r)) [
      | yes y ↦
          let v : 0 < cells x (count_trailing_zeros 64 r) j = subst (λ (w : ℕ). 0 < cells x w j) y u in
          rw y (omega (arith, d.some v, e))
      | no y ↦ omega (arith, q.each i f (rest_done 64 o h i z y) u, d.less)
    ];
  }

pub out_end : {j from : ℕ} {cost x p : List ℕ} {before r key : ℕ} → OutTo j from cost x p before r key → r ≤ 0 → OutTo j from cost x p before 0 key
out_end {j} {from} {cost} {x} {p} {before} {r} {key} q h = let z : r ≡ 0 = omega arith in subst (λ (y : ℕ). OutTo j from cost x p before y key) z q

pub exit_start : {n inside cols : ℕ} {cost x serves p : List ℕ} {r key : ℕ} → Others n cols r → ExitTo n inside cols cost x serves p r key
exit_start o = record { each = λ i j a b c z e u. absurd (omega (arith, o.out j b c)) }

pub exit_next : {n inside cols : ℕ} {cost x serves p : List ℕ} {r key key' : ℕ} → ExitTo n inside cols cost x serves p r key → 0 < r → r < 2 ^ 64
    → OutTo (count_trailing_zeros 64 r) (bit_and (get serves (count_trailing_zeros 64 r)) inside) cost x p key 0 key' → ExitTo n inside cols cost x serves p (bit_and r (r - 1)) key'
exit_next {inside = inside} {cost = cost} {x} {serves} {p} {r} {key} {key'} q o h t = record {
  each = λ i j a b c z e u. elim (ℕ_discrete j (count_trailing_zeros 64 r)) [
    | yes y ↦
        let w = get serves (count_trailing_zeros 64 r) in
        let f : bit w i ≡ 1 = subst (λ (v : ℕ). bit (get serves v) i ≡ 1) y e in
        let v : 0 < cells x i (count_trailing_zeros 64 r) = subst (λ (v : ℕ). 0 < cells x i v) y u in
        rw y (t.each i (omega (arith, bit_and_lem w inside i, f, a)) (bit_none i) v)
    | no y ↦ omega (arith, q.each i j a b c (rest_done 64 o h j z y) e u, t.less)
  ];
}

pub exit_end : {n inside cols : ℕ} {cost x serves p : List ℕ} {r key : ℕ} → ExitTo n inside cols cost x serves p r key → r ≤ 0 → ExitTo n inside cols cost x serves p 0 key
exit_end {n} {inside} {cols} {cost} {x} {serves} {p} {r} {key} q h =
    let z : r ≡ 0 = omega arith in subst (λ (y : ℕ). ExitTo n inside cols cost x serves p y key) z q
