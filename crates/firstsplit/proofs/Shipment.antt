-- How a source's shipment goes on by one send. Assumes nothing.
use mathlib.Core.Path.{◌≡◌, refl, sym, ap, ◌∙◌}
use mathlib.Core.Logic.{◌≢◌}
use mathlib.Core.List.{List}
use Prim.Native.Nat.{ℕ, ◌+◌, ◌-◌, ◌≤◌, ◌<◌}
use native.Mathlib.Decide.{ℕ_discrete, dec_lt}
use native.Mathlib.Omega.{arith}
use lib.ListN.{set, length-set}
use lib.Seq.{get_or-set_same, get_or-set_other}
use Rattle.transport.specs.Plan.{row, col}
use Rattle.transport.specs.inner.PathFlow.{pulse}
use Rattle.residual.specs.inner.Cells.{cells}
use Rattle.residual.specs.inner.Network.{Net, get, again}
use Rattle.augment.specs.inner.Send.{SendReady, Delivered, NoPath}
use Rattle.firstsplit.specs.inner.Shipment.{Stocked, Shipped, ShipDone}
use Rattle.transport.proofs.PathFlow.{pulse_same, pulse_off}

pub ship_start : {N : Net} {p room x : List ℕ} (s amount : ℕ) → Stocked (again N x) p room x → N.x ≡ cells x → Shipped N room s amount p room x amount
ship_start s amount k e = record {
  stocked = k;
  rows = λ i h d. rw e refl;
  own = rw e refl;
  cols = λ j h. rw e refl;
  less = λ v h. omega arith;
  most = omega arith;
}

pub send_ready : {N : Net} {p room x : List ℕ} {s limit : ℕ} → Stocked N p room x → s < N.m → 0 < limit → SendReady N p room s limit x
send_ready k h l = record {
  sound = k.sound;
  under = k.under;
  ceilings = k.ceilings;
  long_x = k.long_x;
  long_p = k.long_p;
  start = h;
  positive = l;
  floor = λ v hv o. omega (arith, k.home v hv o);
}

module _ {N : Net} {room₀ : List ℕ} {s amount : ℕ} {x p room : List ℕ} {left g d : ℕ} {x' p' : List ℕ} (hs : s < N.m)
    (q : Shipped N room₀ s amount p room x left) (hg : g < 96) (t : Delivered (again N x) p room s left x' p' g d) where
  room' : List ℕ
  room' = set room g (get room g - d)

  here : get room' g ≡ get room g - d
  unfolding room'
  here = get_or-set_same room g (get room g - d) 0 (omega (arith, q.stocked.long_room))

  off : (v : ℕ) → v ≢ g → get room' v ≡ get room v
  unfolding room'
  off v z = get_or-set_other room g v (get room g - d) 0 z

  fewer : (v : ℕ) → get room' v ≤ get room v
  fewer v = elim (ℕ_discrete v g) [ yes z ↦ rw z (omega (arith, here)) | no z ↦ omega (arith, off v z) ]

  -- the goal is no source
  high : 32 ≤ g
  high = elim (dec_lt g 32) [ yes l ↦ absurd (omega (arith, q.stocked.quiet g l, t.has_room)) | no l ↦ omega arith ]

  sources : N.m ≤ 32
  sources = q.stocked.sound.sources

  stocked : Stocked (again N x') p' room' x'
  unfolding room'
  stocked = record {
    sound = record {
      sources = sources;
      terminals = q.stocked.sound.terminals;
      costs = q.stocked.sound.costs;
      slack = t.new;
      high = λ v h. omega (arith, t.fall v h, q.stocked.sound.high v h);
    };
    under = t.under;
    ceilings = q.stocked.ceilings;
    long_x = t.long_x;
    long_p = t.long_p;
    long_room = length-set room g (get room g - d) ∙ q.stocked.long_room;
    home = λ v h o. t.keep v h (omega (arith, fewer v)) ∙ q.stocked.home v h (omega (arith, fewer v));
    floor = λ v h. t.floor v 416000000 h (q.stocked.floor v h) (omega (arith, q.stocked.home g hg t.has_room));
    quiet = λ v h. omega (arith, fewer v, q.stocked.quiet v h);
  }

  flows : (i : ℕ) → i < N.m → row N.n (cells x') i + pulse d g i ≡ row N.n (cells x) i + pulse d s i
  flows = t.flow.rows

  flow_cols : (j : ℕ) → j < N.n → col N.m (cells x') j + pulse d s (32 + j) ≡ col N.m (cells x) j + pulse d g (32 + j)
  flow_cols = t.flow.cols

  pub ship_next : Shipped N room₀ s amount p' (set room g (get room g - d)) x' (left - d)
  unfolding room'
  ship_next = record {
    stocked = stocked;
    rows = λ i h z.
        omega (arith, flows i h, pulse_off d g i (omega (arith, high, sources)), pulse_off d s i (λ e. z (sym e)), q.rows i h z);
    own = omega (arith, q.own, flows s hs, pulse_off d g s (omega (arith, high, sources)), pulse_same d s s refl, t.most);
    cols = λ j h. elim (ℕ_discrete g (32 + j)) [
      | yes z ↦ omega (
        arith,
        q.cols j h,
        flow_cols j h,
        pulse_off d s (32 + j) (omega (arith, sources)),
        pulse_same d g (32 + j) z,
        here,
        ap (λ z. get room' z) z,
        ap (λ z. get room z) z,
        t.fits,
      )
      | no z ↦ omega (
        arith,
        q.cols j h,
        flow_cols j h,
        pulse_off d s (32 + j) (omega (arith, sources)),
        pulse_off d g (32 + j) z,
        off (32 + j) (λ e. z (sym e)),
      )
    ];
    less = λ v h. omega (arith, fewer v, q.less v h);
    most = omega (arith, q.most);
  }

pub ship_none : {N : Net} {room₀ : List ℕ} {s amount : ℕ} {x p room : List ℕ} {left : ℕ} {x' p' : List ℕ} → Shipped N room₀ s amount p room x left
    → NoPath (again N x) p room s x x' p' → ShipDone N room₀ s amount p' room x' left
ship_none q t = rw (t.same_x, t.same_p) (record { shipped = q; none = λ h. record { labels = t.labels; stuck = t.stuck } })
