-- The cut keeps a plan slack: no tree is in it. Assumes nothing.
use mathlib.Core.Path.{◌≡◌, refl}
use mathlib.Core.Bool.{Bool, true, false}
use mathlib.Core.List.{List}
use Prim.Native.Nat.{ℕ, zero, suc, ◌+◌, ◌≤◌, ◌<◌}
use native.Mathlib.Decide.{ℕ_discrete}
use native.Mathlib.Omega.{arith}
use lib.Bits.{bit_and}
use Rattle.transport.specs.Plan.{Table}
use Rattle.transport.specs.inner.Slackness.{Lane, Slack}
use Rattle.residual.specs.inner.Cells.{cells}
use Rattle.residual.specs.inner.Network.{get}
use Rattle.cuts.specs.inner.Cut.{has, share, Others, Shut, ExitReady, ExitTo, Exit, CutReady, Weighed, Near, Rose, Lifted, Shifted}
use Rattle.residual.proofs.Bits.{bit_most, bit_none}
use Rattle.cuts.proofs.PartBits.{bit_and_lem}

pub share_in : (d b : ℕ) → b ≡ 1 → share d b ≡ d
unfolding share
share_in d zero e = absurd (omega arith)
share_in d (suc b) e = refl

pub share_out : (d b : ℕ) → b ≡ 0 → share d b ≡ 0
unfolding share
share_out d zero e = refl
share_out d (suc b) e = absurd (omega arith)

pub share_most : (d b : ℕ) → share d b ≤ d
unfolding share
share_most d zero = omega arith
share_most d (suc b) = omega arith

-- one lane, from a source that is in the part where r is 1 to a terminal that is where s is 1
lane_cut : (c u x p q d r s : ℕ) → r ≤ 1 → s ≤ 1 → Lane c u x p q → (r ≡ 1 → s ≡ 0 → 0 < x → c + p + d ≤ q) → (r ≡ 0 → s ≡ 1 → x < u → q + d ≤ c + p)
    → Lane c u x (p + share d r) (q + share d s)
lane_cut c u x p q d r s hr hs l high low = go (ℕ_discrete r 0) (ℕ_discrete s 0)
  where
    go : Dec (r ≡ 0) → Dec (s ≡ 0) → Lane c u x (p + share d r) (q + share d s)
    -- outside: nothing changes
    go (yes a) (yes b) = record {
      ahead = λ o. omega (arith, l.ahead o, share_out d s b);
      back = λ o. omega (arith, l.back o, share_out d r a);
    }
    -- into the part: d is no more than the lane's reduced cost
    go (yes a) (no b) = record {
      ahead = λ o. omega (arith, low a (omega arith) o, share_most d s);
      back = λ o. omega (arith, l.back o, share_out d r a);
    }
    -- out of the part: where the lane is in use, the terminal is above by d at least
    go (no a) (yes b) = record {
      ahead = λ o. omega (arith, l.ahead o, share_out d s b);
      back = λ o. omega (arith, high (omega arith) b o, share_most d r);
    }
    -- inside: both ends rise
    go (no a) (no b) = record {
      ahead = λ o. omega (arith, l.ahead o, share_in d r (omega arith), share_most d s);
      back = λ o. omega (arith, l.back o, share_in d s (omega arith), share_most d r);
    }

-- both ends lower by as much
lane_lower : {c u x p q : ℕ} (e : ℕ) → Lane c u x (p + e) (q + e) → Lane c u x p q
lane_lower e l = record { ahead = λ o. omega (arith, l.ahead o); back = λ o. omega (arith, l.back o) }

-- the cut lemma
pub cut_slack : (m n : ℕ) (c u x : Table) (p q p' q' : ℕ → ℕ) (d e : ℕ) (r s : ℕ → ℕ) → ((i : ℕ) → r i ≤ 1) → ((j : ℕ) → s j ≤ 1) → Slack m n c u x p q
    → ((i j : ℕ) → i < m → j < n → r i ≡ 1 → s j ≡ 0 → 0 < x i j → c i j + p i + d ≤ q j)
    → ((i j : ℕ) → i < m → j < n → r i ≡ 0 → s j ≡ 1 → x i j < u i j → q j + d ≤ c i j + p i)
    → ((i : ℕ) → i < m → p' i + e ≡ p i + share d (r i)) → ((j : ℕ) → j < n → q' j + e ≡ q j + share d (s j)) → Slack m n c u x p' q'
cut_slack m n c u x p q p' q' d e r s hr hs k high low f g i j a b =
    lane_lower e
    (rw (f i a, g j b)
    (lane_cut (c i j) (u i j) (x i j) (p i) (q j) d (r i) (s j) (hr i) (hs j) (k i j a b) (high i j a b) (low i j a b)))

-- no lane in use leaves a shut part
pub exit_shut : {m n rows cols key : ℕ} {cost x serves p : List ℕ} → Shut n rows cols serves → Exit m n rows cols cost x serves p key
exit_shut s = record { each = λ i j a b y z e o. absurd (omega (arith, s.each i j b z e)) }

-- a key of 0 is no more than any
pub exit_none : {m n rows cols : ℕ} {cost x serves p : List ℕ} → ExitReady m n cost p → Exit m n rows cols cost x serves p 0
exit_none r = record { each = λ i j a b y z e o. omega (arith, r.costs i j a b, r.high i (omega (arith, r.sources))) }

pub exit_inside : {m n rows below cols key : ℕ} {cost x serves p : List ℕ} → Others m 0 below
    → ExitTo n (bit_and rows below) cols cost x serves p 0 key → Exit m n rows cols cost x serves p key
exit_inside {rows = rows} {below} bits out = record {
  each = λ i j a b y z e o. out.each i j (omega (arith, bit_and_lem rows below i, y, bits.out i a (bit_none i))) b z (bit_none j) e o;
}

pub shift_none : {m n : ℕ} {cost table columns x serves p : List ℕ} → CutReady m n table columns p → Shifted m n cost table columns x serves p p
shift_none r = record { long = r.long; floor = λ v h. omega arith; high = r.high; sound = λ cap t c s. s }

-- the whole cut, from what its parts found
pub shift_cut : {m n rows cols : ℕ} {cost table columns x serves p p' w : List ℕ} {exit key d e : ℕ} → CutReady m n table columns p
    → Exit m n rows cols cost x serves p exit → Weighed p 96 w → Near m n rows cols table columns w key → d + 1000000000 ≤ exit → d + 800000000 ≤ key
    → Rose m n rows cols d e p p' → Shifted m n cost table columns x serves p p'
shift_cut {m} {n} {rows} {cols} {cost} {table} {columns} {x} {serves} {p} {p'} {w} {exit} {key} {d} {e} r out weight far g h q = record {
  long = q.long;
  floor = q.floor;
  high = q.high;
  sound = λ cap t c s. record {
    sources = s.sources;
    terminals = s.terminals;
    costs = s.costs;
    slack =
        cut_slack m n (cells cost) (cells cap) (cells x) (λ i. get p i) (λ j. get p (32 + j)) (λ i. get p' i) (λ j. get p' (32 + j)) d e
        (λ i. has rows i) (λ j. has cols j) (λ i. bit_most rows i) (λ j. bit_most cols j) s.slack
        (λ i j a b y z o. omega (arith, out.each i j a b y z (c.serving i j a b o) o))
        (λ i j a b z f o.
        omega (
          arith,
          far.each i j (cells cost i j) a b z f (t.by_source i j a b o) (t.by_terminal_lem i j a b o),
          weight.source i (omega (arith, r.sources)),
          weight.terminal (32 + j) (omega arith) (omega (arith, r.terminals)),
        ))
        q.source q.terminal;
    high = q.high;
  };
}

pub shift_lift : {m n rows cols : ℕ} {cost table columns x serves p p' w : List ℕ} {exit key d : ℕ} (made : Bool) → CutReady m n table columns p
    → Exit m n rows cols cost x serves p exit → Weighed p 96 w → Near m n rows cols table columns w key → d + 1000000000 ≤ exit
    → d + 800000000 ≤ key → Lifted m n rows cols d p p' made → Shifted m n cost table columns x serves p p'
shift_lift true r out weight far g h q = shift_cut r out weight far g h (q.rose refl).1
shift_lift false r out weight far g h q = rw (q.same refl) (shift_none r)
