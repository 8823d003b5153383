-- How a step of the engine keeps slackness, lane by lane: the potentials after a path search, the amounts after a send. Assumes nothing.
use mathlib.Core.Path.{◌≡◌}
use mathlib.Core.Logic.{◌≢◌}
use Prim.Native.Nat.{ℕ, min, ◌+◌, ◌≤◌, ◌<◌}
use native.Mathlib.Decide.{dec_lt, ℕ_discrete}
use native.Mathlib.Omega.{arith}
use Rattle.transport.specs.Plan.{Table}
use Rattle.transport.specs.inner.Slackness.{Lane, Slack}

-- what the path search leaves of one lane, with dp and dq the distances of its source and its terminal, and D the goal's:
-- an arc that is open was relaxed where its start is nearer than the goal
pub record Relaxed (c u x p q dp dq D : ℕ) : Type 0 where
  pub ahead : x < u → dp < D → dq + q ≤ dp + (c + p)
  pub back : 0 < x → dq < D → dp + (c + p) ≤ dq + q

-- one arc from a node at distance d to one at distance e, of reduced cost a - b
arc_update : (a b d e D : ℕ) → b ≤ a → (d < D → e + b ≤ d + a) → b + min e D ≤ a + min d D
arc_update a b d e D h r = elim (dec_lt d D) [ yes l ↦ omega (arith, r l) | no l ↦ omega arith ]

-- the new potentials
pub lane_update : {c u x p q dp dq D : ℕ} → Lane c u x p q → Relaxed c u x p q dp dq D → Lane c u x (p + min dp D) (q + min dq D)
lane_update {c} {u} {x} {p} {q} {dp} {dq} {D} s r = record {
  ahead = λ l. omega (arith, arc_update (c + p) q dp dq D (s.ahead l) (r.ahead l));
  back = λ l. omega (arith, arc_update q (c + p) dq dp D (s.back l) (r.back l));
}

-- the same for all lanes
pub update : (m n : ℕ) (c u x : Table) (p q dp dq : ℕ → ℕ) (D : ℕ) → Slack m n c u x p q
    → ((i j : ℕ) → i < m → j < n → Relaxed (c i j) (u i j) (x i j) (p i) (q j) (dp i) (dq j) D)
    → Slack m n c u x (λ i. p i + min (dp i) D) (λ j. q j + min (dq j) D)
update m n c u x p q dp dq D s r i j a b = lane_update (s i j a b) (r i j a b)

-- on a tight lane any amount is slack
pub tight_lane : {c u x p q : ℕ} → c + p ≡ q → Lane c u x p q
tight_lane e = record { ahead = λ l. omega arith; back = λ l. omega arith }

-- amounts change on tight lanes only
pub change_tight : (m n : ℕ) (c u x x' : Table) (p q : ℕ → ℕ) → Slack m n c u x p q
    → ((i j : ℕ) → i < m → j < n → x' i j ≢ x i j → c i j + p i ≡ q j) → Slack m n c u x' p q
change_tight m n c u x x' p q s t i j a b = elim (ℕ_discrete (x' i j) (x i j)) [
  | yes e ↦ rw e (s i j a b)
  | no d ↦ tight_lane (t i j a b d)
]
