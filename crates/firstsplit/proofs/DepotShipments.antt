-- How the base goes on by one source. Assumes nothing.
use mathlib.Core.Path.{◌≡◌, sym, ap, ◌∙◌}
use mathlib.Core.List.{List}
use Prim.Native.Nat.{ℕ, ◌+◌, ◌≤◌, ◌<◌}
use native.Mathlib.Decide.{ℕ_discrete}
use native.Mathlib.Omega.{arith}
use lib.ListN.{length}
use Rattle.transport.specs.Plan.{row, col}
use Rattle.residual.specs.inner.Cells.{cells}
use Rattle.residual.specs.inner.Network.{Net, get, again}
use Rattle.firstsplit.specs.inner.Shipment.{Shipped}
use Rattle.firstsplit.specs.inner.FirstPlan.{BaseReady, Based}
use Rattle.transport.proofs.Sums.{sum_ext, sum_none}

pub base_start : {N : Net} {amounts room p x : List ℕ} → BaseReady N room x → N.x ≡ cells x → length p ≡ 96
    → ((v : ℕ) → v < 96 → get p v ≡ 800000000) → Based N amounts room 0 p room x
unfolding row col
base_start {N} {p = p} {x = x} r e l h = record {
  stocked = record {
    sound = record {
      sources = r.sources;
      terminals = r.terminals;
      costs = r.costs;
      slack = λ i j a b. record {
        ahead = λ o. omega (arith, h i (omega (arith, r.sources)), h (32 + j) (omega (arith, r.terminals)));
        back = λ o. absurd (omega (arith, zero i j a b));
      };
      high = λ v hv. omega (arith, h v hv);
    };
    under = λ i j a b. omega (arith, zero i j a b);
    ceilings = r.ceilings;
    long_x = r.long_x;
    long_p = l;
    long_room = r.long_room;
    home = λ v hv o. h v hv;
    floor = λ v hv. omega (arith, h v hv);
    quiet = r.quiet;
  };
  rows = λ i hi o. absurd (omega arith);
  rest = λ i o. sum_ext N.n (λ j. cells x i j) (λ j. 0) (λ j b. zero i j (omega arith) b) ∙ sum_none N.n;
  cols = λ j hj. omega (arith, sum_ext N.m (λ i. cells x i j) (λ i. 0) (λ i a. zero i j a hj), sum_none N.m);
}
  where
    zero : (i j : ℕ) → i < N.m → j < N.n → cells x i j ≡ 0
    zero i j a b = ap (λ f. f i j) (sym e) ∙ r.blank i j a b

pub base_next : {N : Net} {amounts room p' room' x' : List ℕ} {k s left : ℕ} {p'' room'' x'' : List ℕ} → Based N amounts room k p' room' x'
    → s + k + 1 ≡ N.m → Shipped (again N x') room' s (get amounts s) p'' room'' x'' left → left ≤ 0 → Based N amounts room (k + 1) p'' room'' x''
base_next {s = s} q e w z = record {
  stocked = w.stocked;
  rows = λ i hi o. elim (ℕ_discrete i s) [
    | yes d ↦ rw d (omega (arith, w.own, q.rest s (omega arith)))
    | no d ↦ w.rows i hi d ∙ q.rows i hi (omega arith)
  ];
  rest = λ i o. w.rows i (omega arith) (omega arith) ∙ q.rest i (omega arith);
  cols = λ j hj. omega (arith, w.cols j hj, q.cols j hj);
}
