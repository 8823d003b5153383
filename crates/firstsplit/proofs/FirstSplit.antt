-- What step 1 says of the plans within the ceilings: where a source can send no more, no plan has it send more. Assumes nothing.
use mathlib.Core.Path.{◌≡◌, refl, sym, ◌∙◌}
use mathlib.Core.Logic.{◌⊎◌, inl, inr, ⊎_elim}
use mathlib.Core.Bool.{Bool, true, false, true≢false}
use mathlib.Core.List.{List}
use Prim.Native.Nat.{ℕ, zero, suc, ◌+◌, ◌-◌, ◌≤◌, ◌<◌, min}
use native.Mathlib.Decide.{dec_lt}
use native.Mathlib.Omega.{arith}
use Rattle.transport.specs.Sum.{sum}
use Rattle.transport.specs.Plan.{Table, row, col, Under}
use Rattle.transport.specs.Curve.{amounts_at}
use Rattle.transport.specs.inner.AtSplit.{At}
use Rattle.residual.specs.inner.Cells.{cells}
use Rattle.residual.specs.inner.Network.{Net, get, again}
use Rattle.firstsplit.specs.inner.Shipment.{Shipped, NoWay, ShipDone}
use Rattle.std.specs.Prelude.{Option, None, Some}
use Rattle.firstsplit.specs.inner.FirstPlan.{Based, Sending, DepotsDone, Admitted, PlantsReady, FirstDone}
use Rattle.transport.proofs.Sums.{sum_ext, sum_add, sum_at}
use Rattle.transport.proofs.Tables.{rows_cols}
use Rattle.transport.proofs.Splits.{amounts_all}
use Rattle.paths.proofs.SearchCut.{cut_source, cut_first, cut_second}

-- ---- the depots

-- a depot cannot send its stock: no plan has it do so
pub depot_stuck : {N : Net} {supply room p' room' x' : List ℕ} {k s left : ℕ} {p'' room'' x'' : List ℕ} → Based N supply room k p' room' x'
    → s + k + 1 ≡ N.m → 2 ≤ s → ShipDone (again N x') room' s (get supply s) p'' room'' x'' left → 0 < left
    → DepotsDone N supply room p'' room'' x'' false
depot_stuck {N} {supply} {room} {k = k} {s = s} {x'' = x''} b e two o l = record {
  sending = λ z. absurd (true≢false (sym z));
  stuck = λ z w y y' t h.
      let q = o.none l in
      let f = o.shipped in
      omega (
        arith,
        cut_source q.stuck w h
            (λ j a c. omega (arith, f.cols j a, b.cols j a, q.stuck.empty (32 + j) (omega (arith, f.stocked.sound.terminals)) c, t.demands j (omega arith) a))
            (omega arith)
            (λ i a d. elim (dec_lt i s) [
              | yes c ↦ omega (arith, f.rows i a d, b.rest i (omega arith))
              | no c ↦ omega (arith, f.rows i a d, b.rows i a (omega arith), t.depots i (omega arith) a)
            ]),
        f.own,
        b.rest s (omega arith),
        t.depots s two (omega arith),
      );
}

-- all have sent
pub depots_sent : {N : Net} {supply room p' room' x' : List ℕ} {k : ℕ} → 2 ≤ N.m → k + 2 ≡ N.m → Based N supply room k p' room' x'
    → DepotsDone N supply room p' room' x' true
depots_sent two e b = record {
  sending = λ z. record {
    stocked = b.stocked;
    plant0 = b.rest 0 (omega arith);
    plant1 = b.rest 1 (omega arith);
    depots = λ i h l. b.rows i l (omega arith);
    cols = b.cols;
  };
  stuck = λ z. absurd (true≢false z);
}

-- ---- the plants

module _ {N : Net} {a : ℕ → ℕ} {room : List ℕ} {y z : ℕ} {p' room' x' : List ℕ} (two : 2 ≤ N.m) (b : Sending N a room y z p' room' x') where
  pub send_first : {amount left : ℕ} {p'' room'' x'' : List ℕ} (t : ℕ) → Shipped (again N x') room' 0 amount p'' room'' x'' left → t + left ≡ y + amount
      → Sending N a room t z p'' room'' x''
  send_first t f e = record {
    stocked = f.stocked;
    plant0 = omega (arith, f.own, b.plant0);
    plant1 = f.rows 1 (omega arith) (omega arith) ∙ b.plant1;
    depots = λ i h l. f.rows i l (omega arith) ∙ b.depots i h l;
    cols = λ j h. f.cols j h ∙ b.cols j h;
  }

  pub send_second : {amount left : ℕ} {p'' room'' x'' : List ℕ} (t : ℕ) → Shipped (again N x') room' 1 amount p'' room'' x'' left → t + left ≡ z + amount
      → Sending N a room y t p'' room'' x''
  send_second t f e = record {
    stocked = f.stocked;
    plant0 = f.rows 0 (omega arith) (omega arith) ∙ b.plant0;
    plant1 = omega (arith, f.own, b.plant1);
    depots = λ i h l. f.rows i l (omega arith) ∙ b.depots i h l;
    cols = λ j h. f.cols j h ∙ b.cols j h;
  }

  module _ (w : Table) (t v : ℕ) (o : At N.m N.n a (λ j. get room (32 + j)) t v w) (h : Under N.m N.n w N.u) where
    -- plant 1 can send no more
    pub first_stuck : NoWay (again N x') room' 0 → (t ≤ y) ⊎ (t + v ≤ y + z)
    first_stuck q =
        ⊎_elim (λ l. inl (omega (arith, o.plant0, b.plant0)))
        (λ l. inr (omega (arith, o.plant0, o.plant1, b.plant0, b.plant1)))
        (cut_first q.stuck w h
        (λ j a c. omega (arith, b.cols j a, q.stuck.empty (32 + j) (omega (arith, b.stocked.sound.terminals)) c, o.demands j (omega arith) a)) two
        (λ i c l. b.depots i c l ∙ sym (o.depots i c l)) refl)

    -- plant 2 can send no more
    pub second_stuck : NoWay (again N x') room' 1 → y ≤ t → v ≤ z
    second_stuck q l =
        omega (
          arith,
          cut_second q.stuck w h
              (λ j a c. omega (arith, b.cols j a, q.stuck.empty (32 + j) (omega (arith, b.stocked.sound.terminals)) c, o.demands j (omega arith) a)) two
              (λ i c l. b.depots i c l ∙ sym (o.depots i c l)) refl (omega (arith, o.plant0, b.plant0)),
          o.plant1,
          b.plant1,
        )

module _ {N : Net} {a : ℕ → ℕ} {room : List ℕ} {run0 run1 d : ℕ} (two : 2 ≤ N.m) (r : PlantsReady a run0 run1 d) where
  -- plant 1 cannot send its least run
  pub run_stuck : {p' room' x' p'' room'' x'' : List ℕ} {left : ℕ} → Sending N a room 0 0 p' room' x' → ShipDone (again N x') room' 0 run0 p'' room'' x'' left
      → 0 < left → FirstDone N a room run0 run1 d p'' room'' x'' None
  run_stuck {left = left} b o l = record {
    cases = λ w y z s t h.
        ⊎_elim (λ e. omega (arith, s.low0, o.shipped.most)) (λ e. omega (arith, s.low0, o.shipped.most))
        (first_stuck two (send_first two b (run0 - left) o.shipped (omega (arith, o.shipped.most))) w y z t h (o.none l));
  }

  pub run_sent : {p' room' x' p'' room'' x'' : List ℕ} {left : ℕ} → Sending N a room 0 0 p' room' x' → ShipDone (again N x') room' 0 run0 p'' room'' x'' left
      → left ≤ 0 → Sending N a room run0 0 p'' room'' x''
  run_sent b o l = send_first two b run0 o.shipped (omega arith)

  -- plant 2 has sent as much as it can
  module _ {p' room' x' p'' room'' x'' : List ℕ} {most short : ℕ} (b : Sending N a room run0 0 p' room' x') (em : most ≡ min (a 1) (d - run0))
      (o : ShipDone (again N x') room' 1 most p'' room'' x'' short) where
    pub second_sent : Sending N a room run0 (most - short) p'' room'' x''
    second_sent = send_second two b (most - short) o.shipped (omega (arith, o.shipped.most))

    -- no plan has more from plant 2
    top : (w : Table) (y z : ℕ) → Admitted a run0 run1 d y z → At N.m N.n a (λ j. get room (32 + j)) y z w → Under N.m N.n w N.u
        → z ≤ most - short
    top w y z s t h = elim (dec_lt 0 short) [
      | yes l ↦ second_stuck two second_sent w y z t h (o.none l) s.low0
      | no l ↦ omega (arith, s.high1, s.whole, s.low0)
    ]

    pub second_stops : most - short < run1 → FirstDone N a room run0 run1 d p'' room'' x'' None
    second_stops l = record { cases = λ w y z s t h. omega (arith, top w y z s t h, s.low1) }

    pub first_over : a 0 < d - (most - short) → FirstDone N a room run0 run1 d p'' room'' x'' None
    first_over l = record { cases = λ w y z s t h. omega (arith, top w y z s t h, s.high0, s.whole) }

    pub rest_fits : run0 ≤ d - (most - short)
    rest_fits = omega (arith, r.low)

    -- plant 1 sends the rest
    module _ {p₃ room₃ x₃ : List ℕ} {split left : ℕ} (es : split ≡ d - (most - short)) (q : ShipDone (again N x'') room'' 0 (split - run0) p₃ room₃ x₃ left) where
      pub rest_stuck : 0 < left → FirstDone N a room run0 run1 d p₃ room₃ x₃ None
      rest_stuck l = record {
        cases = λ w y z s t h.
            ⊎_elim (λ e. omega (arith, top w y z s t h, s.whole, q.shipped.most, rest_fits))
            (λ e. omega (arith, top w y z s t h, s.whole, q.shipped.most, rest_fits, r.low, r.high))
            (first_stuck two (send_first two second_sent (split - left) q.shipped (omega (arith, q.shipped.most, rest_fits))) w y z t h (q.none l));
      }

      pub first_done : left ≤ 0 → run1 ≤ most - short → split ≤ a 0 → FirstDone N a room run0 run1 d p₃ room₃ x₃ (Some split)
      first_done l h1 h0 =
          let e : most - short ≡ d - split = omega (arith, r.low) in
          record {
            cases = record {
              sending = rw e at (send_first two second_sent split q.shipped (omega (arith, rest_fits)));
              admitted = record {
                low0 = omega (arith, rest_fits);
                high0 = h0;
                low1 = omega arith;
                high1 = omega arith;
                whole = omega arith;
              };
              least = λ w y v s t h. omega (arith, top w y v s t h, s.whole);
            };
          }

-- ---- whatever amounts the lanes began with

pub sending_again : {N : Net} {a : ℕ → ℕ} {room : List ℕ} {y z : ℕ} {p' room' x' : List ℕ} (x : Table) → Sending N a room y z p' room' x'
    → Sending (record { m = N.m; n = N.n; c = N.c; u = N.u; x = x }) a room y z p' room' x'
sending_again x b = record { stocked = b.stocked; plant0 = b.plant0; plant1 = b.plant1; depots = b.depots; cols = b.cols }

pub first_again : {N : Net} {a : ℕ → ℕ} {room : List ℕ} {run0 run1 d : ℕ} {p' room' x' : List ℕ} (split : Option ℕ) (x : Table)
    → FirstDone N a room run0 run1 d p' room' x' split → FirstDone (record { m = N.m; n = N.n; c = N.c; u = N.u; x = x }) a room run0 run1 d p' room' x' split
first_again (Some split) x f = let q = f.cases in record { cases = record { sending = sending_again x q.sending; admitted = q.admitted; least = q.least } }
first_again None x f = record { cases = f.cases }

-- a depot is stuck
pub depots_none : {N : Net} {supply room : List ℕ} (run0 run1 d : ℕ) {p' room' x' : List ℕ} {done : Bool} → DepotsDone N supply room p' room' x' done → done ≡ false
    → FirstDone N (λ i. get supply i) room run0 run1 d p' room' x' None
depots_none run0 run1 d q e = record { cases = λ w y z s t h. q.stuck e w y z t h }

-- ---- the plan at the first split

module _ {N : Net} {a : ℕ → ℕ} {room : List ℕ} (d : ℕ) {y : ℕ} {p' room' x' : List ℕ} (two : 2 ≤ N.m) (b : Sending N a room y (d - y) p' room' x') where
  rows : (i : ℕ) → i < N.m → row N.n (cells x') i ≡ amounts_at d a y i
  unfolding amounts_at
  rows zero h = b.plant0
  rows (suc zero) h = b.plant1
  rows (suc (suc i)) h = b.depots (suc (suc i)) (omega arith) h

  -- all demands are met
  all_met : y ≤ d → sum N.m (amounts_at d a 0) ≡ sum N.n (λ j. get room (32 + j)) → (j : ℕ) → j < N.n → get room' (32 + j) ≡ 0
  all_met h e j hj =
      omega (
        arith,
        sum_at N.n j (λ j. get room' (32 + j)) hj,
        rows_cols N.m N.n (cells x'),
        sum_ext N.m (λ i. row N.n (cells x') i) (amounts_at d a y) rows,
        amounts_all N.m d y a two h,
        sum_add N.n (λ j. col N.m (cells x') j) (λ j. get room' (32 + j)),
        sum_ext N.n (λ j. col N.m (cells x') j + get room' (32 + j)) (λ j. get room (32 + j)) b.cols,
      )

  pub first_at : y ≤ d → sum N.m (amounts_at d a 0) ≡ sum N.n (λ j. get room (32 + j)) → At N.m N.n a (λ j. get room (32 + j)) y (d - y) (cells x')
  first_at h e = record {
    plant0 = b.plant0;
    plant1 = b.plant1;
    depots = b.depots;
    demands = λ j k l. omega (arith, b.cols j l, all_met h e j l);
  }
