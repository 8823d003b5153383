-- Through the exports too depot and reader learn nothing of the production entries: number, report, worth and every other lent cell are the same.
-- Entering a case, which takes no role, tells nothing of what the store held before. Assumes nothing.
use mathlib.Core.Path.{◌≡◌, refl, sym, ap, ap₂, ◌∙◌}
use mathlib.Core.Logic.{◌⊎◌, inl, inr, ⊎_elim}
use mathlib.Core.Bool.{Bool, true, false, cond, ◌||◌}
use mathlib.Core.Option.{Option, none, some}
use mathlib.Core.List.{List, ◌∷◌}
use Prim.Native.Nat.{ℕ}
use lib.Dec.{ltb}
use lib.IntN.{ℤ}
use lib.ListN.{length}
use Rattle.transport.specs.Curve.{written}
use Rattle.problem.specs.Outcome.{Outcome, ◌or_else◌}
use Rattle.problem.proofs.TestsPassed.{second_passes}
use Rattle.planner.specs.Answer.{Slices}
use Rattle.work_store.specs.State.{Draft, State, entered}
use Rattle.work_store.specs.Calls.{Call, go_back}
use Rattle.work_store.specs.Store.{held_in, cells_of}
use Rattle.work_store.specs.Promise.{answer_to, steps, cells_unless, entry_refusal, Entered}
use Rattle.work_store.specs.Seeing.{tariff_answer, table_answer, limits_answer, marks_answer}
use Rattle.work_store.proofs.StoreLength.{kept_length, entered_length}
use Rattle.roletable.specs.Deeds.{work, see_tariff, see_table, plan, test31}
use Rattle.roletable.specs.Promise.{answer_by, PerformedBy, TariffSeen, TableSeen, LimitsSeen, MarksSeen}
use Rattle.roletable.specs.Secrecy.{veiled_held, Alike, Outsider, Asked, act, tariff, table, planning, mark_planning, limits, marks}
use Rattle.roletable.specs.Secrecy as secrecy
use Rattle.roletable.proofs.NonInterference.{same_heard}
use Rattle.export_reports.specs.Report.{number_of, report_of, worth_of, Untold}
use Rattle.yadvorkhul.specs.Work.{verdict_number, verdict_report, CallTold, CallUntold, CallExported, outcome_told, PlanTold, ExportedUnless}
use Rattle.yadvorkhul.specs.Callers.{Called, said, entering, nothing, tariff_cells, table_cells, plan_cells, limit_cells, mark_cells, Got, Answers, Exports, Runs, Outside, ends, calls, enters}

got_eq : (x y : Got) → x.number ≡ y.number → x.report ≡ y.report → x.worth ≡ y.worth → x.lent ≡ y.lent → x ≡ y
got_eq x y a b c d = λ i. record { number = a i; report = b i; worth = c i; lent = d i }

-- what callers of the two stores get is the same, and the stores stay alike and of one length
record Same (x y : Got) (a b : List ℕ) : Type 0 where
  got : x ≡ y
  long : length a ≡ length b
  alike : Alike a b

-- ---- one report for both: it is long enough for both calls or for none

module _ (A A' : Option Outcome) (D D' : Option Outcome → Type 0) (K K' : Type 0) (u v v' : List ℕ) (r r' : ℕ) where
  both : CallExported A D K u v r → CallExported A' D' K' u v' r'
      → (CallTold A D u v r × CallTold A' D' u v' r') ⊎ (CallUntold K u v r × CallUntold K' u v' r')
  unfolding CallExported
  both = go (ltb (length u) 2)
    where
      go : (b : Bool) → cond b (CallUntold K u v r) (CallTold A D u v r) → cond b (CallUntold K' u v' r') (CallTold A' D' u v' r')
          → (CallTold A D u v r × CallTold A' D' u v' r') ⊎ (CallUntold K u v r × CallUntold K' u v' r')
      go true p q = inr (p, q)
      go false p q = inl (p, q)

  told_same : CallTold A D u v r × CallTold A' D' u v' r' → A ≡ A' → (r ≡ r') × (v ≡ v')
  told_same t e = (
    t.0.number ∙ ap verdict_number e ∙ sym t.1.number,
    t.0.cells ∙ ap (λ (o : Option Outcome). written (verdict_report o) u) e ∙ sym t.1.cells,
  )

  untold_same : CallUntold K u v r × CallUntold K' u v' r' → (r ≡ r') × (v ≡ v')
  untold_same t = (t.0.number ∙ sym t.1.number, t.0.cells ∙ sym t.1.cells)

module _ (t t' : Option Outcome) (held held' : Option State) (old new new' : Slices) (u v v' : List ℕ) (w y y' : List ℤ) (r r' : ℕ) where
  plan_both : ExportedUnless t held old new u v w y r → ExportedUnless t' held' old new' u v' w y' r'
      → (PlanTold t held old new u v w y r × PlanTold t' held' old new' u v' w y' r') ⊎ (Untold old new u v w y r × Untold old new' u v' w y' r')
  unfolding ExportedUnless
  plan_both = go (ltb (length u) 2 || ltb (length w) 2)
    where
      go : (b : Bool) → cond b (Untold old new u v w y r) (PlanTold t held old new u v w y r) → cond b (Untold old new' u v' w y' r') (PlanTold t' held' old new' u v' w y' r')
          → (PlanTold t held old new u v w y r × PlanTold t' held' old new' u v' w y' r') ⊎ (Untold old new u v w y r × Untold old new' u v' w y' r')
      go true p q = inr (p, q)
      go false p q = inl (p, q)

  plan_told_same : PlanTold t held old new u v w y r × PlanTold t' held' old new' u v' w y' r' → outcome_told t held old ≡ outcome_told t' held' old
      → (r ≡ r') × (v ≡ v') × (y ≡ y')
  plan_told_same p e = (
    p.0.number ∙ ap number_of e ∙ sym p.1.number,
    p.0.cells ∙ ap (λ (o : Outcome). written (report_of o) u) e ∙ sym p.1.cells,
    p.0.values ∙ ap (λ (o : Outcome). written (worth_of o) w) e ∙ sym p.1.values,
  )

-- ---- what is heard, taken apart

verdict_eq : (o p : Option Outcome) → secrecy.verdict o ≡ secrecy.verdict p → o ≡ p
verdict_eq o p e = cc

entries_eq : (o p : Option Outcome) (t s : List ℕ) → secrecy.entries o t ≡ secrecy.entries p s → (o ≡ p) × (t ≡ s)
entries_eq o p t s e = (cc, cc)

flags_eq : (o p : Option Outcome) (t s : List ℕ) → secrecy.flags o t ≡ secrecy.flags p s → (o ≡ p) × (t ≡ s)
flags_eq o p t s e = (cc, cc)

runs_eq : (o p : Option Outcome) (t s a b : List ℕ) → secrecy.runs o t a ≡ secrecy.runs p s b → (o ≡ p) × (t ≡ s) × (a ≡ b)
runs_eq o p t s a b e = (cc, cc, cc)

costs_eq : (o p : Option Outcome) (c k : List ℤ) (t s a b : List ℕ) → secrecy.costs o c t a ≡ secrecy.costs p k s b → (o ≡ p) × (c ≡ k) × (t ≡ s) × (a ≡ b)
costs_eq o p c k t s a b e = (cc, cc, cc, cc)

plan_eq : (o p : Outcome) (t s : Slices) → secrecy.plan o t ≡ secrecy.plan p s → (o ≡ p) × (t ≡ s)
plan_eq o p t s e = (cc, cc)

tariff_lent : {c k : List ℤ} {t s a b : List ℕ} → c ≡ k → t ≡ s → a ≡ b → tariff_cells c t a ≡ tariff_cells k s b
tariff_lent x y z = λ i. tariff_cells (x i) (y i) (z i)

-- ---- one call of depot or reader on two stores

module _ (role : ℕ) (out : Outsider role) (a b : List ℕ) (long : length a ≡ length b) (alike : Alike a b) (u : List ℕ) (w : List ℤ) (a' b' : List ℕ) (x y : Got) where
  performed_long : (call : Call) (c c' : List ℕ) (r : Option Outcome) → PerformedBy role call c c' r → length c' ≡ length c
  unfolding answer_by
  performed_long call c c' r p =
      kept_length call c c' r (λ e. second_passes (test31 role (work call)) (answer_to call (held_in c)) (sym p.answer ∙ e)) p.cells

  -- the stores stay as they are
  stays : x ≡ y → a' ≡ a → b' ≡ b → Same x y a' b'
  stays g e f = record {
    got = g;
    long = ap length e ∙ long ∙ sym (ap length f);
    alike = ap (λ (l : List ℕ). veiled_held (held_in l)) e ∙ alike ∙ sym (ap (λ (l : List ℕ). veiled_held (held_in l)) f);
  }

  act_same : (call : Call) → Answers role (act call) u w a a' x → Answers role (act call) u w b b' y → Same x y a' b'
  act_same call p q = ⊎_elim told untold (both A A' (PerformedBy role call a a') (PerformedBy role call b b') (a' ≡ a) (b' ≡ b) u x.report y.report x.number y.number p.0 q.0)
    where
      A : Option Outcome
      A = answer_by role call (held_in a)

      A' : Option Outcome
      A' = answer_by role call (held_in b)

      told : CallTold A (PerformedBy role call a a') u x.report x.number × CallTold A' (PerformedBy role call b b') u y.report y.number → Same x y a' b'
      told t =
          let h = same_heard role out a b alike (act call) a' b' (secrecy.verdict A) (secrecy.verdict A')
          (record { r = A; done = t.0.done; gets = refl }) (record { r = A'; done = t.1.done; gets = refl }) in
          let s = told_same A A' (PerformedBy role call a a') (PerformedBy role call b b') (a' ≡ a) (b' ≡ b) u x.report y.report x.number y.number t (verdict_eq A A' h.0) in
          record {
            got = got_eq x y s.0 s.1 (p.1 ∙ sym q.1) (p.2 ∙ sym q.2);
            long = performed_long call a a' A t.0.done ∙ long ∙ sym (performed_long call b b' A' t.1.done);
            alike = h.1;
          }

      untold : CallUntold (a' ≡ a) u x.report x.number × CallUntold (b' ≡ b) u y.report y.number → Same x y a' b'
      untold t =
          let s = untold_same A A' (PerformedBy role call a a') (PerformedBy role call b b') (a' ≡ a) (b' ≡ b) u x.report y.report x.number y.number t in
          stays (got_eq x y s.0 s.1 (p.1 ∙ sym q.1) (p.2 ∙ sym q.2)) t.0.kept t.1.kept

  tariff_same : (c : List ℤ) (s d : List ℕ) → Answers role (tariff c s d) u w a a' x → Answers role (tariff c s d) u w b b' y → Same x y a' b'
  tariff_same c s d p q = stays (⊎_elim told untold (both A A' D D' K K' u x.report y.report x.number y.number p.3 q.3)) p.6 q.6
    where
      A : Option Outcome
      A = test31 role see_tariff or_else tariff_answer (length c) (length s) (length d) (held_in a)

      A' : Option Outcome
      A' = test31 role see_tariff or_else tariff_answer (length c) (length s) (length d) (held_in b)

      D : Option Outcome → Type 0
      D = TariffSeen role (held_in a) c s d p.0 p.1 p.2

      D' : Option Outcome → Type 0
      D' = TariffSeen role (held_in b) c s d q.0 q.1 q.2

      K : Type 0
      K = (p.0 ≡ c) × (p.1 ≡ s) × (p.2 ≡ d)

      K' : Type 0
      K' = (q.0 ≡ c) × (q.1 ≡ s) × (q.2 ≡ d)

      told : CallTold A D u x.report x.number × CallTold A' D' u y.report y.number → x ≡ y
      told t =
          let h = same_heard role out a b alike (tariff c s d) a' b' (secrecy.costs A p.0 p.1 p.2) (secrecy.costs A' q.0 q.1 q.2)
          (record { r = A; c' = p.0; s' = p.1; d' = p.2; seen = t.0.done; gets = refl; stays = p.6 })
          (record { r = A'; c' = q.0; s' = q.1; d' = q.2; seen = t.1.done; gets = refl; stays = q.6 }) in
          let e = costs_eq A A' p.0 q.0 p.1 q.1 p.2 q.2 h.0 in
          let n = told_same A A' D D' K K' u x.report y.report x.number y.number t e.0 in
          got_eq x y n.0 n.1 (p.4 ∙ sym q.4) (p.5 ∙ tariff_lent e.1 e.2 e.3 ∙ sym q.5)

      untold : CallUntold K u x.report x.number × CallUntold K' u y.report y.number → x ≡ y
      untold t =
          let k = t.0.kept in
          let j = t.1.kept in
          let n = untold_same A A' D D' K K' u x.report y.report x.number y.number t in
          got_eq x y n.0 n.1 (p.4 ∙ sym q.4) (p.5 ∙ tariff_lent (k.0 ∙ sym j.0) (k.1 ∙ sym j.1) (k.2 ∙ sym j.2) ∙ sym q.5)

  table_same : (l : List ℕ) → Answers role (table l) u w a a' x → Answers role (table l) u w b b' y → Same x y a' b'
  table_same l p q = stays (⊎_elim told untold (both A A' D D' K K' u x.report y.report x.number y.number p.1 q.1)) p.4 q.4
    where
      A : Option Outcome
      A = test31 role see_table or_else table_answer (length l) (held_in a)

      A' : Option Outcome
      A' = test31 role see_table or_else table_answer (length l) (held_in b)

      D : Option Outcome → Type 0
      D = TableSeen role (held_in a) l p.0

      D' : Option Outcome → Type 0
      D' = TableSeen role (held_in b) l q.0

      K : Type 0
      K = p.0 ≡ l

      K' : Type 0
      K' = q.0 ≡ l

      told : CallTold A D u x.report x.number × CallTold A' D' u y.report y.number → x ≡ y
      told t =
          let h = same_heard role out a b alike (table l) a' b' (secrecy.entries A p.0) (secrecy.entries A' q.0)
          (record { r = A; t' = p.0; seen = t.0.done; gets = refl; stays = p.4 }) (record { r = A'; t' = q.0; seen = t.1.done; gets = refl; stays = q.4 }) in
          let e = entries_eq A A' p.0 q.0 h.0 in
          let n = told_same A A' D D' K K' u x.report y.report x.number y.number t e.0 in
          got_eq x y n.0 n.1 (p.2 ∙ sym q.2) (p.3 ∙ ap table_cells e.1 ∙ sym q.3)

      untold : CallUntold K u x.report x.number × CallUntold K' u y.report y.number → x ≡ y
      untold t =
          let n = untold_same A A' D D' K K' u x.report y.report x.number y.number t in
          got_eq x y n.0 n.1 (p.2 ∙ sym q.2) (p.3 ∙ ap table_cells (t.0.kept ∙ sym t.1.kept) ∙ sym q.3)

  marks_same : (l : List ℕ) → Answers role (marks l) u w a a' x → Answers role (marks l) u w b b' y → Same x y a' b'
  marks_same l p q = stays (⊎_elim told untold (both A A' D D' K K' u x.report y.report x.number y.number p.1 q.1)) p.4 q.4
    where
      A : Option Outcome
      A = test31 role plan or_else marks_answer (length l) (held_in a)

      A' : Option Outcome
      A' = test31 role plan or_else marks_answer (length l) (held_in b)

      D : Option Outcome → Type 0
      D = MarksSeen role (held_in a) l p.0

      D' : Option Outcome → Type 0
      D' = MarksSeen role (held_in b) l q.0

      K : Type 0
      K = p.0 ≡ l

      K' : Type 0
      K' = q.0 ≡ l

      told : CallTold A D u x.report x.number × CallTold A' D' u y.report y.number → x ≡ y
      told t =
          let h = same_heard role out a b alike (marks l) a' b' (secrecy.flags A p.0) (secrecy.flags A' q.0)
          (record { r = A; f' = p.0; seen = t.0.done; gets = refl; stays = p.4 }) (record { r = A'; f' = q.0; seen = t.1.done; gets = refl; stays = q.4 }) in
          let e = flags_eq A A' p.0 q.0 h.0 in
          let n = told_same A A' D D' K K' u x.report y.report x.number y.number t e.0 in
          got_eq x y n.0 n.1 (p.2 ∙ sym q.2) (p.3 ∙ ap mark_cells e.1 ∙ sym q.3)

      untold : CallUntold K u x.report x.number × CallUntold K' u y.report y.number → x ≡ y
      untold t =
          let n = untold_same A A' D D' K K' u x.report y.report x.number y.number t in
          got_eq x y n.0 n.1 (p.2 ∙ sym q.2) (p.3 ∙ ap mark_cells (t.0.kept ∙ sym t.1.kept) ∙ sym q.3)

  limits_same : (l c : List ℕ) → Answers role (limits l c) u w a a' x → Answers role (limits l c) u w b b' y → Same x y a' b'
  limits_same l c p q = stays (⊎_elim told untold (both A A' D D' K K' u x.report y.report x.number y.number p.2 q.2)) p.5 q.5
    where
      A : Option Outcome
      A = test31 role plan or_else limits_answer (length l) (length c) (held_in a)

      A' : Option Outcome
      A' = test31 role plan or_else limits_answer (length l) (length c) (held_in b)

      D : Option Outcome → Type 0
      D = LimitsSeen role (held_in a) l c p.0 p.1

      D' : Option Outcome → Type 0
      D' = LimitsSeen role (held_in b) l c q.0 q.1

      K : Type 0
      K = (p.0 ≡ l) × (p.1 ≡ c)

      K' : Type 0
      K' = (q.0 ≡ l) × (q.1 ≡ c)

      told : CallTold A D u x.report x.number × CallTold A' D' u y.report y.number → x ≡ y
      told t =
          let h = same_heard role out a b alike (limits l c) a' b' (secrecy.runs A p.0 p.1) (secrecy.runs A' q.0 q.1)
          (record { r = A; u' = p.0; c' = p.1; seen = t.0.done; gets = refl; stays = p.5 })
          (record { r = A'; u' = q.0; c' = q.1; seen = t.1.done; gets = refl; stays = q.5 }) in
          let e = runs_eq A A' p.0 q.0 p.1 q.1 h.0 in
          let n = told_same A A' D D' K K' u x.report y.report x.number y.number t e.0 in
          got_eq x y n.0 n.1 (p.3 ∙ sym q.3) (p.4 ∙ ap₂ limit_cells e.1 e.2 ∙ sym q.4)

      untold : CallUntold K u x.report x.number × CallUntold K' u y.report y.number → x ≡ y
      untold t =
          let k = t.0.kept in
          let j = t.1.kept in
          let n = untold_same A A' D D' K K' u x.report y.report x.number y.number t in
          got_eq x y n.0 n.1 (p.3 ∙ sym q.3) (p.4 ∙ ap₂ limit_cells (k.0 ∙ sym j.0) (k.1 ∙ sym j.1) ∙ sym q.4)

  planning_same : (old : Slices) → Answers role (planning old) u w a a' x → Answers role (planning old) u w b b' y → Same x y a' b'
  planning_same old p q =
      stays (⊎_elim told untold (plan_both t t (held_in a) (held_in b) old p.0 q.0 u x.report y.report w x.worth y.worth x.number y.number p.1 q.1)) p.3 q.3
    where
      t : Option Outcome
      t = test31 role plan

      told : PlanTold t (held_in a) old p.0 u x.report w x.worth x.number × PlanTold t (held_in b) old q.0 u y.report w y.worth y.number → x ≡ y
      told s =
          let h = same_heard role out a b alike (planning old) a' b' (secrecy.plan (outcome_told t (held_in a) old) p.0) (secrecy.plan (outcome_told t (held_in b) old) q.0)
          (record { r = outcome_told t (held_in a) old; new = p.0; done = s.0.planned; gets = refl; stays = p.3 })
          (record { r = outcome_told t (held_in b) old; new = q.0; done = s.1.planned; gets = refl; stays = q.3 }) in
          let e = plan_eq (outcome_told t (held_in a) old) (outcome_told t (held_in b) old) p.0 q.0 h.0 in
          let n = plan_told_same t t (held_in a) (held_in b) old p.0 q.0 u x.report y.report w x.worth y.worth x.number y.number s e.0 in
          got_eq x y n.0 n.1 n.2 (p.2 ∙ ap plan_cells e.1 ∙ sym q.2)

      untold : Untold old p.0 u x.report w x.worth x.number × Untold old q.0 u y.report w y.worth y.number → x ≡ y
      untold s =
          got_eq x y (s.0.number ∙ sym s.1.number) (s.0.cells ∙ sym s.1.cells) (s.0.values ∙ sym s.1.values)
          (p.2 ∙ ap plan_cells (s.0.slices ∙ sym s.1.slices) ∙ sym q.2)

  mark_planning_same : (k : ℕ) (old : Slices) → Answers role (mark_planning k old) u w a a' x → Answers role (mark_planning k old) u w b b' y → Same x y a' b'
  mark_planning_same k old p q =
      stays (⊎_elim told untold
      (plan_both t t' (steps (go_back k) (held_in a)) (steps (go_back k) (held_in b)) old p.0 q.0 u x.report y.report w x.worth y.worth x.number y.number p.1 q.1))
      p.3 q.3
    where
      t : Option Outcome
      t = test31 role plan or_else answer_to (go_back k) (held_in a)

      t' : Option Outcome
      t' = test31 role plan or_else answer_to (go_back k) (held_in b)

      o : Outcome
      o = outcome_told t (steps (go_back k) (held_in a)) old

      o' : Outcome
      o' = outcome_told t' (steps (go_back k) (held_in b)) old

      told : PlanTold t (steps (go_back k) (held_in a)) old p.0 u x.report w x.worth x.number
          × PlanTold t' (steps (go_back k) (held_in b)) old q.0 u y.report w y.worth y.number → x ≡ y
      told s =
          let h = same_heard role out a b alike (mark_planning k old) a' b' (secrecy.plan o p.0) (secrecy.plan o' q.0)
          (record { r = o; new = p.0; done = s.0.planned; gets = refl; stays = p.3 }) (record { r = o'; new = q.0; done = s.1.planned; gets = refl; stays = q.3 }) in
          let e = plan_eq o o' p.0 q.0 h.0 in
          let n = plan_told_same t t' (steps (go_back k) (held_in a)) (steps (go_back k) (held_in b)) old p.0 q.0 u x.report y.report w
          x.worth y.worth x.number y.number s e.0 in
          got_eq x y n.0 n.1 n.2 (p.2 ∙ ap plan_cells e.1 ∙ sym q.2)

      untold : Untold old p.0 u x.report w x.worth x.number × Untold old q.0 u y.report w y.worth y.number → x ≡ y
      untold s =
          got_eq x y (s.0.number ∙ sym s.1.number) (s.0.cells ∙ sym s.1.cells) (s.0.values ∙ sym s.1.values)
          (p.2 ∙ ap plan_cells (s.0.slices ∙ sym s.1.slices) ∙ sym q.2)

  said_same : (ask : Asked) → Answers role ask u w a a' x → Answers role ask u w b b' y → Same x y a' b'
  said_same (act call) p q = act_same call p q
  said_same (tariff c s d) p q = tariff_same c s d p q
  said_same (table l) p q = table_same l p q
  said_same (planning old) p q = planning_same old p q
  said_same (mark_planning k old) p q = mark_planning_same k old p q
  said_same (limits l c) p q = limits_same l c p q
  said_same (marks l) p q = marks_same l p q

-- ---- entering, into stores of one length

module _ (d : Draft) (u : List ℕ) (a b : List ℕ) (long : length a ≡ length b) (alike : Alike a b) (a' b' : List ℕ) (x y : Got) where
  same_answer : entry_refusal d (length a) ≡ entry_refusal d (length b)
  same_answer = ap (entry_refusal d) long

  entered_alike : Entered d a a' (entry_refusal d (length a)) → Entered d b b' (entry_refusal d (length b)) → Alike a' b'
  entered_alike p q = go (entry_refusal d (length a)) refl
    where
      go : (o : Option Outcome) → entry_refusal d (length a) ≡ o → Alike a' b'
      go none e = ap veiled_held (p.state e ∙ sym (q.state (sym same_answer ∙ e)))
      go (some o) e =
          let f : a' ≡ a = p.cells ∙ ap (λ (t : Option Outcome). cells_unless t (written (cells_of d) a) a) e in
          let g : b' ≡ b = q.cells ∙ ap (λ (t : Option Outcome). cells_unless t (written (cells_of d) b) b) (sym same_answer ∙ e) in
          ap (λ (l : List ℕ). veiled_held (held_in l)) f ∙ alike ∙ sym (ap (λ (l : List ℕ). veiled_held (held_in l)) g)

  entering_same : Exports (entering d u) a a' x → Exports (entering d u) b b' y → Same x y a' b'
  entering_same p q = ⊎_elim told untold (both A A' (Entered d a a') (Entered d b b') (a' ≡ a) (b' ≡ b) u x.report y.report x.number y.number p.0 q.0)
    where
      A : Option Outcome
      A = entry_refusal d (length a)

      A' : Option Outcome
      A' = entry_refusal d (length b)

      told : CallTold A (Entered d a a') u x.report x.number × CallTold A' (Entered d b b') u y.report y.number → Same x y a' b'
      told t =
          let s = told_same A A' (Entered d a a') (Entered d b b') (a' ≡ a) (b' ≡ b) u x.report y.report x.number y.number t same_answer in
          record {
            got = got_eq x y s.0 s.1 (p.1 ∙ sym q.1) (p.2 ∙ sym q.2);
            long = entered_length d a a' A t.0.done ∙ long ∙ sym (entered_length d b b' A' t.1.done);
            alike = entered_alike t.0.done t.1.done;
          }

      untold : CallUntold (a' ≡ a) u x.report x.number × CallUntold (b' ≡ b) u y.report y.number → Same x y a' b'
      untold t =
          let s = untold_same A A' (Entered d a a') (Entered d b b') (a' ≡ a) (b' ≡ b) u x.report y.report x.number y.number t in
          let f = t.0.kept in
          let g = t.1.kept in
          record {
            got = got_eq x y s.0 s.1 (p.1 ∙ sym q.1) (p.2 ∙ sym q.2);
            long = ap length f ∙ long ∙ sym (ap length g);
            alike = ap (λ (l : List ℕ). veiled_held (held_in l)) f ∙ alike ∙ sym (ap (λ (l : List ℕ). veiled_held (held_in l)) g);
          }

-- two stores of one length, alike but for production entries in the case and its marks, give depot and reader, and whoever enters a case, the same
-- numbers, reports and lent cells, so long as nobody else calls between
pub exports_non_interference : {h : List Called} → Outside h → (a b a' b' : List ℕ) (l k : List Got) → length a ≡ length b → Alike a b → Runs h a a' l
    → Runs h b b' k → l ≡ k
unfolding Runs
exports_non_interference ends a b a' b' l k n e g q = g.1 ∙ sym q.1
exports_non_interference (calls {c} {h} o r) a b a' b' l k n e g q =
    let s = said_same c.role o a b n e c.report c.worth g.0 q.0 g.1 q.1 c.ask g.3 q.3 in
    g.5
    ∙ ap₂ (λ (x : Got) (t : List Got). x ∷ t) s.got (exports_non_interference r g.0 q.0 a' b' g.2 q.2 s.long s.alike g.4 q.4)
    ∙ sym q.5
exports_non_interference (enters {d} {u} {h} r) a b a' b' l k n e g q =
    let s = entering_same d u a b n e g.0 q.0 g.1 q.1 g.3 q.3 in
    g.5
    ∙ ap₂ (λ (x : Got) (t : List Got). x ∷ t) s.got (exports_non_interference r g.0 q.0 a' b' g.2 q.2 s.long s.alike g.4 q.4)
    ∙ sym q.5
