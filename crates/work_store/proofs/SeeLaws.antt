-- Seeing the tariff and the table. Assumes nothing.
use mathlib.Core.Path.{◌≡◌, refl, sym, ap, ap₂, ◌∙◌}
use mathlib.Core.Bool.{Bool, true, false, ◌||◌}
use mathlib.Core.Option.{Option, none, some}
use mathlib.Core.List.{List, map}
use Prim.Native.Nat.{ℕ, ◌+◌, ◌-◌, ◌*◌, ◌≤◌, ◌<◌}
use native.Mathlib.Omega.{arith}
use lib.Dec.{ltb}
use lib.IntN.{ℤ}
use lib.ListN.{length, take, drop, length-map}
use lib.Seq.{paste}
use borrow.Author.Tests.{lt-ltb, le-ltb}
use Rattle.transport.specs.Curve.{written}
use Rattle.problem.specs.Outcome.{Outcome, refused, refuse_if}
use Rattle.std.specs.Prelude.{Ok, Err}
use Rattle.refusal.specs.declared.Cause.TheVariants.{Room}
use Rattle.work_store.specs.State.{Draft, State}
use Rattle.work_store.specs.Store.{supplies_at, demands_at, costs_at, ceilings_at, table_at, in_case, cost_in, entries_in, state_at, held_in}
use Rattle.work_store.specs.Seeing.{tariff_refusal, table_refusal, tariff_answer, table_answer, costs_in, supplies_in, demands_in, table_in, shown_unless, TariffShown, TableShown}
use Rattle.work_store.specs.inner.OpenStore.{laid, Open, opened_of}
use Rattle.work_store.proofs.ListParts.{part_length}
use Rattle.work_store.proofs.RangeCopies.{filled_front}
use Rattle.work_store.proofs.CallRefusals.{or_true}
use Rattle.work_store.proofs.OpenStore.{is_shut, is_found, found_size}
use Rattle.work_store.proofs.CallPromise.{held_none, held_some}
use Rattle.work_store.proofs.CaseCells.{case_cells, room_0, entries_long}

module _ (m n : ℕ) (cells : List ℕ) (op : Open m n cells) where
  costs_long : length (state_at m n cells).case.costs ≡ m * n
  costs_long =
      ap (λ (d : Draft). length d.costs) (case_cells m n cells op) ∙ length-map (take (m * n) (drop (in_case (costs_at m n)) cells)) cost_in
      ∙ part_length (m * n) (in_case (costs_at m n)) cells (omega (arith, room_0 m n cells op))

  supplies_long : length (state_at m n cells).case.supplies ≡ m
  supplies_long = ap (λ (d : Draft). length d.supplies) (case_cells m n cells op) ∙ part_length m (in_case supplies_at) cells (omega (arith, room_0 m n cells op))

  demands_long : length (state_at m n cells).case.demands ≡ n
  demands_long = ap (λ (d : Draft). length d.demands) (case_cells m n cells op) ∙ part_length n (in_case (demands_at m)) cells (omega (arith, room_0 m n cells op))

  module _ (a b c : ℕ) where
    tests : Bool
    tests =
        ltb a (length (state_at m n cells).case.costs)
        || (ltb b (length (state_at m n cells).case.supplies) || ltb c (length (state_at m n cells).case.demands))

    short : tests ≡ true → some (refused 11 0) ≡ tariff_refusal a b c (state_at m n cells).case
    unfolding tariff_refusal refuse_if tests
    short e = sym (ap (refuse_if 11) e)

    pub short_costs : a < m * n → some (refused 11 0) ≡ tariff_refusal a b c (state_at m n cells).case
    unfolding tests
    short_costs h = short (simp (lt-ltb a (length (state_at m n cells).case.costs) (omega (arith, costs_long))))

    pub short_supplies : b < m → some (refused 11 0) ≡ tariff_refusal a b c (state_at m n cells).case
    unfolding tests
    short_supplies h = short (simp (lt-ltb b (length (state_at m n cells).case.supplies) (omega (arith, supplies_long)), or_true))

    pub short_demands : c < n → some (refused 11 0) ≡ tariff_refusal a b c (state_at m n cells).case
    unfolding tests
    short_demands h = short (simp (lt-ltb c (length (state_at m n cells).case.demands) (omega (arith, demands_long)), or_true))

    pub long_enough : m * n ≤ a → m ≤ b → n ≤ c → none ≡ tariff_refusal a b c (state_at m n cells).case
    unfolding tariff_refusal refuse_if
    long_enough x y z =
        sym (ap (refuse_if 11)
        (let e : (ltb a (length (state_at m n cells).case.costs) || (ltb b (length (state_at m n cells).case.supplies) || ltb c (length (state_at m n cells).case.demands))) ≡ false =
        simp (
          le-ltb a (length (state_at m n cells).case.costs) (omega (arith, costs_long)),
          le-ltb b (length (state_at m n cells).case.supplies) (omega (arith, supplies_long)),
          le-ltb c (length (state_at m n cells).case.demands) (omega (arith, demands_long)),
        ) in e))

  -- a part of the store, copied to the front of a lent slice
  pub shown : (x : List ℕ) (o l f k : ℕ) (old new : List ℕ) → x ≡ take l (drop o cells) → f ≡ o → k ≡ l
      → new ≡ paste old 0 (take k (drop f cells)) (length (take k (drop f cells))) → new ≡ written x old
  shown x o l f k old new e p q g =
      g ∙ filled_front (take k (drop f cells)) old ∙ ap (λ (s : List ℕ). written s old) (ap₂ (λ (i j : ℕ). take i (drop j cells)) q p ∙ sym e)

  module _ (a b c : ℕ) (ea : a ≡ in_case (demands_at m)) (eb : b ≡ in_case (costs_at m n)) (ec : c ≡ in_case (ceilings_at m n)) where
    pub costs_shown : (old new : List ℤ) → new ≡ written (map cost_in (take (c - b) (drop b cells))) old → new ≡ written (state_at m n cells).case.costs old
    costs_shown old new g =
        let y : c - b ≡ m * n = omega arith in
        g ∙ ap (λ (s : List ℤ). written s old)
        (ap₂ (λ (i j : ℕ). map cost_in (take i (drop j cells))) y eb ∙ sym (ap (λ (d : Draft). d.costs) (case_cells m n cells op)))

    pub supplies_shown : (old new : List ℕ) → new ≡ paste old 0 (take (a - in_case supplies_at) (drop (in_case supplies_at) cells)) (length (take (a - in_case supplies_at) (drop (in_case supplies_at) cells)))
        → new ≡ written (state_at m n cells).case.supplies old
    supplies_shown old new =
        shown (state_at m n cells).case.supplies (in_case supplies_at) m (in_case supplies_at) (a - in_case supplies_at) old new
        (ap (λ (d : Draft). d.supplies) (case_cells m n cells op)) refl (omega arith)

    pub demands_shown : (old new : List ℕ) → new ≡ paste old 0 (take (b - a) (drop a cells)) (length (take (b - a) (drop a cells)))
        → new ≡ written (state_at m n cells).case.demands old
    demands_shown old new =
        shown (state_at m n cells).case.demands (in_case (demands_at m)) n a (b - a) old new (ap (λ (d : Draft). d.demands) (case_cells m n cells op)) ea (omega arith)

  module _ (count d : ℕ) (e : count ≡ entries_in cells) (ed : d ≡ in_case (table_at m n)) where
    pub table_shown : (old new : List ℕ) → new ≡ paste old 0 (take (d + count - d) (drop d cells)) (length (take (d + count - d) (drop d cells)))
        → new ≡ written (state_at m n cells).case.table old
    table_shown old new =
        shown (state_at m n cells).case.table (in_case (table_at m n)) (entries_in cells) d (d + count - d) old new (ap (λ (z : Draft). z.table) (case_cells m n cells op)) ed (omega arith)

    pub short_table : (a : ℕ) → a < count → some (refused 11 0) ≡ table_refusal a (state_at m n cells).case
    unfolding table_refusal refuse_if
    short_table a h = sym (ap (refuse_if 11) (lt-ltb a (length (state_at m n cells).case.table) (omega (arith, entries_long m n cells op))))

    pub long_table : (a : ℕ) → count ≤ a → none ≡ table_refusal a (state_at m n cells).case
    unfolding table_refusal refuse_if
    long_table a h = sym (ap (refuse_if 11) (le-ltb a (length (state_at m n cells).case.table) (omega (arith, entries_long m n cells op))))

-- ---- the promises

module _ (cells : List ℕ) where
  pub tariff_closed : (c : List ℤ) (s d : List ℕ) → opened_of cells ≡ Err Room → TariffShown (held_in cells) c s d c s d (some (refused 11 0))
  tariff_closed c s d e = record {
    answer = sym (ap (tariff_answer (length c) (length s) (length d)) (held_none cells (is_shut cells e)));
    costs = refl;
    supplies = refl;
    demands = refl;
  }

  pub table_closed : (t : List ℕ) → opened_of cells ≡ Err Room → TableShown (held_in cells) t t (some (refused 11 0))
  table_closed t e = record { answer = sym (ap (table_answer (length t)) (held_none cells (is_shut cells e))); table = refl }

  module _ (m n : ℕ) (e : opened_of cells ≡ Ok (laid m n)) where
    pub held_is : some (state_at m n cells) ≡ held_in cells
    held_is =
        let z = found_size cells m n e in
        sym (held_some cells (is_found cells m n e) ∙ ap₂ (λ (a b : ℕ). some (state_at a b cells)) z.0 z.1)

    pub tariff_work : (c c' : List ℤ) (s d s' d' : List ℕ) (r : Option Outcome) → r ≡ tariff_refusal (length c) (length s) (length d) (state_at m n cells).case
        → c' ≡ shown_unless r (state_at m n cells).case.costs c → s' ≡ shown_unless r (state_at m n cells).case.supplies s
        → d' ≡ shown_unless r (state_at m n cells).case.demands d → TariffShown (held_in cells) c s d c' s' d' r
    tariff_work c c' s d s' d' r er ec es ed = record {
      answer = er ∙ ap (tariff_answer (length c) (length s) (length d)) held_is;
      costs = ec ∙ ap (λ (o : Option State). shown_unless r (costs_in o) c) held_is;
      supplies = es ∙ ap (λ (o : Option State). shown_unless r (supplies_in o) s) held_is;
      demands = ed ∙ ap (λ (o : Option State). shown_unless r (demands_in o) d) held_is;
    }

    pub table_work : (t t' : List ℕ) (r : Option Outcome) → r ≡ table_refusal (length t) (state_at m n cells).case → t' ≡ shown_unless r (state_at m n cells).case.table t
        → TableShown (held_in cells) t t' r
    table_work t t' r er et = record {
      answer = er ∙ ap (table_answer (length t)) held_is;
      table = et ∙ ap (λ (o : Option State). shown_unless r (table_in o) t) held_is;
    }
