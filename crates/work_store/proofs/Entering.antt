-- Entering: what is written is what is held. Assumes nothing.
use mathlib.Core.Path.{◌≡◌, refl, sym, ap, ap₂, ◌∙◌}
use mathlib.Core.Bool.{Bool, true, false, cond}
use mathlib.Core.Option.{none, some}
use mathlib.Core.List.{List, [], ◌∷◌, ◌++◌, map, append_assoc}
use Prim.Native.Nat.{ℕ, suc, min, ◌+◌, ◌-◌, ◌*◌, ◌≤◌, ◌<◌}
use native.Mathlib.Omega.{arith}
use lib.Dec.{eqb, ltb}
use lib.ListN.{length, get_or, take, drop, replicate, length-append, length-drop, length-map, get_or-replicate, get_or-append}
use lib.Seq.{paste, take_at, drop_at, drop-append-add, drop-drop, take-length}
use borrow.Author.Tests.{le-leb, lt-ltb, le-ltb}
use Rattle.transport.specs.Curve.{written}
use Rattle.problem.specs.Range.{raised_of}
use Rattle.problem.specs.Outcome.{Outcome, refused, refuse_if, form_refusal}
use Rattle.problem.proofs.TestsPassed.{formed, first_decides, second_decides}
use Rattle.work_store.specs.State.{Draft, lent_with, entered}
use Rattle.work_store.specs.Calls.{absent}
use Rattle.work_store.specs.Store.{cells_for, supplies_at, demands_at, costs_at, ceilings_at, table_at, in_case, width, slot, cost_in, entries_for}
use Rattle.work_store.specs.Store.{draft_in, mark_in, state_at, signature, opens, signed, in_limits, held_in, header, cells_of}
use Rattle.work_store.specs.Promise.{entry_refusal, Entered}
use Rattle.work_store.specs.inner.OpenStore.{Sized}
use Rattle.work_store.proofs.ListParts.{part_at}
use Rattle.work_store.proofs.Slots.{case_part, case_cell}
use Rattle.work_store.proofs.CostLaws.{costs_back}
use Rattle.work_store.proofs.StoreInSlot.{draft_eq}
use Rattle.work_store.proofs.StateAfterWrites.{state_eq, inside}

-- ---- one list written after another

written_more : (x s d : List ℕ) (at : ℕ) → length x ≡ at → paste (written x d) at s (length s) ≡ written (x ++ s) d
written_more x s d at e =
    ap₂ (λ (a b : List ℕ). a ++ take (length s) s ++ b) (take_at x (drop (length x) d) at e) tail
    ∙ ap₂ (λ (a b : List ℕ). x ++ a ++ b) (take-length s) rest
  where
    tail : drop (at + length s) (written x d) ≡ drop (length s) (drop (length x) d)
    tail = ap (λ (k : ℕ). drop (k + length s) (written x d)) (sym e) ∙ drop-append-add x (drop (length x) d) (length s)

    rest : drop (length s) (drop (length x) d) ≡ drop (length (x ++ s)) d
    rest = drop-drop (length s) (length x) d ∙ ap (λ (k : ℕ). drop k d) (sym (length-append x s))

pub written_length : (x d : List ℕ) → length x ≤ length d → length (written x d) ≡ length d
written_length x d h = length-append x (drop (length x) d) ∙ omega (arith, length-drop (length x) d)

-- the part that x is, after p and before q
part_is : (p x q : List ℕ) (o l : ℕ) → length p ≡ o → length x ≡ l → take l (drop o (p ++ x ++ q)) ≡ x
part_is p x q o l a b =
    ap (λ (k : List ℕ). take l (drop o k)) (append_assoc p x q) ∙ ap (take l) (drop_at p (x ++ q) o a) ∙ take_at x q l b

-- ---- the cells of an entered case

two : (x t w : List ℕ) → x ++ t ++ w ≡ x ++ (t ++ w)
two x t w = append_assoc x t w

three : (x u t w : List ℕ) → x ++ u ++ t ++ w ≡ x ++ (u ++ (t ++ w))
three x u t w = simp append_assoc

four : (x c u t w : List ℕ) → x ++ c ++ u ++ t ++ w ≡ x ++ (c ++ (u ++ (t ++ w)))
four x c u t w = simp append_assoc

five : (x d c u t w : List ℕ) → x ++ d ++ c ++ u ++ t ++ w ≡ x ++ (d ++ (c ++ (u ++ (t ++ w))))
five x d c u t w = simp append_assoc

six : (x s d c u t w : List ℕ) → x ++ s ++ d ++ c ++ u ++ t ++ w ≡ x ++ (s ++ (d ++ (c ++ (u ++ (t ++ w)))))
six x s d c u t w = simp append_assoc

module _ (d : Draft) (before : List ℕ) (z : Sized d before) where
  raised : List ℕ
  raised = map raised_of d.costs

  len_s : length (header d ++ d.supplies) ≡ in_case (demands_at d.m)
  len_s = omega (arith, length-append (header d) d.supplies, z.supplies_long)

  len_d : length (header d ++ d.supplies ++ d.demands) ≡ in_case (costs_at d.m d.n)
  len_d = omega (arith, length-append (header d ++ d.supplies) d.demands, len_s, z.demands_long)

  raised_long : length (map raised_of d.costs) ≡ d.m * d.n
  raised_long = length-map d.costs raised_of ∙ z.costs_long

  len_c : length (header d ++ d.supplies ++ d.demands ++ map raised_of d.costs) ≡ in_case (ceilings_at d.m d.n)
  len_c = omega (arith, length-append (header d ++ d.supplies ++ d.demands) (map raised_of d.costs), len_d, raised_long)

  len_u : length (header d ++ d.supplies ++ d.demands ++ map raised_of d.costs ++ d.ceilings) ≡ in_case (table_at d.m d.n)
  len_u = omega (arith, length-append (header d ++ d.supplies ++ d.demands ++ map raised_of d.costs) d.ceilings, len_c, z.ceilings_long)

  entry_length : length (cells_of d) ≡ in_case (table_at d.m d.n) + (get_or d.supplies 0 0 + 1)
  unfolding cells_of
  entry_length =
      omega (arith, length-append (header d ++ d.supplies ++ d.demands ++ map raised_of d.costs ++ d.ceilings) d.table, len_u, z.table_long)

  pub entry_fits : length (cells_of d) ≤ length before
  unfolding cells_for
  entry_fits = omega (arith, entry_length, z.opening.room, z.first_small)

  tail : List ℕ
  tail = drop (length (cells_of d)) before

  cells : List ℕ
  cells = written (cells_of d) before

  head_at : (i : ℕ) → i < 13 → get_or cells i 0 ≡ get_or (header d) i 0
  unfolding cells_of cells tail raised
  head_at i h =
      ap (λ (l : List ℕ). get_or l i 0) (six (header d) d.supplies d.demands raised d.ceilings d.table tail)
      ∙ get_or-append (header d) (d.supplies ++ (d.demands ++ (raised ++ (d.ceilings ++ (d.table ++ tail))))) 0 i (let q : i < 13 = h in q)

  supplies_at_lem : take d.m (drop (in_case supplies_at) cells) ≡ d.supplies
  unfolding cells_of cells tail raised
  supplies_at_lem =
      ap (λ (l : List ℕ). take d.m (drop 13 l)) (five (header d ++ d.supplies) d.demands raised d.ceilings d.table tail)
      ∙ part_is (header d) d.supplies _ 13 d.m refl z.supplies_long

  demands_at_lem : take d.n (drop (in_case (demands_at d.m)) cells) ≡ d.demands
  unfolding cells_of cells tail raised
  demands_at_lem =
      ap (λ (l : List ℕ). take d.n (drop (in_case (demands_at d.m)) l)) (four (header d ++ d.supplies ++ d.demands) raised d.ceilings d.table tail)
      ∙ part_is (header d ++ d.supplies) d.demands _ (in_case (demands_at d.m)) d.n len_s z.demands_long

  costs_at_lem : take (d.m * d.n) (drop (in_case (costs_at d.m d.n)) cells) ≡ map raised_of d.costs
  unfolding cells_of cells tail raised
  costs_at_lem =
      ap (λ (l : List ℕ). take (d.m * d.n) (drop (in_case (costs_at d.m d.n)) l)) (three (header d ++ d.supplies ++ d.demands ++ raised) d.ceilings d.table tail)
      ∙ part_is (header d ++ d.supplies ++ d.demands) raised _ (in_case (costs_at d.m d.n)) (d.m * d.n) len_d raised_long

  ceilings_at_lem : take (d.m * d.n) (drop (in_case (ceilings_at d.m d.n)) cells) ≡ d.ceilings
  unfolding cells_of cells tail raised
  ceilings_at_lem =
      ap (λ (l : List ℕ). take (d.m * d.n) (drop (in_case (ceilings_at d.m d.n)) l)) (two (header d ++ d.supplies ++ d.demands ++ raised ++ d.ceilings) d.table tail)
      ∙ part_is (header d ++ d.supplies ++ d.demands ++ raised) d.ceilings _ (in_case (ceilings_at d.m d.n)) (d.m * d.n) len_c z.ceilings_long

  table_at_lem : take (get_or d.supplies 0 0 + 1) (drop (in_case (table_at d.m d.n)) cells) ≡ d.table
  unfolding cells_of cells
  table_at_lem =
      part_is (header d ++ d.supplies ++ d.demands ++ map raised_of d.costs ++ d.ceilings) d.table _ (in_case (table_at d.m d.n)) (get_or d.supplies 0 0 + 1) len_u z.table_long

  room : cells_for d.m d.n ≤ length cells
  unfolding cells
  room = omega (arith, written_length (cells_of d) before entry_fits, z.opening.room)

  first_is : get_or (slot d.m d.n 0 cells) supplies_at 0 ≡ get_or d.supplies 0 0
  unfolding width
  first_is =
      case_cell d.m d.n cells room 2 (omega arith)
      ∙ sym (part_at d.m 13 cells 0 (omega (arith, z.opening.two)))
      ∙ ap (λ (l : List ℕ). get_or l 0 0) supplies_at_lem

  entered_draft : draft_in d.m d.n (slot d.m d.n 0 cells) ≡ d
  unfolding draft_in width entries_for
  entered_draft =
      let m = d.m in
      let n = d.n in
      draft_eq m n (case_cell m n cells room 0 (omega arith) ∙ head_at 11 (omega arith)) (case_cell m n cells room 1 (omega arith) ∙ head_at 12 (omega arith))
      (case_part m n cells room supplies_at m (omega arith) ∙ supplies_at_lem) (case_part m n cells room (demands_at m) n (omega arith) ∙ demands_at_lem)
      (ap (map cost_in) (case_part m n cells room (costs_at m n) (m * n) (omega arith) ∙ costs_at_lem) ∙ costs_back d.costs z.costs_inside)
      (case_part m n cells room (ceilings_at m n) (m * n) (omega arith) ∙ ceilings_at_lem)
      (ap (λ (k : ℕ). take k (drop (table_at m n) (slot m n 0 cells))) long
      ∙ case_part m n cells room (table_at m n) (get_or d.supplies 0 0 + 1) (omega (arith, z.first_small)) ∙ table_at_lem)
    where
      long : min (get_or (slot d.m d.n 0 cells) supplies_at 0) 4000 + 1 ≡ get_or d.supplies 0 0 + 1
      long = omega (arith, first_is, z.first_small)

  no_flag : (k : ℕ) → 1 ≤ k → k ≤ 8 → get_or cells (1 + k) 0 ≡ 0
  no_flag k a b =
      head_at (1 + k) (omega arith)
      ∙ ap (λ (i : ℕ). get_or (header d) i 0) (let q : 1 + k ≡ suc (suc (k - 1)) = omega arith in q)
      ∙ get_or-append (replicate 8 0) (signature ∷ d.run1 ∷ d.run2 ∷ []) 0 (k - 1) (let q : k - 1 < 8 = omega arith in q)
      ∙ get_or-replicate 8 (k - 1) 0 0 (omega arith)

  no_mark : (k : ℕ) → mark_in d.m d.n cells k ≡ none
  unfolding mark_in
  no_mark k = go (absent k 8) refl
    where
      go : (t : Bool) → absent k 8 ≡ t → cond t none (cond (eqb (get_or cells (1 + k) 0) 0) none (some (draft_in d.m d.n (slot d.m d.n k cells)))) ≡ none
      go true e = refl
      go false e =
          let i = inside k 8 e in
          ap (λ (v : ℕ). cond (eqb v 0) none (some (draft_in d.m d.n (slot d.m d.n k cells)))) (no_flag k i.0 i.1)

  entered_state : state_at d.m d.n cells ≡ entered d
  unfolding state_at
  entered_state = state_eq _ _ entered_draft no_mark

  pub entered_held : held_in (written (cells_of d) before) ≡ some (entered d)
  unfolding held_in opens in_limits signed cells_of cells
  entered_held =
      let o = z.opening in
      simp (
        le-leb 2 d.m o.two,
        le-leb d.m 32 o.few,
        le-leb 1 d.n o.one,
        le-leb d.n 64 o.many,
        le-leb (cells_for d.m d.n) (length (written (cells_of d) before)) room,
      ) (ap some entered_state)

  -- ---- the six copies that enter a case

  pub filled : (a b c e : ℕ) (s1 s2 s3 s4 s5 s6 : List ℕ) → a ≡ in_case (demands_at d.m) → b ≡ in_case (costs_at d.m d.n)
      → c ≡ in_case (ceilings_at d.m d.n) → e ≡ in_case (table_at d.m d.n)
      → s1 ≡ paste before 0 (header d) 13 → s2 ≡ paste s1 13 d.supplies (length d.supplies) → s3 ≡ paste s2 a d.demands (length d.demands)
      → s4 ≡ paste s3 b (map raised_of d.costs) (length (map raised_of d.costs)) → s5 ≡ paste s4 c d.ceilings (length d.ceilings)
      → s6 ≡ paste s5 e d.table (length d.table) → s6 ≡ written (cells_of d) before
  unfolding cells_of
  filled a b c e s1 s2 s3 s4 s5 s6 ea eb ec ee e1 e2 e3 e4 e5 e6 =
      let h = header d in
      let s = d.supplies in
      let w = d.demands in
      let r = map raised_of d.costs in
      let u = d.ceilings in
      let t = d.table in
      let w2 : s2 ≡ written (h ++ s) before = e2 ∙ ap (λ (l : List ℕ). paste l 13 s (length s)) e1 ∙ written_more h s before 13 refl in
      let w3 : s3 ≡ written (h ++ s ++ w) before = e3 ∙ ap (λ (l : List ℕ). paste l a w (length w)) w2 ∙ written_more (h ++ s) w before a (len_s ∙ sym ea) in
      let w4 : s4 ≡ written (h ++ s ++ w ++ r) before = e4 ∙ ap (λ (l : List ℕ). paste l b r (length r)) w3 ∙ written_more (h ++ s ++ w) r before b (len_d ∙ sym eb) in
      let w5 : s5 ≡ written (h ++ s ++ w ++ r ++ u) before = e5 ∙ ap (λ (l : List ℕ). paste l c u (length u)) w4 ∙ written_more (h ++ s ++ w ++ r) u before c (len_c ∙ sym ec) in
      e6 ∙ ap (λ (l : List ℕ). paste l e t (length t)) w5 ∙ written_more (h ++ s ++ w ++ r ++ u) t before e (len_u ∙ sym ee)

-- ---- what entering promises

module _ (d : Draft) (before : List ℕ) where
  pub entry_form : (r : Outcome) → form_refusal (lent_with d 0 0 0) ≡ some r → Entered d before before (some r)
  unfolding entry_refusal
  entry_form r e = record {
    answer = sym (first_decides (form_refusal (lent_with d 0 0 0)) (refuse_if 11 (ltb (length before) (cells_for d.m d.n))) r e);
    cells = refl;
    state = λ q. let z : ◌≡◌ {A = ℕ} 0 1 = cc in absurd (omega arith);
  }

  module _ (p : form_refusal (lent_with d 0 0 0) ≡ none) where
    pub entry_size : (d.m ≤ 32) × (d.n ≤ 64)
    entry_size = let f = formed (lent_with d 0 0 0) p in (f.few_sources, f.few_terminals)

    pub entry_short : length before < cells_for d.m d.n → Entered d before before (some (refused 11 0))
    unfolding entry_refusal refuse_if
    entry_short h = record {
      answer =
          sym (second_decides (form_refusal (lent_with d 0 0 0)) (refuse_if 11 (ltb (length before) (cells_for d.m d.n))) p
          ∙ ap (refuse_if 11) (lt-ltb (length before) (cells_for d.m d.n) h));
      cells = refl;
      state = λ q. let z : ◌≡◌ {A = ℕ} 0 1 = cc in absurd (omega arith);
    }

    pub entry_sized : cells_for d.m d.n ≤ length before → Sized d before
    entry_sized h =
        let f = formed (lent_with d 0 0 0) p in
        record {
          opening = record { two = f.two_sources; few = f.few_sources; one = f.one_terminal; many = f.few_terminals; room = h };
          supplies_long = f.supplies_long;
          demands_long = f.demands_long;
          costs_long = f.costs_long;
          costs_inside = λ k g. f.cost_inside k (omega (arith, f.costs_long));
          ceilings_long = f.ceilings_long;
          first_small = f.small_supply 0 (omega (arith, f.two_sources));
          table_long = f.table_long;
        }

    pub entry_done : (after : List ℕ) → Sized d before → after ≡ written (cells_of d) before → Entered d before after none
    unfolding entry_refusal refuse_if
    entry_done after z e = record {
      answer =
          sym (second_decides (form_refusal (lent_with d 0 0 0)) (refuse_if 11 (ltb (length before) (cells_for d.m d.n))) p
          ∙ ap (refuse_if 11) (le-ltb (length before) (cells_for d.m d.n) z.opening.room));
      cells = e;
      state = λ q. ap held_in e ∙ entered_held d before z;
    }
