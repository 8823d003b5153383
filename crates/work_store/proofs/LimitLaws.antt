-- Seeing least runs, ceilings, and which marks are set. Assumes nothing.
use mathlib.Core.Path.{◌≡◌, refl, sym, ap, ap₂, ◌∙◌}
use mathlib.Core.Bool.{Bool, true, false, cond, ◌||◌}
use mathlib.Core.Option.{Option, none, some}
use mathlib.Core.List.{List, [], ◌∷◌}
use Prim.Native.Nat.{ℕ, zero, suc, ◌+◌, ◌-◌, ◌*◌, ◌≤◌, ◌<◌}
use native.Mathlib.Omega.{arith}
use lib.Dec.{eqb, ltb}
use lib.ListN.{length, get_or, take, drop}
use lib.Seq.{paste, ext_get_or}
use borrow.Author.Tests.{lt-ltb, le-ltb}
use Rattle.transport.specs.Curve.{written}
use Rattle.transport.specs.Listing.{up_from}
use Rattle.problem.specs.Outcome.{Outcome, refused, refuse_if}
use Rattle.std.specs.Prelude.{Ok, Err}
use Rattle.refusal.specs.declared.Cause.TheVariants.{Room}
use Rattle.work_store.specs.State.{Draft, State}
use Rattle.work_store.specs.Calls.{absent}
use Rattle.work_store.specs.Store.{flag_at, ceilings_at, table_at, in_case, mark_in, draft_in, slot, state_at, held_in}
use Rattle.work_store.specs.Seeing.{limits_refusal, marks_refusal, limits_answer, marks_answer, runs_in, ceilings_in, flag_of, flags_of, flags_in, shown_unless, LimitsShown, MarksShown}
use Rattle.work_store.specs.inner.OpenStore.{laid, Open, opened_of}
use Rattle.work_store.proofs.ListParts.{part_length, part_at}
use Rattle.work_store.proofs.RangeCopies.{filled_front}
use Rattle.work_store.proofs.CallRefusals.{or_true}
use Rattle.work_store.proofs.OpenStore.{is_shut}
use Rattle.work_store.proofs.CallPromise.{held_none}
use Rattle.work_store.proofs.CaseCells.{case_cells, room_0}
use Rattle.work_store.proofs.SeeLaws.{shown, held_is}

two_cells : (o : ℕ) (l : List ℕ) → o + 2 ≤ length l → get_or l o 0 ∷ get_or l (o + 1) 0 ∷ [] ≡ take 2 (drop o l)
two_cells o l h =
    ext_get_or 0 (get_or l o 0 ∷ get_or l (o + 1) 0 ∷ []) (take 2 (drop o l)) (sym (part_length 2 o l h)) (λ i g. at i g)
  where
    at : (i : ℕ) → i < 2 → get_or (get_or l o 0 ∷ get_or l (o + 1) 0 ∷ []) i 0 ≡ get_or (take 2 (drop o l)) i 0
    at zero g = ap (λ (k : ℕ). get_or l k 0) (let z : o ≡ o + 0 = omega arith in z) ∙ sym (part_at 2 o l 0 (omega arith))
    at (suc zero) g = sym (part_at 2 o l 1 (omega arith))
    at (suc (suc i)) g = absurd (omega arith)

module _ (m n : ℕ) (cells : List ℕ) (op : Open m n cells) where
  ceilings_long : length (state_at m n cells).case.ceilings ≡ m * n
  ceilings_long =
      ap (λ (d : Draft). length d.ceilings) (case_cells m n cells op)
      ∙ part_length (m * n) (in_case (ceilings_at m n)) cells (omega (arith, room_0 m n cells op))

  module _ (a b : ℕ) where
    pub short_runs : a < 2 → some (refused 11 0) ≡ limits_refusal a b (state_at m n cells).case
    unfolding limits_refusal refuse_if
    short_runs h = sym (ap (λ (t : Bool). refuse_if 11 (t || ltb b (length (state_at m n cells).case.ceilings))) (lt-ltb a 2 h))

    pub short_ceilings : b < m * n → some (refused 11 0) ≡ limits_refusal a b (state_at m n cells).case
    unfolding limits_refusal refuse_if
    short_ceilings h =
        let k = length (state_at m n cells).case.ceilings in
        sym (ap (refuse_if 11) (ap (λ (t : Bool). ltb a 2 || t) (lt-ltb b k (omega (arith, ceilings_long))) ∙ or_true (ltb a 2)))

    pub long_limits : 2 ≤ a → m * n ≤ b → none ≡ limits_refusal a b (state_at m n cells).case
    unfolding limits_refusal refuse_if
    long_limits x y =
        let k = length (state_at m n cells).case.ceilings in
        sym (ap₂ (λ (t u : Bool). refuse_if 11 (t || u)) (le-ltb a 2 x) (le-ltb b k (omega (arith, ceilings_long))))

  runs_are : (state_at m n cells).case.run1 ∷ (state_at m n cells).case.run2 ∷ [] ≡ take 2 (drop (in_case 0) cells)
  runs_are =
      ap (λ (d : Draft). d.run1 ∷ d.run2 ∷ []) (case_cells m n cells op) ∙ two_cells (in_case 0) cells (omega (arith, room_0 m n cells op))

  pub runs_shown : (old new : List ℕ) → new ≡ paste old 0 (take 2 (drop (in_case 0) cells)) (length (take 2 (drop (in_case 0) cells)))
      → new ≡ written ((state_at m n cells).case.run1 ∷ (state_at m n cells).case.run2 ∷ []) old
  runs_shown old new =
      shown m n cells op ((state_at m n cells).case.run1 ∷ (state_at m n cells).case.run2 ∷ []) (in_case 0) 2 (in_case 0) 2 old new runs_are refl refl

  pub ceilings_shown : (c d : ℕ) → c ≡ in_case (ceilings_at m n) → d ≡ in_case (table_at m n)
      → (old new : List ℕ) → new ≡ paste old 0 (take (d - c) (drop c cells)) (length (take (d - c) (drop c cells)))
      → new ≡ written (state_at m n cells).case.ceilings old
  ceilings_shown c d ec ed old new =
      shown m n cells op (state_at m n cells).case.ceilings (in_case (ceilings_at m n)) (m * n) c (d - c) old new
      (ap (λ (z : Draft). z.ceilings) (case_cells m n cells op)) ec (omega arith)

-- ---- which marks are set

-- the flag of a cell
abbrev pub flag : ℕ → ℕ
flag v = cond (eqb v 0) 0 1

pub flag_0 : (v : ℕ) → eqb v 0 ≡ true → 0 ≡ flag v
flag_0 v e = sym (ap (λ (t : Bool). cond t 0 1) e)

pub flag_1 : (v : ℕ) → eqb v 0 ≡ false → 1 ≡ flag v
flag_1 v e = sym (ap (λ (t : Bool). cond t 0 1) e)

module _ (m n : ℕ) (cells : List ℕ) where
  mark_flag : (k : ℕ) → absent k 8 ≡ false → flag (get_or cells (flag_at k) 0) ≡ flag_of (mark_in m n cells k)
  unfolding mark_in
  mark_flag k e =
      go (eqb (get_or cells (flag_at k) 0) 0)
      ∙ sym (ap (λ (t : Bool). flag_of (cond t none (cond (eqb (get_or cells (flag_at k) 0) 0) none (some (draft_in m n (slot m n k cells)))))) e)
    where
      go : (t : Bool) → cond t 0 1 ≡ flag_of (cond t none (some (draft_in m n (slot m n k cells))))
      go true = refl
      go false = refl

  pub flags_are : flag (get_or cells 2 0) ∷ flag (get_or cells 3 0) ∷ flag (get_or cells 4 0) ∷ flag (get_or cells 5 0) ∷ flag (get_or cells 6 0)
      ∷ flag (get_or cells 7 0) ∷ flag (get_or cells 8 0) ∷ flag (get_or cells 9 0) ∷ [] ≡ flags_of (state_at m n cells)
  unfolding flags_of up_from state_at absent
  flags_are = λ i.
      mark_flag 1 refl i ∷ mark_flag 2 refl i ∷ mark_flag 3 refl i ∷ mark_flag 4 refl i ∷ mark_flag 5 refl i ∷ mark_flag 6 refl i ∷ mark_flag 7 refl i
      ∷ mark_flag 8 refl i ∷ []

  pub flags_shown : (told old new : List ℕ) → told ≡ flags_of (state_at m n cells) → new ≡ paste old 0 told (length told)
      → new ≡ written (flags_of (state_at m n cells)) old
  flags_shown told old new e g = g ∙ filled_front told old ∙ ap (λ (s : List ℕ). written s old) e

pub short_marks : (a : ℕ) → a < 8 → some (refused 11 0) ≡ marks_refusal a
unfolding marks_refusal refuse_if
short_marks a h = sym (ap (refuse_if 11) (lt-ltb a 8 h))

pub long_marks : (a : ℕ) → 8 ≤ a → none ≡ marks_refusal a
unfolding marks_refusal refuse_if
long_marks a h = sym (ap (refuse_if 11) (le-ltb a 8 h))

-- ---- the promises

module _ (cells : List ℕ) where
  pub limits_closed : (u c : List ℕ) → opened_of cells ≡ Err Room → LimitsShown (held_in cells) u c u c (some (refused 11 0))
  limits_closed u c e = record {
    answer = sym (ap (limits_answer (length u) (length c)) (held_none cells (is_shut cells e)));
    runs = refl;
    ceilings = refl;
  }

  pub marks_closed : (f : List ℕ) → opened_of cells ≡ Err Room → MarksShown (held_in cells) f f (some (refused 11 0))
  marks_closed f e = record { answer = sym (ap (marks_answer (length f)) (held_none cells (is_shut cells e))); flags = refl }

  module _ (m n : ℕ) (e : opened_of cells ≡ Ok (laid m n)) where
    pub limits_work : (u c u' c' : List ℕ) (r : Option Outcome) → r ≡ limits_refusal (length u) (length c) (state_at m n cells).case
        → u' ≡ shown_unless r ((state_at m n cells).case.run1 ∷ (state_at m n cells).case.run2 ∷ []) u
        → c' ≡ shown_unless r (state_at m n cells).case.ceilings c → LimitsShown (held_in cells) u c u' c' r
    limits_work u c u' c' r er eu ec = record {
      answer = er ∙ ap (limits_answer (length u) (length c)) (held_is cells m n e);
      runs = eu ∙ ap (λ (o : Option State). shown_unless r (runs_in o) u) (held_is cells m n e);
      ceilings = ec ∙ ap (λ (o : Option State). shown_unless r (ceilings_in o) c) (held_is cells m n e);
    }

    pub marks_work : (f f' : List ℕ) (r : Option Outcome) → r ≡ marks_refusal (length f) → f' ≡ shown_unless r (flags_of (state_at m n cells)) f
        → MarksShown (held_in cells) f f' r
    marks_work f f' r er ef = record {
      answer = er ∙ ap (marks_answer (length f)) (held_is cells m n e);
      flags = ef ∙ ap (λ (o : Option State). shown_unless r (flags_in o) f) (held_is cells m n e);
    }
