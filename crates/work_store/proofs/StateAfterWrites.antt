-- What a call's writes do to the state that the cells hold. Assumes nothing.
use mathlib.Core.Path.{◌≡◌, refl, sym, ap, ap₂, ◌∙◌, fun_ext}
use mathlib.Core.Bool.{Bool, true, false, cond, ◌&&◌}
use mathlib.Core.Option.{Option, none, some}
use mathlib.Core.List.{List}
use Prim.Native.Nat.{ℕ, ◌+◌, ◌≤◌, ◌<◌}
use native.Mathlib.Decide.{ℕ_discrete}
use native.Mathlib.Omega.{arith}
use lib.Dec.{eqb, ltb, leb}
use lib.ListN.{length, get_or, set, length-set}
use lib.Seq.{get_or-set_same, get_or-set_other}
use borrow.Author.Tests.{leb-true, le-ltb, ltb-false, eq-eqb, ne_eqb}
use Rattle.problem.proofs.TestsPassed.{either_first, either_second}
use Rattle.work_store.specs.State.{Draft, State}
use Rattle.work_store.specs.Calls.{absent, with_case, held, unset, acted, set_mark, go_back}
use Rattle.work_store.specs.Store.{cells_for, width, slot, draft_in, mark_in, state_at, sources, terminals, signed_at, signature, signed, opens, in_limits, held_in, copied}
use Rattle.work_store.specs.inner.OpenStore.{Open}
use Rattle.work_store.proofs.Slots.{store_slot, store_other, copied_length, copied_head, copied_same, copied_other, store_head}

both_first : (a b : Bool) → (a && b) ≡ true → a ≡ true
both_first true b e = refl
both_first false b e = e

both_second : (a b : Bool) → (a && b) ≡ true → b ≡ true
both_second true b e = e
both_second false b e = let z : ◌≡◌ {A = ℕ} 0 1 = cc in absurd (omega arith)

-- two states are equal where their cases are and their marks are
pub state_eq : (s t : State) → s.case ≡ t.case → ((k : ℕ) → s.marks k ≡ t.marks k) → s ≡ t
state_eq s t e h = ap₂ (λ (c : Draft) (f : ℕ → Option Draft). (let r : State = record { case = c; marks = f } in r)) e (fun_ext h)

pub inside : (k n : ℕ) → absent k n ≡ false → (1 ≤ k) × (k ≤ n)
unfolding absent
inside k n e = (ltb-false k 1 (either_first (ltb k 1) (ltb n k) e), ltb-false n k (either_second (ltb k 1) (ltb n k) e))

pub within : (k n : ℕ) → 1 ≤ k → k ≤ n → absent k n ≡ false
unfolding absent
within k n a b = simp (le-ltb k 1 a, le-ltb n k b)

-- a mark is the same where its flag and its slot are
pub mark_eq : (m n : ℕ) (a b : List ℕ) (k : ℕ)
    → (1 ≤ k → k ≤ 8 → get_or a (1 + k) 0 ≡ get_or b (1 + k) 0) → (1 ≤ k → k ≤ 8 → slot m n k a ≡ slot m n k b) → mark_in m n a k ≡ mark_in m n b k
unfolding mark_in
mark_eq m n a b k f s = go (absent k 8) refl
  where
    go : (t : Bool) → absent k 8 ≡ t
        → cond t none (cond (eqb (get_or a (1 + k) 0) 0) none (some (draft_in m n (slot m n k a))))
        ≡ cond t none (cond (eqb (get_or b (1 + k) 0) 0) none (some (draft_in m n (slot m n k b))))
    go true e = refl
    go false e =
        let i = inside k 8 e in
        ap₂ (λ (x : ℕ) (l : List ℕ). cond (eqb x 0) none (some (draft_in m n l))) (f i.0 i.1) (s i.0 i.1)

-- a mark that is set
pub mark_set : (m n : ℕ) (a : List ℕ) (k : ℕ) → 1 ≤ k → k ≤ 8 → get_or a (1 + k) 0 ≡ 1 → mark_in m n a k ≡ some (draft_in m n (slot m n k a))
unfolding mark_in
mark_set m n a k x y f =
    ap₂ (λ (t : Bool) (v : ℕ). cond t none (cond (eqb v 0) none (some (draft_in m n (slot m n k a))))) (within k 8 x y) f

pub mark_held : (m n : ℕ) (a : List ℕ) (k : ℕ) (d : Draft) → unset (mark_in m n a k) ≡ false → held (mark_in m n a k) d ≡ draft_in m n (slot m n k a)
unfolding mark_in
mark_held m n a k d = go (absent k 8) (eqb (get_or a (1 + k) 0) 0)
  where
    go : (t u : Bool) → unset (cond t none (cond u none (some (draft_in m n (slot m n k a))))) ≡ false
        → held (cond t none (cond u none (some (draft_in m n (slot m n k a))))) d ≡ draft_in m n (slot m n k a)
    go true u e = let z : ◌≡◌ {A = ℕ} 0 1 = cc in absurd (omega arith)
    go false true e = let z : ◌≡◌ {A = ℕ} 0 1 = cc in absurd (omega arith)
    go false false e = refl

pub large : (m n : ℕ) → 11 ≤ cells_for m n
unfolding cells_for
large m n = omega arith

-- the state of signed cells of the same size
pub held_eq : (cells after : List ℕ) (t : State) → opens cells ≡ true → length after ≡ length cells → sources after ≡ sources cells
    → terminals after ≡ terminals cells → get_or after signed_at 0 ≡ get_or cells signed_at 0 → state_at (sources cells) (terminals cells) after ≡ t
    → held_in after ≡ some t
unfolding held_in opens signed
held_eq cells after t o l a b c e =
    ap₂ (λ (x : Bool) (s : State). cond x (some s) none) (same ∙ o)
    (ap₂ (λ (m n : ℕ). state_at m n after) a b ∙ e)
  where
    fits : (in_limits (sources after) (terminals after) && leb (cells_for (sources after) (terminals after)) (length after))
        ≡ (in_limits (sources cells) (terminals cells) && leb (cells_for (sources cells) (terminals cells)) (length cells))
    fits =
        ap₂ (λ (m n : ℕ). in_limits m n && leb (cells_for m n) (length after)) a b
        ∙ ap (λ (k : ℕ). in_limits (sources cells) (terminals cells) && leb (cells_for (sources cells) (terminals cells)) k) l

    same : opens after ≡ opens cells
    same = ap₂ (λ (x : Bool) (k : ℕ). x && eqb k signature) fits c

pub is_open : (cells : List ℕ) → opens cells ≡ true → Open (sources cells) (terminals cells) cells
unfolding opens in_limits
is_open cells o =
    let a = leb 2 (sources cells) in
    let b = leb (sources cells) 32 in
    let c = leb 1 (terminals cells) in
    let d = leb (terminals cells) 64 in
    let e = leb (cells_for (sources cells) (terminals cells)) (length cells) in
    let o5 = both_first (a && b && c && d && e) (signed cells) o in
    let o4 = both_first (a && b && c && d) e o5 in
    let o3 = both_first (a && b && c) d o4 in
    let o2 = both_first (a && b) c o3 in
    record {
      two = leb-true 2 (sources cells) (both_first a b o2);
      few = leb-true (sources cells) 32 (both_second a b o2);
      one = leb-true 1 (terminals cells) (both_second (a && b) c o3);
      many = leb-true (terminals cells) 64 (both_second (a && b && c) d o4);
      room = leb-true (cells_for (sources cells) (terminals cells)) (length cells) (both_second (a && b && c && d) e o5);
    }

module _ (m n : ℕ) (cells : List ℕ) (op : Open m n cells) where
  -- a store in slot 0
  pub edit_state : (q v : ℕ) (d : Draft) → q < width m n → draft_in m n (set (slot m n 0 cells) q v) ≡ d
      → state_at m n (set cells (11 + q) v) ≡ with_case d (state_at m n cells)
  unfolding state_at
  edit_state q v d h e =
      state_eq _ _ (ap (draft_in m n) (store_slot m n cells op.room q v h) ∙ e)
      (λ k. mark_eq m n (set cells (11 + q) v) cells k (λ a b. get_or-set_other cells (11 + q) (1 + k) v 0 (λ z. omega arith))
      (λ a b. store_other m n cells op.room q v k h a))

  -- slot 0 copied to slot k, and its flag set
  module _ (k : ℕ) (a : 1 ≤ k) (b : k ≤ 8) where
    marked : List ℕ
    marked = set (copied m n 0 k cells) (1 + k) 1

    marked_flag : get_or marked (1 + k) 0 ≡ 1
    unfolding marked
    marked_flag = get_or-set_same (copied m n 0 k cells) (1 + k) 1 0 (omega (arith, copied_length m n cells op.room 0 k (omega arith) b, op.room, large m n))

    marked_head : (i : ℕ) → i < 11 → (i ≡ 1 + k → ⊥) → get_or marked i 0 ≡ get_or cells i 0
    unfolding marked
    marked_head i h d = get_or-set_other (copied m n 0 k cells) (1 + k) i 1 0 d ∙ copied_head m n cells op.room 0 k (omega arith) b i h

    marked_same : slot m n k marked ≡ slot m n 0 cells
    unfolding marked
    marked_same = store_head m n k (1 + k) 1 (copied m n 0 k cells) (omega arith) ∙ copied_same m n cells op.room 0 k (omega arith) b

    marked_other : (j : ℕ) → j ≤ 8 → (j ≡ k → ⊥) → slot m n j marked ≡ slot m n j cells
    unfolding marked
    marked_other j h d = store_head m n j (1 + k) 1 (copied m n 0 k cells) (omega arith) ∙ copied_other m n cells op.room 0 k (omega arith) b j h d

    marked_marks : (j : ℕ) → mark_in m n marked j ≡ cond (eqb j k) (some (draft_in m n (slot m n 0 cells))) (mark_in m n cells j)
    marked_marks j = elim (ℕ_discrete j k) [
      | yes e ↦
          ap (mark_in m n marked) e ∙ mark_set m n marked k a b marked_flag ∙ ap (λ (l : List ℕ). some (draft_in m n l)) marked_same
          ∙ sym (ap (λ (t : Bool). cond t (some (draft_in m n (slot m n 0 cells))) (mark_in m n cells j)) (eq-eqb j k e))
      | no d ↦
          mark_eq m n marked cells j (λ x y. marked_head (1 + j) (omega arith) (λ z. d (omega arith))) (λ x y. marked_other j y d)
          ∙ sym (ap (λ (t : Bool). cond t (some (draft_in m n (slot m n 0 cells))) (mark_in m n cells j)) (ne_eqb j k d))
    ]

    pub mark_state : state_at m n (set (copied m n 0 k cells) (1 + k) 1) ≡ acted (set_mark k) (state_at m n cells)
    unfolding acted state_at marked
    mark_state = state_eq _ _ (ap (draft_in m n) (marked_other 0 (omega arith) (λ z. omega arith))) marked_marks

    pub mark_head : (i : ℕ) → i < 11 → (i ≡ 1 + k → ⊥) → get_or (set (copied m n 0 k cells) (1 + k) 1) i 0 ≡ get_or cells i 0
    unfolding marked
    mark_head i h d = marked_head i h d

    pub mark_length : length (set (copied m n 0 k cells) (1 + k) 1) ≡ length cells
    mark_length = length-set (copied m n 0 k cells) (1 + k) (let v : ℕ = 1 in v) ∙ copied_length m n cells op.room 0 k (omega arith) b

    -- slot k copied to slot 0
    pub back_state : unset (mark_in m n cells k) ≡ false → state_at m n (copied m n k 0 cells) ≡ acted (go_back k) (state_at m n cells)
    unfolding acted state_at
    back_state e =
        state_eq _ _
        (ap (draft_in m n) (copied_same m n cells op.room k 0 b (omega arith)) ∙ sym (mark_held m n cells k (draft_in m n (slot m n 0 cells)) e))
        (λ j. mark_eq m n (copied m n k 0 cells) cells j (λ x y. copied_head m n cells op.room k 0 b (omega arith) (1 + j) (omega arith))
        (λ x y. copied_other m n cells op.room k 0 b (omega arith) j y (λ z. omega arith)))
