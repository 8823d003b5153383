-- Whether a store holds a working case. Assumes nothing.
use mathlib.Core.Path.{◌≡◌, refl, ap}
use mathlib.Core.Bool.{Bool, true, false, cond, ◌&&◌}
use mathlib.Core.List.{List}
use Prim.Native.Nat.{ℕ, ◌*◌, ◌≤◌, ◌<◌}
use native.Mathlib.Nat.{mul-le-mul}
use native.Mathlib.Omega.{arith}
use lib.ListN.{length, get_or}
use borrow.Author.Tests.{le-leb, lt-leb, eq-eqb, ne_eqb}
use Rattle.std.specs.Prelude.{Result, Ok, Err}
use Rattle.refusal.specs.declared.Cause.{Cause}
use Rattle.refusal.specs.declared.Cause.TheVariants.{Room}
use Rattle.work_store.specs.declared.layout.Layout.{Layout}
use Rattle.work_store.specs.Store.{cells_for, sources, terminals, signed_at, signature, signed, opens, in_limits, cells_to_lend}
use Rattle.work_store.specs.inner.OpenStore.{laid, opened_of, Open}
use Rattle.work_store.proofs.StateAfterWrites.{is_open, large}

and_false : (a : Bool) → (a && false) ≡ false
and_false true = refl
and_false false = refl

-- the largest product of a size
pub lanes : (m n : ℕ) → m ≤ 32 → n ≤ 64 → m * n ≤ 2048
lanes m n a b = mul-le-mul a b

-- ---- how many cells to lend

module _ (m n : ℕ) where
  none_lent : in_limits m n ≡ false → 0 ≡ cells_to_lend m n
  unfolding cells_to_lend
  none_lent e = rw (e, cells_to_lend) refl

  pub too_few_sources : m < 2 → 0 ≡ cells_to_lend m n
  unfolding in_limits
  too_few_sources h = none_lent (simp (lt-leb 2 m h))

  pub too_many_sources : 32 < m → 0 ≡ cells_to_lend m n
  unfolding in_limits
  too_many_sources h = none_lent (simp (lt-leb m 32 h, and_false))

  pub no_terminals : n < 1 → 0 ≡ cells_to_lend m n
  unfolding in_limits
  no_terminals h = none_lent (simp (lt-leb 1 n h, and_false))

  pub too_many_terminals : 64 < n → 0 ≡ cells_to_lend m n
  unfolding in_limits
  too_many_terminals h = none_lent (simp (lt-leb n 64 h, and_false))

  pub lent_cells : 2 ≤ m → m ≤ 32 → 1 ≤ n → n ≤ 64 → cells_for m n ≡ cells_to_lend m n
  unfolding cells_to_lend in_limits
  lent_cells a b c d = simp (le-leb 2 m a, le-leb m 32 b, le-leb 1 n c, le-leb n 64 d)

-- ---- what is held

module _ (cells : List ℕ) where
  shut : opens cells ≡ false → Err Room ≡ opened_of cells
  unfolding opened_of
  shut e = rw (e, opened_of) refl

  pub shut_two : sources cells < 2 → Err Room ≡ opened_of cells
  unfolding opens in_limits
  shut_two h = shut (simp (lt-leb 2 (sources cells) h))

  pub shut_few : 32 < sources cells → Err Room ≡ opened_of cells
  unfolding opens in_limits
  shut_few h = shut (simp (lt-leb (sources cells) 32 h, and_false))

  pub shut_one : terminals cells < 1 → Err Room ≡ opened_of cells
  unfolding opens in_limits
  shut_one h = shut (simp (lt-leb 1 (terminals cells) h, and_false))

  pub shut_many : 64 < terminals cells → Err Room ≡ opened_of cells
  unfolding opens in_limits
  shut_many h = shut (simp (lt-leb (terminals cells) 64 h, and_false))

  pub shut_room : length cells < cells_for (sources cells) (terminals cells) → Err Room ≡ opened_of cells
  unfolding opens in_limits
  shut_room h = shut (simp (lt-leb (cells_for (sources cells) (terminals cells)) (length cells) h, and_false))

  pub shut_unsigned : (get_or cells signed_at 0 ≡ signature → ⊥) → Err Room ≡ opened_of cells
  unfolding opens signed
  shut_unsigned d = shut (simp (ne_eqb (get_or cells signed_at 0) signature d, and_false))

  pub shut_small : length cells < 11 → Err Room ≡ opened_of cells
  shut_small h = shut_room (omega (arith, large (sources cells) (terminals cells)))

  pub found : Open (sources cells) (terminals cells) cells → get_or cells signed_at 0 ≡ signature → Ok (laid (sources cells) (terminals cells)) ≡ opened_of cells
  unfolding opened_of opens in_limits signed
  found o e =
      simp (
        le-leb 2 (sources cells) o.two,
        le-leb (sources cells) 32 o.few,
        le-leb 1 (terminals cells) o.one,
        le-leb (terminals cells) 64 o.many,
        le-leb (cells_for (sources cells) (terminals cells)) (length cells) o.room,
        eq-eqb (get_or cells signed_at 0) signature e,
      )

  pub is_shut : opened_of cells ≡ Err Room → opens cells ≡ false
  unfolding opened_of
  is_shut = go (opens cells)
    where
      go : (t : Bool) → cond {A = Result Layout Cause} t (Ok (laid (sources cells) (terminals cells))) (Err Room) ≡ Err Room → t ≡ false
      go true e = let z : ◌≡◌ {A = ℕ} 0 1 = cc in absurd (omega arith)
      go false e = refl

  pub is_found : (m n : ℕ) → opened_of cells ≡ Ok (laid m n) → opens cells ≡ true
  unfolding opened_of
  is_found m n = go (opens cells)
    where
      go : (t : Bool) → cond {A = Result Layout Cause} t (Ok (laid (sources cells) (terminals cells))) (Err Room) ≡ Ok (laid m n) → t ≡ true
      go true e = refl
      go false e = let z : ◌≡◌ {A = ℕ} 0 1 = cc in absurd (omega arith)

  pub found_size : (m n : ℕ) → opened_of cells ≡ Ok (laid m n) → (sources cells ≡ m) × (terminals cells ≡ n)
  unfolding opened_of
  found_size m n = go (opens cells)
    where
      go : (t : Bool) → cond {A = Result Layout Cause} t (Ok (laid (sources cells) (terminals cells))) (Err Room) ≡ Ok (laid m n) → (sources cells ≡ m) × (terminals cells ≡ n)
      go true e =
          let z : ◌≡◌ {A = Layout} (laid (sources cells) (terminals cells)) (laid m n) = cc in
          (ap (λ (l : Layout). l.m) z, ap (λ (l : Layout). l.n) z)
      go false e = let z : ◌≡◌ {A = ℕ} 0 1 = cc in absurd (omega arith)

  pub opened : (m n : ℕ) → opened_of cells ≡ Ok (laid m n) → Open m n cells
  opened m n e =
      let s = found_size m n e in
      let o = is_open cells (is_found m n e) in
      rw (← s.0, ← s.1) o

  -- the one refusal of a store that holds no working case
  pub only_room : (k : Cause) → opened_of cells ≡ Err k → (k ≡ Room) × (opened_of cells ≡ Err Room)
  unfolding opened_of
  only_room k = go (opens cells)
    where
      go : (t : Bool) → cond {A = Result Layout Cause} t (Ok (laid (sources cells) (terminals cells))) (Err Room) ≡ Err k
          → (k ≡ Room) × (cond {A = Result Layout Cause} t (Ok (laid (sources cells) (terminals cells))) (Err Room) ≡ Err Room)
      go true e = let z : ◌≡◌ {A = ℕ} 0 1 = cc in absurd (omega arith)
      go false e = (cc, refl)
