-- The roles' table at a role. Assumes nothing.
use mathlib.Core.Path.{◌≡◌, refl, sym, ◌∙◌}
use mathlib.Core.Bool.{Bool, true, false, not, ◌||◌, ◌&&◌}
use mathlib.Core.List.{[]}
use Prim.Native.Nat.{ℕ, ◌-◌, ◌≤◌, ◌<◌}
use lib.Dec.{eqb}
use lib.ListN.{get_or}
use borrow.Author.Tests.{lt-ltb, le-ltb, eq-eqb, ne_eqb, not-true, not-false}
use Rattle.roletable.specs.Roles.{roles, first_supply, no_role, barred, barred_first}

or_true : (a : Bool) → (a || true) ≡ true
or_true true = refl
or_true false = refl

pub none_low : (role : ℕ) → role < 1 → no_role role ≡ true
unfolding no_role
none_low role h = simp (lt-ltb role 1 h)

pub none_high : (role : ℕ) → 4 < role → no_role role ≡ true
unfolding no_role
none_high role h = simp (lt-ltb 4 role h, or_true)

pub some_role : (role : ℕ) → 1 ≤ role → role ≤ 4 → no_role role ≡ false
unfolding no_role
some_role role a b = simp (le-ltb role 1 a, le-ltb 4 role b)

-- no role at all, or the table's entry
pub no_role_lem : (role deed : ℕ) → no_role role ≡ true → false ≡ not (barred role deed)
unfolding barred
no_role_lem role deed e = rw (e, barred) refl

pub by_table : (role deed : ℕ) → no_role role ≡ false → not (eqb (get_or (get_or roles (role - 1) []) (deed - 1) 0) 0) ≡ not (barred role deed)
unfolding barred
by_table role deed e = rw (e, barred) refl

pub no_role_first : (role : ℕ) → no_role role ≡ true → false ≡ not (barred_first role)
unfolding barred_first
no_role_first role e = rw (e, barred_first) refl

pub by_first : (role : ℕ) → no_role role ≡ false → not (eqb (get_or first_supply (role - 1) 0) 0) ≡ not (barred_first role)
unfolding barred_first
by_first role e = rw (e, barred_first) refl

-- edits of a supply
module _ (role i : ℕ) (t : Bool) (e : t ≡ not (barred role 1)) where
  pub supply_first : (u : Bool) → u ≡ not (barred_first role) → t ≡ true → i ≡ 1 → u ≡ not (barred role 1 || (eqb i 1 && barred_first role))
  supply_first u f y q = f ∙ sym (rw (not-true (barred role 1) (sym e ∙ y), eq-eqb i 1 q) refl)

  pub supply_other : t ≡ true → (i ≡ 1 → ⊥) → true ≡ not (barred role 1 || (eqb i 1 && barred_first role))
  supply_other y d = sym (rw (not-true (barred role 1) (sym e ∙ y), ne_eqb i 1 d) refl)

  pub supply_barred : t ≡ false → false ≡ not (barred role 1 || (eqb i 1 && barred_first role))
  supply_barred y = sym (rw (not-false (barred role 1) (sym e ∙ y)) refl)
