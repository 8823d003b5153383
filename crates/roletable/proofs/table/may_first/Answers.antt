-- `roletable::table::may_first` meets its contract. Assumes nothing.
use mathlib.Core.Logic.{inl, inr}
use native.Mathlib.Omega.{arith}
use Rattle.roletable.proofs.RoleLaws.{none_low, none_high, some_role, no_role_first, by_first}
use Rattle.roletable.proofs.table.may_first.Goals as goal

pub returns-then-role-lt1 : goal.returns-then-role-lt1
returns-then-role-lt1 c = no_role_first _ (elim c.then-role-lt1.either [ inl h ↦ none_low _ h | inr h ↦ none_high _ h.1 ])

pub returns : goal.returns
returns c = by_first _ (some_role _ (omega arith) (omega arith))
