-- The answer to a role that asks for a deed. Assumes nothing.
use Rattle.std.specs.Prelude.{◌≡◌, true, false, not, ℕ, Result, Ok, Err, ⊤}
use Rattle.refusal.specs.declared.Cause.{Cause}
use Rattle.refusal.specs.declared.Cause.TheVariants.{Role}
use Rattle.roletable.specs.Roles.{barred}

-- the deed of a column is let in, or refused by 31 where it is barred
abbrev pub Asked : ℕ → ℕ → Result ⊤ Cause → Type 0
Asked role column (Ok _) = true ≡ not (barred role column)
Asked role column (Err k) = (k ≡ Role) × (false ≡ not (barred role column))
