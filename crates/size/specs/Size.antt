-- A checked size: what its type's function answers, from the two numbers. Assumes nothing.
use Rattle.std.specs.Prelude.{cond, ◌||◌, ℕ, ltb, Result, Ok, Err}
use Rattle.size.specs.declared.limits.Size.{Size}
use Rattle.refusal.specs.declared.Cause.{Cause}
use Rattle.refusal.specs.declared.Cause.TheVariants.{Sources, Terminals}

-- sources 2 to 32, terminals 1 to 64; else the cause of the first refusal
unfoldable pub checked_of : ℕ → ℕ → Result Size Cause
checked_of m n =
    cond (ltb m 2 || ltb 32 m) (Err Sources)
    (cond (ltb n 1 || ltb 64 n) (Err Terminals) (Ok (record { sources = m; terminals = n })))
