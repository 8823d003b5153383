-- What a caller outside Rattle is told of the square-root rates. Assumes nothing.
use Rattle.std.specs.Prelude.{Result, Ok, Err, ℕ}
use Rattle.ratetable.specs.declared.RateError.{RateError}
use Rattle.ratetable.specs.declared.RateError.TheVariants.{TooMuch, TooShort}

-- 0, or the planner's number for a supply above 4,000 and for a slice that is too short
abbrev pub rate_number : Result (Unit {0}) RateError → ℕ
rate_number (Ok _) = 0
rate_number (Err TooMuch) = 4
rate_number (Err TooShort) = 11
