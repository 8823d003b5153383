-- What the answers of the tests' functions stand for. Assumes nothing.
use Rattle.std.proofs.Math.Option.{none, some}
use Rattle.std.proofs.Math.Option as math
use Rattle.std.specs.Prelude.{cond, List, ℕ, ◌+◌, ◌-◌, ltb, length, get_or, Option, Some, None, Result, Ok, Err, ⊤}
use Rattle.transport.specs.Sum.{sum}
use Rattle.problem.specs.Outcome.{Outcome, refused}
use Rattle.refusal.specs.Number.{number_of}
use Rattle.refusal.specs.declared.Refusal.{Refusal}
use Rattle.refusal.specs.declared.Cause.{Cause}
use Rattle.refusal.specs.declared.Cause.TheVariants.{TooLittleWanted, TooMuchWanted}

-- the index found, if any
abbrev pub found : Option ℕ → math.Option ℕ
found (Some k) = some k
found None = none

-- the refusal, if any
abbrev pub verdict : Result ⊤ Refusal → math.Option Outcome
verdict (Ok _) = none
verdict (Err r) = some (refused (number_of r.cause) r.place)

-- d, or the balance refusal that bars it
unfoldable pub made_of : ℕ → ℕ → List ℕ → List ℕ → Result ℕ Cause
made_of r1 r2 s d =
    let all = sum (length d) (λ j. get_or d j 0) in
    let stock = sum (length s - 2) (λ k. get_or s (2 + k) 0) in
    cond (ltb all (stock + r1 + r2)) (Err TooLittleWanted)
    (cond (ltb (get_or s 0 0 + get_or s 1 0) (all - stock)) (Err TooMuchWanted) (Ok (all - stock)))
