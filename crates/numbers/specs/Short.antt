-- The number that one to four digits are. Assumes nothing.
use Rattle.std.specs.Prelude.{Option, None, Some, cond, List, [], ◌∷◌, ℕ, ◌+◌, ◌*◌, ◌-◌, ltb, eqb, length}

-- the number that digits are, read on from v
unfoldable pub number_from : ℕ → List ℕ → Option ℕ
number_from v [] = Some v
number_from v (b ∷ l) = cond (ltb b 48) None (cond (ltb 57 b) None (number_from (10 * v + (b - 48)) l))

-- the number that one to four digits are
unfoldable pub short_of : List ℕ → Option ℕ
short_of text = cond (eqb (length text) 0) None (cond (ltb 4 (length text)) None (number_from 0 text))
