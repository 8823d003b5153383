-- The numbers of a list that are not above a limit. Assumes nothing.
use Rattle.std.specs.Prelude.{List, ℕ, ◌+◌, ◌≤◌, ◌<◌, get_or}

-- none of the count numbers from place k on is above the limit
pub record NoneAbove (s : List ℕ) (k count limit : ℕ) : Type 0 where
  pub each : (j : ℕ) → j < count → get_or s (k + j) 0 ≤ limit
