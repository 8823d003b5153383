-- The stored case cut to what it has: contracts of private functions. Assumes nothing.
use Rattle.std.specs.Prelude.{◌≡◌, List, ℕ, min, ◌*◌, ℤ, length, take, replicate}
use Rattle.problem.specs.Case.{Case}
use Rattle.plan_files.specs.Printed.{filed_case}

-- the first cells of each array: as many as the case has, and no more than are stored, each lane with the ceiling 4,000
abbrev pub cut_case : ℕ → ℕ → ℕ → List ℤ → List ℕ → List ℕ → List ℕ → Case
cut_case m n entries costs supplies demands table =
    filed_case m n (take (min m 32 * min n 64) costs) (take (min m 32) supplies) (take (min n 64) demands) (replicate (min m 32 * min n 64) 4000) (take (min entries 4002) table)

-- cells for 32 sources, 64 terminals, and one entry more than the longest table has
pub record Stored (costs : List ℤ) (supplies demands table : List ℕ) : Type 0 where
  pub lanes : length costs ≡ 2048
  pub sources : length supplies ≡ 32
  pub terminals : length demands ≡ 64
  pub entries : length table ≡ 4002
