-- What adding up a plan's freight asks. Assumes nothing.
use Rattle.std.specs.Prelude.{ℕ, ◌<◌, ◌≤◌}
use Rattle.transport.specs.Plan.{Table}

-- unit costs and amounts whose 32 × 64 products cannot grow out of range
pub record FreightReady (m n : ℕ) (c x : Table) : Type 0 where
  pub sources : m ≤ 32
  pub terminals : n ≤ 64
  pub costs : (i j : ℕ) → i < m → j < n → c i j ≤ 2000000
  pub amounts : (i j : ℕ) → i < m → j < n → x i j ≤ 4000000000
