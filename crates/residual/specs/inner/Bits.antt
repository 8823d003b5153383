-- The bits of a word. Assumes nothing.
use Rattle.std.specs.Prelude.{◌≡◌, ℕ, zero, suc, ◌/◌, ◌%◌, ◌≤◌, ◌<◌}

-- bit i of r
unfoldable pub bit : ℕ → ℕ → ℕ
bit r zero = r % 2
bit r (suc i) = bit (r / 2) i

-- the bits from lo on are left in r of those in s
pub record Left (s r lo : ℕ) : Type 0 where
  pub below : (i : ℕ) → i < lo → bit r i ≡ 0
  pub from : (i : ℕ) → lo ≤ i → bit r i ≡ bit s i
