-- What one read tells of a file that is read into lent room, one byte larger than the longest file that is taken. Assumes nothing.
use Rattle.std.specs.Prelude.{◌≡◌, Bool, cond, ◌||◌, ℕ, ◌+◌, eqb, leb}

-- The read was made at offset at of size bytes of room and brought more bytes, or it failed. How many bytes of the room the file takes up to now:
-- all of it where it cannot be used, since a read failed or it is too long (refusal 20)
unfoldable pub taken_after : Bool → ℕ → ℕ → ℕ → ℕ
taken_after failed more at size = cond failed size (cond (eqb more 0) at (cond (leb size (at + more)) size (at + more)))

-- is that all? It is where a read failed, brought nothing (the file's end), or left no room
unfoldable pub ends_after : Bool → ℕ → ℕ → ℕ → Bool
ends_after failed more at size = failed || (eqb more 0 || leb size (at + more))

-- what is told of such a read: so many bytes of the room, and whether that is all
pub record Told (failed : Bool) (more at size taken : ℕ) (ends : Bool) : Type 0 where
  pub at_is : taken ≡ taken_after failed more at size
  pub ends_is : ends ≡ ends_after failed more at size
