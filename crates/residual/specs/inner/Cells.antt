-- A table as cells of a working array with stride 64. Assumes nothing.
use Rattle.std.specs.Prelude.{List, ℕ, ◌+◌, ◌*◌, get_or}
use Rattle.transport.specs.Plan.{Table}

abbrev pub cells : List ℕ → Table
cells l i j = get_or l (i * 64 + j) 0
