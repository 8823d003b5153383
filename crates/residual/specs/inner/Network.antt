-- A plan on lanes with ceilings as a network: source i is node i, terminal j is node 32 + j. Its residual arcs: a lane with room, or a lane in use
-- backwards. Assumes nothing.
use Rattle.std.specs.Prelude.{◌≡◌, List, ℕ, ◌+◌, ◌-◌, ◌<◌, get_or}
use Rattle.transport.specs.Plan.{Table}
use Rattle.residual.specs.inner.Cells.{cells}

-- a plan x on m by n lanes of unit costs c and ceilings u
pub record Net : Type 0 where
  pub m : ℕ
  pub n : ℕ
  pub c : Table
  pub u : Table
  pub x : Table

abbrev pub net : ℕ → ℕ → List ℕ → List ℕ → List ℕ → Net
net m n cost cap x = record { m = m; n = n; c = cells cost; u = cells cap; x = cells x }

abbrev pub get : List ℕ → ℕ → ℕ
get l v = get_or l v 0

-- an open arc from v to w of ceiling k, that takes the label b to t: a lane with room, or a lane in use backwards
pub data Arc (N : Net) (v w b t k : ℕ) : Type 0 where
  ahead : (j : ℕ) → v < N.m → j < N.n → w ≡ 32 + j → N.x v j < N.u v j → t ≡ b + N.c v j → k ≡ N.u v j - N.x v j → Arc N v w b t k
  back : (j : ℕ) → w < N.m → j < N.n → v ≡ 32 + j → 0 < N.x w j → t + N.c w j ≡ b → k ≡ N.x w j → Arc N v w b t k

-- the same lanes with another plan
abbrev pub again : Net → List ℕ → Net
again N x = record { m = N.m; n = N.n; c = N.c; u = N.u; x = cells x }
