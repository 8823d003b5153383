-- The path that a tree has from plant 1 to plant 2, walked back from plant 2: its arcs are open and tight. Assumes nothing.
use Rattle.std.specs.Prelude.{◌≡◌, ◌≢◌, List, ℕ, zero, suc, min, ◌+◌, ◌-◌, ◌≤◌, ◌<◌, length}
use Rattle.std.proofs.Math.Decide.{dec_lt}
use Rattle.residual.specs.inner.Cells.{cells}
use Rattle.residual.specs.inner.Network.{Net, get, Arc}

-- unit costs and potentials of the size that the engine admits
pub record FollowReady (m n : ℕ) (cost p : List ℕ) : Type 0 where
  pub sources : m ≤ 32
  pub terminals : n ≤ 64
  pub costs : (i j : ℕ) → i < m → j < n → cells cost i j ≤ 2000000
  pub high : (v : ℕ) → v < 96 → get p v ≤ 800000000
  pub long : length p ≡ 96

unfoldable pub either : {P : Type 0} → Dec P → ℕ → ℕ → ℕ
either (yes h) a b = a
either (no h) a b = b

-- what the arc from w to v can carry
unfoldable pub carries : Net → ℕ → ℕ → ℕ
carries N w v = either (dec_lt v 32) (N.x v (w - 32)) (N.u w (v - 32) - N.x w (v - 32))

-- the arc from w to v is open and tight
pub record Tied (N : Net) (p : List ℕ) (w v : ℕ) : Type 0 where
  pub node : w < 96
  pub source : w < 32 → w < N.m
  pub terminal : 32 ≤ w → w < 32 + N.n
  pub some : 0 < carries N w v
  pub arc : Arc N w v (get p w) (get p v) (carries N w v)

-- it is, and k drums can go over it
pub record Bears (N : Net) (p : List ℕ) (w v k : ℕ) : Type 0 where
  pub tied : Tied N p w v
  pub room : k ≡ carries N w v

-- the last h arcs that P has to v lead from plant 1, and are open and tight
unfoldable pub Chain : Net → List ℕ → List ℕ → ℕ → ℕ → Type 0
Chain N p P zero v = v ≡ 0
Chain N p P (suc h) v = (v ≢ 0) × Tied N p (get P v) v × Chain N p P h (get P v)

-- the smallest ceiling on them, or limit if that is less
unfoldable pub width : Net → ℕ → List ℕ → ℕ → ℕ → ℕ
width N limit P zero v = limit
width N limit P (suc h) v = min (width N limit P h (get P v)) (carries N (get P v) v)

-- P has a path of count arcs to plant 2, and amount drums of limit can go along it
pub record Followed (N : Net) (p : List ℕ) (limit : ℕ) (P : List ℕ) (count amount : ℕ) : Type 0 where
  pub long : length P ≡ 96
  pub few : count ≤ 95
  pub chain : Chain N p P count 1
  pub drums : amount ≡ width N limit P count 1
