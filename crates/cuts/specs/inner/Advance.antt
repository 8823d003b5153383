-- Cuts, one after the other, with the words of the lanes in use. Assumes nothing.
use Rattle.std.specs.Prelude.{◌≡◌, List, ℕ, min, ◌≤◌, ◌<◌, length}
use Rattle.residual.specs.inner.Network.{net, get}
use Rattle.residual.specs.inner.LanesInUse.{Covers}
use Rattle.paths.specs.inner.Search.{Sound}
use Rattle.cuts.specs.inner.Cut.{Ahead}

-- the words s' in place of s: they still have every source that serves a terminal under x
pub record Forgot (x s s' : List ℕ) : Type 0 where
  pub covers : (m n : ℕ) → Covers m n x s → Covers m n x s'

-- the words s' and the potentials p' in place of s and p: no potential came below 416,000,000, and where x was slack and noted it still is
pub record Advanced (m n : ℕ) (cost table columns x s p s' p' : List ℕ) : Type 0 where
  pub long : length p' ≡ 96
  pub floor : (v : ℕ) → v < 96 → min (get p v) 416000000 ≤ get p' v
  pub high : (v : ℕ) → v < 96 → get p' v ≤ 800000000
  pub covers : Covers m n x s → Covers m n x s'
  pub sound : (cap : List ℕ) → Ahead m n cost cap x table columns → Covers m n x s → Sound (net m n cost cap x) p → Sound (net m n cost cap x) p'

-- the same under given ceilings, whatever stands in the tables
pub record AdvancedUnder (m n : ℕ) (cost cap x s p s' p' : List ℕ) : Type 0 where
  pub long : length p' ≡ 96
  pub floor : (v : ℕ) → v < 96 → min (get p v) 416000000 ≤ get p' v
  pub high : (v : ℕ) → v < 96 → get p' v ≤ 800000000
  pub covers : Covers m n x s → Covers m n x s'
  pub sound : Covers m n x s → Sound (net m n cost cap x) p → Sound (net m n cost cap x) p'
