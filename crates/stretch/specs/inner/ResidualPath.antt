-- Paths in the residual network of a plan (report 3.1: the auxiliary network at a split): its arcs, what they cost and what they can carry.
-- Source i is node i, terminal j is node 32 + j; the report's sources 1 and 2 are nodes 0 and 1. Assumes nothing.
use Rattle.std.specs.Prelude.{◌≡◌, List, [], ◌∷◌, ℕ, min, ◌+◌, ◌-◌, ◌≤◌, ◌<◌, ℤ, pos, neg_ℤ, ◌+ℤ◌, ◌-ℤ◌, ◌*ℤ◌, ◌≤ℤ◌}
use Rattle.transport.specs.Plan.{Table}
use Rattle.transport.specs.inner.PathFlow.{pulse}
use Rattle.residual.specs.inner.Cells.{cells}
use Rattle.residual.specs.inner.Network.{Net, get}
use Rattle.augment.specs.inner.PathWalk.{Walked}
use Rattle.incumbent.specs.inner.Scan.{along}

-- the lane from source i to terminal j, or its return arc, from terminal j to source i
pub data Arc : Type 0 where
  lane : ℕ → ℕ → Arc
  return : ℕ → ℕ → Arc

unfoldable pub from : Arc → ℕ
from (lane i j) = i
from (return i j) = 32 + j

unfoldable pub to : Arc → ℕ
to (lane i j) = 32 + j
to (return i j) = i

-- (3.1), (3.2) the arcs of the network: a lane below its ceiling, the return arc of a lane in use
unfoldable pub Open : Net → Arc → Type 0
Open N (lane i j) = (i < N.m) × (j < N.n) × (N.x i j < N.u i j)
Open N (return i j) = (i < N.m) × (j < N.n) × (0 < N.x i j)

-- their ceilings: what a lane can still take, what it carries
unfoldable pub ceiling : Net → Arc → ℕ
ceiling N (lane i j) = N.u i j - N.x i j
ceiling N (return i j) = N.x i j

-- (3.3) their costs: a lane's plus, a return arc's minus
unfoldable pub arc_cost : Net → Arc → ℤ
arc_cost N (lane i j) = pos (N.c i j)
arc_cost N (return i j) = neg_ℤ (pos (N.c i j))

-- a path from node v to node w: arcs of the network, each from where the one before leads
unfoldable pub PathIn : Net → ℕ → List Arc → ℕ → Type 0
PathIn N v [] w = v ≡ w
PathIn N v (a ∷ l) w = (from a ≡ v) × Open N a × PathIn N (to a) l w

-- the cost of a path: the sum of its arcs' costs
unfoldable pub path_cost : Net → List Arc → ℤ
path_cost N [] = pos 0
path_cost N (a ∷ l) = arc_cost N a +ℤ path_cost N l

-- (3.5) the smallest ceiling on a path, or limit if that is less
unfoldable pub narrowest : Net → ℕ → List Arc → ℕ
narrowest N limit [] = limit
narrowest N limit (a ∷ l) = min (ceiling N a) (narrowest N limit l)

-- (3.4), (3.6) the amounts after t drums over an arc: t more on a lane, t less on the lane of a return arc, no other lane changes
unfoldable pub carried : ℕ → Arc → Table → Table
carried t (lane i j) x k l = x k l + pulse (pulse t i k) j l
carried t (return i j) x k l = x k l - pulse (pulse t i k) j l

-- the amounts after t drums along a path
unfoldable pub moved : ℕ → List Arc → Table → Table
moved t [] x = x
moved t (a ∷ l) x = carried t a (moved t l x)

-- z has these amounts
abbrev pub Amounts : Net → ℕ → List Arc → List ℕ → Type 0
Amounts N t l z = (i j : ℕ) → i < N.m → j < N.n → cells z i j ≡ moved t l N.x i j

-- an arc of a path: the node that it leads to has the node that it comes from before it, and is its cost farther than that
pub record Measured (N : Net) (dist prev : List ℕ) (a : Arc) : Type 0 where
  pub before : get prev (to a) ≡ from a
  pub distance : pos (get dist (to a)) ≡ pos (get dist (from a)) +ℤ arc_cost N a

-- each arc of a path is: node by node dist has the distance along the path, and prev the node before
unfoldable pub Distances : Net → List ℕ → List ℕ → List Arc → Type 0
Distances N dist prev [] = Unit {0}
Distances N dist prev (a ∷ l) = Measured N dist prev a × Distances N dist prev l

-- a path from s to g that a search found, with the labels dist and the nodes before, prev; d drums of limit can go along it
pub record Route (N : Net) (s g limit : ℕ) (x dist prev : List ℕ) (count d : ℕ) : Type 0 where
  pub path : List Arc
  pub arcs : PathIn N s path g
  pub nodes : Distances N dist prev path
  pub drums : d ≡ narrowest N limit path
  pub cost : path_cost N path ≡ pos (get dist g) -ℤ pos (get dist s)
  pub amounts : (t : ℕ) (z : List ℕ) → Walked prev t count g x z → Amounts N t path z

-- 1° the path of a stretch that starts with freight v and limit drums left to u: δ is d
pub record StretchPath (N : Net) (v limit d gain loss : ℕ) : Type 0 where
  pub path : List Arc
  pub arcs : PathIn N 0 path 1
  pub cheapest : (l : List Arc) → PathIn N 0 l 1 → path_cost N path ≤ℤ path_cost N l
  pub drums : d ≡ narrowest N limit path
  pub cost : path_cost N path ≡ pos gain -ℤ pos loss
  -- (3.7) the cost of the path is what each drum moved adds to f: `StretchDone.line` has the freights on the way as f
  pub rise : (t : ℕ) → t ≤ d → pos (along v gain loss t) ≡ pos v +ℤ pos t *ℤ path_cost N path
