-- Section 5 of the report: the case that a network with a named arc becomes, and the way between its plans and the flows. Nodes are sources (plant 1
-- the node where the named arc ends, plant 2 the one where it starts), arcs are terminals; the named arc's terminal has demand 0, so that a network of
-- the named arc alone is a case too. Assumes nothing.
use Rattle.std.specs.Prelude.{cond, ◌||◌, List, [], ◌++◌, ℕ, zero, suc, ◌+◌, ◌-◌, eqb, ltb, ℤ, pos, nat_abs}
use Rattle.transport.specs.Plan.{by_row, row}
use Rattle.flow_problem.specs.Network.{cells, Network, arc_count, start, end, ceiling, cost, listed, amount}
use Rattle.problem.specs.Case.{Case}

-- m rows of n, row after row
unfoldable pub rows_of {ℓ} : {A : Type ℓ} → ℕ → ℕ → (ℕ → ℕ → A) → List A
rows_of zero n f = []
rows_of (suc m) n f = cells n (f 0) ++ rows_of m n (λ i. f (suc i))

-- a and b change places
unfoldable pub swap : ℕ → ℕ → ℕ → ℕ
swap a b i = cond (eqb i a) b (cond (eqb i b) a i)

-- the node that source s is, and the source that node i is: node w is source 0, node v is source 1
unfoldable pub node_of : ℕ → ℕ → ℕ → ℕ
node_of w v s = swap 0 w (swap 1 (swap 0 w v) s)

unfoldable pub source_of : ℕ → ℕ → ℕ → ℕ
source_of w v i = swap 1 (swap 0 w v) (swap 0 w i)

-- the same of a network with a named arc
abbrev pub node : Network → ℕ → ℕ → ℕ
node g k s = node_of (end g k) (start g k) s

abbrev pub source : Network → ℕ → ℕ → ℕ
source g k i = source_of (end g k) (start g k) i

-- a node's amount as the case has it, where it is not below 0
unfoldable pub stock : Network → ℕ → ℕ
stock g i = nat_abs (amount g i)

-- lane (node i, arc j): the cost where arc j starts at i, 0 else; open where it starts or ends at i, closed else
abbrev pub lane_cost : Network → ℕ → ℕ → ℕ → ℤ
lane_cost g k s j = cond (eqb (node g k s) (start g j)) (cost g j) (pos 0)

abbrev pub lane_ceiling : Network → ℕ → ℕ → ℕ → ℕ
lane_ceiling g k s j = cond (eqb (node g k s) (start g j) || eqb (node g k s) (end g j)) 4000 0

-- a terminal's demand is its arc's ceiling, 0 for the named arc
abbrev pub want : Network → ℕ → ℕ → ℕ
want g k j = cond (eqb j k) 0 (ceiling g j)

-- entry y of the case is the lent table's at the flow that split y stands for
abbrev pub entry_at : Network → ℕ → List ℕ → ℕ → ℕ
entry_at g k table y =
    let most = stock g (end g k) in
    cond (ltb (y + ceiling g k) most) 0 (listed table (y + ceiling g k - most))

abbrev pub case_of : Network → ℕ → List ℕ → Case
case_of g k table = record {
  m = g.nodes;
  n = arc_count g;
  run1 = stock g (end g k) - ceiling g k;
  run2 = 0;
  costs = rows_of g.nodes (arc_count g) (lane_cost g k);
  supplies = cells g.nodes (λ s. stock g (node g k s));
  demands = cells (arc_count g) (want g k);
  ceilings = rows_of g.nodes (arc_count g) (lane_ceiling g k);
  table = cells (suc (stock g (end g k))) (entry_at g k table);
  plan_cells = 2048;
  split_cells = 4001;
  freight_cells = 4001;
}

-- the flow that a plan stands for: on the named arc by the split, on any other what its start sends to it
abbrev pub flow_at : Network → ℕ → List ℕ → ℕ → ℕ
flow_at g k plan j =
    cond (eqb j k) (row (arc_count g) (by_row (arc_count g) plan) 0 + ceiling g k - stock g (end g k))
    (by_row (arc_count g) plan (source g k (start g j)) j)

unfoldable pub flow_of : Network → ℕ → List ℕ → List ℕ
flow_of g k plan = cells (arc_count g) (flow_at g k plan)

-- the plan that a flow stands for: an arc's start sends the flow, its end the rest of the ceiling
abbrev pub sent_at : Network → ℕ → List ℕ → ℕ → ℕ → ℕ
sent_at g k x i j =
    cond (eqb j k) 0 (cond (eqb i (start g j)) (listed x j) (cond (eqb i (end g j)) (ceiling g j - listed x j) 0))

unfoldable pub plan_of : Network → ℕ → List ℕ → List ℕ
plan_of g k x = rows_of g.nodes (arc_count g) (λ s j. sent_at g k x (node g k s) j)
