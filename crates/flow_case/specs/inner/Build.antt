-- The parts of the case's slices, by the arcs as separate slices of numbers: contracts. Assumes nothing.
use Rattle.std.specs.Prelude.{◌≡◌, Bool, not, cond, ◌||◌, List, ℕ, ◌+◌, ◌-◌, ◌*◌, ◌≤◌, ◌<◌, eqb, ltb, ℤ, pos, length, get_or}
use Rattle.transport.specs.Sum.{sum}
use Rattle.flow_problem.specs.Network.{at}
use Rattle.flow_problem.specs.Answer.{any_below}
use Rattle.flow_problem.specs.inner.Reduce.{node_of, source_of}

-- over the first n arcs that end at a node: the sum of their ceilings
unfoldable pub into : List ℕ → List ℕ → ℕ → ℕ → ℕ
into ends ceilings id n = sum n (λ k. at (get_or ends k 0) id (get_or ceilings k 0))

abbrev pub want_in : List ℕ → ℕ → ℕ → ℕ
want_in ceilings named j = cond (eqb j named) 0 (get_or ceilings j 0)

abbrev pub lane_in : List ℕ → List ℕ → ℕ → ℕ → ℕ
lane_in starts ends id j = cond (eqb (get_or starts j 0) id || eqb (get_or ends j 0) id) 4000 0

abbrev pub entry_in : List ℕ → ℕ → ℕ → ℕ → ℕ
entry_in table ceiling most y = cond (ltb (y + ceiling) most) 0 (get_or table (y + ceiling - most) 0)

-- 64 ceilings at most, none above 4,000
pub record Moderate (l : List ℕ) : Type 0 where
  pub few : length l ≤ 64
  pub small : (k : ℕ) → k < length l → get_or l k 0 ≤ 4000

-- the first n cells were written, the later ones left as they were
pub record Filled (f : ℕ → ℕ) (n : ℕ) (before after : List ℕ) : Type 0 where
  pub long : length after ≡ length before
  pub here : (k : ℕ) → k < n → get_or after k 0 ≡ f k
  pub above : (k : ℕ) → n ≤ k → get_or after k 0 ≡ get_or before k 0

-- n cells from `at` on were written, the others left as they were
pub record Put {A : Type 0} (d : A) (f : ℕ → A) (at n : ℕ) (before after : List A) : Type 0 where
  pub long : length after ≡ length before
  pub here : (j : ℕ) → j < n → get_or after (at + j) d ≡ f j
  pub below : (k : ℕ) → k < at → get_or after k d ≡ get_or before k d
  pub above : (k : ℕ) → at + n ≤ k → get_or after k d ≡ get_or before k d

-- m rows of n
abbrev pub RowsAre : {A : Type 0} → A → (ℕ → ℕ → A) → ℕ → ℕ → List A → Type 0
RowsAre d f m n l = (i j : ℕ) → i < m → j < n → get_or l (i * n + j) d ≡ f i j

-- the cells past m rows of n are as they were
abbrev pub RowsAfter : {A : Type 0} → A → ℕ → ℕ → List A → List A → Type 0
RowsAfter d m n before after = (k : ℕ) → m * n ≤ k → get_or after k d ≡ get_or before k d

-- unit cost of lane (node, arc j): the arc's where it starts at the node
abbrev pub cost_in : List ℕ → List ℤ → ℕ → ℕ → ℤ
cost_in starts costs id j = cond (eqb (get_or starts j 0) id) (get_or costs j (pos 0)) (pos 0)

-- what node i has: what is given there, and the ceilings of all arcs into it
abbrev pub have_in : List ℕ → List ℕ → List ℕ → ℕ → ℕ
have_in ends ceilings gives i = get_or gives i 0 + into ends ceilings (i + 1) (length ends)

-- what source s is to send at most
abbrev pub stock_in : List ℕ → List ℕ → ℕ → ℕ → ℕ → ℕ
stock_in haves takes w v s = get_or haves (node_of w v s) 0 - get_or takes (node_of w v s) 0

-- the flow on arc j: the named arc's, else what the plan's row of the arc's start sends
abbrev pub flow_in : List ℕ → List ℕ → ℕ → ℕ → ℕ → ℕ → ℕ → ℕ
flow_in plan starts w v named carried j =
    cond (eqb j named) carried (get_or plan (source_of w v (get_or starts j 0 - 1) * length starts + j) 0)

-- no number is above the limit
abbrev pub AtMostAll : ℕ → List ℕ → Type 0
AtMostAll limit l = (k : ℕ) → k < length l → get_or l k 0 ≤ limit

-- an amount above 4,000, one below 0, an entry above 1,000,000,000
abbrev pub over_at : List ℕ → List ℕ → ℕ → Bool
over_at haves takes i = ltb (get_or takes i 0 + 4000) (get_or haves i 0)

abbrev pub under_at : List ℕ → List ℕ → ℕ → Bool
under_at haves takes i = ltb (get_or haves i 0) (get_or takes i 0)

abbrev pub dear_at : List ℕ → ℕ → Bool
dear_at table i = ltb 1000000000 (get_or table i 0)

-- supplies that do not sum to 0, or an amount below 0
abbrev pub uneven_in : List ℕ → List ℕ → List ℕ → Bool
uneven_in gives takes haves =
    not (eqb (sum (length gives) (λ i. get_or gives i 0)) (sum (length takes) (λ i. get_or takes i 0))) || any_below (length haves) (under_at haves takes)

-- what is given and taken at the nodes
pub record Given (gives takes : List ℕ) : Type 0 where
  pub few : length gives ≤ 32
  pub takes_long : length takes ≡ length gives
  pub gives_small : AtMostAll 10000000000 gives
  pub takes_small : AtMostAll 10000000000 takes
