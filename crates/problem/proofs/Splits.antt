-- The splits in use: a plan that meets (TP) is a plan at its own split, which is one of the splits, and each split from ℓ to u has a plan.
-- Assumes nothing.
use mathlib.Core.Path.{◌≡◌, refl, sym, ap, ◌∙◌}
use mathlib.Core.Bool.{true, false≢true}
use mathlib.Core.List.Memᴰ
use mathlib.Core.List.{List, [], ◌∷◌, Memᴰ}
use Prim.Native.Nat.{ℕ, zero, suc, ◌+◌, ◌-◌, ◌≤◌, ◌<◌}
use native.Mathlib.Omega.{arith}
use Rattle.transport.specs.Sum.{sum}
use Rattle.transport.specs.Plan.{Plan}
use Rattle.transport.specs.Listing.{least, greatest, some}
use Rattle.transport.specs.Curve.{amounts_at, has_plan}
use Rattle.transport.proofs.Sums.{sum_ext, sum_front}
use Rattle.transport.proofs.ListMembers.{least_in_lem}
use Rattle.transport.proofs.WithinCeilings.{some_fits, fits_some}
use Rattle.transport.proofs.Splits.{greatest_in, splits_member, member_splits}
use Rattle.transport.proofs.SplitInterval.{split_between, between_split}
use Rattle.transport.proofs.Existence as exists
use Rattle.problem.specs.Case.{Case, supply, demand, ceiling, all_demand, depot_stock, made, lowest_split, highest_split, splits, has_split, least_split, greatest_split, steps}
use Rattle.problem.specs.Plans.{row_sum, column_sum, MeetsTP, PlanAt}
use Rattle.problem.proofs.TestsPassed.{Formed, Balanced}

-- the first two, and the rest
pub first_two : (m : ℕ) (g : ℕ → ℕ) → 2 ≤ m → sum m g ≡ g 0 + (g 1 + sum (m - 2) (λ k. g (2 + k)))
first_two m g l =
    ap (λ (k : ℕ). sum k g) (omega arith) ∙ sum_front (suc (m - 2)) g
    ∙ ap (λ (a : ℕ). g 0 + a) (sum_front (m - 2) (λ i. g (suc i))
    ∙ ap (λ (a : ℕ). g 1 + a) (sum_ext (m - 2) (λ i. g (suc (suc i))) (λ i. g (2 + i)) (λ i h. ap g (omega arith))))

-- ---- a plan that meets (TP)

-- what leaves the sources is what the terminals get
pub balance : (c : Case) (x : List ℕ) → 2 ≤ c.m → MeetsTP c x → row_sum c x 0 + (row_sum c x 1 + depot_stock c) ≡ all_demand c
unfolding all_demand depot_stock row_sum column_sum
balance c x l p =
    let q : Plan c.m c.n (row_sum c x) (demand c) x = record { cells = p.cells; rows = λ i h. refl; columns = p.terminals } in
    ap (λ (a : ℕ). row_sum c x 0 + (row_sum c x 1 + a))
    (sum_ext (c.m - 2) (λ k. supply c (2 + k)) (λ k. row_sum c x (2 + k)) (λ k h. sym (p.depots (2 + k) (omega arith) (omega arith))))
    ∙ sym (first_two c.m (row_sum c x) l) ∙ exists.plan_balanced c.m c.n (row_sum c x) (demand c) x q

-- its split is one of the splits, and it is a plan there
pub record SplitOf (c : Case) (x : List ℕ) : Type 0 where
  pub balanced : Balanced c
  pub plan_at : PlanAt c (row_sum c x 0) x
  pub one : Memᴰ (row_sum c x 0) (splits c)

pub split_of : (c : Case) (x : List ℕ) → 2 ≤ c.m → MeetsTP c x → SplitOf c x
unfolding made lowest_split highest_split splits row_sum column_sum amounts_at has_plan
split_of c x l p =
    let e = balance c x l p in
    let h1 = p.plant1 in
    let h2 = p.plant2 in
    let h3 = p.runs1 in
    let h4 = p.runs2 in
    let f : PlanAt c (row_sum c x 0) x = record { plan = record { cells = p.cells; rows = sent (omega arith); columns = p.terminals }; under = p.lanes } in
    record {
      balanced = record { first_run = omega arith; second_run = omega arith; stock = omega arith; reach = omega arith };
      plan_at = f;
      one =
          member_splits c.m c.n (ceiling c) (made c) (λ i. supply c i) (λ j. demand c j) (lowest_split c) (highest_split c) (row_sum c x 0) (omega arith)
          (omega arith) (fits_some c.m c.n (ceiling c) (amounts_at (made c) (λ i. supply c i) (row_sum c x 0)) (λ j. demand c j) x f);
    }
  where
    sent : row_sum c x 1 ≡ made c - row_sum c x 0 → (i : ℕ) → i < c.m → row_sum c x i ≡ amounts_at (made c) (λ i. supply c i) (row_sum c x 0) i
    sent e zero h = refl
    sent e (suc zero) h = e
    sent e (suc (suc i)) h = p.depots (suc (suc i)) (omega arith) h

-- ---- a plan at a split

-- a split lies within the supplies and the least runs
pub split_within : (c : Case) (y : ℕ) → Memᴰ y (splits c) → (lowest_split c ≤ y) × (y ≤ highest_split c)
unfolding splits
split_within c y k =
    let t = splits_member c.m c.n (ceiling c) (made c) (λ i. supply c i) (λ j. demand c j) (lowest_split c) (highest_split c) y k in (t.0, t.1)

-- a plan at a split within the supplies and the least runs meets (TP), and that is its split
pub record Met (c : Case) (y : ℕ) (x : List ℕ) : Type 0 where
  pub plan : MeetsTP c x
  pub split : row_sum c x 0 ≡ y

pub meets : (c : Case) (y : ℕ) (x : List ℕ) → 2 ≤ c.m → Balanced c → lowest_split c ≤ y → y ≤ highest_split c → PlanAt c y x → Met c y x
unfolding made lowest_split highest_split row_sum column_sum amounts_at
meets c y x l b low high f =
    let p = f.plan in
    let h = b.stock in
    record {
      plan = record {
        cells = p.cells;
        plant1 = omega (arith, p.rows 0 (omega arith));
        plant2 = omega (arith, p.rows 1 (omega arith));
        runs1 = omega (arith, p.rows 0 (omega arith));
        runs2 = omega (arith, p.rows 1 (omega arith));
        depots = depot p.rows;
        terminals = p.columns;
        lanes = f.under;
      };
      split = p.rows 0 (omega arith);
    }
  where
    depot : ((i : ℕ) → i < c.m → row_sum c x i ≡ amounts_at (made c) (λ i. supply c i) y i) → (i : ℕ) → 2 ≤ i → i < c.m → row_sum c x i ≡ supply c i
    depot r zero a h = absurd (omega arith)
    depot r (suc zero) a h = absurd (omega arith)
    depot r (suc (suc i)) a h = r (suc (suc i)) h

-- what the sources send at a split is what the terminals get
pub sent_all : (c : Case) (y : ℕ) → 2 ≤ c.m → depot_stock c ≤ all_demand c → y ≤ made c
    → sum c.m (amounts_at (made c) (λ i. supply c i) y) ≡ all_demand c
unfolding depot_stock made amounts_at
sent_all c y l h g =
    first_two c.m (amounts_at (made c) (λ i. supply c i) y) l
    ∙ ap (λ (a : ℕ). y + (all_demand c - depot_stock c - y + a))
    (sum_ext (c.m - 2) (λ k. amounts_at (made c) (λ i. supply c i) y (2 + k)) (λ k. supply c (2 + k)) (λ k u. depot (2 + k) (omega arith)))
    ∙ omega arith
  where
    depot : (i : ℕ) → 2 ≤ i → amounts_at (made c) (λ i. supply c i) y i ≡ supply c i
    depot zero a = absurd (omega arith)
    depot (suc zero) a = absurd (omega arith)
    depot (suc (suc i)) a = refl

-- ---- a case that has splits

-- what tests 23, 7, 8 and 27 leave
pub record Fitting (c : Case) : Type 0 where
  pub balanced : Balanced c
  pub one : ℕ
  pub member : Memᴰ one (splits c)

pub fitting : (c : Case) → Balanced c → has_split c ≡ true → Fitting c
unfolding has_split some
fitting c b e = let q = step (splits c) e in record { balanced = b; one = q.0; member = q.1 }
  where
    step : (l : List ℕ) → some l ≡ true → (y : ℕ) × Memᴰ y l
    step [] e = absurd (false≢true e)
    step (y ∷ l) e = (y, Memᴰ.head refl)

pub fits_split : (c : Case) (y : ℕ) → Memᴰ y (splits c) → has_split c ≡ true
unfolding has_split some
fits_split c y k = step (splits c) k
  where
    step : (l : List ℕ) → Memᴰ y l → some l ≡ true
    step [] k = absurd (Memᴰ.not-nil k)
    step (z ∷ l) k = refl

highest_most : (c : Case) → highest_split c ≤ made c
unfolding highest_split
highest_most c = omega arith

least_member : (l : List ℕ) (z : ℕ) → Memᴰ z l → Memᴰ (least l) l
least_member [] z k = absurd (Memᴰ.not-nil k)
least_member (a ∷ l) z k = least_in_lem a l

greatest_member : (l : List ℕ) (z : ℕ) → Memᴰ z l → Memᴰ (greatest l) l
greatest_member [] z k = absurd (Memᴰ.not-nil k)
greatest_member (a ∷ l) z k = greatest_in a l

-- u is at most a_1, also where there is no split
pub greatest_most : (c : Case) → greatest_split c ≤ supply c 0
unfolding greatest_split highest_split greatest
greatest_most c = step (splits c) (λ y k. (split_within c y k).1)
  where
    step : (l : List ℕ) → ((y : ℕ) → Memᴰ y l → y ≤ highest_split c) → greatest l ≤ supply c 0
    step [] h = omega arith
    step (a ∷ l) h = omega (arith, h _ (greatest_in a l))

-- a split is from ℓ to u
pub split_range : {c : Case} → Formed c → (y : ℕ) → Memᴰ y (splits c) → (least_split c ≤ y) × (y ≤ greatest_split c)
unfolding splits least_split greatest_split
split_range {c} f y k =
    split_between c.m c.n f.few_sources f.two_sources (ceiling c) (made c) (λ i. supply c i) (λ j. demand c j) (lowest_split c) (highest_split c)
    (highest_most c) y k

module _ {c : Case} (f : Formed c) (t : Fitting c) where
  pub in_order : least_split c ≤ greatest_split c
  in_order = let r = split_range f t.one t.member in omega (arith, r)

  pub last_split : least_split c + steps c ≡ greatest_split c
  unfolding steps
  last_split = omega (arith, in_order)

  -- ℓ and u lie within the supplies and the least runs
  pub ends_within : (lowest_split c ≤ least_split c) × (greatest_split c ≤ highest_split c)
  unfolding least_split greatest_split
  ends_within = (
    (split_within c (least_split c) (least_member (splits c) t.one t.member)).0,
    (split_within c (greatest_split c) (greatest_member (splits c) t.one t.member)).1,
  )

  pub most_made : greatest_split c ≤ made c
  most_made = omega (arith, ends_within, highest_most c)

  -- each split from ℓ to u has a plan
  pub plan_exists : (y : ℕ) → least_split c ≤ y → y ≤ greatest_split c → (x : List ℕ) × PlanAt c y x
  unfolding splits least_split greatest_split has_plan
  plan_exists y h l =
      some_fits c.m c.n (ceiling c) (amounts_at (made c) (λ i. supply c i) y) (λ j. demand c j)
      (between_split c.m c.n f.few_sources f.two_sources (ceiling c) (made c) (λ i. supply c i) (λ j. demand c j) (lowest_split c) (highest_split c)
      (highest_most c) t.one t.member y h l)

  -- and each plan there meets (TP)
  pub meets_between : (y : ℕ) (x : List ℕ) → least_split c ≤ y → y ≤ greatest_split c → PlanAt c y x → Met c y x
  meets_between y x h l p = let w = ends_within in meets c y x f.two_sources t.balanced (omega (arith, w)) (omega (arith, w)) p
