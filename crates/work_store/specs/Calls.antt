-- The calls on a working case: what each does to the state, and by which numbers it is refused (W-204). Assumes nothing.
use Rattle.std.specs.Prelude.{Bool, true, false, cond, not, ◌||◌, List, [], ◌∷◌, ◌++◌, ℕ, ◌+◌, ◌-◌, ◌*◌, eqb, ltb, ℤ, length, set, take, replicate}
use Rattle.std.proofs.Math.Option.{Option, none, some}
use Rattle.problem.specs.Range.{outside}
use Rattle.problem.specs.Outcome.{Outcome, refused, refuse_if, ◌or_else◌}
use Rattle.work_store.specs.State.{Draft, State}

-- sources, terminals and marks are numbered from 1, entries from 0
pub data Call : Type 0 where
  -- terminal, demand
  edit_demand : ℕ → ℕ → Call
  -- source, supply
  edit_supply : ℕ → ℕ → Call
  -- source, terminal, unit cost
  edit_cost : ℕ → ℕ → ℤ → Call
  -- split, entry
  edit_entry : ℕ → ℕ → Call
  set_mark : ℕ → Call
  go_back : ℕ → Call

-- refusal k at place p where the condition holds
unfoldable pub refuse_when : ℕ → ℕ → Bool → Option Outcome
refuse_when k p true = some (refused k p)
refuse_when k p false = none

-- not one of 1 to n
unfoldable pub absent : ℕ → ℕ → Bool
absent k n = ltb k 1 || ltb n k

abbrev pub unset : Option Draft → Bool
unset none = true
unset (some d) = false

-- the least run of source i: 0 of a depot
unfoldable pub least_run : Draft → ℕ → ℕ
least_run d i = cond (eqb i 1) d.run1 (cond (eqb i 2) d.run2 0)

-- the refusals of a call by the state: 24 and 25 before anything else, then 4, 5, 23
unfoldable pub refusal_in : Call → State → Option Outcome
refusal_in (edit_demand j v) s = refuse_if 24 (absent j s.case.n) or_else refuse_when 4 (s.case.m + j) (ltb 4000 v)
refusal_in (edit_supply i v) s =
    refuse_if 24 (absent i s.case.m) or_else refuse_when 4 i (ltb 4000 v) or_else refuse_when 23 i (ltb v (least_run s.case i))
refusal_in (edit_cost i j v) s =
    refuse_if 24 (absent i s.case.m || absent j s.case.n) or_else refuse_when 5 ((i - 1) * s.case.n + j) (outside v)
refusal_in (edit_entry y v) s = refuse_if 24 (not (ltb y (length s.case.table)))
refusal_in (set_mark k) s = refuse_if 24 (absent k 8)
refusal_in (go_back k) s = refuse_if 24 (absent k 8) or_else refuse_when 25 k (unset (s.marks k))

-- a table lengthened with zeros, or cut
unfoldable pub resized : ℕ → List ℕ → List ℕ
resized k t = take k (t ++ replicate k 0)

-- a case with other supplies, demands, unit costs and entries: what no edit alters stays
abbrev pub edited : Draft → List ℕ → List ℕ → List ℤ → List ℕ → Draft
edited d supplies demands costs table = record {
  m = d.m;
  n = d.n;
  run1 = d.run1;
  run2 = d.run2;
  supplies = supplies;
  demands = demands;
  costs = costs;
  ceilings = d.ceilings;
  table = table;
}

abbrev pub with_demand : ℕ → ℕ → Draft → Draft
with_demand j v d = edited d d.supplies (set d.demands (j - 1) v) d.costs d.table

-- the table follows a_1
abbrev pub with_supply : ℕ → ℕ → Draft → Draft
with_supply i v d = edited d (set d.supplies (i - 1) v) d.demands d.costs (cond (eqb i 1) (resized (v + 1) d.table) d.table)

abbrev pub with_cost : ℕ → ℕ → ℤ → Draft → Draft
with_cost i j v d = edited d d.supplies d.demands (set d.costs ((i - 1) * d.n + (j - 1)) v) d.table

abbrev pub with_entry : ℕ → ℕ → Draft → Draft
with_entry y v d = edited d d.supplies d.demands d.costs (set d.table y v)

abbrev pub with_case : Draft → State → State
with_case d s = record { case = d; marks = s.marks }

-- what a mark holds, or the case where it is not set
abbrev pub held : Option Draft → Draft → Draft
held none d = d
held (some k) d = k

-- what a call that is not refused does
unfoldable pub acted : Call → State → State
acted (edit_demand j v) s = with_case (with_demand j v s.case) s
acted (edit_supply i v) s = with_case (with_supply i v s.case) s
acted (edit_cost i j v) s = with_case (with_cost i j v s.case) s
acted (edit_entry y v) s = with_case (with_entry y v s.case) s
acted (set_mark k) s = record { case = s.case; marks = λ j. cond (eqb j k) (some s.case) (s.marks j) }
acted (go_back k) s = with_case (held (s.marks k) s.case) s

-- a refused call changes nothing
abbrev pub unless : Option Outcome → State → State → State
unless none new old = new
unless (some r) new old = old

unfoldable pub step : Call → State → State
step call s = unless (refusal_in call s) (acted call s) s

-- the state after a run of edits, marks and returns
unfoldable pub run : List Call → State → State
run [] s = s
run (c ∷ h) s = run h (step c s)
