-- From what `cheapest_flow` answers to what is printed, and from a table cut to 4,002 entries to the whole one. Assumes nothing.
use mathlib.Core.Path.{◌≡◌, refl, sym, ap, ◌∙◌, subst}
use mathlib.Core.Bool.{Bool, true, false, not, ◌||◌, true≢false}
use mathlib.Core.List.{List, ◌++◌, map}
use Prim.Native.Nat.{ℕ, min, ◌+◌, ◌-◌, ◌≤◌, ◌<◌, ◌^◌}
use native.Mathlib.Decide.{dec_lt}
use native.Mathlib.Omega.{arith}
use borrow.Author.Tests.{ltb-false, lt-ltb, le-ltb, eqb-true, ne_eqb}
use lib.Dec.{eqb, ltb}
use lib.IntN.{ℤ, pos, negsuc, neg_ℤ, nat_abs}
use lib.Signed.{lt_z}
use lib.ListN.{length, get_or, take, drop, length-map, get_or-map, get_or-append, length-append}
use lib.Seq.{length-sets, sets-eq, take_at, take_all, length-take-le}
use Rattle.csv_print.specs.Text.{refusal_text}
use Rattle.csv_answers.specs.inner.FlowFits.{FlowFits}
use Rattle.plan_files.specs.declared.planned.Printed.{Printed}
use Rattle.plan_files.specs.Printed.{Told}
use Rattle.csv_case.specs.Entries.{entries_of, EntriesStored}
use Rattle.dimacs.specs.Arc.{Arc, arc}
use Rattle.dimacs.specs.Form.{File, Form, whole, broken, form_of}
use Rattle.dimacs.specs.Lines.{any_of}
use Rattle.flow_problem.specs.Network.{Network, arc_count, ceiling, cost, listed}
use Rattle.flow_problem.specs.Answer.{arcs_of, network_of, Room, Outcome, carried, refused, outcome_of, judged, limited, out_of_limits, bad_file, bad_name, too_short, flow_outcome, flows, least_total}
use Rattle.flow_problem.specs.Promise.{Slices, room_of, Given, Answered}
use Rattle.flow_problem.proofs.FlowListing.{none_of}
use Rattle.flow_problem.proofs.Answers.{answer-29, answer-30}
use Rattle.flow_problem.proofs.SoundNetwork.{proper, four, count_is, few_arcs}
use Rattle.std.proofs.Common.{Result, Ok, Err}
use Rattle.refusal.specs.Number.{number_of}
use Rattle.refusal.specs.declared.Refusal.{Refusal}
use Rattle.refusal.specs.declared.Cause.{Cause}
use Rattle.dimacs.specs.declared.store.Reading.{Reading}
use Rattle.dimacs.specs.inner.Stored.{ReadAs}
use Rattle.flow_network.specs.declared.Carried.{Carried}
use Rattle.flow_network.specs.Answer.{outcome, count_in, count_of, arcs_said}
use Rattle.flow_files.specs.Printing.{place_of, room, network_outcome, table_then, table_outcome, form_then, files_outcome, flow_bytes, FlowPrinted}
use Rattle.flow_files.specs.Printing.{RefusalPrinted, OutcomePrinted, NetworkPrinted, TablePrinted, FilesPrinted}
use Rattle.flow_files.specs.inner.ArcCells.{FormedIs, ArcsCut, cut_text}
use Rattle.problem.proofs.TestsPassed.{either_first, either_second}

-- ---- an outcome

same_refusal : {out out' : List ℕ} {r : Printed} (o : Outcome) {number at : ℕ} → o ≡ refused number at → Told number at 0 0 (refusal_text number at) out out' r → RefusalPrinted o out out' r
same_refusal {out} {out'} {r} o {number} {at} e told number' at' h =
    let en : number ≡ number' = cc in
    let ea : at ≡ at' = cc in
    subst (λ (x : ℕ). Told x at' 0 0 (refusal_text x at') out out' r) en (subst (λ (y : ℕ). Told number y 0 0 (refusal_text number y) out out' r) ea told)

pub printed_refusal : (s : List ℕ) (place : ℕ) (table : List ℕ) (o : Outcome) {number at : ℕ} {out out' : List ℕ} {answer : Printed}
    → o ≡ refused number at → Told number at 0 0 (refusal_text number at) out out' answer → OutcomePrinted s place table o out out' answer
printed_refusal s place table o {number} {at} {out} {out'} {answer} e told = record {
  refusal = same_refusal o e told;
  flow = λ f total w h. absurd (let z : ◌≡◌ {A = ℕ} 0 1 = cc in omega arith);
}

-- a flow comes from a file of the form that is within the limits
pub record Within (s : List ℕ) (place : ℕ) (table : List ℕ) (r : Room) : Type 0 where
  pub file : File
  pub form : form_of s ≡ whole file
  pub limits : out_of_limits file place table r ≡ false

pub within : (s : List ℕ) (place : ℕ) (table : List ℕ) (r : Room) (total : ℤ) → outcome_of s place table r ≡ carried total → Within s place table r
unfolding outcome_of judged limited
within s place table r total e = go (form_of s) refl e
  where
    by_limits : (f : File) → form_of s ≡ whole f → (b : Bool) → out_of_limits f place table r ≡ b
        → elim b [ true ↦ refused 30 0 | false ↦ flow_outcome (flows (network_of f)) (least_total (network_of f) (place - 1) table) ] ≡ carried total → Within s place table r
    by_limits f k true l w = absurd (let z : ◌≡◌ {A = ℕ} 0 1 = cc in omega arith)
    by_limits f k false l w = record { file = f; form = k; limits = l }

    go : (g : Form) → form_of s ≡ g → judged g place table r ≡ carried total → Within s place table r
    go (broken line) k w = absurd (let z : ◌≡◌ {A = ℕ} 0 1 = cc in omega arith)
    go (whole f) k w = by_limits f k (out_of_limits f place table r) refl w

-- ---- a flow

small_cost : (z : ℤ) → lt_z z (neg_ℤ (pos 1000000)) ≡ false → lt_z (pos 1000000) z ≡ false → nat_abs z < 2 ^ 31
small_cost (pos n) l h = omega (arith, ltb-false 1000000 n h)
small_cost (negsuc n) l h = omega (arith, ltb-false 999999 n l)

module _ (place : ℕ) (table : List ℕ) (f : File) (total : ℤ) (count : ℕ) (before after : Slices) (counted : count ≡ length f.arcs) (limits : out_of_limits f place table (room_of before) ≡ false)
    (flow-long : length before.flow ≡ 64) (starts_long : length before.starts ≡ 64) (ends_long : length before.ends ≡ 64) (costs_long : length before.costs ≡ 64)
    (given : Given f place table total before after) where
  bad : bad_file f ≡ false
  unfolding out_of_limits
  bad = either_first _ _ limits

  name :
      (ltb place 1 ≡ false) × (ltb (arc_count (network_of f)) place ≡ false) × (not (eqb (length table) (ceiling (network_of f) (place - 1) + 1)) ≡ false) × (any_of (λ e. ltb 1000000000 e) table ≡ false)
  unfolding out_of_limits bad_name
  name =
      four (ltb place 1) (ltb (arc_count (network_of f)) place) (not (eqb (length table) (ceiling (network_of f) (place - 1) + 1))) (any_of (λ e. ltb 1000000000 e) table)
      (either_first _ _ (either_second (bad_file f) _ limits))

  arcs_long : length (arcs_of f) ≡ count
  arcs_long = length-map f.arcs (λ v. v.arc) ∙ sym counted

  count_arcs : arc_count (network_of f) ≡ count
  count_arcs = count_is f bad ∙ sym counted

  placed : (1 ≤ place) × (place - 1 < count)
  placed = (ltb-false place 1 name.0, omega (arith, ltb-false place 1 name.0, ltb-false (arc_count (network_of f)) place name.1, count_arcs))

  few : count ≤ 64
  few = omega (arith, few_arcs f bad, count_arcs)

  amounts_long : length given.amounts ≡ count
  amounts_long = given.cheapest.flow.long ∙ count_arcs

  starts_count : length (map (λ (a : Arc). a.start) (arcs_of f)) ≡ count
  starts_count = length-map (arcs_of f) (λ (a : Arc). a.start) ∙ arcs_long

  ends_count : length (map (λ (a : Arc). a.end) (arcs_of f)) ≡ count
  ends_count = length-map (arcs_of f) (λ (a : Arc). a.end) ∙ arcs_long

  costs_count : length (map (λ (a : Arc). a.cost) (arcs_of f)) ≡ count
  costs_count = length-map (arcs_of f) (λ (a : Arc). a.cost) ∙ arcs_long

  -- the first cells
  cut_flow : take count after.flow ≡ given.amounts
  cut_flow = rw given.flow (take_at given.amounts _ count amounts_long)

  cut_starts : take count after.starts ≡ map (λ (a : Arc). a.start) (arcs_of f)
  cut_starts = rw given.starts (take_at _ _ count starts_count)

  cut_ends : take count after.ends ≡ map (λ (a : Arc). a.end) (arcs_of f)
  cut_ends = rw given.ends (take_at _ _ count ends_count)

  cut_costs : take count after.costs ≡ map (λ (a : Arc). a.cost) (arcs_of f)
  cut_costs = rw given.costs (take_at _ _ count costs_count)

  named_flow_lem : get_or after.flow (place - 1) 0 ≡ listed given.amounts (place - 1)
  named_flow_lem = rw given.flow (get_or-append given.amounts _ 0 (place - 1) (omega (arith, placed, amounts_long)))

  small : (k : ℕ) → k < count → listed given.amounts k ≤ 4000
  small k h = omega (arith, given.cheapest.flow.within k (omega (arith, count_arcs)), (proper f bad).ceilings k (omega (arith, count_arcs)))

  cost_is : (k : ℕ) → get_or (map (λ (a : Arc). a.cost) (arcs_of f)) k (pos 0) ≡ cost (network_of f) k
  unfolding network_of
  cost_is k = get_or-map (λ (a : Arc). a.cost) (arcs_of f) k (arc 0 0 0 (pos 0))

  -- the entry at the named arc's flow
  entered : listed given.amounts (place - 1) < length table
  entered =
      omega (
        arith,
        eqb-true (length table) _ (not_false _ name.2),
        given.cheapest.flow.within (place - 1) (omega (arith, placed, count_arcs)),
      )
    where
      not_false : (b : Bool) → not b ≡ false → b ≡ true
      not_false true e = refl
      not_false false e = absurd (true≢false e)

  fits :
      FlowFits (listed table (listed given.amounts (place - 1))) (map (λ (a : Arc). a.start) (arcs_of f)) (map (λ (a : Arc). a.end) (arcs_of f))
      given.amounts (map (λ (a : Arc). a.cost) (arcs_of f))
  fits = record {
    few = omega (arith, few, starts_count);
    in_ends = omega (arith, starts_count, ends_count);
    charged =
        omega (arith, ltb-false 1000000000 (listed table (listed given.amounts (place - 1))) (none_of (λ e. ltb 1000000000 e) table 0 name.3 (listed given.amounts (place - 1)) entered));
    narrow_costs = record {
      there = omega (arith, starts_count, costs_count);
      below = λ k h.
          let l : k < arc_count (network_of f) = omega (arith, starts_count, count_arcs) in
          rw (cost_is k) (small_cost (cost (network_of f) k) ((proper f bad).costs_low k l) ((proper f bad).costs_high k l));
    };
    narrow_amounts = record { there = omega (arith, starts_count, amounts_long); below = λ k h. omega (arith, small k (omega (arith, starts_count))) };
  }

  long_after : {A : Type 0} (l old new : List A) → new ≡ l ++ drop (length l) old → length l ≡ count → length old ≡ 64 → count ≤ length new
  long_after l old new e k h = omega (arith, ap length e, length-append l (drop (length l) old))

  pub cut : ArcsCut count place table after.flow after.starts after.ends after.costs
  cut = record {
    placed = placed.0;
    named = omega (arith, placed, long_after given.amounts before.flow after.flow given.flow amounts_long flow-long);
    charged = omega (arith, named_flow_lem, entered);
    in_flow = long_after given.amounts before.flow after.flow given.flow amounts_long flow-long;
    in_starts = long_after (map (λ (a : Arc). a.start) (arcs_of f)) before.starts after.starts given.starts starts_count starts_long;
    in_ends = long_after (map (λ (a : Arc). a.end) (arcs_of f)) before.ends after.ends given.ends ends_count ends_long;
    in_costs = long_after (map (λ (a : Arc). a.cost) (arcs_of f)) before.costs after.costs given.costs costs_count costs_long;
    fits = rw (cut_starts, cut_ends, cut_flow, cut_costs, named_flow_lem) fits;
  }

  pub text_is : cut_text total count place table after.flow after.starts after.ends after.costs ≡ flow_bytes f (place - 1) table given.amounts total
  unfolding flow_bytes
  text_is = rw (cut_starts, cut_ends, cut_flow, cut_costs, named_flow_lem) refl

-- a file of the form has so many arcs
abbrev CountIs : List ℕ → ℕ → Type 0
CountIs s count = (f : File) → form_of s ≡ whole f → count ≡ length f.arcs

-- the count that is told beside a flow is the file's
pub count_known : (s : List ℕ) {a : Result Carried Refusal} {k : Carried} → count_in a ≡ count_of (outcome a) (arcs_said (form_of s)) → a ≡ Ok k → CountIs s k.arcs
count_known s {a} {k} h e f form =
    sym (ap count_in e) ∙ h ∙ ap (λ (x : Result Carried Refusal). count_of (outcome x) (arcs_said (form_of s))) e ∙ ap arcs_said form

-- what is answered of a network file is printed
module _ (s : List ℕ) (place : ℕ) (table : List ℕ) (before after : Slices)
    (flow-long : length before.flow ≡ 64) (starts_long : length before.starts ≡ 64) (ends_long : length before.ends ≡ 64)
    (ceilings_long : length before.ceilings ≡ 64) (costs_long : length before.costs ≡ 64) where
  room_is : room_of before ≡ room
  room_is = rw (flow-long, starts_long, ends_long, ceilings_long, costs_long) refl

  module _ {r : Outcome} (answered : Answered s place table r before after) where
    outcome_is : network_outcome s place table ≡ r
    unfolding network_outcome
    outcome_is = ap (λ (x : Room). outcome_of s place table x) (sym room_is) ∙ sym answered.answer

    pub network_refused : {number at : ℕ} → r ≡ refused number at → {out out' : List ℕ} {answer : Printed} → Told number at 0 0 (refusal_text number at) out out' answer
        → NetworkPrinted s place table out out' answer
    network_refused e told = printed_refusal s place table (network_outcome s place table) (outcome_is ∙ e) told

    module _ (total : ℤ) (told : r ≡ carried total) (count : ℕ) (counted : CountIs s count) where
      from : Within s place table (room_of before)
      from = within s place table (room_of before) total (sym answered.answer ∙ told)

      pub network_cut : ArcsCut count place table after.flow after.starts after.ends after.costs
      network_cut =
          let w = from in
          cut place table w.file total count before after (counted w.file w.form) w.limits flow-long starts_long ends_long costs_long
          (answered.given w.file total w.form told)

      pub network_flow : {out out' : List ℕ} {answer : Printed} → Told 0 0 0 0 (cut_text total count place table after.flow after.starts after.ends after.costs) out out' answer
          → NetworkPrinted s place table out out' answer
      network_flow {out} {out'} {answer} printed = record {
        refusal = λ number at h. absurd (let k = outcome_is in let z : ◌≡◌ {A = ℕ} 0 1 = cc in omega arith);
        flow = λ f total' form h.
            let w = from in
            let same : w.file ≡ f = (let k = w.form in cc) in
            let et : total ≡ total' = (let k = outcome_is in cc) in
            let g = answered.given w.file total w.form told in
            subst (λ (x : ℤ). FlowPrinted f place table x out out' answer) et
            (subst (λ (x : File). FlowPrinted x place table total out out' answer) same
            (record {
              amounts = g.amounts;
              cheapest = g.cheapest;
              text = subst (λ (t : List ℕ). Told 0 0 0 0 t out out' answer)
                  (text_is place table w.file total count before after (counted w.file w.form) w.limits flow-long starts_long ends_long costs_long g) printed;
            }));
      }

-- ---- a table of more than 4,001 entries is out of the limits

long_name : (g : Network) (place : ℕ) (table : List ℕ) → ((j : ℕ) → j < arc_count g → ceiling g j ≤ 4000) → 4001 < length table → bad_name g place table ≡ true
unfolding bad_name
long_name g place table small long = by_low (ltb place 1) refl
  where
    differs : 1 ≤ place → place ≤ arc_count g → not (eqb (length table) (ceiling g (place - 1) + 1)) ≡ true
    differs l h = ap not (ne_eqb (length table) (ceiling g (place - 1) + 1) (λ e. omega (arith, small (place - 1) (omega arith))))

    by_high : 1 ≤ place → (b : Bool) → ltb (arc_count g) place ≡ b → (b || (not (eqb (length table) (ceiling g (place - 1) + 1)) || any_of (λ e. ltb 1000000000 e) table)) ≡ true
    by_high l true e = refl
    by_high l false e = rw (differs l (ltb-false (arc_count g) place e)) refl

    by_low : (b : Bool) → ltb place 1 ≡ b
        → (b || (ltb (arc_count g) place || (not (eqb (length table) (ceiling g (place - 1) + 1)) || any_of (λ e. ltb 1000000000 e) table))) ≡ true
    by_low true e = refl
    by_low false e = by_high (ltb-false place 1 e) (ltb (arc_count g) place) refl

long_limits : (f : File) (place : ℕ) (table : List ℕ) (r : Room) → 4001 < length table → out_of_limits f place table r ≡ true
unfolding out_of_limits
long_limits f place table r long = by_file (bad_file f) refl
  where
    by_file : (b : Bool) → bad_file f ≡ b → (b || (bad_name (network_of f) place table || too_short r (length f.arcs))) ≡ true
    by_file true e = refl
    by_file false e = rw (long_name (network_of f) place table (proper f e).ceilings long) refl

long_outcome : (s : List ℕ) (place : ℕ) (table : List ℕ) → 4001 < length table → network_outcome s place table ≡ form_then (form_of s) (refused 30 0)
unfolding network_outcome
long_outcome s place table long = go (form_of s) refl
  where
    go : (g : Form) → form_of s ≡ g → outcome_of s place table room ≡ form_then g (refused 30 0)
    go (broken line) e = answer-29 s place table room line e
    go (whole f) e = answer-30 s place table room f e (long_limits f place table room long)

never_carried : (g : Form) (number at : ℕ) (total : ℤ) → form_then g (refused number at) ≡ carried total → ⊥
never_carried (broken line) number at total e = let z : ◌≡◌ {A = ℕ} 0 1 = cc in omega arith
never_carried (whole f) number at total e = let z : ◌≡◌ {A = ℕ} 0 1 = cc in omega arith

-- 29 comes first in what is answered of the network file too
form_first : (s : List ℕ) (place : ℕ) (table : List ℕ) → form_then (form_of s) (network_outcome s place table) ≡ network_outcome s place table
unfolding network_outcome
form_first s place table = go (form_of s) refl
  where
    go : (g : Form) → form_of s ≡ g → form_then g (outcome_of s place table room) ≡ outcome_of s place table room
    go (broken line) e = sym (answer-29 s place table room line e)
    go (whole f) e = refl

-- the first 4,002 entries are answered as all
pub first_entries : (s : List ℕ) (place : ℕ) (table : List ℕ) {out out' : List ℕ} {answer : Printed}
    → NetworkPrinted s place (take 4002 table) out out' answer → NetworkPrinted s place table out out' answer
first_entries s place table {out} {out'} {answer} p = elim (dec_lt 4002 (length table)) [
  | yes h ↦
      let kept : length (take 4002 table) ≡ 4002 = length-take-le 4002 table (omega arith) in
      let a = long_outcome s place (take 4002 table) (omega arith) in
      let b = long_outcome s place table (omega arith) in
      record {
        refusal = λ number at e. p.refusal number at (a ∙ sym b ∙ e);
        flow = λ f total w e. absurd (never_carried (form_of s) 30 0 total (sym b ∙ e));
      }
  | no h ↦ subst (λ (t : List ℕ). NetworkPrinted s place t out out' answer) (take_all 4002 table (omega arith)) p
]

-- ---- the files

-- the stored entries, cut to what there are
pub cut_entries : (t cells cells' : List ℕ) (count kept : ℕ) {answer : Result ℕ Refusal} → length cells ≡ 4002 → EntriesStored t cells cells' answer → answer ≡ Ok count → kept ≡ min count 4002
    → take kept cells' ≡ take 4002 (entries_of t)
cut_entries t cells cells' count kept long stored e k =
    let l = take 4002 (entries_of t) in
    let n : length l ≡ kept = first (entries_of t) (stored.counted count e) in
    rw (stored.stored count e, sets-eq l cells 0 (omega arith)) (take_at l (drop (0 + length l) cells) kept n)
  where
    first : (m : List ℕ) → count ≡ length m → length (take 4002 m) ≡ kept
    first m c = elim (dec_lt 4002 count) [
      | yes h ↦ length-take-le 4002 m (omega arith) ∙ omega arith
      | no h ↦ ap length (take_all 4002 m (omega arith)) ∙ omega arith
    ]

pub entries_kept : (t cells cells' : List ℕ) (count kept : ℕ) {answer : Result ℕ Refusal} → length cells ≡ 4002 → EntriesStored t cells cells' answer → answer ≡ Ok count → kept ≡ min count 4002
    → kept ≤ length cells'
entries_kept t cells cells' count kept long stored e k = omega (arith, ap length (stored.stored count e), length-sets cells 0 (take 4002 (entries_of t)))

module _ (s arc t : List ℕ) {answer : Result ℕ Refusal} {cells cells' : List ℕ} (stored : EntriesStored t cells cells' answer) {out out' : List ℕ} {r : Printed} where
  pub table_refused : {why : Refusal} → answer ≡ Err why → {number : ℕ} → number ≡ number_of why.cause →
      RefusalPrinted (form_then (form_of s) (refused number why.place)) out out' r → TablePrinted s arc t out out' r
  unfolding table_outcome
  table_refused {why} e {number} n told =
      let place = why.place in
      let k : table_outcome s arc t ≡ refused number place = ap (λ (x : Result ℕ Refusal). table_then x (network_outcome s (place_of arc) (entries_of t))) (sym stored.answered ∙ e) ∙ ap (λ (x : ℕ). refused x why.place) (sym n) in
      subst (λ (o : Outcome). OutcomePrinted s (place_of arc) (entries_of t) (form_then (form_of s) o) out out' r) (sym k)
      (record { refusal = told; flow = λ f total w h. absurd (never_carried (form_of s) number place total h) })

  pub table_read : (count kept place : ℕ) → length cells ≡ 4002 → answer ≡ Ok count → kept ≡ min count 4002 → place ≡ place_of arc
      → NetworkPrinted s place (take kept cells') out out' r → TablePrinted s arc t out out' r
  unfolding table_outcome
  table_read count kept place long e k named p =
      let a : table_outcome s arc t ≡ network_outcome s (place_of arc) (entries_of t) = ap (λ (x : Result ℕ Refusal). table_then x (network_outcome s (place_of arc) (entries_of t))) (sym stored.answered ∙ e) in
      let q = first_entries s (place_of arc) (entries_of t) (rw (cut_entries t cells cells' count kept long stored e k, named) at p) in
      subst (λ (o : Outcome). OutcomePrinted s (place_of arc) (entries_of t) o out out' r) (sym (ap (form_then (form_of s)) a ∙ form_first s (place_of arc) (entries_of t))) q

module _ (s arc t : List ℕ) {out out' : List ℕ} {r : Printed} where
  pub too_long : 65536 < length s → Told 20 0 0 0 (refusal_text 20 0) out out' r → FilesPrinted s arc t out out' r
  unfolding files_outcome
  too_long h told = printed_refusal s (place_of arc) (entries_of t) _ (rw (lt-ltb 65536 (length s) h) refl) told

  pub not_long : length s ≤ 65536 → TablePrinted s arc t out out' r → FilesPrinted s arc t out out' r
  unfolding files_outcome
  not_long h p = rw (le-ltb 65536 (length s) h) p

-- ---- the form

pub formed_is : (s : List ℕ) (answer : Result Reading Refusal) (starts ends ceilings : List ℕ) (costs : List ℤ) (gives takes marks : List ℕ) →
    ReadAs s answer starts ends ceilings costs gives takes marks → FormedIs s answer
formed_is s (Err why) starts ends ceilings costs gives takes marks h = (h.0, h.2)
formed_is s (Ok reading) starts ends ceilings costs gives takes marks h = (h.0, h.1)

module _ (s : List ℕ) {answer : Result Reading Refusal} (formed : FormedIs s answer) (number place : ℕ) {out out' : List ℕ} {r : Printed} where
  pub not_formed : {why : Refusal} → answer ≡ Err why → {n : ℕ} → n ≡ number_of why.cause → Told n why.place 0 0 (refusal_text n why.place) out out' r →
      RefusalPrinted (form_then (form_of s) (refused number place)) out out' r
  not_formed {why} e {n} k told =
      let f = subst (FormedIs s) e formed in
      same_refusal _ (ap (λ (g : Form). form_then g (refused number place)) f.0 ∙ ap (λ (x : ℕ). refused x why.place) (sym (k ∙ ap (λ (c : Cause). number_of c) f.1))) told

  pub well_formed : {reading : Reading} → answer ≡ Ok reading → Told number place 0 0 (refusal_text number place) out out' r → RefusalPrinted (form_then (form_of s) (refused number place)) out out' r
  well_formed e told =
      let f = subst (FormedIs s) e formed in
      same_refusal _ (ap (λ (g : Form). form_then g (refused number place)) f.1) told
