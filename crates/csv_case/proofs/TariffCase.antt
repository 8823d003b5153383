-- The records of a tariff as a case. Assumes nothing.
use mathlib.Core.Path.{◌≡◌, refl, ap, sym, ◌∙◌, subst}
use mathlib.Core.Bool.{Bool, true, false}
use mathlib.Core.List.{List, [], ◌∷◌, ◌++◌, map, append_assoc}
use Prim.Native.Nat.{ℕ, zero, suc, ◌+◌, ◌-◌, ◌*◌, ◌≤◌, ◌<◌, min}
use native.Mathlib.Omega.{arith}
use native.Mathlib.Nat.{zero-mul, suc-mul, mul-le-mul}
use native.Mathlib.Decide.{dec_lt}
use borrow.Author.Tests.{ltb-false, eqb-true}
use lib.Dec.{eqb, ltb}
use lib.IntN.{ℤ, pos, nat_abs}
use lib.ListN.{length, get_or, take, drop, length-append, get_or-append}
use lib.Seq.{sets, sets-eq, take-append-le, take_at, take_all, take-take, drop-drop, drop_at}
use Rattle.csv_form.specs.declared.Kind.{Kind}
use Rattle.csv_form.specs.declared.Kind.TheVariants.{Tariff, Production}
use Rattle.std.proofs.Common.{Ok, Err}
use Rattle.refusal.specs.declared.Refusal.{Refusal}
use Rattle.refusal.specs.declared.Cause.TheVariants as causes
use Rattle.csv_form.specs.Records.{Form, whole, broken, form_of}
use Rattle.csv_table.specs.Files.{Table, shaped, refused, pick, wanted, odd_from, judge, table_of, pick_table, in_order}
use Rattle.csv_table.specs.inner.Tallies.{TableRead}
use Rattle.csv_case.specs.CaseFiles.{CaseAnswer, counts, sources_in, terminals_in, source_records, costs_in, supplies_in, demands_in, entries_in, cost_rows, supply_rows}
use Rattle.csv_case.specs.CaseFiles.{case_answer, TariffKept, Shared, CaseStored}
use Rattle.csv_table.proofs.FieldCounts.{judged_whole}
use Rattle.csv_print.proofs.Stores.{stored_part}

-- the same counts have the same parts
abbrev sources_of : CaseAnswer → ℕ
sources_of (Ok k) = k.m
sources_of (Err r) = 0

abbrev terminals_of : CaseAnswer → ℕ
terminals_of (Ok k) = k.n
terminals_of (Err r) = 0

abbrev entries_counted : CaseAnswer → ℕ
entries_counted (Ok k) = k.entries
entries_counted (Err r) = 0

pub same_counts : {m m' n n' entries entries' : ℕ} → counts m n entries ≡ counts m' n' entries' → (m ≡ m') × (n ≡ n') × (entries ≡ entries')
same_counts e = (ap sources_of e, ap terminals_of e, ap entries_counted e)

-- every record has w fields
abbrev pub Even : ℕ → List (List ℤ) → Type 0
Even w [] = Unit {0}
Even w (r ∷ rs) = (length r ≡ w) × Even w rs

even : (w i : ℕ) (rs : List (List ℤ)) → odd_from w (suc i) rs ≡ 0 → Even w rs
unfolding odd_from
even w i [] e = tt
even w i (r ∷ rs) e = go (eqb (length r) w) refl e (even w (suc i) rs)
  where
    go : (b : Bool) → eqb (length r) w ≡ b → pick b (odd_from w (suc (suc i)) rs) (suc i) ≡ 0 → (odd_from w (suc (suc i)) rs ≡ 0 → Even w rs) → (length r ≡ w) × Even w rs
    go true k z ih = (eqb-true (length r) w k, ih z)
    go false k z ih = absurd (omega arith)

-- a file that is accepted: its records, all of one field count
pub record Accepted (kind : Kind) (s : List ℕ) (records fields : ℕ) : Type 0 where
  pub short : length s ≤ 65536
  pub rows : List (List ℤ)
  pub form : form_of kind s ≡ whole rows
  pub counted : records ≡ length rows
  pub width : fields ≡ wanted kind rows
  pub all : Even fields rows

pub accepted : (kind : Kind) (s : List ℕ) (records fields : ℕ) → table_of kind s ≡ shaped records fields → Accepted kind s records fields
unfolding table_of judge
accepted kind s records fields e = by_size (ltb 65536 (length s)) refl e
  where
    by_form : length s ≤ 65536 → (f : Form) → form_of kind s ≡ f → judge kind f ≡ shaped records fields → Accepted kind s records fields
    by_form short (broken place) k w = absurd (let z : ◌≡◌ {A = ℕ} 0 1 = cc in omega arith)
    by_form short (whole rs) k w =
        let p = judged_whole (odd_from (wanted kind rs) 1 rs) (length rs) (wanted kind rs) records fields w in
        record {
          short = short;
          rows = rs;
          form = k;
          counted = sym p.1;
          width = sym p.2;
          all = subst (λ (n : ℕ). Even n rs) p.2 (even (wanted kind rs) 0 rs p.0);
        }

    by_size : (b : Bool) → ltb 65536 (length s) ≡ b → pick_table b (refused causes.File 0) (judge kind (form_of kind s)) ≡ shaped records fields → Accepted kind s records fields
    by_size true k w = absurd (let z : ◌≡◌ {A = ℕ} 0 1 = cc in omega arith)
    by_size false k w = by_form (ltb-false 65536 (length s) k) (form_of kind s) refl w

-- what an accepted file leaves in the cells
pub fields_read :
    {kind : Kind} {s : List ℕ} {cells cells' : List ℤ} {answer : Table} {records fields : ℕ} {rs : List (List ℤ)} → TableRead kind s cells cells' answer →
    table_of kind s ≡ shaped records fields → form_of kind s ≡ whole rs → cells' ≡ sets cells 0 (in_order rs)
fields_read {kind} {s} {cells} {cells'} {answer} {records} {fields} {rs} read e f = read.stored ∙ rw (e, f) refl

-- all fields of records of w fields each
pub even_length : (w : ℕ) (rs : List (List ℤ)) → Even w rs → length (in_order rs) ≡ length rs * w
unfolding in_order
even_length w [] e = sym (zero-mul w)
even_length w (r ∷ rs) e = omega (arith, length-append r (in_order rs), even_length w rs e.1, suc-mul (length rs) w, e.0)

-- the costs and supplies of the first m of such records, and what follows them
pub cost_rows_lem :
    (m n : ℕ) (rs : List (List ℤ)) (rest : List ℤ) → Even (n + 1) rs → m ≤ length rs →
    cost_rows m n (in_order rs ++ rest) ≡ in_order (map (λ (r : List ℤ). take n r) (take m rs))
unfolding cost_rows in_order
cost_rows_lem zero n rs rest e h = refl
cost_rows_lem (suc m) n [] rest e h = absurd (omega arith)
cost_rows_lem (suc m) n (r ∷ rs) rest e h =
    let long : n ≤ length r = omega (arith, e.0) in
    rw (
      append_assoc r (in_order rs) rest,
      take-append-le n r (in_order rs ++ rest) long,
      drop_at r (in_order rs ++ rest) (n + 1) e.0,
      cost_rows_lem m n rs rest e.1 (omega arith),
    )
    refl

pub supply_rows_lem :
    (m n : ℕ) (rs : List (List ℤ)) (rest : List ℤ) → Even (n + 1) rs → m ≤ length rs →
    supply_rows m n (in_order rs ++ rest) ≡ map (λ (r : List ℤ). nat_abs (get_or r n (pos 0))) (take m rs)
unfolding supply_rows in_order
supply_rows_lem zero n rs rest e h = refl
supply_rows_lem (suc m) n [] rest e h = absurd (omega arith)
supply_rows_lem (suc m) n (r ∷ rs) rest e h =
    let long : n < length r = omega (arith, e.0) in
    rw (
      append_assoc r (in_order rs) rest,
      get_or-append r (in_order rs ++ rest) (pos 0) n long,
      drop_at r (in_order rs ++ rest) (n + 1) e.0,
      supply_rows_lem m n rs rest e.1 (omega arith),
    )
    refl

pub demand_row :
    (m n : ℕ) (rs : List (List ℤ)) (rest : List ℤ) → Even (n + 1) rs → m < length rs →
    take n (drop (m * (n + 1)) (in_order rs ++ rest)) ≡ take n (get_or rs m [])
unfolding in_order
demand_row m n [] rest e h = absurd (omega arith)
demand_row zero n (r ∷ rs) rest e h =
    let long : n ≤ length r = omega (arith, e.0) in
    rw (zero-mul (n + 1), append_assoc r (in_order rs) rest, take-append-le n r (in_order rs ++ rest) long) refl
demand_row (suc m) n (r ∷ rs) rest e h =
    let split : suc m * (n + 1) ≡ (n + 1) + m * (n + 1) = omega (arith, suc-mul m (n + 1)) in
    rw (split, append_assoc r (in_order rs) rest, ← (drop-drop (m * (n + 1)) (n + 1) (r ++ (in_order rs ++ rest))), drop_at r (in_order rs ++ rest) (n + 1) e.0)
    (demand_row m n rs rest e.1 (omega arith))

-- what stands in the cells after the file is read
module _ (cells : List ℤ) (rs : List (List ℤ)) (m n : ℕ) (long : length cells ≡ 2145) (sources : length rs ≡ m + 1) (even-rows : Even (n + 1) rs) (few : m ≤ 32) (narrow : n ≤ 64) where
  fits : length (in_order rs) ≤ length cells
  fits =
      let p : (m + 1) * (n + 1) ≤ 33 * 65 = mul-le-mul {n₁ = m + 1} {m₁ = n + 1} {n₂ = 33} {m₂ = 65} (omega arith) (omega arith) in
      omega (arith, even_length (n + 1) rs even-rows, ap (λ (k : ℕ). k * (n + 1)) sources)

  filled : sets cells 0 (in_order rs) ≡ in_order rs ++ drop (0 + length (in_order rs)) cells
  filled = sets-eq (in_order rs) cells 0 (omega (arith, fits))

  pub stored_costs : wanted Tariff rs ≡ n + 1 → cost_rows m n (sets cells 0 (in_order rs)) ≡ costs_in rs
  unfolding costs_in source_records terminals_in sources_in
  stored_costs w =
      let k : length rs - 1 ≡ m = omega arith in
      let l : wanted Tariff rs - 1 ≡ n = omega arith in
      rw (filled, k, l) (cost_rows_lem m n rs (drop (0 + length (in_order rs)) cells) even-rows (omega arith))

  pub stored_supplies : wanted Tariff rs ≡ n + 1 → supply_rows m n (sets cells 0 (in_order rs)) ≡ supplies_in rs
  unfolding supplies_in source_records terminals_in sources_in
  stored_supplies w =
      let k : length rs - 1 ≡ m = omega arith in
      let l : wanted Tariff rs - 1 ≡ n = omega arith in
      rw (filled, k, l) (supply_rows_lem m n rs (drop (0 + length (in_order rs)) cells) even-rows (omega arith))

  pub stored_demands : wanted Tariff rs ≡ n + 1 → map nat_abs (take n (drop (m * (n + 1)) (sets cells 0 (in_order rs)))) ≡ demands_in rs
  unfolding demands_in terminals_in sources_in
  stored_demands w =
      let k : length rs - 1 ≡ m = omega arith in
      let l : wanted Tariff rs - 1 ≡ n = omega arith in
      rw (filled, k, l) (ap (λ (x : List ℤ). map nat_abs x) (demand_row m n rs (drop (0 + length (in_order rs)) cells) even-rows (omega arith)))

-- a tariff of at most 32 sources and 64 terminals has its demands within the cells
pub share_room : (m n : ℕ) → m ≤ 32 → n ≤ 64 → m * (n + 1) ≤ 2080
share_room m n few narrow = mul-le-mul {n₁ = m} {m₁ = n + 1} {n₂ = 32} {m₂ = 65} few (omega arith)

-- the first entries that fit the cells
pub stored_entries :
    (cells cells' : List ℤ) (qs : List (List ℤ)) (entries : ℕ) → length cells ≡ 4002 → length (in_order qs) ≡ entries → cells' ≡ sets cells 0 (in_order qs) →
    map nat_abs (take (min entries 4002) cells') ≡ take 4002 (entries_in qs)
unfolding entries_in
stored_entries cells cells' qs entries long count kept =
    ap (λ (l : List ℤ). map nat_abs (take (min entries 4002) l)) kept ∙ ap (λ (l : List ℤ). map nat_abs l) cut ∙ map_take 4002 (in_order qs)
  where
    map_take : (k : ℕ) (l : List ℤ) → map nat_abs (take k l) ≡ take k (map nat_abs l)
    map_take zero l = refl
    map_take (suc k) [] = refl
    map_take (suc k) (z ∷ l) = ap (λ (r : List ℕ). nat_abs z ∷ r) (map_take k l)

    cut : take (min entries 4002) (sets cells 0 (in_order qs)) ≡ take 4002 (in_order qs)
    cut = elim (dec_lt 4002 entries) [
      | yes h ↦
          let l = in_order qs in
          let e : sets cells 0 l ≡ take 4002 l = stored_part l cells 4002 long (omega arith) in
          let k : min entries 4002 ≡ 4002 = omega arith in
          rw (k, e) (take-take 4002 4002 l (omega arith))
      | no h ↦
          let l = in_order qs in
          let k : min entries 4002 ≡ entries = omega arith in
          rw (k, sets-eq l cells 0 (omega arith)) (take_at l (drop (0 + length l) cells) entries count ∙ sym (take_all 4002 l (omega arith)))
    ]

-- cells that are not written
pub untouched : (costs : List ℤ) (supplies demands : List ℕ) → TariffKept costs supplies demands costs supplies demands
untouched costs supplies demands = record { costs_kept = refl; supplies_kept = refl; demands_kept = refl }

-- nothing of a larger tariff is shared out
pub too_large : (m n : ℕ) (cells costs : List ℤ) (supplies demands : List ℕ) → (m ≤ 32 → n ≤ 64 → ⊥) → Shared m n cells costs supplies demands costs supplies demands
too_large m n cells costs supplies demands no_room = record {
  costs_shared = λ few narrow. absurd (no_room few narrow);
  supplies_shared = λ few narrow. absurd (no_room few narrow);
  demands_shared = λ few narrow. absurd (no_room few narrow);
  large_kept = λ _. untouched costs supplies demands;
}

module _ (t p : List ℕ) (costs : List ℤ) (supplies demands table : List ℕ) where
  refused_case : (r : Refusal) → Err r ≡ case_answer t p → CaseStored t p costs supplies demands table costs supplies demands table (Err r)
  refused_case r e = record {
    answered = e;
    tariff_stored = λ rs m n entries f w. absurd (let z : ◌≡◌ {A = ℕ} 0 1 = cc in omega arith);
    large_kept = λ m n entries w. absurd (let z : ◌≡◌ {A = ℕ} 0 1 = cc in omega arith);
    table_stored = λ qs m n entries f w. absurd (let z : ◌≡◌ {A = ℕ} 0 1 = cc in omega arith);
    refused_kept = λ _ _. untouched costs supplies demands;
    table_kept = λ _ _. refl;
  }

  pub tariff_refused : (a : Table) (r : Refusal) → a ≡ Err r → a ≡ table_of Tariff t → CaseStored t p costs supplies demands table costs supplies demands table (Err r)
  unfolding case_answer
  tariff_refused a r e k = refused_case r (let w : table_of Tariff t ≡ Err r = sym k ∙ e in rw w refl)

  pub production_refused :
      (records fields : ℕ) (b : Table) (r : Refusal) → shaped records fields ≡ table_of Tariff t → b ≡ Err r → b ≡ table_of Production p →
      CaseStored t p costs supplies demands table costs supplies demands table (Err r)
  unfolding case_answer
  production_refused records fields b r a e k = refused_case r (let w : table_of Production p ≡ Err r = sym k ∙ e in rw (← a, w) refl)

  pub both_accepted :
      (costs' : List ℤ) (supplies' demands' table' : List ℕ) (cells cells' held₀ held : List ℤ) (records fields entries one : ℕ) (whole-a whole-b : Table) →
      length cells ≡ 2145 → length held₀ ≡ 4002 → whole-a ≡ shaped records fields →
      TableRead Tariff t cells cells' whole-a → whole-b ≡ shaped entries one → TableRead Production p held₀ held whole-b →
      Shared (records - 1) (fields - 1) cells' costs supplies demands costs' supplies' demands' →
      table' ≡ sets table 0 (map nat_abs (take (min entries 4002) held)) →
      CaseStored t p costs supplies demands table costs' supplies' demands' table' (counts (records - 1) (fields - 1) entries)
  unfolding case_answer wanted
  both_accepted costs' supplies' demands' table' cells cells' held₀ held records fields entries one whole-a whole-b long long-held ea a' eb b' share shared-entries =
      let a : TableRead Tariff t cells cells' (shaped records fields) = subst (λ (x : Table). TableRead Tariff t cells cells' x) ea a' in
      let b : TableRead Production p held₀ held (shaped entries one) = subst (λ (x : Table). TableRead Production p held₀ held x) eb b' in
      let m = records - 1 in
      let n = fields - 1 in
      let wa = accepted Tariff t records fields (sym a.answered) in
      let wb = accepted Production p entries one (sym b.answered) in
      let some = a.some records fields refl in
      record {
        answered = rw (← a.answered, ← b.answered) refl;
        tariff_stored = λ rs m' n' entries' f w few' narrow'.
            let same : wa.rows ≡ rs = (let k = wa.form in cc) in
            let em : m ≡ m' = (same_counts w).0 in
            let en : n ≡ n' = (same_counts w).1 in
            let few : m ≤ 32 = omega arith in
            let narrow : n ≤ 64 = omega arith in
            let count : length rs ≡ m + 1 = omega (arith, wa.counted, ap length same) in
            let ef : fields ≡ n + 1 = omega arith in
            let even-rows : Even (n + 1) rs = subst (λ (k : ℕ). Even k rs) ef (subst (λ (l : List (List ℤ)). Even fields l) same wa.all) in
            let width : wanted Tariff rs ≡ n + 1 = (sym (ap (λ (l : List (List ℤ)). wanted Tariff l) same) ∙ sym wa.width) ∙ ef in
            let kept : cells' ≡ sets cells 0 (in_order rs) = fields_read a (sym a.answered) f in
            record {
              costs_stored =
                  share.costs_shared few narrow ∙ ap (λ (l : List ℤ). sets costs 0 l) (ap (λ (l : List ℤ). cost_rows m n l) kept ∙ stored_costs cells rs m n long count even-rows few narrow width);
              supplies_stored =
                  share.supplies_shared few narrow ∙
                  ap (λ (l : List ℕ). sets supplies 0 l) (ap (λ (l : List ℤ). supply_rows m n l) kept ∙ stored_supplies cells rs m n long count even-rows few narrow width);
              demands_stored =
                  share.demands_shared few narrow ∙
                  ap (λ (l : List ℕ). sets demands 0 l) (ap (λ (l : List ℤ). map nat_abs (take n (drop (m * (n + 1)) l))) kept ∙ stored_demands cells rs m n long count even-rows few narrow width);
            };
        large_kept = λ m' n' entries' w no_room.
            let em : m ≡ m' = (same_counts w).0 in
            let en : n ≡ n' = (same_counts w).1 in
            share.large_kept (λ few narrow. no_room (omega arith) (omega arith));
        refused_kept = λ r w. absurd (let z : ◌≡◌ {A = ℕ} 0 1 = cc in omega arith);
        table_kept = λ r w. absurd (let z : ◌≡◌ {A = ℕ} 0 1 = cc in omega arith);
        table_stored = λ qs m' n' entries' f w.
            let same : wb.rows ≡ qs = (let k = wb.form in cc) in
            let count : length (in_order qs) ≡ entries =
            ap (λ (l : List (List ℤ)). length (in_order l)) (sym same) ∙ even_length one wb.rows wb.all
            ∙ omega (arith, ap (λ (x : ℕ). length wb.rows * x) wb.width, wb.counted) in
            shared-entries ∙ ap (λ (l : List ℕ). sets table 0 l) (stored_entries held₀ held qs entries long-held count (fields_read b (sym b.answered) f));
      }
