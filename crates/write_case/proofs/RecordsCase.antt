-- The case that the records of the two texts are. Assumes nothing.
use mathlib.Core.Path.{◌≡◌, refl, ap, ◌∙◌}
use mathlib.Core.List.{List, [], ◌∷◌, ◌++◌, map}
use Prim.Native.Nat.{ℕ, zero, suc, ◌+◌, ◌*◌, ◌≤◌}
use native.Mathlib.Omega.{arith}
use borrow.Author.Tests.{eq-eqb, le-ltb}
use lib.IntN.{ℤ, pos, nat_abs}
use lib.ListN.{length, get_or, take, replicate, length-append}
use lib.Seq.{take_at, get_or_at}
use Rattle.csv_form.specs.declared.Kind.{Kind}
use Rattle.csv_form.specs.declared.Kind.TheVariants.{Tariff}
use Rattle.csv_form.specs.Records.{whole, form_of}
use Rattle.csv_table.specs.Files.{shaped, wanted, odd_from, judge, table_of, in_order}
use Rattle.csv_case.specs.CaseFiles.{sources_in, terminals_in, source_records, costs_in, supplies_in, demands_in, entries_in}
use Rattle.plan_files.specs.Printed.{filed_case, case_of}
use Rattle.csv_case.proofs.TariffCase.{Even}
use Rattle.case_texts.specs.Texts.{tab, source_record, tariff_records, production_records}
use Rattle.case_texts.proofs.ListsInOrder.{tab_length, tab_ext, tab_list, tab_map, tab_rows, tab_ones}

even_snoc : (w : ℕ) (rs : List (List ℤ)) (r : List ℤ) → Even w rs → length r ≡ w → Even w (rs ++ (r ∷ []))
even_snoc w [] r e h = (h, tt)
even_snoc w (x ∷ rs) r e h = (e.0, even_snoc w rs r e.1 h)

even_tab : (w k : ℕ) (f : ℕ → List ℤ) → ((i : ℕ) → length (f i) ≡ w) → Even w (tab k f)
unfolding tab
even_tab w zero f h = tt
even_tab w (suc k) f h = even_snoc w (tab k f) (f k) (even_tab w k f h) (h k)

wanted_even : (w : ℕ) (rs : List (List ℤ)) → 1 ≤ length rs → Even w rs → wanted Tariff rs ≡ w
unfolding wanted
wanted_even w [] h e = absurd (omega arith)
wanted_even w (r ∷ rs) h e = e.0

none_odd : (w i : ℕ) (rs : List (List ℤ)) → Even w rs → odd_from w i rs ≡ 0
unfolding odd_from
none_odd w i [] e = refl
none_odd w i (r ∷ rs) e = rw (eq-eqb (length r) w e.0) (none_odd w (suc i) rs e.1)

-- a text of the form with equal field counts is not refused
pub table_whole :
    (kind : Kind) (text : List ℕ) (rs : List (List ℤ)) (w : ℕ) → length text ≤ 65536 → form_of kind text ≡ whole rs → wanted kind rs ≡ w → Even w rs →
    table_of kind text ≡ shaped (length rs) w
unfolding table_of judge
table_whole kind text rs w short f e even = rw (le-ltb 65536 (length text) short, f, e, none_odd w 1 rs even) refl

-- the entries of the production records
pub entries_are : (table : List ℕ) → entries_in (production_records table) ≡ table
unfolding entries_in production_records
entries_are table =
    ap (λ (l : List ℤ). map nat_abs l) (tab_ones (length table) (λ y. pos (get_or table y 0)))
    ∙ tab_map nat_abs (length table) (λ y. pos (get_or table y 0)) ∙ tab_list table 0 (length table) refl

module _ (m n : ℕ) (costs : List ℤ) (supplies demands : List ℕ) where
  abbrev rs : List (List ℤ)
  rs = tariff_records m n costs supplies demands

  row_length : (i : ℕ) → length (source_record costs supplies n i) ≡ n + 1
  unfolding source_record
  row_length i = omega (arith, length-append (tab n (λ j. get_or costs (i * n + j) (pos 0))) (pos (get_or supplies i 0) ∷ []), tab_length n (λ j. get_or costs (i * n + j) (pos 0)))

  pub tariff_even : Even (n + 1) (tariff_records m n costs supplies demands)
  unfolding tariff_records
  tariff_even =
      even_snoc (n + 1) (tab m (λ i. source_record costs supplies n i)) _ (even_tab (n + 1) m (λ i. source_record costs supplies n i) row_length)
      (omega (arith, length-append (tab n (λ j. pos (get_or demands j 0))) (pos 0 ∷ []), tab_length n (λ j. pos (get_or demands j 0))))

  pub tariff_count : length (tariff_records m n costs supplies demands) ≡ m + 1
  unfolding tariff_records
  tariff_count =
      omega (arith, length-append (tab m (λ i. source_record costs supplies n i)) ((tab n (λ j. pos (get_or demands j 0)) ++ (pos 0 ∷ [])) ∷ []), tab_length m (λ i. source_record costs supplies n i))

  pub tariff_wanted : wanted Tariff (tariff_records m n costs supplies demands) ≡ n + 1
  tariff_wanted = wanted_even (n + 1) rs (omega (arith, tariff_count)) tariff_even

  pub sources_are : sources_in rs ≡ m
  unfolding sources_in
  sources_are = omega (arith, tariff_count)

  pub terminals_are : terminals_in rs ≡ n
  unfolding terminals_in
  terminals_are = omega (arith, tariff_wanted)

  records_are : source_records rs ≡ tab m (λ i. source_record costs supplies n i)
  unfolding source_records tariff_records
  records_are =
      ap (λ (k : ℕ). take k (tab m (λ i. source_record costs supplies n i) ++ ((tab n (λ j. pos (get_or demands j 0)) ++ (pos 0 ∷ [])) ∷ []))) sources_are
      ∙ take_at (tab m (λ i. source_record costs supplies n i)) _ m (tab_length m (λ i. source_record costs supplies n i))

  pub costs_are : length costs ≡ m * n → costs_in rs ≡ costs
  unfolding costs_in source_record
  costs_are e =
      rw (terminals_are, records_are)
      (ap in_order
      (tab_map (λ (r : List ℤ). take n r) m (λ i. tab n (λ j. get_or costs (i * n + j) (pos 0)) ++ (pos (get_or supplies i 0) ∷ []))
      ∙ tab_ext m _ _ (λ i. take_at (tab n (λ j. get_or costs (i * n + j) (pos 0))) (pos (get_or supplies i 0) ∷ []) n (tab_length n (λ j. get_or costs (i * n + j) (pos 0)))))
      ∙ tab_rows m n (λ k. get_or costs k (pos 0)) ∙ tab_list costs (pos 0) (m * n) e)

  pub supplies_are : length supplies ≡ m → supplies_in rs ≡ supplies
  unfolding supplies_in source_record
  supplies_are e =
      rw (terminals_are, records_are)
      (tab_map (λ (r : List ℤ). nat_abs (get_or r n (pos 0))) m (λ i. tab n (λ j. get_or costs (i * n + j) (pos 0)) ++ (pos (get_or supplies i 0) ∷ []))
      ∙ tab_ext m _ _ (λ i. ap nat_abs (get_or_at (tab n (λ j. get_or costs (i * n + j) (pos 0))) (pos (get_or supplies i 0)) [] (pos 0) n (tab_length n (λ j. get_or costs (i * n + j) (pos 0)))))
      ∙ tab_list supplies 0 m e)

  pub demands_are : length demands ≡ n → demands_in rs ≡ demands
  unfolding demands_in tariff_records
  demands_are e =
      rw (terminals_are, sources_are)
      (ap (λ (r : List ℤ). map nat_abs (take n r))
      (get_or_at (tab m (λ i. source_record costs supplies n i)) (tab n (λ j. pos (get_or demands j 0)) ++ (pos 0 ∷ [])) [] [] m (tab_length m (λ i. source_record costs supplies n i)))
      ∙ ap (λ (r : List ℤ). map nat_abs r) (take_at (tab n (λ j. pos (get_or demands j 0))) (pos 0 ∷ []) n (tab_length n (λ j. pos (get_or demands j 0))))
      ∙ tab_map nat_abs n (λ j. pos (get_or demands j 0)) ∙ tab_list demands 0 n e)

  pub case_is :
      (table : List ℕ) → length costs ≡ m * n → length supplies ≡ m → length demands ≡ n →
      case_of (tariff_records m n costs supplies demands) (production_records table) ≡ filed_case m n costs supplies demands (replicate (m * n) 4000) table
  unfolding case_of
  case_is table ec es ed = rw (sources_are, terminals_are, costs_are ec, supplies_are es, demands_are ed, entries_are table) refl

pub production_even : (table : List ℕ) → Even 1 (production_records table)
unfolding production_records
production_even table = even_tab 1 (length table) (λ y. pos (get_or table y 0) ∷ []) (λ i. refl)

pub production_count : (table : List ℕ) → length (production_records table) ≡ length table
unfolding production_records
production_count table = tab_length (length table) (λ y. pos (get_or table y 0) ∷ [])
