-- Two cases' files, and refusals 32 and 33 at their edges. Assumes nothing.
use mathlib.Core.Path.{◌≡◌, refl}
use mathlib.Core.Option.{Option, none, some}
use mathlib.Core.List.{List, [], ◌∷◌, flat_map}
use Prim.Native.Nat.{ℕ}
use lib.IntN.{pos, negsuc}
use Rattle.transport.specs.Sum.{sum}
use Rattle.transport.specs.Plan.{row, col}
use Rattle.transport.specs.Listing.{up_from, select, compositions, row_lists, served, listing, every, fits, listing_in, some as some', least, greatest}
use Rattle.transport.specs.Curve.{amounts_at, has_plan, splits_in}
use Rattle.problem.specs.Integer.{eq_z, minℤ, sumℤ, leastℤ}
use Rattle.problem.specs.Freight.{freightℤ, least_freightℤ, least_atℤ, bendsℤ, is_stopℤ, stops_ofℤ, best_fromℤ}
use Rattle.problem.specs.Range.{outside}
use Rattle.csv_print.specs.Text.{digits_of, decimal, signed_text, field_text, record_text, each}
use Rattle.csv_print.specs.Column.{column_text}
use Rattle.problem.specs.Case.{Case, all_demand, depot_stock, made, lowest_split, highest_split, splits, has_split, least_split, greatest_split, steps}
use Rattle.problem.specs.Outcome.{Outcome, refused, refuse_if, refuse_at, first_from, first_over, ◌or_else◌, form_refusal, test1, test2, test3, test4}
use Rattle.problem.specs.Outcome.{test23, test5, test26, test6, test7, test8, test27, test9}
use Rattle.planner.specs.Judge.{free_case, case_refusal}
use Rattle.write_case.specs.Writing.{test32, test33, entries_refusal, write_refusal}
use Rattle.case_texts.specs.Texts.{costs_text, list_text, source_text, sources_text, demands_text, tariff_of, tariff_text, production_text}

-- case A
abbrev case_a : Case
case_a = free_case 3 2 (pos 2 ∷ pos 6 ∷ pos 5 ∷ pos 3 ∷ pos 1 ∷ pos 4 ∷ []) (3 ∷ 3 ∷ 1 ∷ []) (3 ∷ 2 ∷ []) (99 ∷ 20 ∷ 24 ∷ 20 ∷ []) 0 0 0

-- 2,6,3 5,3,3 1,4,1 3,2, with CR LF after each
pub tariff_a :
    tariff_text case_a ≡
    50 ∷ 44 ∷ 54 ∷ 44 ∷ 51 ∷ 13 ∷ 10 ∷ 53 ∷ 44 ∷ 51 ∷ 44 ∷ 51 ∷ 13 ∷ 10 ∷ 49 ∷ 44 ∷ 52 ∷ 44 ∷ 49 ∷ 13 ∷ 10 ∷ 51 ∷ 44 ∷ 50 ∷ 44 ∷ 13 ∷ 10 ∷ []
unfolding digits_of decimal signed_text field_text record_text each costs_text list_text source_text sources_text demands_text tariff_of
tariff_a = refl

-- 99 20 24 20 with CR LF after each
pub production_a : production_text case_a ≡ 57 ∷ 57 ∷ 13 ∷ 10 ∷ 50 ∷ 48 ∷ 13 ∷ 10 ∷ 50 ∷ 52 ∷ 13 ∷ 10 ∷ 50 ∷ 48 ∷ 13 ∷ 10 ∷ []
unfolding digits_of decimal signed_text field_text record_text each column_text
production_a = refl

-- a rebate of 10, a cost of 0, no supply at plant 2: -10,1 0,0 1, with CR LF after each
abbrev rebate : Case
rebate = free_case 2 1 (negsuc 9 ∷ pos 0 ∷ []) (1 ∷ 0 ∷ []) (1 ∷ []) (0 ∷ 7 ∷ []) 0 0 0

pub tariff_rebate : tariff_text rebate ≡ 45 ∷ 49 ∷ 48 ∷ 44 ∷ 49 ∷ 13 ∷ 10 ∷ 48 ∷ 44 ∷ 48 ∷ 13 ∷ 10 ∷ 49 ∷ 44 ∷ 13 ∷ 10 ∷ []
unfolding digits_of decimal signed_text field_text record_text each costs_text list_text source_text sources_text demands_text tariff_of
tariff_rebate = refl

-- ---- refusals 32 and 33, computed from the definitions: case A, whose splits are 1 to 3, with this table and slices of so many bytes
edge : List ℕ → ℕ → ℕ → Option Outcome
edge table t p = write_refusal (free_case 3 2 (pos 2 ∷ pos 6 ∷ pos 5 ∷ pos 3 ∷ pos 1 ∷ pos 4 ∷ []) (3 ∷ 3 ∷ 1 ∷ []) (3 ∷ 2 ∷ []) table 0 0 0) t p

pub edges : List (Option Outcome)
edges =
    edge (9999999999 ∷ 20 ∷ 24 ∷ 20 ∷ []) 27 24
    ∷ edge (10000000000 ∷ 20 ∷ 24 ∷ 20 ∷ []) 27 24
    ∷ edge (99 ∷ 20 ∷ 24 ∷ 20 ∷ []) 27 16
    ∷ edge (99 ∷ 20 ∷ 24 ∷ 20 ∷ []) 26 16
    ∷ edge (99 ∷ 20 ∷ 24 ∷ 20 ∷ []) 27 15
    ∷ edge (99 ∷ 20 ∷ 24 ∷ 20 ∷ []) 16 27
    ∷ edge (10000000000 ∷ 20 ∷ 24 ∷ 20 ∷ []) 0 0
    ∷ edge (10000000000 ∷ 20 ∷ 1000000001 ∷ 20 ∷ []) 0 0
    ∷ edge (10000000000 ∷ 20 ∷ 24 ∷ []) 0 0
    ∷ []

-- an entry of 9,999,999,999 at no split, and one more; slices as long as their texts, either one byte shorter, and the two exchanged; 32 before 33; 9
-- before 32; 6 before 32
pub edges_are :
    edges ≡ none ∷ some (refused 32 0) ∷ none ∷ some (refused 33 0) ∷ some (refused 33 0) ∷ some (refused 33 0) ∷ some (refused 32 0) ∷ some (refused 9 2) ∷ some (refused 6 0) ∷ []
unfolding edges edge write_refusal entries_refusal test32 test33 case_refusal flat_map eq_z minℤ sumℤ leastℤ freightℤ least_freightℤ least_atℤ bendsℤ is_stopℤ
    stops_ofℤ best_fromℤ outside sum row col up_from select compositions row_lists served listing every fits listing_in some' least greatest amounts_at
    has_plan splits_in all_demand depot_stock made lowest_split highest_split splits has_split least_split greatest_split steps refuse_if refuse_at first_from
    first_over ◌or_else◌ form_refusal test1 test2 test3 test4 test23 test5 test26 test6 test7 test8 test27 test9 digits_of decimal signed_text field_text
    record_text each costs_text list_text source_text sources_text demands_text tariff_of column_text
edges_are = refl
