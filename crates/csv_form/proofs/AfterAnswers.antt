-- The answer after a field by the tests that are made, and what it means for the run. Assumes nothing.
use mathlib.Core.Path.{◌≡◌, refl, subst}
use mathlib.Core.Bool.{Bool, true, false}
use mathlib.Core.List.{List}
use Prim.Native.Nat.{ℕ, suc, ◌+◌, ◌≤◌, ◌<◌}
use native.Mathlib.Omega.{arith}
use native.Mathlib.Decide.{ℕ_discrete, dec_lt}
use borrow.Author.Tests.{eq-eqb, ne_eqb, lt-ltb, le-ltb}
use lib.ListN.{length, get_or}
use Rattle.csv_form.specs.declared.Kind.{Kind}
use Rattle.csv_form.specs.declared.Kind.TheVariants.{Tariff, Production}
use Rattle.csv_form.specs.declared.after.After.TheVariants.{Field, Record, End, Empty}
use Rattle.std.proofs.Common.{Ok}
use Rattle.csv_form.specs.inner.Reader.{AfterAnswer, misfit, AfterRead, at_field, at_cost, at_comma, at_demand, at_cr, at_last_cr, at_last, Any, Source, Known, cost_at}
use Rattle.csv_form.specs.inner.Reader.{last_at, demand_at, comma_at, line_at, record_at, plain_at, after_at}
use Rattle.csv_form.proofs.AfterField.{demands_none, demands_more, demands_end, demand_end, demand_cr, demand_field, comma_production}
use Rattle.csv_form.proofs.AfterField.{comma_source, comma_later, record-none, record-tariff, record-end, record-more, cost_none, cost_comma}
use Rattle.csv_form.proofs.AfterField.{after_minus, after_end, after_comma_lem, after_cr, after_none}
use Rattle.csv_form.proofs.ByteMarks.{past}

-- a byte that is not 0 stands in the file
pub present : (s : List ℕ) (at k : ℕ) → get_or s at 0 ≡ suc k → at < length s
present s at k e = elim (dec_lt at (length s)) [ yes h ↦ h | no h ↦ absurd (past s at k (omega arith) e) ]

module _ (s : List ℕ) (at : ℕ) where
  -- ---- the answers
  pub cost_yes : get_or s at 0 ≡ 44 → Ok (Field (at + 1)) ≡ cost_at s at
  unfolding cost_at
  cost_yes e = rw (eq-eqb (get_or s at 0) 44 e) refl

  pub cost_no : (get_or s at 0 ≡ 44 → ⊥) → misfit at ≡ cost_at s at
  unfolding cost_at
  cost_no e = rw (ne_eqb (get_or s at 0) 44 e) refl

  pub last_no : (get_or s at 0 ≡ 10 → ⊥) → misfit at ≡ last_at s at
  unfolding last_at
  last_no e = rw (ne_eqb (get_or s at 0) 10 e) refl

  pub last_more : get_or s at 0 ≡ 10 → at + 1 < length s → misfit (at + 1) ≡ last_at s at
  unfolding last_at
  last_more e h = rw (eq-eqb (get_or s at 0) 10 e) (rw (lt-ltb (at + 1) (length s) h) refl)

  pub last_end : get_or s at 0 ≡ 10 → length s ≤ at + 1 → Ok Empty ≡ last_at s at
  unfolding last_at
  last_end e h = rw (eq-eqb (get_or s at 0) 10 e) (rw (le-ltb (at + 1) (length s) h) refl)

  pub demand_past : length s ≤ at → Ok Empty ≡ demand_at s at
  unfolding demand_at
  demand_past h = rw (le-ltb at (length s) h) refl

  pub demand_return : at < length s → get_or s at 0 ≡ 13 → last_at s (at + 1) ≡ demand_at s at
  unfolding demand_at
  demand_return h e = rw (lt-ltb at (length s) h) (rw (eq-eqb (get_or s at 0) 13 e) refl)

  pub demand_other : at < length s → (get_or s at 0 ≡ 13 → ⊥) → Ok (Field at) ≡ demand_at s at
  unfolding demand_at
  demand_other h e = rw (lt-ltb at (length s) h) (rw (ne_eqb (get_or s at 0) 13 e) refl)

  pub comma_any : (source : Bool) → Ok (Field at) ≡ comma_at Production source s at
  unfolding comma_at
  comma_any source = refl

  pub comma_of_source : (source : Bool) → source ≡ true → Ok (Field at) ≡ comma_at Tariff source s at
  unfolding comma_at
  comma_of_source source e = rw e refl

  pub comma_of_demands : (source : Bool) → source ≡ false → demand_at s at ≡ comma_at Tariff source s at
  unfolding comma_at
  comma_of_demands source e = rw e refl

  pub line_tariff : Ok (Record at) ≡ line_at Tariff s at
  unfolding line_at
  line_tariff = refl

  pub line_more : at < length s → Ok (Record at) ≡ line_at Production s at
  unfolding line_at
  line_more h = rw (lt-ltb at (length s) h) refl

  pub line_end_lem : length s ≤ at → Ok End ≡ line_at Production s at
  unfolding line_at
  line_end_lem h = rw (le-ltb at (length s) h) refl

  pub record-no : (kind : Kind) → (get_or s at 0 ≡ 10 → ⊥) → misfit at ≡ record_at kind s at
  unfolding record_at
  record-no kind e = rw (ne_eqb (get_or s at 0) 10 e) refl

  pub record-yes : (kind : Kind) → get_or s at 0 ≡ 10 → line_at kind s (at + 1) ≡ record_at kind s at
  unfolding record_at
  record-yes kind e = rw (eq-eqb (get_or s at 0) 10 e) refl

  module _ (kind : Kind) (source : Bool) where
    pub plain_past : length s ≤ at → at_last kind at ≡ plain_at kind source s at
    unfolding plain_at
    plain_past h = rw (le-ltb at (length s) h) refl

    pub plain_comma : at < length s → get_or s at 0 ≡ 44 → comma_at kind source s (at + 1) ≡ plain_at kind source s at
    unfolding plain_at
    plain_comma h e = rw (lt-ltb at (length s) h) (rw (eq-eqb (get_or s at 0) 44 e) refl)

    pub plain_return : at < length s → (get_or s at 0 ≡ 44 → ⊥) → get_or s at 0 ≡ 13 → record_at kind s (at + 1) ≡ plain_at kind source s at
    unfolding plain_at
    plain_return h c e = rw (lt-ltb at (length s) h) (rw (ne_eqb (get_or s at 0) 44 c) (rw (eq-eqb (get_or s at 0) 13 e) refl))

    pub plain_none : at < length s → (get_or s at 0 ≡ 44 → ⊥) → (get_or s at 0 ≡ 13 → ⊥) → misfit at ≡ plain_at kind source s at
    unfolding plain_at
    plain_none h c e = rw (lt-ltb at (length s) h) (rw (ne_eqb (get_or s at 0) 44 c) (rw (ne_eqb (get_or s at 0) 13 e) refl))

    pub after_of_cost : (m : Bool) → m ≡ true → cost_at s at ≡ after_at kind m source s at
    unfolding after_at
    after_of_cost m e = rw e refl

    pub after_of_plain : (m : Bool) → m ≡ false → plain_at kind source s at ≡ after_at kind m source s at
    unfolding after_at
    after_of_plain m e = rw e refl

-- ---- what they mean
module _ (s : List ℕ) where
  means_cost : (kind : Kind) (at : ℕ) → AfterRead at_cost Any kind s at (cost_at s at)
  means_cost kind at = elim (ℕ_discrete (get_or s at 0) 44) [
    | yes e ↦ subst (λ (a : AfterAnswer). AfterRead at_cost Any kind s at a) (cost_yes s at e) (cost_comma s at kind (present s at 43 e) e)
    | no e ↦ subst (λ (a : AfterAnswer). AfterRead at_cost Any kind s at a) (cost_no s at e) (cost_none s at kind e)
  ]

  means_last : (at : ℕ) → AfterRead at_last_cr Any Tariff s at (last_at s at)
  means_last at = elim (ℕ_discrete (get_or s at 0) 10) [
    | yes e ↦ elim (dec_lt (at + 1) (length s)) [
      | yes h ↦ subst (λ (a : AfterAnswer). AfterRead at_last_cr Any Tariff s at a) (last_more s at e h) (demands_more s at h e)
      | no h ↦ subst (λ (a : AfterAnswer). AfterRead at_last_cr Any Tariff s at a) (last_end s at e (omega arith)) (demands_end s at (present s at 9 e) e (omega arith))
    ]
    | no e ↦ subst (λ (a : AfterAnswer). AfterRead at_last_cr Any Tariff s at a) (last_no s at e) (demands_none s at e)
  ]

  means_demand : (at : ℕ) → AfterRead at_demand Any Tariff s at (demand_at s at)
  means_demand at = elim (dec_lt at (length s)) [
    | yes h ↦ elim (ℕ_discrete (get_or s at 0) 13) [
      | yes e ↦ subst (λ (a : AfterAnswer). AfterRead at_demand Any Tariff s at a) (demand_return s at h e) (demand_cr s at (last_at s (at + 1)) h e (means_last (at + 1)))
      | no e ↦ subst (λ (a : AfterAnswer). AfterRead at_demand Any Tariff s at a) (demand_other s at h e) (demand_field s at h e)
    ]
    | no h ↦ subst (λ (a : AfterAnswer). AfterRead at_demand Any Tariff s at a) (demand_past s at (omega arith)) (demand_end s at (omega arith))
  ]

  means_comma : (kind : Kind) (source : Bool) (at : ℕ) → at ≤ length s → AfterRead at_comma (Source source) kind s at (comma_at kind source s at)
  unfolding comma_at
  means_comma Production source at h = comma_production s at source h
  means_comma Tariff true at h = comma_source s at true h refl
  means_comma Tariff false at h = comma_later s at false (demand_at s at) refl (means_demand at)

  means_record : (kind : Kind) (at : ℕ) → AfterRead at_cr Any kind s at (record_at kind s at)
  means_record kind at = elim (ℕ_discrete (get_or s at 0) 10) [
    | yes e ↦ subst (λ (a : AfterAnswer). AfterRead at_cr Any kind s at a) (record-yes s at kind e) (on kind e)
    | no e ↦ subst (λ (a : AfterAnswer). AfterRead at_cr Any kind s at a) (record-no s at kind e) (record-none s at kind e)
  ]
    where
      on : (kind : Kind) → get_or s at 0 ≡ 10 → AfterRead at_cr Any kind s at (line_at kind s (at + 1))
      on Tariff e = subst (λ (a : AfterAnswer). AfterRead at_cr Any Tariff s at a) (line_tariff s (at + 1)) (record-tariff s at (present s at 9 e) e)
      on Production e = elim (dec_lt (at + 1) (length s)) [
        | yes h ↦ subst (λ (a : AfterAnswer). AfterRead at_cr Any Production s at a) (line_more s (at + 1) h) (record-more s at h e)
        | no h ↦ subst (λ (a : AfterAnswer). AfterRead at_cr Any Production s at a) (line_end_lem s (at + 1) (omega arith)) (record-end s at (present s at 9 e) e (omega arith))
      ]

  pub means_after : (kind : Kind) (m source : Bool) (at : ℕ) → AfterRead at_field (Known m source) kind s at (after_at kind m source s at)
  unfolding after_at
  means_after kind true source at = after_minus s at true source kind (cost_at s at) refl (means_cost kind at)
  means_after kind false source at = elim (dec_lt at (length s)) [
    | yes h ↦ elim (ℕ_discrete (get_or s at 0) 44) [
      | yes e ↦
          subst (λ (a : AfterAnswer). AfterRead at_field (Known false source) kind s at a) (plain_comma s at kind source h e)
          (after_comma_lem s at false source refl kind (comma_at kind source s (at + 1)) h e (means_comma kind source (at + 1) (omega arith)))
      | no c ↦ elim (ℕ_discrete (get_or s at 0) 13) [
        | yes e ↦
            subst (λ (a : AfterAnswer). AfterRead at_field (Known false source) kind s at a) (plain_return s at kind source h c e)
            (after_cr s at false source refl kind (record_at kind s (at + 1)) h e (means_record kind (at + 1)))
        | no e ↦ subst (λ (a : AfterAnswer). AfterRead at_field (Known false source) kind s at a) (plain_none s at kind source h c e) (after_none s at false source refl kind h c e)
      ]
    ]
    | no h ↦ subst (λ (a : AfterAnswer). AfterRead at_field (Known false source) kind s at a) (plain_past s at kind source (omega arith)) (after_end s at false source refl kind (omega arith))
  ]
