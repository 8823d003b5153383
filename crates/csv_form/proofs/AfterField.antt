-- The answers after a field. Assumes nothing.
use mathlib.Core.Path.{◌≡◌, refl, sym, ◌∙◌}
use mathlib.Core.Bool.{Bool, true, false, ◌||◌, true≢false, false≢true}
use mathlib.Core.Option.{none}
use mathlib.Core.List.{List, []}
use Prim.Native.Nat.{ℕ, ◌+◌, ◌≤◌, ◌<◌}
use native.Mathlib.Omega.{arith}
use lib.IntN.{ℤ, pos}
use lib.ListN.{length, get_or, drop}
use Rattle.csv_form.specs.declared.Kind.{Kind}
use Rattle.csv_form.specs.declared.Kind.TheVariants.{Tariff, Production}
use Rattle.csv_form.specs.declared.after.After.TheVariants.{Field, Record, End, Empty}
use Rattle.std.proofs.Common.{Ok, Err}
use Rattle.csv_form.specs.Form.{Mark, digit, minus, quote, comma, cr, lf, other, mark, field, field_or_empty, record_or_end, closed, done, step}
use Rattle.csv_form.specs.Form.{may_end, is_production, after_comma, after_line, in_tariff}
use Rattle.csv_form.specs.Records.{reading, run, signed, is_first, absorb, records_at_end, row_with, rows_with}
use Rattle.csv_form.specs.inner.Reader.{AfterAnswer, misfit, AfterRead, after_ends, on_after, at_field, at_cost, at_comma, at_demand, at_cr, at_last_cr, at_last, Any, Source, Known}
use Rattle.csv_form.proofs.ByteMarks.{Seen, seen, known}
use Rattle.csv_form.proofs.FormRuns.{onward, here, at_end, refused, no_mark, no_comma, no_feed}

no_done : (kind : Kind) (source : Bool) (m : Mark) → step kind source done m ≡ none
unfolding step
no_done kind source (digit d) = refl
no_done kind source minus = refl
no_done kind source quote = refl
no_done kind source comma = refl
no_done kind source cr = refl
no_done kind source lf = refl
no_done kind source other = refl

module _ (s : List ℕ) (at : ℕ) where
  later : (a : AfterAnswer) → after_ends s (at + 1) a → after_ends s at a
  later (Ok (Field next)) k = (omega (arith, k.0), k.1)
  later (Ok (Record next)) k = (omega (arith, k.0), k.1)
  later (Ok End) k = tt
  later (Ok Empty) k = tt
  later (Err e) k = tt

  pub demands_none : (get_or s at 0 ≡ 10 → ⊥) → AfterRead at_last_cr Any Tariff s at (misfit at)
  unfolding may_end
  demands_none h = record {
    ends = tt;
    meaning = λ m v b r rs _. refused Tariff (at_last_cr Tariff m v b r rs) s at (no_feed Tariff _ _ _ (seen _) h).1 refl refl;
  }

  pub demands_more : at + 1 < length s → get_or s at 0 ≡ 10 → AfterRead at_last_cr Any Tariff s at (misfit (at + 1))
  unfolding step mark absorb
  demands_more h e = record {
    ends = tt;
    meaning = λ m v b r rs _.
        let all = rows_with (pos 0) (row_with (signed m v) r) rs in
        here Tariff (at_last_cr Tariff m v b r rs) s at lf (omega arith) (known _ 10 e)
        ∙ here Tariff (reading done 0 false false [] all) s (at + 1) (mark (get_or s (at + 1) 0)) h refl
        ∙ rw (no_done Tariff (false || is_first all) (mark (get_or s (at + 1) 0)), onward);
  }

  pub demands_end : at < length s → get_or s at 0 ≡ 10 → length s ≤ at + 1 → AfterRead at_last_cr Any Tariff s at (Ok Empty)
  unfolding step mark absorb may_end records_at_end
  demands_end h e k = record {
    ends = tt;
    meaning = λ m v b r rs _.
        here Tariff (at_last_cr Tariff m v b r rs) s at lf h (known _ 10 e)
        ∙ at_end Tariff (reading done 0 false false [] (rows_with (pos 0) (row_with (signed m v) r) rs)) s (at + 1) k;
  }

  pub demand_end : length s ≤ at → AfterRead at_demand Any Tariff s at (Ok Empty)
  unfolding may_end records_at_end
  demand_end h = record { ends = tt; meaning = λ m v b r rs _. at_end Tariff (at_demand Tariff m v b r rs) s at h }

  pub demand_cr : (a : AfterAnswer) → at < length s → get_or s at 0 ≡ 13 → AfterRead at_last_cr Any Tariff s (at + 1) a → AfterRead at_demand Any Tariff s at a
  unfolding step mark absorb
  demand_cr a h e read = record {
    ends = later a read.ends;
    meaning = λ m v b r rs _. here Tariff (at_demand Tariff m v b r rs) s at cr h (known _ 13 e) ∙ read.meaning m v b r rs tt;
  }

  pub demand_field : at < length s → (get_or s at 0 ≡ 13 → ⊥) → AfterRead at_demand Any Tariff s at (Ok (Field at))
  unfolding step absorb
  demand_field h e = record {
    ends = (omega arith, omega arith);
    meaning = λ m v b r rs _.
        here Tariff (at_demand Tariff m v b r rs) s at (mark (get_or s at 0)) h refl
        ∙ on b (row_with (signed m v) r) rs (mark (get_or s at 0)) (seen _)
        ∙ sym (here Tariff (reading field 0 false b (row_with (signed m v) r) rs) s at (mark (get_or s at 0)) h refl);
  }
    where
      on : (b : Bool) (r : List ℤ) (rs : List (List ℤ)) (m : Mark) → Seen (get_or s at 0) m →
          onward Tariff (reading field_or_empty 0 false b r rs) m s at (at + 1) ≡ onward Tariff (reading field 0 false b r rs) m s at (at + 1)
      on b r rs (digit d) k = refl
      on b r rs minus k = refl
      on b r rs quote k = refl
      on b r rs comma k = refl
      on b r rs cr k = absurd (e k)
      on b r rs lf k = refl
      on b r rs other k = refl

  pub comma_production : (source : Bool) → at ≤ length s → AfterRead at_comma (Source source) Production s at (Ok (Field at))
  unfolding after_comma
  comma_production source h = record { ends = (omega arith, h); meaning = λ m v b r rs _. refl }

  pub comma_source : (source : Bool) → at ≤ length s → source ≡ true → AfterRead at_comma (Source source) Tariff s at (Ok (Field at))
  unfolding after_comma
  comma_source source h z = record {
    ends = (omega arith, h);
    meaning = λ m v b r rs e. let k : (b || is_first rs) ≡ true = e ∙ z in rw k refl;
  }

  pub comma_later : (source : Bool) (a : AfterAnswer) → source ≡ false → AfterRead at_demand Any Tariff s at a → AfterRead at_comma (Source source) Tariff s at a
  unfolding after_comma
  comma_later source a z read = record {
    ends = read.ends;
    meaning = λ m v b r rs e. let k : (b || is_first rs) ≡ false = e ∙ z in rw k (read.meaning m v b r rs tt);
  }

  pub record-none : (kind : Kind) → (get_or s at 0 ≡ 10 → ⊥) → AfterRead at_cr Any kind s at (misfit at)
  unfolding may_end
  record-none kind h = record {
    ends = tt;
    meaning = λ m v b r rs _. refused kind (at_cr kind m v b r rs) s at (no_feed kind _ _ _ (seen _) h).0 refl refl;
  }

  pub record-tariff : at < length s → get_or s at 0 ≡ 10 → AfterRead at_cr Any Tariff s at (Ok (Record (at + 1)))
  unfolding step mark absorb after_line
  record-tariff h e = record {
    ends = (omega arith, omega arith);
    meaning = λ m v b r rs _. here Tariff (at_cr Tariff m v b r rs) s at lf h (known _ 10 e);
  }

  pub record-end : at < length s → get_or s at 0 ≡ 10 → length s ≤ at + 1 → AfterRead at_cr Any Production s at (Ok End)
  unfolding step mark absorb after_line may_end records_at_end
  record-end h e k = record {
    ends = tt;
    meaning = λ m v b r rs _.
        here Production (at_cr Production m v b r rs) s at lf h (known _ 10 e)
        ∙ at_end Production (reading record_or_end 0 false false [] (rows_with (signed m v) r rs)) s (at + 1) k;
  }

  pub record-more : at + 1 < length s → get_or s at 0 ≡ 10 → AfterRead at_cr Any Production s at (Ok (Record (at + 1)))
  unfolding step mark absorb after_line in_tariff
  record-more h e = record {
    ends = (omega arith, omega arith);
    meaning = λ m v b r rs _.
        let all = rows_with (signed m v) r rs in
        here Production (at_cr Production m v b r rs) s at lf (omega arith) (known _ 10 e)
        ∙ here Production (reading record_or_end 0 false false [] all) s (at + 1) (mark (get_or s (at + 1) 0)) h refl
        ∙ on all (mark (get_or s (at + 1) 0))
        ∙ sym (here Production (reading field 0 false false [] all) s (at + 1) (mark (get_or s (at + 1) 0)) h refl);
  }
    where
      on : (rs : List (List ℤ)) (m : Mark) →
          onward Production (reading record_or_end 0 false false [] rs) m s (at + 1) (at + 1 + 1)
          ≡ onward Production (reading field 0 false false [] rs) m s (at + 1) (at + 1 + 1)
      on rs (digit d) = refl
      on rs minus = refl
      on rs quote = refl
      on rs comma = refl
      on rs cr = refl
      on rs lf = refl
      on rs other = refl

  -- after a cost with a minus
  pub cost_none : (kind : Kind) → (get_or s at 0 ≡ 44 → ⊥) → AfterRead at_cost Any kind s at (misfit at)
  unfolding may_end
  cost_none kind h = record {
    ends = tt;
    meaning = λ m v b r rs _. refused kind (at_cost kind m v b r rs) s at (no_comma kind _ _ _ (seen _) h) refl refl;
  }

  pub cost_comma : (kind : Kind) → at < length s → get_or s at 0 ≡ 44 → AfterRead at_cost Any kind s at (Ok (Field (at + 1)))
  unfolding step mark absorb
  cost_comma kind h e = record {
    ends = (omega arith, omega arith);
    meaning = λ m v b r rs _. here kind (at_cost kind m v b r rs) s at comma h (known _ 44 e);
  }

  module _ (minus' source : Bool) where
    pub after_minus : (kind : Kind) (a : AfterAnswer) → minus' ≡ true → AfterRead at_cost Any kind s at a → AfterRead at_field (Known minus' source) kind s at a
    after_minus kind a z read = record { ends = read.ends; meaning = λ m v b r rs e. on m v b r rs (e.0 ∙ z) }
      where
        on : (m : Bool) (v : ℕ) (b : Bool) (r : List ℤ) (rs : List (List ℤ)) → m ≡ true →
            run kind at (at_field kind m v b r rs) (drop at s) ≡ on_after kind (signed m v) b r rs s a
        on true v b r rs k = read.meaning true v b r rs tt
        on false v b r rs k = absurd (false≢true k)

    module _ (z : minus' ≡ false) where
      -- a field without a minus
      plain : (kind : Kind) (a : AfterAnswer) → after_ends s at a →
          ((v : ℕ) (b : Bool) (r : List ℤ) (rs : List (List ℤ)) → (b || is_first rs) ≡ source →
          run kind at (reading closed v false b r rs) (drop at s) ≡ on_after kind (pos v) b r rs s a) →
          AfterRead at_field (Known minus' source) kind s at a
      plain kind a ends say = record { ends = ends; meaning = λ m v b r rs e. on m v b r rs (e.0 ∙ z) e.1 }
        where
          on : (m : Bool) (v : ℕ) (b : Bool) (r : List ℤ) (rs : List (List ℤ)) → m ≡ false → (b || is_first rs) ≡ source →
              run kind at (at_field kind m v b r rs) (drop at s) ≡ on_after kind (signed m v) b r rs s a
          on true v b r rs k e = absurd (true≢false k)
          on false v b r rs k e = say v b r rs e

      pub after_end : (kind : Kind) → length s ≤ at → AfterRead at_field (Known minus' source) kind s at (at_last kind at)
      unfolding may_end records_at_end is_production
      after_end Tariff h = plain Tariff (misfit at) tt (λ v b r rs _. at_end Tariff (reading closed v false b r rs) s at h)
      after_end Production h = plain Production (Ok End) tt (λ v b r rs _. at_end Production (reading closed v false b r rs) s at h)

      pub after_comma_lem : (kind : Kind) (a : AfterAnswer) → at < length s → get_or s at 0 ≡ 44 → AfterRead at_comma (Source source) kind s (at + 1) a →
          AfterRead at_field (Known minus' source) kind s at a
      unfolding step mark absorb
      after_comma_lem kind a h e read =
          plain kind a (later a read.ends) (λ v b r rs k. here kind (reading closed v false b r rs) s at comma h (known _ 44 e) ∙ read.meaning false v b r rs k)

      pub after_cr : (kind : Kind) (a : AfterAnswer) → at < length s → get_or s at 0 ≡ 13 → AfterRead at_cr Any kind s (at + 1) a →
          AfterRead at_field (Known minus' source) kind s at a
      unfolding step mark absorb
      after_cr kind a h e read =
          plain kind a (later a read.ends) (λ v b r rs k. here kind (reading closed v false b r rs) s at cr h (known _ 13 e) ∙ read.meaning false v b r rs tt)

      pub after_none : (kind : Kind) → at < length s → (get_or s at 0 ≡ 44 → ⊥) → (get_or s at 0 ≡ 13 → ⊥) →
          AfterRead at_field (Known minus' source) kind s at (misfit at)
      after_none kind h c r =
          plain kind (misfit at) tt (λ v b r' rs k.
          here kind (reading closed v false b r' rs) s at (mark (get_or s at 0)) h refl
          ∙ rw (no_mark kind (b || is_first rs) _ _ (seen (get_or s at 0)) c r, onward))
