-- Every state can still end well, so that the byte that settles refusal 21 is the first that no file of the form could have there. Assumes nothing.
use mathlib.Core.Path.{◌≡◌, refl, ◌∙◌}
use mathlib.Core.Bool.{Bool, false}
use lib.IntN.{ℤ}
use mathlib.Core.List.{List, [], ◌∷◌, ◌++◌}
use Prim.Native.Nat.{ℕ, suc, ◌+◌, ◌*◌}
use Rattle.csv_form.specs.declared.Kind.{Kind}
use Rattle.csv_form.specs.declared.Kind.TheVariants.{Tariff, Production}
use Rattle.csv_form.specs.Form.{mark, State, field, field_or_empty, record_or_end, opened, bare, quoted, zeroBare, zeroQuoted, closed, minusBare}
use Rattle.csv_form.specs.Form.{minusQuoted, bare_cost, quoted_cost, closed_cost, line_end, last_line_end, done, step, may_end, is_production}
use Rattle.csv_form.specs.Form.{after_comma, after_line, leading}
use Rattle.csv_form.specs.Records.{Reading, reading, run, absorb, row_with, is_first, signed, whole}

-- bytes with which a file of the form goes on from here, and its records then
pub record EndsWell (kind : Kind) (at : ℕ) (r : Reading) : Type 0 where
  pub bytes : List ℕ
  pub records : List (List ℤ)
  pub ends : run kind at r bytes ≡ whole records

by_byte : {kind : Kind} {at : ℕ} {r r' : Reading} (b : ℕ) → ((l : List ℕ) → run kind at r (b ∷ l) ≡ run kind (suc at) r' l) → EndsWell kind (suc at) r' → EndsWell kind at r
by_byte b on w = record { bytes = b ∷ w.bytes; records = w.records; ends = on w.bytes ∙ w.ends }

not_first : (r : List ℤ) (rs : List (List ℤ)) → is_first (rs ++ (r ∷ [])) ≡ false
not_first r [] = refl
not_first r (x ∷ rs) = refl

module _ (kind : Kind) (at v : ℕ) (n b : Bool) (r : List ℤ) (rs : List (List ℤ)) where
  empty_ends : EndsWell kind at (reading field_or_empty v n b r rs)
  unfolding run may_end
  empty_ends = record { bytes = []; records = _; ends = refl }

  record-ends : EndsWell kind at (reading record_or_end v n b r rs)
  unfolding run may_end
  record-ends = record { bytes = []; records = _; ends = refl }

  done_ends : EndsWell kind at (reading done v n b r rs)
  unfolding run may_end
  done_ends = record { bytes = []; records = _; ends = refl }

-- the demands 1 after a source's record
demands_end : (at : ℕ) (q : List ℤ) (rs : List (List ℤ)) → EndsWell Tariff at (reading line_end 0 false false [] (rs ++ (q ∷ [])))
unfolding run step leading mark absorb after_line after_comma
demands_end at q rs =
    by_byte {r' = reading field 0 false false [] (rs ++ (q ∷ []))} 10 (λ l. refl)
    (by_byte {r' = reading (bare 9) 1 false false [] (rs ++ (q ∷ []))} 49 (λ l. refl)
    (by_byte {r' = reading field_or_empty 0 false false (signed false 1 ∷ []) (rs ++ (q ∷ []))} 44 (λ l. rw (not_first q rs) refl)
    (empty_ends Tariff (suc (suc (suc at))) 0 false false (signed false 1 ∷ []) (rs ++ (q ∷ [])))))

module _ (v : ℕ) (n b : Bool) (r : List ℤ) (rs : List (List ℤ)) where
  -- after a whole field, bare or quoted
  closed_ends : (kind : Kind) (at : ℕ) → EndsWell kind at (reading closed v n b r rs)
  unfolding run step mark absorb may_end is_production
  closed_ends Production at = record { bytes = []; records = _; ends = refl }
  closed_ends Tariff at = by_byte {r' = reading line_end 0 false false [] (rs ++ (row_with (signed n v) r ∷ []))} 13 (λ l. refl) (demands_end (suc at) _ rs)

  bare_ends : (kind : Kind) (left at : ℕ) → EndsWell kind at (reading (bare left) v n b r rs)
  unfolding run step mark absorb may_end is_production
  bare_ends Production left at = record { bytes = []; records = _; ends = refl }
  bare_ends Tariff left at = by_byte {r' = reading line_end 0 false false [] (rs ++ (row_with (signed n v) r ∷ []))} 13 (λ l. refl) (demands_end (suc at) _ rs)

  zero_ends : (kind : Kind) (at : ℕ) → EndsWell kind at (reading zeroBare v n b r rs)
  unfolding run step mark absorb may_end is_production
  zero_ends Production at = record { bytes = []; records = _; ends = refl }
  zero_ends Tariff at = by_byte {r' = reading line_end 0 false false [] (rs ++ (row_with (signed n v) r ∷ []))} 13 (λ l. refl) (demands_end (suc at) _ rs)

  zero_quoted_ends : (kind : Kind) (at : ℕ) → EndsWell kind at (reading zeroQuoted v n b r rs)
  unfolding run step mark absorb
  zero_quoted_ends kind at = by_byte {r' = reading closed v n b r rs} 34 (λ l. refl) (closed_ends kind (suc at))

  quoted_ends : (kind : Kind) (left at : ℕ) → EndsWell kind at (reading (quoted left) v n b r rs)
  unfolding run step mark absorb
  quoted_ends kind left at = by_byte {r' = reading closed v n b r rs} 34 (λ l. refl) (closed_ends kind (suc at))

field_ends : (kind : Kind) (at v : ℕ) (n b : Bool) (r : List ℤ) (rs : List (List ℤ)) → EndsWell kind at (reading field v n b r rs)
unfolding run step leading mark absorb
field_ends kind at v n b r rs = by_byte {r' = reading (bare 9) (v * 10 + 1) n b r rs} 49 (λ l. refl) (bare_ends (v * 10 + 1) n b r rs kind 9 (suc at))

-- after a cost with a minus comes a comma and a further field
module _ (kind : Kind) (v : ℕ) (n b : Bool) (r : List ℤ) (rs : List (List ℤ)) where
  cost_closed : (at : ℕ) → EndsWell kind at (reading closed_cost v n b r rs)
  unfolding run step mark absorb
  cost_closed at = by_byte {r' = reading field 0 false b (row_with (signed n v) r) rs} 44 (λ l. refl) (field_ends kind (suc at) 0 false b _ rs)

  cost_bare : (left at : ℕ) → EndsWell kind at (reading (bare_cost left) v n b r rs)
  unfolding run step mark absorb
  cost_bare left at = by_byte {r' = reading field 0 false b (row_with (signed n v) r) rs} 44 (λ l. refl) (field_ends kind (suc at) 0 false b _ rs)

  cost_quoted : (left at : ℕ) → EndsWell kind at (reading (quoted_cost left) v n b r rs)
  unfolding run step mark absorb
  cost_quoted left at = by_byte {r' = reading closed_cost v n b r rs} 34 (λ l. refl) (cost_closed (suc at))

-- from each state there is a continuation that ends well
pub viable : (kind : Kind) (at : ℕ) (s : State) (v : ℕ) (n b : Bool) (r : List ℤ) (rs : List (List ℤ)) → EndsWell kind at (reading s v n b r rs)
unfolding run step leading mark absorb after_line
viable kind at field v n b r rs = field_ends kind at v n b r rs
viable kind at field_or_empty v n b r rs = empty_ends kind at v n b r rs
viable kind at record_or_end v n b r rs = record-ends kind at v n b r rs
viable kind at opened v n b r rs = by_byte {r' = reading (quoted 9) (v * 10 + 1) n b r rs} 49 (λ l. refl) (quoted_ends (v * 10 + 1) n b r rs kind 9 (suc at))
viable kind at (bare left) v n b r rs = bare_ends v n b r rs kind left at
viable kind at (quoted left) v n b r rs = quoted_ends v n b r rs kind left at
viable kind at zeroBare v n b r rs = zero_ends v n b r rs kind at
viable kind at zeroQuoted v n b r rs = zero_quoted_ends v n b r rs kind at
viable kind at closed v n b r rs = closed_ends v n b r rs kind at
viable kind at minusBare v n b r rs = by_byte {r' = reading (bare_cost 9) (v * 10 + 1) n b r rs} 49 (λ l. refl) (cost_bare kind (v * 10 + 1) n b r rs 9 (suc at))
viable kind at minusQuoted v n b r rs = by_byte {r' = reading (quoted_cost 9) (v * 10 + 1) n b r rs} 49 (λ l. refl) (cost_quoted kind (v * 10 + 1) n b r rs 9 (suc at))
viable kind at (bare_cost left) v n b r rs = cost_bare kind v n b r rs left at
viable kind at (quoted_cost left) v n b r rs = cost_quoted kind v n b r rs left at
viable kind at closed_cost v n b r rs = cost_closed kind v n b r rs at
viable Production at line_end v n b r rs = by_byte {r' = reading record_or_end v n b r rs} 10 (λ l. refl) (record-ends Production (suc at) v n b r rs)
viable Tariff at line_end v n b r rs = by_byte {r' = reading field v n b r rs} 10 (λ l. refl) (field_ends Tariff (suc at) v n b r rs)
viable kind at last_line_end v n b r rs = by_byte {r' = reading done v n b r rs} 10 (λ l. refl) (done_ends kind (suc at) v n b r rs)
viable kind at done v n b r rs = done_ends kind at v n b r rs
