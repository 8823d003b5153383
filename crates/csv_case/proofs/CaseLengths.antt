-- How long the lists of a case are that two accepted files make. Assumes nothing.
use mathlib.Core.Path.{◌≡◌, refl, ap, ap₂, sym, ◌∙◌}
use mathlib.Core.List.{List, [], ◌∷◌, map}
use Prim.Native.Nat.{ℕ, zero, suc, ◌-◌, ◌*◌, ◌≤◌, ◌<◌}
use native.Mathlib.Omega.{arith}
use lib.IntN.{ℤ, pos, nat_abs}
use lib.ListN.{length, get_or, take, length-map}
use lib.Seq.{length-take-le}
use Rattle.csv_form.specs.declared.Kind.TheVariants.{Tariff, Production}
use Rattle.std.proofs.Common.{Ok, Err}
use Rattle.csv_form.specs.Records.{whole, form_of}
use Rattle.csv_table.specs.Files.{Table, shaped, wanted, table_of, in_order}
use Rattle.csv_case.specs.CaseFiles.{counts, sources_in, terminals_in, source_records, costs_in, supplies_in, demands_in, entries_in, answer_of, case_answer}
use Rattle.csv_case.proofs.TariffCase.{same_counts, Even, accepted, even_length}

-- the first k fields of each of the first m records
even_take : (w k m : ℕ) (rs : List (List ℤ)) → k ≤ w → Even w rs → Even k (map (λ (r : List ℤ). take k r) (take m rs))
even_take w k zero rs h e = tt
even_take w k (suc m) [] h e = tt
even_take w k (suc m) (r ∷ rs) h e = (length-take-le k r (omega (arith, e.0)), even_take w k m rs h e.1)

even_at : (w m : ℕ) (rs : List (List ℤ)) → Even w rs → m < length rs → length (get_or rs m []) ≡ w
even_at w m [] e h = absurd (omega arith)
even_at w zero (r ∷ rs) e h = e.0
even_at w (suc m) (r ∷ rs) e h = even_at w m rs e.1 (omega arith)

module _ (w : ℕ) (rs : List (List ℤ)) (e : Even w rs) (width : wanted Tariff rs ≡ w) where
  sources_long : length (source_records rs) ≡ sources_in rs
  unfolding source_records sources_in
  sources_long = length-take-le (length rs - 1) rs (omega arith)

  costs_length : length (costs_in rs) ≡ sources_in rs * terminals_in rs
  unfolding costs_in source_records terminals_in
  costs_length =
      let n = wanted Tariff rs - 1 in
      even_length n (map (λ (r : List ℤ). take n r) (take (sources_in rs) rs)) (even_take w n (sources_in rs) rs (omega (arith, width)) e)
      ∙ ap (λ (k : ℕ). k * n) (length-map (take (sources_in rs) rs) (λ (r : List ℤ). take n r) ∙ sources_long)

  supplies_length : length (supplies_in rs) ≡ sources_in rs
  unfolding supplies_in
  supplies_length = length-map (source_records rs) (λ (r : List ℤ). nat_abs (get_or r (terminals_in rs) (pos 0))) ∙ sources_long

demands_length : (w : ℕ) (rs : List (List ℤ)) → Even w rs → wanted Tariff rs ≡ w → length (demands_in rs) ≡ terminals_in rs
unfolding demands_in terminals_in sources_in wanted
demands_length w [] e width = refl
demands_length w (r ∷ rs) e width =
    let last = length (r ∷ rs) - 1 in
    length-map (take (length r - 1) (get_or (r ∷ rs) last [])) nat_abs
    ∙ length-take-le (length r - 1) (get_or (r ∷ rs) last []) (omega (arith, even_at w last (r ∷ rs) e (omega arith), width))

-- two accepted files: their records, and how long the lists of the case are
pub record BothStand (t p : List ℕ) (m n entries : ℕ) : Type 0 where
  pub rs : List (List ℤ)
  pub qs : List (List ℤ)
  pub tariff : form_of Tariff t ≡ whole rs
  pub production : form_of Production p ≡ whole qs
  pub sources : sources_in rs ≡ m
  pub terminals : terminals_in rs ≡ n
  pub costs_long : length (costs_in rs) ≡ m * n
  pub supplies_long : length (supplies_in rs) ≡ m
  pub demands_long : length (demands_in rs) ≡ n
  pub table_long : length (entries_in qs) ≡ entries

module _ (t p : List ℕ) (m n entries : ℕ) where
  standing :
      (records fields one : ℕ) → table_of Tariff t ≡ shaped records fields → table_of Production p ≡ shaped entries one → records - 1 ≡ m → fields - 1 ≡ n →
      BothStand t p m n entries
  unfolding sources_in terminals_in wanted entries_in
  standing records fields one ea eb em en =
      let a = accepted Tariff t records fields ea in
      let b = accepted Production p entries one eb in
      let sources : sources_in a.rows ≡ m = omega (arith, a.counted) in
      let terminals : terminals_in a.rows ≡ n = omega (arith, a.width) in
      let width : wanted Tariff a.rows ≡ fields = sym a.width in
      record {
        rs = a.rows;
        qs = b.rows;
        tariff = a.form;
        production = b.form;
        sources = sources;
        terminals = terminals;
        costs_long = costs_length fields a.rows a.all width ∙ ap₂ (λ (x y : ℕ). x * y) sources terminals;
        supplies_long = supplies_length fields a.rows a.all width ∙ sources;
        demands_long = demands_length fields a.rows a.all width ∙ terminals;
        table_long = length-map (in_order b.rows) nat_abs ∙ even_length one b.rows b.all ∙ omega (arith, ap (λ (x : ℕ). length b.rows * x) b.width, b.counted);
      }

  pub both_stand : case_answer t p ≡ counts m n entries → BothStand t p m n entries
  unfolding case_answer
  both_stand e = go (table_of Tariff t) refl (table_of Production p) refl e
    where
      go : (a : Table) → table_of Tariff t ≡ a → (b : Table) → table_of Production p ≡ b → answer_of a b ≡ counts m n entries → BothStand t p m n entries
      go (Err r) ea b eb e = absurd (let z : ◌≡◌ {A = ℕ} 0 1 = cc in omega arith)
      go (Ok k) ea (Err r) eb e = absurd (let z : ◌≡◌ {A = ℕ} 0 1 = cc in omega arith)
      go (Ok k) ea (Ok q) eb e =
          let p = same_counts e in
          standing k.records k.fields q.fields ea (eb ∙ ap (λ (x : ℕ). shaped x q.fields) p.2) p.0 p.1
