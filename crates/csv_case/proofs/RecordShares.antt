-- The records of a tariff, shared out. Assumes nothing.
use mathlib.Core.Path.{◌≡◌, refl, ap, sym, ◌∙◌}
use mathlib.Core.List.{List, [], ◌∷◌, map}
use Prim.Native.Nat.{ℕ, suc, ◌+◌, ◌-◌, ◌*◌, ◌≤◌, ◌<◌}
use native.Mathlib.Omega.{arith}
use native.Mathlib.Nat.{zero-mul, suc-mul, mul-le-mul_right, sub-zero}
use native.Mathlib.Numerals.{add-one}
use lib.IntN.{ℤ, pos, nat_abs}
use lib.ListN.{length, get_or, take, drop, set, length-set}
use lib.Seq.{sets, length-sets, drop-drop, get_or-drop}
use Rattle.csv_case.specs.CaseFiles.{cost_rows, supply_rows}
use Rattle.csv_print.proofs.Stores.{sets_append, part_length}

-- fields that are stored as they are
pub map_same : (l : List ℤ) → map (λ (v : ℤ). v) l ≡ l
map_same [] = refl
map_same (z ∷ l) = ap (λ (r : List ℤ). z ∷ r) (map_same l)

-- the loop over the sources, after i of them
pub record Sharing (cells : List ℤ) (m n : ℕ) (costs₀ : List ℤ) (supplies₀ : List ℕ) (costs : List ℤ) (supplies : List ℕ) (start at i : ℕ) : Type 0 where
  pub upto : i ≤ m
  pub from : start ≡ i * (n + 1)
  pub behind : at ≤ start
  pub costs_rest : sets costs at (cost_rows (m - i) n (drop start cells)) ≡ sets costs₀ 0 (cost_rows m n cells)
  pub supplies_rest : sets supplies i (supply_rows (m - i) n (drop start cells)) ≡ sets supplies₀ 0 (supply_rows m n cells)
  pub costs_same : length costs ≡ length costs₀
  pub supplies_same : length supplies ≡ length supplies₀

pub sharing_start : (cells : List ℤ) (m n : ℕ) (costs : List ℤ) (supplies : List ℕ) → Sharing cells m n costs supplies costs supplies 0 0 0
sharing_start cells m n costs supplies = record {
  upto = omega arith;
  from = sym (zero-mul (n + 1));
  behind = omega arith;
  costs_rest = rw (sub-zero m) refl;
  supplies_rest = rw (sub-zero m) refl;
  costs_same = refl;
  supplies_same = refl;
}

module _ (cells : List ℤ) (m n : ℕ) (costs₀ : List ℤ) (supplies₀ : List ℕ) (costs : List ℤ) (supplies : List ℕ) (start at i : ℕ) (enough : m * (n + 1) ≤ length cells)
    (s : Sharing cells m n costs₀ supplies₀ costs supplies start at i) where
  -- this source's record lies within the cells
  pub source_within : i < m → start + (n + 1) ≤ length cells
  source_within h =
      let p : suc i * (n + 1) ≤ m * (n + 1) = mul-le-mul_right (n + 1) h in
      omega (arith, s.from, suc-mul i (n + 1), p)

  pub sharing_next :
      (costs' : List ℤ) (supplies' : List ℕ) (y : ℕ) → i < m → costs' ≡ sets costs at (take n (drop start cells)) → supplies' ≡ set supplies i y → y ≡ nat_abs (get_or cells (start + n) (pos 0)) →
      Sharing cells m n costs₀ supplies₀ costs' supplies' (start + n + 1) (at + n) (i + 1)
  unfolding cost_rows supply_rows
  sharing_next costs' supplies' y h ec es ey =
      let k : m - i ≡ suc (m - (i + 1)) = omega arith in
      let w = source_within h in
      let here : List ℤ = drop start cells in
      let d : drop (start + n + 1) cells ≡ drop (n + 1) here =
      (let e : start + n + 1 ≡ start + (n + 1) = omega arith in rw e (sym (drop-drop (n + 1) start cells))) in
      let c : length (take n here) ≡ n = part_length cells start n (omega (arith, w)) in
      let step-costs : sets costs' (at + n) (cost_rows (m - (i + 1)) n (drop (start + n + 1) cells))
      ≡ sets (sets costs at (take n here)) (at + length (take n here)) (cost_rows (m - (i + 1)) n (drop (n + 1) here))
      = rw (ec, d, c) refl in
      let step-supplies : sets supplies' (i + 1) (supply_rows (m - (i + 1)) n (drop (start + n + 1) cells))
      ≡ sets (set supplies i (nat_abs (get_or here n (pos 0)))) (suc i) (supply_rows (m - (i + 1)) n (drop (n + 1) here))
      = rw (es, ey, d, add-one i, get_or-drop start cells n (pos 0)) refl in
      record {
        upto = omega arith;
        from = omega (arith, s.from, suc-mul i (n + 1), ap (λ (x : ℕ). x * (n + 1)) (add-one i));
        behind = omega (arith, s.behind);
        costs_rest =
            step-costs ∙ sym (sets_append costs at (take n here) (cost_rows (m - (i + 1)) n (drop (n + 1) here)))
            ∙ ap (λ (x : ℕ). sets costs at (cost_rows x n here)) (sym k) ∙ s.costs_rest;
        supplies_rest = step-supplies ∙ ap (λ (x : ℕ). sets supplies i (supply_rows x n here)) (sym k) ∙ s.supplies_rest;
        costs_same = ap length ec ∙ length-sets costs at (take n (drop start cells)) ∙ s.costs_same;
        supplies_same = ap length es ∙ length-set supplies i y ∙ s.supplies_same;
      }

  pub sharing_end : m ≤ i → (costs ≡ sets costs₀ 0 (cost_rows m n cells)) × (supplies ≡ sets supplies₀ 0 (supply_rows m n cells))
  unfolding cost_rows supply_rows
  sharing_end h = let k : m - i ≡ 0 = omega arith in (rw k at s.costs_rest, rw k at s.supplies_rest)
