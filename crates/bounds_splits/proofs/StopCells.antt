-- What the planner left in the cells: the stops and their freights. Assumes nothing.
use mathlib.Core.Path.{◌≡◌, refl, sym, ap, ◌∙◌}
use mathlib.Core.List.{List, [], ◌∷◌, map}
use Prim.Native.Nat.{ℕ, zero, suc, ◌<◌}
use native.Mathlib.Omega.{arith}
use lib.IntN.{ℤ, pos}
use lib.ListN.{length, get_or, drop, length-map, length-append, get_or-append}
use Rattle.problem.specs.Case.{Case}
use Rattle.problem.specs.Plans.{least_freight_at, stops, stop_freights}
use Rattle.problem.specs.Outcome as planner
use Rattle.planner.specs.Answer.{Slices}
use Rattle.planner.specs.Answer as promise
use Rattle.bounds_problem.specs.inner.Settled.{Listed}
use Rattle.bounds_problem.proofs.PlannedCase.{count_is}

pub listed : {c : Case} {r : planner.Outcome} {before cells : Slices} → promise.Answered c r before cells → (y : ℕ) (t v : ℤ) (k : ℕ) → r ≡ planner.planned y t v k
    → Listed c cells.splits cells.freights k
unfolding stop_freights
listed {c} {r} {before} {cells} a y t v k e =
    let q : planner.outcome_of c ≡ planner.planned y t v k = sym a.answer ∙ e in
    let w = a.written y t v k e in
    let n : k ≡ length (stops c) = count_is c y t v k q in
    record {
      given = (y, t, v, q);
      all = n;
      in_splits = omega (arith, ap length w.splits ∙ length-append (stops c) (drop (length (stops c)) before.splits));
      in_freights =
          omega (
            arith,
            ap length w.freights ∙ length-append (map (least_freight_at c) (stops c)) (drop (length (map (least_freight_at c) (stops c))) before.freights),
            length-map (stops c) (least_freight_at c),
          );
      splits = λ j h. ap (λ (s : List ℕ). get_or s j 0) w.splits ∙ get_or-append (stops c) _ 0 j (omega arith);
      freights = λ j h.
          ap (λ (s : List ℤ). get_or s j (pos 0)) w.freights
          ∙ get_or-append (map (least_freight_at c) (stops c)) _ (pos 0) j (omega (arith, length-map (stops c) (least_freight_at c)))
          ∙ map_place (least_freight_at c) (stops c) j (omega arith);
    }
  where
    map_place : (f : ℕ → ℤ) (l : List ℕ) (j : ℕ) → j < length l → get_or (map f l) j (pos 0) ≡ f (get_or l j 0)
    map_place f [] j h = absurd (omega arith)
    map_place f (a ∷ l) zero h = refl
    map_place f (a ∷ l) (suc j) h = map_place f l j (omega arith)
