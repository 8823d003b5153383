-- Conservation and amounts, from integers to naturals. Assumes nothing.
use mathlib.Core.Path.{◌≡◌, refl, sym, ap, ap₂, ◌∙◌}
use mathlib.Core.Bool.{true}
use mathlib.Core.List.{List}
use Prim.Native.Nat.{ℕ, ◌+◌, ◌<◌}
use native.Mathlib.Omega.{arith}
use lib.IntN.{ℤ, pos, negsuc, sub_ℕ, ◌+ℤ◌, ◌-ℤ◌, +ℤ-neg_ℤ_cancel}
use borrow.Author.Tests.{eqb-true, eq-eqb}
use Rattle.transport.specs.Sum.{sum}
use Rattle.problem.specs.Integer.{eq_z}
use Rattle.flow_problem.specs.Network.{Network, arc_count, start, end, ceiling, supply, listed, leaving, entering, amount, Flow}
use Rattle.flow_problem.specs.inner.Reduce.{stock}
use Rattle.flow_problem.specs.inner.Sound.{Sound}
use Rattle.transport.proofs.Differences.{sub_same, sub_sub, pos_sub}
use Rattle.problem.proofs.Integers.{sub_eq}
use Rattle.flow_problem.proofs.SumsByNode.{regroup}
use Rattle.flow_problem.proofs.PlanAsFlow.{Graph, Kept}
use Rattle.problem.proofs.RaisedFreight.{sum_above}

pub eq_z_same : (z : ℤ) → eq_z z z ≡ true
unfolding eq_z
eq_z_same (pos a) = eq-eqb a a refl
eq_z_same (negsuc a) = eq-eqb a a refl

-- equal differences
pub same_sub : (a b c d : ℕ) → sub_ℕ a b ≡ sub_ℕ c d → a + d ≡ c + b
same_sub a b c d e =
    eqb-true (a + d) (c + b) (sym (sub_eq a b c d) ∙ ap (λ (z : ℤ). eq_z (sub_ℕ a b) z) (sym e) ∙ eq_z_same (sub_ℕ a b))

-- z + c is n, so z is n - c
pub shifted : (z : ℤ) (c n : ℕ) → z +ℤ pos c ≡ pos n → z ≡ sub_ℕ n c
shifted z c n e =
    sym (+ℤ-neg_ℤ_cancel z (pos c))
    ∙ ap (λ (v : ℤ). v -ℤ pos c) e
    ∙ ap₂ (λ (v t : ℤ). v -ℤ t) (pos_sub n) (pos_sub c)
    ∙ sub_sub n 0 c 0
    ∙ sub_same (n + 0) (0 + c) n c (omega arith)

module _ {g : Network} {named : ℕ} (ok : Sound g named) where
  pub graph : Graph g.nodes (arc_count g) (start g) (end g) named
  graph = record { starts = ok.starts; ends = ok.ends; apart = ok.apart; place = ok.place }

  pub supply_is : (i : ℕ) → i < g.nodes → supply g i ≡ sub_ℕ (stock g i) (entering g (ceiling g) i)
  unfolding amount
  supply_is i l = shifted (supply g i) (entering g (ceiling g) i) (stock g i) (ok.amounts i l)

  -- the amounts sum to the ceilings
  pub stock_sum : sum g.nodes (stock g) ≡ sum (arc_count g) (ceiling g)
  unfolding entering
  stock_sum =
      let h = sum_above g.nodes (supply g) (stock g) (entering g (ceiling g)) (λ i l. record { is = supply_is i l }) in
      let q = same_sub (sum g.nodes (stock g)) (sum g.nodes (entering g (ceiling g))) 0 0 (sym h.is ∙ ok.balanced ∙ pos_sub 0) in
      omega (arith, q, regroup g.nodes (arc_count g) (end g) (ceiling g) ok.ends)

  -- conservation of a flow
  abbrev pub KeptAt : List ℕ → ℕ → Type 0
  KeptAt x i = Kept (arc_count g) (start g) (end g) (ceiling g) (stock g) (listed x) i

  pub kept_of : (x : List ℕ) → Flow g x → (i : ℕ) → i < g.nodes → KeptAt x i
  unfolding leaving entering
  kept_of x f i l =
      same_sub (leaving g (listed x) i) (entering g (listed x) i) (stock g i) (entering g (ceiling g) i) (f.conserved i l ∙ supply_is i l)

  pub conserved_of : (x : List ℕ) (i : ℕ) → i < g.nodes → KeptAt x i → sub_ℕ (leaving g (listed x) i) (entering g (listed x) i) ≡ supply g i
  unfolding leaving entering
  conserved_of x i l h =
      sub_same (leaving g (listed x) i) (entering g (listed x) i) (stock g i) (entering g (ceiling g) i) h ∙ sym (supply_is i l)
