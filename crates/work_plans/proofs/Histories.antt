-- After any history, the store holds what the history makes of the entered case, and planning gives what that case entered afresh would give.
-- Assumes nothing.
use mathlib.Core.Path.{◌≡◌, refl, sym, ap, ◌∙◌}
use mathlib.Core.Option.{none, some}
use mathlib.Core.List.{List}
use Prim.Native.Nat.{ℕ}
use Rattle.problem.specs.Case.{Case}
use Rattle.problem.specs.Outcome.{Outcome, planned, refused}
use Rattle.planner.specs.Answer.{Slices, Answered}
use Rattle.work_store.specs.State.{Draft, State, lent_with, entered}
use Rattle.work_store.specs.Calls.{Call, step, run}
use Rattle.work_store.specs.Store.{held_in}
use Rattle.work_store.specs.Promise.{steps, Entered}
use Rattle.work_plans.specs.Planning.{PlannedFrom}
use Rattle.work_plans.specs.History.{Leads, start, then}

pub led : {h : List Call} {before last : List ℕ} → Leads h before last → (s : State) → held_in before ≡ some s → held_in last ≡ some (run h s)
unfolding run
led start s e = e
led (then {c} p l) s e = led l (step c s) (p.state ∙ ap (steps c) e)

slices_eq : (a b : Slices) → a.plan ≡ b.plan → a.splits ≡ b.splits → a.freights ≡ b.freights → a ≡ b
slices_eq a b ep es ef = λ i. record { plan = ep i; splits = es i; freights = ef i }

-- two answers by one promise, from the same case and slices: the same outcome and the same cells
module _ (c : Case) (r r' : Outcome) (before after after' : Slices) (w : Answered c r before after) (w' : Answered c r' before after') where
  pub same_outcome : r ≡ r'
  same_outcome = w.answer ∙ sym w'.answer

  pub same_slices : after ≡ after'
  same_slices = go r refl
    where
      go : (o : Outcome) → r ≡ o → after ≡ after'
      go (planned s t f k) e =
          let a = w.written s t f k e in
          let b = w'.written s t f k (sym same_outcome ∙ e) in
          slices_eq after after' (a.cells ∙ sym b.cells) (a.splits ∙ sym b.splits) (a.freights ∙ sym b.freights)
      go (refused k p) e = w.kept k p e ∙ sym (w'.kept k p (sym same_outcome ∙ e))

module _ {h : List Call} {lent store last : List ℕ} (d : Draft) (e : Entered d lent store none) (l : Leads h store last) where
  -- what the store holds after a history
  pub held_last : held_in last ≡ some (run h (entered d))
  held_last = led l (entered d) (e.state refl)

  -- planning after a history gives what the case of that history, entered afresh into any store, gives: outcome, lane amounts and stops
  pub plans_afresh : {other fresh : List ℕ} → Entered (run h (entered d)).case other fresh none
      → (p q f : ℕ) (r r' : Outcome) (before after after' : Slices) → PlannedFrom (held_in last) p q f r before after
      → PlannedFrom (held_in fresh) p q f r' before after' → (r ≡ r') × (after ≡ after')
  plans_afresh {other} {fresh} g p q f r r' before after after' w w' =
      let c = lent_with (run h (entered d)).case p q f in
      let a = w.work (run h (entered d)) held_last in
      let b = w'.work (entered (run h (entered d)).case) (g.state refl) in
      (same_outcome c r r' before after after' a b, same_slices c r r' before after after' a b)
