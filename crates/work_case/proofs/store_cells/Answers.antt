-- `work_case::store_cells` meets its contract. Assumes nothing.
use mathlib.Core.Path.{◌∙◌}
use mathlib.Core.Logic.{inl, inr}
use Rattle.work_store.proofs.OpenStore.{too_few_sources, too_many_sources, no_terminals, too_many_terminals, lent_cells}
use Rattle.work_case.proofs.store_cells.Goals as goal

pub returns-then-m-lt2 : goal.returns-then-m-lt2
returns-then-m-lt2 c =
    elim c.then-m-lt2.either [
      | inl h ↦ too_few_sources _ _ h
      | inr (inl h) ↦ too_many_sources _ _ h.1
      | inr (inr (inl h)) ↦ no_terminals _ _ h.2
      | inr (inr (inr h)) ↦ too_many_terminals _ _ h.3
    ]

pub cells_for-requires : goal.cells_for-requires
cells_for-requires c = record { few = c.if-m-gt32.false; many = c.if-n-gt64.false }

pub returns : goal.returns
returns c =
    c.cells_for.ensures
    ∙ lent_cells _ _ c.if-m-lt2.false c.if-m-gt32.false c.if-n-lt1.false c.if-n-gt64.false
