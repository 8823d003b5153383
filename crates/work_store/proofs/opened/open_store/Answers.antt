-- `work_store::opened::open_store` meets its contract. Assumes nothing.
use mathlib.Core.Logic.{inl, inr}
use native.Mathlib.Omega.{arith}
use Rattle.work_store.proofs.OpenStore.{shut_small, shut_unsigned, shut_two, shut_few, shut_one, shut_many, shut_room, found}
use Rattle.work_store.proofs.opened.open_store.Goals as goal

pub returns-then-store-lt11 : goal.returns-then-store-lt11
returns-then-store-lt11 c =
    grind (arith, shut_small, shut_unsigned)

pub returns-then-a-lt2 : goal.returns-then-a-lt2
returns-then-a-lt2 c =
    elim c.then-a-lt2.either [
      | inl h ↦ shut_two _ h
      | inr (inl h) ↦ shut_few _ h.1
      | inr (inr (inl h)) ↦ shut_one _ h.2
      | inr (inr (inr h)) ↦ shut_many _ h.3
    ]

pub cells_for-requires : goal.cells_for-requires
cells_for-requires c = record { few = c.if-a-gt32.false; many = c.if-b-gt64.false }

pub returns-then-store-cells_for : goal.returns-then-store-cells_for
returns-then-store-cells_for c = shut_room _ (omega (arith, c.if-store-cells_for.true, c.cells_for.ensures))

pub returns : goal.returns
returns c =
    found _ (record {
      two = c.if-a-lt2.false;
      few = c.if-a-gt32.false;
      one = c.if-b-lt1.false;
      many = c.if-b-gt64.false;
      room = omega (arith, c.if-store-cells_for.false, c.cells_for.ensures);
    }) (omega arith)
