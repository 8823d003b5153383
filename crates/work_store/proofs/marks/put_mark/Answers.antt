-- `work_store::marks::put_mark` meets its contract. Assumes nothing.
use mathlib.Core.Path.{ap}
use mathlib.Core.Logic.{inl, inr}
use mathlib.Core.List.{List}
use Prim.Native.Nat.{ℕ, ◌+◌}
use native.Mathlib.Omega.{arith}
use lib.ListN.{set}
use Rattle.work_store.specs.Store.{writes}
use Rattle.work_store.proofs.StateAfterWrites.{within, large}
use Rattle.work_store.proofs.CallRefusals.{refuses, works, out_low, out_high, mark_24, mark_none}
use Rattle.work_store.proofs.marks.put_mark.Goals as goal

pub returns-then-k-lt1 : goal.returns-then-k-lt1
returns-then-k-lt1 c =
    rw (c.at.ensures.cause, c.at.ensures.place) (refuses _ _ _ _ _ (elim c.then-k-lt1.either [ inl h ↦ mark_24 _ _ (out_low _ _ h) | inr h ↦ mark_24 _ _ (out_high _ _ h.1) ]))

pub copy_slot-requires : goal.copy_slot-requires
copy_slot-requires c = record { fact = c.requires; slots = record { from_slot = omega arith; to_slot = c.if-k-gt8.false; differ = inl c.if-k-lt1.false } }

pub bounds-store-k : goal.bounds-store-k
bounds-store-k c =
    omega (arith, c.copy_slot.auto, c.requires.room, large c.args.layout.m c.args.layout.n, c.if-k-gt8.false)

pub returns : goal.returns
unfolding writes
returns c =
    works _ _ _ _ _ (mark_none _ _ (within _ _ c.if-k-lt1.false c.if-k-gt8.false)) (ap (λ (l : List ℕ). set l (1 + c.args.k) 1) c.copy_slot.ensures)
