-- `work_store::marks::put_back` meets its contract. Assumes nothing.
use mathlib.Core.Logic.{inl, inr}
use native.Mathlib.Omega.{arith}
use Rattle.work_store.specs.Store.{writes}
use Rattle.work_store.proofs.Slots.{two_slots}
use Rattle.work_store.proofs.StateAfterWrites.{within, large}
use Rattle.work_store.proofs.CallRefusals.{refuses, works, out_low, out_high, back_24, back_25, back_none, flag_unset, flag_set}
use Rattle.work_store.proofs.marks.put_back.Goals as goal

pub returns-then-k-lt1 : goal.returns-then-k-lt1
returns-then-k-lt1 c =
    rw (c.at.ensures.cause, c.at.ensures.place) (refuses _ _ _ _ _ (elim c.then-k-lt1.either [ inl h ↦ back_24 _ _ (out_low _ _ h) | inr h ↦ back_24 _ _ (out_high _ _ h.1) ]))

pub bounds-store-k : goal.bounds-store-k
bounds-store-k c =
    omega (arith, c.requires.room, large c.args.layout.m c.args.layout.n, c.if-k-gt8.false)

pub returns-then-store-k-eq0 : goal.returns-then-store-k-eq0
returns-then-store-k-eq0 c =
    let i = (within _ _ c.if-k-lt1.false c.if-k-gt8.false) in
    let e = c.at-then-store-k-eq0.ensures in
    rw (e.cause, e.place) (refuses _ _ _ _ _ (back_25 _ _ i (flag_unset _ _ _ _ i c.if-store-k-eq0.true)))

pub copy_slot-requires : goal.copy_slot-requires
copy_slot-requires c = record { fact = c.requires; slots = two_slots _ _ (omega arith) (omega arith) (λ e. omega arith) }

pub returns : goal.returns
unfolding writes
returns c =
    let i = (within _ _ c.if-k-lt1.false c.if-k-gt8.false) in works _ _ _ _ _ (back_none _ _ i (flag_set _ _ _ _ i c.if-store-k-eq0.false)) c.copy_slot.ensures
