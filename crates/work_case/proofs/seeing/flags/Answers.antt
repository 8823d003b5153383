-- `work_case::seeing::flags` meets its contract. Assumes nothing.
use mathlib.Core.Path.{◌∙◌}
use mathlib.Core.List.{[], ◌∷◌}
use Rattle.work_store.proofs.LimitLaws.{flags_are}
use Rattle.work_case.proofs.seeing.flags.Goals as goal

pub returns : goal.returns
returns c =
    λ m n. (λ i. c.flag.ensures i ∷ c.flag-2.ensures i ∷ c.flag-3.ensures i ∷ c.flag-4.ensures i ∷
    c.flag-5.ensures i ∷ c.flag-6.ensures i ∷ c.flag-7.ensures i ∷ c.flag-8.ensures i ∷ []) ∙
    flags_are m n c.args.store.now
