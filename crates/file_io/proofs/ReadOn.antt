-- A read that is not the last brought at least a byte, and left room. Assumes nothing.
use Rattle.std.proofs.Common.{◌≡◌, refl, sym, ◌∙◌, Bool, true, false, cond, ◌||◌, true≢false, ℕ, ◌+◌, ◌<◌, eqb, leb, arith}
use Rattle.std.proofs.lemmas.Bool.{eqb-false, leb-false}
use Rattle.file_io.specs.inner.Reading.{taken_after, ends_after, Told}

pub goes_on : (failed : Bool) (more at size : ℕ) → ends_after failed more at size ≡ false
    → (at < taken_after failed more at size) × (taken_after failed more at size < size)
unfolding taken_after ends_after
goes_on true more at size e = absurd (true≢false e)
goes_on false more at size e = go (eqb more 0) (leb size (at + more)) refl refl e
  where
    go : (t u : Bool) → eqb more 0 ≡ t → leb size (at + more) ≡ u → (t || u) ≡ false
        → (at < cond t at (cond u size (at + more))) × (cond t at (cond u size (at + more)) < size)
    go true u p q e = absurd (true≢false e)
    go false true p q e = absurd (true≢false e)
    go false false p q e = (omega (arith, eqb-false more 0 p), omega (arith, leb-false size (at + more) q))

-- the same, of what is told of a read
pub told_on : {failed : Bool} {more at size taken : ℕ} {ends : Bool} → Told failed more at size taken ends → ends ≡ false
    → (at < taken) × (taken < size)
told_on {failed} {more} {at} {size} told e = rw told.at_is (goes_on failed more at size (sym told.ends_is ∙ e))
