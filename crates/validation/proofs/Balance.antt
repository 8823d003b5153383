-- Tests 7 and 8: what both plants make, from the lists as they are lent. Assumes nothing.
use mathlib.Core.Path.{◌≡◌, refl, ap, ◌∙◌}
use mathlib.Core.List.{List}
use Prim.Native.Nat.{ℕ, ◌+◌, ◌-◌, ◌≤◌, ◌<◌}
use native.Mathlib.Omega.{arith}
use lib.ListN.{length, get_or, take, drop, length-take, length-drop}
use lib.Seq.{get_or-take, get_or-drop}
use borrow.Author.Tests.{lt-ltb, le-ltb}
use Rattle.transport.specs.Sum.{sum}
use Rattle.transport.proofs.Sums.{sum_ext}
use Rattle.problem.specs.inner.LentTests.{AtMost}
use Rattle.validation.specs.Verdict.{made_of}
use Rattle.std.specs.Prelude.{Ok, Err}
use Rattle.refusal.specs.declared.Cause.TheVariants.{TooLittleWanted, TooMuchWanted}

module _ (s : List ℕ) (two : 2 ≤ length s) where
  depots : List ℕ
  depots = take (length s - 2) (drop 2 s)

  pub depots_length : length (take (length s - 2) (drop 2 s)) ≡ length s - 2
  depots_length = simp (length-take, length-drop) (omega arith)

  pub depot_at : (k : ℕ) → k < length s - 2 → get_or (take (length s - 2) (drop 2 s)) k 0 ≡ get_or s (2 + k) 0
  depot_at k h = get_or-take (length s - 2) (drop 2 s) k 0 h ∙ get_or-drop 2 s k 0

  pub depots_most : AtMost 4000 s → AtMost 4000 (take (length s - 2) (drop 2 s))
  depots_most h k l = let z : k < length s - 2 = omega (arith, depots_length) in omega (arith, depot_at k z, h (2 + k) (omega arith))

  pub depots_sum : sum (length (take (length s - 2) (drop 2 s))) (λ j. get_or (take (length s - 2) (drop 2 s)) j 0) ≡ sum (length s - 2) (λ k. get_or s (2 + k) 0)
  depots_sum =
      ap (λ (n : ℕ). sum n (λ j. get_or (take (length s - 2) (drop 2 s)) j 0)) depots_length ∙ sum_ext (length s - 2) _ _ (λ k h. depot_at k h)

module _ (r1 r2 : ℕ) (s d : List ℕ) (all stock : ℕ) (ea : all ≡ sum (length d) (λ j. get_or d j 0)) (es : stock ≡ sum (length s - 2) (λ k. get_or s (2 + k) 0)) where
  pub made_below : all < stock + r1 + r2 → made_of r1 r2 s d ≡ Err TooLittleWanted
  unfolding made_of
  made_below h = rw (← ea, ← es, lt-ltb all (stock + r1 + r2) h) refl

  pub made_above : stock + r1 + r2 ≤ all → get_or s 0 0 + get_or s 1 0 < all - stock → made_of r1 r2 s d ≡ Err TooMuchWanted
  unfolding made_of
  made_above h l = rw (← ea, ← es, le-ltb all (stock + r1 + r2) h, lt-ltb (get_or s 0 0 + get_or s 1 0) (all - stock) l) refl

  pub made_drums : stock + r1 + r2 ≤ all → all - stock ≤ get_or s 0 0 + get_or s 1 0 → made_of r1 r2 s d ≡ Ok (all - stock)
  unfolding made_of
  made_drums h l = rw (← ea, ← es, le-ltb all (stock + r1 + r2) h, le-ltb (get_or s 0 0 + get_or s 1 0) (all - stock) l) refl
