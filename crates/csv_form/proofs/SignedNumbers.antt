-- A number with its sign as the machine makes it. Assumes nothing.
use mathlib.Core.Path.{◌≡◌, ap, sym, ◌∙◌, subst}
use mathlib.Core.Bool.{Bool, true, false}
use Prim.Native.Nat.{ℕ, zero, suc, ◌<◌, ◌^◌}
use native.Mathlib.Omega.{arith}
use lib.IntN.{ℤ, pos, neg_ℤ, ◌-ℤ◌, +ℤ_idl}
use mir.Syntax.{w64}
use mir.Val.{SFits, to_z, of_z}
use mir.ValLaws.{to_z-of_z, to_z_pos}
use Rattle.csv_form.specs.Records.{signed}

module _ (v : ℕ) (small : v < 10 ^ 10) where
  negated : pos 0 -ℤ to_z w64 v ≡ neg_ℤ (pos v)
  negated = ap (λ (z : ℤ). pos 0 -ℤ z) (to_z_pos w64 v (omega arith)) ∙ +ℤ_idl (neg_ℤ (pos v))

  negative_fits : SFits w64 (neg_ℤ (pos v))
  negative_fits = go v small
    where
      go : (v : ℕ) → v < 10 ^ 10 → SFits w64 (neg_ℤ (pos v))
      go zero h = record { sfits = omega arith }
      go (suc v) h = record { sfits = omega arith }

  pub minus_fits : SFits w64 (pos 0 -ℤ to_z w64 v)
  minus_fits = subst (λ (z : ℤ). SFits w64 z) (sym negated) negative_fits

  pub minus_made : {m : Bool} → m ≡ true → to_z w64 (of_z w64 (pos 0 -ℤ to_z w64 v)) ≡ signed m v
  minus_made e = to_z-of_z w64 _ minus_fits ∙ negated ∙ sym (ap (λ (m : Bool). signed m v) e)

  pub plain_made : {m : Bool} → m ≡ false → to_z w64 v ≡ signed m v
  plain_made e = to_z_pos w64 v (omega arith) ∙ sym (ap (λ (m : Bool). signed m v) e)
