use mathlib.Core.Path.{sym, ap, ◌∙◌}
use mathlib.Core.Bool.{Bool, cond}
use Prim.Native.Nat.{ℕ}
use Rattle.export_files.proofs.reading.faulty_file.Goals as goal

-- src/reading.rt:26:1
pub returns-then-tariff_stands : goal.returns-then-tariff_stands
returns-then-tariff_stands c = ap (λ (b : Bool). cond {A = ℕ} b 2 1) (sym c.if-tariff_stands.true ∙ c.tariff_stands.ensures)

-- src/reading.rt:26:1
pub returns-else-tariff_stands : goal.returns-else-tariff_stands
returns-else-tariff_stands c = ap (λ (b : Bool). cond {A = ℕ} b 2 1) (sym c.if-tariff_stands.false ∙ c.tariff_stands.ensures)
