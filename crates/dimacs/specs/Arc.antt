-- An arc of a network. Assumes nothing.
use Rattle.std.specs.Prelude.{ℕ, ℤ}

-- an arc as its line says it: the numbers of its two nodes, from 1, its ceiling and its cost
pub record Arc : Type 0 where
  pub start : ℕ
  pub end : ℕ
  pub ceiling : ℕ
  pub cost : ℤ

abbrev pub arc : ℕ → ℕ → ℕ → ℤ → Arc
arc s e u c = record { start = s; end = e; ceiling = u; cost = c }
