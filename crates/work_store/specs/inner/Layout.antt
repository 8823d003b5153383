-- The size of a working case within the largest. Assumes nothing.
use Rattle.std.specs.Prelude.{◌≤◌}
use Rattle.work_store.specs.declared.layout.Layout.{Layout}

pub record Within (layout : Layout) : Type 0 where
  pub few : layout.m ≤ 32
  pub many : layout.n ≤ 64
