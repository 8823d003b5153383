-- `paths::search::search` meets its contract. Assumes nothing.
use mathlib.Core.Path.{refl}
use Prim.Native.Nat.{ℕ}
use lib.ListN.{get_or-replicate}
use Rattle.residual.specs.inner.Labels.{far}
use Rattle.paths.proofs.NodeTags.{tag_other, tag_plan}
use Rattle.paths.proofs.search.search.Goals as goal

pub explore-requires : goal.explore-requires
explore-requires c = record { search_ready = c.requires.search_ready; plan_tagged = tag_plan c.requires.search_ready.sound.terminals c.requires.wanted (tag_other c.tag.ensures c.prefer.ensures); blank = record { long_dist = refl; long_prev = refl; dists = λ v h. get_or-replicate {A = ℕ} 96 v far 0 h }; covers = c.requires.covers }
