-- How the nodes are tagged for a search, one after the other. Assumes nothing.
use mathlib.Core.Path.{◌∙◌}
use mathlib.Core.List.{List}
use Prim.Native.Nat.{ℕ, ◌+◌, ◌≤◌, ◌<◌}
use native.Mathlib.Decide.{ℕ_discrete}
use native.Mathlib.Omega.{arith}
use lib.ListN.{set, length-set}
use lib.Seq.{get_or-set_same, get_or-set_other}
use Rattle.residual.specs.inner.Network.{Net, get}
use Rattle.residual.specs.inner.Keys.{Bits}
use Rattle.paths.specs.inner.Search.{Wanted}
use Rattle.paths.specs.inner.NodeTags.{Whole, Tagged, PlanTagged, Tagging}

pub tag_step : {room demand full want : List ℕ} {k f w : ℕ} → Tagging room demand full want k → k < 96 → f ≤ 1 → Whole (get room k) (get demand k) w
    → Tagging room demand (set full k f) (set want k w) (k + 1)
tag_step {full = full} {want} {k} {f} {w} q h b o = record {
  long_full = length-set full k f ∙ q.long_full;
  long_want = length-set want k w ∙ q.long_want;
  bit = λ v l. elim (ℕ_discrete v k) [
    | yes z ↦ rw z (omega (arith, get_or-set_same full k f 0 (omega (arith, q.long_full))))
    | no z ↦ omega (arith, get_or-set_other full k v f 0 z, q.bit v (omega arith))
  ];
  whole = λ v l. elim (ℕ_discrete v k) [
    | yes z ↦ rw (z, get_or-set_same want k w 0 (omega (arith, q.long_want))) o
    | no z ↦ rw (get_or-set_other want k v w 0 z) (q.whole v (omega arith))
  ];
}

pub tag_end : {room demand full want : List ℕ} {k : ℕ} → Tagging room demand full want k → 96 ≤ k → Tagged room demand full want
tag_end q h = record {
  tags = record { bits = record { long = q.long_full; bit = λ v l. q.bit v (omega arith) }; long_want = q.long_want };
  whole = λ v l. q.whole v (omega arith);
}

pub bits_set : (k : ℕ) {full : List ℕ} {f : ℕ} → Bits full → f ≤ 1 → Bits (set full k f)
bits_set k {full} {f} q b = record {
  long = length-set full k f ∙ q.long;
  bit = λ v l. elim (ℕ_discrete v k) [
    | yes z ↦ rw z (omega (arith, get_or-set_same full k f 0 (omega (arith, q.long))))
    | no z ↦ omega (arith, get_or-set_other full k v f 0 z, q.bit v l)
  ];
}

pub tag_other : {room demand full full' want : List ℕ} → Tagged room demand full want → Bits full' → Tagged room demand full' want
tag_other q b = record { tags = record { bits = b; long_want = q.tags.long_want }; whole = q.whole }

-- no terminal gets more than its demand
pub tag_plan : {N : Net} {room demand full want : List ℕ} → N.n ≤ 64 → Wanted N demand → Tagged room demand full want → PlanTagged N room full want
tag_plan b wanted q = record {
  tags = q.tags;
  whole = λ j x h l e. let t = q.whole (32 + j) (omega arith) x l e in (t.0, t.1, omega (arith, t.2, wanted j h));
}
