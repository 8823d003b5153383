-- `residual::relax::relax_column` meets its contract. Assumes nothing.
use mathlib.Core.Path.{◌≡◌, refl}
use Prim.Native.Nat.{ℕ, ◌+◌, ◌-◌, ◌*◌, ◌^◌, ◌≤◌, ◌<◌}
use mathlib.Core.Logic.{inl}
use mathlib.Core.List.{List, []}
use native.Mathlib.Omega.{arith}
use lib.Bits.{bit_and, and_le_r}
use lib.Count.{count_trailing_zeros}
use Rattle.residual.specs.inner.Network.Arc.{back}
use Rattle.residual.specs.inner.Network.{net, get}
use Rattle.residual.specs.inner.Labels.{Relabelling}
use Rattle.residual.specs.inner.LanesInUse.{AtNode}
use Rattle.residual.proofs.Relaxation.{column_left, pass_start, pass_skip, pass_open, pass_column, offer_long}
use Rattle.residual.proofs.ResidualArc.{shut_back}
use Rattle.residual.proofs.Keys.{rekey_start, rekey_open, next_start, next_kept, next_most, next_open}
use Rattle.residual.proofs.Bits.{left_start, left_low, left_set, left_none, left_next, left_end}
use Rattle.residual.proofs.LanesInUse.{column_skip, next_source}
use Rattle.residual.proofs.relax.relax_column.Goals.{In-loop-rest, Then-x-k-gt0}
use Rattle.residual.proofs.relax.relax_column.Goals as goal

-- ---- a pass of the loop

positive : (c : In-loop-rest) → 0 < c.loop-rest.rest
positive c = omega (arith, c.loop-rest-test.true)

-- the bit that it takes is a source's
source : (c : In-loop-rest) (m : ℕ) → get c.args.flow.now.serves (c.args.v - 32) < 2 ^ m
    → count_trailing_zeros 32 c.loop-rest.rest < m
source c m h = let i = c.loop-rest.invariant in next_source h i.left (positive c) i.word

-- a source of every such network
own : (c : In-loop-rest) (m n : ℕ)
    → AtNode m n c.args.flow.now.x c.args.flow.now.serves c.args.v
    → count_trailing_zeros 32 c.loop-rest.rest < m
own c m n a = let s = c.requires.column_ready in source c m (a.covers.within _ (omega (arith, s.low, a.terminal s.low)))

-- its lane
fits : (c : In-loop-rest) → count_trailing_zeros 32 c.loop-rest.rest * 64 + (c.args.v - 32) < 2048
fits c = let s = c.requires.column_ready in omega (arith, source c 32 s.word, s.low, s.high)

-- the bits that are left are fewer
fewer : (c : In-loop-rest) → bit_and c.loop-rest.rest (c.loop-rest.rest - 1) < c.loop-rest.rest
fewer c = omega (arith, and_le_r c.loop-rest.rest (c.loop-rest.rest - 1), positive c)

-- the sources below it
passed : (c : In-loop-rest) → c.loop-rest.invariant.hi ≤ count_trailing_zeros 32 c.loop-rest.rest
passed c = left_low 32 c.loop-rest.invariant.left (positive c) c.loop-rest.invariant.word

skipped : (c : In-loop-rest) (m n : ℕ) (cap : List ℕ)
    → AtNode m n c.args.flow.now.x c.args.flow.now.serves c.args.v
    → Relabelling
    (net m n c.args.cost.now cap c.args.flow.now.x) c.args.v
    c.args.base 0 (count_trailing_zeros 32 c.loop-rest.rest) c.args.dist.now
    c.args.prev.now c.loop-rest.dist c.loop-rest.prev
skipped c m n cap a =
    let s = c.requires.column_ready in
    let i = c.loop-rest.invariant in
    column_skip c.args.cost.now cap (c.args.v - 32) a.covers a.sources
    (omega (arith, s.low)) (i.labels m n cap a) (passed c) (left_none 32 i.left (positive c) i.word)

-- where it serves the terminal, its new label has a key
low : (c : Then-x-k-gt0)
    → get c.args.flow.now.pot (count_trailing_zeros 32 c.loop-rest.rest)
    + get c.args.cost.now
    (count_trailing_zeros 32 c.loop-rest.rest * 64 + (c.args.v - 32))
    ≤ c.args.base
low c =
    let i = c.loop-rest.invariant in
    c.requires.column_ready.back _ (left_set 32 i.left (omega (arith, c.loop-rest-test.true)) i.word) c.if-x-k-gt0.true

pub offset_bounds-flow-j : goal.offset_bounds-flow-j
offset_bounds-flow-j c = omega (arith, c.requires.column_ready.high)

pub bounds-flow-j : goal.bounds-flow-j
bounds-flow-j c = omega (arith, c.requires.column_ready.low, c.requires.column_ready.high)

pub loop-rest-init : goal.loop-rest-init
loop-rest-init c =
    let s = c.requires.column_ready in
    record {
      hi = 0;
      most = omega arith;
      labels = λ m n cap a. pass_start s.long_dist s.long_prev (omega arith);
      long = s.long_dist;
      keys = λ N want. rekey_start s.long_key;
      named = next_start;
      left = left_start;
      word = s.word;
    }

pub overflow_cast-i : goal.overflow_cast-i
overflow_cast-i c = omega (arith, fits (goal.at.overflow_cast-i c).In-loop-rest)

pub overflow_sub-rest : goal.overflow_sub-rest
overflow_sub-rest c = omega (arith, c.loop-rest-test.true)

pub overflow_mul-k : goal.overflow_mul-k
overflow_mul-k c = omega (arith, fits (goal.at.overflow_mul-k c).In-loop-rest)

pub overflow_add-k : goal.overflow_add-k
overflow_add-k c = omega (arith, fits (goal.at.overflow_add-k c).In-loop-rest)

pub offset_bounds-x-k : goal.offset_bounds-x-k
offset_bounds-x-k c = omega (arith, fits (goal.at.offset_bounds-x-k c).In-loop-rest)

pub bounds-x-k : goal.bounds-x-k
bounds-x-k c = omega (arith, fits (goal.at.bounds-x-k c).In-loop-rest)

pub offset_bounds-cost-k : goal.offset_bounds-cost-k
offset_bounds-cost-k c = omega (arith, fits (goal.at.offset_bounds-cost-k c).In-loop-rest)

pub bounds-cost-k : goal.bounds-cost-k
bounds-cost-k c = omega (arith, fits (goal.at.bounds-cost-k c).In-loop-rest)

pub overflow_sub-t : goal.overflow_sub-t
overflow_sub-t c = omega (arith, low (goal.at.overflow_sub-t c).Then-x-k-gt0)

pub offset_bounds-dist-i : goal.offset_bounds-dist-i
offset_bounds-dist-i c = omega (arith, fits (goal.at.offset_bounds-dist-i c).In-loop-rest)

pub bounds-dist-i : goal.bounds-dist-i
bounds-dist-i c = omega (arith, fits (goal.at.bounds-dist-i c).In-loop-rest)

pub offset_bounds-x-k-then-x-k-gt0 : goal.offset_bounds-x-k-then-x-k-gt0
offset_bounds-x-k-then-x-k-gt0 c = omega (arith, fits (goal.at.offset_bounds-x-k-then-x-k-gt0 c).In-loop-rest)

pub bounds-x-k-then-x-k-gt0 : goal.bounds-x-k-then-x-k-gt0
bounds-x-k-then-x-k-gt0 c = omega (arith, fits (goal.at.bounds-x-k-then-x-k-gt0 c).In-loop-rest)

pub offset_bounds-pot-i : goal.offset_bounds-pot-i
offset_bounds-pot-i c = omega (arith, fits (goal.at.offset_bounds-pot-i c).In-loop-rest)

pub bounds-pot-i : goal.bounds-pot-i
bounds-pot-i c = omega (arith, fits (goal.at.bounds-pot-i c).In-loop-rest)

pub offset_bounds-full-i : goal.offset_bounds-full-i
offset_bounds-full-i c = omega (arith, fits (goal.at.offset_bounds-full-i c).In-loop-rest)

pub bounds-full-i : goal.bounds-full-i
bounds-full-i c = omega (arith, fits (goal.at.bounds-full-i c).In-loop-rest)

pub key_of-f-requires : goal.key_of-f-requires
key_of-f-requires c =
    let s = c.requires in
    (omega (arith, low (goal.at.key_of-f-requires c).Then-x-k-gt0), omega (arith, s.column_ready.near), s.bits.bit _ (omega (arith, fits (goal.at.key_of-f-requires c).In-loop-rest)))

pub overflow_cast-v : goal.overflow_cast-v
overflow_cast-v c = omega (arith, c.requires.column_ready.high)

pub offer-requires : goal.offer-requires
offer-requires c = omega (arith, fits (goal.at.offer-requires c).In-loop-rest)

pub loop-rest-smaller-then-x-k-gt0 : goal.loop-rest-smaller-then-x-k-gt0
loop-rest-smaller-then-x-k-gt0 c = omega (arith, fewer (goal.at.loop-rest-smaller-then-x-k-gt0 c).In-loop-rest)

pub loop-rest-preserved-then-x-k-gt0 : goal.loop-rest-preserved-then-x-k-gt0
loop-rest-preserved-then-x-k-gt0 c =
    let inv = c.loop-rest.invariant in
    let s = c.requires in
    let v = c.args.v in
    let taken = c.if-x-k-gt0.true in
    let l = low (goal.at.loop-rest-preserved-then-x-k-gt0 c).Then-x-k-gt0 in
    let f = fits (goal.at.loop-rest-preserved-then-x-k-gt0 c).In-loop-rest in
    let bit = s.bits.bit (count_trailing_zeros 32 c.loop-rest.rest) (omega arith) in
    let wins = c.wins-take.ensures in
    let key = c.key_of-f.ensures in
    let offered = c.offer.ensures in
    record {
      hi = count_trailing_zeros 32 c.loop-rest.rest + 1;
      most = omega (arith, source (goal.at.loop-rest-preserved-then-x-k-gt0 c).In-loop-rest 32 s.column_ready.word);
      labels = λ m n cap a.
          pass_open (skipped (goal.at.loop-rest-preserved-then-x-k-gt0 c).In-loop-rest m n cap a) (omega arith) a.sources (omega arith)
          (λ h. (back (v - 32) (own (goal.at.loop-rest-preserved-then-x-k-gt0 c).In-loop-rest m n a) (omega (arith, a.terminal s.column_ready.low)) (omega (arith, s.column_ready.low)) taken (omega arith) refl, (wins.taken h).0))
          (λ h t' k' o. column_left _ (v - 32) wins (omega arith) a.sources (omega (arith, s.column_ready.low)) taken h o) offered;
      long = offer_long offered inv.long;
      keys = λ N want. rekey_open (inv.keys N want) inv.long (omega arith) (λ h. (wins.taken h).0) (λ h. inl (omega arith, omega arith)) offered;
      named = next_open (next_most inv.named (passed (goal.at.loop-rest-preserved-then-x-k-gt0 c).In-loop-rest)) (inv.keys (net 0 0 [] [] []) []).long (omega arith) (omega (arith, s.column_ready.near)) offered c.named-next.ensures;
      left = left_next 32 inv.left (positive (goal.at.loop-rest-preserved-then-x-k-gt0 c).In-loop-rest) inv.word;
      word = omega (arith, fewer (goal.at.loop-rest-preserved-then-x-k-gt0 c).In-loop-rest, inv.word);
    }

pub loop-rest-smaller : goal.loop-rest-smaller
loop-rest-smaller c = omega (arith, fewer (goal.at.loop-rest-smaller c).In-loop-rest)

pub loop-rest-preserved : goal.loop-rest-preserved
loop-rest-preserved c =
    let inv = c.loop-rest.invariant in
    let s = c.requires.column_ready in
    record {
      hi = count_trailing_zeros 32 c.loop-rest.rest + 1;
      most = omega (arith, source (goal.at.loop-rest-preserved c).In-loop-rest 32 s.word);
      labels = λ m n cap a.
          pass_skip (skipped (goal.at.loop-rest-preserved c).In-loop-rest m n cap a) (omega arith)
          (λ w h o t k arc.
          let z : w ≡ count_trailing_zeros 32 c.loop-rest.rest = omega arith in
          shut_back (c.args.v - 32) a.sources (own (goal.at.loop-rest-preserved c).In-loop-rest m n a) (omega (arith, s.low)) c.if-x-k-gt0.false t k (rw z at arc));
      long = inv.long;
      keys = inv.keys;
      named = next_kept (next_most inv.named (passed (goal.at.loop-rest-preserved c).In-loop-rest));
      left = left_next 32 inv.left (positive (goal.at.loop-rest-preserved c).In-loop-rest) inv.word;
      word = omega (arith, fewer (goal.at.loop-rest-preserved c).In-loop-rest, inv.word);
    }

pub returns : goal.returns
returns c =
    let i = c.loop-rest.invariant in
    let s = c.requires.column_ready in record {
      by_index = λ m n cap a.
          pass_column
          (column_skip c.args.cost.now cap (c.args.v - 32) a.covers a.sources (omega (arith, s.low)) (i.labels m n cap a) i.most
          (λ w h o. left_end i.left (omega (arith, c.loop-rest-test.false)) w h)) s.low a.sources a.sources;
      rekeyed = i.keys;
      next = next_most i.named i.most;
    }
