-- `residual::relax::relax_row` meets its contract. Assumes nothing.
use mathlib.Core.Path.{refl}
use Prim.Native.Nat.{◌+◌, ◌-◌}
use native.Mathlib.Omega.{arith}
use Rattle.residual.specs.inner.Network.Arc.{ahead}
use Rattle.residual.proofs.Relaxation.{pass_start, pass_open, pass_row, pick_low, row_left, row_made}
use Rattle.residual.proofs.Keys.{rekey_start, rekey_open}
use Rattle.residual.proofs.relax.relax_row.Goals as goal

pub loop-j-init : goal.loop-j-init
loop-j-init c = (omega arith, λ m hi s. (pass_start c.requires.row_ready.long_dist c.requires.row_ready.long_prev (omega arith), rekey_start c.requires.row_ready.long_key))

pub overflow_add-t : goal.overflow_add-t
overflow_add-t c = omega (arith, c.requires.row_ready.costs _ c.loop-j-test.true)

pub row_key-f-requires : goal.row_key-f-requires
row_key-f-requires c =
    let j = c.loop-j.j in
    let s = c.requires.row_ready in
    let old = (c.loop-j.invariant.1 32 s.source (omega arith)).0.rest (32 + j) (omega arith) in
    let z = pick_low c.wins-take.ensures (λ o. s.ahead j c.loop-j-test.true o)
    (omega (arith, s.low (32 + j) (omega (arith, s.terminals)), old)) (omega (arith, s.most (32 + j) (omega (arith, s.terminals)), old))
    c.pick.ensures in
    (z.0, z.1, c.requires.tags.bits.bit (32 + j) (omega (arith, s.terminals)))

pub overflow_cast-i : goal.overflow_cast-i
overflow_cast-i c = omega (arith, c.requires.row_ready.source)

pub loop-j-preserved : goal.loop-j-preserved
loop-j-preserved c =
    let j = c.loop-j.j in
    let s = c.requires.row_ready in
    let inv = c.loop-j.invariant in
    let l = c.loop-j-test.true in
    let w = c.wins-take.ensures in (
      omega arith,
      λ m hi hm. (
        pass_open (inv.1 m hi hm).0 (omega arith) hm (omega (arith, s.terminals))
            (λ h. (ahead j hi l refl (w.taken h).1 refl refl, (w.taken h).0))
            (λ h t' k' a. row_left _ j w refl hm hi h a)
            c.offer.ensures,
        rekey_open (inv.1 m hi hm).1 (inv.1 m hi hm).0.long_dist (omega (arith, s.terminals)) (λ h. (w.taken h).0)
            (row_made w c.pick.ensures c.row_key-f.ensures hi l refl) c.offer.ensures,
      ),
    )

pub returns : goal.returns
returns c = record { by_index = λ m hi hm. pass_row (c.loop-j.invariant.1 m hi hm).0 hi hm (omega arith); by_index_2 = λ m hi hm. (c.loop-j.invariant.1 m hi hm).1 }
