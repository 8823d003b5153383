-- The least into a part, source by source or terminal by terminal: both are at most each lane's. Assumes nothing.
use mathlib.Core.Path.{◌≡◌, ap, ◌∙◌}
use mathlib.Core.List.{List}
use Prim.Native.Nat.{ℕ, ◌+◌, ◌-◌, ◌*◌, ◌/◌, ◌^◌, ◌≤◌, ◌<◌}
use native.Mathlib.Decide.{dec_lt}
use native.Mathlib.Omega.{arith}
use lib.Bits.{bit_and}
use lib.Pow.{pow_mono}
use Rattle.residual.specs.inner.Cells.{cells}
use Rattle.residual.specs.inner.Network.{get}
use Rattle.residual.proofs.Bits.{bit_none, bit_place}
use Rattle.cuts.specs.inner.Columns.{by_terminal}
use Rattle.cuts.specs.inner.Cut.{has, Others, LowsReady, Lows, Low, SourcesReady, TerminalsReady, Nearest, NearReady, Near}
use Rattle.cuts.proofs.PartBits.{low_half, high_half, low_half_fits}

-- ---- source by source

pub source_lows : {out : ℕ} {cost w : List ℕ} → SourcesReady out 32 cost w → LowsReady out 0 64 0 cost w
source_lows {out} {cost} r = record {
  within = λ b e. omega (arith, bit_place 32 out b r.few e);
  nodes = λ b e. omega (arith, bit_place 32 out b r.few e);
  costs = λ b i e h. let z : b * 64 + 0 + i ≡ b * 64 + i = omega arith in omega (arith, ap (λ v. get cost v) z, r.costs b i e (omega arith));
  most = r.most;
}

pub source_lows_2 : {out : ℕ} {cost w : List ℕ} → SourcesReady out 64 cost w → LowsReady out 0 64 32 cost w
source_lows_2 {out} {cost} r = record {
  within = λ b e. omega (arith, bit_place 32 out b r.few e);
  nodes = λ b e. omega (arith, bit_place 32 out b r.few e);
  costs = λ b i e h. let z : b * 64 + 32 + i ≡ b * 64 + (32 + i) = omega arith in omega (arith, ap (λ v. get cost v) z, r.costs b (32 + i) e (omega arith));
  most = r.most;
}

pub fewer : {out k n : ℕ} {cost w : List ℕ} → k ≤ n → SourcesReady out n cost w → SourcesReady out k cost w
fewer l r = record { few = r.few; costs = λ i j e h. r.costs i j e (omega arith); most = r.most }

pub half_nearest : {out : ℕ} (cols : ℕ) {cost w acc : List ℕ} {from key : ℕ} → Lows out 0 64 0 cost w 0 acc → Low (bit_and cols 4294967295) 32 acc w from key
    → Nearest out (bit_and cols 4294967295) (cells cost) w key
half_nearest {out} cols {cost} {w} a b = record {
  each = λ i j hi hj o u.
      let s : 0 + i ≡ i = omega arith in
      let z : i * 64 + 0 + j ≡ i * 64 + j = omega arith in
      let l = bit_place 32 (bit_and cols 4294967295) j (low_half_fits cols) u in
      omega (arith, b.each j u, a.low i j o (bit_none i) l, ap (λ v. get cost v) z, ap (λ v. get w v) s);
}

pub sources_nearest : {out cols : ℕ} {cost w acc : List ℕ} {key key' : ℕ} → Nearest out (bit_and cols 4294967295) (cells cost) w key
    → Lows out 0 64 32 cost w 0 acc → Low (cols / 2 ^ 32) 64 acc w key key' → Nearest out cols (cells cost) w key'
sources_nearest {out} {cols} {cost} {w} {acc} {key} {key'} a c d = record {
  each = λ i j hi hj o u.
      let s : 0 + i ≡ i = omega arith in
      elim (dec_lt j 32) [
        | yes l ↦ omega (arith, d.less, a.each i j hi hj o (low_half cols j l ∙ u))
        | no l ↦
            let y : 32 + (j - 32) ≡ j = omega arith in
            let z : i * 64 + 32 + (j - 32) ≡ i * 64 + j = omega arith in
            let t : 64 + (j - 32) ≡ 32 + j = omega arith in
            omega (
              arith,
              d.each (j - 32) (high_half cols (j - 32) ∙ ap (λ v. has cols v) y ∙ u),
              c.low i (j - 32) o (bit_none i) (omega arith),
              ap (λ v. get cost v) z,
              ap (λ v. get w v) s,
              ap (λ v. get w v) t,
            )
      ];
}

-- ---- terminal by terminal

pub terminal_lows : {out cols : ℕ} {columns w : List ℕ} → cols < 2 ^ 64 → TerminalsReady out columns w → LowsReady cols 32 32 0 columns w
terminal_lows {cols = cols} h r = record {
  within = λ b e. omega (arith, bit_place 64 cols b h e);
  nodes = λ b e. omega (arith, bit_place 64 cols b h e);
  costs = λ b i e l. r.costs (b * 32 + 0 + i);
  most = r.most;
}

pub terminals_nearest : {out cols : ℕ} {columns w acc : List ℕ} {from key : ℕ} → Lows cols 32 32 0 columns w 0 acc → Low out 0 acc w from key
    → Nearest out cols (by_terminal columns) w key
terminals_nearest {columns = columns} {w} a b = record {
  each = λ i j hi hj o u.
      let s : 0 + i ≡ i = omega arith in
      let z : j * 32 + 0 + i ≡ j * 32 + i = omega arith in
      omega (arith, b.each i o, a.low j i u (bit_none j) hi, ap (λ v. get columns v) z, ap (λ v. get w v) s);
}

-- ---- either

module _ {m n rows out : ℕ} {table columns w : List ℕ} (r : NearReady m n table columns w) (o : Others m rows out) where
  near_few : out < 2 ^ 32
  near_few = omega (arith, o.within, pow_mono r.sources)

  pub near_sources : {k : ℕ} → k ≤ n → SourcesReady out k table w
  near_sources e = record {
    few = near_few;
    costs = λ i j u h. r.costs i j (bit_place m out i o.within u) (omega arith);
    most = r.most;
  }

  pub near_terminals : TerminalsReady out columns w
  near_terminals = record { few = near_few; costs = r.columns_most; most = r.most }

  pub near_by_sources : {cols key : ℕ} → Nearest out cols (cells table) w key → Near m n rows cols table columns w key
  near_by_sources q = record {
    each = λ i j c a b e u s t.
        omega (arith, q.each i j (omega (arith, r.sources)) (omega (arith, r.terminals)) (o.out i a e) u);
  }

  pub near_by_half : {cols key : ℕ} → cols ≤ 4294967295 → Nearest out (bit_and cols 4294967295) (cells table) w key
      → Near m n rows cols table columns w key
  near_by_half {cols} few q = record {
    each = λ i j c a b e u s t.
        let l = bit_place 32 cols j (omega arith) u in
        omega (arith, q.each i j (omega (arith, r.sources)) (omega (arith, r.terminals)) (o.out i a e) (low_half cols j l ∙ u));
  }

  pub near_by_terminals : {cols key : ℕ} → Nearest out cols (by_terminal columns) w key → Near m n rows cols table columns w key
  near_by_terminals q = record {
    each = λ i j c a b e u s t.
        omega (arith, q.each i j (omega (arith, r.sources)) (omega (arith, r.terminals)) (o.out i a e) u);
  }
