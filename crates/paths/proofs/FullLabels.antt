-- The labels that only the proof keeps follow a pass over the distances and the nodes before. Assumes nothing.
use mathlib.Core.Path.{◌≡◌, sym, ◌∙◌}
use mathlib.Core.List.{List}
use Prim.Native.Nat.{ℕ, min, ◌+◌, ◌≤◌, ◌<◌}
use native.Mathlib.Decide.{dec_lt}
use native.Mathlib.Omega.{arith}
use lib.ListN.{length, set, replicate, get_or-eq_default}
use Rattle.transport.proofs.Tables.{cells_of, cells_of_length, cells_of_at}
use Rattle.residual.specs.inner.Network.{Net, get}
use Rattle.residual.specs.inner.Labels.{book, Touched, Passed, Relabel, Relabelled}
use Rattle.residual.specs.inner.Labels.Relabel.{keeps, takes}
use Rattle.residual.specs.inner.Labels.Touched.{stays, gains}
use Rattle.residual.specs.inner.Keys.{shut, Rekeyed, Next}
use Rattle.paths.specs.inner.NearestNode.{Nearest}
use Rattle.paths.specs.inner.Search.{Sound, SearchReady, Blank, Labelling}
use Rattle.paths.specs.inner.NodeTags.{PlanTagged}
use Rattle.paths.proofs.SearchPasses.{explore_start, explore_step}

module _ {N : Net} {v b : ℕ} {T P T' P' : List ℕ} (q : Relabelled N v b T P T' P') (lt : length T ≡ 96) (H W : List ℕ) (lh : length H ≡ 96)
    (lw : length W ≡ 96) (hop wide : ℕ) where
  hop_of : (w : ℕ) → Relabel N v b T P T' P' w → ℕ
  hop_of w (keeps e₁ e₂) = get H w
  hop_of w (takes t k a l e₁ e₂) = hop

  width_of : (w : ℕ) → Relabel N v b T P T' P' w → ℕ
  width_of w (keeps e₁ e₂) = get W w
  width_of w (takes t k a l e₁ e₂) = min wide k

  module _ {H' W' : List ℕ} where
    within : (w : ℕ) (r : Relabel N v b T P T' P' w) → get H' w ≡ hop_of w r → get W' w ≡ width_of w r
        → Touched N v b hop wide (book T P H W) (book T' P' H' W') w
    unfolding hop_of width_of
    within w (keeps e₁ e₂) eh ew = stays e₁ e₂ eh ew
    within w (takes t k a l e₁ e₂) eh ew = gains t k a l e₁ e₂ eh ew

    beyond : (w : ℕ) → length H' ≡ 96 → length W' ≡ 96 → 96 ≤ w → Relabel N v b T P T' P' w
        → Touched N v b hop wide (book T P H W) (book T' P' H' W') w
    beyond w lh' lw' h (keeps e₁ e₂) = stays e₁ e₂ (none H' lh' ∙ sym (none H lh)) (none W' lw' ∙ sym (none W lw))
      where
        none : (l : List ℕ) → length l ≡ 96 → get l w ≡ 0
        none l e = get_or-eq_default l 0 (omega arith)
    beyond w lh' lw' h (takes t k a l e₁ e₂) = absurd (omega (arith, get_or-eq_default T 0 {n = w} (omega arith)))

  pub lift : (H' : List ℕ) × (W' : List ℕ) × Passed N v b hop wide (book T P H W) (book T' P' H' W')
  lift = (
    hops,
    widths,
    record {
      long = record { dists = q.long_dist; prevs = q.long_prev; hopss = cells_of_length 96 fh; widths = cells_of_length 96 fw };
      each = λ w. elim (dec_lt w 96) [
        | yes h ↦ within w (q.each w) (cells_of_at 96 fh w h) (cells_of_at 96 fw w h)
        | no h ↦ beyond w (cells_of_length 96 fh) (cells_of_length 96 fw) (omega arith) (q.each w)
      ];
      offers = q.offers;
    },
  )
    where
      fh : ℕ → ℕ
      fh w = hop_of w (q.each w)

      fw : ℕ → ℕ
      fw w = width_of w (q.each w)

      hops : List ℕ
      hops = cells_of 96 fh

      widths : List ℕ
      widths = cells_of 96 fw

pub label_start : {N : Net} {p room : List ℕ} {s limit : ℕ} {T P : List ℕ} (K : List ℕ) → SearchReady N p s → 0 < limit → Blank T P → length K ≡ 96
    → ((v : ℕ) → v < 96 → get K v ≡ shut) → Labelling N p room s limit (set T s (get p s)) P (set K s 0) s 0
label_start {limit = limit} K r o k e z = record { hops = replicate 96 0; widths = replicate 96 limit; exploring = explore_start K r o k e z }

pub label_step : {N : Net} {p room : List ℕ} {s limit : ℕ} {T P K : List ℕ} {next passes : ℕ} {full want T' P' K' : List ℕ} {v next' : ℕ}
    → Sound N p → (q : Labelling N p room s limit T P K next passes) → ((i j : ℕ) → i < N.m → j < N.n → N.u i j ≤ 4000000000)
    → PlanTagged N room full want → v < 96 → Nearest p T q.exploring.marks v → get room v ≡ 0 → Relabelled N v (get T v) T P T' P'
    → Rekeyed N want v p T T' (set K v shut) K' → Next K' (get K v) 32 next' → Labelling N p room s limit T' P' K' next' (passes + 1)
label_step {v = v} so q ceilings tagged hv near none pass k named =
    let e = q.exploring.searching.long in
    let l = lift pass e.dists q.hops q.widths e.hopss e.widths (get q.hops v + 1) (get q.widths v) in
    record { hops = l.0; widths = l.1; exploring = explore_step so q.exploring ceilings tagged hv near none l.2 k named }
