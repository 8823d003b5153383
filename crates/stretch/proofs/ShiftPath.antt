-- The path of a stretch, from plant 1 to plant 2: it is found, drums can go along it, and the potentials are lowered by it. Assumes nothing.
use mathlib.Core.Path.{◌≡◌, refl, sym, ◌∙◌}
use mathlib.Core.List.{List}
use Prim.Native.Nat.{ℕ, ◌-◌, ◌≤◌, ◌<◌}
use native.Mathlib.Decide.{ℕ_discrete, dec_lt}
use native.Mathlib.Omega.{arith}
use lib.ListN.{length, set, replicate}
use Rattle.residual.specs.inner.Cells.{cells}
use Rattle.residual.specs.inner.Network.{Net, get}
use Rattle.residual.specs.inner.Labels.{Book, book, far, Low}
use Rattle.paths.specs.inner.Search.{Sound, Near, Label, Stuck, Searched, Labelled}
use Rattle.augment.specs.inner.Potentials.{LowerReady, Lowered}
use Rattle.augment.specs.inner.Send.{SendReady}
use Rattle.augment.specs.inner.PathWalk.{WalkReady}
use Rattle.treepath.specs.inner.Follow.{Followed}
use Rattle.stretch.specs.inner.Stretch.{ShiftReady, Reached, PathDone, PathAhead, PathTaken}
use Rattle.transport.proofs.Differences.{diff_same}
use Rattle.paths.proofs.SearchCut.{cut_greatest}
use Rattle.augment.proofs.Delivery.{lower_ready, stroll_ready, push_ready, mark_ready, pushed, delivered, after}
use Rattle.treepath.proofs.TreePath.{tree_path}
use Rattle.lastsplit.proofs.PlantShift.{Only, plant_slack_ready, plant_slack_over}
use Rattle.lastsplit.proofs.LastSplit.{only}
use Rattle.stretch.proofs.PathLanes.{lanes}
use Rattle.stretch.proofs.PathArcs.{even_path, route}

module _ {N : Net} {p room x : List ℕ} {limit : ℕ} {B : Book} {g : ℕ}
    (k : ShiftReady N p x limit) (o : Only room limit) (q : Searched N p room 0 limit B g) where
  ready : SendReady N p room 0 limit x
  ready = plant_slack_ready k.plant_slack o k.some

  sound : Sound N p
  sound = k.plant_slack.sound

  two : 2 ≤ N.m
  two = omega (arith, k.plant_slack.plants)

  -- there is a plan with more from plant 1, so the search has a path
  never : Stuck N room 0 B.dist → ⊥
  never w =
      let t = k.end in
      omega (
        arith,
        cut_greatest w t.plan t.under (λ j b l. omega (arith, t.at.demands j (omega arith) b)) two (λ i a b. sym (t.at.depots i a b)) refl
            (elim (dec_lt (get B.dist 1) far) [ yes l ↦ absurd (omega (arith, w.empty 1 (omega arith) l, o.one, k.some)) | no l ↦ omega arith ]),
        t.at.plant0,
        k.some,
      )

  found : g < 96
  found = elim (ℕ_discrete g 96) [ yes z ↦ absurd (never (q.stuck z)) | no z ↦ omega (arith, q.bound) ]

  goal : g ≡ 1
  goal = elim (ℕ_discrete g 1) [ yes z ↦ z | no z ↦ absurd (omega (arith, o.off g found z, (q.found found).has_room)) ]

  pub reached : Searched N p room 0 limit B 1
  reached = rw goal at q

  pub path_low : get p 1 ≤ get B.dist 1
  path_low = q.low 1 (omega arith)

  pub path_done : N.x ≡ cells x → {D d h : ℕ} → D ≡ get B.dist 1 - get p 1 → h ≡ get B.hops 1 → d ≡ get B.width 1
      → PathDone N p x limit B.dist B.prev h D d
  path_done e {D} {d} {h} eD eh ed = record {
    some = omega (arith, label.some);
    ends = omega (arith, path_low);
    starts = q.root_dist;
    ready = lower_ready ready reached one eD;
    able = push_ready ready reached one e eh (omega arith);
    route = route walk q.root_hops q.root_width eh ed;
    lanes = lanes walk q.root_hops h 1 one (reached.found one).goal (sym eh) (omega arith);
    trail = mark_ready ready reached one {d = d} e eh (omega arith);
    part = λ p' lo t l z v.
        let w = pushed ready reached one e eh (omega arith) v in
        record { flow = w.flow; slack = after ready reached one eD lo w; under = w.under; long = w.long };
    over = λ p' lo x' w.
        plant_slack_over k.plant_slack o one
        (delivered ready reached one eD lo (omega (arith, o.one, label.most)) (pushed ready reached one e eh (omega arith) w));
  }
    where
      one : 1 < 96
      one = omega arith

      walk : WalkReady N p 0 limit B 1 d x
      walk = stroll_ready ready reached one e (omega arith)

      label : Label N 0 (Near p B.dist 1) p 96 limit B 1
      label = (reached.found one).label 1 one (reached.found one).goal

-- a search that has room at plant 2 only finds plant 2
pub reached_by : {N : Net} {p x T P : List ℕ} {limit g : ℕ} → ShiftReady N p x limit → Labelled N p (set (replicate 96 0) 1 limit) 0 limit T P g
    → Reached N p limit T P
reached_by {limit = limit} k q = record { hops = q.hops; widths = q.widths; searched = reached k (only limit) q.searched }

pub search_found : {N : Net} {p x T P H W : List ℕ} {limit D d h : ℕ} → ShiftReady N p x limit
    → Searched N p (set (replicate 96 0) 1 limit) 0 limit (book T P H W) 1 → N.x ≡ cells x → D ≡ get T 1 - get p 1 → h ≡ get H 1 → d ≡ get W 1
    → PathAhead N p x limit T P h D d
search_found {limit = limit} k q e eD eh ed = record { ready = k; done = path_done k (only limit) q e eD eh ed; low = q.low }

pub search_lower : {N : Net} {p x T P H W : List ℕ} {limit : ℕ} → ShiftReady N p x limit
    → Searched N p (set (replicate 96 0) 1 limit) 0 limit (book T P H W) 1 → LowerReady (get T 1 - get p 1) T p
search_lower {limit = limit} k q = lower_ready (ready k (only limit) q) (reached k (only limit) q) (omega arith) refl

-- ---- the path of a tree: it has no reduced cost, and its distances are those of the potentials

module _ {N : Net} {p x T P : List ℕ} {limit count d : ℕ} (sound : Sound N p) (s : PathDone N p x limit T P count 0 d) (low : Low p T) where
  -- the potentials stay, by these labels as by the others
  lowered_too : {p' : List ℕ} → Lowered 0 p p 96 p' → Lowered 0 T p 96 p'
  lowered_too l = record { long = l.long; down = λ v h. omega (arith, l.down v h, low v h); rest = l.rest }

  even_done : PathDone N p x limit p P count 0 d
  even_done = record {
    some = s.some;
    route = record {
      path = s.route.path;
      arcs = s.route.arcs;
      nodes = (even_path N p T P sound.sources sound.terminals sound.slack low s.route.path 0 1 s.route.arcs s.route.nodes (omega (arith, s.ends))).1;
      drums = s.route.drums;
      cost = s.route.cost ∙ diff_same (get T 1) (get T 0) (get p 1) (get p 0) (omega (arith, s.ends, s.starts));
      amounts = s.route.amounts;
    };
    ends = omega arith;
    starts = refl;
    ready = record { long = s.ready.long; above = λ v h. omega arith };
    able = s.able;
    trail = s.trail;
    lanes = s.lanes;
    part = λ p' l. s.part p' (lowered_too l);
    over = λ p' l. s.over p' (lowered_too l);
  }

tree_found : {N : Net} {p x P : List ℕ} {limit count amount : ℕ} → ShiftReady N p x limit → N.x ≡ cells x
    → Followed N p limit P count amount → PathAhead N p x limit p P count 0 amount
tree_found {limit = limit} k e q =
    let t = tree_path k.plant_slack.sound k.plant_slack.plants k.some q (set (replicate 96 0) 1 limit) (omega (arith, (only limit).one, k.some)) in
    record {
      ready = k;
      done = even_done k.plant_slack.sound (path_done k (only limit) t.searched e (omega (arith, t.goal)) t.arcs t.drums) t.searched.low;
      low = λ v h. omega arith;
    }

-- ---- the potentials after it

pub search_taken : {N : Net} {p x : List ℕ} {limit : ℕ} {dist prev : List ℕ} {count gap d : ℕ} {p' : List ℕ}
    → PathAhead N p x limit dist prev count gap d → Lowered gap dist p 96 p' → length prev ≡ 96 → PathTaken N p' x limit prev count d
search_taken f l o = record { old = _; dist = _; gap = _; ahead = f; lowered = l; long = o }

-- the path of a tree has no reduced cost, and the potentials are as low as they are to be
pub tree_taken : {N : Net} {p x P : List ℕ} {limit count amount : ℕ} → ShiftReady N p x limit → N.x ≡ cells x → Followed N p limit P count amount
    → PathTaken N p x limit P count amount
tree_taken k e q =
    let f = tree_found k e q in
    search_taken f (record { long = f.done.ready.long; down = λ v o. omega (arith, f.low v o); rest = λ v o. refl }) q.long
