-- The network that the cells hold is the file's, and the answer to it the file's answer. Assumes nothing.
use mathlib.Core.Path.{◌≡◌, refl, sym, ap, ap₂, ◌∙◌, subst}
use mathlib.Core.Logic.{inl}
use mathlib.Core.Bool.{Bool, true, false, ◌||◌}
use mathlib.Core.List.{List, [], map}
use Prim.Native.Nat.{ℕ, suc, min, ◌-◌, ◌≤◌, ◌<◌}
use native.Mathlib.Decide.{dec_lt}
use native.Mathlib.Omega.{arith}
use lib.Dec.{ltb}
use lib.IntN.{ℤ, pos, sub_ℕ}
use lib.Signed.{lt_z}
use lib.ListN.{length, get_or, take, drop, replicate, length-map, length-replicate, get_or-replicate, get_or-map}
use lib.Seq.{ext_get_or, length-take-le, get_or-take}
use borrow.Author.Tests.{lt-ltb, ltb-false}
use Rattle.problem.specs.Range.{outside}
use Rattle.dimacs.specs.Arc.{Arc, arc}
use Rattle.dimacs.specs.Form.{ArcLine, NodeLine, File, whole, broken, form_of}
use Rattle.dimacs.specs.Lines.{supply_in, any_of, no_node, twice, bad_arc}
use Rattle.dimacs.specs.inner.Stored.{no_line, ArcsRead, NodesRead, FileRead, ReadAs, ReadIs}
use Rattle.dimacs.specs.declared.store.Reading.{Reading}
use Rattle.std.proofs.Common.{Result, Ok, Err}
use Rattle.refusal.specs.declared.Refusal.{Refusal}
use Rattle.refusal.specs.declared.Cause.TheVariants as causes
use Rattle.transport.specs.Curve.{written}
use Rattle.flow_problem.specs.Network.{Network, amount, cells}
use Rattle.flow_problem.specs.Answer.{CheapestFlow, arcs_of, network_of, any_below, too_short, bad_file, bad_name, out_of_limits, flows, least_total, Outcome, carried, refused, flow_outcome, limited, outcome_of}
use Rattle.flow_problem.specs.Promise as promise
use Rattle.flow_problem.specs.Promise.{Slices, room_of, Answered}
use Rattle.flow_case.specs.inner.Build.{Given}
use Rattle.flow_case.specs.inner.Slices.{net_of}
use Rattle.flow_network.specs.Answer.{count_of, arcs_said}
use Rattle.flow_network.specs.inner.Ready.{Arcs}
use Rattle.flow_network.specs.inner.Judged.{beyond, judged_net, Judged}
use Rattle.flow_problem.proofs.NodesAndSources.{cells_length, cells_at}
use Rattle.flow_problem.proofs.FlowListing.{or_both, none_of, or_regroup}
use Rattle.flow_problem.proofs.SoundNetwork.{Passes, passes}
use Rattle.flow_case.proofs.CaseParts.{starts_of, ends_of, ceilings_of, costs_of}
use Rattle.flow_case.proofs.NetworkSlices as slices
use Rattle.flow_network.proofs.CarryCase.{cells_ext}
use Rattle.flow_problem.proofs.Answers.{answer-29, answer-30, answer-limited}
use Rattle.problem.proofs.TestsPassed.{either_first, either_second}

-- ---- what the reader said

pub read_refused : {s : List ℕ} {r : Result Reading Refusal} {starts ends ceilings : List ℕ} {costs : List ℤ} {gives takes marks : List ℕ} {why : Refusal}
    → ReadIs s r starts ends ceilings costs gives takes marks → r ≡ Err why → (form_of s ≡ broken why.place) × (why.cause ≡ causes.Line)
read_refused {s} {r} {starts} {ends} {ceilings} {costs} {gives} {takes} {marks} {why} h e =
    let k = subst (λ (r : Result Reading Refusal). ReadAs s r starts ends ceilings costs gives takes marks) e h.reads in (k.0, k.2)

pub read_whole : {s : List ℕ} {r : Result Reading Refusal} {starts ends ceilings : List ℕ} {costs : List ℤ} {gives takes marks : List ℕ} {file : Reading}
    → ReadIs s r starts ends ceilings costs gives takes marks → r ≡ Ok file
    → (f : File) × (form_of s ≡ whole f) × FileRead f file.nodes file.arcs file.odd file.bad starts ends ceilings costs gives takes marks
read_whole {s} {r} {starts} {ends} {ceilings} {costs} {gives} {takes} {marks} {file} h e =
    subst (λ (r : Result Reading Refusal). ReadAs s r starts ends ceilings costs gives takes marks) e h.reads

-- ---- cells of zeros, before the first line

pub zero_arcs : ArcsRead 0 [] false (replicate 64 0) (replicate 64 0) (replicate 64 0) (replicate 64 (pos 0))
unfolding any_of
zero_arcs = record {
  flag = refl;
  start = λ j h. get_or-replicate {A = ℕ} 64 j 0 0 h;
  end = λ j h. get_or-replicate {A = ℕ} 64 j 0 0 h;
  ceiling = λ j h. get_or-replicate {A = ℕ} 64 j 0 0 h;
  cost = λ j h. get_or-replicate {A = ℤ} 64 j (pos 0) (pos 0) h;
  starts_long = length-replicate {A = ℕ} 64 0;
  ends_long = length-replicate {A = ℕ} 64 0;
  ceilings_long = length-replicate {A = ℕ} 64 0;
  costs_long = length-replicate {A = ℤ} 64 (pos 0);
}

pub zero_nodes : NodesRead 0 [] false (replicate 32 0) (replicate 32 0) (replicate 32 0)
unfolding any_of twice supply_in
zero_nodes = record {
  flag = refl;
  mark = λ i h. ap (ltb 0) (get_or-replicate {A = ℕ} 32 i 0 0 h);
  mark_one = λ i h. omega (arith, get_or-replicate {A = ℕ} 32 i 0 0 h);
  supply = λ i h. ap₂ (λ (a b : ℕ). sub_ℕ a b) (get_or-replicate {A = ℕ} 32 i 0 0 h) (get_or-replicate {A = ℕ} 32 i 0 0 h);
  one_way = λ i h. inl (get_or-replicate {A = ℕ} 32 i 0 0 h);
  small = λ i h. (omega (arith, get_or-replicate {A = ℕ} 32 i 0 0 h), omega (arith, get_or-replicate {A = ℕ} 32 i 0 0 h));
  gives_long = length-replicate {A = ℕ} 32 0;
  takes_long = length-replicate {A = ℕ} 32 0;
  marks_long = length-replicate {A = ℕ} 32 0;
}

-- ---- a refusal of the whole file

module _ (bytes : List ℕ) (place : ℕ) (table : List ℕ) (before : Slices) where
  refused_file : (k p : ℕ) → outcome_of bytes place table (room_of before) ≡ refused k p → Answered bytes place table (refused k p) before before
  refused_file k p e = record {
    answer = sym e;
    given = λ f t q z. absurd (let w : ◌≡◌ {A = ℕ} 0 1 = cc in omega arith);
    kept = λ k p z. refl;
  }

  pub answered_29 : (line : ℕ) → form_of bytes ≡ broken line → Answered bytes place table (refused 29 line) before before
  answered_29 line e = refused_file 29 line (answer-29 bytes place table (room_of before) line e)

-- ---- a file of the form

module _ (f : File) (nodes arcs : ℕ) (odd bad : Bool) (tails heads caps : List ℕ) (prices : List ℤ) (gives takes marks : List ℕ)
    (R : FileRead f nodes arcs odd bad tails heads caps prices gives takes marks) where
  abbrev none_named : Bool
  none_named = any_of (λ (v : NodeLine). no_node f.nodes v.id) f.supplies

  abbrev lines_wrong : Bool
  lines_wrong = ltb 32 f.nodes || (ltb 64 (length f.arcs) || (none_named || (twice f.supplies || any_of (bad_arc f.nodes) f.arcs)))

  flags_are : (ltb 32 nodes || (ltb 64 arcs || (odd || bad))) ≡ lines_wrong
  flags_are =
      ap₂ (λ (n a : ℕ). ltb 32 n || (ltb 64 a || (odd || bad))) R.nodes_are R.arcs_are
      ∙ elim (dec_lt 32 f.nodes) [
        | yes l ↦ ap (λ (b : Bool). b || (ltb 64 (length f.arcs) || (odd || bad))) (lt-ltb 32 f.nodes l)
            ∙ sym (ap (λ (b : Bool). b || (ltb 64 (length f.arcs) || (none_named || (twice f.supplies || any_of (bad_arc f.nodes) f.arcs)))) (lt-ltb 32 f.nodes l))
        | no l ↦
            ap₂ (λ (o b : Bool). ltb 32 f.nodes || (ltb 64 (length f.arcs) || (o || b)))
            (R.node_lines.flag ∙ ap (λ (k : ℕ). any_of (λ (v : NodeLine). no_node k v.id) f.supplies || twice f.supplies) (let e : min f.nodes 32 ≡ f.nodes = omega arith in e))
            R.arc_lines.flag
            ∙ ap (λ (b : Bool). ltb 32 f.nodes || (ltb 64 (length f.arcs) || b)) (or_regroup none_named (twice f.supplies) (any_of (bad_arc f.nodes) f.arcs))
      ]

  abbrev over : Bool
  over = any_below f.nodes (λ i. lt_z (pos 4000) (amount (network_of f) i))

  file_is : bad_file f ≡ (lines_wrong || over)
  unfolding bad_file
  file_is = regroup (ltb 32 f.nodes) (ltb 64 (length f.arcs)) none_named (twice f.supplies) (any_of (bad_arc f.nodes) f.arcs) over
    where
      regroup : (a b c d e o : Bool) → (a || (b || (c || (d || (e || o))))) ≡ ((a || (b || (c || (d || e)))) || o)
      regroup true b c d e o = refl
      regroup false true c d e o = refl
      regroup false false true d e o = refl
      regroup false false false true e o = refl
      regroup false false false false e o = refl

  module _ (bytes : List ℕ) (place : ℕ) (table : List ℕ) (before : Slices) (form : form_of bytes ≡ whole f) where
    pub answered_30 : true ≡ (ltb 32 nodes || (ltb 64 arcs || (odd || bad))) → Answered bytes place table (refused 30 0) before before
    unfolding out_of_limits
    answered_30 e =
        refused_file bytes place table before 30 0
        (answer-30 bytes place table (room_of before) f form
        (ap (λ (b : Bool). b || (bad_name (network_of f) place table || too_short (room_of before) (length f.arcs))) (file_is ∙ ap (λ (b : Bool). b || over) (sym flags_are ∙ sym e))))

  module _ (fine : false ≡ (ltb 32 nodes || (ltb 64 arcs || (odd || bad)))) where
    lines_fine : lines_wrong ≡ false
    lines_fine = sym flags_are ∙ sym fine

    pub few_nodes : nodes ≤ 32
    few_nodes = ltb-false 32 nodes (either_first (ltb 32 nodes) (ltb 64 arcs || (odd || bad)) (sym fine))

    pub few_arcs : arcs ≤ 64
    few_arcs = ltb-false 64 arcs (either_first (ltb 64 arcs) (odd || bad) (either_second (ltb 32 nodes) (ltb 64 arcs || (odd || bad)) (sym fine)))

    arcs_fine : any_of (bad_arc f.nodes) f.arcs ≡ false
    arcs_fine =
        either_second (twice f.supplies) (any_of (bad_arc f.nodes) f.arcs)
        (either_second none_named (twice f.supplies || any_of (bad_arc f.nodes) f.arcs)
        (either_second (ltb 64 (length f.arcs)) (none_named || (twice f.supplies || any_of (bad_arc f.nodes) f.arcs))
        (either_second (ltb 32 f.nodes) (ltb 64 (length f.arcs) || (none_named || (twice f.supplies || any_of (bad_arc f.nodes) f.arcs))) lines_fine)))

    -- the parts that are handed on
    part_long : {A : Type 0} (k : ℕ) (l : List A) → k ≤ length l → length (take (k - 0) (drop 0 l)) ≡ k
    part_long k l h = ap (λ (n : ℕ). length (take n l)) (let q : k - 0 ≡ k = omega arith in q) ∙ length-take-le k l h

    part_at : {A : Type 0} (d : A) (k : ℕ) (l : List A) (i : ℕ) → i < k → get_or (take (k - 0) (drop 0 l)) i d ≡ get_or l i d
    part_at d k l i h = ap (λ (n : ℕ). get_or (take n l) i d) (let q : k - 0 ≡ k = omega arith in q) ∙ get_or-take k l i d h

    abbrev G : List ℕ
    G = take (nodes - 0) (drop 0 gives)

    abbrev T : List ℕ
    T = take (nodes - 0) (drop 0 takes)

    abbrev S : List ℕ
    S = take (arcs - 0) (drop 0 tails)

    abbrev E : List ℕ
    E = take (arcs - 0) (drop 0 heads)

    abbrev C : List ℕ
    C = take (arcs - 0) (drop 0 caps)

    abbrev P : List ℤ
    P = take (arcs - 0) (drop 0 prices)

    long_g : length G ≡ nodes
    long_g = part_long nodes gives (omega (arith, few_nodes, R.node_lines.gives_long))

    long_t : length T ≡ nodes
    long_t = part_long nodes takes (omega (arith, few_nodes, R.node_lines.takes_long))

    long_s : length S ≡ arcs
    long_s = part_long arcs tails (omega (arith, few_arcs, R.arc_lines.starts_long))

    long_e : length E ≡ arcs
    long_e = part_long arcs heads (omega (arith, few_arcs, R.arc_lines.ends_long))

    long_c : length C ≡ arcs
    long_c = part_long arcs caps (omega (arith, few_arcs, R.arc_lines.ceilings_long))

    long_p : length P ≡ arcs
    long_p = part_long arcs prices (omega (arith, few_arcs, R.arc_lines.costs_long))

    start_at : (j : ℕ) → j < arcs → get_or S j 0 ≡ (get_or f.arcs j no_line).arc.start
    start_at j l = part_at 0 arcs tails j l ∙ R.arc_lines.start j (omega (arith, few_arcs))

    end_at : (j : ℕ) → j < arcs → get_or E j 0 ≡ (get_or f.arcs j no_line).arc.end
    end_at j l = part_at 0 arcs heads j l ∙ R.arc_lines.end j (omega (arith, few_arcs))

    ceiling_at : (j : ℕ) → j < arcs → get_or C j 0 ≡ (get_or f.arcs j no_line).arc.ceiling
    ceiling_at j l = part_at 0 arcs caps j l ∙ R.arc_lines.ceiling j (omega (arith, few_arcs))

    cost_at : (j : ℕ) → j < arcs → get_or P j (pos 0) ≡ (get_or f.arcs j no_line).arc.cost
    cost_at j l = part_at (pos 0) arcs prices j l ∙ R.arc_lines.cost j (omega (arith, few_arcs))

    -- the network is the file's
    net_is : net_of G T S E C P ≡ network_of f
    unfolding network_of
    net_is =
        ap₂ (λ (n : ℕ) (s : List ℤ). record { nodes = n; supplies = s; arcs = cells (length S) (λ j. arc (get_or S j 0) (get_or E j 0) (get_or C j 0) (get_or P j (pos 0))) })
        (long_g ∙ R.nodes_are)
        (ap (λ (n : ℕ). cells n (λ i. sub_ℕ (get_or G i 0) (get_or T i 0))) (long_g ∙ R.nodes_are)
        ∙ cells_ext f.nodes (λ i. sub_ℕ (get_or G i 0) (get_or T i 0)) (λ i. supply_in (suc i) f.supplies)
        (λ i l.
        let q : i < nodes = omega (arith, R.nodes_are) in
        ap₂ (λ (a b : ℕ). sub_ℕ a b) (part_at 0 nodes gives i q) (part_at 0 nodes takes i q) ∙ R.node_lines.supply i (omega (arith, few_nodes))))
        ∙ ap (λ (a : List Arc). record { nodes = f.nodes; supplies = cells f.nodes (λ i. supply_in (suc i) f.supplies); arcs = a })
        (ap (λ (n : ℕ). cells n (λ j. arc (get_or S j 0) (get_or E j 0) (get_or C j 0) (get_or P j (pos 0)))) (long_s ∙ R.arcs_are)
        ∙ ext_get_or (arc 0 0 0 (pos 0)) (cells (length f.arcs) (λ j. arc (get_or S j 0) (get_or E j 0) (get_or C j 0) (get_or P j (pos 0)))) (map (λ (v : ArcLine). v.arc) f.arcs)
        (cells_length (length f.arcs) (λ j. arc (get_or S j 0) (get_or E j 0) (get_or C j 0) (get_or P j (pos 0))) ∙ sym (length-map f.arcs (λ (v : ArcLine). v.arc)))
        (λ j l.
        let w : j < length f.arcs = omega (arith, cells_length (length f.arcs) (λ j. arc (get_or S j 0) (get_or E j 0) (get_or C j 0) (get_or P j (pos 0)))) in
        let q : j < arcs = omega (arith, R.arcs_are) in
        cells_at (length f.arcs) (λ j. arc (get_or S j 0) (get_or E j 0) (get_or C j 0) (get_or P j (pos 0))) (arc 0 0 0 (pos 0)) j w
        ∙ ap₂ (λ (a b : ℕ). arc a b (get_or C j 0) (get_or P j (pos 0))) (start_at j q) (end_at j q)
        ∙ ap₂ (λ (u : ℕ) (z : ℤ). arc (get_or f.arcs j no_line).arc.start (get_or f.arcs j no_line).arc.end u z) (ceiling_at j q) (cost_at j q)
        ∙ sym (get_or-map (λ (v : ArcLine). v.arc) f.arcs j no_line)))

    pass : (j : ℕ) → j < length S → Passes f.nodes (get_or f.arcs j no_line)
    pass j l = passes f.nodes (get_or f.arcs j no_line) (none_of (bad_arc f.nodes) f.arcs no_line arcs_fine j (omega (arith, l, long_s, R.arcs_are)))

    pub arcs_good : Arcs (length G) S E C P
    unfolding outside
    arcs_good =
        record {
          few = omega (arith, long_s, few_arcs);
          ends_long = long_e ∙ sym long_s;
          ceilings_long = long_c ∙ sym long_s;
          costs_long = long_p ∙ sym long_s;
          start_low = λ j l. omega (arith, start_at j (omega (arith, l, long_s)), (pass j l).start_low);
          start_high = λ j l. omega (arith, start_at j (omega (arith, l, long_s)), (pass j l).start_high, long_g, R.nodes_are);
          end_low = λ j l. omega (arith, end_at j (omega (arith, l, long_s)), (pass j l).end_low);
          end_high = λ j l. omega (arith, end_at j (omega (arith, l, long_s)), (pass j l).end_high, long_g, R.nodes_are);
          apart = λ j l e. (pass j l).apart (omega (arith, e, start_at j (omega (arith, l, long_s)), end_at j (omega (arith, l, long_s))));
          ceiling_most = λ j l. omega (arith, ceiling_at j (omega (arith, l, long_s)), (pass j l).ceiling);
          cost_inside = λ j l. ap outside (cost_at j (omega (arith, l, long_s))) ∙ or_both _ _ (pass j l).cost_low (pass j l).cost_high;
        }

    pub given_good : Given G T
    given_good = record {
      few = omega (arith, long_g, few_nodes);
      takes_long = long_t ∙ sym long_g;
      gives_small = λ k l. let q : k < nodes = omega (arith, l, long_g) in omega (arith, part_at 0 nodes gives k q, (R.node_lines.small k (omega (arith, few_nodes))).0);
      takes_small = λ k l. let q : k < nodes = omega (arith, l, long_t) in omega (arith, part_at 0 nodes takes k q, (R.node_lines.small k (omega (arith, few_nodes))).1);
    }

    -- the count that is told is the file's
    pub counted : (bytes : List ℕ) → form_of bytes ≡ whole f → (r : Outcome) (n : ℕ) → n ≡ count_of r (length S) → n ≡ count_of r (arcs_said (form_of bytes))
    counted bytes form r n e = e ∙ ap (count_of r) (long_s ∙ R.arcs_are ∙ sym (ap arcs_said form))

    starts_are : S ≡ map (λ (a : Arc). a.start) (arcs_of f)
    unfolding network_of
    starts_are = sym (slices.starts_are G T S E C P arcs_good.ends_long arcs_good.ceilings_long arcs_good.costs_long) ∙ ap starts_of net_is

    ends_are : E ≡ map (λ (a : Arc). a.end) (arcs_of f)
    unfolding network_of
    ends_are = sym (slices.ends_are G T S E C P arcs_good.ends_long arcs_good.ceilings_long arcs_good.costs_long) ∙ ap ends_of net_is

    ceilings_are : C ≡ map (λ (a : Arc). a.ceiling) (arcs_of f)
    unfolding network_of
    ceilings_are = sym (slices.ceilings_are G T S E C P arcs_good.ends_long arcs_good.ceilings_long arcs_good.costs_long) ∙ ap ceilings_of net_is

    costs_are : P ≡ map (λ (a : Arc). a.cost) (arcs_of f)
    unfolding network_of
    costs_are = sym (slices.costs_are G T S E C P arcs_good.ends_long arcs_good.ceilings_long arcs_good.costs_long) ∙ ap costs_of net_is

    module _ (bytes : List ℕ) (place : ℕ) (table : List ℕ) (form : form_of bytes ≡ whole f) (r : Outcome) (before after : Slices)
        (J : Judged (net_of G T S E C P) S E C P place table r before after) where
      limits_are : beyond (network_of f) place table (room_of before) ≡ out_of_limits f place table (room_of before)
      unfolding out_of_limits network_of
      limits_are =
          ap₂ (λ (b : Bool) (n : ℕ). b || (bad_name (network_of f) place table || too_short (room_of before) n))
          (sym (file_is ∙ ap (λ (b : Bool). b || over) lines_fine)) (length-map f.arcs (λ (v : ArcLine). v.arc))

      judged_limited : judged_net (network_of f) place table (room_of before) ≡ limited f place table (room_of before)
      unfolding judged_net limited
      judged_limited =
          ap (λ (b : Bool). elim b as (λ x. Outcome) [ true ↦ refused 30 0 | false ↦ flow_outcome (flows (network_of f)) (least_total (network_of f) (place - 1) table) ]) limits_are

      told : (total : ℤ) → r ≡ carried total → promise.Given f place table total before after
      told total e =
          let h = J.given total e in
          record {
            amounts = h.amounts;
            cheapest = subst (λ (g : Network). CheapestFlow g (place - 1) table h.amounts total) net_is h.cheapest;
            flow = h.flow;
            starts = h.starts ∙ ap (λ (l : List ℕ). written l before.starts) starts_are;
            ends = h.ends ∙ ap (λ (l : List ℕ). written l before.ends) ends_are;
            ceilings = h.ceilings ∙ ap (λ (l : List ℕ). written l before.ceilings) ceilings_are;
            costs = h.costs ∙ ap (λ (l : List ℤ). written l before.costs) costs_are;
          }

      pub answered : Answered bytes place table r before after
      answered = record {
        answer = J.answer ∙ ap (λ (g : Network). judged_net g place table (room_of before)) net_is ∙ judged_limited ∙ sym (answer-limited bytes place table (room_of before) f form);
        given = λ f' total q e. subst (λ (h : File). promise.Given h place table total before after) (let z : whole f ≡ whole f' = sym form ∙ q in (cc)) (told total e);
        kept = J.kept;
      }
