-- Examples of the definitions, as a table: a file with a named arc, a table and lent cells, and its answer. Assumes nothing.
use mathlib.Core.Path.{◌≡◌, refl}
use mathlib.Core.List.{List, [], ◌∷◌, map, flat_map}
use Prim.Native.Nat.{ℕ}
use lib.IntN.{pos, negsuc}
use Rattle.transport.specs.Sum.{sum}
use Rattle.transport.specs.Listing.{up_from, select, least}
use Rattle.problem.specs.Integer.{eq_z, minℤ, sumℤ, leastℤ}
use Rattle.dimacs.specs.Arc.{arc}
use Rattle.flow_problem.specs.Network.{Network, at, leaving, entering, own_cost, flow_total, amount, cells}
use Rattle.dimacs.specs.Bytes.{◌>>=◌, digits, counting, number, signed, spaces, gap, word, field, signed_field}
use Rattle.dimacs.specs.Form.{pieces, ending, problem_line, node_line, arc_of, line_of, step, at_end, last, run, form_of}
use Rattle.dimacs.specs.Lines.{supply_in, any_of, twice}
use Rattle.flow_problem.specs.Answer.{network_of, any_below, Room, bad_file, bad_name, out_of_limits, amount_lists, flows, least_total, named_flow, Outcome, carried, refused, limited, judged, outcome_of}

pub record Asked : Type 0 where
  pub bytes : List ℕ
  pub place : ℕ
  pub table : List ℕ
  pub room : Room
  pub outcome : Outcome

asked : List ℕ → ℕ → List ℕ → Room → Outcome → Asked
asked b p t r o = record { bytes = b; place = p; table = t; room = r; outcome = o }

lent : ℕ → ℕ → ℕ → ℕ → ℕ → Room
lent f s e u c = record { flow = f; starts = s; ends = e; ceilings = u; costs = c }

pub answers : List Asked
unfolding asked lent
answers =
    -- the named arc alone: its own cost does not count: p min 2 1 LF n 1 2 LF n 2 -2 LF a 1 2 0 3 5 LF
    asked (112 ∷ 32 ∷ 109 ∷ 105 ∷ 110 ∷ 32 ∷ 50 ∷ 32 ∷ 49 ∷ 10 ∷ 110 ∷ 32 ∷ 49 ∷ 32 ∷ 50 ∷ 10 ∷ 110 ∷ 32 ∷ 50 ∷ 32 ∷ 45 ∷ 50 ∷ 10 ∷ 97 ∷ 32 ∷ 49 ∷ 32 ∷ 50 ∷ 32 ∷ 48 ∷ 32 ∷ 51 ∷ 32 ∷ 53 ∷ 10 ∷ [])
    1 (9 ∷ 9 ∷ 7 ∷ 1 ∷ []) (lent 9 9 9 9 9) (carried (pos 7))
    ∷
    -- the direct arc is named: nothing on it: p min 3 4 LF n 1 2 LF n 3 -2 LF a 1 2 0 2 3 LF a 2 3 0 2 1 LF a 1 3 0 2 6 LF a 3 2 0 1 -2 LF
    asked (112 ∷ 32 ∷ 109 ∷ 105 ∷ 110 ∷ 32 ∷ 51 ∷ 32 ∷ 52 ∷ 10 ∷ 110 ∷ 32 ∷ 49 ∷ 32 ∷ 50 ∷ 10 ∷ 110 ∷ 32 ∷ 51 ∷ 32 ∷ 45 ∷ 50 ∷ 10 ∷ 97 ∷ 32 ∷ 49 ∷
    32 ∷ 50 ∷ 32 ∷ 48 ∷ 32 ∷ 50 ∷ 32 ∷ 51 ∷ 10 ∷ 97 ∷ 32 ∷ 50 ∷ 32 ∷ 51 ∷ 32 ∷ 48 ∷ 32 ∷ 50 ∷ 32 ∷ 49 ∷ 10 ∷ 97 ∷ 32 ∷ 49 ∷ 32 ∷ 51 ∷ 32 ∷ 48 ∷ 32 ∷ 50 ∷
    32 ∷ 54 ∷ 10 ∷ 97 ∷ 32 ∷ 51 ∷ 32 ∷ 50 ∷ 32 ∷ 48 ∷ 32 ∷ 49 ∷ 32 ∷ 45 ∷ 50 ∷ 10 ∷ [])
    3 (0 ∷ 9 ∷ 20 ∷ []) (lent 9 9 9 9 9) (carried (pos 8))
    ∷
    -- one on it: p min 3 4 LF n 1 2 LF n 3 -2 LF a 1 2 0 2 3 LF a 2 3 0 2 1 LF a 1 3 0 2 6 LF a 3 2 0 1 -2 LF
    asked (112 ∷ 32 ∷ 109 ∷ 105 ∷ 110 ∷ 32 ∷ 51 ∷ 32 ∷ 52 ∷ 10 ∷ 110 ∷ 32 ∷ 49 ∷ 32 ∷ 50 ∷ 10 ∷ 110 ∷ 32 ∷ 51 ∷ 32 ∷ 45 ∷ 50 ∷ 10 ∷ 97 ∷ 32 ∷ 49 ∷
    32 ∷ 50 ∷ 32 ∷ 48 ∷ 32 ∷ 50 ∷ 32 ∷ 51 ∷ 10 ∷ 97 ∷ 32 ∷ 50 ∷ 32 ∷ 51 ∷ 32 ∷ 48 ∷ 32 ∷ 50 ∷ 32 ∷ 49 ∷ 10 ∷ 97 ∷ 32 ∷ 49 ∷ 32 ∷ 51 ∷ 32 ∷ 48 ∷ 32 ∷ 50 ∷
    32 ∷ 54 ∷ 10 ∷ 97 ∷ 32 ∷ 51 ∷ 32 ∷ 50 ∷ 32 ∷ 48 ∷ 32 ∷ 49 ∷ 32 ∷ 45 ∷ 50 ∷ 10 ∷ [])
    3 (8 ∷ 1 ∷ 1 ∷ []) (lent 9 9 9 9 9) (carried (pos 0))
    ∷
    -- equal totals: p min 3 4 LF n 1 2 LF n 3 -2 LF a 1 2 0 2 3 LF a 2 3 0 2 1 LF a 1 3 0 2 6 LF a 3 2 0 1 -2 LF
    asked (112 ∷ 32 ∷ 109 ∷ 105 ∷ 110 ∷ 32 ∷ 51 ∷ 32 ∷ 52 ∷ 10 ∷ 110 ∷ 32 ∷ 49 ∷ 32 ∷ 50 ∷ 10 ∷ 110 ∷ 32 ∷ 51 ∷ 32 ∷ 45 ∷ 50 ∷ 10 ∷ 97 ∷ 32 ∷ 49 ∷
    32 ∷ 50 ∷ 32 ∷ 48 ∷ 32 ∷ 50 ∷ 32 ∷ 51 ∷ 10 ∷ 97 ∷ 32 ∷ 50 ∷ 32 ∷ 51 ∷ 32 ∷ 48 ∷ 32 ∷ 50 ∷ 32 ∷ 49 ∷ 10 ∷ 97 ∷ 32 ∷ 49 ∷ 32 ∷ 51 ∷ 32 ∷ 48 ∷ 32 ∷ 50 ∷
    32 ∷ 54 ∷ 10 ∷ 97 ∷ 32 ∷ 51 ∷ 32 ∷ 50 ∷ 32 ∷ 48 ∷ 32 ∷ 49 ∷ 32 ∷ 45 ∷ 50 ∷ 10 ∷ [])
    3 (8 ∷ 4 ∷ 0 ∷ []) (lent 9 9 9 9 9) (carried (negsuc 0))
    ∷
    -- the first arc is named: p min 3 4 LF n 1 2 LF n 3 -2 LF a 1 2 0 2 3 LF a 2 3 0 2 1 LF a 1 3 0 2 6 LF a 3 2 0 1 -2 LF
    asked (112 ∷ 32 ∷ 109 ∷ 105 ∷ 110 ∷ 32 ∷ 51 ∷ 32 ∷ 52 ∷ 10 ∷ 110 ∷ 32 ∷ 49 ∷ 32 ∷ 50 ∷ 10 ∷ 110 ∷ 32 ∷ 51 ∷ 32 ∷ 45 ∷ 50 ∷ 10 ∷ 97 ∷ 32 ∷ 49 ∷
    32 ∷ 50 ∷ 32 ∷ 48 ∷ 32 ∷ 50 ∷ 32 ∷ 51 ∷ 10 ∷ 97 ∷ 32 ∷ 50 ∷ 32 ∷ 51 ∷ 32 ∷ 48 ∷ 32 ∷ 50 ∷ 32 ∷ 49 ∷ 10 ∷ 97 ∷ 32 ∷ 49 ∷ 32 ∷ 51 ∷ 32 ∷ 48 ∷ 32 ∷ 50 ∷
    32 ∷ 54 ∷ 10 ∷ 97 ∷ 32 ∷ 51 ∷ 32 ∷ 50 ∷ 32 ∷ 48 ∷ 32 ∷ 49 ∷ 32 ∷ 45 ∷ 50 ∷ 10 ∷ [])
    1 (0 ∷ 0 ∷ 0 ∷ []) (lent 9 9 9 9 9) (carried (pos 2))
    ∷
    -- the second arc is named: p min 3 4 LF n 1 2 LF n 3 -2 LF a 1 2 0 2 3 LF a 2 3 0 2 1 LF a 1 3 0 2 6 LF a 3 2 0 1 -2 LF
    asked (112 ∷ 32 ∷ 109 ∷ 105 ∷ 110 ∷ 32 ∷ 51 ∷ 32 ∷ 52 ∷ 10 ∷ 110 ∷ 32 ∷ 49 ∷ 32 ∷ 50 ∷ 10 ∷ 110 ∷ 32 ∷ 51 ∷ 32 ∷ 45 ∷ 50 ∷ 10 ∷ 97 ∷ 32 ∷ 49 ∷
    32 ∷ 50 ∷ 32 ∷ 48 ∷ 32 ∷ 50 ∷ 32 ∷ 51 ∷ 10 ∷ 97 ∷ 32 ∷ 50 ∷ 32 ∷ 51 ∷ 32 ∷ 48 ∷ 32 ∷ 50 ∷ 32 ∷ 49 ∷ 10 ∷ 97 ∷ 32 ∷ 49 ∷ 32 ∷ 51 ∷ 32 ∷ 48 ∷ 32 ∷ 50 ∷
    32 ∷ 54 ∷ 10 ∷ 97 ∷ 32 ∷ 51 ∷ 32 ∷ 50 ∷ 32 ∷ 48 ∷ 32 ∷ 49 ∷ 32 ∷ 45 ∷ 50 ∷ 10 ∷ [])
    2 (7 ∷ 2 ∷ 9 ∷ []) (lent 9 9 9 9 9) (carried (pos 11))
    ∷
    -- a round, with a cost below 0: p min 2 2 LF a 1 2 0 2 -5 LF a 2 1 0 2 1 LF
    asked (112 ∷ 32 ∷ 109 ∷ 105 ∷ 110 ∷ 32 ∷ 50 ∷ 32 ∷ 50 ∷ 10 ∷ 97 ∷ 32 ∷ 49 ∷ 32 ∷ 50 ∷ 32 ∷ 48 ∷ 32 ∷ 50 ∷ 32 ∷ 45 ∷ 53 ∷ 10 ∷ 97 ∷ 32 ∷ 50 ∷ 32 ∷ 49 ∷ 32 ∷ 48 ∷ 32 ∷ 50 ∷ 32 ∷ 49 ∷ 10 ∷ [])
    2 (0 ∷ 1 ∷ 0 ∷ []) (lent 9 9 9 9 9) (carried (negsuc 9))
    ∷
    -- two arcs between the same nodes: p min 2 2 LF n 1 1 LF n 2 -1 LF a 1 2 0 1 5 LF a 1 2 0 1 4 LF
    asked (112 ∷ 32 ∷ 109 ∷ 105 ∷ 110 ∷ 32 ∷ 50 ∷ 32 ∷ 50 ∷ 10 ∷ 110 ∷ 32 ∷ 49 ∷ 32 ∷ 49 ∷ 10 ∷ 110 ∷ 32 ∷ 50 ∷ 32 ∷ 45 ∷ 49 ∷ 10 ∷ 97 ∷ 32 ∷ 49 ∷
    32 ∷ 50 ∷ 32 ∷ 48 ∷ 32 ∷ 49 ∷ 32 ∷ 53 ∷ 10 ∷ 97 ∷ 32 ∷ 49 ∷ 32 ∷ 50 ∷ 32 ∷ 48 ∷ 32 ∷ 49 ∷ 32 ∷ 52 ∷ 10 ∷ [])
    1 (9 ∷ 2 ∷ []) (lent 9 9 9 9 9) (carried (pos 2))
    ∷
    -- nodes without an arc, nothing flows: p min 4 1 LF a 1 2 0 1 5 LF
    asked (112 ∷ 32 ∷ 109 ∷ 105 ∷ 110 ∷ 32 ∷ 52 ∷ 32 ∷ 49 ∷ 10 ∷ 97 ∷ 32 ∷ 49 ∷ 32 ∷ 50 ∷ 32 ∷ 48 ∷ 32 ∷ 49 ∷ 32 ∷ 53 ∷ 10 ∷ []) 1 (3 ∷ 1 ∷ []) (lent 9 9 9 9 9) (carried (pos 3))
    ∷
    -- 27: supplies that do not sum to 0: p min 2 1 LF n 1 2 LF n 2 -1 LF a 1 2 0 3 5 LF
    asked (112 ∷ 32 ∷ 109 ∷ 105 ∷ 110 ∷ 32 ∷ 50 ∷ 32 ∷ 49 ∷ 10 ∷ 110 ∷ 32 ∷ 49 ∷ 32 ∷ 50 ∷ 10 ∷ 110 ∷ 32 ∷ 50 ∷ 32 ∷ 45 ∷ 49 ∷ 10 ∷ 97 ∷ 32 ∷ 49 ∷ 32 ∷ 50 ∷ 32 ∷ 48 ∷ 32 ∷ 51 ∷ 32 ∷ 53 ∷ 10 ∷ [])
    1 (9 ∷ 9 ∷ 7 ∷ 1 ∷ []) (lent 9 9 9 9 9) (refused 27 0)
    ∷
    -- 27: an amount below 0: p min 2 1 LF n 1 -2 LF n 2 2 LF a 1 2 0 3 5 LF
    asked (112 ∷ 32 ∷ 109 ∷ 105 ∷ 110 ∷ 32 ∷ 50 ∷ 32 ∷ 49 ∷ 10 ∷ 110 ∷ 32 ∷ 49 ∷ 32 ∷ 45 ∷ 50 ∷ 10 ∷ 110 ∷ 32 ∷ 50 ∷ 32 ∷ 50 ∷ 10 ∷ 97 ∷ 32 ∷ 49 ∷ 32 ∷ 50 ∷ 32 ∷ 48 ∷ 32 ∷ 51 ∷ 32 ∷ 53 ∷ 10 ∷ [])
    1 (9 ∷ 9 ∷ 7 ∷ 1 ∷ []) (lent 9 9 9 9 9) (refused 27 0)
    ∷
    -- 27: no flow: p min 3 2 LF n 1 1 LF n 3 -1 LF a 2 1 0 1 5 LF a 2 3 0 1 5 LF
    asked (112 ∷ 32 ∷ 109 ∷ 105 ∷ 110 ∷ 32 ∷ 51 ∷ 32 ∷ 50 ∷ 10 ∷ 110 ∷ 32 ∷ 49 ∷ 32 ∷ 49 ∷ 10 ∷ 110 ∷ 32 ∷ 51 ∷ 32 ∷ 45 ∷ 49 ∷ 10 ∷ 97 ∷ 32 ∷ 50 ∷
    32 ∷ 49 ∷ 32 ∷ 48 ∷ 32 ∷ 49 ∷ 32 ∷ 53 ∷ 10 ∷ 97 ∷ 32 ∷ 50 ∷ 32 ∷ 51 ∷ 32 ∷ 48 ∷ 32 ∷ 49 ∷ 32 ∷ 53 ∷ 10 ∷ [])
    1 (1 ∷ 1 ∷ []) (lent 9 9 9 9 9) (refused 27 0)
    ∷
    -- 27: more than the ceiling: p min 2 1 LF n 1 4 LF n 2 -4 LF a 1 2 0 3 5 LF
    asked (112 ∷ 32 ∷ 109 ∷ 105 ∷ 110 ∷ 32 ∷ 50 ∷ 32 ∷ 49 ∷ 10 ∷ 110 ∷ 32 ∷ 49 ∷ 32 ∷ 52 ∷ 10 ∷ 110 ∷ 32 ∷ 50 ∷ 32 ∷ 45 ∷ 52 ∷ 10 ∷ 97 ∷ 32 ∷ 49 ∷ 32 ∷ 50 ∷ 32 ∷ 48 ∷ 32 ∷ 51 ∷ 32 ∷ 53 ∷ 10 ∷ [])
    1 (9 ∷ 9 ∷ 7 ∷ 1 ∷ []) (lent 9 9 9 9 9) (refused 27 0)
    ∷
    -- 30: place 0: p min 2 1 LF n 1 2 LF n 2 -2 LF a 1 2 0 3 5 LF
    asked (112 ∷ 32 ∷ 109 ∷ 105 ∷ 110 ∷ 32 ∷ 50 ∷ 32 ∷ 49 ∷ 10 ∷ 110 ∷ 32 ∷ 49 ∷ 32 ∷ 50 ∷ 10 ∷ 110 ∷ 32 ∷ 50 ∷ 32 ∷ 45 ∷ 50 ∷ 10 ∷ 97 ∷ 32 ∷ 49 ∷ 32 ∷ 50 ∷ 32 ∷ 48 ∷ 32 ∷ 51 ∷ 32 ∷ 53 ∷ 10 ∷ [])
    0 (9 ∷ 9 ∷ 7 ∷ 1 ∷ []) (lent 9 9 9 9 9) (refused 30 0)
    ∷
    -- 30: place 2 of one arc: p min 2 1 LF n 1 2 LF n 2 -2 LF a 1 2 0 3 5 LF
    asked (112 ∷ 32 ∷ 109 ∷ 105 ∷ 110 ∷ 32 ∷ 50 ∷ 32 ∷ 49 ∷ 10 ∷ 110 ∷ 32 ∷ 49 ∷ 32 ∷ 50 ∷ 10 ∷ 110 ∷ 32 ∷ 50 ∷ 32 ∷ 45 ∷ 50 ∷ 10 ∷ 97 ∷ 32 ∷ 49 ∷ 32 ∷ 50 ∷ 32 ∷ 48 ∷ 32 ∷ 51 ∷ 32 ∷ 53 ∷ 10 ∷ [])
    2 (9 ∷ 9 ∷ 7 ∷ 1 ∷ []) (lent 9 9 9 9 9) (refused 30 0)
    ∷
    -- 30: an entry too few: p min 2 1 LF n 1 2 LF n 2 -2 LF a 1 2 0 3 5 LF
    asked (112 ∷ 32 ∷ 109 ∷ 105 ∷ 110 ∷ 32 ∷ 50 ∷ 32 ∷ 49 ∷ 10 ∷ 110 ∷ 32 ∷ 49 ∷ 32 ∷ 50 ∷ 10 ∷ 110 ∷ 32 ∷ 50 ∷ 32 ∷ 45 ∷ 50 ∷ 10 ∷ 97 ∷ 32 ∷ 49 ∷ 32 ∷ 50 ∷ 32 ∷ 48 ∷ 32 ∷ 51 ∷ 32 ∷ 53 ∷ 10 ∷ [])
    1 (9 ∷ 9 ∷ 7 ∷ []) (lent 9 9 9 9 9) (refused 30 0)
    ∷
    -- 30: an entry too many: p min 2 1 LF n 1 2 LF n 2 -2 LF a 1 2 0 3 5 LF
    asked (112 ∷ 32 ∷ 109 ∷ 105 ∷ 110 ∷ 32 ∷ 50 ∷ 32 ∷ 49 ∷ 10 ∷ 110 ∷ 32 ∷ 49 ∷ 32 ∷ 50 ∷ 10 ∷ 110 ∷ 32 ∷ 50 ∷ 32 ∷ 45 ∷ 50 ∷ 10 ∷ 97 ∷ 32 ∷ 49 ∷ 32 ∷ 50 ∷ 32 ∷ 48 ∷ 32 ∷ 51 ∷ 32 ∷ 53 ∷ 10 ∷ [])
    1 (9 ∷ 9 ∷ 7 ∷ 1 ∷ 1 ∷ []) (lent 9 9 9 9 9) (refused 30 0)
    ∷
    -- 30: an entry above 1,000,000,000, at a flow that is never met: p min 2 1 LF n 1 2 LF n 2 -2 LF a 1 2 0 3 5 LF
    asked (112 ∷ 32 ∷ 109 ∷ 105 ∷ 110 ∷ 32 ∷ 50 ∷ 32 ∷ 49 ∷ 10 ∷ 110 ∷ 32 ∷ 49 ∷ 32 ∷ 50 ∷ 10 ∷ 110 ∷ 32 ∷ 50 ∷ 32 ∷ 45 ∷ 50 ∷ 10 ∷ 97 ∷ 32 ∷ 49 ∷ 32 ∷ 50 ∷ 32 ∷ 48 ∷ 32 ∷ 51 ∷ 32 ∷ 53 ∷ 10 ∷ [])
    1 (1000000001 ∷ 9 ∷ 7 ∷ 1 ∷ []) (lent 9 9 9 9 9) (refused 30 0)
    ∷
    -- 1,000,000,000 is an entry: p min 2 1 LF n 1 2 LF n 2 -2 LF a 1 2 0 3 5 LF
    asked (112 ∷ 32 ∷ 109 ∷ 105 ∷ 110 ∷ 32 ∷ 50 ∷ 32 ∷ 49 ∷ 10 ∷ 110 ∷ 32 ∷ 49 ∷ 32 ∷ 50 ∷ 10 ∷ 110 ∷ 32 ∷ 50 ∷ 32 ∷ 45 ∷ 50 ∷ 10 ∷ 97 ∷ 32 ∷ 49 ∷ 32 ∷ 50 ∷ 32 ∷ 48 ∷ 32 ∷ 51 ∷ 32 ∷ 53 ∷ 10 ∷ [])
    1 (1000000000 ∷ 9 ∷ 7 ∷ 1 ∷ []) (lent 9 9 9 9 9) (carried (pos 7))
    ∷
    -- 30: no room for the flow: p min 2 1 LF n 1 2 LF n 2 -2 LF a 1 2 0 3 5 LF
    asked (112 ∷ 32 ∷ 109 ∷ 105 ∷ 110 ∷ 32 ∷ 50 ∷ 32 ∷ 49 ∷ 10 ∷ 110 ∷ 32 ∷ 49 ∷ 32 ∷ 50 ∷ 10 ∷ 110 ∷ 32 ∷ 50 ∷ 32 ∷ 45 ∷ 50 ∷ 10 ∷ 97 ∷ 32 ∷ 49 ∷ 32 ∷ 50 ∷ 32 ∷ 48 ∷ 32 ∷ 51 ∷ 32 ∷ 53 ∷ 10 ∷ [])
    1 (9 ∷ 9 ∷ 7 ∷ 1 ∷ []) (lent 0 9 9 9 9) (refused 30 0)
    ∷
    -- room for one arc: p min 2 1 LF n 1 2 LF n 2 -2 LF a 1 2 0 3 5 LF
    asked (112 ∷ 32 ∷ 109 ∷ 105 ∷ 110 ∷ 32 ∷ 50 ∷ 32 ∷ 49 ∷ 10 ∷ 110 ∷ 32 ∷ 49 ∷ 32 ∷ 50 ∷ 10 ∷ 110 ∷ 32 ∷ 50 ∷ 32 ∷ 45 ∷ 50 ∷ 10 ∷ 97 ∷ 32 ∷ 49 ∷ 32 ∷ 50 ∷ 32 ∷ 48 ∷ 32 ∷ 51 ∷ 32 ∷ 53 ∷ 10 ∷ [])
    1 (9 ∷ 9 ∷ 7 ∷ 1 ∷ []) (lent 1 1 1 1 1) (carried (pos 7))
    ∷
    -- 30: no room for the costs: p min 2 1 LF n 1 2 LF n 2 -2 LF a 1 2 0 3 5 LF
    asked (112 ∷ 32 ∷ 109 ∷ 105 ∷ 110 ∷ 32 ∷ 50 ∷ 32 ∷ 49 ∷ 10 ∷ 110 ∷ 32 ∷ 49 ∷ 32 ∷ 50 ∷ 10 ∷ 110 ∷ 32 ∷ 50 ∷ 32 ∷ 45 ∷ 50 ∷ 10 ∷ 97 ∷ 32 ∷ 49 ∷ 32 ∷ 50 ∷ 32 ∷ 48 ∷ 32 ∷ 51 ∷ 32 ∷ 53 ∷ 10 ∷ [])
    1 (9 ∷ 9 ∷ 7 ∷ 1 ∷ []) (lent 9 9 9 9 0) (refused 30 0)
    ∷
    -- 30: 33 nodes: p min 33 1 LF a 1 2 0 0 5 LF
    asked (112 ∷ 32 ∷ 109 ∷ 105 ∷ 110 ∷ 32 ∷ 51 ∷ 51 ∷ 32 ∷ 49 ∷ 10 ∷ 97 ∷ 32 ∷ 49 ∷ 32 ∷ 50 ∷ 32 ∷ 48 ∷ 32 ∷ 48 ∷ 32 ∷ 53 ∷ 10 ∷ []) 1 (1 ∷ []) (lent 9 9 9 9 9) (refused 30 0)
    ∷
    -- 32 nodes: p min 32 1 LF a 1 32 0 0 5 LF
    asked (112 ∷ 32 ∷ 109 ∷ 105 ∷ 110 ∷ 32 ∷ 51 ∷ 50 ∷ 32 ∷ 49 ∷ 10 ∷ 97 ∷ 32 ∷ 49 ∷ 32 ∷ 51 ∷ 50 ∷ 32 ∷ 48 ∷ 32 ∷ 48 ∷ 32 ∷ 53 ∷ 10 ∷ []) 1 (1 ∷ []) (lent 9 9 9 9 9) (carried (pos 1))
    ∷
    -- 30: a node that is none: p min 2 1 LF a 1 3 0 1 5 LF
    asked (112 ∷ 32 ∷ 109 ∷ 105 ∷ 110 ∷ 32 ∷ 50 ∷ 32 ∷ 49 ∷ 10 ∷ 97 ∷ 32 ∷ 49 ∷ 32 ∷ 51 ∷ 32 ∷ 48 ∷ 32 ∷ 49 ∷ 32 ∷ 53 ∷ 10 ∷ []) 1 (1 ∷ 1 ∷ []) (lent 9 9 9 9 9) (refused 30 0)
    ∷
    -- 30: node 0: p min 2 1 LF a 0 2 0 1 5 LF
    asked (112 ∷ 32 ∷ 109 ∷ 105 ∷ 110 ∷ 32 ∷ 50 ∷ 32 ∷ 49 ∷ 10 ∷ 97 ∷ 32 ∷ 48 ∷ 32 ∷ 50 ∷ 32 ∷ 48 ∷ 32 ∷ 49 ∷ 32 ∷ 53 ∷ 10 ∷ []) 1 (1 ∷ 1 ∷ []) (lent 9 9 9 9 9) (refused 30 0)
    ∷
    -- 30: an arc from a node to itself: p min 2 1 LF a 2 2 0 1 5 LF
    asked (112 ∷ 32 ∷ 109 ∷ 105 ∷ 110 ∷ 32 ∷ 50 ∷ 32 ∷ 49 ∷ 10 ∷ 97 ∷ 32 ∷ 50 ∷ 32 ∷ 50 ∷ 32 ∷ 48 ∷ 32 ∷ 49 ∷ 32 ∷ 53 ∷ 10 ∷ []) 1 (1 ∷ 1 ∷ []) (lent 9 9 9 9 9) (refused 30 0)
    ∷
    -- 30: a supply for a node that is none: p min 2 1 LF n 3 0 LF a 1 2 0 1 5 LF
    asked (112 ∷ 32 ∷ 109 ∷ 105 ∷ 110 ∷ 32 ∷ 50 ∷ 32 ∷ 49 ∷ 10 ∷ 110 ∷ 32 ∷ 51 ∷ 32 ∷ 48 ∷ 10 ∷ 97 ∷ 32 ∷ 49 ∷ 32 ∷ 50 ∷ 32 ∷ 48 ∷ 32 ∷ 49 ∷ 32 ∷ 53 ∷ 10 ∷ [])
    1 (1 ∷ 1 ∷ []) (lent 9 9 9 9 9) (refused 30 0)
    ∷
    -- 30: two n lines for one node: p min 2 1 LF n 1 0 LF n 1 0 LF a 1 2 0 1 5 LF
    asked (112 ∷ 32 ∷ 109 ∷ 105 ∷ 110 ∷ 32 ∷ 50 ∷ 32 ∷ 49 ∷ 10 ∷ 110 ∷ 32 ∷ 49 ∷ 32 ∷ 48 ∷ 10 ∷ 110 ∷ 32 ∷ 49 ∷ 32 ∷ 48 ∷ 10 ∷ 97 ∷ 32 ∷ 49 ∷ 32 ∷ 50 ∷ 32 ∷ 48 ∷ 32 ∷ 49 ∷ 32 ∷ 53 ∷ 10 ∷ [])
    1 (1 ∷ 1 ∷ []) (lent 9 9 9 9 9) (refused 30 0)
    ∷
    -- 30: a lower bound of 1: p min 2 1 LF a 1 2 1 1 5 LF
    asked (112 ∷ 32 ∷ 109 ∷ 105 ∷ 110 ∷ 32 ∷ 50 ∷ 32 ∷ 49 ∷ 10 ∷ 97 ∷ 32 ∷ 49 ∷ 32 ∷ 50 ∷ 32 ∷ 49 ∷ 32 ∷ 49 ∷ 32 ∷ 53 ∷ 10 ∷ []) 1 (1 ∷ 1 ∷ []) (lent 9 9 9 9 9) (refused 30 0)
    ∷
    -- 30: a ceiling of 4,001: p min 2 1 LF a 1 2 0 4001 5 LF
    asked (112 ∷ 32 ∷ 109 ∷ 105 ∷ 110 ∷ 32 ∷ 50 ∷ 32 ∷ 49 ∷ 10 ∷ 97 ∷ 32 ∷ 49 ∷ 32 ∷ 50 ∷ 32 ∷ 48 ∷ 32 ∷ 52 ∷ 48 ∷ 48 ∷ 49 ∷ 32 ∷ 53 ∷ 10 ∷ []) 1 (1 ∷ 1 ∷ []) (lent 9 9 9 9 9) (refused 30 0)
    ∷
    -- 30: a cost above the range, of the named arc too: p min 2 1 LF a 1 2 0 1 1000001 LF
    asked (112 ∷ 32 ∷ 109 ∷ 105 ∷ 110 ∷ 32 ∷ 50 ∷ 32 ∷ 49 ∷ 10 ∷ 97 ∷ 32 ∷ 49 ∷ 32 ∷ 50 ∷ 32 ∷ 48 ∷ 32 ∷ 49 ∷ 32 ∷ 49 ∷ 48 ∷ 48 ∷ 48 ∷ 48 ∷ 48 ∷ 49 ∷ 10 ∷ [])
    1 (1 ∷ 1 ∷ []) (lent 9 9 9 9 9) (refused 30 0)
    ∷
    -- 30: a cost below the range: p min 2 1 LF a 1 2 0 1 -1000001 LF
    asked (112 ∷ 32 ∷ 109 ∷ 105 ∷ 110 ∷ 32 ∷ 50 ∷ 32 ∷ 49 ∷ 10 ∷ 97 ∷ 32 ∷ 49 ∷ 32 ∷ 50 ∷ 32 ∷ 48 ∷ 32 ∷ 49 ∷ 32 ∷ 45 ∷ 49 ∷ 48 ∷ 48 ∷ 48 ∷ 48 ∷ 48 ∷ 49 ∷ 10 ∷ [])
    1 (1 ∷ 1 ∷ []) (lent 9 9 9 9 9) (refused 30 0)
    ∷
    -- the least cost: p min 2 1 LF a 1 2 0 1 -1000000 LF
    asked (112 ∷ 32 ∷ 109 ∷ 105 ∷ 110 ∷ 32 ∷ 50 ∷ 32 ∷ 49 ∷ 10 ∷ 97 ∷ 32 ∷ 49 ∷ 32 ∷ 50 ∷ 32 ∷ 48 ∷ 32 ∷ 49 ∷ 32 ∷ 45 ∷ 49 ∷ 48 ∷ 48 ∷ 48 ∷ 48 ∷ 48 ∷ 48 ∷ 10 ∷ [])
    1 (1 ∷ 1 ∷ []) (lent 9 9 9 9 9) (carried (pos 1))
    ∷
    -- 30 before 27: an amount of 4,001: p min 2 1 LF n 2 4000 LF a 1 2 0 1 5 LF
    asked (112 ∷ 32 ∷ 109 ∷ 105 ∷ 110 ∷ 32 ∷ 50 ∷ 32 ∷ 49 ∷ 10 ∷ 110 ∷ 32 ∷ 50 ∷ 32 ∷ 52 ∷ 48 ∷ 48 ∷ 48 ∷ 10 ∷ 97 ∷ 32 ∷ 49 ∷ 32 ∷ 50 ∷ 32 ∷ 48 ∷ 32 ∷ 49 ∷ 32 ∷ 53 ∷ 10 ∷ [])
    1 (1 ∷ 1 ∷ []) (lent 9 9 9 9 9) (refused 30 0)
    ∷
    -- an amount of 4,000, and 27: p min 2 1 LF n 2 3999 LF a 1 2 0 1 5 LF
    asked (112 ∷ 32 ∷ 109 ∷ 105 ∷ 110 ∷ 32 ∷ 50 ∷ 32 ∷ 49 ∷ 10 ∷ 110 ∷ 32 ∷ 50 ∷ 32 ∷ 51 ∷ 57 ∷ 57 ∷ 57 ∷ 10 ∷ 97 ∷ 32 ∷ 49 ∷ 32 ∷ 50 ∷ 32 ∷ 48 ∷ 32 ∷ 49 ∷ 32 ∷ 53 ∷ 10 ∷ [])
    1 (1 ∷ 1 ∷ []) (lent 9 9 9 9 9) (refused 27 0)
    ∷
    -- 30: a supply of ten digits: p min 2 1 LF n 1 9999999999 LF a 1 2 0 1 5 LF
    asked (112 ∷ 32 ∷ 109 ∷ 105 ∷ 110 ∷ 32 ∷ 50 ∷ 32 ∷ 49 ∷ 10 ∷ 110 ∷ 32 ∷ 49 ∷ 32 ∷ 57 ∷ 57 ∷ 57 ∷ 57 ∷ 57 ∷ 57 ∷ 57 ∷ 57 ∷ 57 ∷ 57 ∷ 10 ∷ 97 ∷ 32 ∷
    49 ∷ 32 ∷ 50 ∷ 32 ∷ 48 ∷ 32 ∷ 49 ∷ 32 ∷ 53 ∷ 10 ∷ [])
    1 (1 ∷ 1 ∷ []) (lent 9 9 9 9 9) (refused 30 0)
    ∷
    -- 27: the same with a minus: p min 2 1 LF n 1 -9999999999 LF a 1 2 0 1 5 LF
    asked (112 ∷ 32 ∷ 109 ∷ 105 ∷ 110 ∷ 32 ∷ 50 ∷ 32 ∷ 49 ∷ 10 ∷ 110 ∷ 32 ∷ 49 ∷ 32 ∷ 45 ∷ 57 ∷ 57 ∷ 57 ∷ 57 ∷ 57 ∷ 57 ∷ 57 ∷ 57 ∷ 57 ∷ 57 ∷ 10 ∷ 97 ∷
    32 ∷ 49 ∷ 32 ∷ 50 ∷ 32 ∷ 48 ∷ 32 ∷ 49 ∷ 32 ∷ 53 ∷ 10 ∷ [])
    1 (1 ∷ 1 ∷ []) (lent 9 9 9 9 9) (refused 27 0)
    ∷
    -- 30: no arc to name: p min 2 0 LF
    asked (112 ∷ 32 ∷ 109 ∷ 105 ∷ 110 ∷ 32 ∷ 50 ∷ 32 ∷ 48 ∷ 10 ∷ []) 1 (1 ∷ []) (lent 9 9 9 9 9) (refused 30 0)
    ∷
    -- 30: nothing at all: p min 0 0 LF
    asked (112 ∷ 32 ∷ 109 ∷ 105 ∷ 110 ∷ 32 ∷ 48 ∷ 32 ∷ 48 ∷ 10 ∷ []) 0 [] (lent 9 9 9 9 9) (refused 30 0)
    ∷
    -- 30: one node: p min 1 1 LF a 1 1 0 1 5 LF
    asked (112 ∷ 32 ∷ 109 ∷ 105 ∷ 110 ∷ 32 ∷ 49 ∷ 32 ∷ 49 ∷ 10 ∷ 97 ∷ 32 ∷ 49 ∷ 32 ∷ 49 ∷ 32 ∷ 48 ∷ 32 ∷ 49 ∷ 32 ∷ 53 ∷ 10 ∷ []) 1 (1 ∷ 1 ∷ []) (lent 9 9 9 9 9) (refused 30 0)
    ∷
    -- 29 before 30: p min 99 1 LF a 1 2 0 1 05 LF
    asked (112 ∷ 32 ∷ 109 ∷ 105 ∷ 110 ∷ 32 ∷ 57 ∷ 57 ∷ 32 ∷ 49 ∷ 10 ∷ 97 ∷ 32 ∷ 49 ∷ 32 ∷ 50 ∷ 32 ∷ 48 ∷ 32 ∷ 49 ∷ 32 ∷ 48 ∷ 53 ∷ 10 ∷ []) 0 (1 ∷ 1 ∷ []) (lent 9 9 9 9 9) (refused 29 2)
    ∷
    -- 29 before 30: 65 arcs are said, one is there: p min 99 65 LF a 1 2 0 1 5 LF
    asked (112 ∷ 32 ∷ 109 ∷ 105 ∷ 110 ∷ 32 ∷ 57 ∷ 57 ∷ 32 ∷ 54 ∷ 53 ∷ 10 ∷ 97 ∷ 32 ∷ 49 ∷ 32 ∷ 50 ∷ 32 ∷ 48 ∷ 32 ∷ 49 ∷ 32 ∷ 53 ∷ 10 ∷ []) 0 (1 ∷ 1 ∷ []) (lent 9 9 9 9 9) (refused 29 3)
    ∷
    []

pub all_answers : map (λ (a : Asked). outcome_of a.bytes a.place a.table a.room) answers ≡ map (λ (a : Asked). a.outcome) answers
unfolding answers asked lent flat_map sum up_from select eq_z minℤ sumℤ leastℤ at leaving entering own_cost flow_total amount cells ◌>>=◌ digits counting
    number signed spaces gap word field signed_field pieces ending problem_line node_line arc_of line_of step at_end last run form_of supply_in network_of
    any_of any_below twice bad_file bad_name out_of_limits amount_lists flows least_total limited judged outcome_of
all_answers = refl

-- two arcs between the same nodes for one drum, the second at cost 4
pub two_arcs : Network
two_arcs = record { nodes = 2; supplies = pos 1 ∷ negsuc 0 ∷ []; arcs = arc 1 2 1 (pos 5) ∷ arc 1 2 1 (pos 4) ∷ [] }

-- the first is named: at equal totals it carries nothing; where its table is cheaper by one, the drum
pub smallest_named : map (named_flow two_arcs 0) ((0 ∷ 4 ∷ []) ∷ (0 ∷ 3 ∷ []) ∷ []) ≡ (0 ∷ 1 ∷ [])
unfolding two_arcs flat_map sum up_from select least eq_z minℤ sumℤ leastℤ at leaving entering own_cost flow_total any_below amount_lists flows least_total named_flow
smallest_named = refl
