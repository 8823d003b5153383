-- What the cells hold of the lines read so far: contracts of the reader's inner functions. Assumes nothing.
use Rattle.std.specs.Prelude.{◌≡◌, ◌⊎◌, Bool, ◌||◌, List, [], ◌∷◌, ℕ, suc, min, ◌≤◌, ◌<◌, ◌^◌, eqb, ltb, ℤ, pos, length, get_or, Option as Maybe, Some, None, Result, Ok, Err}
use Rattle.std.proofs.Math.Option.{none, some}
use Rattle.std.proofs.Math.IntN.{sub_ℕ}
use Rattle.dimacs.specs.declared.line.Line as line-answer
use Rattle.dimacs.specs.declared.line.Line.TheVariants as lines
use Rattle.dimacs.specs.declared.line.NodeNumbers as node-answer
use Rattle.dimacs.specs.declared.line.ArcNumbers as arc-answer
use Rattle.dimacs.specs.declared.store.Reading as reading-answer
use Rattle.refusal.specs.declared.Cause.TheVariants as causes
use Rattle.refusal.specs.declared.Refusal.{Refusal}
use Rattle.dimacs.specs.Arc.{Arc, arc}
use Rattle.dimacs.specs.Bytes.{◌>>=◌}
use Rattle.dimacs.specs.Form.{pieces, ArcLine, NodeLine, line_of, File, Stage, opening, reading, step, whole, broken, form_of}
use Rattle.dimacs.specs.Lines.{supply_in, any_of, no_node, twice, bad_arc}

-- an n line and an a line by their numbers, as lists of one
abbrev pub node_made : node-answer.NodeNumbers → List NodeLine
node_made v = record { id = v.id; supply = v.supply } ∷ []

abbrev pub arc_made : arc-answer.ArcNumbers → List ArcLine
arc_made v = record { low = v.low; arc = arc v.start v.end v.ceiling v.cost } ∷ []

-- the n line, and the a line, that a line is
abbrev pub node_in : Maybe line-answer.Line → List NodeLine
node_in (Some lines.Comment) = []
node_in (Some (lines.Problem n a)) = []
node_in (Some (lines.Node v)) = node_made v
node_in (Some (lines.Arc v)) = []
node_in None = []

abbrev pub arc_in : Maybe line-answer.Line → List ArcLine
arc_in (Some lines.Comment) = []
arc_in (Some (lines.Problem n a)) = []
arc_in (Some (lines.Node v)) = []
arc_in (Some (lines.Arc v)) = arc_made v
arc_in None = []

-- arc j of the a lines
abbrev pub no_line : ArcLine
no_line = record { low = 0; arc = arc 0 0 0 (pos 0) }

abbrev pub arc_on : List ArcLine → ℕ → Arc
arc_on arcs j = (get_or arcs j no_line).arc

-- the first 64 arcs stand in the cells, one number for each; a cell after them holds 0
abbrev pub HeldBy : {A : Type 0} → A → (Arc → A) → List ArcLine → List A → Type 0
HeldBy d f arcs held = (j : ℕ) → j < 64 → get_or held j d ≡ f (arc_on arcs j)

-- the a lines so far, and whether one of them is out of the limits
pub record ArcsRead (nodes : ℕ) (arcs : List ArcLine) (bad : Bool) (starts ends ceilings : List ℕ) (costs : List ℤ) : Type 0 where
  pub flag : bad ≡ any_of (bad_arc nodes) arcs
  pub start : HeldBy 0 (λ (a : Arc). a.start) arcs starts
  pub end : HeldBy 0 (λ (a : Arc). a.end) arcs ends
  pub ceiling : HeldBy 0 (λ (a : Arc). a.ceiling) arcs ceilings
  pub cost : HeldBy (pos 0) (λ (a : Arc). a.cost) arcs costs
  pub starts_long : length starts ≡ 64
  pub ends_long : length ends ≡ 64
  pub ceilings_long : length ceilings ≡ 64
  pub costs_long : length costs ≡ 64

-- is there an n line for this node?
abbrev pub listed_node : List NodeLine → ℕ → Bool
listed_node l i = any_of (λ (z : NodeLine). eqb z.id i) l

-- an n line for a node that the network has not, or for one above 32, for which there is no cell
abbrev pub no_cell : ℕ → NodeLine → Bool
no_cell nodes v = no_node (min nodes 32) v.id

-- the n lines so far: a supply is what is given minus what is taken, one of which is 0; a mark, 1, says that the node has a line; the flag, that a line
-- is out of the limits
pub record NodesRead (nodes : ℕ) (supplies : List NodeLine) (odd : Bool) (gives takes marks : List ℕ) : Type 0 where
  pub flag : odd ≡ (any_of (no_cell nodes) supplies || twice supplies)
  pub mark : (i : ℕ) → i < 32 → ltb 0 (get_or marks i 0) ≡ listed_node supplies (suc i)
  pub mark_one : (i : ℕ) → i < 32 → get_or marks i 0 ≤ 1
  pub supply : (i : ℕ) → i < 32 → sub_ℕ (get_or gives i 0) (get_or takes i 0) ≡ supply_in (suc i) supplies
  pub one_way : (i : ℕ) → i < 32 → (get_or gives i 0 ≡ 0) ⊎ (get_or takes i 0 ≡ 0)
  pub small : (i : ℕ) → i < 32 → (get_or gives i 0 < 10 ^ 10) × (get_or takes i 0 < 10 ^ 10)
  pub gives_long : length gives ≡ 32
  pub takes_long : length takes ≡ 32
  pub marks_long : length marks ≡ 32

-- a supply is what is given minus what is taken, one of which is 0
pub record Parts (supply : ℤ) (give take : ℕ) : Type 0 where
  pub is : sub_ℕ give take ≡ supply
  pub way : (give ≡ 0) ⊎ (take ≡ 0)
  pub give_small : give < 10 ^ 10
  pub take_small : take < 10 ^ 10

-- what is read of a file that is whole
pub record FileRead (f : File) (nodes arcs : ℕ) (odd bad : Bool) (starts ends ceilings : List ℕ) (costs : List ℤ) (gives takes marks : List ℕ) : Type 0 where
  pub nodes_are : nodes ≡ f.nodes
  pub arcs_are : arcs ≡ length f.arcs
  pub arc_lines : ArcsRead f.nodes f.arcs bad starts ends ceilings costs
  pub node_lines : NodesRead f.nodes f.supplies odd gives takes marks

-- the lines before the first that is not of the form: what they say
unfoldable pub lines_of : Stage → List (List ℕ) → Stage
lines_of s [] = s
lines_of s (p ∷ []) = s
lines_of s (p ∷ q ∷ ps) = elim (line_of p >>= step s) [ none ↦ s | some t ↦ lines_of t (q ∷ ps) ]

unfoldable pub stage_of : List ℕ → Stage
stage_of l = lines_of opening (pieces l)

-- the count of nodes, the n lines and the a lines of a stage
abbrev pub nodes_in : Stage → ℕ
nodes_in opening = 0
nodes_in (reading f) = f.nodes

abbrev pub arcs_in : Stage → List ArcLine
arcs_in opening = []
arcs_in (reading f) = f.arcs

abbrev pub supplies_in : Stage → List NodeLine
supplies_in opening = []
supplies_in (reading f) = f.supplies

-- the cells hold the lines of a stage
pub record LinesKept (st : Stage) (starts ends ceilings : List ℕ) (costs : List ℤ) (gives takes marks : List ℕ) : Type 0 where
  pub bad : Bool
  pub odd : Bool
  pub arc_lines : ArcsRead (nodes_in st) (arcs_in st) bad starts ends ceilings costs
  pub node_lines : NodesRead (nodes_in st) (supplies_in st) odd gives takes marks

-- the answer is the file's: 29's line, with the cells that hold the lines before it; or its counts, with the cells that hold the lines
abbrev pub ReadAs : List ℕ → Result reading-answer.Reading Refusal → List ℕ → List ℕ → List ℕ → List ℤ → List ℕ → List ℕ → List ℕ → Type 0
ReadAs s (Err r) starts ends ceilings costs gives takes marks =
    (form_of s ≡ broken r.place) × LinesKept (stage_of s) starts ends ceilings costs gives takes marks × (r.cause ≡ causes.Line)
ReadAs s (Ok r) starts ends ceilings costs gives takes marks =
    (f : File) × (form_of s ≡ whole f) × FileRead f r.nodes r.arcs r.odd r.bad starts ends ceilings costs gives takes marks

pub record ReadIs (s : List ℕ) (r : Result reading-answer.Reading Refusal) (starts ends ceilings : List ℕ) (costs : List ℤ) (gives takes marks : List ℕ) : Type 0 where
  pub reads : ReadAs s r starts ends ceilings costs gives takes marks
