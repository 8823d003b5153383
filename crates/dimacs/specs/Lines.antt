-- What the n lines and the a lines of a file say, and which of them are out of the limits (refusal 30). Assumes nothing.
use Rattle.std.specs.Prelude.{Bool, false, cond, ◌||◌, List, [], ◌∷◌, ℕ, eqb, ltb, ℤ, pos, neg_ℤ}
use Rattle.std.specs.Int.Signed.{lt_z}
use Rattle.dimacs.specs.Form.{ArcLine, NodeLine}

-- the supply of the n line for this node, 0 where there is none
unfoldable pub supply_in : ℕ → List NodeLine → ℤ
supply_in i [] = pos 0
supply_in i (v ∷ l) = cond (eqb v.id i) v.supply (supply_in i l)

-- does one of the list pass the test?
unfoldable pub any_of : {A : Type 0} → (A → Bool) → List A → Bool
any_of p [] = false
any_of p (x ∷ l) = p x || any_of p l

-- not a node's number, 1 to the count of nodes
abbrev pub no_node : ℕ → ℕ → Bool
no_node nodes i = ltb i 1 || ltb nodes i

-- two n lines for one node
unfoldable pub twice : List NodeLine → Bool
twice [] = false
twice (v ∷ l) = any_of (λ (z : NodeLine). eqb z.id v.id) l || twice l

-- an arc with a node that is none, to itself, with a lower bound that is not 0, a ceiling above 4,000 or a cost out of the range of a case
abbrev pub bad_arc : ℕ → ArcLine → Bool
bad_arc nodes v =
    no_node nodes v.arc.start
    || (no_node nodes v.arc.end
    || (eqb v.arc.start v.arc.end
    || (ltb 0 v.low
    || (ltb 4000 v.arc.ceiling || (lt_z v.arc.cost (neg_ℤ (pos 1000000)) || lt_z (pos 1000000) v.arc.cost)))))
