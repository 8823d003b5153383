-- `paths::search::nearest` meets its contract. Assumes nothing.
use native.Mathlib.Omega.{arith}
use Rattle.paths.proofs.NearestNode.{held_more, side_source, side_terminal, side_none}
use Rattle.paths.proofs.search.nearest.Goals as goal

pub holder-requires : goal.holder-requires
holder-requires c =
    held_more c.args.key.now (omega (arith, c.requires.0)) (c.least_key-source.ensures.held (omega (arith, c.least_key-terminal.ensures.bound, c.if-source-terminal.true)))

pub returns-then-source-terminal : goal.returns-then-source-terminal
returns-then-source-terminal c = side_source c.least_key-source.ensures c.least_key-terminal.ensures c.if-source-terminal.true c.holder.ensures.0 c.holder.ensures.1

pub returns-then-terminal : goal.returns-then-terminal
returns-then-terminal c = side_none c.least_key-source.ensures c.least_key-terminal.ensures c.if-source-terminal.false c.if-terminal.true

pub holder-requires-2 : goal.holder-requires-2
holder-requires-2 c =
    held_more c.args.key.now (omega (arith, c.requires.1)) (c.least_key-terminal.ensures.held (omega (arith, c.least_key-terminal.ensures.bound, c.if-terminal.false)))

pub returns : goal.returns
returns c =
    side_terminal c.least_key-source.ensures c.least_key-terminal.ensures c.if-source-terminal.false
    (omega (arith, c.least_key-terminal.ensures.bound, c.if-terminal.false)) c.holder-2.ensures.0 c.holder-2.ensures.1
