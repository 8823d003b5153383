-- `slackcheck::serving::all_servers` meets its contract. Assumes nothing.
use Rattle.std.proofs.Common.{arith}
use Rattle.slackcheck.proofs.Checking.{servers_start, servers_end}
use Rattle.slackcheck.proofs.serving.all_servers.Goals as goal

pub loop-i-init : goal.loop-i-init
loop-i-init c = servers_start c.requires.1

pub serve_row-requires : goal.serve_row-requires
serve_row-requires c =
    (omega (arith, c.loop-i-test.true, c.requires.0), c.requires.1)

pub loop-i-preserved : goal.loop-i-preserved
loop-i-preserved c = c.serve_row.ensures _ c.loop-i-test.true c.loop-i.invariant

pub returns : goal.returns
returns c = servers_end c.loop-i.invariant c.loop-i-test.false
