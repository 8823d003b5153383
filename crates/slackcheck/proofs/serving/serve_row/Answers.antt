-- `slackcheck::serving::serve_row` meets its contract. Assumes nothing.
use Rattle.residual.proofs.Bits.{power_fits}
use Rattle.slackcheck.proofs.Checking.{serve_start, serve_next, serve_end}
use Rattle.slackcheck.proofs.serving.serve_row.Goals as goal

pub loop-j-init : goal.loop-j-init
loop-j-init c m h q = serve_start q

pub loop-j-preserved : goal.loop-j-preserved
loop-j-preserved c m h q =
    serve_next h c.requires.1 (c.loop-j.invariant m h q) c.loop-j-test.true (rw (power_fits c.args.i c.requires.0) at c.served.ensures)

pub returns : goal.returns
returns c m h q = serve_end (c.loop-j.invariant m h q) c.loop-j-test.false
