-- `slackcheck::serving::all_servers` meets its contract. Assumes nothing.
use Rattle.std.proofs.Common.{◌-◌}
use Rattle.slackcheck.specs.inner.Serving.{ServersTo}
use Rattle.slackcheck.proofs.serving.all_servers.Given as goal

abbrev pub invariant-loop-i : goal.invariant-loop-i
invariant-loop-i l = ServersTo l.m l.n l.x l.i l.serves

abbrev pub decreases-loop-i : goal.decreases-loop-i
decreases-loop-i l = l.m - l.i
