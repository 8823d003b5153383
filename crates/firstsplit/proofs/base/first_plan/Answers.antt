-- `firstsplit::base::first_plan` meets its contract. Assumes nothing.
use native.Mathlib.Omega.{arith}
use Rattle.firstsplit.proofs.FirstSplit.{sending_again, first_again, depots_none}
use Rattle.firstsplit.proofs.base.first_plan.Goals as goal

pub send_depots-requires : goal.send_depots-requires
send_depots-requires c = record { base_ready = c.requires.base_ready; le_m = c.requires.le_m; asked = λ j h. omega arith; covers = c.requires.covers }

pub send_plants-requires : goal.send_plants-requires
send_plants-requires c =
    let d = c.send_depots.ensures in record { le_m = c.requires.le_m; plants_ready = c.requires.plants_ready; sending = sending_again _ (d.depots_done.sending c.if-send_depots.true); covers = d.covers_2 }

pub returns-then-send_depots : goal.returns-then-send_depots
returns-then-send_depots c =
    let q = c.send_plants.ensures in record { first_plan = record { unmet = _; done = first_again _ _ q.first_done }; covers_2 = q.covers_2 }

pub returns : goal.returns
returns c =
    let d = c.send_depots.ensures in record { first_plan = record { unmet = _; done = depots_none c.args.run0 c.args.run1 c.args.made d.depots_done c.if-send_depots.false }; covers_2 = d.covers_2 }
