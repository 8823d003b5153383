-- `flow_files::print_network` meets its contract. Assumes nothing.
use mathlib.Core.Path.{refl, ap, sym, ◌∙◌}
use Prim.Native.Nat.{ℕ, ◌<◌, ◌^◌}
use native.Mathlib.Omega.{arith}
use lib.Signed.{mag}
use Rattle.flow_network.specs.Answer.{outcome}
use Rattle.flow_problem.specs.Answer.{refused}
use Rattle.csv_print.proofs.PrintedSigns.{read_back}
use Rattle.flow_files.proofs.FlowLaws.{count_known, network_refused, network_cut, network_flow}
use Rattle.flow_files.proofs.print_network.Goals as goal

pub print_flow-requires : goal.print_flow-requires
print_flow-requires c =
    network_cut _ _ _ _ _ refl refl refl refl refl c.cheapest_flow-answer.ensures.0 _ (ap outcome c.in-Ok.is) _
    (count_known _ c.cheapest_flow-answer.ensures.1 c.in-Ok.is)

pub returns-in-Err : goal.returns-in-Err
returns-in-Err c =
    network_refused _ _ _ _ _ refl refl refl refl refl c.cheapest_flow-answer.ensures.0 (ap outcome c.in-Err.is ∙ ap (λ (x : ℕ). refused x c.in-Err.r.place) (sym c.number.ensures)) c.print_refusal.ensures

pub returns-in-Ok : goal.returns-in-Ok
returns-in-Ok c =
    let inside : mag c.in-Ok.k.total < 2 ^ 63 = omega arith in
    network_flow _ _ _ _ _ refl refl refl refl refl c.cheapest_flow-answer.ensures.0 _ (ap outcome c.in-Ok.is) _
    (count_known _ c.cheapest_flow-answer.ensures.1 c.in-Ok.is)
    (rw (read_back c.in-Ok.k.total inside) at c.print_flow.ensures)
