-- `bounds_files::print_case` meets its contract. Assumes nothing.
use mathlib.Core.Path.{◌≡◌, ap, sym, ◌∙◌}
use lib.ListN.{length}
use lib.Signed.{mag}
use Prim.Native.Nat.{ℕ, ◌<◌, ◌^◌}
use native.Mathlib.Omega.{arith}
use Rattle.bounds_problem.specs.Answers.{outcome, refused}
use Rattle.problem.proofs.MachineIntegers.{read_back}
use Rattle.bounds_files.proofs.BoundsPrinting.{known_ready, by_known, by_refusal}
use borrow.Author.Rules.{rules}
use Rattle.bounds_files.proofs.print_case.Goals.{After-stop_cells-answers}
use Rattle.bounds_files.proofs.print_case.Goals as goal

-- how many cells are lent
cells : (c : After-stop_cells-answers) → length c.stop_cells-answers.result ≡ 4001
cells c = search (rules, c.stop_cells-answers.type_inv)

pub print_known-requires : goal.print_known-requires
print_known-requires c = known_ready c.possible_splits-answer.ensures (ap outcome c.in-Ok.is)

pub returns-in-Err : goal.returns-in-Err
returns-in-Err c =
    by_refusal c.possible_splits-answer.ensures (ap outcome c.in-Err.is ∙ ap (λ (k : ℕ). refused k c.in-Err.r.place) (sym c.number.ensures)) (cells (goal.at.returns-in-Err c).After-stop_cells-answers) c.print_refusal.ensures

pub returns-in-Ok : goal.returns-in-Ok
returns-in-Ok c =
    let least : mag c.in-Ok.k.smallest < 2 ^ 63 = omega arith in
    let most : mag c.in-Ok.k.largest < 2 ^ 63 = omega arith in
    by_known c.possible_splits-answer.ensures (ap outcome c.in-Ok.is) (cells (goal.at.returns-in-Ok c).After-stop_cells-answers)
    (rw (read_back c.in-Ok.k.smallest least, read_back c.in-Ok.k.largest most) at c.print_known.ensures)
