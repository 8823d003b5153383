-- `csv_case::case::share` meets its contract. Assumes nothing.
use native.Mathlib.Omega.{arith}
use Rattle.csv_case.proofs.TariffCase.{share_room, too_large}
use borrow.Author.Rules.{rules}
use Rattle.csv_case.proofs.case.share.Goals as goal

pub returns-then-m-gt32 : goal.returns-then-m-gt32
returns-then-m-gt32 c = too_large _ _ _ _ _ _ (λ few narrow. omega (arith, c.if-m-gt32.true))

pub returns-then-n-gt64 : goal.returns-then-n-gt64
returns-then-n-gt64 c = too_large _ _ _ _ _ _ (λ few narrow. omega (arith, c.if-n-gt64.true))

pub share_sources-requires : goal.share_sources-requires
share_sources-requires c =
    let a = c.args in record { n_in_bounds = omega (arith, c.requires, share_room a.m a.n c.if-m-gt32.false c.if-n-gt64.false); n_bound = c.if-n-gt64.false }

pub overflow_mul-m : goal.overflow_mul-m
overflow_mul-m c =
    let a = c.args in record { fits = omega (arith, share_room a.m a.n c.if-m-gt32.false c.if-n-gt64.false) }

pub copy_fields-requires : goal.copy_fields-requires
copy_fields-requires c =
    let a = c.args in record { count_in_bounds = omega (arith, c.requires, c.if-n-gt64.false, share_room a.m a.n c.if-m-gt32.false c.if-n-gt64.false); count_bound = omega (arith, c.if-n-gt64.false) }

pub returns : goal.returns
returns c =
    record {
      costs_shared = search rules;
      supplies_shared = search rules;
      demands_shared = search rules;
      large_kept = λ no_room. absurd (no_room c.if-m-gt32.false c.if-n-gt64.false);
    }
