-- `ratetable::rates` meets its contract: one test that antt computes over the whole constant. Assumes nothing.
use Rattle.ratetable.proofs.Table.{rate_table}
use Rattle.ratetable.proofs.rates.Goals as goal

pub returns : goal.returns
returns c = rate_table tt
