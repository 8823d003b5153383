-- `yadvorkhul::rates::yadvorkhul_rates` meets its contract, by what `fill` promises. Assumes nothing.
use mathlib.Core.Path.{sym, ap, ◌∙◌}
use Rattle.yadvorkhul.specs.Rated.{rate_number}
use Rattle.yadvorkhul.proofs.rates.yadvorkhul_rates.Goals as goal
