-- Examples of what is printed. Assumes nothing.
use mathlib.Core.Path.{◌≡◌, refl}
use mathlib.Core.List.{List, [], ◌∷◌}
use Prim.Native.Nat.{ℕ}
use lib.IntN.{pos, negsuc}
use Rattle.csv_print.specs.Text.{
  digits_of,
  decimal,
  signed_text,
  field_text,
  record_text,
  each,
  plan_header,
  refusal_header,
  lane_text,
  row_text,
  lanes_text,
  plan_text,
  refusal_text,
}

-- case A's plan as printed in the paper, a record a line
pub printed_a : List ℕ
printed_a =
    115 ∷ 111 ∷ 117 ∷ 114 ∷ 99 ∷ 101 ∷ 44 ∷ 116 ∷ 101 ∷ 114 ∷ 109 ∷ 105 ∷ 110 ∷ 97 ∷ 108 ∷ 44 ∷ 97 ∷ 109 ∷ 111 ∷ 117 ∷ 110 ∷ 116 ∷ 44 ∷ 99 ∷ 111 ∷ 115 ∷ 116 ∷ 13 ∷ 10 ∷
    48 ∷ 44 ∷ 48 ∷ 44 ∷ 51 ∷ 44 ∷ 50 ∷ 48 ∷ 13 ∷ 10 ∷
    49 ∷ 44 ∷ 49 ∷ 44 ∷ 51 ∷ 44 ∷ 54 ∷ 13 ∷ 10 ∷
    49 ∷ 44 ∷ 50 ∷ 44 ∷ 48 ∷ 44 ∷ 48 ∷ 13 ∷ 10 ∷
    50 ∷ 44 ∷ 49 ∷ 44 ∷ 48 ∷ 44 ∷ 48 ∷ 13 ∷ 10 ∷
    50 ∷ 44 ∷ 50 ∷ 44 ∷ 49 ∷ 44 ∷ 51 ∷ 13 ∷ 10 ∷
    51 ∷ 44 ∷ 49 ∷ 44 ∷ 48 ∷ 44 ∷ 48 ∷ 13 ∷ 10 ∷
    51 ∷ 44 ∷ 50 ∷ 44 ∷ 49 ∷ 44 ∷ 52 ∷ 13 ∷ 10 ∷
    []

pub plan_a : plan_text 3 2 (pos 2 ∷ pos 6 ∷ pos 5 ∷ pos 3 ∷ pos 1 ∷ pos 4 ∷ []) (3 ∷ 0 ∷ 0 ∷ 1 ∷ 0 ∷ 1 ∷ []) 3 20 ≡ printed_a
unfolding digits_of decimal signed_text field_text record_text each plan_header lane_text row_text lanes_text plan_text printed_a
plan_a = refl

-- refusal 21 at place 1234567890
pub printed_refusal : List ℕ
printed_refusal =
    114 ∷ 101 ∷ 102 ∷ 117 ∷ 115 ∷ 97 ∷ 108 ∷ 44 ∷ 112 ∷ 108 ∷ 97 ∷ 99 ∷ 101 ∷ 13 ∷ 10 ∷
    50 ∷ 49 ∷ 44 ∷ 49 ∷ 50 ∷ 51 ∷ 52 ∷ 53 ∷ 54 ∷ 55 ∷ 56 ∷ 57 ∷ 48 ∷ 13 ∷ 10 ∷
    []

pub refusal_21 : refusal_text 21 1234567890 ≡ printed_refusal
unfolding digits_of decimal signed_text field_text record_text refusal_header refusal_text printed_refusal
refusal_21 = refl

-- a rebate of 12 a drum on 3 drums: `1,2,3,-36`
pub rebate : lane_text (pos 2 ∷ negsuc 11 ∷ []) (0 ∷ 3 ∷ []) 0 1 1 ≡ 49 ∷ 44 ∷ 50 ∷ 44 ∷ 51 ∷ 44 ∷ 45 ∷ 51 ∷ 54 ∷ 13 ∷ 10 ∷ []
unfolding digits_of decimal signed_text field_text record_text lane_text
rebate = refl
