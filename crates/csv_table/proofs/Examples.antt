-- Examples of the definitions, as one table: a file, and what it is. Assumes nothing.
use mathlib.Core.Path.{◌≡◌, refl}
use mathlib.Core.List.{List, [], ◌∷◌, map}
use Prim.Native.Nat.{ℕ}
use lib.IntN.{pos, negsuc}
use Rattle.csv_form.specs.declared.Kind.{Kind}
use Rattle.csv_form.specs.declared.Kind.TheVariants.{Tariff, Production}
use Rattle.refusal.specs.declared.Cause.TheVariants as causes
use Rattle.csv_form.specs.Form.{mark, step, more, may_end, is_production, after_comma, after_line, in_tariff, leading}
use Rattle.csv_form.specs.Records.{run, absorb, records_at_end, form_of, whole}
use Rattle.csv_table.specs.Files.{Table, shaped, refused, wanted, odd_from, judge, table_of}

pub record Example : Type 0 where
  pub kind : Kind
  pub bytes : List ℕ
  pub table : Table

example : Kind → List ℕ → Table → Example
example k l t = record { kind = k; bytes = l; table = t }

pub examples : List Example
unfolding example
examples =
    -- case A's tariff: 2,6,3CR LF 5,3,3CR LF 1,4,1CR LF 3,2,CR LF
    example Tariff (50 ∷ 44 ∷ 54 ∷ 44 ∷ 51 ∷ 13 ∷ 10 ∷ 53 ∷ 44 ∷ 51 ∷ 44 ∷ 51 ∷ 13 ∷ 10 ∷ 49 ∷ 44 ∷ 52 ∷ 44 ∷ 49 ∷ 13 ∷ 10 ∷ 51 ∷ 44 ∷ 50 ∷ 44 ∷ 13 ∷ 10 ∷ []) (shaped 4 3)
    ∷
    -- a quoted field, and no line end after the last record: "2",6CR LF 3,
    example Tariff (34 ∷ 50 ∷ 34 ∷ 44 ∷ 54 ∷ 13 ∷ 10 ∷ 51 ∷ 44 ∷ []) (shaped 2 2)
    ∷
    -- an empty file: nothing
    example Tariff ([]) (refused causes.Form 0)
    ∷
    -- no demands: 1,2CR LF
    example Tariff (49 ∷ 44 ∷ 50 ∷ 13 ∷ 10 ∷ []) (refused causes.Form 5)
    ∷
    -- the first record ends in a comma: 5,CR LF 6,
    example Tariff (53 ∷ 44 ∷ 13 ∷ 10 ∷ 54 ∷ 44 ∷ []) (refused causes.Form 2)
    ∷
    -- the same, at the end of the file: 5,
    example Tariff (53 ∷ 44 ∷ []) (refused causes.Form 2)
    ∷
    -- the file ends in CR: 1,2CR
    example Tariff (49 ∷ 44 ∷ 50 ∷ 13 ∷ []) (refused causes.Form 4)
    ∷
    -- CR without LF: 1,2CR 3
    example Tariff (49 ∷ 44 ∷ 50 ∷ 13 ∷ 51 ∷ []) (refused causes.Form 4)
    ∷
    -- LF alone: 1,2LF
    example Tariff (49 ∷ 44 ∷ 50 ∷ 10 ∷ []) (refused causes.Form 3)
    ∷
    -- an empty line: 1,2CR LF CR LF
    example Tariff (49 ∷ 44 ∷ 50 ∷ 13 ∷ 10 ∷ 13 ∷ 10 ∷ []) (refused causes.Form 5)
    ∷
    -- a byte after the line end of the demands: 1,2CR LF 3,CR LF 4
    example Tariff (49 ∷ 44 ∷ 50 ∷ 13 ∷ 10 ∷ 51 ∷ 44 ∷ 13 ∷ 10 ∷ 52 ∷ []) (refused causes.Form 9)
    ∷
    -- an empty field: 1,,2
    example Tariff (49 ∷ 44 ∷ 44 ∷ 50 ∷ []) (refused causes.Form 2)
    ∷
    -- an empty last field in quotes: 1,2CR LF 3,""
    example Tariff (49 ∷ 44 ∷ 50 ∷ 13 ∷ 10 ∷ 51 ∷ 44 ∷ 34 ∷ 34 ∷ []) (refused causes.Form 8)
    ∷
    -- an eleventh digit: 12345678901
    example Tariff (49 ∷ 50 ∷ 51 ∷ 52 ∷ 53 ∷ 54 ∷ 55 ∷ 56 ∷ 57 ∷ 48 ∷ 49 ∷ []) (refused causes.Form 10)
    ∷
    -- a quote in a bare field: 1"
    example Tariff (49 ∷ 34 ∷ []) (refused causes.Form 1)
    ∷
    -- a quote left open: "1
    example Tariff (34 ∷ 49 ∷ []) (refused causes.Form 2)
    ∷
    -- a record of another field count: 1,2CR LF 3,4,
    example Tariff (49 ∷ 44 ∷ 50 ∷ 13 ∷ 10 ∷ 51 ∷ 44 ∷ 52 ∷ 44 ∷ []) (refused causes.Fields 2)
    ∷
    -- the first record has one field: 5CR LF 6,
    example Tariff (53 ∷ 13 ∷ 10 ∷ 54 ∷ 44 ∷ []) (refused causes.Fields 2)
    ∷
    -- costs with a minus, bare and in quotes: -5,"-6",3CR LF 2,1,
    example Tariff (45 ∷ 53 ∷ 44 ∷ 34 ∷ 45 ∷ 54 ∷ 34 ∷ 44 ∷ 51 ∷ 13 ∷ 10 ∷ 50 ∷ 44 ∷ 49 ∷ 44 ∷ []) (shaped 2 3)
    ∷
    -- ten digits after a minus: -9999999999,3CR LF 2,
    example Tariff (45 ∷ 57 ∷ 57 ∷ 57 ∷ 57 ∷ 57 ∷ 57 ∷ 57 ∷ 57 ∷ 57 ∷ 57 ∷ 44 ∷ 51 ∷ 13 ∷ 10 ∷ 50 ∷ 44 ∷ []) (shaped 2 2)
    ∷
    -- an eleventh digit after a minus: -12345678901
    example Tariff (45 ∷ 49 ∷ 50 ∷ 51 ∷ 52 ∷ 53 ∷ 54 ∷ 55 ∷ 56 ∷ 57 ∷ 48 ∷ 49 ∷ []) (refused causes.Form 11)
    ∷
    -- a supply has no minus, so its record cannot end after it: 5,-3CR LF 2,
    example Tariff (53 ∷ 44 ∷ 45 ∷ 51 ∷ 13 ∷ 10 ∷ 50 ∷ 44 ∷ []) (refused causes.Form 4)
    ∷
    -- a record with a minus is a source's, so it cannot end in an empty field: 5,3CR LF -2,
    example Tariff (53 ∷ 44 ∷ 51 ∷ 13 ∷ 10 ∷ 45 ∷ 50 ∷ 44 ∷ []) (refused causes.Form 8)
    ∷
    -- two minus signs: --5
    example Tariff (45 ∷ 45 ∷ 53 ∷ []) (refused causes.Form 1)
    ∷
    -- a minus before the quote: -"5"
    example Tariff (45 ∷ 34 ∷ 53 ∷ 34 ∷ []) (refused causes.Form 1)
    ∷
    -- a minus alone: -,3
    example Tariff (45 ∷ 44 ∷ 51 ∷ []) (refused causes.Form 1)
    ∷
    -- a number with 0 in front, refused at the 0: 1,007
    example Tariff (49 ∷ 44 ∷ 48 ∷ 48 ∷ 55 ∷ []) (refused causes.Form 2)
    ∷
    -- the same in quotes: "05"
    example Tariff (34 ∷ 48 ∷ 53 ∷ 34 ∷ []) (refused causes.Form 1)
    ∷
    -- the same in the demands: 1,2CR LF 3,00412,
    example Tariff (49 ∷ 44 ∷ 50 ∷ 13 ∷ 10 ∷ 51 ∷ 44 ∷ 48 ∷ 48 ∷ 52 ∷ 49 ∷ 50 ∷ 44 ∷ []) (refused causes.Form 7)
    ∷
    -- a single 0 is a number, bare and in quotes: 0,"0"CR LF 0,
    example Tariff (48 ∷ 44 ∷ 34 ∷ 48 ∷ 34 ∷ 13 ∷ 10 ∷ 48 ∷ 44 ∷ []) (shaped 2 2)
    ∷
    -- 0 further on in a number: 100,3CR LF 20,
    example Tariff (49 ∷ 48 ∷ 48 ∷ 44 ∷ 51 ∷ 13 ∷ 10 ∷ 50 ∷ 48 ∷ 44 ∷ []) (shaped 2 2)
    ∷
    -- 0 after a minus, refused at the 0: -0,3
    example Tariff (45 ∷ 48 ∷ 44 ∷ 51 ∷ []) (refused causes.Form 1)
    ∷
    -- the same with a digit after it, and in quotes: "-05"
    example Tariff (34 ∷ 45 ∷ 48 ∷ 53 ∷ 34 ∷ []) (refused causes.Form 2)
    ∷
    -- another byte after a 0 is refused at its own offset: 0x
    example Tariff (48 ∷ 120 ∷ []) (refused causes.Form 1)
    ∷
    -- case A's table: 99CR LF 20CR LF 24CR LF 20
    example Production (57 ∷ 57 ∷ 13 ∷ 10 ∷ 50 ∷ 48 ∷ 13 ∷ 10 ∷ 50 ∷ 52 ∷ 13 ∷ 10 ∷ 50 ∷ 48 ∷ []) (shaped 4 1)
    ∷
    -- ten digits in quotes, and a line end: "9999999999"CR LF
    example Production (34 ∷ 57 ∷ 57 ∷ 57 ∷ 57 ∷ 57 ∷ 57 ∷ 57 ∷ 57 ∷ 57 ∷ 57 ∷ 34 ∷ 13 ∷ 10 ∷ []) (shaped 1 1)
    ∷
    -- a number with 0 in front: 9CR LF 00
    example Production (57 ∷ 13 ∷ 10 ∷ 48 ∷ 48 ∷ []) (refused causes.Form 3)
    ∷
    -- a single 0: 0
    example Production (48 ∷ []) (shaped 1 1)
    ∷
    -- an empty file: nothing
    example Production ([]) (refused causes.Form 0)
    ∷
    -- an empty field in quotes: ""
    example Production (34 ∷ 34 ∷ []) (refused causes.Form 1)
    ∷
    -- a space: 1
    example Production (32 ∷ 49 ∷ []) (refused causes.Form 0)
    ∷
    -- a byte above 127: 200 1
    example Production (200 ∷ 49 ∷ []) (refused causes.Form 0)
    ∷
    -- NUL: NUL
    example Production (0 ∷ []) (refused causes.Form 0)
    ∷
    -- a minus sign: -1
    example Production (45 ∷ 49 ∷ []) (refused causes.Form 0)
    ∷
    -- the same in quotes: "-1"
    example Production (34 ∷ 45 ∷ 49 ∷ 34 ∷ []) (refused causes.Form 1)
    ∷
    -- the file ends in a comma: 3,
    example Production (51 ∷ 44 ∷ []) (refused causes.Form 2)
    ∷
    -- a digit after the closing quote: "7"8
    example Production (34 ∷ 55 ∷ 34 ∷ 56 ∷ []) (refused causes.Form 3)
    ∷
    -- two fields: 3,4
    example Production (51 ∷ 44 ∷ 52 ∷ []) (refused causes.Fields 1)
    ∷
    -- two fields in the second record: 9CR LF 3,4CR LF
    example Production (57 ∷ 13 ∷ 10 ∷ 51 ∷ 44 ∷ 52 ∷ 13 ∷ 10 ∷ []) (refused causes.Fields 2)
    ∷
    []

pub all_right : map (λ (e : Example). table_of e.kind e.bytes) examples ≡ map (λ (e : Example). e.table) examples
unfolding examples example mark step more may_end is_production after_comma after_line in_tariff leading run absorb records_at_end form_of wanted odd_from judge table_of
all_right = refl

-- the records of case A's tariff
pub tariff_a :
    form_of Tariff (50 ∷ 44 ∷ 54 ∷ 44 ∷ 51 ∷ 13 ∷ 10 ∷ 53 ∷ 44 ∷ 51 ∷ 44 ∷ 51 ∷ 13 ∷ 10 ∷ 49 ∷ 44 ∷ 52 ∷ 44 ∷ 49 ∷ 13 ∷ 10 ∷ 51 ∷ 44 ∷ 50 ∷ 44 ∷ 13 ∷ 10 ∷ [])
    ≡ whole (map (λ (l : List ℕ). map pos l) ((2 ∷ 6 ∷ 3 ∷ []) ∷ (5 ∷ 3 ∷ 3 ∷ []) ∷ (1 ∷ 4 ∷ 1 ∷ []) ∷ (3 ∷ 2 ∷ 0 ∷ []) ∷ []))
unfolding mark step more may_end is_production after_comma after_line in_tariff leading run absorb records_at_end form_of
tariff_a = refl

-- the records of -5,3CR LF 2,
pub rebate_5 : form_of Tariff (45 ∷ 53 ∷ 44 ∷ 51 ∷ 13 ∷ 10 ∷ 50 ∷ 44 ∷ []) ≡ whole ((negsuc 4 ∷ pos 3 ∷ []) ∷ (pos 2 ∷ pos 0 ∷ []) ∷ [])
unfolding mark step more may_end is_production after_comma after_line in_tariff leading run absorb records_at_end form_of
rebate_5 = refl
