-- What the parts of the reader answer, by what it means for the bytes of the line: contracts of inner functions. Assumes nothing.
use Rattle.std.specs.Prelude.{◌≡◌, List, ℕ, ◌-◌, ◌≤◌, ◌<◌, ◌^◌, ℤ, nat_abs, length, drop, Option as Maybe, Some, None}
use Rattle.std.proofs.Math.Option.{Option, none, some}
use Rattle.dimacs.specs.declared.bytes.Read.{Read}
use Rattle.dimacs.specs.Bytes.{Got, got, digits, spaces}

-- nine more digits at most
pub record DigitsRead (s : List ℕ) (at first value next : ℕ) : Type 0 where
  pub upto : next ≤ length s
  pub small : value < 10 ^ 10
  pub meaning : digits 9 first (drop at s) ≡ got value (drop next s)

-- the offset after the spaces
pub record SpacesRead (s : List ℕ) (at next : ℕ) : Type 0 where
  pub offset : next ≡ length s - length (spaces (drop at s))
  pub upto : next ≤ length s
  pub meaning : spaces (drop at s) ≡ drop next s

-- what an answer stands for
abbrev pub on_read : {A : Type 0} → List ℕ → Maybe (Read A) → Option (Got A)
on_read s (Some r) = some (got r.value (drop r.next s))
on_read s None = none

abbrev pub number_ends : List ℕ → Maybe (Read ℕ) → Type 0
number_ends s (Some r) = (r.next ≤ length s) × (r.value < 10 ^ 10)
number_ends s None = Unit {0}

pub record NumberRead (read : List ℕ → Option (Got ℕ)) (s : List ℕ) (at : ℕ) (answer : Maybe (Read ℕ)) : Type 0 where
  pub ends : number_ends s answer
  pub meaning : read (drop at s) ≡ on_read s answer

abbrev pub signed_ends : List ℕ → Maybe (Read ℤ) → Type 0
signed_ends s (Some r) = (r.next ≤ length s) × (nat_abs r.value < 10 ^ 10)
signed_ends s None = Unit {0}

pub record SignedRead (read : List ℕ → Option (Got ℤ)) (s : List ℕ) (at : ℕ) (answer : Maybe (Read ℤ)) : Type 0 where
  pub ends : signed_ends s answer
  pub meaning : read (drop at s) ≡ on_read s answer
