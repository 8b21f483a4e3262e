-- "a list of zero to four waiting conditions", the first to be used first; a place of the list that holds none is 15.
use Rattle.std.specs.Prelude.{ℕ, ◌+◌, ◌-◌, Bool, false, not, ◌&&◌, ◌||◌, leb, eqb}
use Rattle.std.specs.Bool.{if◌then◌else◌}
use Rattle.word.specs.Word.{bit}
use Rattle.waiting.specs.declared.Waiting.{Waiting}

abbrev pub none : ℕ
none = 15

abbrev pub nothing : Waiting
nothing = record { first = none; second = none; third = none; fourth = none }

-- how many wait
unfoldable pub waiting_count : Waiting → ℕ
waiting_count w =
    if eqb w.first none then 0
    else (if eqb w.second none then 1
    else (if eqb w.third none then 2
    else (if eqb w.fourth none then 3
    else 4)))

-- the first is used up
unfoldable pub dropped : Waiting → Waiting
dropped w = record { first = w.second; second = w.third; third = w.fourth; fourth = none }

-- "inverses differ in the lowest bit"
unfoldable pub inverse : ℕ → ℕ
inverse condition = if bit 0 condition then condition - 1 else condition + 1

-- the condition at a place within the block or past it, turned over by its else bit
abbrev pub placed : Bool → ℕ → Bool → ℕ
placed within condition otherwise = if within then (if otherwise then inverse condition else condition) else none

-- "An IT record's block is the next count records"; "else bits 0 to 2 are for the second to fourth record"
unfoldable pub block : ℕ → ℕ → ℕ → Waiting
block condition count elses = record {
  first = placed (leb 1 count) condition false;
  second = placed (leb 2 count) condition (bit 0 elses);
  third = placed (leb 3 count) condition (bit 1 elses);
  fourth = placed (leb 4 count) condition (bit 2 elses);
}

unfoldable pub same : Waiting → Waiting → Bool
same v w = eqb v.first w.first && eqb v.second w.second && eqb v.third w.third && eqb v.fourth w.fourth

-- "each the same as the first or its inverse"; "14 has no inverse": 15 is no condition
abbrev pub agrees : ℕ → ℕ → Bool
agrees first condition = leb condition 14 && (eqb condition first || eqb condition (inverse first))

-- a further place holds none, or a condition that agrees with the first, and then the place before it holds one too
abbrev pub good_place : ℕ → ℕ → ℕ → Bool
good_place first before condition = eqb condition none || not (eqb before none) && agrees first condition

-- "each waiting condition is 0 to 14, each the same as the first or its inverse"
unfoldable pub good_waiting : Waiting → Bool
good_waiting w =
    leb w.first none
    && good_place w.first w.first w.second
    && good_place w.first w.second w.third
    && good_place w.first w.third w.fourth
