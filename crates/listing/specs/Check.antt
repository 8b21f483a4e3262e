-- "The check reads all records first and reports 2, 3, 4 at the lowest place, the lowest number there .. Then comes the
-- end address (1), then the lowest place with 9. .. An accepted listing reports place 0."
use Rattle.std.specs.Prelude.{ℕ, Bool, false, not, ◌||◌, List, [], ◌∷◌, ltb, eqb, length}
use Rattle.std.specs.Bool.{if◌then◌else◌}
use Rattle.word.specs.Word.{bit}
use Rattle.flow.specs.Flow.{way, target}
use Rattle.flow.specs.declared.Way.{Way}
use Rattle.flow.specs.declared.Way.TheVariants.{Next, Direct, Taken, Fills}
use Rattle.layout.specs.declared.Point.{Point}
use Rattle.layout.specs.Layout.{Met, Onward, AtEnd, Refusal, free, meets, layout}
use Rattle.landing.specs.Landing.{landing}
use Rattle.reading.specs.declared.Place.{Place}

-- the number that a listing is refused with, and where; 0 and place 0 of one that is accepted
pub record Checked : Type 0 where
  pub number : ℕ
  pub place : Place

abbrev pub report : ℕ → ℕ → Checked
report number place = record { number = number; place = record { 0 = place } }

-- the first point that has a number: places rise along the layout, so it is the lowest place; 0 and place 0 where none has
unfoldable pub lowest : (Point → ℕ) → List Point → Checked
lowest number [] = report 0 0
lowest number (p ∷ ps) = if eqb (number p) 0 then lowest number ps else report (number p) p.place.0

-- "a block not finished at the end is 4 at place = length"; "end address above 0xFFFFFFFE" is 1
unfoldable pub end_fault : Point → ℕ
end_fault p = if not (free p) then 4 else (if ltb 0xFFFFFFFE p.address.0 then 1 else 0)

unfoldable pub fault : Met → Point → ℕ
fault (Onward r q) p = 0
fault AtEnd p = end_fault p
fault (Refusal number) p = number

-- "direct branch to a non-landing place"
unfoldable pub astray : (ℕ → Bool) → Way → ℕ → Bool
astray lands Next address = false
astray lands (Direct offset) address = not (lands (target address (Direct offset)))
astray lands Taken address = false
astray lands Fills address = false

unfoldable pub branch_fault : List ℕ → ℕ → Met → Point → ℕ
branch_fault listing base (Onward r q) p = if astray (landing listing base) (way r) p.address.0 then 9 else 0
branch_fault listing base AtEnd p = 0
branch_fault listing base (Refusal number) p = 0

-- 2, 3 and 4, then the end
unfoldable pub first_pass : List ℕ → ℕ → Checked
first_pass listing base = lowest (λ p. fault (meets listing p) p) (layout listing base)

-- 9
unfoldable pub second_pass : List ℕ → ℕ → Checked
second_pass listing base = lowest (λ p. branch_fault listing base (meets listing p) p) (layout listing base)

-- "listing over 65,536 bytes or base odd (place 0)"
unfoldable pub checked : List ℕ → ℕ → Checked
checked listing base =
    if ltb 65536 (length listing) || bit 0 base then report 1 0
    else (let first = first_pass listing base in if eqb first.number 0 then second_pass listing base else first)
