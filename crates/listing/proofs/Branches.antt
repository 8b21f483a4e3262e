-- What the table of landing places says of a branch.
use Prim.Native.Nat.{ℕ, ◌+◌, ◌%◌, ◌^◌, ◌≤◌}
use mathlib.Core.Path.{◌≡◌, refl, ap, ◌∙◌}
use mathlib.Core.Bool.{Bool, true, false, not, ◌||◌}
use mathlib.Core.List.{List, [], ◌∷◌}
use native.Mathlib.Omega.{arith}
use lib.IntN.{ℤ}
use lib.ListN.{length}
use Rattle.std.specs.Bool.{if◌then◌else◌}
use Rattle.flow.specs.Flow.{target}
use Rattle.flow.specs.declared.Way.{Way}
use Rattle.flow.specs.declared.Way.TheVariants.{Next, Direct, Taken, Fills}
use Rattle.layout.specs.declared.Point.{Point}
use Rattle.layout.specs.Layout.{meets, layout}
use Rattle.layout.proofs.Turns.{Passed}
use Rattle.landing.specs.declared.Landing.{Landing}
use Rattle.landing.specs.Landing.{lands_at, lands, landing}
use Rattle.landing.specs.Code.{Table, table, tabled, last_in_table, is_listed, landing_place, Sorted, Tells}
use Rattle.landing.proofs.Halves.{hits, last_listed}
use Rattle.landing.proofs.Tabling.{tells}
use Rattle.std.specs.Prelude.{Option, Some, is_some}
use Rattle.listing.specs.Check.{astray, branch_fault, first_pass}
use Rattle.listing.proofs.Accepted.{sound_low}

-- the code's table of a listing that the first pass leaves is that of its landing places
pub table_tells : (listing : List ℕ) (base : ℕ) → length listing ≤ 65536 → (first_pass listing base).number ≡ 0 → (addresses places : List ℕ)
    → length addresses ≡ 32769 → length places ≡ 32769 → Tells (tabled listing base (table addresses places 0)) listing base
table_tells listing base size sound = tells listing base size (λ p o. omega (arith, sound_low listing base sound p o))

pub target_mod : (address : ℕ) (w : Way) → target (address % 2 ^ 32) w ≡ target address w
unfolding target
target_mod address Next = refl
target_mod address (Direct offset) = let e : (address % 2 ^ 32 + 4) % 2 ^ 32 ≡ (address + 4) % 2 ^ 32 = omega arith in rw e
target_mod address Taken = refl
target_mod address Fills = refl

-- a direct branch is astray where the last landing place that is not above its target is another
pub astray_by : (t : Table) → Sorted t → (w : Way) (address to : ℕ) (found : Option Landing) (offset : ℤ) → to ≡ target (address % 2 ^ 32) w → w ≡ Direct offset
    → found ≡ last_in_table t to → not (hits found to) ≡ astray (is_listed t) w address
unfolding astray
astray_by t sorted w address to found offset e f g =
    rw (g, ← last_listed t sorted to, e, target_mod address w, f)

place_lands : (listing : List ℕ) (address : ℕ) (ps : List Point) → is_some (landing_place listing address ps) ≡ lands listing address ps
unfolding landing_place lands
place_lands listing address [] = refl
place_lands listing address (p ∷ ps) = go (place_lands listing address ps) (lands_at listing address p)
  where
    go : is_some (landing_place listing address ps) ≡ lands listing address ps → (t : Bool)
        → is_some (if t then Some p.place else landing_place listing address ps) ≡ (t || lands listing address ps)
    go rest true = refl
    go rest false = rest

astray_same : (f g : ℕ → Bool) → ((address : ℕ) → f address ≡ g address) → (w : Way) (address : ℕ) → astray f w address ≡ astray g w address
unfolding astray
astray_same f g same Next address = refl
astray_same f g same (Direct offset) address = rw (same (target address (Direct offset)))
astray_same f g same Taken address = refl
astray_same f g same Fills address = refl

-- the number of a record by the table
pub branch_number : (listing : List ℕ) (base : ℕ) (t : Table) → Tells t listing base → (p : Point) (w : Way) (q : Point) → Passed listing p w q
    → (off : Bool) → off ≡ astray (is_listed t) w p.address.0 → branch_fault listing base (meets listing p) p ≡ (if off then 9 else 0)
unfolding branch_fault landing
branch_number listing base t tells p w q g off e =
    let same : (address : ℕ) → is_listed t address ≡ landing listing base address =
    λ address. ap is_some (tells.all address) ∙ place_lands listing address (layout listing base) in
    rw (g.goes, ← g.leads, ← astray_same (is_listed t) (landing listing base) same w p.address.0, ← e)
