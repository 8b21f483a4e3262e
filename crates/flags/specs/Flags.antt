-- "flags N, Z, C, V, Q", the conditions asked of them, and what a result does to them.
use Rattle.std.specs.Prelude.{ℕ, Bool, true, false, not, ◌&&◌, ◌||◌, List, [], ◌∷◌, eqb, get_or}
use Rattle.std.specs.Bool.{beq}
use Rattle.word.specs.Word.{negative}
use Rattle.sum.specs.declared.Sum.{Sum}
use Rattle.flags.specs.declared.Flags.{Flags}

abbrev pub clear : Flags
clear = record { n = false; z = false; c = false; v = false; q = false }

-- whether each condition holds: "Conditions 0 to 14 are EQ NE CS CC MI PL VS VC HI LS GE LT GT LE AL"
abbrev pub conditions : Flags → List Bool
conditions f =
    f.z ∷ not f.z
    ∷ f.c ∷ not f.c
    ∷ f.n ∷ not f.n
    ∷ f.v ∷ not f.v
    ∷ (f.c && not f.z) ∷ (not f.c || f.z)
    ∷ beq f.n f.v ∷ not (beq f.n f.v)
    ∷ (not f.z && beq f.n f.v) ∷ (f.z || not (beq f.n f.v))
    ∷ true
    ∷ []

-- does a condition hold? What is no condition can't fail.
unfoldable pub passes : Flags → ℕ → Bool
passes f condition = get_or (conditions f) condition true

-- N and Z of a result
unfoldable pub signs : ℕ → Flags → Flags
signs value f = record { n = negative value; z = eqb value 0; c = f.c; v = f.v; q = f.q }

-- N and Z of a result, with its carry and its overflow
unfoldable pub all_four : Sum → Flags → Flags
all_four s f = record { n = negative s.value; z = eqb s.value 0; c = s.carry; v = s.overflow; q = f.q }

-- "Saturation only ever sets Q"
unfoldable pub saturating : Bool → Flags → Flags
saturating saturated f = record { n = f.n; z = f.z; c = f.c; v = f.v; q = f.q || saturated }
