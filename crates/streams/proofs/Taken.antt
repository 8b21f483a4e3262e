-- What was taken from an input, by what its reads consumed.
use Rattle.std.proofs.Common.{◌≡◌, ℕ, subst, List, Option, Some, None, IfSome, Result, Ok, Err, OnOk, IsOk, take, refl}
use mathlib.Core.Bool.{false≢true}
use Rattle.std.specs.Io.KnownBytes.{Appends}
use Rattle.std.specs.Result.{result_and}

-- what holds of the bytes holds of the first of those that are known
of_filled : (P : List ℕ → Type 0) (known : Option (List ℕ)) (most : ℕ) (bytes : List ℕ)
    → IfSome known (λ xs. bytes ≡ take most xs) → P bytes → IfSome known (λ xs. P (take most xs))
of_filled P None most bytes f p = tt
of_filled P (Some xs) most bytes f p = subst P f p

-- where the input was read and the text was written without a failure, what holds of the bytes holds of those of the input
pub carried : {T E : Type 0} (all read wrote : Result T E) (known : Option (List ℕ)) (size most : ℕ) (bytes : List ℕ) (P : List ℕ → Type 0)
    → OnOk all (IsOk read × IsOk wrote) → size ≡ most → OnOk read (IfSome known (λ xs. bytes ≡ take size xs)) → OnOk wrote (P bytes)
    → OnOk all (IfSome known (λ xs. P (take most xs)))
carried (Err e) read wrote known size most bytes P h same f w = tt
carried (Ok x) (Err e) wrote known size most bytes P h same f w = absurd (false≢true h.0)
carried (Ok x) (Ok y) (Err e) known size most bytes P h same f w = absurd (false≢true h.1)
carried (Ok x) (Ok y) (Ok z) known size most bytes P h same f w = of_filled P known most bytes (rw (← same) f) w

-- a text by another name
pub renamed : {T E : Type 0} (r : Result T E) (old new : Option (List ℕ)) (a b : List ℕ) → a ≡ b → OnOk r (Appends old new a) → OnOk r (Appends old new b)
renamed r old new a b e h = subst (λ text. OnOk r (Appends old new text)) e h

-- what follows where it went well
pub under : {T E P Q : Type 0} (r : Result T E) → (P → Q) → OnOk r P → OnOk r Q
under (Ok x) f h = f h
under (Err e) f h = tt

-- where the whole of three went well, so did each
three_ok : {T E : Type 0} (a b c : Result T E) → OnOk (result_and a (result_and b c)) (IsOk a × IsOk b × IsOk c)
three_ok (Err e) b c = tt
three_ok (Ok x) (Err e) c = tt
three_ok (Ok x) (Ok y) (Err e) = tt
three_ok (Ok x) (Ok y) (Ok z) = (refl, refl, refl)

pub three : {T E : Type 0} (all a m b c : Result T E) → all ≡ result_and a m → m ≡ result_and b c → OnOk all (IsOk a × IsOk b × IsOk c)
three all a m b c e k = rw (e, k) (three_ok a b c)
