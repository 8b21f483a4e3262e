-- The text of the places, as a format writes it: piece after piece.
use Rattle.std.specs.Prelude.{Option, Some, None}
use Rattle.std.proofs.Common.{◌≡◌, ℕ, List, ◌++◌, false, sym, ◌∙◌, append_assoc}
use Rattle.std.specs.Fmt.{digits}
use Rattle.reading.specs.declared.Place.{Place}
use Rattle.text.specs.Text.{letters}
use Rattle.streams.specs.Streams.{places_text}

pieces : (a b c d e : List ℕ) → a ++ (b ++ (c ++ (d ++ e))) ≡ a ++ b ++ c ++ d ++ e
pieces a b c d e = sym (append_assoc a b (c ++ (d ++ e))) ∙ sym (append_assoc (a ++ b) c (d ++ e)) ∙ sym (append_assoc (a ++ b ++ c) d e)

pub said_in : (place : ℕ) (stored : Option Place) (next : Place) → stored ≡ Some next
    → letters "place " ++ (digits 10 false place ++ (letters "\nstored " ++ (digits 10 false next.0 ++ letters "\n"))) ≡ places_text place stored
unfolding places_text
said_in place stored next e = rw e (pieces (letters "place ") (digits 10 false place) (letters "\nstored ") (digits 10 false next.0) (letters "\n"))

pub said_none : (place : ℕ) (stored : Option Place) → stored ≡ None
    → letters "place " ++ (digits 10 false place ++ letters "\nstored none\n") ≡ places_text place stored
unfolding places_text
said_none place stored e = rw e (sym (append_assoc (letters "place ") (digits 10 false place) (letters "\nstored none\n")))
