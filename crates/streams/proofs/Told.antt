-- The text that a rehearsal lays at the front of its room, and the places that it answers.
use Rattle.std.proofs.Common.{◌≡◌, ℕ, ◌≤◌, List, length, take, drop, ap, ◌∙◌}
use Rattle.std.proofs.Math.Seq.{take-append_seam}
use borrow.Author.Tests.{le-leb}
use Rattle.rehearsal.specs.declared.Answer.{Answer}
use Rattle.rehearsal.specs.Program.{text_of, place_of, stored_of, laid, Told, told, rehearsed}
use Rattle.rehearsal.proofs.Room.{text_length}

-- where the room has room for it
laid_front : (text room : List ℕ) → length text ≤ length room → take (length text) (laid text room) ≡ text
unfolding laid
laid_front text room h = rw (le-leb (length text) (length room) h) (take-append_seam text (drop (length text) room))

pub told_text : (answer : Answer) (budget : ℕ) (listing room after : List ℕ) → told answer after ≡ rehearsed budget listing room
    → length room ≡ 256 → take answer.length after ≡ text_of budget listing
unfolding rehearsed
told_text answer budget listing room after e size =
    let n : answer.length ≡ length (text_of budget listing) = ap (λ (t : Told). t.answer.length) e in
    let front : after ≡ laid (text_of budget listing) room = ap (λ (t : Told). t.room) e in
    let h : length (text_of budget listing) ≤ length room = rw size (text_length budget listing) in
    ap (λ k. take k after) n ∙ ap (take (length (text_of budget listing))) front ∙ laid_front (text_of budget listing) room h

pub told_place : (answer : Answer) (budget : ℕ) (listing room after : List ℕ) → told answer after ≡ rehearsed budget listing room
    → answer.place.0 ≡ place_of budget listing
unfolding rehearsed
told_place answer budget listing room after e = ap (λ (t : Told). t.answer.place.0) e

pub told_stored : (answer : Answer) (budget : ℕ) (listing room after : List ℕ) → told answer after ≡ rehearsed budget listing room
    → answer.stored ≡ stored_of budget listing
unfolding rehearsed
told_stored answer budget listing room after e = ap (λ (t : Told). t.answer.stored) e
