-- A record that was read: its fields are well formed, and the place after it is at least two bytes on and within the listing.
-- The bytes at its place are that record and no more.
use Prim.Native.Nat.{ℕ, zero, suc, ◌+◌, ◌≤◌}
use mathlib.Core.Path.{◌≡◌, refl, ap, ◌∙◌}
use mathlib.Core.Bool.{Bool, true, false, false≢true, ◌&&◌, ◌||◌}
use mathlib.Core.Logic.{◌⊎◌, inl, inr}
use mathlib.Core.List.{List, [], ◌∷◌}
use native.Mathlib.Omega.{arith}
use borrow.Author.Tests.{eqb-true, leb-true}
use lib.Dec.{eqb, leb}
use lib.ListN.{length, get_or, drop, length-take}
use Rattle.std.specs.Prelude.{Option, Some, None}
use Rattle.std.specs.Bool.{if◌then◌else◌}
use Rattle.word.proofs.Cases.{cases, both_true, either_true}
use Rattle.little.specs.Little.{byte}
use Rattle.record.specs.declared.Record.{Record}
use Rattle.fields.specs.Fields.{well_formed}
use Rattle.kinds.specs.Kinds.{lengths, listing_length, names, record_of}
use Rattle.reading.specs.declared.Place.{Place}
use Rattle.reading.specs.Reading.{named, read_one, found_at, part, read_at}

-- a test that every entry of a table passes
abbrev every : (ℕ → Bool) → List ℕ → Bool
every test [] = true
every test (x ∷ xs) = test x && every test xs

entry : (test : ℕ → Bool) (xs : List ℕ) (k d : ℕ) → every test xs ≡ true → test d ≡ true → test (get_or xs k d) ≡ true
entry test [] k d all e = e
entry test (x ∷ xs) zero d all e = (both_true (test x) (every test xs) all).0
entry test (x ∷ xs) (suc k) d all e = entry test xs k d (both_true (test x) (every test xs) all).1 e

none_or_two : (kind : ℕ) → (listing_length kind ≡ 0) ⊎ (2 ≤ listing_length kind)
unfolding listing_length
none_or_two kind =
    let n = get_or lengths kind 0 in
    cases (either_true (eqb n 0) (leb 2 n) (entry (λ n. eqb n 0 || leb 2 n) lengths kind 0 refl refl))
    (λ e. inl (eqb-true n 0 e))
    (λ e. inr (leb-true 2 n e))

-- no kind has a record without bytes
none_named : (r : List ℕ) → length r ≡ 0 → named r ≡ true → ⊥
unfolding named names
none_named [] e h = false≢true h
none_named (x ∷ r) e h = omega arith

whole_long : (r : List ℕ) → (eqb (length r) (listing_length (byte r 0)) && named r) ≡ true → 2 ≤ length r
whole_long r h =
    let b = both_true (eqb (length r) (listing_length (byte r 0))) (named r) h in
    let e = eqb-true (length r) (listing_length (byte r 0)) b.0 in
    cases (none_or_two (byte r 0)) (λ n. absurd (none_named r (e ∙ n) b.1)) (λ n. omega arith)

-- what a record that was read says of its bytes
pub record Whole (r : List ℕ) (x : Record) : Type 0 where
  pub long : 2 ≤ length r
  pub formed : well_formed x ≡ true

formed_as : (t : Bool) (r : Record) (x : Record) → well_formed r ≡ t → ◌≡◌ {A = Option Record} (if t then Some r else None) (Some x) → well_formed x ≡ true
formed_as true r x h e = let f : r ≡ x = cc in rw f at h
formed_as false r x h e = let z : ◌≡◌ {A = ℕ} 0 1 = cc in absurd (omega arith)

pub read_whole : (r : List ℕ) (x : Record) → read_one r ≡ Some x → Whole r x
unfolding read_one
read_whole r x = go (eqb (length r) (listing_length (byte r 0)) && named r) refl
  where
    go : (t : Bool) → (eqb (length r) (listing_length (byte r 0)) && named r) ≡ t
        → ◌≡◌ {A = Option Record} (if t then (if well_formed (record_of r) then Some (record_of r) else None) else None) (Some x) → Whole r x
    go true h e = record { long = whole_long r h; formed = formed_as (well_formed (record_of r)) (record_of r) x refl e }
    go false h e = let z : ◌≡◌ {A = ℕ} 0 1 = cc in absurd (omega arith)

-- what a record that was read at a place says of the place after it, and of its bytes
pub record Ahead (listing : List ℕ) (place : ℕ) (r : Record) (next : Place) : Type 0 where
  pub on : place + 2 ≤ next.0
  pub inside : next.0 ≤ length listing
  pub formed : well_formed r ≡ true
  pub read : read_one (part listing place) ≡ Some r

pub ahead : (listing : List ℕ) (place : ℕ) (r : Record) (next : Place) → read_at listing place ≡ Some (r, next) → Ahead listing place r next
unfolding read_at found_at
ahead listing place r next = go (leb (place + listing_length (byte listing place)) (length listing)) refl
  where
    size : ℕ
    size = listing_length (byte listing place)

    came : (x : Option Record) → read_one (part listing place) ≡ x → place + size ≤ length listing → found_at x (place + size) ≡ Some (r, next) → Ahead listing place r next
    came (Some x) f h e =
        let pair : ◌≡◌ {A = Record × Place} (x, record { 0 = place + size }) (r, next) = cc in
        let n : place + size ≡ next.0 = ap (λ (p : Record × Place). p.1.0) pair in
        let same : x ≡ r = ap (λ (p : Record × Place). p.0) pair in
        let l = length-take size (drop place listing) in
        let whole = read_whole (part listing place) x f in
        record { on = omega arith; inside = omega arith; formed = rw same at whole.formed; read = f ∙ ap Some same }
    came None f h e = let z : ◌≡◌ {A = ℕ} 0 1 = cc in absurd (omega arith)

    go : (t : Bool) → leb (place + size) (length listing) ≡ t
        → ◌≡◌ {A = Option (Record × Place)} (if t then found_at (read_one (part listing place)) (place + size) else None) (Some (r, next)) → Ahead listing place r next
    go true h e = came (read_one (part listing place)) refl (leb-true (place + size) (length listing) h) e
    go false h e = let z : ◌≡◌ {A = ℕ} 0 1 = cc in absurd (omega arith)
