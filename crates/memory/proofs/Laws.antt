-- Accesses, over their width.
use Rattle.std.proofs.Common.{◌≡◌, ℕ, zero, suc, ◌+◌, ◌-◌, ◌*◌, ◌/◌, ◌%◌, ◌^◌, ◌<◌, ◌≤◌, Bool, true, false, ltb, List, length, set, refl, ap, ◌∙◌, arith, length-set, pow_mono, pow-add, le-ltb, lt-ltb, le-leb}
use lib.ListN.{get_or-eq_default}
use lib.Bits.{bit_or, or_shifted}
use borrow.Author.Tests.{lt-leb}
use Rattle.std.specs.Bool.{if◌then◌else◌}
use Rattle.word.proofs.Cases.{cases, yes_or_no, le_or_gt, ltb_both}
use Rattle.little.specs.Little.{byte, little, number_at}
use Rattle.little.proofs.Laws.{little_join}
use Rattle.setup.specs.declared.Setup.{Setup}
use Rattle.memory.specs.Memory.{further, holds, inside, byte_at, loaded, put_byte, stored}

below : (setup : Setup) (size a : ℕ) → a < setup.base → holds setup size a ≡ false
below setup size a h = rw (lt-leb setup.base a h)

-- by the offset from the base
pub held_by_offset : (setup : Setup) (size a : ℕ) → setup.base ≤ a → ltb (a - setup.base) size ≡ holds setup size a
held_by_offset setup size a h = rw (le-leb setup.base a h) (ltb_both (a - setup.base) size a (setup.base + size) (λ k. omega arith) (λ k. omega arith))

pub byte_below : (setup : Setup) (bytes : List ℕ) (a : ℕ) → a < setup.base → 0 ≡ byte_at setup bytes a
unfolding byte_at
byte_below setup bytes a h = rw (below setup (length bytes) a h)

pub byte_from_base : (setup : Setup) (bytes : List ℕ) (a : ℕ) → setup.base ≤ a → byte bytes (a - setup.base) ≡ byte_at setup bytes a
unfolding byte_at
byte_from_base setup bytes a h =
    rw (← held_by_offset setup (length bytes) a h)
    (cases (le_or_gt (length bytes) (a - setup.base))
    (λ p. rw (le-ltb (a - setup.base) (length bytes) p, get_or-eq_default bytes 0 p))
    (λ p. rw (lt-ltb (a - setup.base) (length bytes) p)))

pub put_below : (setup : Setup) (bytes : List ℕ) (a x : ℕ) → a < setup.base → bytes ≡ put_byte setup bytes a x
unfolding put_byte
put_below setup bytes a x h = rw (below setup (length bytes) a h)

pub put_here : (setup : Setup) (bytes : List ℕ) (a x : ℕ) → setup.base ≤ a → a - setup.base < length bytes
    → set bytes (a - setup.base) x ≡ put_byte setup bytes a x
unfolding put_byte
put_here setup bytes a x h k = rw (← held_by_offset setup (length bytes) a h, lt-ltb (a - setup.base) (length bytes) k)

pub put_past : (setup : Setup) (bytes : List ℕ) (a x : ℕ) → setup.base ≤ a → length bytes ≤ a - setup.base → bytes ≡ put_byte setup bytes a x
unfolding put_byte
put_past setup bytes a x h k = rw (← held_by_offset setup (length bytes) a h, le-ltb (a - setup.base) (length bytes) k)

-- one byte outside is enough
pub outside : (count i : ℕ) (setup : Setup) (size a : ℕ) → i < count → holds setup size (further a i) ≡ false → inside count setup size a ≡ false
unfolding inside
outside zero i setup size a h e = absurd (omega arith)
outside (suc n) i setup size a h e =
    cases (le_or_gt n i)
    (λ p. let here : i ≡ n = omega arith in cases (yes_or_no (inside n setup size a)) (λ q. rw (q, ← here, e)) (λ q. rw q))
    (λ p. rw (outside n i setup size a p e))

-- one byte more
pub inside_more : (i : ℕ) (setup : Setup) (size a : ℕ) → inside i setup size a ≡ true → holds setup size (further a i) ≡ true → inside (i + 1) setup size a ≡ true
unfolding inside
inside_more i setup size a h e = let s : i + 1 ≡ suc i = omega arith in rw (s, h, e)

-- bytes in one run, which doesn't pass 2 ^ 32
pub run_inside : (count : ℕ) (setup : Setup) (size a : ℕ)
    → setup.base ≤ a → a + count ≤ setup.base + size → a + count ≤ 2 ^ 32 → inside count setup size a ≡ true
unfolding inside
run_inside zero setup size a h k l = refl
run_inside (suc n) setup size a h k l =
    rw (
      run_inside n setup size a h (omega arith) (omega arith),
      le-leb setup.base (further a n) (omega arith),
      lt-ltb (further a n) (setup.base + size) (omega arith),
    )

-- ---- accesses by the offset that `offset_of` answers
abbrev pub Offset : Setup → ℕ → ℕ → ℕ → Type 0
Offset setup size a at = at < size → (a ≡ setup.base + at) × (setup.base + size ≤ 2 ^ 32)

pub quick_inside : (count : ℕ) (setup : Setup) (size a at : ℕ) → Offset setup size a at → at + count ≤ size → inside count setup size a ≡ true
unfolding inside
quick_inside zero setup size a at o h = refl
quick_inside (suc n) setup size a at o h =
    let k = o (omega arith) in
    run_inside (suc n) setup size a (omega arith) (omega arith) (omega arith)

-- the byte i further is at the offset i further
offset_on : (i : ℕ) (setup : Setup) (size a at : ℕ) → Offset setup size a at → at + i < size
    → (setup.base ≤ further a i) × (further a i - setup.base ≡ at + i)
offset_on i setup size a at o h = let k = o (omega arith) in (omega arith, omega arith)

pub quick_loaded : (count : ℕ) (setup : Setup) (bytes : List ℕ) (a at : ℕ) → Offset setup (length bytes) a at → at + count ≤ length bytes
    → loaded count setup bytes a ≡ number_at count bytes at
unfolding loaded little
quick_loaded zero setup bytes a at o h = refl
quick_loaded (suc n) setup bytes a at o h =
    let k = offset_on n setup (length bytes) a at o (omega arith) in
    rw (quick_loaded n setup bytes a at o (omega arith), ← byte_from_base setup bytes (further a n) k.0, k.1)

-- one byte, and so many above it
loaded_join : (k : ℕ) (setup : Setup) (bytes : List ℕ) (a low rest : ℕ) → a < 2 ^ 32 → low ≡ byte_at setup bytes a → rest ≡ loaded k setup bytes (further a 1)
    → rest * 2 ^ 8 + low ≡ loaded (1 + k) setup bytes a
unfolding loaded little
loaded_join k setup bytes a low rest h l r =
    let here : further a 0 ≡ a = omega arith in
    rw (little_join 1 k (λ i. byte_at setup bytes (further a i)) (λ i. byte_at setup bytes (further (further a 1) i)) (λ i. ap (byte_at setup bytes) (on i)), here, ← l, ← r)
    (omega arith)
  where
    on : (i : ℕ) → further a (1 + i) ≡ further (further a 1) i
    on i = omega arith

digit_more : (k low rest : ℕ) → low < 2 ^ 8 → rest < 2 ^ (8 * k) → rest * 2 ^ 8 + low < 2 ^ (8 * (1 + k))
digit_more k low rest l r = let e : 8 * (1 + k) ≡ 8 * k + 8 = omega arith in rw (e, pow-add 2 (8 * k) 8) (omega arith)

pub loaded_next : (n : ℕ) (setup : Setup) (bytes : List ℕ) (a low rest : ℕ) → 1 ≤ n → n ≤ 4 → a < 2 ^ 32 → low < 2 ^ 8
    → low ≡ byte_at setup bytes a → rest ≡ loaded (n - 1) setup bytes (further a 1) → rest < 2 ^ (8 * (n - 1))
    → (bit_or (rest * 2 ^ 8 % 2 ^ 32) low ≡ loaded n setup bytes a) × (bit_or (rest * 2 ^ 8 % 2 ^ 32) low < 2 ^ (8 * n))
loaded_next n setup bytes a low rest some few h small l r below =
    let e : 1 + (n - 1) ≡ n = omega arith in
    let top = pow_mono {i = 8 * (n - 1)} {j = 24} (omega arith) in
    let f : rest * 2 ^ 8 % 2 ^ 32 ≡ rest * 2 ^ 8 = omega (arith, top) in
    rw (f, or_shifted rest 8 low small, ← e) (loaded_join (n - 1) setup bytes a low rest h l r, digit_more (n - 1) low rest small below)

pub stored_next : (n : ℕ) (setup : Setup) (bytes : List ℕ) (a v : ℕ) → 1 ≤ n
    → put_byte setup (stored (n - 1) setup bytes a v) (further a (n - 1)) (v / 2 ^ (8 * (n - 1)) % 2 ^ 8) ≡ stored n setup bytes a v
unfolding stored
stored_next zero setup bytes a v h = absurd (omega arith)
stored_next (suc k) setup bytes a v h = let e : suc k - 1 ≡ k = omega arith in rw e

-- ---- memory's length: a store keeps it, and the limits ask for no more
put_length : (setup : Setup) (bytes : List ℕ) (a x : ℕ) → length (put_byte setup bytes a x) ≡ length bytes
unfolding put_byte
put_length setup bytes a x = go (holds setup (length bytes) a) _
  where
    go : (t : Bool) (i : ℕ) → length (if t then set bytes i x else bytes) ≡ length bytes
    go true i = length-set bytes i x
    go false i = refl

pub stored_length : (count : ℕ) (setup : Setup) (bytes : List ℕ) (a v : ℕ) → length (stored count setup bytes a v) ≡ length bytes
unfolding stored
stored_length zero setup bytes a v = refl
stored_length (suc n) setup bytes a v = put_length setup (stored n setup bytes a v) _ _ ∙ stored_length n setup bytes a v

-- bytes with the `count` lowest bytes of a number from an offset on
unfoldable pub laid : ℕ → List ℕ → ℕ → ℕ → List ℕ
laid zero bytes at v = bytes
laid (suc i) bytes at v = set (laid i bytes at v) (at + i) (v / 2 ^ (8 * i) % 2 ^ 8)

pub quick_stored : (count : ℕ) (setup : Setup) (bytes : List ℕ) (a at v : ℕ) → Offset setup (length bytes) a at → at + count ≤ length bytes
    → stored count setup bytes a v ≡ laid count bytes at v
unfolding stored laid
quick_stored zero setup bytes a at v o h = refl
quick_stored (suc n) setup bytes a at v o h =
    let k = offset_on n setup (length bytes) a at o (omega arith) in
    let l : further a n - setup.base < length (stored n setup bytes a v) = rw (stored_length n setup bytes a v) (omega arith) in
    rw (← put_here setup (stored n setup bytes a v) (further a n) (v / 2 ^ (8 * n) % 2 ^ 8) k.0 l, k.1, quick_stored n setup bytes a at v o (omega arith))
