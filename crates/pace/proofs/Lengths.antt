-- How many bytes a record has, by its kind.
use Rattle.std.proofs.Common.{◌≡◌, ℕ, ◌+◌, ◌≤◌, Bool, true, false, ◌&&◌, eqb, List, length, Option, Some, None, refl, arith, eqb-true}
use Rattle.std.specs.Bool.{if◌then◌else◌}
use Rattle.little.specs.Little.{byte}
use Rattle.record.specs.declared.Record.{Record}
use Rattle.kinds.specs.Kinds.{lengths, listing_length, record_of}
use Rattle.fields.specs.Fields.{well_formed}
use Rattle.reading.specs.Reading.{named, read_one}
use Rattle.reading.proofs.Places.{read_whole}
use Rattle.lent.specs.Lent.{Formed}
use Rattle.pace.specs.Pace.{SteppedKind}
use Rattle.pace.proofs.Table.{Rows, entry}

-- ---- how many bytes there are
abbrev Enough : ℕ → ℕ → Type 0
Enough k n = 1 ≤ k → k ≤ 22 → (2 ≤ n) × ((k ≡ 21 → ⊥) → 4 ≤ n)

some : (k n : ℕ) → 4 ≤ n → Enough k n
some k n h a b = (omega arith, λ e. h)

enough_rows : Rows Enough 0 0 lengths
enough_rows =
    (λ a b. absurd (omega arith), (some _ 8 (omega arith), (some _ 9 (omega arith), (some _ 6 (omega arith), (some _ 7 (omega arith), (some _ 6 (omega arith), (some _ 5 (omega arith), (some _ 7 (omega arith), (some _ 7 (omega arith), (some _ 6 (omega arith), (some _ 8 (omega arith), (some _ 7 (omega arith), (some _ 6 (omega arith), (some _ 8 (omega arith), (some _ 7 (omega arith), (some _ 9 (omega arith), (some _ 7 (omega arith), (some _ 8 (omega arith), (some _ 4 (omega arith), (some _ 5 (omega arith), (some _ 5 (omega arith), (λ a b. (omega arith, λ n. absurd (n refl)), (some _ 5 (omega arith), (λ a b. absurd (omega arith), λ k a b. absurd (omega arith)))))))))))))))))))))))))

pub long_enough : (kind : ℕ) → 1 ≤ kind → kind ≤ 22 → (2 ≤ listing_length kind) × ((kind ≡ 21 → ⊥) → 4 ≤ listing_length kind)
unfolding listing_length
long_enough kind = let e : kind + 0 ≡ kind = omega arith in rw e at (entry Enough 0 0 lengths enough_rows kind)

pub there : (r : List ℕ) → SteppedKind r → (2 ≤ length r) × ((byte r 0 ≡ 21 → ⊥) → 4 ≤ length r)
there r k =
    let e = long_enough (byte r 0) k.least k.most in
    let w = k.sound.whole in
    (omega arith, λ n. let f = e.1 n in omega arith)

-- a block has three bytes after the form's
pub block_there : (r : List ℕ) → SteppedKind r → byte r 0 ≡ 20 → 5 ≤ length r
unfolding listing_length
block_there r k e = rw e at k.sound.whole

-- ---- bytes that were read
-- a length of two or more is that of a kind
abbrev Known : ℕ → ℕ → Type 0
Known k n = 2 ≤ n → (1 ≤ k) × (k ≤ 23)

known_rows : Rows Known 0 0 lengths
known_rows =
    (λ h. absurd (omega arith), (λ h. (omega arith, omega arith), (λ h. (omega arith, omega arith), (λ h. (omega arith, omega arith), (λ h. (omega arith, omega arith), (λ h. (omega arith, omega arith), (λ h. (omega arith, omega arith), (λ h. (omega arith, omega arith), (λ h. (omega arith, omega arith), (λ h. (omega arith, omega arith), (λ h. (omega arith, omega arith), (λ h. (omega arith, omega arith), (λ h. (omega arith, omega arith), (λ h. (omega arith, omega arith), (λ h. (omega arith, omega arith), (λ h. (omega arith, omega arith), (λ h. (omega arith, omega arith), (λ h. (omega arith, omega arith), (λ h. (omega arith, omega arith), (λ h. (omega arith, omega arith), (λ h. (omega arith, omega arith), (λ h. (omega arith, omega arith), (λ h. (omega arith, omega arith), (λ h. (omega arith, omega arith), λ k h. absurd (omega arith)))))))))))))))))))))))))

known : (kind : ℕ) → 2 ≤ listing_length kind → (1 ≤ kind) × (kind ≤ 23)
unfolding listing_length
known kind = let e : kind + 0 ≡ kind = omega arith in rw e at (entry Known 0 0 lengths known_rows kind)

pub record ReadSo (b : List ℕ) (x : Record) : Type 0 where
  pub is : x ≡ record_of b
  pub sound : Formed b
  pub least : 1 ≤ byte b 0
  pub most : byte b 0 ≤ 23

pub read_so : (b : List ℕ) (x : Record) → read_one b ≡ Some x → ReadSo b x
unfolding read_one
read_so b x e = go (eqb (length b) (listing_length (byte b 0))) (named b) (well_formed (record_of b)) refl refl e
  where
    long : 2 ≤ length b
    long = (read_whole b x e).long

    go : (t n f : Bool) → eqb (length b) (listing_length (byte b 0)) ≡ t → well_formed (record_of b) ≡ f
        → ◌≡◌ {A = Option Record} (if t && n then (if f then Some (record_of b) else None) else None) (Some x) → ReadSo b x
    go true true true h w g =
        let l = eqb-true (length b) (listing_length (byte b 0)) h in
        let k = known (byte b 0) (omega (arith, l, long)) in
        record { is = cc; sound = record { whole = omega (arith, l); formed = w }; least = k.0; most = k.1 }
    go true true false h w g = let z : ◌≡◌ {A = ℕ} 0 1 = cc in absurd (omega arith)
    go true false f h w g = let z : ◌≡◌ {A = ℕ} 0 1 = cc in absurd (omega arith)
    go false n f h w g = let z : ◌≡◌ {A = ℕ} 0 1 = cc in absurd (omega arith)
