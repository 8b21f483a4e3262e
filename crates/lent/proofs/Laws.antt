-- Registers written, looked at, and taken back; and what the step's definitions make of a machine that is put together from its parts.
use Rattle.std.proofs.Common.{◌≡◌, ℕ, ◌≤◌, Bool, true, false, eqb, List, length, get_or, set, Result, Ok, Err, IsErrAnd, sym, refl, ap, ◌∙◌, set-set}
use lib.Seq.{set-get_or}
use Rattle.std.proofs.lemmas.Result.{err_from_is_err_and}
use Rattle.std.specs.Bool.{if◌then◌else◌}
use Rattle.record.specs.declared.Record.{Record}
use Rattle.fields.specs.Fields.{well_formed}
use Rattle.kinds.specs.Kinds.{listing_length, readings, nop_from, record_of}
use Rattle.flags.specs.declared.Flags.{Flags}
use Rattle.refusal.specs.declared.Refusal.{Refusal}
use Rattle.refusal.specs.declared.Refusal.TheVariants.{Unsteady}
use Rattle.refusal.specs.Refusal.{number_of}
use Rattle.waiting.specs.declared.Waiting.{Waiting}
use Rattle.machine.specs.Machine.{held, written, steady, settled, done, refused, keeping}
use Rattle.machine.specs.Access.{storing}
use Rattle.lent.specs.Lent.{assembled, put_in, steady_in, Settled, came, OfKind}

-- ---- taken back
module _ (e : List ℕ) where
  pub back_one : (p m : List ℕ) (i pc k : ℕ) → p ≡ set e i k → pc ≡ get_or e i 0 → m ≡ set p i pc → m ≡ e
  back_one p m i pc k hp hpc hm = rw (hm, hp, hpc, set-set e i k (get_or e i 0)) (set-get_or e i 0)

pub back_two : (e p q l m : List ℕ) (i rd old pc k v : ℕ) → p ≡ set e i k → old ≡ get_or p rd 0 → q ≡ set p rd v
    → l ≡ set q rd old → pc ≡ get_or e i 0 → m ≡ set l i pc → m ≡ e
back_two e p q l m i rd old pc k v hp ho hq hl hpc hm = back_one e p m i pc k hp hpc (rw (← back_one p q l rd old v hq ho hl) hm)

pub back_three : (e p q s l m k : List ℕ) (i rn rt first second pc a b c : ℕ) → p ≡ set e i a → first ≡ get_or p rn 0 → q ≡ set p rn b
    → second ≡ get_or q rt 0 → s ≡ set q rt c → l ≡ set s rt second → m ≡ set l rn first → pc ≡ get_or e i 0 → k ≡ set m i pc → k ≡ e
back_three e p q s l m k i rn rt first second pc a b c hp hf hq hs hc hl hm hpc hk =
    back_two e p q m k i rn first pc a b hp hf hq (rw (← back_one q s l rt second c hc hs hl) hm) hpc hk

-- R13 was looked at, and it was a multiple of 4; or not, and all is as it was
module _ (e n a : List ℕ) (b : Bool) (there : a ≡ n) (looked : b ≡ steady_in a) where
  pub stood : b ≡ true → Settled e n a (Ok tt)
  stood t =
      let s : steady_in n ≡ true = ap steady_in (sym there) ∙ sym looked ∙ t in
      record { told = rw s; left = rw s there }

  pub fell : (after : List ℕ) → b ≡ false → after ≡ e → Settled e n after (Err Unsteady)
  fell after t back =
      let s : steady_in n ≡ false = ap steady_in (sym there) ∙ sym looked ∙ t in
      record { told = rw s; left = rw s back }

-- ---- what `settled` and `storing` say of them
-- by the test, R13's
was_fine : (b : Bool) (e n x : List ℕ) (r : Result Unit Refusal) (u : Unit) → r ≡ (if b then Ok tt else Err Unsteady) → x ≡ (if b then n else e)
    → r ≡ Ok u → (b ≡ true) × (x ≡ n)
was_fine true e n x r u told left t = (refl, left)
was_fine false e n x r u told left t = cc

fell_back : (b : Bool) (e n x : List ℕ) (r : Result Unit Refusal) (k : Refusal) → r ≡ (if b then Ok tt else Err Unsteady) → x ≡ (if b then n else e)
    → r ≡ Err k → (b ≡ false) × (x ≡ e) × (k ≡ Unsteady)
fell_back true e n x r k told left t = cc
fell_back false e n x r k told left t = (refl, left, cc)

either_way : (b : Bool) (e n : List ℕ) (f : Flags) (w v : Waiting)
    → came (number_of (if b then Ok (tt {0}) else Err Unsteady)) (if b then n else e) f w v
    ≡ (if b then done (assembled n f v) else refused 7 (assembled e f w))
unfolding done refused
either_way true e n f w v = refl
either_way false e n f w v = refl

module _ (e n x : List ℕ) (r : Result Unit Refusal) (s : Settled e n x r) where
  -- at flags that stay
  pub settled_so : (f : Flags) (w v : Waiting) → came (number_of r) x f w v ≡ settled (assembled e f w) (assembled n f v)
  unfolding settled steady held
  settled_so f w v = rw (s.told, s.left) (either_way (steady_in n) e n f w v)

  module _ (u : Unit) (t : r ≡ Ok u) where
    pub settled_fine : (f g : Flags) (w v : Waiting) → came 0 x g w v ≡ settled (assembled e f w) (assembled n g v)
    unfolding settled steady held done refused
    settled_fine f g w v = let k = was_fine (steady_in n) e n x r u s.told s.left t in rw (k.0, k.1)

    pub storing_fine : (bytes after : List ℕ) (f : Flags) (w v : Waiting)
        → keeping (came 0 x f w v) after ≡ storing (assembled e f w) (assembled n f v) bytes after
    unfolding storing steady held done refused
    storing_fine bytes after f w v = let k = was_fine (steady_in n) e n x r u s.told s.left t in rw (k.0, k.1)

  -- the refusal is passed on by `?`
  module _ (k : Refusal) (t : r ≡ Err k) (q : Result Unit Refusal) (on : IsErrAnd q (λ e. e ≡ k)) where
    pub settled_back : (f g : Flags) (w v : Waiting) → came (number_of q) x f w v ≡ settled (assembled e f w) (assembled n g v)
    unfolding settled steady held done refused
    settled_back f g w v =
        let p = err_from_is_err_and q on in
        let h = fell_back (steady_in n) e n x r k s.told s.left t in rw (p.1, p.2, h.0, h.1, h.2)

    pub storing_back : (bytes after : List ℕ) (f : Flags) (w v : Waiting)
        → keeping (came (number_of q) x f w v) bytes ≡ storing (assembled e f w) (assembled n f v) bytes after
    unfolding storing steady held done refused
    storing_back bytes after f w v =
        let p = err_from_is_err_and q on in
        let h = fell_back (steady_in n) e n x r k s.told s.left t in rw (p.1, p.2, h.0, h.1, h.2)

-- ---- parts
module _ (x : List ℕ) (f : Flags) where
  pub written_parts : (v : Waiting) (rn to : ℕ) → written (assembled x f v) rn to ≡ assembled (put_in x rn to) f v
  unfolding written
  written_parts v rn to = refl

  pub refused_parts : (number : ℕ) (w v : Waiting) → eqb number 0 ≡ false → came number x f w v ≡ refused number (assembled x f w)
  unfolding refused
  refused_parts number w v h = rw h

  pub done_parts : (w v : Waiting) → came 0 x f w v ≡ done (assembled x f v)
  unfolding done
  done_parts w v = refl

-- ---- a record of a kind
pub read_as : (kind : ℕ) (r : List ℕ) → OfKind kind r → record_of r ≡ get_or readings kind nop_from r
unfolding record_of
read_as kind r k = rw k.is

pub long_as : (kind : ℕ) (r : List ℕ) → OfKind kind r → listing_length kind ≤ length r
long_as kind r k = rw (← k.is) k.sound.whole

pub formed_as : (kind : ℕ) (r : List ℕ) → OfKind kind r → (x : Record) → record_of r ≡ x → well_formed x ≡ true
formed_as kind r k x e = rw (← e) k.sound.formed
