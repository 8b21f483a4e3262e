-- What the step's definitions make of an access on a machine that is put together from its parts.
use Rattle.std.proofs.Common.{◌≡◌, ℕ, zero, suc, ◌+◌, Bool, true, false, not, ◌&&◌, eqb, List, Option, None, Some, Result, Ok, Err, IsErrAnd, refl, arith, eqb-true}
use Rattle.std.proofs.lemmas.Result.{err_from_is_err_and}
use Rattle.std.specs.Bool.{if◌then◌else◌, then_some}
use Rattle.word.specs.Word.{bit}
use Rattle.word.proofs.Cases.{cases, yes_or_no}
use Rattle.flags.specs.declared.Flags.{Flags}
use Rattle.refusal.specs.declared.Refusal.{Refusal}
use Rattle.refusal.specs.Refusal.{number_of}
use Rattle.refusal.proofs.Laws.{some_number}
use Rattle.waiting.specs.declared.Waiting.{Waiting}
use Rattle.register_list.specs.List.{member}
use Rattle.setup.specs.declared.Setup.{Setup}
use Rattle.memory.specs.Memory.{loaded}
use Rattle.transfer.specs.Transfer.{slot}
use Rattle.machine.specs.declared.Machine.{Machine}
use Rattle.machine.specs.Machine.{PC, held, written, steady, settled, Stepped, done, refused, landed, Outcome, keeping}
use Rattle.machine.specs.Access.{arriving, list_loaded, list_arriving}
use Rattle.lent.specs.Lent.{assembled, put_in, steady_in, came}
use Rattle.access_arms.specs.declared.reach.Back.{Back}
use Rattle.access_arms.specs.Reaching.{backed, back_in, loaded_in, Arrives}

-- ---- the base written back
pub backed_parts : (e : List ℕ) (ahead : ℕ) (f : Flags) (v : Waiting) (back : Option Back)
    → backed (assembled (put_in e PC ahead) f v) back ≡ assembled (back_in e ahead back) f v
unfolding written
backed_parts e ahead f v None = refl
backed_parts e ahead f v (Some b) = refl

-- where the mode says so
pub backed_unless : (plain : Bool) (back : Option Back) (b : Back) → back ≡ then_some (not plain) b
    → (next : Machine) → (if plain then next else written next b.rn b.to) ≡ backed next back
backed_unless true back b h next = rw h
backed_unless false back b h next = rw h

-- where the record says so
pub backed_where : (writes : Bool) (back : Option Back) (b : Back) → back ≡ then_some writes b
    → (next : Machine) → (if writes then written next b.rn b.to else next) ≡ backed next back
backed_where true back b h next = rw h
backed_where false back b h next = rw h

-- ---- a load
module _ (m back : Machine) (rt value : ℕ) where
  pub lost : rt ≡ PC → bit 0 value ≡ false → arriving m back rt value ≡ refused 7 m
  unfolding arriving landed
  lost e even = rw (e, even)

  pub arrives : (rt ≡ PC → bit 0 value ≡ true) → arriving m back rt value ≡ settled m (written back rt value)
  unfolding arriving landed
  arrives odd = cases (yes_or_no (eqb rt PC)) (λ t. rw (t, odd (eqb-true rt PC t))) (λ t. rw t)

-- ---- refused with 5 or 6, or not
module _ (refusal : ℕ) (a : Result Unit Refusal) (h : number_of a ≡ refusal) where
  pub granted : (u : Unit) → a ≡ Ok u → (made kept x : Outcome) → x ≡ made → x ≡ (if eqb refusal 0 then made else kept)
  granted u t made kept x e = rw (← h, t) e

  pub declined : (k : Refusal) → a ≡ Err k → (q : Result Unit Refusal) → IsErrAnd q (λ e. e ≡ k)
      → (e bytes : List ℕ) (f : Flags) (w v : Waiting) (made : Outcome)
      → keeping (came (number_of q) e f w v) bytes ≡ (if eqb refusal 0 then made else keeping (refused refusal (assembled e f w)) bytes)
  unfolding refused
  declined k t q on e bytes f w v made =
      let p = err_from_is_err_and q on in rw (p.1, p.2, ← h, t, some_number k)

-- ---- a list
-- a base written back where the record says so
pub writeback_parts : (x : List ℕ) (f : Flags) (v : Waiting) (writes : Bool) (rn to : ℕ)
    → (if writes then written (assembled x f v) rn to else assembled x f v) ≡ assembled (if not writes then x else put_in x rn to) f v
unfolding written
writeback_parts x f v true rn to = refl
writeback_parts x f v false rn to = refl

listed_parts : (x : List ℕ) (f : Flags) (v : Waiting) (listed : Bool) (n value : ℕ)
    → (if listed then written (assembled x f v) n value else assembled x f v) ≡ assembled (if listed then put_in x n value else x) f v
unfolding written
listed_parts x f v true n value = refl
listed_parts x f v false n value = refl

-- the two tests of a list in one
goes_or : (leaves odd fine : Bool) (s r : Stepped)
    → (if leaves then (if odd then (if fine then s else r) else r) else (if fine then s else r))
    ≡ (if (if leaves then odd && fine else fine) then s else r)
goes_or true true fine s r = refl
goes_or true false fine s r = refl
goes_or false odd fine s r = refl

module _ (x : List ℕ) (list low : ℕ) (bytes : List ℕ) (setup : Setup) where
  pub loaded_next : (r : ℕ)
      → let rest = loaded_in r x list low bytes setup in
      (if member list r then put_in rest r (loaded 4 setup bytes (slot list low r)) else rest)
      ≡ loaded_in (r + 1) x list low bytes setup
  unfolding loaded_in
  loaded_next r = let s : r + 1 ≡ suc r = omega arith in rw s

  loaded_parts : (f : Flags) (v : Waiting) (r : ℕ)
      → list_loaded r (assembled x f v) list low bytes setup ≡ assembled (loaded_in r x list low bytes setup) f v
  unfolding list_loaded loaded_in
  loaded_parts f v zero = refl
  loaded_parts f v (suc r) =
      rw (loaded_parts f v r)
      (listed_parts (loaded_in r x list low bytes setup) f v (member list r) r (loaded 4 setup bytes (slot list low r)))

  arrives_list : (e : List ℕ) (f : Flags) (w v : Waiting)
      → let n = loaded_in 16 x list low bytes setup in
      let odd = bit 0 (loaded 4 setup bytes (slot list low PC)) in
      list_arriving (assembled e f w) (assembled x f v) list low bytes setup
      ≡ (if (if member list PC then odd && steady_in n else steady_in n) then done (assembled n f v) else refused 7 (assembled e f w))
  unfolding list_arriving landed settled steady held
  arrives_list e f w v =
      let n = loaded_in 16 x list low bytes setup in
      let odd = bit 0 (loaded 4 setup bytes (slot list low PC)) in
      rw (loaded_parts f v 16)
      (goes_or (member list PC) odd (steady_in n) (done (assembled n f v)) (refused 7 (assembled e f w)))

  module _ (e after : List ℕ) (r : Bool) (a : Arrives x list low bytes setup after r) (f : Flags) (w v : Waiting) where
    pub list_fine : r ≡ true → came 0 after f w v ≡ list_arriving (assembled e f w) (assembled x f v) list low bytes setup
    unfolding done
    list_fine t = rw (arrives_list e f w v, ← a.left, ← a.told, t)

    pub list_back : r ≡ false → came 7 e f w v ≡ list_arriving (assembled e f w) (assembled x f v) list low bytes setup
    unfolding refused
    list_back t = rw (arrives_list e f w v, ← a.left, ← a.told, t)
