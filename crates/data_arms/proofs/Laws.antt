-- What the step's definitions make of a machine that is put together from its parts, for the kinds that do more than put one value.
use Prim.Native.Nat.{ℕ, ◌<◌}
use mathlib.Core.Bool.{Bool, true, false}
use mathlib.Core.List.{List, [], ◌∷◌}
use mathlib.Core.Path.{◌≡◌, refl, ap}
use Rattle.std.specs.Prelude.{Result, Ok, Err, IsErrAnd}
use Rattle.refusal.specs.declared.Refusal.{Refusal}
use Rattle.refusal.specs.Refusal.{number_of}
use lib.Dec.{ltb}
use lib.ListN.{length}
use native.Mathlib.Omega.{arith}
use Rattle.std.specs.Bool.{if◌then◌else◌}
use Rattle.sum.specs.declared.Sum.{Sum}
use Rattle.product.specs.declared.Long.{Long}
use Rattle.flags.specs.declared.Flags.{Flags}
use Rattle.flags.specs.Flags.{signs, all_four, saturating}
use Rattle.waiting.specs.declared.Waiting.{Waiting}
use Rattle.record.specs.Op.{data_code}
use Rattle.record.specs.declared.MultiplyFields.{MultiplyFields}
use Rattle.record.specs.declared.LongMultiplyFields.{LongMultiplyFields}
use Rattle.record.specs.declared.SaturateFields.{SaturateFields}
use Rattle.record.specs.declared.Record.TheVariants.{Multiply, LongMultiply, Saturate}
use Rattle.kinds.specs.Kinds.{record_of}
use Rattle.operate.specs.declared.Saturation.{Saturation}
use Rattle.operate.specs.Operate.{shifter, operated, multiplied, multiplied_long, saturated}
use Rattle.setup.specs.declared.Setup.{Setup}
use Rattle.machine.specs.declared.Machine.{Machine}
use Rattle.machine.specs.Machine.{PC, held, operand_value, written, with_flags, settled, keeping}
use Rattle.machine.specs.Compute.{data_done, flagged, resulting, multiply_effect, long_multiply_effect, saturate_effect}
use Rattle.machine.specs.Step.{effect}
use Rattle.lent.specs.Lent.{assembled, put_in, operand_in, Settled, ObeysOn, ObeysMarking}
use Rattle.lent.proofs.Laws.{settled_so, settled_fine, settled_back}
use Rattle.data_arms.specs.declared.Operands.{Operands}
use Rattle.data_arms.specs.Data.{Operates, Prepared}

-- a record is not empty
pub some_long : (r : List ℕ) → Operates r → 0 < length r
some_long [] k = omega (arith, k.least)
some_long (x ∷ xs) k = omega arith

-- ---- a record that settles
-- at registers e and flags f, the record goes on to registers n and flags g, unless R13 came out as no multiple of 4
abbrev Does : List ℕ → Flags → List ℕ → Flags → ℕ → List ℕ → Type 0
Does e f n g ahead r =
    (bytes : List ℕ) (setup : Setup) (w v : Waiting)
    → effect (assembled e f w) (assembled (put_in e PC ahead) f v) (record_of r) bytes setup
    ≡ keeping (settled (assembled e f w) (assembled n g v)) bytes

module _ (e n x : List ℕ) (a : Result Unit Refusal) (s : Settled e n x a) (ahead : ℕ) (r : List ℕ) where
  -- at flags that stay
  pub obeys_so : ((f : Flags) → Does e f n f ahead r) → ObeysOn (number_of a) x e ahead r
  obeys_so does f bytes setup w v = rw (does f bytes setup w v) (ap (λ k. keeping k bytes) (settled_so e n x a s f w v))

  module _ (f g : Flags) (does : Does e f n g ahead r) where
    pub obeys_fine : (u : Unit) → a ≡ Ok u → (h : Flags) → h ≡ g → ObeysMarking 0 x h e f ahead r
    obeys_fine u t h marks bytes setup w v =
        rw (does bytes setup w v, marks) (ap (λ k. keeping k bytes) (settled_fine e n x a s u t f g w v))

    pub obeys_back : (k : Refusal) → a ≡ Err k → (q : Result Unit Refusal) → IsErrAnd q (λ e. e ≡ k) → ObeysMarking (number_of q) x f e f ahead r
    obeys_back k t q on bytes setup w v =
        rw (does bytes setup w v) (ap (λ k. keeping k bytes) (settled_back e n x a s k t q on f g w v))

-- ---- parts
marked_parts : (x : List ℕ) (f : Flags) (v : Waiting) (puts s : Bool) (rd value : ℕ) (result : Sum)
    → let next = if puts then written (assembled x f v) rd value else assembled x f v in
    (if s then with_flags next (all_four result next.flags) else next)
    ≡ assembled (if puts then put_in x rd value else x) (if s then all_four result f else f) v
unfolding written with_flags
marked_parts x f v true true rd value result = refl
marked_parts x f v true false rd value result = refl
marked_parts x f v false true rd value result = refl
marked_parts x f v false false rd value result = refl

signed_parts : (x : List ℕ) (f : Flags) (v : Waiting) (s : Bool) (rd value : ℕ)
    → let next = written (assembled x f v) rd value in
    (if s then with_flags next (signs value next.flags) else next) ≡ assembled (put_in x rd value) (if s then signs value f else f) v
unfolding written with_flags
signed_parts x f v true rd value = refl
signed_parts x f v false rd value = refl

-- ---- what the records do
module _ (e : List ℕ) (f : Flags) (ahead : ℕ) (r : List ℕ) where
  -- 01, 02 and 03
  pub operate_does : (o : Operands) (result : Sum) → Prepared e f r o → result ≡ operated o.op o.x o.y f.c f.v
      → Does e f (if ltb (data_code o.op) 12 then put_in (put_in e PC ahead) o.rd result.value else put_in e PC ahead)
      (if o.s then all_four result f else f) ahead r
  unfolding data_done flagged resulting
  operate_does o result p h bytes setup w v =
      let parts = marked_parts (put_in e PC ahead) f v (ltb (data_code o.op) 12) o.s o.rd result.value result in
      rw (p.means w (assembled (put_in e PC ahead) f v) bytes setup, ← h)
      (ap (λ (m : Machine). keeping (settled (assembled e f w) m) bytes) parts)

  -- 07
  pub multiply_does : (d : MultiplyFields) (value : ℕ) → record_of r ≡ Multiply d
      → value ≡ multiplied d.op (operand_in e d.rn) (operand_in e d.rm) (operand_in e d.ra)
      → Does e f (put_in (put_in e PC ahead) d.rd value) (if d.form.s then signs value f else f) ahead r
  unfolding effect multiply_effect operand_value held
  multiply_does d value is h bytes setup w v =
      let parts = signed_parts (put_in e PC ahead) f v d.form.s d.rd value in
      rw (is, ← h) (ap (λ (m : Machine). keeping (settled (assembled e f w) m) bytes) parts)

  -- 08
  pub long_multiply_does : (d : LongMultiplyFields) (result : Long) → record_of r ≡ LongMultiply d
      → let before : Long = record { low = operand_in e d.low; high = operand_in e d.high } in
      result ≡ multiplied_long d.op (operand_in e d.rn) (operand_in e d.rm) before
      → Does e f (put_in (put_in (put_in e PC ahead) d.low result.low) d.high result.high) f ahead r
  unfolding effect long_multiply_effect operand_value held written
  long_multiply_does d result is h bytes setup w v = rw (is, h)

  -- 0A
  pub saturate_does : (d : SaturateFields) (result : Saturation) → record_of r ≡ Saturate d
      → result ≡ saturated d.op d.bits (shifter d.shift (operand_in e d.rm) d.amount f.c).value
      → Does e f (put_in (put_in e PC ahead) d.rd result.value) (saturating result.saturated f) ahead r
  unfolding effect saturate_effect operand_value held written with_flags
  saturate_does d result is h bytes setup w v = rw (is, h)
