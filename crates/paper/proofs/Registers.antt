-- R13 and R15 of a machine that is written to.
use Prim.Native.Nat.{ℕ, ◌%◌}
use mathlib.Core.Bool.{Bool, true, false, ◌&&◌}
use mathlib.Core.Path.{◌≡◌, refl}
use native.Mathlib.Omega.{arith}
use borrow.Author.Tests.{eq-eqb}
use lib.Dec.{eqb}
use lib.ListN.{length}
use lib.Seq.{get_or-set_same, get_or-set_other}
use Rattle.word.proofs.Cases.{both_true}
use Rattle.address.specs.Address.{cleared}
use Rattle.waiting.specs.Waiting.{good_waiting}
use Rattle.record.specs.declared.Record.{Record}
use Rattle.machine.specs.declared.Machine.{Machine}
use Rattle.machine.specs.Machine.{SP, LR, PC, held, kept, written, with_waiting, good, advanced, onward, steady}
use Rattle.machine.specs.Branch.{linking}

-- ---- R13 stays where another register is written
pub steady_written : (x : Machine) (k v : ℕ) → (SP ≡ k → ⊥) → steady (written x k v) ≡ steady x
unfolding steady written held
steady_written x k v n = rw (get_or-set_other x.registers k SP (kept k v) 0 n)

pub steady_onward : (m : Machine) (r : Record) → steady (onward m r) ≡ steady m
unfolding onward advanced with_waiting steady written held
steady_onward m r = rw (get_or-set_other m.registers PC SP (kept PC _) 0 (λ e. omega arith))

pub steady_linking : (next : Machine) (links : Bool) → steady (linking next links) ≡ steady next
unfolding linking
steady_linking next true = steady_written next LR _ (λ e. omega arith)
steady_linking next false = refl

-- ---- R15 as it is written, or as it was
pub held_written : (x : Machine) (v : ℕ) → length x.registers ≡ 16 → held (written x PC v) PC ≡ cleared 0 v
unfolding held written kept
held_written x v l = get_or-set_same x.registers PC (cleared 0 v) 0 (omega arith)

pub held_other : (x : Machine) (k v : ℕ) → (PC ≡ k → ⊥) → held (written x k v) PC ≡ held x PC
unfolding held written
held_other x k v n = get_or-set_other x.registers k PC (kept k v) 0 n

-- ---- the parts of a good machine
pub good_steady : (m : Machine) → good m ≡ true → steady m ≡ true
unfolding good steady
good_steady m e =
    let even = eqb (held m PC % 2) 0 in
    let four = eqb (held m SP % 4) 0 in
    (both_true even four (both_true (even && four) (good_waiting m.waiting) e).0).1

pub good_parts : (m : Machine) → held m PC % 2 ≡ 0 → steady m ≡ true → good_waiting m.waiting ≡ true → good m ≡ true
unfolding good steady
good_parts m a b c = rw (eq-eqb (held m PC % 2) 0 a, b, c)
