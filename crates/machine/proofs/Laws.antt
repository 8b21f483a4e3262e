-- Registers past the last, and registers loaded one after the other.
use Rattle.std.proofs.Common.{◌≡◌, ℕ, suc, ◌+◌, ◌≤◌, List, length, sym, arith}
use Rattle.std.specs.Bool.{if◌then◌else◌}
use Rattle.register_list.specs.List.{member}
use Rattle.setup.specs.declared.Setup.{Setup}
use Rattle.memory.specs.Memory.{loaded}
use Rattle.transfer.specs.Transfer.{slot}
use Rattle.machine.specs.Access.{list_loaded}
use lib.ListN.{get_or-eq_default}
use lib.Seq.{set_out}
use Rattle.machine.specs.declared.Machine.{Machine}
use Rattle.machine.specs.Machine.{held, written, kept}

pub held_past : (m : Machine) (register : ℕ) → length m.registers ≡ 16 → 16 ≤ register → 0 ≡ held m register
unfolding held
held_past m register e h = sym (get_or-eq_default m.registers 0 (omega arith))

pub written_past : (m : Machine) (register value : ℕ) → length m.registers ≡ 16 → 16 ≤ register → m ≡ written m register value
unfolding written
written_past m register value e h =
    let past : length m.registers ≤ register = omega arith in rw (set_out m.registers register (kept register value) past)

pub loaded_next : (back : Machine) (list low : ℕ) (bytes : List ℕ) (setup : Setup) (r : ℕ)
    → let rest = list_loaded r back list low bytes setup in
    (if member list r then written rest r (loaded 4 setup bytes (slot list low r)) else rest)
    ≡ list_loaded (r + 1) back list low bytes setup
unfolding list_loaded
loaded_next back list low bytes setup r = let s : r + 1 ≡ suc r = omega arith in rw s
