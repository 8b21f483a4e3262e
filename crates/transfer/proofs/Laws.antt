-- Lists of registers, one after the other.
use Rattle.std.proofs.Common.{◌≡◌, ℕ, suc, ◌+◌, ◌%◌, ◌^◌, ◌<◌, List, get_or, arith}
use Rattle.std.specs.Bool.{if◌then◌else◌}
use Rattle.word.proofs.Cases.{cases, yes_or_no}
use Rattle.register_list.specs.List.{member, members_below}
use Rattle.setup.specs.declared.Setup.{Setup}
use Rattle.memory.specs.Memory.{further, stored}
use Rattle.transfer.specs.Transfer.{lower, slot, list_stored}

pub slot_first : (list lowest : ℕ) → lowest < 2 ^ 32 → lowest ≡ slot list lowest 0
unfolding members_below
slot_first list lowest h = omega arith

-- the address after a register of the list, or after one that is not in it
pub slot_next : (list lowest r : ℕ) → (if member list r then further (slot list lowest r) 4 else slot list lowest r) ≡ slot list lowest (r + 1)
unfolding members_below
slot_next list lowest r =
    let s : r + 1 ≡ suc r = omega arith in
    cases (yes_or_no (member list r))
    (λ e. rw (s, e) (omega arith))
    (λ e. rw (s, e) (omega arith))

pub stored_next : (setup : Setup) (bytes registers : List ℕ) (list lowest r : ℕ)
    → let rest = list_stored r setup bytes registers list lowest in
    (if member list r then stored 4 setup rest (slot list lowest r) (get_or registers r 0) else rest)
    ≡ list_stored (r + 1) setup bytes registers list lowest
unfolding list_stored
stored_next setup bytes registers list lowest r = let s : r + 1 ≡ suc r = omega arith in rw s

-- a difference modulo 2 ^ 32
pub is_lower : (r address size : ℕ) → r < 2 ^ 32 → size < 2 ^ 32 → (r + size) % 2 ^ 32 ≡ address → r ≡ lower address size
is_lower r address size h k e = omega arith

-- a sum may be taken modulo 2^32 before its parts are added
pub wrapped_after : (x y : ℕ) → (x + y % 2 ^ 32) % 2 ^ 32 ≡ (x + y) % 2 ^ 32
wrapped_after x y = omega arith

pub wrapped_both : (x y : ℕ) → (x % 2 ^ 32 + y % 2 ^ 32) % 2 ^ 32 ≡ (x + y) % 2 ^ 32
wrapped_both x y = omega arith
