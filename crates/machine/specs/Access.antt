-- What the records of kinds 0D to 10 do: 5 by the address, 6 by every byte, 7 by the values; a store or a write-back only when none
-- of them applies. m is the machine before, from which all is read, next the machine at the next record.
use Rattle.std.specs.Prelude.{ℕ, zero, suc, false, List, length, ◌==◌}
use Rattle.std.specs.Bool.{if◌then◌else◌}
use Rattle.address.specs.Address.{moved}
use Rattle.shift.specs.Shift.{LSL}
use Rattle.register_list.specs.List.{member}
use Rattle.setup.specs.declared.Setup.{Setup}
use Rattle.memory.specs.Memory.{further, loaded, stored}
use Rattle.record.specs.Op.{loads, loads_dual, loads_many, is_offset}
use Rattle.record.specs.declared.op.AccessOp.{AccessOp}
use Rattle.record.specs.declared.op.Mode.{Mode}
use Rattle.record.specs.declared.AccessFields.{AccessFields}
use Rattle.record.specs.declared.IndexedAccessFields.{IndexedAccessFields}
use Rattle.record.specs.declared.DualAccessFields.{DualAccessFields}
use Rattle.record.specs.declared.MultipleAccessFields.{MultipleAccessFields}
use Rattle.transfer.specs.declared.Alignment.TheVariants.{Word}
use Rattle.transfer.specs.Transfer.{width, load_value, after_store, reached, alignment, access_refusal, list_size, lowest_address, new_base, slot, list_stored}
use Rattle.machine.specs.declared.Machine.{Machine}
use Rattle.machine.specs.Machine.{Stepped, PC, held, operand_value, base_value, written, refused, done, steady, settled, landed, Outcome, keeping}

-- a store, made unless it is refused with 7 for R13
unfoldable pub storing : Machine → Machine → List ℕ → List ℕ → Outcome
storing m next before after =
    if steady next then record { answer = done next; memory = after } else keeping (refused 7 m) before

-- a base written back, in modes 1 and 2
unfoldable pub based : Machine → Mode → ℕ → ℕ → Machine
based next mode rn to = if is_offset mode then next else written next rn to

-- a load of one register
unfoldable pub arriving : Machine → Machine → ℕ → ℕ → Stepped
arriving m back rt value = if rt == PC then landed m (written back rt value) value else settled m (written back rt value)

-- an access that is allowed, of kinds 0D and 0E
unfoldable pub access_made : Machine → Machine → AccessOp → ℕ → ℕ → List ℕ → Setup → Outcome
access_made m back op rt address bytes setup =
    if loads op then keeping (arriving m back rt (load_value op setup bytes address)) bytes
    else storing m back bytes (after_store op setup bytes address (held m rt))

unfoldable pub access_done : Machine → Machine → AccessOp → ℕ → ℕ → List ℕ → Setup → Outcome
access_done m back op rt address bytes setup =
    let refusal = access_refusal (alignment op (rt == PC)) (width op) setup (length bytes) address in
    if refusal == 0 then access_made m back op rt address bytes setup else keeping (refused refusal m) bytes

-- 0D
unfoldable pub access_effect : Machine → Machine → AccessFields → List ℕ → Setup → Outcome
access_effect m next d bytes setup =
    let base = base_value m d.rn in
    let to = moved base d.offset in
    access_done m (based next d.mode d.rn to) d.op d.rt (reached d.mode base to) bytes setup

-- 0E: the offset is Rm shifted left
unfoldable pub indexed_access_effect : Machine → Machine → IndexedAccessFields → List ℕ → Setup → Outcome
indexed_access_effect m next d bytes setup =
    let offset = (LSL (operand_value m d.rm) d.amount false).value in
    access_done m next d.op d.rt (further (base_value m d.rn) offset) bytes setup

-- two words, the first register's at the lower address
unfoldable pub dual_made : Machine → Machine → DualAccessFields → ℕ → List ℕ → Setup → Outcome
dual_made m back d address bytes setup =
    let second = further address 4 in
    if loads_dual d.op then
    keeping (settled m (written (written back d.rt (loaded 4 setup bytes address)) d.rt2 (loaded 4 setup bytes second))) bytes
    else
    storing m back bytes (stored 4 setup (stored 4 setup bytes address (held m d.rt)) second (held m d.rt2))

-- 0F: a multiple of 4 is wanted
unfoldable pub dual_access_effect : Machine → Machine → DualAccessFields → List ℕ → Setup → Outcome
dual_access_effect m next d bytes setup =
    let base = base_value m d.rn in
    let to = moved base d.offset in
    let address = reached d.mode base to in
    let refusal = access_refusal Word 8 setup (length bytes) address in
    if refusal == 0 then dual_made m (based next d.mode d.rn to) d address bytes setup
    else keeping (refused refusal m) bytes

-- the machine with the registers of a list below r loaded
unfoldable pub list_loaded : ℕ → Machine → ℕ → ℕ → List ℕ → Setup → Machine
list_loaded zero back list low bytes setup = back
list_loaded (suc r) back list low bytes setup =
    let rest = list_loaded r back list low bytes setup in
    if member list r then written rest r (loaded 4 setup bytes (slot list low r)) else rest

-- all the registers of a list loaded
unfoldable pub list_arriving : Machine → Machine → ℕ → ℕ → List ℕ → Setup → Stepped
list_arriving m back list low bytes setup =
    let next = list_loaded 16 back list low bytes setup in
    if member list PC then landed m next (loaded 4 setup bytes (slot list low PC)) else settled m next

-- the registers of a list, the lowest at the address `low`
unfoldable pub multiple_made : Machine → Machine → MultipleAccessFields → ℕ → List ℕ → Setup → Outcome
multiple_made m back d low bytes setup =
    if loads_many d.op then keeping (list_arriving m back d.list low bytes setup) bytes
    else storing m back bytes (list_stored 16 setup bytes m.registers d.list low)

-- 10: a multiple of 4 is wanted
unfoldable pub multiple_access_effect : Machine → Machine → MultipleAccessFields → List ℕ → Setup → Outcome
multiple_access_effect m next d bytes setup =
    let base = held m d.rn in
    let size = list_size d.list in
    let low = lowest_address d.op base size in
    let refusal = access_refusal Word size setup (length bytes) low in
    let back = if d.writeback then written next d.rn (new_base d.op base size) else next in
    if refusal == 0 then multiple_made m back d low bytes setup else keeping (refused refusal m) bytes
