-- Loads and stores, kinds 0D to 10, and the tables of kind 16: how wide, from where, in which order, and whether they may be made.
use Rattle.std.specs.Prelude.{ℕ, zero, suc, ◌+◌, ◌-◌, ◌*◌, ◌%◌, ◌^◌, Bool, not, ◌&&◌, List, ◌==◌, slice_index}
use Rattle.std.specs.Bool.{if◌then◌else◌}
use Rattle.field.specs.Field.{SXTB, SXTH}
use Rattle.register_list.specs.List.{member, members_below}
use Rattle.setup.specs.declared.Setup.{Setup}
use Rattle.memory.specs.Memory.{further, inside, loaded, stored}
use Rattle.record.specs.Op.{is_ldr}
use Rattle.record.specs.declared.op.AccessOp.{AccessOp}
use Rattle.record.specs.declared.op.AccessOp.TheVariants.{Ldr, Ldrb, Ldrh, Ldrsb, Ldrsh, Str, Strb, Strh}
use Rattle.record.specs.declared.op.MultipleOp.{MultipleOp}
use Rattle.record.specs.declared.op.MultipleOp.TheVariants.{Ldmia, Ldmdb, Stmia, Stmdb}
use Rattle.record.specs.declared.op.TableOp.{TableOp}
use Rattle.record.specs.declared.op.TableOp.TheVariants.{Tbb, Tbh}
use Rattle.record.specs.declared.op.Mode.{Mode}
use Rattle.record.specs.declared.op.Mode.TheVariants.{Offset, PreIndexed, PostIndexed}
use Rattle.transfer.specs.declared.Alignment.{Alignment}
use Rattle.transfer.specs.declared.Alignment.TheVariants.{Byte, Half, Word}

-- the bytes that an access of kind 0D or 0E takes
unfoldable pub width : AccessOp → ℕ
width Ldr = 4
width Ldrb = 1
width Ldrh = 2
width Ldrsb = 1
width Ldrsh = 2
width Str = 4
width Strb = 1
width Strh = 2

-- what a load of kind 0D or 0E puts in Rt; 0 of a store
unfoldable pub load_value : AccessOp → Setup → List ℕ → ℕ → ℕ
load_value Ldr setup bytes address = loaded 4 setup bytes address
load_value Ldrb setup bytes address = loaded 1 setup bytes address
load_value Ldrh setup bytes address = loaded 2 setup bytes address
load_value Ldrsb setup bytes address = SXTB (loaded 1 setup bytes address) 0
load_value Ldrsh setup bytes address = SXTH (loaded 2 setup bytes address) 0
load_value Str setup bytes address = 0
load_value Strb setup bytes address = 0
load_value Strh setup bytes address = 0

-- memory after a store of kind 0D or 0E; as it was after a load
unfoldable pub after_store : AccessOp → Setup → List ℕ → ℕ → ℕ → List ℕ
after_store Ldr setup bytes address number = bytes
after_store Ldrb setup bytes address number = bytes
after_store Ldrh setup bytes address number = bytes
after_store Ldrsb setup bytes address number = bytes
after_store Ldrsh setup bytes address number = bytes
after_store Str setup bytes address number = stored 4 setup bytes address number
after_store Strb setup bytes address number = stored 1 setup bytes address number
after_store Strh setup bytes address number = stored 2 setup bytes address number

-- "Modes: 0 offset, 1 pre-indexed, 2 post-indexed": the address that is accessed, of the base and the base with the offset
unfoldable pub reached : Mode → ℕ → ℕ → ℕ
reached Offset base moved = moved
reached PreIndexed base moved = moved
reached PostIndexed base moved = base

-- an access wants a multiple of this
unfoldable pub multiple : Alignment → ℕ
multiple Byte = 1
multiple Half = 2
multiple Word = 4

-- "LDR to R15 wants a multiple of 4"; any other access of kind 0D or 0E is made at every address
unfoldable pub alignment : AccessOp → Bool → Alignment
alignment op leaves = if is_ldr op && leaves then Word else Byte

-- what an access is refused with: "unaligned access not permitted" is 5, "some accessed byte is not in memory" is 6; else 0
unfoldable pub access_refusal : Alignment → ℕ → Setup → ℕ → ℕ → ℕ
access_refusal wanted count setup size address =
    if not (address % multiple wanted == 0) then 5
    else (if inside count setup size address then 0
    else 6)

-- the bytes that a list takes
unfoldable pub list_size : ℕ → ℕ
list_size list = 4 * members_below 16 list

-- so many bytes below an address
abbrev pub lower : ℕ → ℕ → ℕ
lower address size = (address + (2 ^ 32 - size)) % 2 ^ 32

-- kind 10: the lowest address that is accessed; IA goes up from the base, DB ends below it
unfoldable pub lowest_address : MultipleOp → ℕ → ℕ → ℕ
lowest_address Ldmia base size = base
lowest_address Ldmdb base size = lower base size
lowest_address Stmia base size = base
lowest_address Stmdb base size = lower base size

-- the base that is written back
unfoldable pub new_base : MultipleOp → ℕ → ℕ → ℕ
new_base Ldmia base size = further base size
new_base Ldmdb base size = lower base size
new_base Stmia base size = further base size
new_base Stmdb base size = lower base size

-- "lowest register at lowest address": where register r of a list stands
abbrev pub slot : ℕ → ℕ → ℕ → ℕ
slot list lowest r = further lowest (4 * members_below r list)

-- memory after the registers of a list below r are stored
unfoldable pub list_stored : ℕ → Setup → List ℕ → List ℕ → ℕ → ℕ → List ℕ
list_stored zero setup bytes registers list lowest = bytes
list_stored (suc r) setup bytes registers list lowest =
    let rest = list_stored r setup bytes registers list lowest in
    if member list r then stored 4 setup rest (slot list lowest r) (slice_index registers r) else rest

-- kind 16: an entry is a byte for TBB and a halfword for TBH
unfoldable pub entry_width : TableOp → ℕ
entry_width Tbb = 1
entry_width Tbh = 2

-- the address of the entry that an index counts from the table on
unfoldable pub entry_address : TableOp → ℕ → ℕ → ℕ
entry_address op table index = further table (entry_width op * index)

-- order 1: "The branch goes to address + 4 plus twice the entry"
unfoldable pub table_target : ℕ → ℕ → ℕ
table_target address entry = (address + 4 + 2 * entry) % 2 ^ 32
