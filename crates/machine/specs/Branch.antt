-- What the records of kinds 11 to 13 and 16 do: m is the machine before, from which all is read, next the machine at the next record.
use Rattle.std.specs.Prelude.{ℕ, Bool, not, List, length, ◌==◌}
use Rattle.std.specs.Bool.{if◌then◌else◌}
use Rattle.address.specs.Address.{linked}
use Rattle.record.specs.Op.{is_bl, is_blx}
use Rattle.record.specs.declared.op.CompareOp.{CompareOp}
use Rattle.record.specs.declared.op.CompareOp.TheVariants.{Cbz, Cbnz}
use Rattle.record.specs.declared.BranchFields.{BranchFields}
use Rattle.record.specs.declared.RegisterBranchFields.{RegisterBranchFields}
use Rattle.record.specs.declared.CompareBranchFields.{CompareBranchFields}
use Rattle.record.specs.declared.TableBranchFields.{TableBranchFields}
use Rattle.record.specs.declared.Record.{Record}
use Rattle.record.specs.declared.Record.TheVariants.{Branch, CompareBranch}
use Rattle.flow.specs.Flow.{target, way}
use Rattle.setup.specs.declared.Setup.{Setup}
use Rattle.memory.specs.Memory.{loaded}
use Rattle.transfer.specs.declared.Alignment.TheVariants.{Byte}
use Rattle.transfer.specs.Transfer.{access_refusal, entry_width, entry_address, table_target}
use Rattle.machine.specs.declared.Machine.{Machine}
use Rattle.machine.specs.Machine.{Stepped, PC, LR, held, operand_value, written, refused, done, landed}

-- "BL, BLX set R14 to the next address with bit 0 set"
unfoldable pub linking : Machine → Bool → Machine
linking next links = if links then written next LR (linked (held next PC)) else next

-- "A direct branch goes to its own address plus 4 plus the offset."
unfoldable pub direct_target : Machine → Record → ℕ
direct_target m r = target (held m PC) (way r)

-- 11
unfoldable pub branch_effect : Machine → Machine → BranchFields → Setup → Stepped
branch_effect m next d setup = done (written (linking next (is_bl d.op)) PC (direct_target m (Branch d)))

-- 12: "BLX reads Rm first"
unfoldable pub register_branch_effect : Machine → Machine → RegisterBranchFields → Setup → Stepped
register_branch_effect m next d setup =
    let to = operand_value m d.rm in landed m (written (linking next (is_blx d.op)) PC to) to

-- CBZ branches when Rn is zero, CBNZ when it is not
unfoldable pub branches : CompareOp → ℕ → Bool
branches Cbz x = x == 0
branches Cbnz x = not (x == 0)

-- 13
unfoldable pub compare_branch_effect : Machine → Machine → CompareBranchFields → Setup → Stepped
compare_branch_effect m next d setup =
    done (if branches d.op (held m d.rn) then written next PC (direct_target m (CompareBranch d)) else next)

-- 16: the table is in memory, and its entry is read at any address ("TBH may read its halfword unaligned"); "Rn 15 is read as address + 4"
unfoldable pub table_branch_effect : Machine → Machine → TableBranchFields → List ℕ → Setup → Stepped
table_branch_effect m next d bytes setup =
    let at = entry_address d.op (operand_value m d.rn) (held m d.rm) in
    let width = entry_width d.op in
    let refusal = access_refusal Byte width setup (length bytes) at in
    if refusal == 0 then done (written next PC (table_target (held m PC) (loaded width setup bytes at))) else refused refusal m
