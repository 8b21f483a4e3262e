use Rattle.fields.specs.Fields.{well_formed}
use Rattle.fields.proofs.is_well_formed.Goals as goal

pub returns-in-ShiftedRegister : goal.returns-in-ShiftedRegister
unfolding well_formed
returns-in-ShiftedRegister c =
    simp (c.shifted_register_of.ensures, c.in-ShiftedRegister.is)

pub returns-in-Constant : goal.returns-in-Constant
unfolding well_formed
returns-in-Constant c =
    simp (c.constant_of.ensures, c.in-Constant.is)

pub returns-in-RegisterShift : goal.returns-in-RegisterShift
unfolding well_formed
returns-in-RegisterShift c =
    simp (c.register_shift_of.ensures, c.in-RegisterShift.is)

pub returns-in-AddNumber : goal.returns-in-AddNumber
unfolding well_formed
returns-in-AddNumber c =
    simp c.in-AddNumber.is

pub returns-in-MoveNumber : goal.returns-in-MoveNumber
unfolding well_formed
returns-in-MoveNumber c =
    simp c.in-MoveNumber.is

pub returns-in-Unary : goal.returns-in-Unary
unfolding well_formed
returns-in-Unary c =
    simp c.in-Unary.is

pub returns-in-Multiply : goal.returns-in-Multiply
unfolding well_formed
returns-in-Multiply c =
    simp (c.multiply_of.ensures, c.in-Multiply.is)

pub returns-in-LongMultiply : goal.returns-in-LongMultiply
unfolding well_formed
returns-in-LongMultiply c =
    simp c.in-LongMultiply.is

pub returns-in-Divide : goal.returns-in-Divide
unfolding well_formed
returns-in-Divide c =
    simp c.in-Divide.is

pub returns-in-Saturate : goal.returns-in-Saturate
unfolding well_formed
returns-in-Saturate c =
    simp (c.saturate_of.ensures, c.in-Saturate.is)

pub returns-in-BitField : goal.returns-in-BitField
unfolding well_formed
returns-in-BitField c =
    simp (c.bit_field_of.ensures, c.in-BitField.is)

pub returns-in-Extend : goal.returns-in-Extend
unfolding well_formed
returns-in-Extend c =
    simp (c.extend_of.ensures, c.in-Extend.is)

pub returns-in-Access : goal.returns-in-Access
unfolding well_formed
returns-in-Access c =
    simp (c.access_of.ensures, c.in-Access.is)

pub returns-in-IndexedAccess : goal.returns-in-IndexedAccess
unfolding well_formed
returns-in-IndexedAccess c =
    simp c.in-IndexedAccess.is

pub returns-in-DualAccess : goal.returns-in-DualAccess
unfolding well_formed
returns-in-DualAccess c =
    simp (c.dual_access_of.ensures, c.in-DualAccess.is)

pub returns-in-MultipleAccess : goal.returns-in-MultipleAccess
unfolding well_formed
returns-in-MultipleAccess c =
    simp c.in-MultipleAccess.is

pub returns-in-Branch : goal.returns-in-Branch
unfolding well_formed
returns-in-Branch c =
    simp (c.branch_of.ensures, c.in-Branch.is)

pub returns-in-RegisterBranch : goal.returns-in-RegisterBranch
unfolding well_formed
returns-in-RegisterBranch c =
    simp c.in-RegisterBranch.is

pub returns-in-CompareBranch : goal.returns-in-CompareBranch
unfolding well_formed
returns-in-CompareBranch c =
    simp (c.compare_branch_of.ensures, c.in-CompareBranch.is)

pub returns-in-IfThen : goal.returns-in-IfThen
unfolding well_formed
returns-in-IfThen c =
    simp (c.if_then_of.ensures, c.in-IfThen.is)

pub returns-in-Nop : goal.returns-in-Nop
unfolding well_formed
returns-in-Nop c =
    simp c.in-Nop.is

pub returns-in-TableBranch : goal.returns-in-TableBranch
unfolding well_formed
returns-in-TableBranch c =
    simp c.in-TableBranch.is

pub returns-in-Filler : goal.returns-in-Filler
unfolding well_formed
returns-in-Filler c =
    simp (c.filler_of.ensures, c.in-Filler.is)
