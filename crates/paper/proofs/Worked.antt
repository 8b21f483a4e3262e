-- P1 to P10 hold: each row computes.
use mathlib.Core.Path.{refl}
use Rattle.word.specs.Word.{signed_in, wrapped}
use Rattle.sum.specs.Sum.{add_with_carry, subtract_with_carry}
use Rattle.shift.specs.Shift.{LSL, LSR, ASR, rotated, ROR, RRX}
use Rattle.constant.specs.Constant.{shifted_byte, repeated_byte, constant, constant_carry}
use Rattle.field.specs.Field.{UBFX, SBFX, BFI}
use Rattle.reverse.specs.Reverse.{CLZ, REV, REV16, REVSH, RBIT}
use Rattle.product.specs.Product.{MUL, MLA, MLS, UMULL, UMLAL, SMULL, SMLAL}
use Rattle.quotient.specs.Quotient.{UDIV, SDIV}
use Rattle.saturate.specs.Saturate.{SSAT, USAT}
use Rattle.address.specs.Address.{cleared, linked, moved}
use Rattle.register_list.specs.List.{members_below}
use Rattle.little.specs.Little.{little}
use Rattle.waiting.specs.Waiting.{waiting_count, dropped, inverse, block, same, good_waiting}
use Rattle.fields.specs.Fields.{well_formed}
use Rattle.restricted.specs.Restricted.{allowed}
use Rattle.flow.specs.Flow.{traits, machine_length, way, target, leaves, misplaced, opened, after, own_condition}
use Rattle.kinds.specs.Kinds.{listing_length, names, form, shifted_register_from, constant_from, register_shift_from, add_number_from, move_number_from, unary_from, multiply_from, long_multiply_from, divide_from, saturate_from, bit_field_from, extend_from, access_from, indexed_access_from, dual_access_from, multiple_access_from, branch_from, register_branch_from, compare_branch_from, if_then_from, record_of}
use Rattle.reading.specs.Reading.{coded, named, read_one, found_at, read_at}
use Rattle.judge.specs.Judge.{refusal, judged}
use Rattle.flags.specs.Flags.{passes, signs, all_four, saturating}
use Rattle.setup.specs.Setup.{fits}
use Rattle.memory.specs.Memory.{inside, byte_at, loaded, put_byte, stored}
use Rattle.operate.specs.Operate.{shifter, constant_operand, operated, added, placed_number, unary_result, multiplied, multiplied_long, divided, saturation, saturated, fielded, extended}
use Rattle.transfer.specs.Transfer.{width, load_value, after_store, reached, multiple, alignment, access_refusal, list_size, lowest_address, new_base, list_stored}
use Rattle.machine.specs.Access.{storing, based, arriving, access_made, access_done, access_effect, indexed_access_effect, dual_made, dual_access_effect, list_loaded, list_arriving, multiple_made, multiple_access_effect}
use Rattle.machine.specs.Branch.{linking, direct_target, branch_effect, register_branch_effect, branches, compare_branch_effect}
use Rattle.machine.specs.Compute.{flagged, resulting, data_done, shifted_register_effect, constant_effect, register_amount, register_shift_effect, add_number_effect, move_number_effect, unary_effect, multiply_effect, long_multiply_effect, divide_effect, saturate_effect, bit_field_effect, extend_effect}
use Rattle.machine.specs.Machine.{fresh, held, operand_value, base_value, kept, written, with_flags, with_waiting, good, ruling, condition_passes, advanced, skipped, onward, refused, done, steady, settled, landed}
use Rattle.machine.specs.Step.{effect, obeyed, considered, stepped}
use Rattle.paper.specs.Paper.{Worked, paper_table}

pub worked : Worked paper_table
unfolding signed_in wrapped add_with_carry subtract_with_carry LSL LSR ASR rotated ROR RRX shifted_byte repeated_byte constant constant_carry UBFX SBFX BFI CLZ REV REV16 REVSH RBIT MUL MLA MLS UMULL UMLAL SMULL SMLAL UDIV SDIV SSAT USAT cleared linked moved members_below little waiting_count dropped inverse block same good_waiting well_formed allowed traits machine_length way target leaves misplaced opened after own_condition listing_length names form shifted_register_from constant_from register_shift_from add_number_from move_number_from unary_from multiply_from long_multiply_from divide_from saturate_from bit_field_from extend_from access_from indexed_access_from dual_access_from multiple_access_from branch_from register_branch_from compare_branch_from if_then_from record_of coded named read_one found_at read_at refusal judged passes signs all_four saturating fits inside byte_at loaded put_byte stored shifter constant_operand operated added placed_number unary_result multiplied multiplied_long divided saturation saturated fielded extended width load_value after_store reached multiple alignment access_refusal list_size lowest_address new_base list_stored storing landed based arriving access_made access_done access_effect indexed_access_effect dual_made dual_access_effect list_loaded list_arriving multiple_made multiple_access_effect linking direct_target branch_effect register_branch_effect branches compare_branch_effect flagged resulting data_done shifted_register_effect constant_effect register_amount register_shift_effect add_number_effect move_number_effect unary_effect multiply_effect long_multiply_effect divide_effect saturate_effect bit_field_effect extend_effect fresh held operand_value base_value kept written with_flags with_waiting good ruling condition_passes advanced skipped onward refused done steady settled effect obeyed considered stepped
worked = (refl, (refl, (refl, (refl, (refl, (refl, (refl, (refl, (refl, (refl, (refl, tt)))))))))))
