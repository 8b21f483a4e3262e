-- The table of kinds, row by row: what the bytes of a record say of its traits.
use Rattle.std.proofs.Common.{◌≡◌, ℕ, zero, suc, ◌+◌, ◌≤◌, Bool, true, false, ◌&&◌, ◌||◌, eqb, List, [], ◌∷◌, get_or, refl, arith, ne_eqb}
use Rattle.std.specs.Bool.{if◌then◌else◌}
use Rattle.little.specs.Little.{byte}
use Rattle.waiting.specs.declared.Waiting.{Waiting}
use Rattle.waiting.specs.Waiting.{block, dropped}
use Rattle.register_list.specs.List.{member}
use Rattle.record.specs.Op.{data_op, access_op, multiple_op, is_ldr, loads_many}
use Rattle.record.specs.declared.Record.{Record}
use Rattle.flow.specs.Flow.{form_length, to_pc, taken_if, traits, machine_length, way, fills, opened, after, own_condition}
use Rattle.kinds.specs.Kinds.{half, form, readings, nop_from, record_of}
use Rattle.kinds.specs.Kinds.{shifted_register_from, constant_from, register_shift_from, add_number_from, move_number_from, unary_from, multiply_from, long_multiply_from, divide_from, saturate_from, bit_field_from, extend_from, access_from, indexed_access_from, dual_access_from, multiple_access_from, branch_from, register_branch_from, compare_branch_from, if_then_from, table_branch_from}

-- ---- what holds of each row of a table from a number on, and past its end, holds of the entry of any number
module _ {A : Type 0} (P : ℕ → A → Type 0) (d : A) where
  abbrev pub Rows : ℕ → List A → Type 0
  Rows from [] = (k : ℕ) → P (k + from) d
  Rows from (x ∷ xs) = P from x × Rows (suc from) xs

  pub entry : (from : ℕ) (xs : List A) → Rows from xs → (k : ℕ) → P (k + from) (get_or xs k d)
  entry from [] rows k = rows k
  entry from (x ∷ xs) rows zero = let e : 0 + from ≡ from = omega arith in rw e rows.0
  entry from (x ∷ xs) rows (suc k) = let e : suc k + from ≡ k + suc from = omega arith in rw e (entry (suc from) xs rows.1 k)

-- the reading of a kind
module _ (P : ℕ → (List ℕ → Record) → Type 0) (rows : Rows P nop_from 0 readings) where
  pub of_kind : (kind : ℕ) → P kind (get_or readings kind nop_from)
  of_kind kind = let e : kind + 0 ≡ kind = omega arith in rw e at (entry P nop_from 0 readings rows kind)

-- ---- the traits
module _ (r : List ℕ) where
  abbrev kind : ℕ
  kind = byte r 0

  -- "kind 11 outside a block uses its own" condition
  abbrev Own : ℕ → (List ℕ → Record) → Type 0
  Own k f = own_condition (f r) ≡ (if eqb k 17 then byte r 3 else 14)

  own_rows : Rows Own nop_from 0 readings
  unfolding own_condition traits shifted_register_from constant_from register_shift_from add_number_from move_number_from unary_from multiply_from long_multiply_from divide_from saturate_from bit_field_from extend_from access_from indexed_access_from dual_access_from multiple_access_from branch_from register_branch_from compare_branch_from if_then_from table_branch_from
  own_rows =
      (refl, (refl, (refl, (refl, (refl, (refl, (refl, (refl, (refl, (refl, (refl, (refl, (refl, (refl, (refl, (refl, (refl, (refl, (refl, (refl, (refl, (refl, (refl, (refl, λ k. rw (ne_eqb (k + 24) 17 (λ e. omega arith))))))))))))))))))))))))))

  pub own_as : own_condition (record_of r) ≡ (if eqb kind 17 then byte r 3 else 14)
  unfolding record_of
  own_as = of_kind Own own_rows kind

  -- "IT sets the list"
  module _ (w : Waiting) where
    abbrev After : ℕ → (List ℕ → Record) → Type 0
    After k f = after (f r) w ≡ (if eqb k 20 then block (byte r 2) (byte r 3) (byte r 4) else dropped w)

    after_rows : Rows After nop_from 0 readings
    unfolding after opened traits shifted_register_from constant_from register_shift_from add_number_from move_number_from unary_from multiply_from long_multiply_from divide_from saturate_from bit_field_from extend_from access_from indexed_access_from dual_access_from multiple_access_from branch_from register_branch_from compare_branch_from if_then_from table_branch_from
    after_rows =
        (refl, (refl, (refl, (refl, (refl, (refl, (refl, (refl, (refl, (refl, (refl, (refl, (refl, (refl, (refl, (refl, (refl, (refl, (refl, (refl, (refl, (refl, (refl, (refl, λ k. rw (ne_eqb (k + 24) 20 (λ e. omega arith))))))))))))))))))))))))))

    pub after_as : after (record_of r) w ≡ (if eqb kind 20 then block (byte r 2) (byte r 3) (byte r 4) else dropped w)
    unfolding record_of
    after_as = of_kind After after_rows kind

  -- a filler
  abbrev Fills : ℕ → (List ℕ → Record) → Type 0
  Fills k f = fills (way (f r)) ≡ eqb k 23

  choice_passes : (test : Bool) → fills (taken_if test) ≡ false
  unfolding fills
  choice_passes true = refl
  choice_passes false = refl

  fills_rows : Rows Fills nop_from 0 readings
  unfolding fills way traits shifted_register_from constant_from register_shift_from add_number_from move_number_from unary_from multiply_from long_multiply_from divide_from saturate_from bit_field_from extend_from access_from indexed_access_from dual_access_from multiple_access_from branch_from register_branch_from compare_branch_from if_then_from table_branch_from
  fills_rows =
      (refl, (choice_passes (to_pc (data_op (byte r 1)) (byte r 3)), (choice_passes (to_pc (data_op (byte r 1)) (byte r 3)), (refl, (refl, (refl, (refl, (refl, (refl, (refl, (refl, (refl, (refl, (choice_passes (is_ldr (access_op (byte r 1)) && eqb (byte r 3) 15), (choice_passes (is_ldr (access_op (byte r 1)) && eqb (byte r 3) 15), (refl, (choice_passes (loads_many (multiple_op (byte r 1)) && member (half r 5) 15), (refl, (refl, (refl, (refl, (refl, (refl, (refl, λ k. rw (ne_eqb (k + 24) 23 (λ e. omega arith))))))))))))))))))))))))))

  pub fills_as : fills (way (record_of r)) ≡ eqb kind 23
  unfolding record_of
  fills_as = of_kind Fills fills_rows kind

  -- the form byte, which gives the length in machine bytes; IT and NOP have no op before it
  abbrev Long : ℕ → (List ℕ → Record) → Type 0
  Long k f = 1 ≤ k → k ≤ 22 → machine_length (f r) ≡ form_length (form (byte r (if eqb k 20 || eqb k 21 then 1 else 2)))

  long_rows : Rows Long nop_from 0 readings
  unfolding machine_length traits shifted_register_from constant_from register_shift_from add_number_from move_number_from unary_from multiply_from long_multiply_from divide_from saturate_from bit_field_from extend_from access_from indexed_access_from dual_access_from multiple_access_from branch_from register_branch_from compare_branch_from if_then_from table_branch_from
  long_rows =
      (λ a b. absurd (omega arith), (λ a b. refl, (λ a b. refl, (λ a b. refl, (λ a b. refl, (λ a b. refl, (λ a b. refl, (λ a b. refl, (λ a b. refl, (λ a b. refl, (λ a b. refl, (λ a b. refl, (λ a b. refl, (λ a b. refl, (λ a b. refl, (λ a b. refl, (λ a b. refl, (λ a b. refl, (λ a b. refl, (λ a b. refl, (λ a b. refl, (λ a b. refl, (λ a b. refl, (λ a b. absurd (omega arith), λ k a b. absurd (omega arith)))))))))))))))))))))))))

  pub length_as : 1 ≤ kind → kind ≤ 22 → machine_length (record_of r) ≡ form_length (form (byte r (if eqb kind 20 || eqb kind 21 then 1 else 2)))
  unfolding record_of
  length_as = of_kind Long long_rows kind
