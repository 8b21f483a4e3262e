-- Memory keeps its length through every store.
use Rattle.std.proofs.Common.{◌≡◌, ℕ, zero, suc, Bool, true, false, List, length, refl, ◌∙◌}
use Rattle.std.specs.Bool.{if◌then◌else◌}
use Rattle.register_list.specs.List.{member}
use Rattle.setup.specs.declared.Setup.{Setup}
use Rattle.memory.specs.Memory.{stored}
use Rattle.memory.proofs.Laws.{stored_length}
use Rattle.record.specs.declared.op.AccessOp.{AccessOp}
use Rattle.record.specs.declared.op.AccessOp.TheVariants.{Ldr, Ldrb, Ldrh, Ldrsb, Ldrsh, Str, Strb, Strh}
use Rattle.transfer.specs.Transfer.{after_store, list_stored}

pub after_store_length : (op : AccessOp) (setup : Setup) (bytes : List ℕ) (a v : ℕ) → length (after_store op setup bytes a v) ≡ length bytes
unfolding after_store
after_store_length Ldr setup bytes a v = refl
after_store_length Ldrb setup bytes a v = refl
after_store_length Ldrh setup bytes a v = refl
after_store_length Ldrsb setup bytes a v = refl
after_store_length Ldrsh setup bytes a v = refl
after_store_length Str setup bytes a v = stored_length 4 setup bytes a v
after_store_length Strb setup bytes a v = stored_length 1 setup bytes a v
after_store_length Strh setup bytes a v = stored_length 2 setup bytes a v

pub list_stored_length : (n : ℕ) (setup : Setup) (bytes registers : List ℕ) (list low : ℕ)
    → length (list_stored n setup bytes registers list low) ≡ length bytes
unfolding list_stored
list_stored_length zero setup bytes registers list low = refl
list_stored_length (suc n) setup bytes registers list low =
    go (member list n) (list_stored n setup bytes registers list low) _ _ (list_stored_length n setup bytes registers list low)
  where
    go : (t : Bool) (rest : List ℕ) (a v : ℕ) → length rest ≡ length bytes → length (if t then stored 4 setup rest a v else rest) ≡ length bytes
    go true rest a v e = stored_length 4 setup rest a v ∙ e
    go false rest a v e = e
