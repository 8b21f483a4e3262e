-- What a machine faces.
use Prim.Native.Nat.{ℕ}
use mathlib.Core.Bool.{true, false}
use mathlib.Core.List.{List}
use mathlib.Core.Path.{◌≡◌, refl}
use native.Mathlib.Omega.{arith}
use Rattle.waiting.specs.Waiting.{nothing, same}
use Rattle.waiting.proofs.Laws.{same_self}
use Rattle.record.specs.declared.Record.{Record}
use Rattle.layout.specs.declared.Point.{Point}
use Rattle.layout.specs.Layout.{AtAddress, Stands, End, Stray, Met, Onward, AtEnd, Refusal, meets, at_address, filled, standing}
use Rattle.layout.proofs.Members.{On, on_found}
use Rattle.listing.proofs.Accepted.{Accepted, not_stopped, end_waits}
use Rattle.machine.specs.declared.Machine.{Machine}
use Rattle.machine.specs.Machine.{PC, held}
use Rattle.run.specs.Run.{Rehearsal, agreeing, faced}
use Rattle.run.proofs.Faced.{agreed_record, agreed_end}
use Rattle.demands.specs.Run.{AtRecord}

module _ (h : Rehearsal) (m : Machine) where
  abbrev there : AtAddress
  there = at_address h.listing h.base (held m PC)

  pub faced_record : (r : Record) (p : Point) → faced h m ≡ Stands r p → AtRecord h m r p
  unfolding faced
  faced_record r p e = let a = agreed_record there m.waiting r p e in record { stands = a.0; waits = a.1 }

  pub faced_end : faced h m ≡ End → (there ≡ End) × (m.waiting ≡ nothing)
  unfolding faced
  faced_end e = agreed_end there m.waiting e

-- ---- at a point of an accepted listing that has no filler, with its conditions waiting, a machine doesn't stray
not_stray : (listing : List ℕ) (base : ℕ) → Accepted listing base → (p : Point) → On listing base p
    → (t : Met) → meets listing p ≡ t → filled t ≡ false → agreeing (standing t p) p.waiting ≡ Stray → ⊥
unfolding agreeing standing filled
not_stray listing base ok p o (Onward r q) e s f =
    let g = rw (s, same_self p.waiting) at f in let z : ◌≡◌ {A = ℕ} 0 1 = cc in omega arith
not_stray listing base ok p o AtEnd e n f =
    let s : same p.waiting nothing ≡ true = rw (end_waits listing base ok p o e) (same_self nothing) in
    let g = rw s at f in let z : ◌≡◌ {A = ℕ} 0 1 = cc in omega arith
not_stray listing base ok p o (Refusal number) e s f = not_stopped listing base ok p o number e

pub at_point : (h : Rehearsal) → Accepted h.listing h.base → (p : Point) → On h.listing h.base p
    → filled (meets h.listing p) ≡ false → (m : Machine) → held m PC ≡ p.address.0 → m.waiting ≡ p.waiting → faced h m ≡ Stray → ⊥
unfolding faced
at_point h ok p o s m a w e =
    not_stray h.listing h.base ok p o (meets h.listing p) refl s
    (rw (a, w, on_found h.listing h.base p o) at e)
