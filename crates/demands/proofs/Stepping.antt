-- The step of a record that is faced in an accepted listing strays only where the record takes its next address from a register or from memory.
use Prim.Native.Nat.{ℕ}
use mathlib.Core.Bool.{true, false, true≢false, ◌&&◌}
use mathlib.Core.Path.{◌≡◌, refl, sym, ap, ◌∙◌}
use lib.IntN.{ℤ}
use borrow.Author.Tests.{eqb-true}
use Rattle.word.proofs.Cases.{cases, yes_or_no, both_true}
use Rattle.address.specs.Address.{cleared}
use Rattle.address.proofs.Laws.{cleared_same}
use Rattle.waiting.specs.Waiting.{waiting_count, dropped}
use Rattle.record.specs.declared.Record.{Record}
use Rattle.flow.specs.declared.Way.{Way}
use Rattle.flow.specs.declared.Way.TheVariants.{Next, Direct, Taken, Fills}
use Rattle.flow.specs.Flow.{traits, way, target, leaves}
use Rattle.flow.proofs.Laws.{row, direct_drops}
use Rattle.reading.specs.Reading.{part}
use Rattle.layout.specs.declared.Point.{Point}
use Rattle.layout.specs.Layout.{Stands, Stray, free}
use Rattle.layout.proofs.Members.{On, Standing}
use Rattle.layout.proofs.Blocks.{parted_after, unparted, leaves_last}
use Rattle.listing.proofs.Accepted.{Accepted, on_even, branch_lands}
use Rattle.machine.specs.declared.Machine.{Machine}
use Rattle.machine.specs.Machine.{PC, held}
use Rattle.paper.proofs.Steers.{Goes}
use Rattle.paper.proofs.Came.{following, Arrived, Led}
use Rattle.paper.proofs.Parting.{step_parts}
use Rattle.run.specs.Run.{Rehearsal, State, faced}
use Rattle.demands.specs.Run.{AtRecord}
use Rattle.demands.specs.Demand3.{Takes}
use Rattle.run.specs.Code.{Fit}
use Rattle.run.proofs.Steps as steps
use Rattle.demands.proofs.Rounds.{tried, passage}
use Rattle.demands.proofs.Facing.{faced_record, at_point}

module _ (h : Rehearsal) (ok : Accepted h.listing h.base) where
  -- ---- the step of a record that is faced
  module _ (s : State) (fit : Fit h s) (r : Record) (p : Point) (e : faced h s.machine ≡ Stands r p) where
    abbrev m : Machine
    m = s.machine

    here : AtRecord h m r p
    here = faced_record h m r p e

    abbrev q : Point
    q = steps.q h ok s fit r p e

    abbrev stands : Standing h.listing h.base (held m PC) r p
    stands = steps.stands h ok s fit r p e

    module _ (done : (tried h s p).answer.number ≡ 0) where
      abbrev x : Machine
      x = (tried h s p).answer.machine

      led : Led m r x
      led = steps.led h ok s fit r p e done

      on : On h.listing h.base q
      on = steps.on h ok s fit r p e

      waits_next : x.waiting ≡ q.waiting
      waits_next = steps.waits_next h ok s fit r p e done

      -- a record that a filler may stand after takes the machine where it goes
      gone : ((traits r).parts && free p) ≡ true → Arrived m r (held x PC)
      unfolding free
      gone t =
          let b = both_true (traits r).parts (free p) t in
          let none : waiting_count m.waiting ≡ 0 = rw here.waits (eqb-true (waiting_count p.waiting) 0 b.1) in
          step_parts m (part h.listing p.place.0) s.memory h.setup r fit.machine_good fit.memory_fits fit.sixteen
          (steps.read_here h ok s fit r p e) (steps.unrefused_here h ok s fit r p e)
          (cases (row r).parts (λ e. absurd (true≢false (sym b.0 ∙ e))) (λ e. e)) stands.steps none done

      -- a machine that is led on to the next record is at the point after this one, where no filler stands
      not_onward : ((traits r).parts && free p) ≡ false → held x PC ≡ following m r → faced h x ≡ Stray → ⊥
      not_onward t a =
          let there = steps.next_at h ok s fit r p e in
          at_point h ok q on (unparted h.listing q (parted_after h.listing p r q stands.goes ∙ t)) x
          (a ∙ (ap (cleared 0) there ∙ cleared_same q.address.0 (on_even h.listing h.base ok q on)))
          waits_next

      -- and one that branches directly is at a landing place, where nothing waits
      not_direct : (a : Arrived m r (held x PC)) (offset : ℤ) → way r ≡ Direct offset → Goes m (Direct offset) a.value → faced h x ≡ Stray → ⊥
      unfolding leaves
      not_direct a offset f g =
          let land = branch_lands h.listing h.base ok p stands.on r q stands.goes offset f in
          let to = land.point.address.0 in
          let there = g ∙ (ap (λ (n : ℕ). target n (Direct offset)) (sym stands.at) ∙ sym land.at) in
          let last = leaves_last h.listing h.base p stands.on r q stands.goes (rw f) in
          at_point h ok land.point land.on land.steps x
          (a.at ∙ (ap (cleared 0) there ∙ cleared_same to (on_even h.listing h.base ok land.point land.on)))
          (led.waits ∙ (direct_drops r offset f m.waiting ∙ (ap dropped here.waits ∙ (last ∙ sym land.waits))))

      pub strays : faced h x ≡ Stray → Takes (passage h s r p)
      strays f =
          cases (yes_or_no ((traits r).parts && free p))
          (λ t. let a = gone t in arrived a (way r) refl a.goes)
          (λ t. cases led.at (λ a. absurd (not_onward t a f)) (λ a. arrived a (way r) refl a.goes))
        where
          arrived : (a : Arrived m r (held x PC)) (w : Way) → way r ≡ w → Goes m w a.value → Takes (passage h s r p)
          arrived a Next w g = absurd g
          arrived a Fills w g = absurd g
          arrived a (Direct offset) w g = absurd (not_direct a offset w g f)
          arrived a Taken w g = record { passed = a.passed; from = w }
