-- The runs of the table compute.
use Rattle.std.specs.Prelude.{Some}
use Prim.Native.Nat.{ℕ}
use mathlib.Core.Path.{◌≡◌, refl, ap}
use native.Mathlib.Omega.{arith}
use Rattle.address.specs.Address.{cleared, linked}
use Rattle.waiting.specs.Waiting.{waiting_count, dropped, same, good_waiting}
use Rattle.fields.specs.Fields.{well_formed}
use Rattle.restricted.specs.Restricted.{allowed}
use Rattle.flow.specs.Flow.{traits, machine_length, way, leaves, fills, misplaced, opened, after, own_condition}
use Rattle.kinds.specs.Kinds.{listing_length, names, form, register_branch_from, record_of}
use Rattle.reading.specs.Reading.{coded, named, read_one, found_at, read_at}
use Rattle.judge.specs.Judge.{refusal}
use Rattle.flags.specs.Flags.{passes}
use Rattle.setup.specs.Setup.{fits}
use Rattle.layout.specs.Layout.{start, free, next, refusal_at, judged_at, meets, walk, layout, sought, filled, standing, standing_at, at_address}
use Rattle.listing.specs.Check.{lowest, end_fault, fault, astray, branch_fault, first_pass, second_pass, checked}
use Rattle.machine.specs.Machine.{held, operand_value, kept, written, with_waiting, good, ruling, condition_passes, advanced, onward, refused, done, steady, settled, landed}
use Rattle.machine.specs.Branch.{linking, register_branch_effect}
use Rattle.machine.specs.Step.{effect, obeyed, considered, stepped}
use Rattle.run.specs.Run.{agreeing, faced, attempted, round_at, round, used_up, rounds, run_of}
use Rattle.run.specs.Place.{place_in, walks_place, same_place, begins, resumed}
use Rattle.run.specs.Code.{due_at}
use Rattle.demands.specs.Demand3.{Start, Restart}
use Rattle.demands.specs.Worked.{shown, with_R15, from, run_table, RunsWorked, resume_table, ResumesWorked}

pub worked : RunsWorked run_table
unfolding cleared linked waiting_count dropped same good_waiting well_formed allowed traits machine_length way leaves fills misplaced opened after own_condition listing_length names form register_branch_from record_of coded named read_one found_at read_at refusal passes fits start free next refusal_at judged_at meets walk layout sought filled standing standing_at at_address lowest end_fault fault astray branch_fault first_pass second_pass checked held operand_value kept written with_waiting good ruling condition_passes advanced onward refused done steady settled landed linking register_branch_effect effect obeyed considered stepped agreeing faced attempted round_at round used_up rounds run_of
worked = (
  (any 0x1005, refl, refl, refl),
  ((any 0x2000, refl, refl, refl), ((any 0x2001, refl, refl, refl), ((any 0x1001, refl, refl, refl), tt))),
)
  where
    any : (r0 : ℕ) → Start shown (from r0)
    any r0 = record {
      accepted = refl;
      memory_fits = refl;
      machine_good = refl;
      sixteen = refl;
      at_first = refl;
      nothing_waits = refl;
      no_filler_first = refl;
    }

pub worked_resumes : ResumesWorked resume_table
unfolding cleared linked waiting_count dropped same good_waiting well_formed allowed traits machine_length way leaves fills misplaced opened after own_condition listing_length names form register_branch_from record_of coded named read_one found_at read_at refusal passes fits start free next refusal_at judged_at meets walk layout sought filled standing standing_at at_address lowest end_fault fault astray branch_fault first_pass second_pass checked held operand_value kept written with_waiting good ruling condition_passes advanced onward refused done steady settled landed linking register_branch_effect effect obeyed considered stepped agreeing faced attempted round_at round used_up rounds run_of place_in walks_place same_place begins resumed
worked_resumes = (
  (any 0x1005, refl, refl, refl, refl),
  ((any 0x2000, refl, refl, refl, refl), ((any 0x2001, refl, refl, refl, refl), ((any 0x1001, refl, refl, refl, refl), tt))),
)
  where
    any : (r0 : ℕ) → Restart shown (with_R15 r0 0x1002) (Some (record { 0 = 2 }))
    any r0 = record {
      accepted = refl;
      memory_fits = refl;
      machine_good = refl;
      sixteen = refl;
      agrees = refl;
      placed = λ e. let z : ◌≡◌ {A = ℕ} 0 1 = cc in omega arith;
      waits_there = λ r p e. ap due_at e;
      waits_at_end = λ e. refl;
    }
