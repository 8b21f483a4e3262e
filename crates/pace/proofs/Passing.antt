-- What waits after a record that is passed over, and the records that do nothing but go on.
use Rattle.std.proofs.Common.{◌≡◌, ℕ, ◌≤◌, Bool, true, false, eqb, leb, List, [], ◌∷◌, sym, refl, ◌∙◌, true≢false, arith, eq-eqb, eqb-true, leb-false}
use Rattle.std.specs.Bool.{if◌then◌else◌}
use Rattle.little.specs.Little.{byte}
use Rattle.waiting.specs.declared.Waiting.{Waiting}
use Rattle.waiting.specs.Waiting.{none, waiting_count, dropped}
use Rattle.waiting.proofs.Laws.{first_none}
use Rattle.word.proofs.Cases.{cases, yes_or_no, neither}
use Rattle.flags.specs.declared.Flags.{Flags}
use Rattle.flags.specs.Flags.{passes}
use Rattle.record.specs.declared.Record.{Record}
use Rattle.flow.specs.Flow.{traits, way, leaves, misplaced, after, own_condition}
use Rattle.kinds.specs.Kinds.{readings, nop_from, record_of}
use Rattle.setup.specs.declared.Setup.{Setup}
use Rattle.machine.specs.declared.Machine.{Machine}
use Rattle.machine.specs.Machine.{done, keeping}
use Rattle.machine.specs.Step.{effect}
use Rattle.pace.specs.Pace.{Ready}
use Rattle.kinds.specs.Kinds.{if_then_from}
use Rattle.pace.proofs.Table.{Rows, of_kind, own_as, after_as}

-- ---- a condition that fails: IT is never passed over, so that what waits next is what waits where it passes
module _ (r : List ℕ) (w : Waiting) (f : Flags) (ready : Ready r w) where
  abbrev passing : Bool
  passing = passes f (if eqb w.first none then own_condition (record_of r) else w.first)

  opens : eqb (byte r 0) 20 ≡ true → passing ≡ true
  unfolding record_of misplaced way leaves traits if_then_from passes
  opens t =
      let n = waiting_count w in
      let is = eqb-true (byte r 0) 20 t in
      let alone : misplaced (if_then_from r) n ≡ false = rw is at ready.spot in
      let zero : n ≡ 0 = omega (arith, leb-false 1 n (neither (leb 1 n) false alone).0) in
      rw (eq-eqb w.first none (first_none w zero), own_as r, is)

  pub skipped_waits : passing ≡ false → dropped w ≡ after (record_of r) w
  skipped_waits h =
      cases (yes_or_no (eqb (byte r 0) 20)) (λ t. absurd (true≢false (sym (opens t) ∙ h))) (λ t. rw (after_as r w, t))

-- ---- a kind that is none of these
abbrev pub Unlike : List ℕ → ℕ → Type 0
Unlike [] n = Unit {0}
Unlike (k ∷ ks) n = Unlike ks n × (n ≡ k → ⊥)

abbrev pub armed : List ℕ
armed = 22 ∷ 19 ∷ 18 ∷ 17 ∷ 16 ∷ 15 ∷ 12 ∷ 11 ∷ 10 ∷ 9 ∷ 8 ∷ 7 ∷ 6 ∷ 5 ∷ 4 ∷ []

-- IT and NOP do nothing but go on
module _ (r : List ℕ) (m next : Machine) (bytes : List ℕ) (setup : Setup) where
  abbrev OnlyOn : ℕ → (List ℕ → Record) → Type 0
  OnlyOn k f =
      Unlike armed k → 4 ≤ k → k ≤ 22 → (k ≡ 13 → ⊥) → (k ≡ 14 → ⊥) → effect m next (f r) bytes setup ≡ keeping (done next) bytes

  only_rows : Rows OnlyOn nop_from 0 readings
  unfolding effect if_then_from
  only_rows = (
    (λ u l g a b. absurd (omega arith)),
    (
      (λ u l g a b. absurd (omega arith)),
      (
        (λ u l g a b. absurd (omega arith)),
        (
          (λ u l g a b. absurd (omega arith)),
          (
            (λ u l g a b. absurd (u.0.0.0.0.0.0.0.0.0.0.0.0.0.0.1 refl)),
            (
              (λ u l g a b. absurd (u.0.0.0.0.0.0.0.0.0.0.0.0.0.1 refl)),
              (
                (λ u l g a b. absurd (u.0.0.0.0.0.0.0.0.0.0.0.0.1 refl)),
                (
                  (λ u l g a b. absurd (u.0.0.0.0.0.0.0.0.0.0.0.1 refl)),
                  (
                    (λ u l g a b. absurd (u.0.0.0.0.0.0.0.0.0.0.1 refl)),
                    (
                      (λ u l g a b. absurd (u.0.0.0.0.0.0.0.0.0.1 refl)),
                      (
                        (λ u l g a b. absurd (u.0.0.0.0.0.0.0.0.1 refl)),
                        (
                          (λ u l g a b. absurd (u.0.0.0.0.0.0.0.1 refl)),
                          (
                            (λ u l g a b. absurd (u.0.0.0.0.0.0.1 refl)),
                            (
                              (λ u l g a b. absurd (a refl)),
                              (
                                (λ u l g a b. absurd (b refl)),
                                (
                                  (λ u l g a b. absurd (u.0.0.0.0.0.1 refl)),
                                  (
                                    (λ u l g a b. absurd (u.0.0.0.0.1 refl)),
                                    (
                                      (λ u l g a b. absurd (u.0.0.0.1 refl)),
                                      (
                                        (λ u l g a b. absurd (u.0.0.1 refl)),
                                        (
                                          (λ u l g a b. absurd (u.0.1 refl)),
                                          (
                                            (λ u l g a b. refl),
                                            (
                                              (λ u l g a b. refl),
                                              (
                                                (λ u l g a b. absurd (u.1 refl)),
                                                (
                                                  (λ u l g a b. absurd (omega arith)),
                                                  λ k u l g a b. absurd (omega arith),
                                                ),
                                              ),
                                            ),
                                          ),
                                        ),
                                      ),
                                    ),
                                  ),
                                ),
                              ),
                            ),
                          ),
                        ),
                      ),
                    ),
                  ),
                ),
              ),
            ),
          ),
        ),
      ),
    ),
  )

  pub only_on : let kind = byte r 0 in
      Unlike armed kind → 4 ≤ kind → kind ≤ 22 → (kind ≡ 13 → ⊥) → (kind ≡ 14 → ⊥) → effect m next (record_of r) bytes setup ≡ keeping (done next) bytes
  unfolding record_of
  only_on = of_kind OnlyOn only_rows (byte r 0)
