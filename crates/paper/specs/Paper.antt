-- "Worked on paper": P1 to P10 of paper 01 as one table, and the statement that each row is what the step's definition gives.
use Rattle.std.specs.Prelude.{ℕ, Bool, true, false, List, [], ◌∷◌, ◌≡◌}
use Rattle.flags.specs.declared.Flags.{Flags}
use Rattle.flags.specs.Flags.{clear}
use Rattle.waiting.specs.Waiting.{nothing}
use Rattle.setup.specs.Setup.{at_base}
use Rattle.machine.specs.declared.Machine.{Machine}
use Rattle.machine.specs.Machine.{done, keeping}
use Rattle.machine.specs.Step.{stepped}

-- a record, the machine before it and the machine after it
pub record Row : Type 0 where
  pub bytes : List ℕ
  pub before : Machine
  pub after : Machine

abbrev pub flags : Bool → Bool → Bool → Bool → Bool → Flags
flags n z c v q = record { n = n; z = z; c = c; v = v; q = q }

-- R0, R1, R2, R14 and R15; the other registers are 0, and nothing waits
abbrev pub machine : ℕ → ℕ → ℕ → ℕ → ℕ → Flags → Machine
machine r0 r1 r2 r14 r15 f = record {
  registers = r0 ∷ r1 ∷ r2 ∷ 0 ∷ 0 ∷ 0 ∷ 0 ∷ 0 ∷ 0 ∷ 0 ∷ 0 ∷ 0 ∷ 0 ∷ 0 ∷ r14 ∷ r15 ∷ [];
  flags = f;
  waiting = nothing;
}

-- P1 ADDS 0xFFFFFFFF+1: 0, Z C set, N V clear
abbrev pub P1 : Row
P1 = record {
  bytes = 0x02 ∷ 0x00 ∷ 0x01 ∷ 0 ∷ 0 ∷ 1 ∷ 0 ∷ 0 ∷ 0 ∷ [];
  before = machine 0xFFFFFFFF 0 0 0 0x1000 clear;
  after = machine 0 0 0 0 0x1002 (flags false true true false false);
}

-- P2 SUBS 0-1: 0xFFFFFFFF, N only
abbrev pub P2 : Row
P2 = record {
  bytes = 0x02 ∷ 0x02 ∷ 0x01 ∷ 0 ∷ 0 ∷ 1 ∷ 0 ∷ 0 ∷ 0 ∷ [];
  before = machine 0 0 0 0 0x1000 clear;
  after = machine 0xFFFFFFFF 0 0 0 0x1002 (flags true false false false false);
}

-- P3 SUBS 0x80000000-1: 0x7FFFFFFF, C V
abbrev pub P3 : Row
P3 = record {
  bytes = 0x02 ∷ 0x02 ∷ 0x01 ∷ 0 ∷ 0 ∷ 1 ∷ 0 ∷ 0 ∷ 0 ∷ [];
  before = machine 0x80000000 0 0 0 0x1000 clear;
  after = machine 0x7FFFFFFF 0 0 0 0x1002 (flags false false true true false);
}

-- P4 ADCS 0x7FFFFFFF+0, C set: 0x80000000, N V
abbrev pub P4 : Row
P4 = record {
  bytes = 0x02 ∷ 0x01 ∷ 0x01 ∷ 0 ∷ 0 ∷ 0 ∷ 0 ∷ 0 ∷ 0 ∷ [];
  before = machine 0x7FFFFFFF 0 0 0 0x1000 (flags false false true false false);
  after = machine 0x80000000 0 0 0 0x1002 (flags true false false true false);
}

-- P5 MOVS LSR 32 of 0x80000000: 0, Z C
abbrev pub P5 : Row
P5 = record {
  bytes = 0x01 ∷ 0x0A ∷ 0x01 ∷ 0 ∷ 0 ∷ 1 ∷ 1 ∷ 32 ∷ [];
  before = machine 0 0x80000000 0 0 0x1000 clear;
  after = machine 0 0x80000000 0 0 0x1002 (flags false true true false false);
}

-- P6 MOVS RRX of 2, C set: 0x80000001, C clear
abbrev pub P6 : Row
P6 = record {
  bytes = 0x01 ∷ 0x0A ∷ 0x01 ∷ 0 ∷ 0 ∷ 1 ∷ 4 ∷ 0 ∷ [];
  before = machine 0 2 0 0 0x1000 (flags false false true false false);
  after = machine 0x80000001 2 0 0 0x1002 (flags true false false false false);
}

-- P7 SSAT 16, LSL 4 of 0x1000: 0x7FFF, Q
abbrev pub P7 : Row
P7 = record {
  bytes = 0x0A ∷ 0x00 ∷ 0x02 ∷ 0 ∷ 16 ∷ 1 ∷ 0 ∷ 4 ∷ [];
  before = machine 0 0x1000 0 0 0x1000 clear;
  after = machine 0x7FFF 0x1000 0 0 0x1004 (flags false false false false true);
}

-- P8 BFI 0xABC into 0xFFFFFFFF, lsb 8, width 12: 0xFFFABCFF
abbrev pub P8 : Row
P8 = record {
  bytes = 0x0B ∷ 0x01 ∷ 0x02 ∷ 0 ∷ 1 ∷ 8 ∷ 12 ∷ [];
  before = machine 0xFFFFFFFF 0xABC 0 0 0x1000 clear;
  after = machine 0xFFFABCFF 0xABC 0 0 0x1004 clear;
}

-- P9 SDIV 0x80000000 by 0xFFFFFFFF: 0x80000000
abbrev pub P9 : Row
P9 = record {
  bytes = 0x09 ∷ 0x00 ∷ 0x02 ∷ 0 ∷ 1 ∷ 2 ∷ [];
  before = machine 0 0x80000000 0xFFFFFFFF 0 0x1000 clear;
  after = machine 0x80000000 0x80000000 0xFFFFFFFF 0 0x1004 clear;
}

-- P9 7 by 0: 0
abbrev pub P9Zero : Row
P9Zero = record {
  bytes = 0x09 ∷ 0x00 ∷ 0x02 ∷ 0 ∷ 1 ∷ 2 ∷ [];
  before = machine 1 7 0 0 0x1000 clear;
  after = machine 0 7 0 0 0x1004 clear;
}

-- P10 BLX R0 at 0x1000, R0 = 0x2001: R15 0x2000, R14 0x1003
abbrev pub P10 : Row
P10 = record {
  bytes = 0x12 ∷ 0x01 ∷ 0x00 ∷ 0 ∷ [];
  before = machine 0x2001 0 0 0 0x1000 clear;
  after = machine 0x2001 0 0 0x1003 0x2000 clear;
}

abbrev pub paper_table : List Row
paper_table = P1 ∷ P2 ∷ P3 ∷ P4 ∷ P5 ∷ P6 ∷ P7 ∷ P8 ∷ P9 ∷ P9Zero ∷ P10 ∷ []

-- the step is done, and gives the machine after it; memory is empty
abbrev pub Gives : Row → Type 0
Gives row =
    let setup = at_base 0x20000000 in
    stepped row.before row.bytes [] setup ≡ keeping (done row.after) []

-- every row of a table is as the step gives it
abbrev pub Worked : List Row → Type 0
Worked [] = Unit {0}
Worked (row ∷ rows) = Gives row × Worked rows
