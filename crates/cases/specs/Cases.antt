-- The worked cases: what the check answers of small tables, what a hold shows, and operators at the ends of ranges. Assumes nothing.
use Rattle.std.specs.Prelude.{◌≡◌, ℕ, zero, suc, ◌≤◌, List, [], ◌∷◌, length, pos, negsuc, Some, None, Ok, Err, Result}
use Rattle.faults.specs.declared.cause.Cause.{Cause}
use Rattle.faults.specs.declared.cause.Cause.TheVariants.{ClosedWalk, ChannelWalk}
use Rattle.faults.specs.declared.fault.Fault.{Fault}
use Rattle.operators.specs.Minimums.{KeepsMinimum}
use Rattle.schedule.specs.declared.plan.Counts.{Counts}
use Rattle.schedule.specs.Graphs.{stream, graph}
use Rattle.schedule.specs.Plans.{lead_by}
use Rattle.syntax.specs.Entries.{Entry}
use Rattle.values.specs.declared.value.Value.TheVariants as value
use Rattle.walks.specs.declared.edge.SheetEntry.{SheetEntry}
use Rattle.walks.specs.Walks.{Lead, Ring}
use Rattle.tables.specs.Rejecting.{Rejection}
use Rattle.faults.specs.declared.stop.Stop.TheVariants.{Refused, Memory}
use Rattle.tables.specs.declared.table.Table.{Table}
use Rattle.tables.specs.Reading.{checked}
use Rattle.tables.specs.Checking.{Answers}
use Rattle.cases.specs.Showing.{m2_repeating, m2_ahead}
use Rattle.cases.specs.declared.WorkedCases.{WorkedCases}

-- whatever the check answers of the bytes, with a sheet that is long enough and where memory does not fail, is P
abbrev pub Checks : List ℕ → (Result Counts Rejection → Type 0) → Type 0
Checks bytes P = (old new : Table) (sheet sheet' : List SheetEntry) (r : Result Counts Rejection) →
    33 ≤ length sheet → Answers old new bytes sheet sheet' r → ¬ (r ≡ Err Memory) → P r

-- an acceptance with so many slots
abbrev pub AcceptedWith : ℕ → Result Counts Rejection → Type 0
AcceptedWith z r = (c : Counts) × (r ≡ Ok c) × (c.slots ≡ z)

-- a refusal for this cause
abbrev pub RefusedFor : Cause → Result Counts Rejection → Type 0
RefusedFor x r = (f : Fault) × (r ≡ Err (Refused f)) × (f.cause ≡ x)

-- stream 0 is m3 = [0, 1, 2] ++ m2 and stream 1 is m2 = drop 1 m3, in Word8
abbrev pub two_streams : List ℕ
two_streams =
    0x01
    ∷ 0x00 ∷ 0x09 ∷ 0x02 ∷ 0x02 ∷ 0x03 ∷ 0x00 ∷ 0x01 ∷ 0x02 ∷ 0x03 ∷ 0x01 ∷ 0x00
    ∷ 0x00 ∷ 0x06 ∷ 0x02 ∷ 0x02 ∷ 0x00 ∷ 0x03 ∷ 0x00 ∷ 0x01
    ∷ []

-- the leads of m3 and m2
abbrev pub two_leads : ℕ → ℕ
two_leads zero = 1
two_leads (suc n) = 0

-- the leads are 1 and 0, and the rings have 1 and 3 slots
pub record Two (rs : List Entry) : Type 0 where
  pub lead_m3 : Lead (graph rs) (stream 0) (pos 1)
  pub lead_m2 : Lead (graph rs) (stream 1) (pos 0)
  pub ring_m3 : Ring (graph rs) (lead_by two_leads) (stream 0) 1
  pub ring_m2 : Ring (graph rs) (lead_by two_leads) (stream 1) 3

-- so it is, and the table is accepted with 4 slots
abbrev pub TwoStreams : Type 0
TwoStreams = ((rs : List Entry) → checked two_streams ≡ Ok rs → Two rs) × Checks two_streams (AcceptedWith 4)

-- m0 = [0, 1, 2] ++ (channel 0 + 3), m1 = m0 + m0 and m2 = drop d m1, in Word64
abbrev pub three_streams : ℕ → List ℕ
three_streams d =
    0x01
    ∷ 0x00 ∷ 0x02 ∷ 0x01 ∷ 0x05
    ∷ 0x00 ∷ 0x28 ∷ 0x02 ∷ 0x05 ∷ 0x03
    ∷ 0 ∷ 0 ∷ 0 ∷ 0 ∷ 0 ∷ 0 ∷ 0 ∷ 0 ∷ 0 ∷ 0 ∷ 0 ∷ 0 ∷ 0 ∷ 0 ∷ 0 ∷ 1 ∷ 0 ∷ 0 ∷ 0 ∷ 0 ∷ 0 ∷ 0 ∷ 0 ∷ 2
    ∷ 0x30 ∷ 0x02 ∷ 0x00 ∷ 0x01 ∷ 0x05 ∷ 0 ∷ 0 ∷ 0 ∷ 0 ∷ 0 ∷ 0 ∷ 0 ∷ 3
    ∷ 0x00 ∷ 0x0a ∷ 0x02 ∷ 0x05 ∷ 0x00 ∷ 0x30 ∷ 0x03 ∷ 0x00 ∷ 0x00 ∷ 0x03 ∷ 0x00 ∷ 0x00
    ∷ 0x00 ∷ 0x06 ∷ 0x02 ∷ 0x05 ∷ 0x00 ∷ 0x03 ∷ 0x01 ∷ d
    ∷ []

-- with drop 2 it is accepted
abbrev pub TwoAhead : Type 0
TwoAhead = Checks (three_streams 2) (AcceptedWith 5)

-- with drop 3 it is accepted too
abbrev pub ThreeAhead : Type 0
ThreeAhead = Checks (three_streams 3) (AcceptedWith 4)

-- with drop 4 it is refused for a walk of three references to the channel
abbrev pub FourAhead : Type 0
FourAhead = Checks (three_streams 4) (RefusedFor (ChannelWalk 3))

-- s = [1] ++ drop d s, in Word8
abbrev pub one_stream : ℕ → List ℕ
one_stream d = 0x01 ∷ 0x00 ∷ 0x07 ∷ 0x02 ∷ 0x02 ∷ 0x01 ∷ 0x01 ∷ 0x03 ∷ 0x00 ∷ d ∷ []

-- with drop 1 it is refused for a closed walk of one reference
abbrev pub OneAhead : Type 0
OneAhead = Checks (one_stream 1) (RefusedFor (ClosedWalk 1))

-- with drop 0 it is accepted
abbrev pub NoneAhead : Type 0
NoneAhead = Checks (one_stream 0) (AcceptedWith 2)

-- ---- what the code answers
-- the slots of an acceptance, or the cause of a refusal
abbrev pub Says : Result Counts Rejection → Result ℕ Cause → Type 0
Says (Ok c) v = v ≡ Ok c.slots
Says (Err (Refused f)) v = v ≡ Err f.cause
Says (Err Memory) v = ⊥

-- v is what the check answers of the bytes
pub record Verdict (bytes : List ℕ) (v : Result ℕ Cause) : Type 0 where
  pub before : Table
  pub after : Table
  pub sheet : List SheetEntry
  pub sheet_after : List SheetEntry
  pub answer : Result Counts Rejection
  pub space : 33 ≤ length sheet
  pub answers : Answers before after bytes sheet sheet_after answer
  pub is : Says answer v

-- the answers of the worked cases
pub record AsWorked (w : WorkedCases) : Type 0 where
  pub two : w.two ≡ Ok 4
  pub three : w.three ≡ Ok 4
  pub four : w.four ≡ Err (ChannelWalk 3)
  pub one : w.one ≡ Err (ClosedWalk 1)
  pub none : w.none ≡ Ok 2
  pub repeating : w.repeating ≡ m2_repeating
  pub ahead : w.ahead ≡ m2_ahead
  pub bridged : w.bridged ≡ Some (value.Word8 5) ∷ Some (value.Word8 5) ∷ Some (value.Word8 5) ∷ None ∷ []
  pub sum : w.edges.sum ≡ value.Word8 0
  pub fraction : w.edges.fraction ≡ value.Int8 (negsuc 2)
  pub rest : w.edges.rest ≡ value.Int8 (negsuc 0)
  pub int8 : KeepsMinimum (value.Int8 (negsuc 127)) (value.Int8 (pos 0)) w.edges.int8
  pub int16 : KeepsMinimum (value.Int16 (negsuc 32767)) (value.Int16 (pos 0)) w.edges.int16
  pub int32 : KeepsMinimum (value.Int32 (negsuc 2147483647)) (value.Int32 (pos 0)) w.edges.int32
  pub int64 : KeepsMinimum (value.Int64 (negsuc 9223372036854775807)) (value.Int64 (pos 0)) w.edges.int64
