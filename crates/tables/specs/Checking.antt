-- What the check answers of a table's bytes and a sheet, and what it leaves behind. Assumes nothing.
use Rattle.std.specs.Prelude.{◌≡◌, ℕ, ◌<◌, ◌≤◌, ◌⊎◌, List, [], ◌∷◌, length, pos, ◌≤ℤ◌, Ok, Err, Result, slice_index}
use Rattle.faults.specs.declared.cause.Cause.{Cause}
use Rattle.faults.specs.declared.cause.Cause.TheVariants.{ShortSheet}
use Rattle.faults.specs.declared.fault.Layer.TheVariants as layer
use Rattle.faults.specs.Causes.{refusal, number_of}
use Rattle.faults.specs.Faults.{made_by}
use Rattle.references.specs.declared.reference.Id.{Id}
use Rattle.references.specs.declared.reference.Reference.{Reference}
use Rattle.schedule.specs.declared.plan.Counts.{Counts}
use Rattle.schedule.specs.Graphs.{graph, IsChannel}
use Rattle.schedule.specs.Plans.{Takes, counted}
use Rattle.schedule.specs.Scheduling.{Blames}
use Rattle.faults.specs.declared.stop.Stop.{Stop}
use Rattle.syntax.specs.Entries.{Entry}
use Rattle.walks.specs.declared.edge.SheetEntry.{SheetEntry}
use Rattle.walks.specs.Walks.{Walk, weigh, Rising, Falling, Settled}
use Rattle.tables.specs.Rejecting.{Rejection}
use Rattle.faults.specs.declared.stop.Stop.TheVariants.{Refused, Memory}
use Rattle.tables.specs.declared.table.Table.{Table}
use Rattle.tables.specs.Reading.{checked}
use Rattle.tables.specs.Tables.{bytes_of, records_of, plan_of}

-- the table holds these bytes, the records that they write, and a plan with these counts
pub record Holds (t : Table) (bytes : List ℕ) (c : Counts) : Type 0 where
  pub bytes_are : bytes_of t ≡ bytes
  pub records_are : checked bytes ≡ Ok (records_of t)
  pub counts_are : (plan_of t).counts ≡ c

-- the bytes are accepted with these counts: they are in order, no walk is to blame, and their rings take so many slots, at most 2,048
pub record Accepts (bytes : List ℕ) (c : Counts) : Type 0 where
  pub records : List Entry
  pub order : checked bytes ≡ Ok records
  pub falls : Falling (graph records)
  pub settled : Settled (graph records) IsChannel
  pub takes : Takes records c.slots
  pub small : c.slots ≤ 2048
  pub counts : c ≡ counted records c.slots

-- why bytes are refused, by number and place: the sheet is short; or they are not in order; or a walk or their slots are to blame
abbrev pub Refuses : List ℕ → List SheetEntry → List SheetEntry → Cause → Type 0
Refuses bytes sheet sheet' c =
    ((length sheet < 33) × (refusal c ≡ refusal (ShortSheet (length sheet))) × (sheet' ≡ sheet))
    ⊎ ((33 ≤ length sheet) × (checked bytes ≡ Err (refusal c)) × (sheet' ≡ sheet))
    ⊎ ((33 ≤ length sheet) × (rs : List Entry) × (checked bytes ≡ Ok rs) × Blames rs sheet sheet' c)

-- memory may fail only where sheet, version and size have passed
pub record Starved (bytes : List ℕ) (sheet : List SheetEntry) : Type 0 where
  pub space : 33 ≤ length sheet
  pub version : slice_index bytes 0 ≡ 1
  pub size : length bytes ≤ 8192

-- what the check answers, and what it leaves of the table and the sheet: a refusal keeps the table, an acceptance the sheet
abbrev pub Answers : Table → Table → List ℕ → List SheetEntry → List SheetEntry → Result Counts Rejection → Type 0
Answers old new bytes sheet sheet' (Ok c) = (33 ≤ length sheet) × (sheet' ≡ sheet) × Accepts bytes c × Holds new bytes c
Answers old new bytes sheet sheet' (Err (Refused f)) = (new ≡ old) × (f ≡ made_by layer.Table f.cause) × Refuses bytes sheet sheet' f.cause
Answers old new bytes sheet sheet' (Err Memory) = (new ≡ old) × (sheet' ≡ sheet) × Starved bytes sheet

-- the same of a table that is made, before another gives way to it
abbrev pub Admits : List ℕ → List SheetEntry → List SheetEntry → Result Table (Stop Cause) → Type 0
Admits bytes sheet sheet' (Ok t) = (33 ≤ length sheet) × (sheet' ≡ sheet) × Accepts bytes (plan_of t).counts × Holds t bytes (plan_of t).counts
Admits bytes sheet sheet' (Err (Refused c)) = Refuses bytes sheet sheet' c
Admits bytes sheet sheet' (Err Memory) = (sheet' ≡ sheet) × Starved bytes sheet

-- the first table: the byte 01 alone
abbrev pub First : Table → Type 0
First t = Holds t (1 ∷ []) (counted [] 0)

-- ---- the law of the check
-- the answer is a refusal of this number
abbrev pub RefusedBy : Result Counts Rejection → ℕ → Type 0
RefusedBy (Ok c) n = ⊥
RefusedBy (Err (Refused f)) n = number_of f.cause ≡ n
RefusedBy (Err Memory) n = ⊥

-- the answer is an acceptance
abbrev pub Accepting : Result Counts Rejection → Type 0
Accepting (Ok c) = Unit {0}
Accepting (Err x) = ⊥

-- some closed walk weighs 0 or more
abbrev pub HasClosed : List Entry → Type 0
HasClosed rs = (a : Id) × (w : List Reference) × Rising (graph rs) a w

-- some walk to a channel weighs more than 0
abbrev pub HasAhead : List Entry → Type 0
HasAhead rs = (a : Id) × (b : Id) × (w : List Reference) × IsChannel b × Walk (graph rs) a w b × (pos 1 ≤ℤ weigh (graph rs) w)

-- the rings take at most 2,048 slots, or more
abbrev pub HasRoom : List Entry → Type 0
HasRoom rs = (z : ℕ) × Takes rs z × (z ≤ 2048)

abbrev pub HasNoRoom : List Entry → Type 0
HasNoRoom rs = (z : ℕ) × Takes rs z × (2048 < z)

abbrev pub Exactly : Type 0 → Type 0 → Type 0
Exactly A B = (A → B) × (B → A)

-- a table otherwise in order is refused by 8 exactly when a closed walk weighs 0 or more; by 9 exactly when none does and a walk to a channel weighs more than 0;
-- where neither comes, by 11 exactly when its rings take more than 2,048 slots; and otherwise it is accepted
pub record Decides (rs : List Entry) (r : Result Counts Rejection) : Type 0 where
  pub closed : Exactly (RefusedBy r 8) (HasClosed rs)
  pub ahead : Exactly (RefusedBy r 9) (¬ HasClosed rs × HasAhead rs)
  pub overfull : Exactly (RefusedBy r 11) (¬ HasClosed rs × ¬ HasAhead rs × HasNoRoom rs)
  pub accepts : Exactly (Accepting r) (¬ HasClosed rs × ¬ HasAhead rs × HasRoom rs)

-- and so wherever sheet and bytes are in order and memory does not fail
abbrev pub Decided : List ℕ → List SheetEntry → Result Counts Rejection → Type 0
Decided bytes sheet r = (rs : List Entry) → 33 ≤ length sheet → checked bytes ≡ Ok rs → ¬ (r ≡ Err Memory) → Decides rs r
