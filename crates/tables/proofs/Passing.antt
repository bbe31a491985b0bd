-- Bytes that are read, named and typed are in order; and where one of these stops, the check stops. Assumes nothing.
use Rattle.std.proofs.Common.{◌≡◌, ℕ, ◌<◌, ◌≤◌, List, [], length, get_or, Ok, Err, Result, sym, refl, ap, ◌∙◌, subst, inr, w8, Fits}
use Rattle.faults.specs.declared.cause.Cause.{Cause}
use Rattle.faults.specs.Causes.{Refusal}
use Rattle.faults.specs.declared.stop.Stop.{Stop}
use Rattle.faults.specs.declared.stop.Stop.TheVariants.{Refused, Memory}
use Rattle.syntax.specs.Entries.{Entry}
use Rattle.std.proofs.ByRecursion.{All-from_get_or}
use Rattle.std.specs.Result.{result_unwrap_or}
use Rattle.syntax.proofs.Accepted.{accepts_written}
use Rattle.syntax.specs.Passing.{then}
use Rattle.syntax.specs.Reading.{read_table}
use Rattle.syntax.specs.Written.{Written, AcceptsWritten}
use Rattle.names.specs.Declaring.{undeclared_in}
use Rattle.typing.specs.Judging.{types_in}
use Rattle.schedule.specs.declared.plan.Counts.{Counts}
use Rattle.schedule.specs.declared.plan.Plan.{Plan}
use Rattle.schedule.specs.Edges.{InOrder}
use Rattle.schedule.specs.Plans.{lead_in, length_of, counted, Planned}
use Rattle.schedule.specs.Scheduling.{Scheduled}
use Rattle.walks.specs.declared.edge.SheetEntry.{SheetEntry}
use Rattle.tables.specs.declared.content.Content.{Content}
use Rattle.tables.specs.declared.table.Table.{Table}
use Rattle.tables.specs.Reading.{checked}
use Rattle.tables.specs.Contents.{Sorts}
use Rattle.tables.specs.Accepting.{Accepted, records_in}
use Rattle.tables.specs.Tables.{bytes_of, plan_of}
use Rattle.tables.specs.Checking.{Accepts, Starved, Admits, Holds}

-- the law of reading, of a slice whose elements are bytes
pub written_law : (bytes : List ℕ) → ((i : ℕ) → Fits w8 (get_or bytes i 0)) → AcceptsWritten bytes
written_law bytes typed = accepts_written bytes (All-from_get_or (λ b. b < 256) bytes 0 (λ i _. (typed i).fits))

-- ---- what bytes in order have passed
abbrev pub typed_next : List Entry → Result (List Entry) Refusal
typed_next rs = then (types_in rs) (λ _. Ok rs)

abbrev pub named_next : List Entry → Result (List Entry) Refusal
named_next rs = then (undeclared_in rs) (λ _. typed_next rs)

then_ok : {X Y E : Type 0} (o : Result X E) (f : X → Result Y E) (y : Y) → then o f ≡ Ok y → (x : X) × (o ≡ Ok x) × (f x ≡ Ok y)
then_ok (Ok x) f y e = (x, refl, e)
then_ok (Err c) f y e = absurd cc

pub record Passes (bytes : List ℕ) (rs : List Entry) : Type 0 where
  pub read : read_table bytes ≡ Ok rs
  pub named : undeclared_in rs ≡ Ok tt
  pub typed : types_in rs ≡ Ok tt

module _ (bytes : List ℕ) (rs : List Entry) where
  pub passes : checked bytes ≡ Ok rs → Passes bytes rs
  unfolding checked
  passes e =
      let (ts, read, e1) = then_ok (read_table bytes) named_next rs e in
      let (u, named, e2) = then_ok (undeclared_in ts) (λ _. typed_next ts) rs e1 in
      let (v, typed, e3) = then_ok (types_in ts) (λ _. Ok ts) rs e2 in
      let same : ts ≡ rs = cc in
      subst (Passes bytes) same (record { read = read; named = named; typed = typed })

  pub order_of : AcceptsWritten bytes → checked bytes ≡ Ok rs → InOrder rs
  order_of law e =
      let p = passes e in
      let w : Written bytes rs = (law rs).0 p.read in
      record { small = w.small; few = w.few; named = p.named }

  -- version and size have passed
  pub starved : (sheet : List SheetEntry) → AcceptsWritten bytes → checked bytes ≡ Ok rs → 33 ≤ length sheet → Starved bytes sheet
  starved sheet law e space =
      let w : Written bytes rs = (law rs).0 (passes e).read in
      record { space = space; version = ap (λ (l : List ℕ). get_or l 0 0) w.whole; size = w.size }

  -- where the plan stops, the check stops
  pub plan_stopped : (sheet sheet' : List SheetEntry) (s : Stop Cause) → AcceptsWritten bytes → checked bytes ≡ Ok rs → 33 ≤ length sheet → Scheduled rs sheet sheet' (Err s) → Admits bytes sheet sheet' (Err s)
  plan_stopped sheet sheet' (Refused c) law e space b = inr (inr (space, rs, e, b))
  plan_stopped sheet sheet' Memory law e space kept = (kept, starved sheet law e space)

  -- and a plan is what an accepted table has
  pub plan_accepts : (p : Plan) → checked bytes ≡ Ok rs → Planned rs p → p.counts.slots ≤ 2048 → Accepts bytes p.counts
  plan_accepts p e k small = record {
    records = rs;
    order = e;
    falls = k.falls;
    settled = k.settled;
    takes = record { lead = lead_in p; length = length_of p; measured = k.measured; total = ap (λ c. c.slots) k.counts };
    small = small;
    counts = k.counts ∙ ap (counted rs) (sym (ap (λ c. c.slots) k.counts));
  }

-- ---- what is made of bytes in order
module _ (bytes : List ℕ) (rs : List Entry) (e : checked bytes ≡ Ok rs) where
  written : rs ≡ records_in bytes
  written = sym (ap (λ (r : Result (List Entry) Refusal). result_unwrap_or r []) e)

  pub accepted : (p : Plan) (c : Content) → Sorts rs p c → InOrder rs → Planned rs p → p.counts.slots ≤ 2048 → Accepted bytes p c
  accepted p c sorts in_order planned small = record {
    passed = e ∙ ap Ok written;
    in_order = subst InOrder written in_order;
    sorts = subst (λ (l : List Entry). Sorts l p c) written sorts;
    planned = subst (λ (l : List Entry). Planned l p) written planned;
    small = small;
  }

  pub holds : (t : Table) (c : Counts) → bytes_of t ≡ bytes → (plan_of t).counts ≡ c → Holds t bytes c
  holds t c same counts = record { bytes_are = same; records_are = e ∙ ap Ok (written ∙ ap records_in (sym same)); counts_are = counts }
