-- What each call of a day does, from its contract. Assumes nothing.
use Rattle.std.proofs.Common.{◌≡◌, ℕ, ◌≤◌, Bool, true, false, ◌&&◌, ◌==◌, if◌then◌else◌, List, length, Some, None, Option, unwrap_or, sym, refl, ap, ◌∙◌, subst}
use Rattle.std.proofs.lemmas.Bool.{eq-eqb, cond-true, le-leb}
use Rattle.faults.specs.declared.fault.Fault.{Fault}
use Rattle.alarms.specs.declared.alarm.Alarm.{Alarm}
use Rattle.alarms.specs.declared.sink.Sink.{Ghosts as Sink}
use Rattle.alarms.specs.Sinks.{has_place}
use Rattle.sampling.specs.declared.sampler.Sampler.{Ghosts as Sampler}
use Rattle.sampling.specs.Meanings.{row_after}
use Rattle.sampling.specs.Rows.{Readings}
use Rattle.schedule.specs.declared.plan.Counts.{Counts}
use Rattle.tables.specs.declared.table.Table.{Table}
use Rattle.tables.specs.Tables.{plan_of}
use Rattle.rings.specs.Calls.{StoresSamples, Judges}
use Rattle.engine.specs.Rings.{rings_of, HasRoom}
use Rattle.engine.specs.Rules.{true_rules}
use Rattle.monitor.specs.declared.counts.AlarmCounts.{AlarmCounts}
use Rattle.monitor.specs.declared.states.Shown.{Shown}
use Rattle.monitor.specs.States.{State, with_tick, with_taken, with_struck, alarm_counts}
use Rattle.monitor.specs.Samples.{row_value, Polls, LatchedOnce}
use Rattle.monitor.specs.Delivering.{first_alarm, Delivers, OfferedOnce}
use Rattle.monitor.specs.Refusals.{◌orelse◌, other_table, unfit, out_of_ticks, unsampled, none_due, no_place, still_due, no_stream, no_value}
use Rattle.monitor.specs.Histories.{History, with_row, with_fate, taken, struck, Follows, IsFirstDue, Shows}
use Rattle.monitor.specs.Standing.{StandsAfter, PendsAfter, GoesOn}
use Rattle.day.specs.declared.calls.Answer.{Answer}
use Rattle.day.specs.declared.calls.Answer.TheVariants as answer
use Rattle.day.specs.declared.calls.Call.{Call}
use Rattle.day.specs.declared.calls.Call.TheVariants.{Sample, Judge, Deliver, Strike, Close, Show}
use Rattle.day.specs.declared.states.Monitor.{Monitor}
use Rattle.day.specs.declared.states.Monitor.TheVariants as kind
use Rattle.day.specs.Calls.{Moment, moment, Did, StandsIn, MakesCall}

-- the table that was opened, with room for its rings, fits
same_table : (a b : Counts) → a ≡ b → other_table a b ≡ None
same_table a b e =
    let c = b.records.channels in
    let s = b.records.streams in
    let r = b.records.rules in
    let z = b.slots in
    let all : ((c == c && s == s && r == r) && z == z) ≡ true = λ i. (eq-eqb c c refl i && eq-eqb s s refl i && eq-eqb r r refl i) && eq-eqb z z refl i in
    ap (λ x. other_table x b) e ∙ cond-true _ _ _ all

skip : (a b : Option Fault) → a ≡ None → a orelse b ≡ b
skip a b e = ap (λ x. x orelse b) e

pub fit : (t : Table) (m : State) (mem : List ℕ) → m.opened ≡ (plan_of t).counts → HasRoom t mem → unfit m t mem ≡ None
fit t m mem e room = skip (other_table m.opened (plan_of t).counts) _ (same_table m.opened (plan_of t).counts e) ∙ cond-true _ _ _ (le-leb (plan_of t).counts.slots (length mem) room)

first_none : (a b : Option Fault) → None ≡ a orelse b → (a ≡ None) × (b ≡ None)
first_none None b e = (refl, sym e)
first_none (Some f) b e = cc

-- rings that are as long have room as well
room_kept : (t : Table) (old new : List ℕ) → length new ≡ length old → HasRoom t old → HasRoom t new
room_kept t old new e room = subst (λ n. (plan_of t).counts.slots ≤ n) (sym e) room

-- a place is there where its lack is no reason
placed : (b : Bool) (f : Fault) → None ≡ (if b then None else Some f) → b ≡ true
placed true f e = refl
placed false f e = cc

module _ {S K : Type 0} (sampler : Sampler S) (sink : Sink K) (t : Table) where
  abbrev goes : Call → Answer → Monitor → List ℕ → S → K → Monitor → List ℕ → S → K → Type 0
  goes = MakesCall sampler sink t

  -- a call that is known
  known : (call c : Call) (a : Answer) (m n : Moment S K) → call ≡ c → Did sampler sink t c a m n → Did sampler sink t call a m n
  known call c a m n e d = subst (λ x. Did sampler sink t x a m n) (sym e) d

  -- ---- of a ready monitor
  module _ (call : Call) (m : State) (rings : List ℕ) (s : S) (k : K) where
    pub sample_goes : (n : State) (rings' : List ℕ) (s' : S) → call ≡ Sample
        → None ≡ unfit m t rings orelse out_of_ticks m orelse unsampled t (sampler.meaning s) (sampler.meaning s')
        → Polls sampler (unfit m t rings orelse out_of_ticks m) s s'
        → n ≡ m
        → StoresSamples (rings_of t) m.ticks (row_value (row_after (sampler.meaning s))) rings rings'
        → ((h : History) → StandsAfter t h m rings → (row : Readings) × ((sampler.meaning s).next ≡ Some row) × PendsAfter t h row n rings')
        → goes call answer.Sampled (kind.Ready m) rings s k (kind.Sampled n) rings' s' k
    sample_goes n rings' s' is none polls same stores day h row st =
        let u = unfit m t rings in
        let rest = unsampled t (sampler.meaning s) (sampler.meaning s') in
        let p = first_none u (out_of_ticks m orelse rest) none in
        let q = first_none (out_of_ticks m) rest (sym p.1) in
        let d = day h st.after in
        let polled : Polls sampler None s s' = subst (λ x. Polls sampler x s s') (skip u (out_of_ticks m) p.0 ∙ q.0) polls in
        let once : LatchedOnce sampler (Some d.0) s s' = subst (λ o. LatchedOnce sampler o s s') d.1 polled in
        let row_is : row_after (sampler.meaning s) ≡ d.0 = ap (λ o. unwrap_or o (sampler.meaning s).present) d.1 in
        record {
          past = h;
          row = d.0;
          did =
              known call Sample answer.Sampled (moment (kind.Ready m) h row rings s k) (moment (kind.Sampled n) h d.0 rings' s' k) is
              (record {
                stops = sym (ap (λ x. x orelse rest) q.0 ∙ q.1);
                effect = (
                  refl,
                  record {
                    next = d.1;
                    latched = once.0;
                    moved = once.1;
                    stored = subst (λ r. StoresSamples (rings_of t) m.ticks (row_value r) rings rings') row_is stores;
                    rest = λ i. moment (kind.Sampled (same i)) h d.0 rings' s' k;
                  },
                );
              });
          stands = record { room = room_kept t rings rings' stores.long st.room; after = d.2; follows = subst (λ (x : State). Follows t h x) (sym same) st.follows };
        }

    pub sample_refused : (f : Fault) (n : State) (rings' : List ℕ) (s' : S) → call ≡ Sample
        → Some f ≡ unfit m t rings orelse out_of_ticks m orelse unsampled t (sampler.meaning s) (sampler.meaning s')
        → Polls sampler (unfit m t rings orelse out_of_ticks m) s s'
        → (n ≡ m) × (rings' ≡ rings)
        → goes call (answer.Refused f) (kind.Ready m) rings s k (kind.Ready n) rings' s' k
    sample_refused f n rings' s' is some polls kept h row st =
        let u = unfit m t rings in
        let rest = unsampled t (sampler.meaning s) (sampler.meaning s') in
        let fits = fit t m rings st.follows.opened st.room in
        record {
          past = h;
          row = row;
          did =
              known call Sample (answer.Refused f) (moment (kind.Ready m) h row rings s k) (moment (kind.Ready n) h row rings' s' k) is
              (record {
                stops = some ∙ skip u (out_of_ticks m orelse rest) fits;
                effect = (subst (λ x. Polls sampler x s s') (skip u (out_of_ticks m) fits) polls, λ i. moment (kind.Ready (kept.0 i)) h row (kept.1 i) s' k);
              });
          stands = subst (λ (x : State). StandsIn t h row (kind.Ready x) rings') (sym kept.0) (subst (λ (x : List ℕ). StandsIn t h row (kind.Ready m) x) (sym kept.1) st);
        }

    pub show_goes : (n : ℕ) (x : Shown) → call ≡ Show n
        → None ≡ unfit m t rings orelse no_stream t n orelse no_value m t n
        → ((h : History) → StandsAfter t h m rings → Shows t h m n x)
        → goes call (answer.Shown x) (kind.Ready m) rings s k (kind.Ready m) rings s k
    show_goes n x is none day h row st =
        let p = first_none (unfit m t rings) (no_stream t n orelse no_value m t n) none in
        let now = moment (kind.Ready m) h row rings s k in
        record {
          past = h;
          row = row;
          did = known call (Show n) (answer.Shown x) now now is (record { stops = sym p.1; effect = (n, refl, day h st.after, refl) });
          stands = st;
        }

    pub show_refused : (n : ℕ) (f : Fault) → call ≡ Show n
        → Some f ≡ unfit m t rings orelse no_stream t n orelse no_value m t n
        → goes call (answer.Refused f) (kind.Ready m) rings s k (kind.Ready m) rings s k
    show_refused n f is some h row st =
        let now = moment (kind.Ready m) h row rings s k in
        record {
          past = h;
          row = row;
          did = known call (Show n) (answer.Refused f) now now is (record { stops = some ∙ skip (unfit m t rings) (no_stream t n orelse no_value m t n) (fit t m rings st.follows.opened st.room); effect = refl });
          stands = st;
        }

  -- ---- of a sampled monitor
  module _ (call : Call) (m : State) (rings : List ℕ) (s : S) (k : K) where
    pub judge_goes : (n : State) (c : AlarmCounts) (rings' : List ℕ) → call ≡ Judge
        → Judges (rings_of t) m.ticks rings rings'
        → n ≡ with_tick (true_rules t rings' m.ticks) m
        → c ≡ alarm_counts n
        → ((h : History) (row : Readings) → PendsAfter t h row m rings → GoesOn t (with_row h row) n rings')
        → goes call (answer.Judged c) (kind.Sampled m) rings s k (kind.Judged n) rings' s k
    judge_goes n c rings' is judges same counts day h row st =
        record {
          past = with_row h row;
          row = row;
          did =
              known call Judge (answer.Judged c) (moment (kind.Sampled m) h row rings s k) (moment (kind.Judged n) (with_row h row) row rings' s k) is
              (record { stops = refl; effect = (refl, record { judged = judges; counts = counts; rest = λ i. moment (kind.Judged (same i)) (with_row h row) row rings' s k }) });
          stands = let d = day h row st.after in record { room = room_kept t rings rings' judges.long st.room; after = d.0; follows = d.1 };
        }

    pub judge_refused : (f : Fault) (n : Monitor) (rings' : List ℕ) → Some f ≡ unfit m t rings → goes call (answer.Refused f) (kind.Sampled m) rings s k n rings' s k
    judge_refused f n rings' some h row st = absurd (let fits = fit t m rings st.follows.opened st.room in cc)

  -- ---- of a judged monitor
  module _ (call : Call) (m : State) (rings : List ℕ) (s : S) (k : K) where
    pub deliver_goes : (n : State) (c : AlarmCounts) (k' : K) → call ≡ Deliver
        → None ≡ unfit m t rings orelse none_due m orelse no_place sink k (first_alarm t rings m)
        → Delivers sink (unfit m t rings orelse none_due m) (first_alarm t rings m) k k'
        → n ≡ with_taken m
        → c ≡ alarm_counts n
        → ((h : History) → StandsAfter t h m rings → IsFirstDue t h m (first_alarm t rings m) × GoesOn t (with_fate h (taken (first_alarm t rings m))) n rings)
        → goes call (answer.Delivered c) (kind.Judged m) rings s k (kind.Judged n) rings s k'
    deliver_goes n c k' is none delivers same counts day h row st =
        let u = unfit m t rings in
        let a = first_alarm t rings m in
        let rest = no_place sink k a in
        let p = first_none u (none_due m orelse rest) none in
        let q = first_none (none_due m) rest (sym p.1) in
        let offered : Delivers sink None a k k' = subst (λ x. Delivers sink x a k k') (skip u (none_due m) p.0 ∙ q.0) delivers in
        let place = placed (has_place (sink.view k) a) _ (sym q.1) in
        let once : OfferedOnce sink a true k k' = subst (λ b. OfferedOnce sink a b k k') place offered in
        let d = day h st.after in
        record {
          past = with_fate h (taken a);
          row = row;
          did =
              known call Deliver (answer.Delivered c) (moment (kind.Judged m) h row rings s k) (moment (kind.Judged n) (with_fate h (taken a)) row rings s k') is
              (record {
                stops = sym p.1;
                effect = (
                  refl,
                  record {
                    alarm = a;
                    first = d.0;
                    took = once.0;
                    moved = once.1;
                    counts = counts;
                    rest = λ i. moment (kind.Judged (same i)) (with_fate h (taken a)) row rings s k';
                  },
                );
              });
          stands = record { room = st.room; after = d.1.0; follows = d.1.1 };
        }

    pub deliver_refused : (f : Fault) (n : State) (k' : K) → call ≡ Deliver
        → Some f ≡ unfit m t rings orelse none_due m orelse no_place sink k (first_alarm t rings m)
        → Delivers sink (unfit m t rings orelse none_due m) (first_alarm t rings m) k k'
        → n ≡ m
        → goes call (answer.Refused f) (kind.Judged m) rings s k (kind.Judged n) rings s k'
    deliver_refused f n k' is some delivers same h row st =
        let u = unfit m t rings in
        let a = first_alarm t rings m in
        let fits = fit t m rings st.follows.opened st.room in
        record {
          past = h;
          row = row;
          did =
              known call Deliver (answer.Refused f) (moment (kind.Judged m) h row rings s k) (moment (kind.Judged n) h row rings s k') is
              (record {
                stops = some ∙ skip u (none_due m orelse no_place sink k a) fits;
                effect = (subst (λ x. Delivers sink x a k k') (skip u (none_due m) fits) delivers, λ i. moment (kind.Judged (same i)) h row rings s k');
              });
          stands = subst (λ (x : State). StandsIn t h row (kind.Judged x) rings) (sym same) st;
        }

    pub strike_goes : (n : State) (c : AlarmCounts) → call ≡ Strike
        → None ≡ none_due m
        → n ≡ with_struck m
        → c ≡ alarm_counts n
        → ((t : Table) (h : History) (mem : List ℕ) → StandsAfter t h m mem → (a : Alarm) × IsFirstDue t h m a × GoesOn t (with_fate h (struck a)) n mem)
        → goes call (answer.Struck c) (kind.Judged m) rings s k (kind.Judged n) rings s k
    strike_goes n c is none same counts day h row st =
        let d = day t h rings st.after in
        record {
          past = with_fate h (struck d.0);
          row = row;
          did =
              known call Strike (answer.Struck c) (moment (kind.Judged m) h row rings s k) (moment (kind.Judged n) (with_fate h (struck d.0)) row rings s k) is
              (record { stops = none; effect = (refl, record { alarm = d.0; first = d.1; counts = counts; rest = λ i. moment (kind.Judged (same i)) (with_fate h (struck d.0)) row rings s k }) });
          stands = record { room = st.room; after = d.2.0; follows = d.2.1 };
        }

    pub strike_refused : (f : Fault) (n : State) → call ≡ Strike → Some f ≡ none_due m → n ≡ m → goes call (answer.Refused f) (kind.Judged m) rings s k (kind.Judged n) rings s k
    strike_refused f n is some same h row st =
        record {
          past = h;
          row = row;
          did = known call Strike (answer.Refused f) (moment (kind.Judged m) h row rings s k) (moment (kind.Judged n) h row rings s k) is (record { stops = some; effect = λ i. moment (kind.Judged (same i)) h row rings s k });
          stands = subst (λ (x : State). StandsIn t h row (kind.Judged x) rings) (sym same) st;
        }

    pub close_goes : (n : State) → call ≡ Close → None ≡ still_due m → n ≡ m → goes call answer.Closed (kind.Judged m) rings s k (kind.Ready n) rings s k
    close_goes n is none same h row st =
        record {
          past = h;
          row = row;
          did = known call Close answer.Closed (moment (kind.Judged m) h row rings s k) (moment (kind.Ready n) h row rings s k) is (record { stops = none; effect = (refl, λ i. moment (kind.Ready (same i)) h row rings s k) });
          stands = subst (λ (x : State). StandsIn t h row (kind.Ready x) rings) (sym same) (record { room = st.room; after = st.after; follows = st.follows });
        }

    pub close_refused : (f : Fault) (n : State) → call ≡ Close → Some f ≡ still_due m → n ≡ m → goes call (answer.Refused f) (kind.Judged m) rings s k (kind.Judged n) rings s k
    close_refused f n is some same h row st =
        record {
          past = h;
          row = row;
          did = known call Close (answer.Refused f) (moment (kind.Judged m) h row rings s k) (moment (kind.Judged n) h row rings s k) is (record { stops = some; effect = λ i. moment (kind.Judged (same i)) h row rings s k });
          stands = subst (λ (x : State). StandsIn t h row (kind.Judged x) rings) (sym same) st;
        }
