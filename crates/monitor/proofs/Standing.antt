-- A day goes on: opening, a row sampled, a tick judged, an alarm settled. Assumes nothing.
use Rattle.std.proofs.Common.{◌≡◌, ℕ, zero, suc, ◌+◌, ◌-◌, ◌<◌, ◌≤◌, ⊎_elim, List, [], ◌∷◌, ◌++◌, length, map, drop, unwrap_or, Some, refl, sym, ap, ◌∙◌, subst, arith, slice_index_or, append_assoc, false}
use Rattle.std.proofs.lemmas.Bool.{cases_lt}
use Rattle.std.proofs.lemmas.List.{length-append, length-map, append-nil, get_or_append_left, map-append}
use Rattle.values.specs.declared.value.Value.{Value}
use Rattle.values.specs.declared.value.Value.TheVariants.{Bool}
use Rattle.values.specs.Values.{HasType}
use Rattle.syntax.specs.declared.record.Kind.TheVariants as kind
use Rattle.syntax.specs.Entries.{count}
use Rattle.schedule.specs.declared.plan.Counts.{Counts}
use Rattle.evaluation.specs.Meaning.{Samples, Values}
use Rattle.equations.specs.Equations.{channel_type, TypedSamples, SameSamples, Meets, OneSet}
use Rattle.equations.specs.Alarms.{Call, called, called_at}
use Rattle.rings.specs.Memory.{HoldsValues, values_in, samples_in}
use Rattle.rings.specs.Calls.{OpensRings, StoresSamples, Judges}
use Rattle.sampling.specs.Rows.{Readings, nothing}
use Rattle.alarms.specs.declared.alarm.Alarm.{Alarm}
use Rattle.tables.specs.declared.table.Table.{Table}
use Rattle.tables.specs.Tables.{records_of, plan_of, streams_of}
use Rattle.engine.specs.Rings.{rings_of, lead_of}
use Rattle.engine.specs.Rules.{true_rules, called_in}
use Rattle.monitor.specs.declared.states.Shown.{Shown}
use Rattle.monitor.specs.States.{State, opened_on, with_tick, with_taken, with_struck}
use Rattle.monitor.specs.Samples.{samples, row_value, TypedRow, TypedRows}
use Rattle.monitor.specs.Delivering.{first_alarm, first_due}
use Rattle.monitor.specs.Histories.{Fate, History, new_day, with_row, with_fate, taken, struck, all_taken, all_struck, call_of, settled_call, settled_calls, Follows, IsFirstDue, Shows}
use Rattle.monitor.specs.Standing.{call_in, due_in, Matches, StandsAfter, PendsAfter, GoesOn}
use Rattle.monitor.proofs.Known.{streams_counted}
use Rattle.engine.proofs.Histories.{lawful_of, leads_of, rests_on_the_past, one_set_of}
use Rattle.monitor.proofs.Calling.{call_of_alarm, called_by_rules}

-- ---- opening
pub stands_opened : (t : Table) (old new : List ℕ) → OpensRings (rings_of t) old new → StandsAfter t new_day (opened_on (plan_of t).counts) new
stands_opened t old new opens = record {
  keeps = record { opened = refl; ticks = refl; typed = λ n before. absurd (omega (arith, before)); alarms = λ v meets. refl; taken = refl; struck = refl };
  holds = opens.held (samples []);
}

-- ---- rows with a value of its type at each declared channel, and their samples
value_typed : (t : Table) (row : Readings) → TypedRow (records_of t) row → (c : ℕ) → c < count kind.Channel (records_of t) → HasType (channel_type (records_of t) c) (row_value row c)
value_typed t row typed c inside =
    let v = typed c inside in
    subst (λ w. HasType (channel_type (records_of t) c) w) (sym (ap (λ o. unwrap_or o (Bool false)) v.1)) v.2

pub typed_samples : (t : Table) (rows : List Readings) → TypedRows (records_of t) rows → TypedSamples (records_of t) (samples rows) (length rows)
typed_samples t rows typed tick c before inside = value_typed t (slice_index_or rows tick nothing) (typed tick before) c inside

-- ---- what follows
pub fates_counted : (fates : List Fate) → length fates ≡ length (all_taken fates) + length (all_struck fates)
fates_counted [] = refl
fates_counted (taken a ∷ fates) = let rest = fates_counted fates in omega (arith, rest)
fates_counted (struck a ∷ fates) = let rest = fates_counted fates in omega (arith, rest)

module _ (t : Table) (h : History) (m : State) (due : List Call) (rules : m.due ≡ map (λ (c : Call). c.rule) due) (k : Matches t h m due) where
  abbrev x : Samples
  x = samples h.rows

  abbrev n : ℕ
  n = length h.rows

  abbrev pub follows : Follows t h m
  follows =
      let one = one_set_of t x n (typed_samples t h.rows k.typed) in
      let alarms = k.alarms one.values one.meets in
      record {
        typed = k.typed;
        set = one;
        due = due;
        alarms = alarms;
        opened = k.opened;
        ticks = k.ticks;
        rules = rules;
        taken = k.taken;
        struck = k.struck;
        sum =
            let all = ap length alarms ∙ length-append (settled_calls h) due in
            let settled = length-map h.settled settled_call in
            let fates = fates_counted h.settled in
            let some = ap length rules ∙ length-map due (λ (c : Call). c.rule) in
            let taken = k.taken in
            let struck = k.struck in
            omega (arith, all, settled, fates, some, taken, struck);
      }

-- the due alarms' rules are those that the monitor has
pub rules_in : (t : Table) (mem : List ℕ) (tick : ℕ) (rules : List ℕ) → rules ≡ map (λ (c : Call). c.rule) (map (call_in t mem tick) rules)
rules_in t mem tick [] = refl
rules_in t mem tick (k ∷ ks) = ap (λ l. k ∷ l) (rules_in t mem tick ks)

abbrev pub stands_follows : (t : Table) (h : History) (m : State) (mem : List ℕ) → StandsAfter t h m mem → Follows t h m
stands_follows t h m mem s = follows t h m (due_in t mem m) (rules_in t mem (m.ticks - 1) m.due) s.keeps

pub goes_on : (t : Table) (h : History) (m m' : State) (mem : List ℕ) → m' ≡ m → StandsAfter t h m mem → GoesOn t h m' mem
goes_on t h m m' mem same s = subst (λ (n : State). GoesOn t h n mem) (sym same) (s, stands_follows t h m mem s)

-- ---- a row more
last_row : (rows : List Readings) (row : Readings) → slice_index_or (rows ++ (row ∷ [])) (length rows) nothing ≡ row
last_row [] row = refl
last_row (r ∷ rows) row = last_row rows row

module _ (rows : List Readings) (row : Readings) where
  abbrev more : List Readings
  more = rows ++ (row ∷ [])

  same_before : (t c : ℕ) → t < length rows → samples more t c ≡ samples rows t c
  same_before t c before = ap (λ (r : Readings). row_value r c) (get_or_append_left rows (row ∷ []) nothing t before)

  newest_is : (c : ℕ) → samples more (length rows) c ≡ row_value row c
  newest_is c = ap (λ (r : Readings). row_value r c) (last_row rows row)

  longer : length more ≡ length rows + 1
  longer = let e = length-append rows (row ∷ []) in omega (arith, e)

  module _ (t : Table) where
    same_rows : SameSamples (records_of t) (length rows) (samples rows) (samples more)
    same_rows tick c before inside = sym (same_before tick c before)

    typed_more : TypedRows (records_of t) rows → TypedRow (records_of t) row → TypedRows (records_of t) more
    typed_more typed typed_row tick before = ⊎_elim
        (λ below. subst (TypedRow (records_of t)) (sym (get_or_append_left rows (row ∷ []) nothing tick below)) (typed tick below))
        (λ past.
        let now : tick ≡ length rows = omega (arith, before, past, longer) in
        subst (TypedRow (records_of t)) (sym (ap (λ i. slice_index_or more i nothing) now ∙ last_row rows row)) typed_row)
        (cases_lt tick (length rows))

-- ---- a sample
pub pends : (t : Table) (h : History) (m : State) (row : Readings) (old new : List ℕ) → StandsAfter t h m old → m.due ≡ [] → TypedRow (records_of t) row
    → StoresSamples (rings_of t) m.ticks (row_value row) old new → PendsAfter t h row m new
pends t h m row old new s idle typed stores =
    let n = length h.rows in
    let law = lawful_of t in
    let x = samples (more h.rows row) in
    let stored = subst (λ tick. StoresSamples (rings_of t) tick (row_value row) old new) s.keeps.ticks stores in
    record {
      keeps = subst (λ due. Matches t h m (map (call_in t old (m.ticks - 1)) due)) idle s.keeps;
      row_typed = typed;
      holds = law.keeps.samples x n (row_value row) old new stored (λ c inside. sym (newest_is h.rows row c))
          (law.keeps.past (samples h.rows) x n n old (omega arith) (same_rows h.rows row t) s.holds);
    }

-- ---- a tick judged
module _ (t : Table) (h : History) (row : Readings) (m : State) (old new : List ℕ) (p : PendsAfter t h row m old) (j : Judges (rings_of t) m.ticks old new) where
  abbrev y : Samples
  y = samples (more h.rows row)

  judged : Judges (rings_of t) (length h.rows) old new
  judged = subst (λ tick. Judges (rings_of t) tick old new) p.keeps.ticks j

  rows_typed : TypedRows (records_of t) (more h.rows row)
  rows_typed = typed_more h.rows row t p.keeps.typed p.row_typed

  typed_now : TypedSamples (records_of t) y (length h.rows + 1)
  typed_now = subst (λ len. TypedSamples (records_of t) y len) (longer h.rows row) (typed_samples t (more h.rows row) rows_typed)

  holds_now : HoldsValues (rings_of t) y (length h.rows + 1) (length h.rows + 1) new
  holds_now = (lawful_of t).keeps.judges y (length h.rows) old new judged typed_now p.holds

  -- a set that meets the equations now met them before
  met_before : (v : Values) → Meets (records_of t) (lead_of t) y (length h.rows + 1) v → Meets (records_of t) (lead_of t) y (length h.rows) v
  met_before v meets s i inside below = meets s i inside (omega (arith, below))

  called_now : (v : Values) → Meets (records_of t) (lead_of t) y (length h.rows + 1) v
      → called (records_of t) y v (length h.rows + 1) ≡ settled_calls h ++ map (call_in t new (length h.rows)) (true_rules t new (length h.rows))
  called_now v meets =
      let k = length h.rows in
      let rs = records_of t in
      let past = rests_on_the_past t in
      let same : SameSamples rs k y (samples h.rows) = λ tick c before inside. same_before h.rows row tick c before in
      let then_met = met_before v meets in
      let met = past.values (lead_of t) (leads_of t) y (samples h.rows) k same v then_met in
      let before : called rs y v k ≡ settled_calls h = past.alarms (lead_of t) (leads_of t) y (samples h.rows) k same v v then_met met ∙ p.keeps.alarms v met ∙ append-nil (settled_calls h) in
      let here : called_at rs y v k ≡ map (call_in t new k) (true_rules t new k) = sym ((lawful_of t).reads.alarms y k new holds_now typed_now v meets) ∙ called_by_rules t new k in
      let one_more : k + 1 ≡ suc k = omega arith in
      ap (called rs y v) one_more ∙ (λ i. before i ++ here i)

  pub stands_judged : StandsAfter t (with_row h row) (with_tick (true_rules t new m.ticks) m) new
  stands_judged =
      let k = p.keeps in
      let long = longer h.rows row in
      let tick : m.ticks + 1 - 1 ≡ length h.rows = omega (arith, k.ticks) in
      record {
        keeps = record {
          opened = k.opened;
          ticks = omega (arith, k.ticks, long);
          typed = rows_typed;
          alarms = subst (λ len. (v : Values) → Meets (records_of t) (lead_of t) y len v → called (records_of t) y v len ≡ settled_calls h ++ map (call_in t new (m.ticks + 1 - 1)) (true_rules t new m.ticks)) (sym long)
              (λ v meets. called_now v meets ∙ (λ i. settled_calls h ++ map (call_in t new (sym tick i)) (true_rules t new (sym k.ticks i))));
          taken = k.taken;
          struck = k.struck;
        };
        holds = subst (λ len. HoldsValues (rings_of t) y len len new) (sym long) holds_now;
      }

-- ---- an alarm settled
taken_more : (fates : List Fate) (a : Alarm) → (all_taken (fates ++ (taken a ∷ [])) ≡ all_taken fates ++ (a ∷ [])) × (all_struck (fates ++ (taken a ∷ [])) ≡ all_struck fates)
taken_more [] a = (refl, refl)
taken_more (taken b ∷ fates) a = let rest = taken_more fates a in (ap (λ l. b ∷ l) rest.0, rest.1)
taken_more (struck b ∷ fates) a = let rest = taken_more fates a in (rest.0, ap (λ l. b ∷ l) rest.1)

struck_more : (fates : List Fate) (a : Alarm) → (all_taken (fates ++ (struck a ∷ [])) ≡ all_taken fates) × (all_struck (fates ++ (struck a ∷ [])) ≡ all_struck fates ++ (a ∷ []))
struck_more [] a = (refl, refl)
struck_more (taken b ∷ fates) a = let rest = struck_more fates a in (ap (λ l. b ∷ l) rest.0, rest.1)
struck_more (struck b ∷ fates) a = let rest = struck_more fates a in (rest.0, ap (λ l. b ∷ l) rest.1)

module _ (t : Table) (h : History) (m : State) (mem : List ℕ) (s : StandsAfter t h m mem) (some : 0 < length m.due) where
  due_is : (due : List ℕ) → 0 < length due → map (call_in t mem (m.ticks - 1)) due ≡ call_in t mem (m.ticks - 1) (slice_index_or due 0 0) ∷ map (call_in t mem (m.ticks - 1)) (drop 1 due)
  due_is [] none = absurd (omega (arith, none))
  due_is (k ∷ ks) some = refl

  first_is : due_in t mem m ≡ call_of (first_alarm t mem m) ∷ map (call_in t mem (m.ticks - 1)) (drop 1 m.due)
  first_is = due_is m.due some ∙ ap (λ c. c ∷ map (call_in t mem (m.ticks - 1)) (drop 1 m.due)) (sym (call_of_alarm t mem (m.ticks - 1) (first_due m)))

  settles : (fate : Fate) → settled_call fate ≡ call_of (first_alarm t mem m) → (v : Values) → Meets (records_of t) (lead_of t) (samples h.rows) (length h.rows) v
      → called (records_of t) (samples h.rows) v (length h.rows) ≡ settled_calls (with_fate h fate) ++ map (call_in t mem (m.ticks - 1)) (drop 1 m.due)
  settles fate is v meets =
      let rest = map (call_in t mem (m.ticks - 1)) (drop 1 m.due) in
      s.keeps.alarms v meets
      ∙ ap (λ l. settled_calls h ++ l) (first_is ∙ ap (λ c. c ∷ rest) (sym is))
      ∙ sym (append_assoc (settled_calls h) (settled_call fate ∷ []) rest)
      ∙ ap (λ l. l ++ rest) (sym (map-append settled_call h.settled (fate ∷ [])))

  pub is_first_due : IsFirstDue t h m (first_alarm t mem m)
  is_first_due = record { told = stands_follows t h m mem s; rest = map (call_in t mem (m.ticks - 1)) (drop 1 m.due); first = first_is }

  pub stands_taken : StandsAfter t (with_fate h (taken (first_alarm t mem m))) (with_taken m) mem
  stands_taken =
      let k = s.keeps in
      let more = taken_more h.settled (first_alarm t mem m) in
      record {
        keeps = record {
          opened = k.opened;
          ticks = k.ticks;
          typed = k.typed;
          alarms = settles (taken (first_alarm t mem m)) refl;
          taken = let e = ap length more.0 ∙ length-append (all_taken h.settled) (first_alarm t mem m ∷ []) in let was = k.taken in omega (arith, e, was);
          struck = k.struck ∙ sym (ap length more.1);
        };
        holds = s.holds;
      }

  pub stands_struck : StandsAfter t (with_fate h (struck (first_alarm t mem m))) (with_struck m) mem
  stands_struck =
      let k = s.keeps in
      let more = struck_more h.settled (first_alarm t mem m) in
      record {
        keeps = record {
          opened = k.opened;
          ticks = k.ticks;
          typed = k.typed;
          alarms = settles (struck (first_alarm t mem m)) refl;
          taken = k.taken ∙ sym (ap length more.0);
          struck = let e = ap length more.1 ∙ length-append (all_struck h.settled) (first_alarm t mem m ∷ []) in let was = k.struck in omega (arith, e, was);
        };
        holds = s.holds;
      }

-- ---- what is shown
pub shows : (t : Table) (h : History) (m : State) (mem : List ℕ) (s : ℕ) (r : Shown) → StandsAfter t h m mem → s < length (streams_of t)
    → r.index + 1 ≡ m.ticks + lead_of t s → r.value ≡ values_in (rings_of t) mem s r.index → Shows t h m s r
shows t h m mem s r stands inside index value =
    let x = samples h.rows in
    let n = length h.rows in
    let one = one_set_of t x n (typed_samples t h.rows stands.keeps.typed) in
    let ticks = stands.keeps.ticks in
    let known : s < count kind.Stream (records_of t) = let counted = streams_counted t in omega (arith, inside, counted) in
    record {
      told = stands_follows t h m mem stands;
      index = omega (arith, index, ticks);
      value = value ∙ (lawful_of t).reads.newest x n n mem stands.holds one.values one.meets s r.index known (omega (arith, index, ticks));
    }
