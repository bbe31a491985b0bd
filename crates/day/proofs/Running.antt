-- Calls one after another. Assumes nothing.
use Rattle.std.proofs.Common.{◌≡◌, ℕ, ◌+◌, Bool, true, false, if◌then◌else◌, List, [], ◌∷◌, ◌++◌, length, Some, None, Option, MatchBool, refl, sym, ap, ◌∙◌, subst, arith}
use Rattle.std.proofs.lemmas.List.{length-append}
use Rattle.faults.specs.declared.fault.Fault.{Fault}
use Rattle.faults.specs.Faults.{handed_on}
use Rattle.alarms.specs.declared.alarm.Alarm.{Alarm}
use Rattle.alarms.specs.declared.sink.Sink.{Ghosts as Sink}
use Rattle.alarms.specs.Sinks.{View, has_place, TookAll}
use Rattle.alarms.proofs.Offering.{took_more}
use Rattle.sampling.specs.declared.sampler.Sampler.{Ghosts as Sampler}
use Rattle.sampling.specs.Rows.{Readings}
use Rattle.tables.specs.declared.table.Table.{Table}
use Rattle.monitor.specs.Delivering.{first_alarm, Delivers, OfferedOnce}
use Rattle.monitor.specs.Refusals.{◌orelse◌, none_due}
use Rattle.monitor.specs.Histories.{History, Fate, taken, struck, with_fate, all_taken}
use Rattle.day.specs.declared.calls.Answer.{Answer}
use Rattle.day.specs.declared.calls.Answer.TheVariants as answer
use Rattle.day.specs.declared.calls.Call.{Call}
use Rattle.day.specs.declared.calls.Call.TheVariants.{Sample, Judge, Deliver, Strike, Close, Show}
use Rattle.day.specs.declared.host.Host.{Ghosts as Host}
use Rattle.day.specs.declared.states.Monitor.{Monitor}
use Rattle.day.specs.Calls.{state_in, has, Moment, moment, reason, Kept, Effect, Made, StandsIn, MakesCall, fault_in}
use Rattle.day.specs.Days.{Line, Turn, Turns, LeavesSink}

-- ---- the alarms taken, with one settled more
taken_more : (fs : List Fate) (a : Alarm) → all_taken (fs ++ (taken a ∷ [])) ≡ all_taken fs ++ (a ∷ [])
taken_more [] a = refl
taken_more (taken b ∷ fs) a = ap (λ xs. b ∷ xs) (taken_more fs a)
taken_more (struck b ∷ fs) a = taken_more fs a

taken_same : (fs : List Fate) (a : Alarm) → all_taken (fs ++ (struck a ∷ [])) ≡ all_taken fs
taken_same [] a = refl
taken_same (taken b ∷ fs) a = ap (λ xs. b ∷ xs) (taken_same fs a)
taken_same (struck b ∷ fs) a = taken_same fs a

module _ {S K H : Type 0} (sampler : Sampler S) (sink : Sink K) (host : Host H S K) (t : Table) where
  abbrev turns : List Line → H → Moment S K → H → Moment S K → Type 0
  turns = Turns sampler sink host t

  -- ---- what a sink that got the deliveries of the calls shows
  module _ (began : View sink.Holding) where
    abbrev Took : Moment S K → Type 0
    Took m = TookAll sink.adds (all_taken m.past.settled) began (sink.view m.sink)

    -- an offer that is refused leaves what the sink shows
    refused_view : (o : Option Fault) (f full : Fault) (a : Alarm) (k k' : K) (b : Bool) → Some f ≡ o orelse (if b then None else Some full) → Delivers sink o a k k' → has_place (sink.view k) a ≡ b → sink.view k' ≡ sink.view k
    refused_view (Some g) f full a k k' b e d p = ap (λ x. sink.view x) d
    refused_view None f full a k k' true e d p = absurd (let z : Some f ≡ None = e in cc)
    refused_view None f full a k k' false e d p = let once : OfferedOnce sink a false k k' = subst (λ x. OfferedOnce sink a x k k') p d in once.0

    kept_took : (c : Call) (f : Fault) (m n : Moment S K) → Some f ≡ reason sampler sink t c m n → Kept sampler sink t c m n → Took m → Took n
    kept_took Sample f m n e k p = subst Took (sym k.1) p
    kept_took Judge f m n e k p = subst Took (sym k) p
    kept_took Deliver f m n e k p =
        let a = first_alarm t m.rings (state_in m.monitor) in
        let view = refused_view (none_due (state_in m.monitor)) f (handed_on (sink.full m.sink a)) a m.sink n.sink (has_place (sink.view m.sink) a) e k.0 refl in
        subst Took (sym k.1) (subst (TookAll sink.adds (all_taken m.past.settled) began) (sym view) p)
    kept_took Strike f m n e k p = subst Took (sym k) p
    kept_took Close f m n e k p = subst Took (sym k) p
    kept_took (Show s) f m n e k p = subst Took (sym k) p

    made_took : (c : Call) (a : Answer) (m n : Moment S K) → fault_in a ≡ reason sampler sink t c m n → Effect sampler sink t c a m n → Took m → Took n
    made_took c answer.Sampled m n e d p = subst Took (sym d.1.rest) p
    made_took c (answer.Judged x) m n e d p = subst Took (sym d.1.rest) p
    made_took c (answer.Delivered x) m n e d p =
        let w = d.1 in
        let more = took_more sink.adds began (sink.view m.sink) (sink.view n.sink) (all_taken m.past.settled) w.alarm p w.took in
        let past : n.past ≡ with_fate m.past (taken w.alarm) = λ i. (w.rest i).past in
        subst (λ xs. TookAll sink.adds xs began (sink.view n.sink)) (sym (ap (λ (h : History). all_taken h.settled) past ∙ taken_more m.past.settled w.alarm)) more
    made_took c (answer.Struck x) m n e d p =
        let w = d.1 in
        subst Took (sym w.rest) (subst (λ xs. TookAll sink.adds xs began (sink.view m.sink)) (sym (taken_same m.past.settled w.alarm)) p)
    made_took c answer.Closed m n e d p = subst Took (sym d.1) p
    made_took c (answer.Shown x) m n e d p = subst Took (sym d.3) p
    made_took c (answer.Refused f) m n e d p = kept_took c f m n e d p
    made_took c answer.Absent m n e d p = absurd d

    did_took : (c : Call) (a : Answer) (m n : Moment S K) (b : Bool) → MatchBool b (Made sampler sink t c a m n) ((a ≡ answer.Absent) × (n ≡ m)) → Took m → Took n
    did_took c a m n true d p = made_took c a m n d.stops d.effect p
    did_took c a m n false d p = subst Took (sym d.1) p

    pub turns_took : LeavesSink sampler sink host t → (ls : List Line) (g : H) (m : Moment S K) (g' : H) (n : Moment S K) → turns ls g m g' n → Took m → Took n
    turns_took leaves [] g m g' n r p = subst Took (sym r.1) p
    turns_took leaves (l ∷ ls) g m g' n r p =
        let u = r.2 in
        let view = leaves l.call u.asked m.sampler m.sink u.handled u.sampler' u.sink' u.handles in
        let before = record m { sampler = u.sampler'; sink = u.sink' } in
        turns_took leaves ls r.0 r.1 g' n r.3 (did_took l.call l.answer before r.1 (has m.monitor l.call) u.did (subst (TookAll sink.adds (all_taken m.past.settled) began) (sym view) p))

  -- ---- one call more
  turns_more : (ls : List Line) (l : Line) (g : H) (m : Moment S K) (g' : H) (n : Moment S K) (h : H) (o : Moment S K) → turns ls g m g' n → Turn sampler sink host t l g' n h o → turns (ls ++ (l ∷ [])) g m h o
  turns_more [] l g m g' n h o r u = (h, o, subst (λ x. Turn sampler sink host t l x m h o) r.0 (subst (λ x. Turn sampler sink host t l g' x h o) r.1 u), (refl, refl))
  turns_more (x ∷ xs) l g m g' n h o r u = (r.0, r.1, r.2, turns_more xs l r.0 r.1 g' n h o r.3 u)

  -- so many calls, from a moment on
  pub record After (calls : ℕ) (g : H) (m : Moment S K) (monitor : Monitor) (rings : List ℕ) (s : S) (k : K) (g' : H) : Type 0 where
    pub past : History
    pub row : Readings
    pub lines : List Line
    pub turns : turns lines g m g' (moment monitor past row rings s k)
    pub count : length lines ≡ calls
    pub stands : StandsIn t past row monitor rings

  abbrev pub Going : ℕ → Monitor → List ℕ → S → K → H → Monitor → List ℕ → S → K → H → Type 0
  Going calls monitor rings s k g monitor' rings' s' k' g' =
      (h : History) (row : Readings) → StandsIn t h row monitor rings → After calls g (moment monitor h row rings s k) monitor' rings' s' k' g'

  pub going_none : (monitor : Monitor) (rings : List ℕ) (s : S) (k : K) (g : H) → Going 0 monitor rings s k g monitor rings s k g
  going_none monitor rings s k g h row st = record { past = h; row = row; lines = []; turns = (refl, refl); count = refl; stands = st }

  pub going_more : (n : ℕ) (m₀ m m' : Monitor) (rs₀ rs rs' : List ℕ) (s₀ s s₁ s' : S) (k₀ k k₁ k' : K) (g₀ g g₁ g₂ g' : H) (call : Call) (a : Answer)
      → Going n m₀ rs₀ s₀ k₀ g₀ m rs s k g → host.asks g (Some call) g₁ → host.handles call g₁ s k g₂ s₁ k₁
      → MakesCall sampler sink t call a m rs s₁ k₁ m' rs' s' k' → host.hears a g₂ g' → Going (n + 1) m₀ rs₀ s₀ k₀ g₀ m' rs' s' k' g'
  going_more n m₀ m m' rs₀ rs rs' s₀ s s₁ s' k₀ k k₁ k' g₀ g g₁ g₂ g' call a w asks handles goes hears h row st =
      let x = w h row st in
      let y = goes x.past x.row x.stands in
      let line : Line = record { call = call; answer = a } in
      let from = moment m₀ h row rs₀ s₀ k₀ in
      let mid = moment m x.past x.row rs s k in
      let to = moment m' y.past y.row rs' s' k' in
      let turn : Turn sampler sink host t line g mid g' to =
      record { asked = g₁; handled = g₂; sampler' = s₁; sink' = k₁; asks = asks; handles = handles; follows = x.stands.follows; did = y.did; hears = hears } in
      let count = x.count in
      let long = length-append x.lines (line ∷ []) in
      record {
        past = y.past;
        row = y.row;
        lines = x.lines ++ (line ∷ []);
        turns = turns_more x.lines line g₀ from g mid g' to x.turns turn;
        count = omega (arith, count, long);
        stands = y.stands;
      }
