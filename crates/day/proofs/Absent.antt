-- Calls that a state does not have. Assumes nothing.
use Rattle.std.proofs.Common.{◌≡◌, ℕ, false, List, MatchBool, refl, sym, subst}
use Rattle.alarms.specs.declared.sink.Sink.{Ghosts as Sink}
use Rattle.sampling.specs.declared.sampler.Sampler.{Ghosts as Sampler}
use Rattle.tables.specs.declared.table.Table.{Table}
use Rattle.monitor.specs.States.{State}
use Rattle.day.specs.declared.calls.Answer.TheVariants as answer
use Rattle.day.specs.declared.calls.Call.{Call}
use Rattle.day.specs.declared.calls.Call.TheVariants.{Sample, Judge, Deliver, Strike, Close, Show}
use Rattle.day.specs.declared.states.Monitor.{Monitor}
use Rattle.day.specs.declared.states.Monitor.TheVariants as kind
use Rattle.day.specs.Calls.{has, moment, Made, MakesCall}

pub not_ready : (m : State) (call : Call) → (call ≡ Sample → ⊥) → ((s : ℕ) → call ≡ Show s → ⊥) → has (kind.Ready m) call ≡ false
not_ready m Sample n o = absurd (n refl)
not_ready m Judge n o = refl
not_ready m Deliver n o = refl
not_ready m Strike n o = refl
not_ready m Close n o = refl
not_ready m (Show s) n o = absurd (o s refl)

pub not_sampled : (m : State) (call : Call) → (call ≡ Judge → ⊥) → has (kind.Sampled m) call ≡ false
not_sampled m Sample n = refl
not_sampled m Judge n = absurd (n refl)
not_sampled m Deliver n = refl
not_sampled m Strike n = refl
not_sampled m Close n = refl
not_sampled m (Show s) n = refl

pub not_judged : (m : State) (call : Call) → (call ≡ Deliver → ⊥) → (call ≡ Strike → ⊥) → (call ≡ Close → ⊥) → has (kind.Judged m) call ≡ false
not_judged m Sample d s c = refl
not_judged m Judge d s c = refl
not_judged m Deliver d s c = absurd (d refl)
not_judged m Strike d s c = absurd (s refl)
not_judged m Close d s c = absurd (c refl)
not_judged m (Show n) d s c = refl

-- and then the answer says so, and nothing changes
pub absent : {S K : Type 0} (sampler : Sampler S) (sink : Sink K) (t : Table) (call : Call) (monitor : Monitor) (rings : List ℕ) (s : S) (k : K) → has monitor call ≡ false → MakesCall sampler sink t call answer.Absent monitor rings s k monitor rings s k
absent sampler sink t call monitor rings s k none h row st =
    let now = moment monitor h row rings s k in
    record {
      past = h;
      row = row;
      did = subst (λ b. MatchBool b (Made sampler sink t call answer.Absent now now) ((answer.Absent ≡ answer.Absent) × (now ≡ now))) (sym none) (refl, refl);
      stands = st;
    }
