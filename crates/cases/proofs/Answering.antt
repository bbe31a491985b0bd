-- What the check answers of bytes whose records are known. Assumes nothing.
use Rattle.std.proofs.Common.{◌≡◌, ℕ, ◌≤◌, List, length, pos, ◌≤ℤ◌, Ok, Err, Result, sym, refl, ap, ◌∙◌, subst, inl, inr, arith}
use Rattle.std.proofs.lemmas.Int.{ints}
use Rattle.faults.specs.declared.cause.Cause.TheVariants.{ClosedWalk, ChannelWalk}
use Rattle.faults.specs.declared.fault.Fault.{Fault}
use Rattle.references.specs.declared.reference.Id.{Id}
use Rattle.references.specs.declared.reference.Reference.{Reference}
use Rattle.schedule.specs.declared.plan.Counts.{Counts}
use Rattle.schedule.specs.Edges.{InOrder}
use Rattle.schedule.specs.Graphs.{graph, told, IsChannel}
use Rattle.schedule.specs.Plans.{Takes}
use Rattle.schedule.specs.Scheduling.{Blames, Overfull}
use Rattle.schedule.proofs.Taking.{takes_one}
use Rattle.syntax.specs.Entries.{Entry}
use Rattle.walks.specs.declared.edge.SheetEntry.{SheetEntry}
use Rattle.walks.specs.Walks.{Walk, weigh, at, Apart, Rising, Falling, Settled, TellsClosed, TellsAhead}
use Rattle.tables.specs.Rejecting.{Rejection}
use Rattle.faults.specs.declared.stop.Stop.TheVariants.{Refused, Memory}
use Rattle.tables.specs.Reading.{checked}
use Rattle.tables.specs.Checking.{Accepts, Refuses}
use Rattle.tables.proofs.Deciding.{same_records}
use Rattle.cases.specs.Cases.{Checks, AcceptedWith, RefusedFor}

module _ (bytes : List ℕ) (rs : List Entry) (order : checked bytes ≡ Ok rs) where
  -- P is shown of each answer that there may be
  pub record Each (P : Result Counts Rejection → Type 0) : Type 0 where
    pub accepted : (c : Counts) → Falling (graph rs) → Settled (graph rs) IsChannel → Takes rs c.slots → P (Ok c)
    pub closed : (f : Fault) (k : ℕ) (old new : List SheetEntry) → f.cause ≡ ClosedWalk k → TellsClosed (graph rs) (told rs) old new k → P (Err (Refused f))
    pub ahead : (f : Fault) (k : ℕ) (old new : List SheetEntry) → f.cause ≡ ChannelWalk k → Falling (graph rs) → TellsAhead (graph rs) IsChannel (told rs) old new k → P (Err (Refused f))
    pub overfull : (f : Fault) (z : ℕ) → Overfull rs z → P (Err (Refused f))

  module _ (P : Result Counts Rejection → Type 0) (each : Each P) where
    blamed : (f : Fault) (old new : List SheetEntry) → Blames rs old new f.cause → P (Err (Refused f))
    blamed f old new (inl (inl (k, is, t))) = each.closed f k old new is t
    blamed f old new (inl (inr (k, is, falls, t))) = each.ahead f k old new is falls t
    blamed f old new (inr (z, is, kept, over)) = each.overfull f z over

    refused : (f : Fault) (old new : List SheetEntry) → 33 ≤ length old → Refuses bytes old new f.cause → P (Err (Refused f))
    refused f old new space (inl (short, is, kept)) = absurd (omega arith)
    refused f old new space (inr (inl (enough, e, kept))) = absurd (let q : ◌≡◌ {A = ℕ} 0 1 = cc in omega arith)
    refused f old new space (inr (inr (enough, ts, e, b))) =
        blamed f old new (subst (λ (x : List Entry). Blames x old new f.cause) (same_records bytes ts rs e order) b)

    accepts : (c : Counts) → Accepts bytes c → P (Ok c)
    accepts c a =
        let (falls, settled, takes) =
        subst (λ (x : List Entry). Falling (graph x) × Settled (graph x) IsChannel × Takes x c.slots) (same_records bytes a.records rs a.order order)
        (a.falls, a.settled, a.takes) in
        each.accepted c falls settled takes

    answered : Checks bytes P
    answered old new sheet sheet' (Ok c) space a fed = accepts c a.2
    answered old new sheet sheet' (Err (Refused f)) space a fed = refused f sheet sheet' space a.2
    answered old new sheet sheet' (Err Memory) space a fed = absurd (fed refl)

  -- an acceptance, where no walk is to blame
  pub acceptance : InOrder rs → Falling (graph rs) → Settled (graph rs) IsChannel → (z : ℕ) → Takes rs z → z ≤ 2048 → Checks bytes (AcceptedWith z)
  acceptance o falls settled z takes small = answered (AcceptedWith z) (record {
    accepted = λ c _ _ t. (c, refl, takes_one rs o c.slots z t takes);
    closed = λ f k old new is t. absurd (falls t.start t.walk t.rising);
    ahead = λ f k old new is _ t. absurd (omega (arith, ints, settled t.start t.end t.walk t.channel t.goes, t.heavy));
    overfull = λ f y over. absurd (omega (arith, takes_one rs o y z over.takes takes, over.many));
  })

  -- a refusal for a closed walk, where all that may be told have n references
  pub closed_refusal : (a : Id) (w : List Reference) (n : ℕ) → Rising (graph rs) a w →
      ((b : Id) (u : List Reference) → Rising (graph rs) b u → Apart (at (graph rs) b u) (length u) → length u ≡ n) →
      Checks bytes (RefusedFor (ClosedWalk n))
  closed_refusal a w n rising long = answered (RefusedFor (ClosedWalk n)) (record {
    accepted = λ c falls _ _. absurd (falls a w rising);
    closed = λ f k old new is t. (f, refl, is ∙ ap ClosedWalk (sym t.long ∙ long t.start t.walk t.rising t.apart));
    ahead = λ f k old new is falls t. absurd (falls a w rising);
    overfull = λ f y over. absurd (over.falls a w rising);
  })

  -- and for a walk to a channel
  pub ahead_refusal : Falling (graph rs) → (a b : Id) (w : List Reference) (n : ℕ) → IsChannel b → Walk (graph rs) a w b → pos 1 ≤ℤ weigh (graph rs) w →
      ((c d : Id) (u : List Reference) → IsChannel d → Walk (graph rs) c u d → pos 1 ≤ℤ weigh (graph rs) u → length u ≡ n) →
      Checks bytes (RefusedFor (ChannelWalk n))
  ahead_refusal falls a b w n channel goes heavy long =
      let never : ¬ Settled (graph rs) IsChannel = λ s. omega (arith, ints, s a b w channel goes) in
      answered (RefusedFor (ChannelWalk n)) (record {
        accepted = λ c _ s _. absurd (never s);
        closed = λ f k old new is t. absurd (falls t.start t.walk t.rising);
        ahead = λ f k old new is _ t. (f, refl, is ∙ ap ChannelWalk (sym t.long ∙ long t.start t.end t.walk t.channel t.goes t.heavy));
        overfull = λ f y over. absurd (never over.settled);
      })
