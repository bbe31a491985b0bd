-- From what any check of the bytes answers to what one answered. Assumes nothing.
use Rattle.std.proofs.Common.{◌≡◌, ℕ, List, Ok, Err, Result, ap, ◌∙◌, arith}
use Rattle.faults.specs.declared.cause.Cause.{Cause}
use Rattle.schedule.specs.declared.plan.Counts.{Counts}
use Rattle.tables.specs.Rejecting.{Rejection}
use Rattle.faults.specs.declared.stop.Stop.TheVariants.{Refused, Memory}
use Rattle.cases.specs.Cases.{Checks, AcceptedWith, RefusedFor, Says, Verdict}

-- memory does not fail where something is said
fed : (r : Result Counts Rejection) (v : Result ℕ Cause) → Says r v → ¬ (r ≡ Err Memory)
fed (Ok c) v s e = let q : ◌≡◌ {A = ℕ} 0 1 = cc in omega arith
fed (Err (Refused f)) v s e = let q : ◌≡◌ {A = ℕ} 0 1 = cc in omega arith
fed (Err Memory) v s e = s

says_slots : (r : Result Counts Rejection) (v : Result ℕ Cause) (z : ℕ) → Says r v → AcceptedWith z r → v ≡ Ok z
says_slots (Ok c) v z s (d, e, is) = let same : c ≡ d = cc in s ∙ ap (λ (x : Counts). Ok x.slots) same ∙ ap Ok is
says_slots (Err (Refused f)) v z s (d, e, is) = absurd (let q : ◌≡◌ {A = ℕ} 0 1 = cc in omega arith)
says_slots (Err Memory) v z s a = absurd s

says_cause : (r : Result Counts Rejection) (v : Result ℕ Cause) (x : Cause) → Says r v → RefusedFor x r → v ≡ Err x
says_cause (Ok c) v x s (f, e, is) = absurd (let q : ◌≡◌ {A = ℕ} 0 1 = cc in omega arith)
says_cause (Err (Refused g)) v x s (f, e, is) = let same : g.cause ≡ f.cause = cc in s ∙ ap Err (same ∙ is)
says_cause (Err Memory) v x s a = absurd s

module _ (bytes : List ℕ) (v : Result ℕ Cause) (k : Verdict bytes v) where
  answered : (P : Result Counts Rejection → Type 0) → Checks bytes P → P k.answer
  answered P checks = checks k.before k.after k.sheet k.sheet_after k.answer k.space k.answers (fed k.answer v k.is)

  pub slots_are : (z : ℕ) → Checks bytes (AcceptedWith z) → v ≡ Ok z
  slots_are z checks = says_slots k.answer v z k.is (answered (AcceptedWith z) checks)

  pub cause_is : (x : Cause) → Checks bytes (RefusedFor x) → v ≡ Err x
  cause_is x checks = says_cause k.answer v x k.is (answered (RefusedFor x) checks)
