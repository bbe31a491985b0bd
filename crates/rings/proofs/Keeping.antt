-- The laws of opening, storing samples, judging and reading. Assumes nothing.
use Rattle.std.proofs.Common.{false, ◌≡◌, ℕ, zero, suc, ◌+◌, ◌-◌, ◌%◌, ◌<◌, ◌≤◌, List, length, get_or, refl, sym, ap, ◌∙◌, subst, inl, inr, arith, mod-lt, mod-eq_of_lt}
use Rattle.std.specs.List.{AllByRecursion}
use Rattle.std.proofs.ByRecursion.{All-weaker, All-get_or}
use Rattle.std.proofs.lemmas.Bool.{cases_eq}
use Rattle.values.specs.declared.value.Value.{Value}
use Rattle.values.specs.declared.value.Value.TheVariants.{Bool}
use Rattle.values.specs.Values.{HasType, word}
use Rattle.syntax.specs.declared.record.Kind.TheVariants.{Channel, Stream}
use Rattle.syntax.specs.Trees.{Exp}
use Rattle.syntax.specs.Entries.{count}
use Rattle.names.specs.declared.uses.Name.{Name}
use Rattle.names.specs.declared.uses.Name.TheVariants as name
use Rattle.names.specs.Uses.{uses}
use Rattle.references.specs.declared.reference.Id.{Id}
use Rattle.schedule.specs.Graphs.{channel, stream}
use Rattle.schedule.proofs.Taking.{channel_ring, stream_ring}
use Rattle.evaluation.specs.Meaning.{Samples, Values, meaning, Same}
use Rattle.evaluation.proofs.Agreeing.{depends_on_names}
use Rattle.equations.specs.Equations.{channel_type, equation_of, by_equation, TypedSamples, SameSamples, Meets}
use Rattle.equations.specs.Alarms.{Rule, SameRule, rules, no_rule, rule_of, called_at}
use Rattle.equations.proofs.Calling.{same_arguments, same_calls}
use Rattle.equations.proofs.Sound.{Reads}
use Rattle.rings.specs.Systems.{System, slot}
use Rattle.rings.specs.Memory.{samples_in, values_in, RingHolds, RingsHold, HoldsValues}
use Rattle.rings.specs.Calls.{StoresSamples, Judges, OpensAndJudges}
use Rattle.rings.specs.Laws.{Lawful}
use Rattle.rings.proofs.Fitting.{Keeps, AllFit, RuleFits, Fitting}
use Rattle.rings.proofs.Ring.{recounted, unchanged, grown, read_back}
use Rattle.rings.proofs.Ticking.{Ticks, samples_stay, values_grow, channel_apart}
use Rattle.rings.proofs.Only.{one_memory, one_opening, one_storing, past_stored, past_judged}

-- the tick n, counted from the first opening tick, is n + top
module _ (S : System) (top n : ℕ) where
  abbrev given : List ℕ → ℕ → ℕ → ℕ
  given mem s i = word (by_equation S.records (samples_in S mem) (values_in S mem) s i)

  index : (s : ℕ) → n + top + S.lead s - top ≡ n + S.lead s
  index s = omega arith

  pub to_ticks : (old new : List ℕ) → Judges S n old new → Ticks S top (n + top) old new
  to_ticks old new j = record {
    stored = λ s l _. subst (λ (i : ℕ). get_or new (slot S (stream s) i) 0 ≡ given new s i) (sym (index s)) (j.stored s l);
    others = λ k h. j.others k (λ s l e. h s l (omega arith) (e ∙ ap (λ (i : ℕ). slot S (stream s) i) (sym (index s))));
    long = j.long;
  }

  pub from_ticks : (old new : List ℕ) → Ticks S top (n + top) old new → Judges S n old new
  from_ticks old new p = record {
    stored = λ s l. subst (λ (i : ℕ). get_or new (slot S (stream s) i) 0 ≡ given new s i) (index s) (p.stored s l (omega arith));
    others = λ k h. p.others k (λ s l _ e. h s l (e ∙ ap (λ (i : ℕ). slot S (stream s) i) (index s)));
    long = p.long;
  }

module _ (S : System) (order : List ℕ) (rank : ℕ → ℕ) (top : ℕ) (fitting : Fitting S order rank top) where
  -- ---- storing samples
  samples_kept : (x : Samples) (n : ℕ) (row : ℕ → Value) (old new : List ℕ) → StoresSamples S n row old new →
      ((c : ℕ) → c < count Channel S.records → row c ≡ x n c) → HoldsValues S x n n old → HoldsValues S x (n + 1) n new
  samples_kept x n row old new stores same holds v meets = record {
    samples = λ c l.
        recounted S (channel c) (λ t. word (x t c)) (suc n) (n + 1) new (omega arith)
        (grown S (channel c) (λ t. word (x t c)) n old new (fitting.some (channel c) (channel_ring S.records c l)) ((holds v meets).samples c l) (stores.stored c l ∙ ap word (same c l))
        (λ j h ne. stores.others (S.base (channel c) + j) (λ b lb e. elim (cases_eq c b) [
          | inl is ↦ ne (omega (arith, e ∙ ap (λ (y : ℕ). slot S (channel y) n) (sym is)))
          | inr other ↦
              fitting.apart (channel c) (channel b) (channel_ring S.records c l) (channel_ring S.records b lb) (λ q. other (ap (λ (id : Id). id.number) q)) j (n % S.size (channel b)) h (mod-lt n (fitting.some (channel b) (channel_ring S.records b lb))) e
        ])));
    values = λ s l.
        unchanged S (stream s) (λ i. word (v s i)) (n + S.lead s) old new (fitting.some (stream s) (stream_ring S.records s l)) ((holds v meets).values s l)
        (λ j h. stores.others (S.base (stream s) + j) (λ c lc e.
        channel_apart S order rank top fitting c s (n % S.size (channel c)) j lc l (mod-lt n (fitting.some (channel c) (channel_ring S.records c lc))) (sym e ∙ in_place s j h)));
  }
    where
      in_place : (s j : ℕ) → j < S.size (stream s) → S.base (stream s) + j ≡ slot S (stream s) j
      in_place s j h = omega (arith, mod-eq_of_lt h)

  -- ---- judging
  judged : (x : Samples) (n : ℕ) (old new : List ℕ) → Judges S n old new → TypedSamples S.records x (n + 1) → HoldsValues S x (n + 1) n old → HoldsValues S x (n + 1) (n + 1) new
  judged x n old new j typed holds v meets =
      let held = holds v (λ s i l k. meets s i l (omega (arith, k))) in
      let p = to_ticks S top n old new j in
      let m : n + 1 ≡ suc (n + top) - top = omega arith in
      record {
        samples = λ c l. samples_stay S order rank top fitting (n + top) old new p x v (n + 1) m typed (met x n v meets) held.samples (counted held) c l;
        values = λ s l.
            recounted S (stream s) (λ i. word (v s i)) (suc (n + top) + S.lead s - top) (n + 1 + S.lead s) new (omega arith)
            (values_grow S order rank top fitting (n + top) old new p x v (n + 1) m typed (met x n v meets) held.samples (counted held) s l);
      }
    where
      met : (x : Samples) (n : ℕ) (v : Values) → Meets S.records S.lead x (n + 1) v → (s i : ℕ) → s < count Stream S.records → i < suc (n + top) + S.lead s - top →
          HasType (equation_of S.records s).ty (v s i) × (v s i ≡ by_equation S.records x v s i)
      met x n v meets s i l k = meets s i l (omega (arith, k))

      counted : RingsHold S x (n + 1) v n old → (s : ℕ) → s < count Stream S.records → RingHolds S (stream s) (λ i. word (v s i)) (n + top + S.lead s - top) old
      counted held s l = recounted S (stream s) (λ i. word (v s i)) (n + S.lead s) (n + top + S.lead s - top) old (omega arith) (held.values s l)

  -- ---- reading
  shown : (x : Samples) (m n : ℕ) (mem : List ℕ) → HoldsValues S x m n mem → (v : Values) → Meets S.records S.lead x n v →
      (s i : ℕ) → s < count Stream S.records → i + 1 ≡ n + S.lead s → values_in S mem s i ≡ v s i
  shown x m n mem holds v meets s i l e =
      read_back S (stream s) (λ i. word (v s i)) (n + S.lead s) mem (equation_of S.records s).ty (v s i) i ((holds v meets).values s l) refl
      (meets s i l (omega (arith, e))).0 (omega (arith, e)) (omega (arith, e, fitting.some (stream s) (stream_ring S.records s l)))

  module _ (x : Samples) (n : ℕ) (mem : List ℕ) (holds : HoldsValues S x (n + 1) (n + 1) mem) (typed : TypedSamples S.records x (n + 1)) (v : Values)
      (meets : Meets S.records S.lead x (n + 1) v)
    where
      one : (m : Name) → Reads S.records S.lead rank 0 0 (count Stream S.records) m × Keeps S 0 0 m → Same (samples_in S mem) (values_in S mem) n x v n m
      one (name.Channel c) f =
          read_back S (channel c) (λ t. word (x t c)) (n + 1) mem (channel_type S.records c) (x n c) n ((holds v meets).samples c f.0.known) refl
          (typed n c (omega arith) f.0.known) (omega arith) (omega (arith, f.1))
      one (name.Stream q d) f =
          read_back S (stream q) (λ i. word (v q i)) (n + 1 + S.lead q) mem (equation_of S.records q).ty (v q (n + d)) (n + d) ((holds v meets).values q f.0.known) refl
          (meets q (n + d) f.0.known (omega (arith, f.0.ahead))).0 (omega (arith, f.0.ahead)) (omega (arith, f.1))

      worked_out : (e : Exp) → AllFit S rank 0 0 (count Stream S.records) e → meaning (samples_in S mem) (values_in S mem) n e ≡ meaning x v n e
      worked_out e fit = depends_on_names e (samples_in S mem) (values_in S mem) n x v n (All-weaker _ _ (λ u. one u.name) (uses e) fit)

      same_rule : (r : Rule) → RuleFits S rank r → SameRule (samples_in S mem) (values_in S mem) x v n r
      same_rule r fits = record {
        guard = worked_out r.guard fits.guard;
        arguments = same_arguments (samples_in S mem) (values_in S mem) x v n r.arguments (All-weaker _ _ worked_out r.arguments fits.arguments);
      }

      same_rules : AllByRecursion (SameRule (samples_in S mem) (values_in S mem) x v n) (rules S.records)
      same_rules = All-weaker _ _ same_rule (rules S.records) fitting.rules

      told : (k : ℕ) → k < length (rules S.records) → SameRule (samples_in S mem) (values_in S mem) x v n (rule_of S.records k)
      told k l = All-get_or (SameRule (samples_in S mem) (values_in S mem) x v n) (rules S.records) k no_rule l same_rules

      called : called_at S.records (samples_in S mem) (values_in S mem) n ≡ called_at S.records x v n
      called = same_calls (samples_in S mem) (values_in S mem) x v n 0 (rules S.records) same_rules

  -- ---- what the samples to come are
  module _ (later : (x y : Samples) (n : ℕ) → SameSamples S.records n x y → (v : Values) → Meets S.records S.lead x n v → Meets S.records S.lead y n v)
      (first : (x : Samples) → (v : Values) × Meets S.records S.lead x 0 v)
    where
      held_later : (x y : Samples) (m n : ℕ) (mem : List ℕ) → n ≤ m → SameSamples S.records m x y → HoldsValues S x m n mem → HoldsValues S y m n mem
      held_later x y m n mem few same holds v meets =
          let held = holds v (later y x n (λ t c h l. sym (same t c (omega (arith, h, few)) l)) v meets) in
          record {
            samples = λ c l. record {
              newest = λ i h k. (held.samples c l).newest i h k ∙ ap word (same i c h l);
              blank = (held.samples c l).blank;
            };
            values = held.values;
          }

      ticked : (x : Samples) (n : ℕ) (old new : List ℕ) → OpensAndJudges S x n old new → TypedSamples S.records x n → HoldsValues S x n n new
      ticked x zero old new opens typed = opens.held x
      ticked x (suc n) old new (before, sampled, went, stores, judges) typed =
          let e : n + 1 ≡ suc n = omega arith in
          let held = ticked x n old before went (λ t c h. typed t c (omega (arith, h))) in
          let joined = samples_kept x n (x n) before sampled stores (λ c l. refl) held in
          subst (λ (k : ℕ). HoldsValues S x k k new) e (judged x n sampled new judges (λ t c h. typed t c (omega (arith, h))) joined)

      pub lawful : Lawful S
      lawful = record {
        keeps = record { samples = samples_kept; judges = judged; ticks = ticked; past = held_later };
        makes = record {
          opened = λ old a b oa ob. let set = first (λ _ _. Bool false) in one_opening S order rank top fitting (λ _ _. Bool false) set.0 set.1 old a b oa ob;
          stored = one_storing S;
          judged = λ n old a b ja jb. one_memory S order rank top fitting n old a b ja jb;
          past_stored = past_stored S order rank top fitting;
          past_judged = past_judged S order rank top fitting;
        };
        reads = record { newest = shown; rules_at = told; alarms = called };
      }
