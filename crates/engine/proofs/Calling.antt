-- The rules that are true at a tick as they are found one by one, and a rule's arguments as they are read. Assumes nothing.
use Rattle.std.proofs.Common.{◌≡◌, ℕ, suc, ◌+◌, ◌<◌, ◌≤◌, cond, Bool, true, false, List, [], ◌∷◌, ◌++◌, length, map, take, get_or, Ok, Err, Result, refl, sym, ap, ap₂, ◌∙◌, arith}
use Rattle.std.proofs.Math.Logic.{∥∥₁_elim}
use Rattle.std.specs.List.{AllByRecursion}
use Rattle.std.proofs.ByRecursion.{All-weaker}
use Rattle.std.proofs.lemmas.List.{append_assoc, length-map, length-take-le, map_more, take_all}
use Rattle.values.specs.declared.value.Value.{Value}
use Rattle.operators.specs.Operators.{truth}
use Rattle.syntax.specs.declared.record.Rule.{Rule}
use Rattle.syntax.specs.declared.tree.Expr.{Expr}
use Rattle.syntax.specs.Trees.{Exp, exp}
use Rattle.evaluation.specs.Meaning.{Samples, Values, meaning}
use Rattle.equations.specs.Alarms.{Call, called_from}
use Rattle.equations.specs.Alarms as alarm
use Rattle.alarms.specs.declared.alarm.Arguments.{Arguments}
use Rattle.alarms.specs.Arguments.{arguments, Pushes}
use Rattle.rings.specs.Memory.{samples_in, values_in}
use Rattle.tables.specs.declared.table.Table.{Table}
use Rattle.tables.specs.Tables.{rules_of}
use Rattle.engine.specs.Rings.{rings_of, read_at}
use Rattle.engine.specs.Rules.{true_rules}
use Rattle.engine.proofs.Props.{numbers_set}
use Rattle.engine.proofs.Known.{rule_by, rules_are}

module _ (x : Samples) (v : Values) (p : ℕ) where
  -- the numbers of those that are true, from the k-th on
  abbrev numbers : ℕ → List alarm.Rule → List ℕ
  numbers k rs = map (λ (c : Call). c.rule) (called_from x v p k rs)

  abbrev here : alarm.Rule → ℕ → List ℕ
  here r k = cond (truth (meaning x v p r.guard)) (k ∷ []) []

  over : (b : Bool) (c : Call) (cs : List Call) → map (λ (d : Call). d.rule) (cond b (c ∷ cs) cs) ≡ cond b (c.rule ∷ []) [] ++ map (λ (d : Call). d.rule) cs
  over true c cs = refl
  over false c cs = refl

  one_first : (k : ℕ) (r : alarm.Rule) (rs : List alarm.Rule) → numbers k (r ∷ rs) ≡ here r k ++ numbers (k + 1) rs
  one_first k r rs = over (truth (meaning x v p r.guard)) (record { tick = p; rule = k; arguments = map (meaning x v p) r.arguments }) (called_from x v p (k + 1) rs)

  alone : (b : Bool) (j k : ℕ) → j ≡ k → cond b (j ∷ []) [] ++ [] ≡ cond b (k ∷ []) []
  alone true j k e = ap (λ n. n ∷ []) e
  alone false j k e = refl

  one_last : (k : ℕ) (rs : List alarm.Rule) (r : alarm.Rule) → numbers k (rs ++ r ∷ []) ≡ numbers k rs ++ here r (k + length rs)
  one_last k [] r = one_first k r [] ∙ alone (truth (meaning x v p r.guard)) k (k + 0) (omega arith)
  one_last k (y ∷ ys) r =
      let e : k + 1 + length ys ≡ k + suc (length ys) = omega arith in
      one_first k y (ys ++ r ∷ []) ∙ ap (λ l. here y k ++ l) (one_last (k + 1) ys r ∙ ap (λ n. numbers (k + 1) ys ++ here r n) e) ∙
      sym (append_assoc (here y k) (numbers (k + 1) ys) (here r (k + suc (length ys)))) ∙ ap (λ l. l ++ here r (k + suc (length ys))) (sym (one_first k y ys))

  few_here : (b : Bool) (k : ℕ) (l : List ℕ) (n : ℕ) → length l ≤ n → length (cond b (k ∷ []) [] ++ l) ≤ suc n
  few_here true k l n h = omega (arith, h)
  few_here false k l n h = omega (arith, h)

  few : (k : ℕ) (rs : List alarm.Rule) → length (numbers k rs) ≤ length rs
  few k [] = omega arith
  few k (r ∷ rs) = let rest = few_here (truth (meaning x v p r.guard)) k (numbers (k + 1) rs) (length rs) (few (k + 1) rs) in omega (arith, rest, ap length (one_first k r rs))

  below_here : (P : ℕ → Type 0) (b : Bool) (k : ℕ) (c : Call) (cs : List Call) → P c.rule → AllByRecursion P (map (λ (d : Call). d.rule) cs) → AllByRecursion P (map (λ (d : Call). d.rule) (cond b (c ∷ cs) cs))
  below_here P true k c cs one rest = (one, rest)
  below_here P false k c cs one rest = rest

  below : (k : ℕ) (rs : List alarm.Rule) → AllByRecursion (λ j. j < k + length rs) (numbers k rs)
  below k [] = tt
  below k (r ∷ rs) = below_here (λ j. j < k + suc (length rs)) (truth (meaning x v p r.guard)) k (record { tick = p; rule = k; arguments = map (meaning x v p) r.arguments }) (called_from x v p (k + 1) rs)
      (omega arith) (All-weaker _ _ (λ j h. omega (arith, h)) (numbers (k + 1) rs) (below (k + 1) rs))

module _ (t : Table) (mem : List ℕ) (tick : ℕ) where
  -- those among the first n
  abbrev pub true_among : ℕ → List ℕ
  true_among n = numbers (samples_in (rings_of t) mem) (values_in (rings_of t) mem) tick 0 (map rule_by (take n (rules_of t)))

  among_long : (n : ℕ) → n ≤ length (rules_of t) → length (map rule_by (take n (rules_of t))) ≡ n
  among_long n l = length-map (take n (rules_of t)) rule_by ∙ length-take-le n (rules_of t) l

  pub one_more : (n : ℕ) (x : Rule) → n < length (rules_of t) → x ≡ get_or (rules_of t) n x → (old new : List ℕ) → old ≡ true_among n →
      new ≡ old ++ cond (truth (read_at t mem tick (exp x.guard))) (n ∷ []) [] → new ≡ true_among (n + 1)
  one_more n x l e old new so_far is =
      let y = samples_in (rings_of t) mem in
      let v = values_in (rings_of t) mem in
      let first = map rule_by (take n (rules_of t)) in
      let same : n ≡ 0 + length first = omega (arith, among_long n (omega (arith, l))) in
      is ∙ ap₂ (λ (a : List ℕ) (k : ℕ). a ++ here y v tick (rule_by x) k) so_far same ∙ sym (one_last y v tick 0 first (rule_by x)) ∙
      ap (numbers y v tick 0) (ap (λ z. first ++ rule_by z ∷ []) e ∙ sym (map_more rule_by (rules_of t) n x l))

  pub few_true : (n : ℕ) → n ≤ length (rules_of t) → length (true_among n) ≤ n
  few_true n l =
      let h = few (samples_in (rings_of t) mem) (values_in (rings_of t) mem) tick 0 (map rule_by (take n (rules_of t))) in
      omega (arith, h, among_long n l)

  pub all_true : (n : ℕ) → n ≡ length (rules_of t) → true_among n ≡ true_rules t mem tick
  all_true n e =
      let numbers_of = numbers (samples_in (rings_of t) mem) (values_in (rings_of t) mem) tick 0 in
      ap (λ rs. numbers_of (map rule_by rs)) (take_all n (rules_of t) (omega (arith, e))) ∙
      ∥∥₁_elim t.accepted (numbers_set _ _) (λ a. ap numbers_of (rules_are t a))

  pub all_known : (n : ℕ) → n ≡ length (rules_of t) → AllByRecursion (λ k. k < length (rules_of t)) (true_among n)
  all_known n e = All-weaker _ _ (λ k h. omega (arith, h, e, among_long n (omega (arith, e))))
      (true_among n) (below (samples_in (rings_of t) mem) (values_in (rings_of t) mem) tick 0 (map rule_by (take n (rules_of t))))

-- behind fewer than four arguments one more is added
pub pushed : (v : Value) (old new : Arguments) (r : Result (Unit {0}) Value) → Pushes v old new r → length (arguments old) < 4 → arguments new ≡ arguments old ++ (v ∷ [])
pushed v old new (Ok _) h l = h.1
pushed v old new (Err w) h l = absurd (omega (arith, h.0, l))

-- and so of those that are read
pub read_on : (read : Expr → Value) (es : List Expr) (n : ℕ) (y : Expr) → n < length es → y ≡ get_or es n y → (old new : List Value) → old ≡ map read (take n es) →
    new ≡ old ++ (read y ∷ []) → new ≡ map read (take (n + 1) es)
read_on read es n y l e old new so_far is = is ∙ ap₂ (λ (vs : List Value) (z : Expr). vs ++ (read z ∷ [])) so_far e ∙ sym (map_more read es n y l)

pub of_trees : (read : Exp → Value) (es : List Expr) → map (λ e. read (exp e)) es ≡ map read (map exp es)
of_trees read [] = refl
of_trees read (e ∷ es) = ap (λ vs. read (exp e) ∷ vs) (of_trees read es)
