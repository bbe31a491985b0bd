-- What holds of a table's records and references holds of its streams' equations and its rules. Assumes nothing.
use Rattle.std.proofs.Common.{◌≡◌, ℕ, zero, suc, ◌+◌, ◌-◌, ◌<◌, Bool as Truth, cond, List, [], ◌∷◌, ◌++◌, map, get_or, Some, None, Option, refl, ap, ◌∙◌, subst, inl, inr, arith, ne_eqb}
use Rattle.std.specs.List.{AllByRecursion, slice_get}
use Rattle.std.specs.Option.{option_map}
use Rattle.values.specs.declared.types.«Type».TheVariants.{Bool}
use Rattle.syntax.specs.declared.record.Kind.TheVariants.{Stream, Rule}
use Rattle.syntax.specs.Trees.{Exp}
use Rattle.syntax.specs.Entries.{Entry, count}
use Rattle.syntax.specs.Entries as entry
use Rattle.names.specs.Uses.{Use, uses, gathered}
use Rattle.typing.specs.Scopes.{stream_types}
use Rattle.references.specs.declared.reference.Id.{Id}
use Rattle.references.specs.declared.reference.Reference.{Reference}
use Rattle.references.specs.References.{refer, id_after, references, position}
use Rattle.walks.specs.Walks.{In}
use Rattle.schedule.specs.Graphs.{stream, openings, opening_count, record_at}
use Rattle.schedule.proofs.Standing.{count_append}
use Rattle.evaluation.proofs.Agreeing.{all_left, all_right}
use Rattle.equations.specs.Equations.{Equation, equation_of, opening_of}
use Rattle.equations.specs.Alarms.{Rule as RuleOf, rules}

-- a stream's type in scope is its equation's
pub type_same : (rs : List Entry) (s : ℕ) → get_or (stream_types rs) s Bool ≡ (equation_of rs s).ty
type_same [] s = refl
type_same (entry.channel t ∷ rs) s = type_same rs s
type_same (entry.stream t vs e ∷ rs) zero = refl
type_same (entry.stream t vs e ∷ rs) (suc s) = type_same rs s
type_same (entry.rule g es ∷ rs) s = type_same rs s

-- ---- the records that equations and rules come from
abbrev pub stream_record : Equation → Entry
stream_record q = entry.stream q.ty q.opening q.body

abbrev pub rule_record : RuleOf → Entry
rule_record r = entry.rule r.guard r.arguments

pub of_stream : (P : Entry → Type 0) (rs : List Entry) → AllByRecursion P rs → (s : ℕ) → s < count Stream rs → P (stream_record (equation_of rs s))
of_stream P [] all s l = absurd (omega arith)
of_stream P (entry.channel t ∷ rs) all s l = of_stream P rs all.1 s (omega (arith, l))
of_stream P (entry.stream t vs e ∷ rs) all zero l = all.0
of_stream P (entry.stream t vs e ∷ rs) all (suc s) l = of_stream P rs all.1 s (omega arith)
of_stream P (entry.rule g es ∷ rs) all s l = of_stream P rs all.1 s (omega (arith, l))

-- ---- the references that bodies, guards and arguments make
all_in_self : {X : Type 0} (ys xs : List X) → ((x : X) → In x xs → In x ys) → AllByRecursion (λ x. In x ys) xs
all_in_self ys [] f = tt
all_in_self ys (x ∷ xs) f = (f x (inl refl), all_in_self ys xs (λ z m. f z (inr m)))

all_unmap : {X Y : Type 0} (P : Y → Type 0) (f : X → Y) (xs : List X) → AllByRecursion P (map f xs) → AllByRecursion (λ x. P (f x)) xs
all_unmap P f [] all = tt
all_unmap P f (x ∷ xs) all = (all.0, all_unmap P f xs all.1)

-- what holds of all that several expressions name holds of what each names
pub of_gathered : (P : Use → Type 0) (es : List Exp) → AllByRecursion P (gathered uses es) → AllByRecursion (λ e. AllByRecursion P (uses e)) es
of_gathered P [] all = tt
of_gathered P (e ∷ es) all = (all_left P (uses e) (gathered uses es) all, of_gathered P es (all_right P (uses e) (gathered uses es) all))

abbrev pub rule : ℕ → Id
rule n = record { kind = Rule; number = n }

-- a rule is the n-th, for some n, and P holds of each of its references
pub record ReadsAs (P : Reference → Type 0) (r : RuleOf) : Type 0 where
  pub number : ℕ
  pub guard : AllByRecursion (λ u. P (refer (rule number) u)) (uses r.guard)
  pub arguments : AllByRecursion (λ e. AllByRecursion (λ u. P (refer (rule number) u)) (uses e)) r.arguments

module _ (P : Reference → Type 0) where
  abbrev Of : ℕ → Equation → Type 0
  Of n q = AllByRecursion P (map (refer (stream n)) (uses q.body))

  from_body : (before rs : List Entry) → AllByRecursion P (references before rs) → (s : ℕ) → s < count Stream rs → Of (count Stream before + s) (equation_of rs s)
  from_body before [] all s l = absurd (omega arith)
  from_body before (entry.channel t ∷ rs) all s l =
      let same : count Stream (before ++ (entry.channel t ∷ [])) + s ≡ count Stream before + s = omega (arith, count_append Stream before (entry.channel t ∷ [])) in
      subst (λ (n : ℕ). Of n (equation_of rs s)) same (from_body (before ++ (entry.channel t ∷ [])) rs all s (omega (arith, l)))
  from_body before (entry.stream t vs e ∷ rs) all zero l =
      let same : count Stream before ≡ count Stream before + zero = omega arith in
      subst (λ (n : ℕ). AllByRecursion P (map (refer (stream n)) (uses e))) same (all_left P (map (refer (stream (count Stream before))) (uses e)) (references (before ++ (entry.stream t vs e ∷ [])) rs) all)
  from_body before (entry.stream t vs e ∷ rs) all (suc s) l =
      let same : count Stream (before ++ (entry.stream t vs e ∷ [])) + s ≡ count Stream before + suc s = omega (arith, count_append Stream before (entry.stream t vs e ∷ [])) in
      subst (λ (n : ℕ). Of n (equation_of rs s)) same
      (from_body (before ++ (entry.stream t vs e ∷ [])) rs (all_right P (map (refer (stream (count Stream before))) (uses e)) (references (before ++ (entry.stream t vs e ∷ [])) rs) all) s (omega arith))
  from_body before (entry.rule g es ∷ rs) all s l =
      let same : count Stream (before ++ (entry.rule g es ∷ [])) + s ≡ count Stream before + s = omega (arith, count_append Stream before (entry.rule g es ∷ [])) in
      subst (λ (n : ℕ). Of n (equation_of rs s)) same
      (from_body (before ++ (entry.rule g es ∷ [])) rs (all_right P (map (refer (id_after before (entry.rule g es))) (uses g ++ gathered uses es)) (references (before ++ (entry.rule g es ∷ [])) rs) all) s (omega (arith, l)))

  from_rules : (before rs : List Entry) → AllByRecursion P (references before rs) → AllByRecursion (ReadsAs P) (rules rs)
  from_rules before [] all = tt
  from_rules before (entry.channel t ∷ rs) all = from_rules (before ++ (entry.channel t ∷ [])) rs all
  from_rules before (entry.stream t vs e ∷ rs) all =
      from_rules (before ++ (entry.stream t vs e ∷ [])) rs (all_right P (map (refer (stream (count Stream before))) (uses e)) (references (before ++ (entry.stream t vs e ∷ [])) rs) all)
  from_rules before (entry.rule g es ∷ rs) all =
      let n = count Rule before in
      let here = map (refer (rule n)) (uses g ++ gathered uses es) in
      let rest = references (before ++ (entry.rule g es ∷ [])) rs in
      let mine = all_unmap P (refer (rule n)) (uses g ++ gathered uses es) (all_left P here rest all) in (
        record {
          number = n;
          guard = all_left (λ u. P (refer (rule n) u)) (uses g) (gathered uses es) mine;
          arguments = of_gathered (λ u. P (refer (rule n) u)) es (all_right (λ u. P (refer (rule n) u)) (uses g) (gathered uses es) mine);
        },
        from_rules (before ++ (entry.rule g es ∷ [])) rs (all_right P here rest all),
      )

module _ (rs : List Entry) where
  abbrev pub Listed : Reference → Type 0
  Listed r = In r (references [] rs)

  all_listed : AllByRecursion Listed (references [] rs)
  all_listed = all_in_self (references [] rs) (references [] rs) (λ r m. m)

  -- a name in a stream's body makes a reference of the table,
  pub body_listed : (s : ℕ) → s < count Stream rs → AllByRecursion (λ u. Listed (refer (stream s) u)) (uses (equation_of rs s).body)
  body_listed s l =
      let same : 0 + s ≡ s = omega arith in
      all_unmap Listed (refer (stream s)) (uses (equation_of rs s).body) (subst (λ (n : ℕ). Of Listed n (equation_of rs s)) same (from_body Listed [] rs all_listed s l))

  -- and so does one in a rule's guard or arguments
  pub rules_listed : AllByRecursion (ReadsAs Listed) (rules rs)
  rules_listed = from_rules Listed [] rs all_listed

-- ---- a stream has as many opening values as its equation, and a rule has none
abbrev counted_at : List Entry → Option ℕ → ℕ
counted_at rs o = opening_count (record_at rs o)

counted_more : (r : Entry) (rs : List Entry) (o : Option ℕ) → counted_at (r ∷ rs) (option_map (λ m. m + 1) o) ≡ counted_at rs o
counted_more r rs None = refl
counted_more r rs (Some m) = let e : m + 1 ≡ suc m = omega arith in ap (λ (k : ℕ). opening_count (slice_get (r ∷ rs) k)) e

pub openings_same : (rs : List Entry) (s : ℕ) → s < count Stream rs → openings rs (stream s) ≡ opening_of rs s
unfolding openings
openings_same [] s l = absurd (omega arith)
openings_same (entry.channel t ∷ rs) s l = counted_more (entry.channel t) rs (position Stream s rs) ∙ openings_same rs s (omega (arith, l))
openings_same (entry.stream t vs e ∷ rs) zero l = refl
openings_same (entry.stream t vs e ∷ rs) (suc s) l =
    let down : suc s - 1 ≡ s = omega arith in
    ap (λ (b : Truth). counted_at (entry.stream t vs e ∷ rs) (cond b (Some 0) (option_map (λ m. m + 1) (position Stream (suc s - 1) rs)))) (ne_eqb (suc s) 0 (λ q. omega arith)) ∙
    counted_more (entry.stream t vs e) rs (position Stream (suc s - 1) rs) ∙ ap (λ (k : ℕ). counted_at rs (position Stream k rs)) down ∙ openings_same rs s (omega arith)
openings_same (entry.rule g es ∷ rs) s l = counted_more (entry.rule g es) rs (position Stream s rs) ∙ openings_same rs s (omega (arith, l))

pub openings_none : (rs : List Entry) (n : ℕ) → openings rs (rule n) ≡ 0
unfolding openings
openings_none [] n = refl
openings_none (entry.channel t ∷ rs) n = counted_more (entry.channel t) rs (position Rule n rs) ∙ openings_none rs n
openings_none (entry.stream t vs e ∷ rs) n = counted_more (entry.stream t vs e) rs (position Rule n rs) ∙ openings_none rs n
openings_none (entry.rule g es ∷ rs) zero = refl
openings_none (entry.rule g es ∷ rs) (suc n) =
    ap (λ (b : Truth). counted_at (entry.rule g es ∷ rs) (cond b (Some 0) (option_map (λ m. m + 1) (position Rule (suc n - 1) rs)))) (ne_eqb (suc n) 0 (λ q. omega arith)) ∙
    counted_more (entry.rule g es) rs (position Rule (suc n - 1) rs) ∙ openings_none rs (suc n - 1)
