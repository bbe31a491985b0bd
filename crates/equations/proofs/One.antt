-- Exactly one set of values meets the equations: by induction on the tick at which a value is worked out, and then on its stream's rank. Assumes nothing.
use Rattle.std.proofs.Common.{◌≡◌, ℕ, zero, suc, ◌+◌, ◌-◌, ◌*◌, ◌<◌, ◌≤◌, false, ltb, List, refl, sym, ap, ◌∙◌, subst, inl, inr, arith, mul-le-mul_left, ltb-true, ltb-false}
use Rattle.std.proofs.ByRecursion.{All-weaker, All-get_or}
use Rattle.std.proofs.lemmas.Bool.{cases_Bool, cases_eq, cond-true, cond-false}
use Rattle.values.specs.declared.value.Value.TheVariants.{Bool}
use Rattle.values.specs.Values.{HasType}
use Rattle.syntax.specs.declared.record.Kind.TheVariants.{Stream}
use Rattle.syntax.specs.Entries.{Entry, count}
use Rattle.names.specs.declared.uses.Name.{Name}
use Rattle.names.specs.declared.uses.Name.TheVariants as name
use Rattle.names.specs.Uses.{uses}
use Rattle.typing.specs.Scopes.{channel_types, stream_types}
use Rattle.evaluation.specs.Meaning.{Samples, Values, Same}
use Rattle.evaluation.proofs.Ranges.{Ranged}
use Rattle.equations.specs.Equations.{equation_of, opening_of, by_equation, TypedSamples, Meets, SameValues}
use Rattle.equations.proofs.Listing.{type_same}
use Rattle.equations.proofs.Reading.{same_equation}
use Rattle.equations.proofs.Sound.{Reads, ReadsStream, Sound}

module _ (rs : List Entry) (lead rank : ℕ → ℕ) (top : ℕ) (sound : Sound rs lead rank top) where
  abbrev streams : ℕ
  streams = count Stream rs

  abbrev reads_stream : ℕ → ℕ → ℕ → Type 0
  reads_stream s = ReadsStream rs lead rank (lead s) (opening_of rs s) (rank s)

  -- the tick, counted from the first opening tick, and the rank in one number
  height : ℕ → ℕ → ℕ
  height s i = streams * (i + (top - lead s)) + rank s

  -- what is read is lower,
  lower : (s i q d : ℕ) → s < streams → opening_of rs s ≤ i → reads_stream s q d → height q (i - opening_of rs s + d) < height s i
  unfolding height
  lower s i q d l h r =
      let b : ℕ = i - opening_of rs s + d + (top - lead q) in
      let a : ℕ = i + (top - lead s) in
      let up : b ≤ a = omega (arith, r.ahead, h, sound.most s l, sound.most q r.known) in
      elim (cases_eq (lead s + d) (lead q + opening_of rs s)) [
        | inl e ↦
            let same : b ≡ a = omega (arith, e, h, sound.most s l, sound.most q r.known) in
            omega (arith, r.before e, ap (λ (k : ℕ). streams * k) same)
        | inr n ↦
            let less : suc b ≤ a = omega (arith, r.ahead, h, n, sound.most s l, sound.most q r.known) in
            omega (arith, sound.ranked q r.known, mul-le-mul_left streams less)
      ]

  -- and within the same ticks
  inside : (n s i q d : ℕ) → i < n + lead s → opening_of rs s ≤ i → reads_stream s q d → i - opening_of rs s + d < n + lead q
  inside n s i q d l h r = omega (arith, r.ahead, l, h)

  -- an equation over two sets says the same where what it reads is the same
  rests : (x : Samples) (v w : Values) (s i : ℕ) → s < streams →
      ((q d : ℕ) → opening_of rs s ≤ i → reads_stream s q d → v q (i - opening_of rs s + d) ≡ w q (i - opening_of rs s + d)) → by_equation rs x v s i ≡ by_equation rs x w s i
  rests x v w s i l same = same_equation rs x v x w s i (λ k. All-weaker _ _ (λ u. one k u.name) (uses (equation_of rs s).body) (sound.reads s l))
    where
      one : opening_of rs s ≤ i → (m : Name) → Reads rs lead rank (lead s) (opening_of rs s) (rank s) m → Same x v (i - opening_of rs s) x w (i - opening_of rs s) m
      one k (name.Channel c) r = refl
      one k (name.Stream q d) r = same q d k r

  -- ---- at most one
  module _ (x : Samples) (n : ℕ) (v w : Values) (mv : Meets rs lead x n v) (mw : Meets rs lead x n w) where
    same_below : (f s i : ℕ) → s < streams → i < n + lead s → height s i < f → v s i ≡ w s i
    same_below zero s i l li h = absurd (omega (arith, h))
    same_below (suc f) s i l li h =
        (mv s i l li).1 ∙
        rests x v w s i l (λ q d k r. same_below f q (i - opening_of rs s + d) r.known (inside n s i q d li k r) (omega (arith, lower s i q d l k r, h))) ∙
        sym (mw s i l li).1

  pub unique : (x : Samples) (n : ℕ) (v w : Values) → Meets rs lead x n v → Meets rs lead x n w → SameValues rs lead n v w
  unique x n v w mv mw s i l li = same_below x n v w mv mw (suc (height s i)) s i l li (omega arith)

  -- ---- at least one
  module _ (x : Samples) (n : ℕ) (typed : TypedSamples rs x n) where
    -- the values that need no more than so many steps
    stepped : ℕ → Values
    stepped zero s i = Bool false
    stepped (suc f) s i = by_equation rs x (stepped f) s i

    abbrev values : Values
    values s i = stepped (suc (height s i)) s i

    settled : (f s i : ℕ) → s < streams → height s i < f → stepped (suc f) s i ≡ stepped f s i
    unfolding stepped
    settled zero s i l h = absurd (omega (arith, h))
    settled (suc f) s i l h =
        rests x (stepped (suc f)) (stepped f) s i l (λ q d k r. settled f q (i - opening_of rs s + d) r.known (omega (arith, lower s i q d l k r, h)))

    further : (k f s i : ℕ) → s < streams → height s i < f → stepped (k + f) s i ≡ stepped f s i
    further zero f s i l h = ap (λ (g : ℕ). stepped g s i) (let e : zero + f ≡ f = omega arith in e)
    further (suc k) f s i l h =
        ap (λ (g : ℕ). stepped g s i) (let e : suc k + f ≡ suc (k + f) = omega arith in e) ∙ settled (k + f) s i l (omega (arith, h)) ∙ further k f s i l h

    -- enough steps give one value
    enough : (f s i : ℕ) → s < streams → height s i < f → stepped f s i ≡ values s i
    enough f s i l h =
        ap (λ (g : ℕ). stepped g s i) (let e : f ≡ (f - suc (height s i)) + suc (height s i) = omega (arith, h) in e) ∙ further (f - suc (height s i)) (suc (height s i)) s i l (omega arith)

    met : (s i : ℕ) → s < streams → values s i ≡ by_equation rs x values s i
    unfolding stepped
    met s i l = rests x (stepped (height s i)) values s i l (λ q d k r. enough (height s i) q (i - opening_of rs s + d) r.known (lower s i q d l k r))

    -- what an equation gives is in the range of its stream's type where what it reads is in that of the declared types
    of_type : (s i : ℕ) → s < streams → i < n + lead s →
        ((q d : ℕ) → opening_of rs s ≤ i → reads_stream s q d → HasType (equation_of rs q).ty (values q (i - opening_of rs s + d))) →
        HasType (equation_of rs s).ty (by_equation rs x values s i)
    of_type s i l li read = elim (cases_Bool (ltb i (opening_of rs s))) [
      | inl low ↦ subst (HasType (equation_of rs s).ty) (sym (cond-true _ _ _ low))
          (All-get_or (HasType (equation_of rs s).ty) (equation_of rs s).opening i (Bool false) (ltb-true i (opening_of rs s) low) (sound.opens s l))
      | inr high ↦ subst (HasType (equation_of rs s).ty) (sym (cond-false _ _ _ high))
          (sound.typed s l x values (i - opening_of rs s)
          (All-weaker _ _ (λ u. one (ltb-false i (opening_of rs s) high) u.name) (uses (equation_of rs s).body) (sound.reads s l)))
    ]
      where
        one : opening_of rs s ≤ i → (m : Name) → Reads rs lead rank (lead s) (opening_of rs s) (rank s) m → Ranged (channel_types rs) (stream_types rs) x values (i - opening_of rs s) m
        one k (name.Channel c) r = typed (i - opening_of rs s) c (omega (arith, li, k, r.past)) r.known
        one k (name.Stream q d) r = subst (λ t. HasType t (values q (i - opening_of rs s + d))) (sym (type_same rs q)) (read q d k r)

    has_type : (f s i : ℕ) → s < streams → i < n + lead s → height s i < f → HasType (equation_of rs s).ty (values s i)
    has_type zero s i l li h = absurd (omega (arith, h))
    has_type (suc f) s i l li h = subst (HasType (equation_of rs s).ty) (sym (met s i l))
        (of_type s i l li (λ q d k r. has_type f q (i - opening_of rs s + d) r.known (inside n s i q d li k r) (omega (arith, lower s i q d l k r, h))))

  pub exists : (x : Samples) (n : ℕ) → TypedSamples rs x n → (v : Values) × Meets rs lead x n v
  exists x n typed = (values x n typed, λ s i l h. (has_type x n typed (suc (height s i)) s i l h (omega arith), met x n typed s i l))
