-- An equation over two sources says the same where they agree on what it names. Assumes nothing.
use Rattle.std.proofs.Common.{◌≡◌, ℕ, ◌-◌, ◌≤◌, cond, false, ltb, List, get_or, sym, ap, ◌∙◌, inl, inr, ltb-false}
use Rattle.std.proofs.lemmas.Bool.{cases_Bool, cond-true}
use Rattle.values.specs.declared.value.Value.TheVariants.{Bool}
use Rattle.syntax.specs.Entries.{Entry}
use Rattle.names.specs.Uses.{uses}
use Rattle.evaluation.specs.Meaning.{Samples, Values, Agree}
use Rattle.evaluation.proofs.Agreeing.{depends_on_names}
use Rattle.equations.specs.Equations.{equation_of, opening_of, by_equation}

pub same_equation : (rs : List Entry) (x : Samples) (v : Values) (x' : Samples) (v' : Values) (s i : ℕ) →
    (opening_of rs s ≤ i → Agree x v (i - opening_of rs s) x' v' (i - opening_of rs s) (uses (equation_of rs s).body)) → by_equation rs x v s i ≡ by_equation rs x' v' s i
same_equation rs x v x' v' s i agree = elim (cases_Bool (ltb i (opening_of rs s))) [
  | inl low ↦ cond-true _ _ _ low ∙ sym (cond-true _ _ _ low)
  | inr high ↦
      ap (cond (ltb i (opening_of rs s)) (get_or (equation_of rs s).opening i (Bool false)))
      (depends_on_names (equation_of rs s).body x v (i - opening_of rs s) x' v' (i - opening_of rs s) (agree (ltb-false i (opening_of rs s) high)))
]
