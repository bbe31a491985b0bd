-- Values and alarms rest on the samples of the judged ticks alone. Assumes nothing.
use Rattle.std.proofs.Common.{◌≡◌, ℕ, zero, suc, ◌+◌, ◌-◌, ◌<◌, ◌≤◌, List, ◌++◌, refl, ap₂, ◌∙◌, arith}
use Rattle.std.proofs.ByRecursion.{All-weaker}
use Rattle.syntax.specs.declared.record.Kind.TheVariants.{Stream}
use Rattle.syntax.specs.Trees.{Exp}
use Rattle.syntax.specs.Entries.{Entry, count}
use Rattle.names.specs.declared.uses.Name.{Name}
use Rattle.names.specs.declared.uses.Name.TheVariants as name
use Rattle.names.specs.Uses.{uses}
use Rattle.evaluation.specs.Meaning.{Samples, Values, meaning, Same}
use Rattle.evaluation.proofs.Agreeing.{depends_on_names}
use Rattle.equations.specs.Equations.{equation_of, opening_of, SameSamples, Meets}
use Rattle.equations.specs.Alarms.{Rule, Call, SameRule, rules, called_at, called}
use Rattle.equations.proofs.Calling.{same_arguments, same_calls}
use Rattle.equations.proofs.Reading.{same_equation}
use Rattle.equations.proofs.Sound.{Reads, AllRead, RuleReads, Sound}
use Rattle.equations.proofs.One.{unique}

module _ (rs : List Entry) (lead rank : ℕ → ℕ) (top : ℕ) (sound : Sound rs lead rank top) (x y : Samples) (n : ℕ) (same : SameSamples rs n x y) where
  pub meets_later : (v : Values) → Meets rs lead x n v → Meets rs lead y n v
  meets_later v meets s i l h = (
    (meets s i l h).0,
    (meets s i l h).1 ∙ same_equation rs x v y v s i (λ k. All-weaker _ _ (λ u. one s i h k u.name) (uses (equation_of rs s).body) (sound.reads s l)),
  )
    where
      one : (s i : ℕ) → i < n + lead s → opening_of rs s ≤ i → (m : Name) → Reads rs lead rank (lead s) (opening_of rs s) (rank s) m → Same x v (i - opening_of rs s) y v (i - opening_of rs s) m
      one s i h k (name.Channel c) r = same (i - opening_of rs s) c (omega (arith, h, k, r.past)) r.known
      one s i h k (name.Stream q d) r = refl

  module _ (v w : Values) (mv : Meets rs lead x n v) (mw : Meets rs lead y n w) where
    -- at a judged tick a rule finds the same samples and values
    module _ (t : ℕ) (l : t < n) where
      found : (m : Name) → Reads rs lead rank 0 0 (count Stream rs) m → Same x v t y w t m
      found (name.Channel c) r = same t c l r.known
      found (name.Stream q d) r = unique rs lead rank top sound y n v w (meets_later v mv) mw q (t + d) r.known (omega (arith, l, r.ahead))

      same_value : (e : Exp) → AllRead rs lead rank 0 0 (count Stream rs) (uses e) → meaning x v t e ≡ meaning y w t e
      same_value e read = depends_on_names e x v t y w t (All-weaker _ _ (λ u. found u.name) (uses e) read)

      same_rule : (r : Rule) → RuleReads rs lead rank r → SameRule x v y w t r
      same_rule r read = record { guard = same_value r.guard read.guard; arguments = same_arguments x v y w t r.arguments (All-weaker _ _ same_value r.arguments read.arguments) }

      same_at : called_at rs x v t ≡ called_at rs y w t
      same_at = same_calls x v y w t 0 (rules rs) (All-weaker _ _ same_rule (rules rs) sound.rules_read)

    pub same_called : (m : ℕ) → m ≤ n → called rs x v m ≡ called rs y w m
    same_called zero l = refl
    same_called (suc m) l = ap₂ (λ (a b : List Call). a ++ b) (same_called m (omega (arith, l))) (same_at m (omega (arith, l)))
