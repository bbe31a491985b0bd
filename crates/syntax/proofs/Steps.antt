-- What `parse` is, by the head. Assumes nothing.
use Rattle.std.proofs.Common.{◌≡◌, ℕ, zero, suc, ◌-◌, ◌<◌, List, Some, Ok, Err, ap, arith}
use Rattle.faults.specs.Causes.{Refusal}
use Rattle.values.specs.declared.types.«Type».{«Type» as Ty}
use Rattle.syntax.specs.declared.codes.Op.TheVariants.{Constant}
use Rattle.syntax.specs.declared.tree.Node.TheVariants as node
use Rattle.std.proofs.lemmas.Bool.Decides.{nat_tests}
use Rattle.syntax.specs.Answers.{then}
use Rattle.syntax.specs.Codes.{op_coded}
use Rattle.syntax.specs.Trees.{channel}
use Rattle.syntax.specs.Parts.{byte_from, type_from, value_from}
use Rattle.syntax.specs.Heads.{head}
use Rattle.syntax.specs.Parsing.{grown, parse}

-- where no head stands, no expression does
pub stops : (bs : List ℕ) (at d : ℕ) {x : Refusal} → head d bs at ≡ Err x → parse d bs at ≡ Err x
unfolding parse
stops bs at zero e = ap (λ h. then h (grown (λ n. Ok (channel 0 0, n)) at)) e
stops bs at (suc d) e = ap (λ h. then h (grown (parse d bs) at)) e

-- with a level left, an expression is its head and what grows from it
pub parsed : (d : ℕ) (bs : List ℕ) (at : ℕ) → 0 < d → parse d bs at ≡ then (head d bs at) (grown (parse (d - 1) bs) at)
unfolding parse
parsed zero bs at h = absurd (omega arith)
parsed (suc d) bs at h = ap (λ m. then (head (suc d) bs at) (grown (parse m bs) at)) (let k : d ≡ suc d - 1 = omega arith in k)

-- the head of a constant whose type was read is its value
pub head_constant : (bs : List ℕ) (at d b n m : ℕ) (t : Ty) → byte_from bs at ≡ Ok (b, n) → op_coded b ≡ Some Constant → (d ≡ 0 → ⊥) → type_from bs n ≡ Ok (t, m)
    → head d bs at ≡ then (value_from bs t m) (λ v k. Ok (node.Constant v, k))
unfolding head
head_constant bs at d b n m t read code level type = grind (arith, nat_tests)
