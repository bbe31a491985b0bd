use Rattle.std.proofs.Common.{◌≡◌, ℕ, ◌≤◌, rules, List, Some, Ok, refl, sym, ap, ◌∙◌, arith}
use Rattle.std.proofs.lemmas.Bool.Decides.{nat_tests}
use Rattle.std.proofs.lemmas.Result.{err_from_is_err_and}
use Rattle.values.specs.declared.types.«Type».{«Type» as Ty}
use Rattle.values.specs.declared.value.Value.{Value}
use Rattle.syntax.specs.Answers.{Found, then}
use Rattle.syntax.specs.Codes.{op_coded}
use Rattle.syntax.specs.Parts.{byte_from, type_from, value_from}
use Rattle.syntax.specs.Heads.{head}
use Rattle.syntax.specs.declared.codes.Op.TheVariants.{Constant, Stream}
use Rattle.syntax.specs.declared.tree.Node.TheVariants as node
use Rattle.syntax.proofs.Steps.{head_constant}
use Rattle.syntax.proofs.reader.Reader.head.Goals as goal
use Rattle.syntax.proofs.reader.Reader.head.Goals.{in-Constant+in_ok-ty-in-Constant+in_ok-read_value-in-Constant, in-Channel+in_ok-byte-in-Channel, in-Stream+in_ok-number-in-Stream+in_ok-drop-in-Stream+else-drop-gt-MOST_DROP, in-Unary, in-Cast+in_ok-read_type-in-Cast, in-Binary, in-Choose}

-- a constant that was read ahead: its code, its type, and its value or the value's refusal
constant : (bs first second third : List ℕ) (at from d b n m : ℕ) (t : Ty) (found : Found Value) → first ≡ bs → from ≡ at → second ≡ first → third ≡ second
    → byte_from first from ≡ Ok (b, n) → op_coded b ≡ Some Constant → (d ≡ 0 → ⊥) → type_from second n ≡ Ok (t, m) → value_from third t m ≡ found
    → head d bs at ≡ then found (λ v k. Ok (node.Constant v, k))
constant bs first second third at from d b n m t found one same two three code op level type value =
    let two = two ∙ one in
    let three = three ∙ two in
    head_constant bs at d b n m t ((λ i. byte_from (sym one i) (sym same i)) ∙ code) op level (ap (λ l. type_from l n) (sym two) ∙ type)
    ∙ ap (λ r. then r (λ v k. Ok (node.Constant v, k))) (ap (λ l. value_from l t m) (sym three) ∙ value)

-- a stream that was read ahead: its code, its number and its drop
stream : (bs first second third : List ℕ) (at from d b n i m x k : ℕ) → first ≡ bs → from ≡ at → second ≡ first → third ≡ second
    → byte_from first from ≡ Ok (b, n) → op_coded b ≡ Some Stream → (d ≡ 0 → ⊥) → byte_from second n ≡ Ok (i, m) → byte_from third m ≡ Ok (x, k) → x ≤ 63
    → head d bs at ≡ Ok (node.Stream i x, k)
unfolding head
stream bs first second third at from d b n i m x k one same two three code op level number ahead few =
    let two = two ∙ one in
    let three = three ∙ two in
    let here : byte_from bs at ≡ Ok (b, n) = (λ i. byte_from (sym one i) (sym same i)) ∙ code in
    let next : byte_from bs n ≡ Ok (i, m) = ap (λ l. byte_from l n) (sym two) ∙ number in
    let last : byte_from bs m ≡ Ok (x, k) = ap (λ l. byte_from l m) (sym three) ∙ ahead in
    grind (arith, nat_tests)

pub returns-in_err-read_value-in-Constant-clause-value : goal.returns-in_err-read_value-in-Constant-clause-value
returns-in_err-read_value-in-Constant-clause-value c =
    let op : op_coded c.in_ok-byte.field-0 ≡ Some Constant = grind (arith, nat_tests) in
    let fork = c.fork-ahead.ensures in
    let code = c.in_ok-byte.ensures in
    let type = c.in_ok-ty-in-Constant.ensures in
    let p = err_from_is_err_and c.from_residual-in_err-read_value-in-Constant.result c.from_residual-in_err-read_value-in-Constant.ensures.1 in
    rw (p.1, p.2)
    (refl, constant _ _ _ _ c.args.self.now.at _ c.args.depth _ _ _ _ _ fork.bytes fork.at code.0 type.0 code.1 op c.if-depth-eq0.false type.1 c.in_err-read_value-in-Constant.ensures.1)

pub returns-clause-value : goal.returns-clause-value
unfolding head
returns-clause-value c =
    elim c.match-op.branch [
      | in-Constant+in_ok-ty-in-Constant+in_ok-read_value-in-Constant w ↦
          let op : op_coded c.in_ok-byte.field-0 ≡ Some Constant = grind (arith, nat_tests) in
          let fork = c.fork-ahead.ensures in
          let code = c.in_ok-byte.ensures in
          let type = w.in_ok-ty-in-Constant.ensures in
          let value = w.in_ok-read_value-in-Constant.ensures in
          let found = constant _ _ _ _ c.args.self.now.at _ c.args.depth _ _ _ _ _ fork.bytes fork.at code.0 type.0 code.1 op c.if-depth-eq0.false type.1 value.1 in
          (refl, found ∙ (λ i. Ok (sym w.node-is i, ap (λ a. a.at) (sym w.ahead-is) i)))
      | in-Channel+in_ok-byte-in-Channel w ↦ search rules
      | in-Stream+in_ok-number-in-Stream+in_ok-drop-in-Stream+else-drop-gt-MOST_DROP w ↦
          let op : op_coded c.in_ok-byte.field-0 ≡ Some Stream = grind (arith, nat_tests) in
          let fork = c.fork-ahead.ensures in
          let code = c.in_ok-byte.ensures in
          let number = w.in_ok-number-in-Stream.ensures in
          let drop = w.in_ok-drop-in-Stream.ensures in
          let found = stream _ _ _ _ c.args.self.now.at _ c.args.depth _ _ _ _ _ _ fork.bytes fork.at code.0 number.0 code.1 op c.if-depth-eq0.false number.1 drop.1 w.if-drop-gt-MOST_DROP.false in
          (refl, found ∙ (λ i. Ok (sym w.node-is i, ap (λ a. a.at) (sym w.ahead-is) i)))
      | in-Unary w ↦ grind (arith, nat_tests)
      | in-Cast+in_ok-read_type-in-Cast w ↦ search rules
      | in-Binary w ↦ grind (arith, nat_tests)
      | in-Choose w ↦ grind (arith, nat_tests)
    ]
