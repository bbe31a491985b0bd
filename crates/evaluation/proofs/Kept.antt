-- A typed expression is no deeper than its types were sought, and its meaning has its type. Assumes nothing.
use Rattle.std.proofs.Common.{◌≡◌, ℕ, zero, suc, ◌≤◌, Bool as Truth, true, false, cond, ◌&&◌, List, ◌++◌, ℤ, Some, None, Ok, Err, Option, Result, sym, refl, ap, ◌∙◌, arith}
use Rattle.std.proofs.lemmas.Bool.{and_parts}
use Rattle.faults.specs.Causes.{Refusal}
use Rattle.values.specs.declared.types.«Type».{«Type» as Ty}
use Rattle.values.specs.declared.types.«Type».TheVariants.{Bool}
use Rattle.values.specs.declared.value.Value.{Value}
use Rattle.values.specs.Types.{casts}
use Rattle.values.specs.Values.{type_of, num, wrap, modulo, Proper}
use Rattle.values.specs.Types.{width}
use Rattle.values.proofs.Wrapping.{low_type}
use Rattle.operators.specs.declared.operator.Unary.{Unary}
use Rattle.operators.specs.declared.operator.Unary.TheVariants.{Not, Negate}
use Rattle.operators.specs.declared.operator.Binary.{Binary}
use Rattle.operators.specs.declared.operator.Binary.TheVariants.{And, Or, Add, Subtract, Multiply, Quotient, Remainder, Equal, Less, AtMost}
use Rattle.operators.specs.Operators.{truth, unary, binary}
use Rattle.syntax.specs.Trees.{Exp}
use Rattle.syntax.specs.Trees as tree
use Rattle.names.specs.Uses.{uses}
use Rattle.typing.specs.Rules.{same, where_fit, unary_type, binary_type}
use Rattle.typing.specs.Typing.{fitted, shape}
use Rattle.typing.proofs.WellTyped.{same_true, operand_ok}
use Rattle.evaluation.specs.Meaning.{Samples, Values, meaning, value_within, levels}
use Rattle.evaluation.specs.Kept.{OfTypes, HasMeaning}
use Rattle.evaluation.proofs.Agreeing.{all_left, all_right}
use Rattle.evaluation.proofs.Levels.{whole}

-- ---- taking an accepted answer apart

refused : {X : Type 0} {c : Refusal} {x : X} → ◌≡◌ {A = Result X Refusal} (Err c) (Ok x) → ⊥
refused e = cc

fitted_ok : (at : ℕ) (o : Option Ty) (t : Ty) → fitted at o ≡ Ok t → o ≡ Some t
fitted_ok at (Some u) t e = cc
fitted_ok at None t e = cc

fit_ok : (b : Truth) (t u : Ty) → where_fit b t ≡ Some u → (b ≡ true) × (t ≡ u)
fit_ok true t u e = (refl, (cc))
fit_ok false t u e = absurd (cc)

wrap_type : (t : Ty) (z : ℤ) → type_of (wrap t z) ≡ t
wrap_type t z = low_type t (modulo (width t) z)

-- ---- the types of operators' values

unary_kept : (o : Unary) (v : Value) (t u : Ty) → type_of v ≡ t → unary_type o t ≡ Some u → type_of (unary o v) ≡ u
unary_kept Not v t u e h = let f = fit_ok (same t Bool) t u h in sym (same_true t Bool f.0) ∙ f.1
unary_kept Negate v t u e h = wrap_type (type_of v) _ ∙ e ∙ (fit_ok _ t u h).1

-- a result on numbers has the first operand's type
numbers_kept : (b : Truth) (v : Value) (z : ℤ) (t u : Ty) → type_of v ≡ t → where_fit b t ≡ Some u → type_of (wrap (type_of v) z) ≡ u
numbers_kept b v z t u e h = wrap_type (type_of v) z ∙ e ∙ (fit_ok b t u h).1

binary_kept : (o : Binary) (v w : Value) (t u r : Ty) → type_of v ≡ t → binary_type o t u ≡ Some r → type_of (binary o v w) ≡ r
binary_kept And v w t u r e h = (fit_ok _ Bool r h).1
binary_kept Or v w t u r e h = (fit_ok _ Bool r h).1
binary_kept Add v w t u r e h = numbers_kept _ v _ t r e h
binary_kept Subtract v w t u r e h = numbers_kept _ v _ t r e h
binary_kept Multiply v w t u r e h = numbers_kept _ v _ t r e h
binary_kept Quotient v w t u r e h = numbers_kept _ v _ t r e h
binary_kept Remainder v w t u r e h = numbers_kept _ v _ t r e h
binary_kept Equal v w t u r e h = (fit_ok _ Bool r h).1
binary_kept Less v w t u r e h = (fit_ok _ Bool r h).1
binary_kept AtMost v w t u r e h = (fit_ok _ Bool r h).1

chosen_kept : (b : Truth) (v w : Value) (t u r : Ty) → type_of v ≡ t → type_of w ≡ u → t ≡ u → t ≡ r → type_of (cond b v w) ≡ r
chosen_kept true v w t u r e f same is = e ∙ is
chosen_kept false v w t u r e f same is = f ∙ sym same ∙ is

module _ (cs ss : List Ty) where
  pub shallow : (d : ℕ) (e : Exp) (t : Ty) → shape cs ss d e ≡ Ok t → levels e ≤ d
  unfolding shape
  shallow zero e t h = absurd (refused h)
  shallow (suc d) (tree.constant at v) t h = omega arith
  shallow (suc d) (tree.channel at i) t h = omega arith
  shallow (suc d) (tree.stream at i x) t h = omega arith
  shallow (suc d) (tree.unary at o e) t h = let p = operand_ok cs ss d e _ t h in let l = shallow d e p.type p.typed in omega arith
  shallow (suc d) (tree.cast at u e) t h = let p = operand_ok cs ss d e _ t h in let l = shallow d e p.type p.typed in omega arith
  shallow (suc d) (tree.binary at o a b) t h =
      let p = operand_ok cs ss d a _ t h in let q = operand_ok cs ss d b _ t p.rest in
      let l = shallow d a p.type p.typed in let m = shallow d b q.type q.typed in omega arith
  shallow (suc d) (tree.choose at c a b) t h =
      let o = operand_ok cs ss d c _ t h in let p = operand_ok cs ss d a _ t o.rest in let q = operand_ok cs ss d b _ t p.rest in
      let k = shallow d c o.type o.typed in let l = shallow d a p.type p.typed in let m = shallow d b q.type q.typed in omega arith

  module _ (x : Samples) (v : Values) (p : ℕ) where
    pub kept : (d : ℕ) (e : Exp) (t : Ty) → shape cs ss d e ≡ Ok t → OfTypes cs ss x v p (uses e) → type_of (meaning x v p e) ≡ t
    unfolding shape
    kept zero e t h w = absurd (refused h)
    kept (suc d) (tree.constant at y) t h w = cc
    kept (suc d) (tree.channel at i) t h w = let k = w.0 in cc
    kept (suc d) (tree.stream at i y) t h w = let k = w.0 in cc
    kept (suc d) (tree.unary at o e) t h w =
        let q = operand_ok cs ss d e _ t h in
        unary_kept o (meaning x v p e) q.type t (kept d e q.type q.typed w) (fitted_ok at (unary_type o q.type) t q.rest)
    kept (suc d) (tree.cast at u e) t h w =
        let q = operand_ok cs ss d e _ t h in
        wrap_type u (num (meaning x v p e)) ∙ (fit_ok (casts q.type u) u t (fitted_ok at (where_fit (casts q.type u) u) t q.rest)).1
    kept (suc d) (tree.binary at o a b) t h w =
        let q = operand_ok cs ss d a _ t h in let r = operand_ok cs ss d b _ t q.rest in
        binary_kept o (meaning x v p a) (meaning x v p b) q.type r.type t (kept d a q.type q.typed (all_left _ (uses a) (uses b) w)) (fitted_ok at (binary_type o q.type r.type) t r.rest)
    kept (suc d) (tree.choose at y a b) t h w =
        let o = operand_ok cs ss d y _ t h in let q = operand_ok cs ss d a _ t o.rest in let r = operand_ok cs ss d b _ t q.rest in
        let rest = all_right _ (uses y) (uses a ++ uses b) w in
        let test = same o.type Bool && same q.type r.type in
        let f = fit_ok test q.type t (fitted_ok at (where_fit test q.type) t r.rest) in
        let one_type = same_true q.type r.type (and_parts (same o.type Bool) (same q.type r.type) f.0).1 in
        chosen_kept (truth (meaning x v p y)) (meaning x v p a) (meaning x v p b) q.type r.type t
        (kept d a q.type q.typed (all_left _ (uses a) (uses b) rest)) (kept d b r.type r.typed (all_right _ (uses a) (uses b) rest)) one_type f.1

-- a value in its range, worked out 12 levels deep, is the meaning of each typed expression
pub has_meaning : (x : Samples) (v : Values) (p : ℕ) (e : Exp) (w : Value) → w ≡ value_within 12 x v p e → Proper w → HasMeaning x v p e w
has_meaning x v p e w is ranged cs ss t h =
    let m = is ∙ whole x v p 12 e (shallow cs ss 12 e t h) in
    (m, λ named. (ap type_of m ∙ kept cs ss x v p 12 e t h named, ranged))
