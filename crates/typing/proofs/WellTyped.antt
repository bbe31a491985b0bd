-- What passes is typed, and divides by constants other than zero. Assumes nothing.
-- An operand passes only with a type and only once its own divisor is looked at, so what passes whole has passed in every part.
use Rattle.std.proofs.Common.{◌≡◌, ◌⊎◌, inl, inr, ℕ, zero, suc, Bool as Truth, true, false, cond, not, ◌||◌, List, ℤ, pos, Some, None, Ok, Err, Option, Result, sym, refl, ap, ◌∙◌}
use Rattle.std.specs.List.{AllByRecursion}
use Rattle.std.proofs.ByRecursion.{All-weaker}
use Rattle.std.proofs.lemmas.Bool.{eqb-true}
use Rattle.faults.specs.Causes.{Refusal}
use Rattle.values.specs.declared.types.«Type».{«Type» as Ty}
use Rattle.values.specs.declared.types.«Type».TheVariants.{Bool}
use Rattle.values.specs.Types.{code, type_coded}
use Rattle.values.specs.Values.{num}
use Rattle.operators.specs.declared.operator.Binary.{Binary}
use Rattle.operators.specs.declared.operator.Binary.TheVariants.{Quotient, Remainder}
use Rattle.operators.specs.Operators.{eq_z}
use Rattle.syntax.specs.Trees.{Exp}
use Rattle.syntax.specs.Trees as tree
use Rattle.syntax.specs.Entries.{Entry}
use Rattle.syntax.specs.Entries as entry
use Rattle.syntax.specs.Passing.{then}
use Rattle.syntax.proofs.Passing.{then_ok, every_all}
use Rattle.syntax.proofs.Parts.{type_back}
use Rattle.typing.specs.Scopes.{channel_types, stream_types}
use Rattle.typing.specs.Rules.{same, divides, divisor, divided, settled}
use Rattle.typing.specs.Typing.{operand, shape}
use Rattle.typing.specs.Judging.{fits, judged, entry_judged, types_in}
use Rattle.typing.specs.WellTyped.{IsTyped, EntryTyped, AllTyped, IsNonzeroConstant, DividesByConstants, expressions_of, AllDivideByConstants}

-- ---- types and divisors

-- types with one code are one
pub same_true : (t u : Ty) → same t u ≡ true → t ≡ u
same_true t u e =
    let back : Some t ≡ Some u = sym (type_back t) ∙ ap type_coded (eqb-true (code t) (code u) e) ∙ type_back u in
    cc

-- what is refused unless a test holds
ok_if : {X : Type 0} (b : Truth) (r : Result X Refusal) (c : Refusal) (x : X) → cond b r (Err c) ≡ Ok x → (b ≡ true) × (r ≡ Ok x)
ok_if true r c x h = (refl, h)
ok_if false r c x h = absurd (cc)

settled_ok : (e : Exp) (t u : Ty) → settled e t ≡ Ok u → (divided e ≡ true) × (t ≡ u)
settled_ok e t u h = let p = ok_if (divided e) (Ok t) _ u h in let q = p.1 in (p.0, (cc))

nonzero : (z : ℤ) → not (eq_z z (pos 0)) ≡ true → z ≡ pos 0 → ⊥
nonzero z h e = let k : not (eq_z (pos 0) (pos 0)) ≡ true = ap (λ y. not (eq_z y (pos 0))) (sym e) ∙ h in cc

divisor_ok : (e : Exp) → divisor e ≡ true → IsNonzeroConstant e
divisor_ok (tree.constant at v) h = (at, v, refl, nonzero (num v) h)
divisor_ok (tree.channel at i) h = absurd (cc)
divisor_ok (tree.stream at i d) h = absurd (cc)
divisor_ok (tree.unary at o e) h = absurd (cc)
divisor_ok (tree.cast at t e) h = absurd (cc)
divisor_ok (tree.binary at o a b) h = absurd (cc)
divisor_ok (tree.choose at a b c) h = absurd (cc)

divided_ok : (o : Binary) (b : Exp) → (not (divides o) || divisor b) ≡ true → (o ≡ Quotient) ⊎ (o ≡ Remainder) → IsNonzeroConstant b
divided_ok o b h (inl e) = divisor_ok b (sym (ap (λ p. not (divides p) || divisor b) e) ∙ h)
divided_ok o b h (inr e) = divisor_ok b (sym (ap (λ p. not (divides p) || divisor b) e) ∙ h)

-- ---- an expression

module _ (cs ss : List Ty) where
  -- what is known of an operand of an expression that is typed
  pub record Operand (d : ℕ) (e : Exp) (P : Ty → Type 0) : Type 0 where
    pub type : Ty
    pub typed : shape cs ss d e ≡ Ok type
    pub divided : divided e ≡ true
    pub rest : P type

  pub operand_ok : (d : ℕ) (e : Exp) (f : Ty → Result Ty Refusal) (t : Ty) → then (operand (shape cs ss d) e) f ≡ Ok t → Operand d e (λ u. f u ≡ Ok t)
  operand_ok d e f t h =
      let p = then_ok (operand (shape cs ss d) e) f t h in
      let q = then_ok (shape cs ss d e) (settled e) p.0 p.1 in
      let s = settled_ok e q.0 p.0 q.2 in
      record { type = p.0; typed = q.1 ∙ ap Ok s.1; divided = s.0; rest = p.2 }

  pub divides_by_constants : (d : ℕ) (e : Exp) (t : Ty) → shape cs ss d e ≡ Ok t → divided e ≡ true → DividesByConstants e
  unfolding shape
  divides_by_constants zero e t h k = absurd (cc)
  divides_by_constants (suc d) (tree.constant at v) t h k = tt
  divides_by_constants (suc d) (tree.channel at i) t h k = tt
  divides_by_constants (suc d) (tree.stream at i x) t h k = tt
  divides_by_constants (suc d) (tree.unary at o e) t h k =
      let p = operand_ok d e _ t h in divides_by_constants d e p.type p.typed p.divided
  divides_by_constants (suc d) (tree.cast at u e) t h k =
      let p = operand_ok d e _ t h in divides_by_constants d e p.type p.typed p.divided
  divides_by_constants (suc d) (tree.binary at o a b) t h k =
      let p = operand_ok d a _ t h in let q = operand_ok d b _ t p.rest in
      (divides_by_constants d a p.type p.typed p.divided, divides_by_constants d b q.type q.typed q.divided, divided_ok o b k)
  divides_by_constants (suc d) (tree.choose at c a b) t h k =
      let o = operand_ok d c _ t h in let p = operand_ok d a _ t o.rest in let q = operand_ok d b _ t p.rest in
      (divides_by_constants d c o.type o.typed o.divided, divides_by_constants d a p.type p.typed p.divided, divides_by_constants d b q.type q.typed q.divided)

  -- ---- a whole expression

  -- what is known of a whole expression that passes
  record Whole (want : Option Ty) (e : Exp) : Type 0 where
    type : Ty
    typed : IsTyped cs ss type e
    fits : fits want type ≡ true
    divided : DividesByConstants e

  judged_ok : (want : Option Ty) (e : Exp) → judged cs ss want e ≡ Ok tt → Whole want e
  judged_ok want e h =
      let p = then_ok (shape cs ss 12 e) _ tt h in
      let t = p.0 in
      let q = ok_if (fits want t) (then (settled e t) (λ _. Ok tt)) _ tt p.2 in
      let s = then_ok (settled e t) _ tt q.1 in
      record { type = t; typed = p.1; fits = q.0; divided = divides_by_constants 12 e t p.1 (settled_ok e t s.0 s.1).0 }

  wanted : (t : Ty) (e : Exp) → Whole (Some t) e → IsTyped cs ss t e
  wanted t e w = w.typed ∙ ap Ok (sym (same_true t w.type w.fits))

  -- ---- a record

  entry_typed : (r : Entry) → entry_judged cs ss r ≡ Ok tt → EntryTyped cs ss r
  entry_typed (entry.channel t) h = tt
  entry_typed (entry.stream t vs e) h = wanted t e (judged_ok (Some t) e h)
  entry_typed (entry.rule g es) h =
      let p = then_ok (judged cs ss (Some Bool) g) _ tt h in (
        wanted Bool g (judged_ok (Some Bool) g p.1),
        All-weaker _ _ (λ e k. let w = judged_ok None e k in (w.type, w.typed)) es (every_all (judged cs ss None) es p.2),
      )

  entry_divides : (r : Entry) → entry_judged cs ss r ≡ Ok tt → AllByRecursion DividesByConstants (expressions_of r)
  entry_divides (entry.channel t) h = tt
  entry_divides (entry.stream t vs e) h = ((judged_ok (Some t) e h).divided, tt)
  entry_divides (entry.rule g es) h =
      let p = then_ok (judged cs ss (Some Bool) g) _ tt h in (
        (judged_ok (Some Bool) g p.1).divided,
        All-weaker _ _ (λ e k. (judged_ok None e k).divided) es (every_all (judged cs ss None) es p.2),
      )

-- ---- a table

pub all_typed : (rs : List Entry) → types_in rs ≡ Ok tt → AllTyped rs
all_typed rs h =
    let judge = entry_judged (channel_types rs) (stream_types rs) in
    All-weaker _ _ (entry_typed (channel_types rs) (stream_types rs)) rs (every_all judge rs h)

pub all_divide : (rs : List Entry) → types_in rs ≡ Ok tt → AllDivideByConstants rs
all_divide rs h =
    let judge = entry_judged (channel_types rs) (stream_types rs) in
    All-weaker _ _ (entry_divides (channel_types rs) (stream_types rs)) rs (every_all judge rs h)
