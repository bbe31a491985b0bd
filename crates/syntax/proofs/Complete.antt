-- An expression that is written is read. Assumes nothing.
use Rattle.std.proofs.Common.{◌≡◌, ℕ, zero, suc, ◌+◌, ◌<◌, ◌≤◌, false, cond, eqb, List, [], ◌∷◌, ◌++◌, length, get_or, Some, Ok, Err, sym, refl, ap, ◌∙◌, arith}
use Rattle.std.specs.List.{AllByRecursion}
use Rattle.std.proofs.lemmas.Bool.{lt-ltb, le-ltb, cond-true, cond-false}
use Rattle.std.proofs.lemmas.Bool.Decides.{nat_tests}
use Rattle.faults.specs.Causes.{refusal}
use Rattle.faults.specs.declared.cause.Cause.TheVariants.{Limit}
use Rattle.values.specs.Types.{code}
use Rattle.values.specs.Values.{type_of}
use Rattle.values.specs.Bytes.{encoded}
use Rattle.operators.specs.declared.operator.Unary.TheVariants.{Not, Negate}
use Rattle.operators.specs.declared.operator.Binary.TheVariants.{And, Or, Add, Subtract, Multiply, Quotient, Remainder, Equal, Less, AtMost}
use Rattle.syntax.specs.declared.codes.Op.{Op}
use Rattle.syntax.specs.declared.codes.Op.TheVariants.{Constant, Channel, Stream, Unary, Cast, Binary, Choose}
use Rattle.syntax.specs.declared.tree.Node.TheVariants as node
use Rattle.syntax.specs.Answers.{then}
use Rattle.syntax.specs.Codes.{op_code, op_coded}
use Rattle.syntax.specs.Parts.{value_from}
use Rattle.syntax.specs.Heads.{head, after, at_level}
use Rattle.syntax.specs.Parsing.{grown, parse}
use Rattle.syntax.specs.Trees.{Exp, constant, channel, stream, unary, cast, binary, choose}
use Rattle.syntax.specs.Written.{written, Bounded, placed}
use Rattle.syntax.proofs.Stand.{Stands, split, first}
use Rattle.syntax.proofs.Parts.{type_is, value_is}

code_back : (o : Op) → op_coded (op_code o) ≡ Some o
code_back Constant = refl
code_back Channel = refl
code_back Stream = refl
code_back (Unary Not) = refl
code_back (Unary Negate) = refl
code_back Cast = refl
code_back (Binary And) = refl
code_back (Binary Or) = refl
code_back (Binary Add) = refl
code_back (Binary Subtract) = refl
code_back (Binary Multiply) = refl
code_back (Binary Quotient) = refl
code_back (Binary Remainder) = refl
code_back (Binary Equal) = refl
code_back (Binary Less) = refl
code_back (Binary AtMost) = refl
code_back Choose = refl

deep : (d : ℕ) → eqb (suc d) 0 ≡ false
deep d = grind (arith, nat_tests)

module _ (bs : List ℕ) (small : AllByRecursion (λ b. b < 256) bs) where
  -- the head where an operator's code stands
  head_is : (d at : ℕ) (o : Op) → at < length bs → get_or bs at 0 ≡ op_code o → head (suc d) bs at ≡ after bs at o
  unfolding head
  head_is d at o h e =
      cond-true _ _ _ (lt-ltb at (length bs) h) ∙ ap (λ x. then (at_level (suc d) at (op_coded x)) (λ o n. after bs at o)) e
      ∙ ap (λ x. then (at_level (suc d) at x) (λ o n. after bs at o)) (code_back o)
      ∙ ap (λ b. then (cond b (Err (refusal (Limit at))) (Ok (o, at))) (λ o n. after bs at o)) (deep d)

  pub complete : (d : ℕ) (e : Exp) (at n : ℕ) → Stands bs at (written e) n → n ≤ length bs → Bounded d e → parse d bs at ≡ Ok (placed at e, n)
  unfolding parse
  complete zero e at n s h b = absurd b
  complete (suc d) (constant p v) at n s h b =
      let f = first 0x01 (code (type_of v) ∷ encoded v) at n s h in
      let g = first (code (type_of v)) (encoded v) (at + 1) n f.2 h in
      ap (λ x. then x (grown (parse d bs) at))
      (head_is d at Constant f.0 f.1
      ∙ ap (λ x. then x (λ t n. then (value_from bs t n) (λ v m. Ok (node.Constant v, m)))) (type_is bs small (type_of v) (at + 1) g.0 g.1)
      ∙ ap (λ x. then x (λ v m. Ok (node.Constant v, m))) (value_is bs small v (at + 1 + 1) n g.2 h b))
  complete (suc d) (channel p i) at n s h b =
      let f = first 0x02 (i ∷ []) at n s h in
      let g = first i [] (at + 1) n f.2 h in
      let q = g.2.next in
      let m : at + 2 ≡ n = omega (arith, q) in
      let c : get_or bs (at + 1) 0 ≡ i = g.1 in
      ap (λ x. then x (grown (parse d bs) at))
      (head_is d at Channel f.0 f.1 ∙ cond-true _ _ _ (lt-ltb (at + 1) (length bs) g.0) ∙ (λ j. Ok (node.Channel (c j), m j)))
  complete (suc d) (stream p i x) at n s h b =
      let f = first 0x03 (i ∷ (x ∷ [])) at n s h in
      let g = first i (x ∷ []) (at + 1) n f.2 h in
      let k = first x [] (at + 1 + 1) n g.2 h in
      let two : at + 1 + 1 ≡ at + 2 = omega arith in
      let q = k.2.next in
      let m : at + 3 ≡ n = omega (arith, q) in
      let c : get_or bs (at + 1) 0 ≡ i = g.1 in
      let y : get_or bs (at + 2) 0 ≡ x = ap (λ a. get_or bs a 0) (sym two) ∙ k.1 in
      let lt = k.0 in
      ap (λ x. then x (grown (parse d bs) at))
      (head_is d at Stream f.0 f.1 ∙ cond-true _ _ _ (lt-ltb (at + 1) (length bs) g.0) ∙ cond-true _ _ _ (lt-ltb (at + 2) (length bs) (omega (arith, lt)))
      ∙ cond-false _ _ _ (le-ltb 63 (get_or bs (at + 2) 0) (omega (arith, y, b))) ∙ (λ j. Ok (node.Stream (c j) (y j), m j)))
  complete (suc d) (unary p o e) at n s h b =
      let f = first (op_code (Unary o)) (written e) at n s h in
      ap (λ x. then x (grown (parse d bs) at)) (head_is d at (Unary o) f.0 f.1)
      ∙ ap (λ x. then x (λ e m. Ok (unary at o e, m))) (complete d e (at + 1) n f.2 h b)
  complete (suc d) (cast p t e) at n s h b =
      let f = first 0x60 (code t ∷ written e) at n s h in
      let g = first (code t) (written e) (at + 1) n f.2 h in
      let two : at + 1 + 1 ≡ at + 2 = omega arith in
      ap (λ x. then x (grown (parse d bs) at)) (head_is d at Cast f.0 f.1 ∙ ap (λ x. then x (λ t n. Ok (node.Cast t, n))) (type_is bs small t (at + 1) g.0 g.1))
      ∙ ap (λ x. then x (λ e m. Ok (cast at t e, m))) (complete d e (at + 1 + 1) n g.2 h b)
      ∙ ap (λ a. Ok (cast at t (placed a e), n)) two
  complete (suc d) (binary p o u v) at n s h b =
      let f = first (op_code (Binary o)) (written u ++ written v) at n s h in
      let k = split (written u) (written v) (at + 1) n f.2 in
      let q = k.1.next in
      ap (λ x. then x (grown (parse d bs) at)) (head_is d at (Binary o) f.0 f.1)
      ∙ ap (λ x. then x (λ a m. then (parse d bs m) (λ b k. Ok (binary at o a b, k)))) (complete d u (at + 1) (at + 1 + length (written u)) k.0 (omega (arith, q)) b.0)
      ∙ ap (λ x. then x (λ b k. Ok (binary at o (placed (at + 1) u) b, k))) (complete d v (at + 1 + length (written u)) n k.1 h b.1)
  complete (suc d) (choose p u v w) at n s h b =
      let f = first 0x50 (written u ++ (written v ++ written w)) at n s h in
      let k = split (written u) (written v ++ written w) (at + 1) n f.2 in
      let j = split (written v) (written w) (at + 1 + length (written u)) n k.1 in
      let q = j.1.next in
      ap (λ x. then x (grown (parse d bs) at)) (head_is d at Choose f.0 f.1)
      ∙ ap (λ x. then x (λ a l. then (parse d bs l) (λ b m. then (parse d bs m) (λ c k. Ok (choose at a b c, k))))) (complete d u (at + 1) (at + 1 + length (written u)) k.0 (omega (arith, q)) b.0)
      ∙ ap (λ x. then x (λ b m. then (parse d bs m) (λ c k. Ok (choose at (placed (at + 1) u) b c, k)))) (complete d v (at + 1 + length (written u)) (at + 1 + length (written u) + length (written v)) j.0 (omega (arith, q)) b.1)
      ∙ ap (λ x. then x (λ c k. Ok (choose at (placed (at + 1) u) (placed (at + 1 + length (written u)) v) c, k))) (complete d w (at + 1 + length (written u) + length (written v)) n j.1 h b.2)
