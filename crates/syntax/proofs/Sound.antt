-- An expression that is read was written so. Assumes nothing.
use Rattle.std.proofs.Common.{◌≡◌, ℕ, zero, suc, ◌+◌, ◌<◌, ◌≤◌, eqb, ltb, List, [], ◌∷◌, length, get_or, Some, None, Ok, Err, Option, sym, refl, subst, arith}
use Rattle.std.specs.List.{AllByRecursion}
use Rattle.std.proofs.lemmas.Bool.{ltb-true, ltb-false, eqb-false}
use Rattle.values.specs.Types.{code}
use Rattle.values.specs.Values.{type_of, Proper}
use Rattle.values.specs.Bytes.{encoded}
use Rattle.syntax.specs.declared.codes.Op.{Op}
use Rattle.syntax.specs.declared.codes.Op.TheVariants.{Constant, Channel, Stream, Unary, Cast, Binary, Choose}
use Rattle.syntax.specs.declared.tree.Node.{Node}
use Rattle.syntax.specs.declared.tree.Node.TheVariants as node
use Rattle.syntax.specs.Codes.{op_code, unary_code, binary_code, ops, op_coded}
use Rattle.syntax.specs.Trees.{Exp}
use Rattle.syntax.specs.Answers.{Found}
use Rattle.syntax.specs.Parts.{type_from, value_from}
use Rattle.syntax.specs.Heads.{head, after, at_level}
use Rattle.syntax.specs.Parsing.{grown, parse}
use Rattle.syntax.specs.Written.{written, Bounded}
use Rattle.syntax.proofs.Stand.{Stands, byte, join, as_byte, Good, good_then, good_if, good_unless, coded}
use Rattle.syntax.proofs.Parts.{TAt, VAt, sound_type, sound_value}

-- the bytes of a head
abbrev head_bytes : Node → List ℕ
head_bytes (node.Constant v) = 0x01 ∷ (code (type_of v) ∷ encoded v)
head_bytes (node.Channel i) = 0x02 ∷ (i ∷ [])
head_bytes (node.Stream i d) = 0x03 ∷ (i ∷ (d ∷ []))
head_bytes (node.Unary o) = unary_code o ∷ []
head_bytes (node.Cast t) = 0x60 ∷ (code t ∷ [])
head_bytes (node.Binary o) = binary_code o ∷ []
head_bytes node.Choose = 0x50 ∷ []

-- the limits of a head
abbrev Light : Node → Type 0
Light (node.Constant v) = Proper v
Light (node.Channel i) = Unit {0}
Light (node.Stream i d) = d ≤ 63
Light (node.Unary o) = Unit {0}
Light (node.Cast t) = Unit {0}
Light (node.Binary o) = Unit {0}
Light node.Choose = Unit {0}

module _ (bs : List ℕ) (small : AllByRecursion (λ b. b < 256) bs) where
  abbrev HAt : ℕ → Node → ℕ → Type 0
  HAt at x n = Stands bs at (head_bytes x) n × (n ≤ length bs) × Light x

  abbrev pub EAt : ℕ → ℕ → Exp → ℕ → Type 0
  EAt d at e n = Stands bs at (written e) n × (n ≤ length bs) × Bounded d e

  sound_after : (at : ℕ) (o : Op) → at < length bs → get_or bs at 0 ≡ op_code o → Good (HAt at) (after bs at o)
  sound_after at Constant h e =
      good_then (TAt bs small (at + 1)) (HAt at) (type_from bs (at + 1)) _ (sound_type bs small (at + 1)) (λ t n p.
      good_then (VAt bs small t n) (HAt at) (value_from bs t n) _ (sound_value bs small t n) (λ v m q. (
        subst (λ k. Stands bs at (0x01 ∷ (code k ∷ encoded v)) m) (sym q.2.0) (join (as_byte (byte at (omega arith)) e) (join p.0 q.0)),
        q.1,
        q.2.1,
      )))
  sound_after at Channel h e =
      good_if (HAt at) (ltb (at + 1) (length bs)) _ _ (λ b. let g = ltb-true (at + 1) (length bs) b in (
        subst (λ n. Stands bs at (0x02 ∷ (get_or bs (at + 1) 0 ∷ [])) n) (omega arith) (join (as_byte (byte at (omega arith)) e) (byte (at + 1) (omega arith))),
        omega arith,
        tt,
      ))
  sound_after at Stream h e =
      good_if (HAt at) (ltb (at + 1) (length bs)) _ _ (λ b. good_if (HAt at) (ltb (at + 2) (length bs)) _ _ (λ c. let g = ltb-true (at + 2) (length bs) c in
      good_unless (HAt at) (ltb 63 (get_or bs (at + 2) 0)) _ _ (λ f.
      let p1 : at + 1 + 1 ≡ at + 2 = omega arith in
      let p2 : at + 2 + 1 ≡ at + 3 = omega arith in
      let number = subst (λ n. Stands bs (at + 1) (get_or bs (at + 1) 0 ∷ []) n) p1 (byte (at + 1) (omega arith)) in
      let ahead = subst (λ n. Stands bs (at + 2) (get_or bs (at + 2) 0 ∷ []) n) p2 (byte (at + 2) (omega arith)) in
      (join (as_byte (byte at (omega arith)) e) (join number ahead), omega arith, ltb-false 63 (get_or bs (at + 2) 0) f))))
  sound_after at (Unary o) h e = (as_byte (byte at (omega arith)) e, omega arith, tt)
  sound_after at Cast h e =
      good_then (TAt bs small (at + 1)) (HAt at) (type_from bs (at + 1)) _ (sound_type bs small (at + 1)) (λ t n p.
      (join (as_byte (byte at (omega arith)) e) p.0, p.1, tt))
  sound_after at (Binary o) h e = (as_byte (byte at (omega arith)) e, omega arith, tt)
  sound_after at Choose h e = (as_byte (byte at (omega arith)) e, omega arith, tt)

  abbrev OAt : ℕ → ℕ → Op → ℕ → Type 0
  OAt d at o n = (get_or bs at 0 ≡ op_code o) × (0 < d)

  level : (d at : ℕ) (o : Option Op) → ((x : Op) → o ≡ Some x → get_or bs at 0 ≡ op_code x) → Good (OAt d at) (at_level d at o)
  level d at None k = tt
  level d at (Some x) k = good_unless (OAt d at) (eqb d 0) (Ok (x, at)) _ (λ f. let g = eqb-false d 0 f in (k x refl, omega (arith, g)))

  abbrev DAt : ℕ → ℕ → Node → ℕ → Type 0
  DAt d at x n = HAt at x n × (0 < d)

  deepened : (d at : ℕ) (f : Found Node) → 0 < d → Good (HAt at) f → Good (DAt d at) f
  deepened d at (Ok p) h g = (g, h)
  deepened d at (Err x) h g = tt

  sound_head : (d at : ℕ) → Good (DAt d at) (head d bs at)
  unfolding head
  sound_head d at =
      good_if (DAt d at) (ltb at (length bs)) _ _ (λ b.
      good_then (OAt d at) (DAt d at) (at_level d at (op_coded (get_or bs at 0))) _ (level d at (op_coded (get_or bs at 0)) (λ x e. coded op_code ops (get_or bs at 0) x e)) (λ o n h.
      deepened d at (after bs at o) h.1 (sound_after at o (ltb-true at (length bs) b) h.0)))

  sound_grown : (d : ℕ) (sub : ℕ → Found Exp) → ((m : ℕ) → Good (EAt d m) (sub m)) → (at : ℕ) (x : Node) (n : ℕ) → HAt at x n → Good (EAt (suc d) at) (grown sub at x n)
  sound_grown d sub k at (node.Constant v) n h = (h.0, h.1, h.2)
  sound_grown d sub k at (node.Channel i) n h = (h.0, h.1, tt)
  sound_grown d sub k at (node.Stream i x) n h = (h.0, h.1, h.2)
  sound_grown d sub k at (node.Unary o) n h = good_then (EAt d n) (EAt (suc d) at) (sub n) _ (k n) (λ e m g. (join h.0 g.0, g.1, g.2))
  sound_grown d sub k at (node.Cast t) n h = good_then (EAt d n) (EAt (suc d) at) (sub n) _ (k n) (λ e m g. (join h.0 g.0, g.1, g.2))
  sound_grown d sub k at (node.Binary o) n h =
      good_then (EAt d n) (EAt (suc d) at) (sub n) _ (k n) (λ a l f.
      good_then (EAt d l) (EAt (suc d) at) (sub l) _ (k l) (λ b m g. (join h.0 (join f.0 g.0), g.1, (f.2, g.2))))
  sound_grown d sub k at node.Choose n h =
      good_then (EAt d n) (EAt (suc d) at) (sub n) _ (k n) (λ a l f.
      good_then (EAt d l) (EAt (suc d) at) (sub l) _ (k l) (λ b m g.
      good_then (EAt d m) (EAt (suc d) at) (sub m) _ (k m) (λ c r i. (join h.0 (join f.0 (join g.0 i.0)), i.1, (f.2, g.2, i.2)))))

  pub sound : (d at : ℕ) → Good (EAt d at) (parse d bs at)
  unfolding parse
  sound zero at = good_then (DAt zero at) (EAt zero at) (head zero bs at) _ (sound_head zero at) (λ x n h. absurd (let z = h.1 in omega (arith, z)))
  sound (suc d) at = good_then (DAt (suc d) at) (EAt (suc d) at) (head (suc d) bs at) _ (sound_head (suc d) at) (λ x n h. sound_grown d (parse d bs) (sound d) at x n h.0)
