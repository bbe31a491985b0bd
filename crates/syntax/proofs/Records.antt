-- Records that are read were written so. Assumes nothing.
use Rattle.std.proofs.Common.{◌≡◌, ℕ, zero, suc, ◌+◌, ◌<◌, ◌≤◌, eqb, ltb, leb, List, [], ◌∷◌, ◌++◌, length, get_or, take, sym, refl, ap, ◌∙◌, subst, arith}
use Rattle.std.specs.List.{AllByRecursion}
use Rattle.std.proofs.ByRecursion.{All-take}
use Rattle.std.proofs.lemmas.Bool.{ltb-true, leb-true, eqb-true}
use Rattle.values.specs.Types.{code}
use Rattle.values.specs.Bytes.{encoded}
use Rattle.values.specs.Values.{HasType}
use Rattle.syntax.specs.declared.record.Kind.{Kind}
use Rattle.syntax.specs.declared.record.Kind.TheVariants.{Channel, Stream, Rule}
use Rattle.syntax.specs.Answers.{Found}
use Rattle.syntax.specs.Parts.{type_from, value_from, end_of, span}
use Rattle.syntax.specs.Parsing.{parse}
use Rattle.syntax.specs.Entries.{Entry, kind_of, kind_code, kind_coded, limit, count}
use Rattle.syntax.specs.Reading.{many, at_most, body, filled, frame, entry_from}
use Rattle.syntax.specs.Written.{written, Bounded, joined, payload, inner, write_entry, Small}
use Rattle.syntax.proofs.Stand.{Stands, nothing, byte, join, as_byte, front_long, widened, Good, good_then, good_if, good_weaker, ends_to, good_named, coded, good_after}
use Rattle.syntax.proofs.Sound.{EAt, sound}
use Rattle.syntax.proofs.Parts.{TAt, SAt, sound_type, sound_value, sound_span, sized_stands}

module _ (bs : List ℕ) (small : AllByRecursion (λ b. b < 256) bs) where
  abbrev XAt : {X : Type 0} → (X → List ℕ) → (X → Type 0) → ℕ → X → ℕ → Type 0
  XAt w L at x n = Stands bs at (w x) n × (n ≤ length bs) × L x

  abbrev MAt : {X : Type 0} → (X → List ℕ) → (X → Type 0) → ℕ → ℕ → List X → ℕ → Type 0
  MAt w L k at xs n = Stands bs at (joined w xs) n × (n ≤ length bs) × (length xs ≡ k) × AllByRecursion L xs

  sound_many : {X : Type 0} (w : X → List ℕ) (L : X → Type 0) (one : ℕ → Found X) → ((m : ℕ) → Good (XAt w L m) (one m)) → (k at : ℕ) → at ≤ length bs → Good (MAt w L k at) (many one k at)
  unfolding many
  sound_many w L one s zero at h = (nothing at, h, refl, tt)
  sound_many w L one s (suc k) at h =
      good_then (XAt w L at) (MAt w L (suc k) at) (one at) _ (s at) (λ x n p.
      good_then (MAt w L k n) (MAt w L (suc k) at) (many one k n) _ (sound_many w L one s k n p.1) (λ xs m q.
      (join p.0 q.0, q.1, ap suc q.2, (p.2, q.3))))

  abbrev CAt : ℕ → ℕ → ℕ → ℕ → Type 0
  CAt most at c n = Stands bs at (c ∷ []) n × (n ≤ length bs) × (c ≤ most)

  sound_count : (most at : ℕ) → Good (CAt most at) (at_most most bs at)
  sound_count most at =
      good_if (CAt most at) (ltb at (length bs)) _ _ (λ b. let h = ltb-true at (length bs) b in
      good_if (CAt most at) (leb (get_or bs at 0) most) _ _ (λ g. (byte at (omega arith), omega arith, leb-true (get_or bs at 0) most g)))

  abbrev pub BAt : Kind → ℕ → Entry → ℕ → Type 0
  BAt k at r n = Stands bs at (payload r) n × (n ≤ length bs) × Small r × (kind_of r ≡ k)

  sound_body : (k : Kind) (at : ℕ) → Good (BAt k at) (body k bs at)
  sound_body Channel at = good_then (TAt bs small at) (BAt Channel at) (type_from bs at) _ (sound_type bs small at) (λ t n p. (p.0, p.1, tt, refl))
  sound_body Stream at =
      good_then (TAt bs small at) (BAt Stream at) (type_from bs at) _ (sound_type bs small at) (λ t l p.
      good_then (CAt 64 l) (BAt Stream at) (at_most 64 bs l) _ (sound_count 64 l) (λ c m q.
      good_then (MAt encoded (HasType t) c m) (BAt Stream at) (many (value_from bs t) c m) _ (sound_many encoded (HasType t) (value_from bs t) (sound_value bs small t) c m q.1) (λ vs n g.
      good_then (EAt bs small 12 n) (BAt Stream at) (parse 12 bs n) _ (sound bs small 12 n) (λ e k h. (
        subst (λ j. Stands bs at (code t ∷ (j ∷ (joined encoded vs ++ written e))) k) (sym g.2) (join p.0 (join q.0 (join g.0 h.0))),
        h.1,
        (let z = q.2 in omega (arith, g.2, z), g.3, h.2),
        refl,
      )))))
  sound_body Rule at =
      good_then (CAt 4 at) (BAt Rule at) (at_most 4 bs at) _ (sound_count 4 at) (λ c m q.
      good_then (EAt bs small 12 m) (BAt Rule at) (parse 12 bs m) _ (sound bs small 12 m) (λ e n h.
      good_then (MAt written (Bounded 12) c n) (BAt Rule at) (many (parse 12 bs) c n) _ (sound_many written (Bounded 12) (parse 12 bs) (sound bs small 12) c n h.1) (λ es k g. (
        subst (λ j. Stands bs at (j ∷ (written e ++ joined written es)) k) (sym g.2) (join q.0 (join h.0 g.0)),
        g.1,
        (let z = q.2 in omega (arith, g.2, z), h.2, g.3),
        refl,
      ))))

  abbrev pub WAt : Kind → ℕ → Entry → ℕ → Type 0
  WAt k at r n = Stands bs at (payload r) n × (n ≡ length bs) × Small r × (kind_of r ≡ k)

  pub sound_filled : (k : Kind) (at : ℕ) → Good (WAt k at) (filled k bs at)
  sound_filled k at =
      good_then (BAt k at) (WAt k at) (body k bs at) _ (sound_body k at) (λ r n p.
      good_if (WAt k at) (eqb n (length bs)) _ _ (λ same. (p.0, eqb-true n (length bs) same, p.2, p.3)))

module _ (bs : List ℕ) (small : AllByRecursion (λ b. b < 256) bs) where
  abbrev FAt : ℕ → Kind → ℕ → Type 0
  FAt at k end = SAt bs at end × (at + 2 < end) × (get_or bs (at + 2) 0 ≡ kind_code k)

  sound_frame : (at : ℕ) → Good (FAt at) (frame bs at)
  sound_frame at =
      good_after (SAt bs at) (FAt at) (span bs at) _ (sound_span bs at) (λ end s.
      good_if (FAt at) (ltb (at + 2) end) _ _ (λ f.
      good_named (FAt at) (kind_coded (get_or bs (at + 2) 0)) (at + 2) end (λ k e.
      (s, ltb-true (at + 2) end f, coded kind_code (Channel ∷ Stream ∷ Rule ∷ []) (get_or bs (at + 2) 0) k e))))

  -- length, kind and what follows stand as the record is written
  entry_stands : (at end : ℕ) (k : Kind) (r : Entry) → FAt at k end → Stands bs (at + 3) (payload r) end → kind_of r ≡ k → Stands bs at (write_entry r) end
  entry_stands at end k r f p e =
      let h0 = f.1 in let h1 = f.0.1 in
      let e2 : at + 2 + 1 ≡ at + 3 = omega arith in
      let kind = subst (λ n. Stands bs (at + 2) (kind_code (kind_of r) ∷ []) n) e2 (as_byte (byte (at + 2) (omega (arith, h0, h1))) (f.2 ∙ ap kind_code (sym e))) in
      sized_stands bs small at end (inner r) f.0 (join kind p)

  abbrev pub RAt : List Entry → ℕ → Entry → ℕ → Type 0
  RAt before at r n = Stands bs at (write_entry r) n × (n ≤ length bs) × (n ≡ end_of bs at) × Small r × (count (kind_of r) before < limit (kind_of r))

  pub sound_entry : (before : List Entry) (at : ℕ) → Good (RAt before at) (entry_from before bs at)
  unfolding entry_from
  sound_entry before at =
      good_then (FAt at) (RAt before at) (frame bs at) _ (sound_frame at) (λ k end f.
      let part = take end bs in
      let byte_part = All-take (λ b. b < 256) end bs small in
      good_if (RAt before at) (ltb (count k before) (limit k)) _ _ (λ room.
      ends_to (λ p. RAt before at p.0 p.1) bs end (filled k part (at + 3)) (good_weaker (WAt part byte_part k (at + 3)) (RAt before at) (filled k part (at + 3)) (sound_filled part byte_part k (at + 3)) (λ r n p.
      let z : n ≡ end = p.1 ∙ front_long bs end f.0.1 in
      let inside = widened bs end f.0.1 (omega (arith, z)) p.0 in
      let h0 = f.1 in (
        subst (λ x. Stands bs at (write_entry r) x) (sym z) (entry_stands at end k r f (subst (λ x. Stands bs (at + 3) (payload r) x) z inside) p.3),
        omega (arith, f.0.1, z),
        z ∙ f.0.2,
        p.2,
        subst (λ x. count x before < limit x) (sym p.3) (ltb-true (count k before) (limit k) room),
      )))))
