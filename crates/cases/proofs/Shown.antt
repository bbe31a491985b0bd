-- What m2 shows of the two streams and of the three. Assumes nothing.
use Rattle.std.proofs.Common.{◌≡◌, ℕ, zero, suc, false, ◌<◌, List, [], ◌∷◌, replicate, Option, Some, refl, sym, ap, subst, ◌∙◌, arith}
use Rattle.values.specs.declared.value.Value.{Value}
use Rattle.values.specs.declared.value.Value.TheVariants.{Bool, Word8, Word64}
use Rattle.syntax.specs.declared.record.Kind.TheVariants.{Channel}
use Rattle.syntax.specs.Entries.{Entry, count}
use Rattle.evaluation.specs.Meaning.{Samples}
use Rattle.equations.specs.Equations.{TypedSamples, OneSet}
use Rattle.equations.specs.Examples.{m3_and_m2, m0_to_m2}
use Rattle.equations.proofs.Examples.{m2_repeats, m2_looks_ahead}
use Rattle.rings.specs.Calls.{OpensRings}
use Rattle.tables.specs.declared.table.Table.{Table}
use Rattle.tables.specs.Tables.{records_of}
use Rattle.engine.specs.Rings.{rings_of, value_at}
use Rattle.cases.specs.Showing.{AddsTick, Shows, m2_repeating, m2_ahead}
use Rattle.cases.proofs.Turns.{set, told, value_is}
use Rattle.cases.proofs.Two.{two}
use Rattle.cases.proofs.Three.{long_word, leads_are}

together : (a b : Option (ℕ × Value)) (ps qs : List (Option (ℕ × Value))) → a ≡ b → ps ≡ qs → a ∷ ps ≡ b ∷ qs
together a b ps qs e f = cc

-- a value that is known, at its index
valued : (n : ℕ) (a : Option (ℕ × Value)) (v w : Value) → a ≡ Some (n, v) → v ≡ w → a ≡ Some (n, w)
valued n a v w e f = e ∙ ap (λ (y : Value). Some (n, y)) f

-- ---- the two streams, with no channel
abbrev Repeats : List Entry → Type 0
Repeats rs =
    (x : Samples) (k : OneSet rs x 4) →
    (k.values 1 0 ≡ Word8 1) × (k.values 1 1 ≡ Word8 2) × (k.values 1 2 ≡ Word8 1) × (k.values 1 3 ≡ Word8 2)

abbrev no_samples : Samples
no_samples n c = Bool false

module _ (t : Table) (is : records_of t ≡ m3_and_m2) where
  untyped : TypedSamples (records_of t) no_samples 4
  untyped n c l h = absurd (omega (arith, h, ap (count Channel) is))

  unsampled : (row : ℕ → Value) (n c : ℕ) → c < count Channel (records_of t) → row c ≡ no_samples n c
  unsampled row n c h = absurd (omega (arith, h, ap (count Channel) is))

  module _ (row : ℕ → Value) (old m0 m1 m2 m3 m4 : List ℕ) (a b c d : Option (ℕ × Value)) where
    pub repeats : OpensRings (rings_of t) old m0 → AddsTick t 0 row m0 m1 → AddsTick t 1 row m1 m2 → AddsTick t 2 row m2 m3 → AddsTick t 3 row m3 m4 →
        Shows t 0 m1 1 a → Shows t 1 m2 1 b → Shows t 2 m3 1 c → Shows t 3 m4 1 d → a ∷ b ∷ c ∷ d ∷ [] ≡ m2_repeating
    repeats opens t0 t1 t2 t3 s0 s1 s2 s3 =
        let next = told t m3_and_m2 is 1 (omega arith) two.lead_m2 no_samples 4 untyped in
        let shown = value_is t m3_and_m2 is 1 (omega arith) two.lead_m2 no_samples 4 untyped in
        let one = set t m3_and_m2 is 1 (omega arith) two.lead_m2 no_samples 4 untyped in
        let h1 = next 0 (omega arith) row (unsampled row 0) m0 m1 t0 (opens.held no_samples) in
        let h2 = next 1 (omega arith) row (unsampled row 1) m1 m2 t1 h1 in
        let h3 = next 2 (omega arith) row (unsampled row 2) m2 m3 t2 h2 in
        let h4 = next 3 (omega arith) row (unsampled row 3) m3 m4 t3 h3 in
        let (v0, v1, v2, v3) = subst Repeats (sym is) m2_repeats no_samples one in
        together a (Some (0, Word8 1)) (b ∷ c ∷ d ∷ []) (Some (1, Word8 2) ∷ Some (2, Word8 1) ∷ Some (3, Word8 2) ∷ []) (valued 0 a (one.values 1 0) (Word8 1) (shown 0 (omega arith) m1 a s0 h1) v0)
        (together b (Some (1, Word8 2)) (c ∷ d ∷ []) (Some (2, Word8 1) ∷ Some (3, Word8 2) ∷ []) (valued 1 b (one.values 1 1) (Word8 2) (shown 1 (omega arith) m2 b s1 h2) v1)
        (together c (Some (2, Word8 1)) (d ∷ []) (Some (3, Word8 2) ∷ []) (valued 2 c (one.values 1 2) (Word8 1) (shown 2 (omega arith) m3 c s2 h3) v2)
        (together d (Some (3, Word8 2)) [] [] (valued 3 d (one.values 1 3) (Word8 2) (shown 3 (omega arith) m4 d s3 h4) v3) refl)))

-- ---- the three streams, on samples of 10 and 20
abbrev Ahead : List Entry → Type 0
Ahead rs = (x : Samples) → x 0 0 ≡ Word64 10 → (k : OneSet rs x 2) → (k.values 2 0 ≡ Word64 4) × (k.values 2 1 ≡ Word64 26)

abbrev samples : Samples
samples zero c = Word64 10
samples (suc n) c = Word64 20

words : TypedSamples m0_to_m2 samples 2
words n (suc c) l h = absurd (omega (arith, h))
words zero zero l h = long_word 10 (omega arith)
words (suc n) zero l h = long_word 20 (omega arith)

module _ (t : Table) (is : records_of t ≡ m0_to_m2) where
  typed : TypedSamples (records_of t) samples 2
  typed = subst (λ (rs : List Entry). TypedSamples rs samples 2) (sym is) words

  sampled : (w : Value) (n : ℕ) → w ≡ samples n 0 → (c : ℕ) → c < count Channel (records_of t) → value_at (replicate 16 w) c ≡ samples n c
  sampled w n e (suc c) h = absurd (omega (arith, h, ap (count Channel) is))
  sampled w zero e zero h = e
  sampled w (suc n) e zero h = e

  module _ (old m0 m1 m2 : List ℕ) (a b : Option (ℕ × Value)) where
    pub looks_ahead : OpensRings (rings_of t) old m0 → AddsTick t 0 (value_at (replicate 16 (Word64 10))) m0 m1 → AddsTick t 1 (value_at (replicate 16 (Word64 20))) m1 m2 →
        Shows t 0 m1 2 a → Shows t 1 m2 2 b → a ∷ b ∷ [] ≡ m2_ahead
    looks_ahead opens t0 t1 s0 s1 =
        let lead = leads_are 2 (omega arith) 2 (omega arith) in
        let next = told t m0_to_m2 is 2 (omega arith) lead samples 2 typed in
        let shown = value_is t m0_to_m2 is 2 (omega arith) lead samples 2 typed in
        let one = set t m0_to_m2 is 2 (omega arith) lead samples 2 typed in
        let h1 = next 0 (omega arith) (value_at (replicate 16 (Word64 10))) (sampled (Word64 10) 0 refl) m0 m1 t0 (opens.held samples) in
        let h2 = next 1 (omega arith) (value_at (replicate 16 (Word64 20))) (sampled (Word64 20) 1 refl) m1 m2 t1 h1 in
        let (v0, v1) = subst Ahead (sym is) m2_looks_ahead samples refl one in
        together a (Some (0, Word64 4)) (b ∷ []) (Some (1, Word64 26) ∷ []) (valued 0 a (one.values 2 0) (Word64 4) (shown 0 (omega arith) m1 a s0 h1) v0)
        (together b (Some (1, Word64 26)) [] [] (valued 1 b (one.values 2 1) (Word64 26) (shown 1 (omega arith) m2 b s1 h2) v1) refl)
