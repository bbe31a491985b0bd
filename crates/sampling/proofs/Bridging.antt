-- What holds show of a value and dark latches after it. Assumes nothing.
use Rattle.std.proofs.Common.{◌≡◌, ℕ, zero, suc, ◌+◌, ◌-◌, min, cond, List, [], ◌∷◌, ◌++◌, replicate, Some, None, Option, sym, refl, ap, ◌∙◌, arith}
use Rattle.std.proofs.lemmas.Bool.{ne_eqb}
use Rattle.std.proofs.lemmas.List.{append_assoc, replicate-append-replicate}
use Rattle.values.specs.declared.value.Value.{Value}
use Rattle.sampling.specs.declared.channel.ChannelRecord.{ChannelRecord}
use Rattle.sampling.specs.Holds.{unread, after}
use Rattle.sampling.specs.Watching.{shown_for}

-- what a hold that bridges so many latches shows of one channel, latch by latch, where the channel reads this below
abbrev pub shows : ℕ → ChannelRecord → List (Option Value) → List (Option Value)
shows bridges r [] = []
shows bridges r (o ∷ os) = (after bridges r o).last ∷ shows bridges (after bridges r o) os

-- the record of a channel that is shown for so many more latches
abbrev kept : Value → ℕ → ChannelRecord
kept v c = record { last = Some v; left = c }

-- so many times the value, and then nothing
abbrev lit_dark : Value → ℕ → ℕ → List (Option Value)
lit_dark v p q = replicate p (Some v) ++ replicate q None

same : (v : Value) {p p' q q' : ℕ} → p ≡ p' → q ≡ q' → lit_dark v p q ≡ lit_dark v p' q'
same v e f = λ i. lit_dark v (e i) (f i)

module _ (b : ℕ) where
  -- with no value kept
  dark : (m : ℕ) → shows b unread (replicate m None) ≡ replicate m None
  dark zero = refl
  dark (suc m) = ap (λ t. None ∷ t) (dark m)

  module _ (v : Value) where
    -- m dark latches, of which c more are bridged
    dark_run : (m c : ℕ) → shows b (kept v c) (replicate m None) ≡ lit_dark v (min m c) (m - c)
    dark_run zero c =
        let e : 0 ≡ min 0 c = omega arith in
        let f : 0 ≡ 0 - c = omega arith in
        same v e f
    dark_run (suc m) zero =
        let e : 0 ≡ min (suc m) 0 = omega arith in
        let f : suc m ≡ suc m - 0 = omega arith in
        ap (λ t. None ∷ t) (dark m) ∙ same v e f
    dark_run (suc m) (suc c) =
        let n : suc c - 1 ≡ c = omega arith in
        let e : suc (min m c) ≡ min (suc m) (suc c) = omega arith in
        let f : m - c ≡ suc m - suc c = omega arith in
        (λ i. go (cond (ne_eqb (suc c) 0 (λ z. omega (arith, z)) i) unread (kept v (suc c - 1))))
        ∙ ap (λ t. Some v ∷ t) (ap (λ x. shows b (kept v x) (replicate m None)) n ∙ dark_run m c) ∙ same v e f where
          go : ChannelRecord → List (Option Value)
          go r = r.last ∷ shows b r (replicate m None)

    -- latches at which the value is read again
    lit_run : (p : ℕ) (os : List (Option Value)) → shows b (kept v b) (replicate p (Some v) ++ os) ≡ replicate p (Some v) ++ shows b (kept v b) os
    lit_run zero os = refl
    lit_run (suc p) os = ap (λ t. Some v ∷ t) (lit_run p os)

    -- a hold over what bridges n latches bridges b more
    pub over_run : (r : ChannelRecord) (n m : ℕ) → shows b r (shown_for n v m) ≡ shown_for (b + n) v m
    over_run r n m =
        let p = min m n in
        let q = m - n in
        let e : p + min q b ≡ min m (b + n) = omega arith in
        let f : q - b ≡ m - (b + n) = omega arith in
        ap (λ t. Some v ∷ t)
        (lit_run p (replicate q None) ∙ ap (λ t. replicate p (Some v) ++ t) (dark_run q b)
        ∙ sym (append_assoc (replicate p (Some v)) (replicate (min q b) (Some v)) (replicate (q - b) None))
        ∙ ap (λ t. t ++ replicate (q - b) None) (replicate-append-replicate p (min q b) (Some v))
        ∙ same v e f)

-- with nothing bridged yet
pub plain : (v : Value) (m : ℕ) → Some v ∷ replicate m None ≡ shown_for 0 v m
plain v m =
    let e : 0 ≡ min m 0 = omega arith in
    let f : m ≡ m - 0 = omega arith in
    ap (λ t. Some v ∷ t) (same v e f)
