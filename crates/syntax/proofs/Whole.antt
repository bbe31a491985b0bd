-- A table that is read was written so. Assumes nothing.
use Rattle.std.proofs.Common.{◌≡◌, ℕ, zero, suc, ◌+◌, ◌<◌, ◌≤◌, cond, eqb, ltb, leb, List, [], ◌∷◌, ◌++◌, length, get_or, drop, Ok, Err, Result, sym, ap, ◌∙◌, subst, arith}
use Rattle.std.specs.List.{AllByRecursion}
use Rattle.std.proofs.lemmas.List.{append-nil, drop_all, drop_more}
use Rattle.std.proofs.ByRecursion.{All-append}
use Rattle.std.proofs.lemmas.Bool.{ltb-false, leb-true, eqb-true, cond_both}
use Rattle.faults.specs.Causes.{Refusal}
use Rattle.syntax.specs.declared.record.Kind.{Kind}
use Rattle.syntax.specs.declared.record.Kind.TheVariants.{Channel, Stream, Rule}
use Rattle.syntax.specs.Answers.{Found, then}
use Rattle.syntax.specs.Entries.{Entry, kind_of, kind_code, limit, count}
use Rattle.syntax.specs.Reading.{entry_from, entries, read_table}
use Rattle.syntax.specs.Written.{write_entry, write, Small}
use Rattle.syntax.proofs.SameKind.{same_kind}
use Rattle.syntax.proofs.Stand.{Stands, nothing, join, Good, Ends}
use Rattle.syntax.proofs.Records.{RAt, sound_entry}
use Rattle.syntax.proofs.Parts.{joined_push}

ends_then : {X Y : Type 0} (P : X → ℕ → Type 0) (Q : Y → Type 0) (f : Found X) (g : X → ℕ → Result Y Refusal) → Good P f → ((x : X) (n : ℕ) → P x n → Ends Q (g x n)) → Ends Q (then f g)
ends_then P Q (Ok p) g h k = k p.0 p.1 h
ends_then P Q (Err x) g h k = tt

pub count_push : (k : Kind) (rs : List Entry) (r : Entry) → count k (rs ++ (r ∷ [])) ≡ count k rs + cond (eqb (kind_code (kind_of r)) (kind_code k)) 1 0
count_push k [] r = omega arith
count_push k (x ∷ xs) r = let e = count_push k xs r in omega (arith, e)

counted : (rs : List Entry) (r : Entry) → ((k : Kind) → count k rs ≤ limit k) → count (kind_of r) rs < limit (kind_of r) → (k : Kind) → count k (rs ++ (r ∷ [])) ≤ limit k
counted rs r all room k =
    let e = count_push k rs r in
    let at_k : count k rs + cond (eqb (kind_code (kind_of r)) (kind_code k)) 1 0 ≤ limit k =
    cond_both (eqb (kind_code (kind_of r)) (kind_code k)) 1 0 (λ n. count k rs + n ≤ limit k)
    (λ t. let h = subst (λ x. count x rs < limit x) (same_kind (kind_of r) k (eqb-true (kind_code (kind_of r)) (kind_code k) t)) room in omega (arith, h))
    (λ t. let h = all k in omega (arith, h)) in
    omega (arith, e, at_k)

pub nonempty : (bs : List ℕ) → get_or bs 0 0 ≡ 1 → 0 < length bs
nonempty [] v = absurd (omega (arith, v))
nonempty (x ∷ xs) v = omega arith

pub none : (k : Kind) → count k [] ≤ limit k
none Channel = omega arith
none Stream = omega arith
none Rule = omega arith

module _ (bs : List ℕ) (small : AllByRecursion (λ b. b < 256) bs) where
  abbrev pub SoFar : List Entry → ℕ → Type 0
  SoFar rs at = Stands bs 1 (write rs) at × (at ≤ length bs) × AllByRecursion Small rs × ((k : Kind) → count k rs ≤ limit k)

  abbrev AllRead : List Entry → Type 0
  AllRead rs = SoFar rs (length bs)

  pub so_far_more : (before : List Entry) (at : ℕ) (r : Entry) (n : ℕ) → SoFar before at → RAt bs small before at r n → SoFar (before ++ (r ∷ [])) n
  so_far_more before at r n h p = (
    subst (λ ws. Stands bs 1 ws n) (sym (joined_push write_entry before r)) (join h.0 p.0),
    p.1,
    All-append Small before (r ∷ []) h.2 (p.3, tt),
    counted before r h.3 p.4,
  )

  sound_entries : (f : ℕ) (before : List Entry) (at : ℕ) → SoFar before at → length bs ≤ at + f → Ends AllRead (entries f before bs at)
  unfolding entries
  sound_entries zero before at h l = let g = h.1 in let e : at ≡ length bs = omega (arith, g) in subst (SoFar before) e h
  sound_entries (suc f) before at h l =
      cond_both (ltb at (length bs)) (then (entry_from before bs at) (λ r n. entries f (before ++ (r ∷ [])) bs n)) (Ok before) (Ends AllRead)
      (λ b. ends_then (RAt bs small before at) AllRead (entry_from before bs at) _ (sound_entry bs small before at) (λ r n p.
      let past = p.2 in
      sound_entries f (before ++ (r ∷ [])) n
      (so_far_more before at r n h p)
      (omega (arith, past))))
      (λ b. let g = h.1 in let q = ltb-false at (length bs) b in let e : at ≡ length bs = omega (arith, g, q) in subst (SoFar before) e h)

  abbrev pub Kept : List Entry → Type 0
  Kept rs = (bs ≡ 1 ∷ write rs) × (length bs ≤ 8192) × AllByRecursion Small rs × ((k : Kind) → count k rs ≤ limit k)

  whole : (rs : List Entry) → get_or bs 0 0 ≡ 1 → 0 < length bs → AllRead rs → bs ≡ 1 ∷ write rs
  whole rs v some h =
      let last : drop (length bs) bs ≡ [] = drop_all (length bs) bs (omega arith) in
      drop_more bs 0 0 some ∙ (λ i. v i ∷ (h.0.here ∙ ap (λ l. write rs ++ l) last ∙ append-nil (write rs)) i)

  finish : (r : Result (List Entry) Refusal) → get_or bs 0 0 ≡ 1 → 0 < length bs → length bs ≤ 8192 → Ends AllRead r → Ends Kept r
  finish (Ok rs) v some l h = (whole rs v some h, l, h.2, h.3)
  finish (Err x) v some l h = tt

  table_kept : Ends Kept (read_table bs)
  unfolding read_table
  table_kept =
      cond_both (eqb (get_or bs 0 0) 1) _ (Err _) (Ends Kept)
      (λ b. let v = eqb-true (get_or bs 0 0) 1 b in let some = nonempty bs v in
      cond_both (leb (length bs) 8192) (entries (length bs) [] bs 1) (Err _) (Ends Kept)
      (λ l. finish (entries (length bs) [] bs 1) v some (leb-true (length bs) 8192 l) (sound_entries (length bs) [] 1 (nothing 1, omega (arith, some), tt, none) (omega arith)))
      (λ _. tt))
      (λ _. tt)

  -- what is read was written so, and keeps the limits
  pub read_kept : (rs : List Entry) → read_table bs ≡ Ok rs → Kept rs
  read_kept rs e = subst (λ r. Ends Kept r) e table_kept
