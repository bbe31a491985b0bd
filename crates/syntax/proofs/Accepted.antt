-- A table that is written is read, and so reading accepts exactly what is written. Assumes nothing.
use Rattle.std.proofs.Common.{◌≡◌, ℕ, zero, suc, ◌+◌, ◌<◌, ◌≤◌, true, cond, eqb, ltb, List, [], ◌∷◌, ◌++◌, length, get_or, take, drop, Ok, Err, sym, refl, ap, ◌∙◌, subst, arith}
use Rattle.std.specs.List.{AllByRecursion}
use Rattle.std.proofs.ByRecursion.{All-take}
use Rattle.std.proofs.lemmas.Bool.Decides.{nat_tests}
use Rattle.std.proofs.lemmas.List.{append_assoc, append-nil, drop_all}
use Rattle.std.proofs.lemmas.Bool.{lt-ltb, le-ltb, le-leb, cond-true, cond-false}
use Rattle.faults.specs.Causes.{refusal}
use Rattle.faults.specs.declared.cause.Cause.TheVariants.{Malformed, Limit}
use Rattle.values.specs.declared.value.Value.{Value}
use Rattle.values.specs.Types.{code}
use Rattle.values.specs.Bytes.{encoded}
use Rattle.values.specs.Values.{HasType}
use Rattle.syntax.specs.declared.record.Kind.{Kind}
use Rattle.syntax.specs.Answers.{Found, then}
use Rattle.syntax.specs.Parts.{named, value_from, result_to}
use Rattle.syntax.specs.Parsing.{parse}
use Rattle.syntax.specs.Entries.{Entry, kind_of, kind_code, kind_coded, limit, count}
use Rattle.syntax.specs.Entries as entry
use Rattle.syntax.specs.Reading.{many, at_most, body, filled, framed, frame, entry_from, entries, read_table}
use Rattle.syntax.specs.Written.{written, Bounded, placed, joined, payload, inner, write_entry, write, Small, each, placed_payload, placed_entry, AcceptsWritten}
use Rattle.syntax.proofs.SameKind.{kind_back}
use Rattle.syntax.proofs.Stand.{Stands, split, first, front_long, narrowed}
use Rattle.syntax.proofs.Complete.{complete}
use Rattle.syntax.proofs.Whole.{count_push, read_kept}
use Rattle.syntax.proofs.Parts.{type_is, value_is, span_is}
use Rattle.syntax.specs.Passing as passing

each_same : {X : Type 0} (w : X → List ℕ) (at : ℕ) (xs : List X) → each (λ _ x. x) w at xs ≡ xs
each_same w at [] = refl
each_same w at (x ∷ xs) = ap (λ l. x ∷ l) (each_same w (at + length (w x)) xs)

eqb_same : (n : ℕ) → eqb n n ≡ true
eqb_same n = grind (arith, nat_tests)

kept : (at : ℕ) (r : Entry) → kind_of (placed_entry at r) ≡ kind_of r
kept at (entry.channel t) = refl
kept at (entry.stream t vs e) = refl
kept at (entry.rule g es) = refl

module _ (bs : List ℕ) (small : AllByRecursion (λ b. b < 256) bs) where
  many_is : {X : Type 0} (w : X → List ℕ) (place : ℕ → X → X) (L : X → Type 0) (one : ℕ → Found X) → ((x : X) (at n : ℕ) → Stands bs at (w x) n → n ≤ length bs → L x → one at ≡ Ok (place at x, n)) → (xs : List X) (at n : ℕ) → Stands bs at (joined w xs) n → n ≤ length bs → AllByRecursion L xs → many one (length xs) at ≡ Ok (each place w at xs, n)
  unfolding many
  many_is w place L one k [] at n s h l = let e : at ≡ n = (let q = s.next in omega (arith, q)) in ap (λ m. Ok ([], m)) e
  many_is w place L one k (x ∷ xs) at n s h l =
      let p = split (w x) (joined w xs) at n s in
      let q = p.1.next in
      ap (λ f. then f (λ x m. then (many one (length xs) m) (λ ys j. Ok (x ∷ ys, j)))) (k x at (at + length (w x)) p.0 (omega (arith, q)) l.0)
      ∙ ap (λ f. then f (λ ys j. Ok (place at x ∷ ys, j))) (many_is w place L one k xs (at + length (w x)) n p.1 h l.1)

  count_is : (most c at : ℕ) → at < length bs → get_or bs at 0 ≡ c → c ≤ most → at_most most bs at ≡ Ok (c, at + 1)
  count_is most c at h e l = cond-true _ _ _ (lt-ltb at (length bs) h) ∙ cond-true _ _ _ (le-leb (get_or bs at 0) most (omega (arith, e))) ∙ ap (λ x. Ok (x, at + 1)) e

  body_is : (r : Entry) (at n : ℕ) → Stands bs at (payload r) n → n ≤ length bs → Small r → body (kind_of r) bs at ≡ Ok (placed_payload at r, n)
  body_is (entry.channel t) at n s h l =
      let f = first (code t) [] at n s h in
      let q = f.2.next in
      let m : at + 1 ≡ n = omega (arith, q) in
      ap (λ x. then x (λ t n. Ok (entry.channel t, n))) (type_is bs small t at f.0 f.1) ∙ ap (λ m. Ok (entry.channel t, m)) m
  body_is (entry.stream t vs e) at n s h l =
      let f = first (code t) (length vs ∷ (joined encoded vs ++ written e)) at n s h in
      let g = first (length vs) (joined encoded vs ++ written e) (at + 1) n f.2 h in
      let p = split (joined encoded vs) (written e) (at + 1 + 1) n g.2 in
      let q = p.1.next in
      let one : (v : Value) (a m : ℕ) → Stands bs a (encoded v) m → m ≤ length bs → HasType t v → value_from bs t a ≡ Ok (v, m) =
      λ v a m st hm z. subst (λ u. value_from bs u a ≡ Ok (v, m)) z.0 (value_is bs small v a m st hm z.1) in
      let vals = many_is encoded (λ _ v. v) (HasType t) (value_from bs t) one vs (at + 1 + 1) (at + 1 + 1 + length (joined encoded vs)) p.0 (omega (arith, q)) l.1 in
      ap (λ x. then x (λ t l. then (at_most 64 bs l) (λ c m. then (many (value_from bs t) c m) (λ vs n. then (parse 12 bs n) (λ e k. Ok (entry.stream t vs e, k)))))) (type_is bs small t at f.0 f.1)
      ∙ ap (λ x. then x (λ c m. then (many (value_from bs t) c m) (λ vs n. then (parse 12 bs n) (λ e k. Ok (entry.stream t vs e, k))))) (count_is 64 (length vs) (at + 1) g.0 g.1 l.0)
      ∙ ap (λ x. then x (λ vs n. then (parse 12 bs n) (λ e k. Ok (entry.stream t vs e, k)))) (vals ∙ ap (λ xs. Ok (xs, at + 1 + 1 + length (joined encoded vs))) (each_same encoded (at + 1 + 1) vs))
      ∙ ap (λ x. then x (λ e k. Ok (entry.stream t vs e, k))) (complete bs small 12 e (at + 1 + 1 + length (joined encoded vs)) n p.1 h l.2)
  body_is (entry.rule g es) at n s h l =
      let f = first (length es) (written g ++ joined written es) at n s h in
      let p = split (written g) (joined written es) (at + 1) n f.2 in
      let q = p.1.next in
      ap (λ x. then x (λ c m. then (parse 12 bs m) (λ g n. then (many (parse 12 bs) c n) (λ es k. Ok (entry.rule g es, k))))) (count_is 4 (length es) at f.0 f.1 l.0)
      ∙ ap (λ x. then x (λ g n. then (many (parse 12 bs) (length es) n) (λ es k. Ok (entry.rule g es, k)))) (complete bs small 12 g (at + 1) (at + 1 + length (written g)) p.0 (omega (arith, q)) l.1)
      ∙ ap (λ x. then x (λ es k. Ok (entry.rule (placed (at + 1) g) es, k))) (many_is written placed (Bounded 12) (parse 12 bs) (complete bs small 12) es (at + 1 + length (written g)) n p.1 h l.2)

  filled_is : (r : Entry) (at n : ℕ) → Stands bs at (payload r) n → n ≡ length bs → Small r → filled (kind_of r) bs at ≡ Ok (placed_payload at r, n)
  filled_is r at n s e l =
      ap (λ f. then f (λ r n. cond (eqb n (length bs)) (Ok (r, n)) (Err (refusal (Malformed n))))) (body_is r at n s (omega (arith, e)) l)
      ∙ cond-true _ _ _ (ap (λ m. eqb n m) (sym e) ∙ eqb_same n)

counts : (before : List Entry) (r : Entry) (rs : List Entry) (at : ℕ) → ((k : Kind) → count k before + count k (r ∷ rs) ≤ limit k) → (k : Kind) → count k (before ++ (placed_entry at r ∷ [])) + count k rs ≤ limit k
counts before r rs at c k =
    let e = count_push k before (placed_entry at r) in
    let h = c k in
    let z = ap {B = ℕ} (λ x. cond (eqb (kind_code x) (kind_code k)) 1 0) (kept at r) in
    omega (arith, e, h, z)

module _ (bs : List ℕ) (small : AllByRecursion (λ b. b < 256) bs) where
  pub entry_is : (before : List Entry) (r : Entry) (at n : ℕ) → Stands bs at (write_entry r) n → n ≤ length bs → count (kind_of r) before < limit (kind_of r) → Small r → entry_from before bs at ≡ Ok (placed_entry at r, n)
  unfolding entry_from
  entry_is before r at n s h room l =
      let sp = span_is bs small at n (inner r) s h in
      let f3 = first (kind_code (kind_of r)) (payload r) (at + 2) n sp.1 h in
      let q3 = f3.2.next in
      let three : at + 2 + 1 ≡ at + 3 = omega arith in
      let framed_is : frame bs at ≡ Ok (kind_of r, n) =
      ap (λ e. passing.then e (framed bs at)) sp.0
      ∙ cond-true _ _ _ (lt-ltb (at + 2) n (omega (arith, q3))) ∙ ap (λ x. named (kind_coded x) (at + 2) n) f3.1 ∙ ap (λ o. named o (at + 2) n) (kind_back (kind_of r)) in
      let inside = narrowed bs n h (omega arith) (subst (λ x. Stands bs x (payload r) n) three f3.2) in
      ap (λ f. then f (λ k end. cond (ltb (count k before) (limit k)) (result_to bs end (filled k (take end bs) (at + 3))) (Err (refusal (Limit (at + 2)))))) framed_is
      ∙ cond-true _ _ _ (lt-ltb (count (kind_of r) before) (limit (kind_of r)) room)
      ∙ ap (result_to bs n) (filled_is (take n bs) (All-take (λ b. b < 256) n bs small) r (at + 3) n inside (sym (front_long bs n h)) l)

  entries_are : (f : ℕ) (before rs : List Entry) (at : ℕ) → Stands bs at (write rs) (length bs) → length bs ≤ at + f → AllByRecursion Small rs → ((k : Kind) → count k before + count k rs ≤ limit k) → entries f before bs at ≡ Ok (before ++ each placed_entry write_entry at rs)
  unfolding entries
  entries_are zero before [] at s h l c = ap Ok (sym (append-nil before))
  entries_are (suc f) before [] at s h l c = let q = s.next in cond-false _ _ _ (le-ltb at (length bs) (omega (arith, q))) ∙ ap Ok (sym (append-nil before))
  entries_are zero before (r ∷ rs) at s h l c = absurd (let q = s.next in omega (arith, q))
  entries_are (suc f) before (r ∷ rs) at s h l c =
      let p = split (write_entry r) (write rs) at (length bs) s in
      let q = p.1.next in
      let n = at + length (write_entry r) in
      let some = c (kind_of r) in
      let here = eqb_same (kind_code (kind_of r)) in
      let one : ◌≡◌ {A = ℕ} (cond (eqb (kind_code (kind_of r)) (kind_code (kind_of r))) 1 0) 1 = cond-true _ _ _ here in
      let room : count (kind_of r) before < limit (kind_of r) = omega (arith, some, one) in
      cond-true _ _ _ (lt-ltb at (length bs) (omega (arith, q)))
      ∙ ap (λ x. then x (λ r n. entries f (before ++ (r ∷ [])) bs n)) (entry_is before r at n p.0 (omega (arith, q)) room l.0)
      ∙ entries_are f (before ++ (placed_entry at r ∷ [])) rs n p.1 (omega arith) l.1 (counts before r rs at c)
      ∙ ap Ok (append_assoc before (placed_entry at r ∷ []) (each placed_entry write_entry n rs))

  -- what is written so, and keeps the limits, is read, with the places where it stands
  written_read : (rs : List Entry) → bs ≡ 1 ∷ write rs → length bs ≤ 8192 → AllByRecursion Small rs → ((k : Kind) → count k rs ≤ limit k) → read_table bs ≡ Ok (each placed_entry write_entry 1 rs)
  unfolding read_table
  written_read rs e few l c =
      let v : eqb (get_or bs 0 0) 1 ≡ true = ap (λ xs. eqb (get_or xs 0 0) 1) e in
      let last : drop (length bs) bs ≡ [] = drop_all (length bs) bs (omega arith) in
      let here : drop 1 bs ≡ write rs ++ drop (length bs) bs = ap (drop 1) e ∙ sym (append-nil (write rs)) ∙ ap (λ t. write rs ++ t) (sym last) in
      let size : length bs ≡ 1 + length (write rs) = ap length e ∙ omega arith in
      cond-true _ _ _ v ∙ cond-true _ _ _ (le-leb (length bs) 8192 few)
      ∙ entries_are (length bs) [] rs 1 record { here = here; next = size } (omega arith) l (λ k. let h = c k in omega (arith, h))

  pub accepts_written : AcceptsWritten bs
  accepts_written rs = (
    (λ e.
        let k = read_kept bs small rs e in
        let same : Ok (each placed_entry write_entry 1 rs) ≡ Ok rs = sym (written_read rs k.0 k.1 k.2 k.3) ∙ e in
        record { whole = k.0; size = k.1; small = k.2; few = k.3; places = cc }),
    (λ w. written_read rs w.whole w.size w.small w.few ∙ ap Ok w.places),
  )
