-- The bytes up to the record that is refused and the next one's length decide the refusal. Assumes nothing.
use Rattle.std.proofs.Common.{◌≡◌, ℕ, zero, suc, ◌+◌, ◌<◌, ◌≤◌, cond, ltb, List, [], ◌∷◌, ◌++◌, length, get_or, take, drop, Some, None, Ok, Err, Option, Result, sym, refl, ap, ◌∙◌, subst, arith, ⊎_elim}
use Rattle.std.specs.List.{AllByRecursion}
use Rattle.std.proofs.ByRecursion.{All-take}
use Rattle.std.proofs.lemmas.List.{append_assoc, length-append, drop_more, take_at}
use Rattle.std.proofs.lemmas.Bool.{cases_lt, lt-ltb, le-ltb, cond-true, cond-false}
use Rattle.faults.specs.Causes.{Refusal, refusal}
use Rattle.faults.specs.declared.cause.Cause.TheVariants.{Malformed, Limit}
use Rattle.syntax.specs.declared.record.Kind.{Kind}
use Rattle.syntax.specs.Answers.{Found, then}
use Rattle.syntax.specs.Parts.{named, end_of, span, result_to}
use Rattle.syntax.specs.Passing as passing
use Rattle.syntax.specs.Entries.{Entry, kind_coded, limit, count}
use Rattle.syntax.specs.Reading.{filled, framed, entry_from, entries, read_table}
use Rattle.syntax.specs.Refusing.{IsSameTo, RefusesRecord, RefusesAlike}
use Rattle.syntax.specs.Written.{joined, write_entry, write, Small, each, placed_entry}
use Rattle.syntax.proofs.Stand.{nothing, Good, Ends}
use Rattle.syntax.proofs.Parts.{SAt, sound_span}
use Rattle.syntax.proofs.Records.{RAt, sound_entry}
use Rattle.syntax.proofs.Same.{byte_same, front_same, same_less, span_same, result_same}
use Rattle.syntax.proofs.Turns.{table_is}
use Rattle.syntax.proofs.Whole.{SoFar, so_far_more, none, nonempty}
use Rattle.syntax.proofs.Accepted.{entry_is, accepts_written}

-- what follows a frame
abbrev inside : List Entry → List ℕ → ℕ → Kind → ℕ → Found Entry
inside before bs at k end = cond (ltb (count k before) (limit k)) (result_to bs end (filled k (take end bs) (at + 3))) (Err (refusal (Limit (at + 2))))

-- what follows a name is the same, where it is the same of each that it may give
after_named : {X Y : Type 0} (o : Option X) (at end : ℕ) (f g : X → ℕ → Found Y) → ((x : X) → f x end ≡ g x end) → then (named o at end) f ≡ then (named o at end) g
after_named None at end f g k = refl
after_named (Some x) at end f g k = k x

module _ (bs other : List ℕ) (before : List Entry) (at : ℕ) (same : IsSameTo (end_of bs at + 2) bs other) where
  inside_same : (k : Kind) (end : ℕ) → end ≡ end_of bs at → inside before other at k end ≡ inside before bs at k end
  inside_same k end e =
      ap (λ r. cond (ltb (count k before) (limit k)) r (Err (refusal (Limit (at + 2)))))
      (ap (λ l. result_to other end (filled k l (at + 3))) (front_same same end (omega arith)) ∙ result_same same end (filled k (take end bs) (at + 3)) (omega arith))

  framed_same : (end : ℕ) → end ≡ end_of bs at → then (framed other at end) (inside before other at) ≡ then (framed bs at end) (inside before bs at)
  framed_same end e =
      ⊎_elim
      (λ (h : at + 2 < end).
      let t = lt-ltb (at + 2) end h in
      ap (λ f. then f (inside before other at)) (cond-true _ _ _ t ∙ ap (λ b. named (kind_coded b) (at + 2) end) (byte_same same (at + 2) (omega arith)))
      ∙ after_named (kind_coded (get_or bs (at + 2) 0)) (at + 2) end (inside before other at) (inside before bs at) (λ k. inside_same k end e)
      ∙ ap (λ f. then f (inside before bs at)) (sym (cond-true _ _ _ t)))
      (λ (h : end ≤ at + 2).
      let t = le-ltb (at + 2) end h in
      ap (λ f. then f (inside before other at)) (cond-false _ _ _ t) ∙ ap (λ f. then f (inside before bs at)) (sym (cond-false _ _ _ t)))
      (cases_lt (at + 2) end)

  spanned_same : (r : Result ℕ Refusal) → Ends (SAt bs at) r
      → then (passing.then r (framed other at)) (inside before other at) ≡ then (passing.then r (framed bs at)) (inside before bs at)
  spanned_same (Ok end) s = framed_same end s.2
  spanned_same (Err x) s = refl

  pub entry_same : entry_from before other at ≡ entry_from before bs at
  unfolding entry_from
  entry_same =
      ap (λ s. then (passing.then s (framed other at)) (inside before other at)) (span_same same at (omega arith))
      ∙ spanned_same (span bs at) (sound_span bs at)

each_push : {X : Type 0} (place : ℕ → X → X) (w : X → List ℕ) (at : ℕ) (xs : List X) (x : X) → each place w at (xs ++ (x ∷ [])) ≡ each place w at xs ++ (place (at + length (joined w xs)) x ∷ [])
each_push place w at [] x = ap (λ a. place a x ∷ []) (omega arith)
each_push place w at (y ∷ ys) x =
    let e : at + length (w y) + length (joined w ys) ≡ at + length (w y ++ joined w ys) = omega (arith, length-append (w y) (joined w ys)) in
    ap (λ l. place at y ∷ l) (each_push place w (at + length (w y)) ys x ∙ ap (λ a. each place w (at + length (w y)) ys ++ (place a x ∷ [])) e)

module _ (bs : List ℕ) (small : AllByRecursion (λ b. b < 256) bs) where
  -- the records before one that is refused, and where it starts
  record Refused (from : ℕ) (f : ℕ) (before : List Entry) (r : Refusal) : Type 0 where
    rs : List Entry
    start : ℕ
    on : from ≤ start
    so_far : SoFar bs small rs start
    places : each placed_entry write_entry 1 rs ≡ rs
    alike : (other : List ℕ) → IsSameTo (end_of bs start + 2) bs other → entries f before other from ≡ Err r

  module _ (f : ℕ) (before : List Entry) (at : ℕ) (r : Refusal) (here : SoFar bs small before at) (placed : each placed_entry write_entry 1 before ≡ before) (more : at < length bs) where
    turn_same : (other : List ℕ) (found : Found Entry) → IsSameTo (end_of bs at + 2) bs other → entry_from before bs at ≡ found
        → cond (ltb at (length other)) (then (entry_from before other at) (λ r n. entries f (before ++ (r ∷ [])) other n)) (Ok before) ≡ then found (λ r n. entries f (before ++ (r ∷ [])) other n)
    turn_same other found same e =
        let l = same.size in
        cond-true _ _ _ (lt-ltb at (length other) (omega arith)) ∙ ap (λ x. then x (λ r n. entries f (before ++ (r ∷ [])) other n)) (entry_same bs other before at same ∙ e)

    refused_turn : (found : Found Entry) → entry_from before bs at ≡ found → Good (RAt bs small before at) found
        → ((x : Entry) (n : ℕ) → SoFar bs small (before ++ (x ∷ [])) n → each placed_entry write_entry 1 (before ++ (x ∷ [])) ≡ before ++ (x ∷ []) → entries f (before ++ (x ∷ [])) bs n ≡ Err r → Refused n f (before ++ (x ∷ [])) r)
        → then found (λ r n. entries f (before ++ (r ∷ [])) bs n) ≡ Err r → Refused at (suc f) before r
    unfolding entries
    refused_turn (Err x) is g next e =
        record { rs = before; start = at; on = omega arith; so_far = here; places = placed; alike = λ other same. turn_same other (Err x) same is ∙ e }
    refused_turn (Ok p) is g next e =
        let x = p.0 in
        let n = p.1 in
        let own : ◌≡◌ {A = Found Entry} (Ok (placed_entry at x, n)) (Ok (x, n)) = sym (entry_is bs small before x at n g.0 g.1 g.4 g.3) ∙ is in
        let own_place : placed_entry at x ≡ x = cc in
        let s = here.0.next in
        let places =
        each_push placed_entry write_entry 1 before x ∙ (λ i. placed i ++ (placed_entry ((sym s) i) x ∷ [])) ∙ ap (λ y. before ++ (y ∷ [])) own_place in
        let after = next x n (so_far_more bs small before at x n here g) places e in
        let end = g.2 in
        let on = after.on in
        record {
          rs = after.rs;
          start = after.start;
          on = omega arith;
          so_far = after.so_far;
          places = after.places;
          alike = λ other same. turn_same other (Ok p) (same_less same (end_of bs at + 2) (omega arith)) is ∙ after.alike other same;
        }

  refused_entries : (f : ℕ) (before : List Entry) (at : ℕ) (r : Refusal) → SoFar bs small before at → each placed_entry write_entry 1 before ≡ before → entries f before bs at ≡ Err r → Refused at f before r
  unfolding entries
  refused_entries zero before at r here placed e = absurd (cc)
  refused_entries (suc f) before at r here placed e =
      ⊎_elim
      (λ (h : at < length bs).
      refused_turn f before at r here placed h (entry_from before bs at) refl (sound_entry bs small before at) (λ x n. refused_entries f (before ++ (x ∷ [])) n r)
      (sym (cond-true _ _ _ (lt-ltb at (length bs) h)) ∙ e))
      (λ (h : length bs ≤ at). let z : Ok before ≡ Err r = sym (cond-false _ _ _ (le-ltb at (length bs) h)) ∙ e in absurd (cc))
      (cases_lt at (length bs))

  pub refuses_alike : RefusesAlike bs
  refuses_alike r version size e =
      let some = nonempty bs version in
      let is = refused_entries (length bs) [] 1 r (nothing 1, omega (arith, some), tt, none) refl (sym (table_is bs version size) ∙ e) in
      let next = is.so_far.0.next in
      let inside = is.so_far.1 in
      let start : take (1 + length (write is.rs)) bs ≡ 1 ∷ write is.rs =
      ap (take (1 + length (write is.rs))) (drop_more bs 0 0 some ∙ (λ i. version i ∷ is.so_far.0.here i))
      ∙ take_at (1 ∷ write is.rs) (drop is.start bs) (1 + length (write is.rs)) (omega arith) in
      let bytes : AllByRecursion (λ b. b < 256) (1 ∷ write is.rs) = subst (AllByRecursion (λ b. b < 256)) start (All-take (λ b. b < 256) (1 + length (write is.rs)) bs small) in
      record {
        before = is.rs;
        read = (accepts_written (1 ∷ write is.rs) bytes is.rs).1 record { whole = refl; size = omega arith; small = is.so_far.2; few = is.so_far.3; places = is.places };
        start = start;
        alike =
            λ other same.
            let l = same.size in
            table_is other (byte_same same 0 (omega arith) ∙ version) (omega arith) ∙ ap (λ n. entries n [] other 1) l
            ∙ is.alike other (subst (λ s. IsSameTo (end_of bs s + 2) bs other) (sym next) same);
      }
