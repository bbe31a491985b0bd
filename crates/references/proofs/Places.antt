-- Where a record stands: the record at a number among those of a kind, and that it is the one with the id. Assumes nothing.
use Rattle.std.proofs.Common.{◌≡◌, ℕ, zero, suc, ◌+◌, ◌-◌, Bool, true, false, cond, eqb, List, [], ◌∷◌, map, take, Some, None, Option, sym, refl, ap, ◌∙◌, subst, zero-add, add-one, arith}
use Rattle.std.specs.Option.{option_map}
use Rattle.std.specs.List.{slice_get, filter, enumerate_from}
use Rattle.std.proofs.lemmas.Bool.{eqb-true, cond-true, cond-false}
use Rattle.std.proofs.lemmas.Bool.Decides.{nat_tests}
use Rattle.syntax.specs.declared.record.Kind.{Kind}
use Rattle.syntax.specs.declared.record.Record.{Record}
use Rattle.syntax.specs.Entries.{Entry, entry_of, kind_of, kind_code, count}
use Rattle.syntax.proofs.SameKind.{same_kind}
use Rattle.references.specs.declared.reference.Id.{Id}
use Rattle.references.specs.References.{position, TellsPlace}

number_of : {X Y : Type 0} (v : X → Y) (o : Option (ℕ × X)) → option_map (λ r. r.0) (option_map {U = ℕ × Y} (λ r. (r.0, v r.1)) o) ≡ option_map (λ r. r.0) o
number_of v None = refl
number_of v (Some r) = refl

unmoved : (o : Option ℕ) → option_map (λ m. m + 0) o ≡ o
unmoved None = refl
unmoved (Some m) = let e : m + 0 ≡ m = omega arith in ap Some e

-- one record further on
further : (j : ℕ) (o : Option ℕ) → option_map (λ m. m + (j + 1)) o ≡ option_map (λ m. m + j) (option_map (λ m. m + 1) o)
further j None = refl
further j (Some m) = let e : m + (j + 1) ≡ m + 1 + j = omega arith in ap Some e

-- among the records of a kind, with their numbers from j on, the one at n
module _ (k : Kind) where
  abbrev pub of_kind : Record → Bool
  of_kind r = eqb (kind_code (kind_of (entry_of r))) (kind_code k)

  abbrev At : ℕ → List (ℕ × Record) → Option ℕ
  At n rs = option_map (λ r. r.0) (slice_get rs n)

  abbrev Stands : ℕ → ℕ → List Record → Type 0
  Stands n j rs = At n (filter (λ r. of_kind r.1) (enumerate_from j rs)) ≡ option_map (λ m. m + j) (position k n (map entry_of rs))

  step : (n j : ℕ) (r : Record) (rs : List Record) (b : Bool) → ((m : ℕ) → Stands m (j + 1) rs) → At n (cond b ((j, r) ∷ filter (λ r. of_kind r.1) (enumerate_from (j + 1) rs)) (filter (λ r. of_kind r.1) (enumerate_from (j + 1) rs))) ≡ option_map (λ m. m + j) (cond b (cond (eqb n 0) (Some 0) (option_map (λ m. m + 1) (position k (n - 1) (map entry_of rs)))) (option_map (λ m. m + 1) (position k n (map entry_of rs))))
  step zero j r rs true so = ap Some (sym (zero-add j))
  step (suc n) j r rs true so =
      let e : false ≡ eqb (suc n) 0 = grind (arith, nat_tests) in
      let d : n ≡ suc n - 1 = omega arith in
      so n ∙ further j (position k n (map entry_of rs))
      ∙ ap (λ b. option_map (λ m. m + j) (cond b (Some 0) (option_map (λ m. m + 1) (position k n (map entry_of rs))))) e
      ∙ ap (λ i. option_map (λ m. m + j) (cond (eqb (suc n) 0) (Some 0) (option_map (λ m. m + 1) (position k i (map entry_of rs))))) d
  step n j r rs false so = so n ∙ further j (position k n (map entry_of rs))

  pub nth_of_kind : (rs : List Record) (n j : ℕ) → Stands n j rs
  nth_of_kind [] n j = refl
  nth_of_kind (r ∷ rs) n j = step n j r rs (of_kind r) (λ m. nth_of_kind rs m (j + 1))

-- a record put in front, that counts for w
module _ (k : Kind) (w m n : ℕ) (r : Entry) (rs : List Entry) (one : cond (eqb (kind_code (kind_of r)) (kind_code k)) 1 0 ≡ w) (sum : w + m ≡ n) where
  moved : (o : Option ℕ) → TellsPlace rs record { kind = k; number = m } o → TellsPlace (r ∷ rs) record { kind = k; number = n } (option_map (λ j. j + 1) o)
  moved None h = omega arith
  moved (Some j) s =
      let next = add-one j in
      let in_it = s.inside in
      let count_is = s.before in
      record {
        inside = omega arith;
        here = (s.here.0, ap (λ a. slice_get (r ∷ rs) a) next ∙ s.here.1, s.here.2);
        before = ap (λ a. count k (take a (r ∷ rs))) next ∙ omega arith;
      }

module _ (k : Kind) (n : ℕ) (r : Entry) (rs : List Entry) (so : (m : ℕ) → TellsPlace rs record { kind = k; number = m } (position k m rs)) where
  first : (same none : Bool) → eqb (kind_code (kind_of r)) (kind_code k) ≡ same → eqb n 0 ≡ none → TellsPlace (r ∷ rs) record { kind = k; number = n } (cond same (cond none (Some 0) (option_map (λ m. m + 1) (position k (n - 1) rs))) (option_map (λ m. m + 1) (position k n rs)))
  first true true s z =
      let e : 0 ≡ n = grind (arith, nat_tests) in
      record { inside = omega arith; here = (r, refl, same_kind (kind_of r) k (eqb-true _ _ s)); before = e }
  first true false s z =
      let e : 1 + (n - 1) ≡ n = grind (arith, nat_tests) in
      moved k 1 (n - 1) n r rs (cond-true _ _ _ s) e (position k (n - 1) rs) (so (n - 1))
  first false none s z = moved k 0 n n r rs (cond-false _ _ _ s) (zero-add n) (position k n rs) (so n)

tells_place : (k : Kind) (n : ℕ) (entries : List Entry) → TellsPlace entries record { kind = k; number = n } (position k n entries)
tells_place k n [] = omega arith
tells_place k n (r ∷ rs) =
    first k n r rs (λ m. tells_place k m rs) (eqb (kind_code (kind_of r)) (kind_code k)) (eqb n 0) refl refl

pub told : (entries : List Entry) (id : Id) (o : Option ℕ) → o ≡ position id.kind id.number entries → TellsPlace entries id o
told entries id o e = subst (TellsPlace entries id) (sym e) (tells_place id.kind id.number entries)

-- the number of the record that the chain of `enumerate`, `filter` and `nth` gives
pub numbered : {X : Type 0} (v : X → Record) (k : Kind) (n : ℕ) (rs : List Record) (o : Option (ℕ × X)) → option_map (λ r. (r.0, v r.1)) o ≡ slice_get (filter (λ r. of_kind k r.1) (enumerate_from 0 rs)) n → option_map (λ r. r.0) o ≡ position k n (map entry_of rs)
numbered v k n rs o e = sym (number_of v o) ∙ ap (option_map (λ r. r.0)) e ∙ nth_of_kind k rs n 0 ∙ unmoved (position k n (map entry_of rs))
