-- What is told of records by their ids, and that a node's id is the one that it comes from. Assumes nothing.
use Rattle.std.proofs.Common.{◌≡◌, ℕ, zero, suc, ◌+◌, ◌-◌, ◌<◌, ◌≤◌, eqb, cond, Bool, true, false, List, [], ◌∷◌, map, length, get_or, Some, None, Option, unwrap_or, refl, sym, ap, ◌∙◌, arith}
use Rattle.std.specs.List.{AllByRecursion, slice_get}
use Rattle.std.specs.Option.{option_map}
use Rattle.std.proofs.lemmas.Bool.{le-ltb, cond-false}
use Rattle.std.proofs.lemmas.Bool.Decides.{nat_tests}
use Rattle.std.proofs.lemmas.Option.{slice_get-get_or}
use Rattle.std.proofs.lemmas.List.{get_or-map, length-map}
use Rattle.syntax.specs.declared.record.Record.{Record}
use Rattle.syntax.specs.declared.record.Kind.{Kind}
use Rattle.syntax.specs.declared.record.Kind.TheVariants.{Channel, Stream, Rule}
use Rattle.syntax.specs.Entries.{Entry, entry_of, kind_of, kind_code, count}
use Rattle.syntax.specs.Entries as entry
use Rattle.references.specs.declared.reference.Id.{Id}
use Rattle.references.specs.References.{position}
use Rattle.schedule.specs.Graphs.{opening_count, record_at, openings, number_of}
use Rattle.schedule.specs.Edges.{Opens, Orderly, id_by, id_at, described, no_node}

-- no record has more than 64 opening values
pub openings_few : (rs : List Entry) (id : Id) → AllByRecursion Opens rs → openings rs id ≤ 64
unfolding openings
openings_few rs id all = go (position id.kind id.number rs)
  where
    at : (ts : List Entry) → AllByRecursion Opens ts → (n : ℕ) → opening_count (slice_get ts n) ≤ 64
    at [] all n = omega arith
    at (r ∷ ts) all zero = all.0
    at (r ∷ ts) all (suc n) = at ts all.1 n

    go : (o : Option ℕ) → opening_count (record_at rs o) ≤ 64
    go None = omega arith
    go (Some n) = at rs all n

-- a record that was found has the count of opening values that its id has
pub openings_found : (xs : List Record) (id : Id) (i : ℕ) (x : Record) → Some i ≡ position id.kind id.number (map entry_of xs) → i < length xs → x ≡ get_or xs i x →
    opening_count (Some (entry_of x)) ≡ openings (map entry_of xs) id
unfolding openings
openings_found xs id i x found l is =
    let at : slice_get (map entry_of xs) i ≡ Some (entry_of x) =
    slice_get-get_or (map entry_of xs) i (entry_of x) (omega (arith, length-map xs entry_of)) ∙ ap Some (get_or-map entry_of xs i x (entry_of x) l ∙ ap entry_of (sym is)) in
    sym (ap (λ o. opening_count (record_at (map entry_of xs) o)) (sym found) ∙ ap opening_count at)

-- ---- a node that no record has
-- where there are not so many of a kind, none has the number
module _ (k : Kind) where
  next_absent : (n : ℕ) (rs : List Entry) (same none : Bool) → eqb n 0 ≡ none → cond same 1 0 + count k rs ≤ n → ((m : ℕ) → count k rs ≤ m → position k m rs ≡ None) →
      cond same (cond none (Some 0) (option_map (λ m. m + 1) (position k (n - 1) rs))) (option_map (λ m. m + 1) (position k n rs)) ≡ None
  next_absent n rs true true e few so = absurd (grind (arith, nat_tests))
  next_absent n rs true false e few so = ap (option_map (λ m. m + 1)) (so (n - 1) (omega arith))
  next_absent n rs false none e few so = ap (option_map (λ m. m + 1)) (so n (omega arith))

  absent : (n : ℕ) (rs : List Entry) → count k rs ≤ n → position k n rs ≡ None
  absent n [] few = refl
  absent n (r ∷ rs) few = next_absent n rs (eqb (kind_code (kind_of r)) (kind_code k)) (eqb n 0) refl few (λ m l. absent m rs l)

all_counted : (rs : List Entry) → count Channel rs + count Stream rs + count Rule rs ≡ length rs
all_counted [] = refl
all_counted (entry.channel t ∷ rs) = omega (arith, all_counted rs)
all_counted (entry.stream t vs e ∷ rs) = omega (arith, all_counted rs)
all_counted (entry.rule g es ∷ rs) = omega (arith, all_counted rs)

pub few_records : (rs : List Entry) → Orderly rs → length rs ≤ 64
few_records rs o = omega (arith, all_counted rs, o.few Channel, o.few Stream, o.few Rule)

pub beyond : (rs : List Entry) (m : ℕ) → length rs ≤ m → described rs (id_at rs m) ≡ no_node
unfolding id_at number_of openings
beyond rs m many =
    let c = count Channel rs in
    let s = count Stream rs in
    let id : id_by c s m ≡ record { kind = Rule; number = m - (c + s) } =
    cond-false _ _ _ (le-ltb m c (omega (arith, all_counted rs))) ∙ cond-false _ _ _ (le-ltb m (c + s) (omega (arith, all_counted rs))) in
    let none = absent Rule (m - (c + s)) rs (omega (arith, all_counted rs)) in
    ap (described rs) id ∙ (λ i. record { number = unwrap_or (none i) 0; opening = opening_count (record_at rs (none i)) })
