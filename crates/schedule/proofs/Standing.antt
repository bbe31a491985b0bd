-- The references of a table in order stand between records that it has. Assumes nothing.
use Rattle.std.proofs.Common.{◌≡◌, ℕ, zero, suc, ◌+◌, ◌<◌, ◌≤◌, Bool, true, false, cond, eqb, List, [], ◌∷◌, ◌++◌, map, Ok, Err, sym, refl, ap, ◌∙◌, arith}
use Rattle.std.specs.List.{AllByRecursion}
use Rattle.std.proofs.ByRecursion.{All-append, All-weaker}
use Rattle.std.proofs.lemmas.List.{append_assoc}
use Rattle.std.proofs.lemmas.Bool.{ltb-true, eq-eqb}
use Rattle.syntax.specs.declared.record.Kind.{Kind}
use Rattle.syntax.specs.declared.record.Kind.TheVariants.{Channel, Stream}
use Rattle.syntax.specs.Entries.{Entry, kind_of, kind_code, count}
use Rattle.syntax.specs.Entries as entry
use Rattle.syntax.specs.Passing.{Passed, every, then}
use Rattle.syntax.specs.Trees.{Exp}
use Rattle.syntax.specs.Trees as tree
use Rattle.syntax.specs.Written.{Bounded, Small}
use Rattle.names.specs.declared.uses.Name.{Name}
use Rattle.names.specs.declared.uses.Name.TheVariants as name
use Rattle.names.specs.Uses.{Use, uses, gathered, uses_of, uses_in}
use Rattle.names.specs.Declaring.{declares, named}
use Rattle.references.specs.declared.reference.Id.{Id}
use Rattle.references.specs.References.{refer_name, refer, id_after, references}
use Rattle.schedule.specs.Edges.{InOrder, Valid, Stands, Opens, Orderly}

-- ---- lists
all_front : {X : Type 0} (P : X → Type 0) (xs ys : List X) → AllByRecursion P (xs ++ ys) → AllByRecursion P xs
all_front P [] ys all = tt
all_front P (x ∷ xs) ys all = (all.0, all_front P xs ys all.1)

all_back : {X : Type 0} (P : X → Type 0) (xs ys : List X) → AllByRecursion P (xs ++ ys) → AllByRecursion P ys
all_back P [] ys all = all
all_back P (x ∷ xs) ys all = all_back P xs ys all.1

all_both : {X : Type 0} (P Q : X → Type 0) (xs : List X) → AllByRecursion P xs → AllByRecursion Q xs → AllByRecursion (λ x. P x × Q x) xs
all_both P Q [] p q = tt
all_both P Q (x ∷ xs) p q = ((p.0, q.0), all_both P Q xs p.1 q.1)

every_all : {X : Type 0} (f : X → Passed) (xs : List X) → every f xs ≡ Ok tt → AllByRecursion (λ x. f x ≡ Ok tt) xs
every_all f [] e = tt
every_all f (x ∷ xs) e = go (f x) refl e (every_all f xs)
  where
    go : (o : Passed) → f x ≡ o → then o (λ _. every f xs) ≡ Ok tt → (every f xs ≡ Ok tt → AllByRecursion (λ y. f y ≡ Ok tt) xs) → AllByRecursion (λ y. f y ≡ Ok tt) (x ∷ xs)
    go (Ok u) is h rest = (is, rest h)
    go (Err c) is h rest = absurd (let q : ◌≡◌ {A = ℕ} 0 1 = cc in omega arith)

-- ---- what is used
-- no drop is above 63
abbrev Close : Name → Type 0
Close (name.Channel i) = Unit {0}
Close (name.Stream i d) = d ≤ 63

abbrev CloseUse : Use → Type 0
CloseUse u = Close u.name

uses_close : (d : ℕ) (e : Exp) → Bounded d e → AllByRecursion CloseUse (uses e)
uses_close zero e b = absurd b
uses_close (suc d) (tree.constant at v) b = tt
uses_close (suc d) (tree.channel at i) b = (tt, tt)
uses_close (suc d) (tree.stream at i x) b = (b, tt)
uses_close (suc d) (tree.unary at o e) b = uses_close d e b
uses_close (suc d) (tree.cast at t e) b = uses_close d e b
uses_close (suc d) (tree.binary at o l r) b = All-append CloseUse (uses l) (uses r) (uses_close d l b.0) (uses_close d r b.1)
uses_close (suc d) (tree.choose at t y n) b =
    All-append CloseUse (uses t) (uses y ++ uses n) (uses_close d t b.0)
    (All-append CloseUse (uses y) (uses n) (uses_close d y b.1) (uses_close d n b.2))

gathered_close : (es : List Exp) → AllByRecursion (Bounded 12) es → AllByRecursion CloseUse (gathered uses es)
gathered_close [] b = tt
gathered_close (e ∷ es) b = All-append CloseUse (uses e) (gathered uses es) (uses_close 12 e b.0) (gathered_close es b.1)

close_of : (r : Entry) → Small r → AllByRecursion CloseUse (uses_of r)
close_of (entry.channel t) s = tt
close_of (entry.stream t vs e) s = uses_close 12 e s.2
close_of (entry.rule g es) s = All-append CloseUse (uses g) (gathered uses es) (uses_close 12 g s.1) (gathered_close es s.2)

named_declares : (channels streams : ℕ) (u : Use) → named channels streams u ≡ Ok tt → declares channels streams u.name ≡ true
named_declares channels streams u e = go (declares channels streams u.name) refl
  where
    go : (b : Bool) → declares channels streams u.name ≡ b → declares channels streams u.name ≡ true
    go true is = is
    go false is = absurd (let q : ◌≡◌ {A = ℕ} 0 1 = cc in omega arith)

-- ---- a reference
pub count_append : (k : Kind) (xs ys : List Entry) → count k (xs ++ ys) ≡ count k xs + count k ys
count_append k [] ys = omega arith
count_append k (x ∷ xs) ys = omega (arith, count_append k xs ys)

module _ (whole : List Entry) where
  abbrev Known : Use → Type 0
  Known u = named (count Channel whole) (count Stream whole) u ≡ Ok tt

  refers : (id : Id) (n : Name) → Valid whole id → ¬ (id.kind ≡ Channel) → declares (count Channel whole) (count Stream whole) n ≡ true → Close n → Stands whole (refer_name id n)
  refers id (name.Channel i) valid reads declared close = record {
    reader = valid;
    read = ltb-true i (count Channel whole) declared;
    reads = reads;
    no_rule = λ e. absurd (let q : ◌≡◌ {A = ℕ} 0 1 = cc in omega arith);
    near = omega arith;
  }
  refers id (name.Stream i d) valid reads declared close = record {
    reader = valid;
    read = ltb-true i (count Stream whole) declared;
    reads = reads;
    no_rule = λ e. absurd (let q : ◌≡◌ {A = ℕ} 0 1 = cc in omega arith);
    near = close;
  }

  refers_all : (id : Id) (us : List Use) → Valid whole id → ¬ (id.kind ≡ Channel) → AllByRecursion Known us → AllByRecursion CloseUse us → AllByRecursion (Stands whole) (map (refer id) us)
  refers_all id [] valid reads known close = tt
  refers_all id (u ∷ us) valid reads known close = (
    refers id u.name valid reads (named_declares (count Channel whole) (count Stream whole) u known.0) close.0,
    refers_all id us valid reads known.1 close.1,
  )

  counted_here : (before rest : List Entry) (r : Entry) → whole ≡ before ++ (r ∷ rest) → Valid whole (id_after before r)
  counted_here before rest r is =
      let one : ◌≡◌ {A = ℕ} (cond (eqb (kind_code (kind_of r)) (kind_code (kind_of r))) 1 0) 1 = ap (λ b. cond b 1 0) (eq-eqb (kind_code (kind_of r)) (kind_code (kind_of r)) refl) in
      let less : count (kind_of r) before < count (kind_of r) whole = omega (arith, ap (count (kind_of r)) is, count_append (kind_of r) before (r ∷ rest)) in
      less

  entry_stands : (id : Id) (r : Entry) → id.kind ≡ kind_of r → Valid whole id → AllByRecursion Known (uses_of r) → Small r → AllByRecursion (Stands whole) (map (refer id) (uses_of r))
  entry_stands id (entry.channel t) kind valid known small = tt
  entry_stands id (entry.stream t vs e) kind valid known small =
      refers_all id (uses e) valid (λ q. absurd (let z : ◌≡◌ {A = ℕ} 0 1 = cc in omega arith)) known (close_of (entry.stream t vs e) small)
  entry_stands id (entry.rule g es) kind valid known small =
      refers_all id (uses g ++ gathered uses es) valid (λ q. absurd (let z : ◌≡◌ {A = ℕ} 0 1 = cc in omega arith)) known (close_of (entry.rule g es) small)

  stand_from : (before rest : List Entry) → whole ≡ before ++ rest → AllByRecursion Known (uses_in rest) → AllByRecursion Small rest → AllByRecursion (Stands whole) (references before rest)
  stand_from before [] is known small = tt
  stand_from before (r ∷ rest) is known small = All-append (Stands whole) (map (refer (id_after before r)) (uses_of r)) (references (before ++ (r ∷ [])) rest)
      (entry_stands (id_after before r) r refl (counted_here before rest r is) (all_front Known (uses_of r) (uses_in rest) known) small.0)
      (stand_from (before ++ (r ∷ [])) rest (is ∙ sym (append_assoc before (r ∷ []) rest)) (all_back Known (uses_of r) (uses_in rest) known) small.1)

-- records in order are orderly
pub orderly : (rs : List Entry) → InOrder rs → Orderly rs
orderly rs o = record {
  few = o.few;
  opens = All-weaker Small Opens opens_few rs o.small;
  stand = stand_from rs [] rs refl (every_all (named (count Channel rs) (count Stream rs)) (uses_in rs) o.named) o.small;
}
  where
    opens_few : (r : Entry) → Small r → Opens r
    opens_few (entry.channel t) s = omega arith
    opens_few (entry.stream t vs e) s = s.0
    opens_few (entry.rule g es) s = omega arith
