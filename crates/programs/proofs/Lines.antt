-- The lines of an input and what is told of them, a line at a time: a loop's steps. Assumes nothing.
use Rattle.std.proofs.Common.{◌≡◌, ℕ, ◌<◌, List, [], ◌∷◌, ◌++◌, length, Some, None, Option, String, IfSome, string_bytes, sym, ap, subst, ◌∙◌, arith}
use Rattle.std.proofs.lemmas.List.{append-nil, append_assoc}
use Rattle.std.proofs.lemmas.List.Elements.{filter_map-append}
use Rattle.std.proofs.lemmas.Grind.{flat_map-append}
use Rattle.std.specs.Io.BufRead.{first_line, DropsThrough}
use Rattle.std.specs.Io.KnownBytes.{Appends, IsAtEnd}
use Rattle.std.specs.List.{AllZip, filter_map}
use Rattle.std.specs.declared.alloc.Global.{Global}
use Rattle.programs.specs.Telling.{Split, text_of, written}

-- `left` is left of the input after `lines`: these and the lines of what is left are all lines
abbrev pub Leaves : Option (List ℕ) → List (List ℕ) → Option (List ℕ) → Type 0
Leaves None lines left = Unit {0}
Leaves (Some xs) lines None = ⊥
Leaves (Some xs) lines (Some ys) = (rest : List (List ℕ)) → Split ys rest → Split xs (lines ++ rest)

-- the line is the first of what is left, and `new` is what is left after it
abbrev pub Takes : Option (List ℕ) → List ℕ → Option (List ℕ) → Type 0
Takes old line new = IfSome old (λ xs. (0 < length xs) × (line ≡ first_line xs)) × DropsThrough old new 10

leaves_all : (input : Option (List ℕ)) → Leaves input [] input
leaves_all None = tt
leaves_all (Some xs) = λ rest s. s

leaves_less : (input old new : Option (List ℕ)) (lines : List (List ℕ)) (line : List ℕ) → Leaves input lines old → Takes old line new → Leaves input (lines ++ (line ∷ [])) new
leaves_less None old new lines line l t = tt
leaves_less (Some xs) None new lines line l t = absurd l
leaves_less (Some xs) (Some ys) new lines line l t =
    subst (Leaves (Some xs) (lines ++ (line ∷ []))) (sym t.1)
    (λ rest s. subst (Split xs) (sym (append_assoc lines (line ∷ []) rest)) (l (line ∷ rest) ((λ e. omega (arith, subst (λ l. 0 < length l) e t.0.0)), t.0.1, s)))

leaves_none : (input left : Option (List ℕ)) (lines : List (List ℕ)) → Leaves input lines left → IsAtEnd left → IfSome input (λ xs. Split xs lines)
leaves_none None left lines l e = tt
leaves_none (Some xs) None lines l e = absurd l
leaves_none (Some xs) (Some ys) lines l e = subst (Split xs) (append-nil lines) (l [] e)

all_zip_push : {A B : Type 0} (R : A → B → Type 0) (xs : List A) (ys : List B) (x : A) (y : B) → AllZip R xs ys → R x y → AllZip R (xs ++ (x ∷ [])) (ys ++ (y ∷ []))
all_zip_push R [] [] x y a r = (r, tt)
all_zip_push R [] (z ∷ ys) x y a r = absurd a
all_zip_push R (z ∷ xs) [] x y a r = absurd a
all_zip_push R (z ∷ xs) (w ∷ ys) x y a r = (a.0, all_zip_push R xs ys x y a.1 r)

appends_none : (o : Option (List ℕ)) → Appends o o []
appends_none None = tt
appends_none (Some xs) = sym (append-nil xs)

pub appends_more : (old mid new : Option (List ℕ)) (bs cs : List ℕ) → Appends old mid bs → Appends mid new cs → Appends old new (bs ++ cs)
appends_more None mid new bs cs a b = tt
appends_more (Some xs) None new bs cs a b = absurd a
appends_more (Some xs) (Some ys) None bs cs a b = absurd b
appends_more (Some xs) (Some ys) (Some zs) bs cs a b = b ∙ ap (λ l. l ++ cs) a ∙ append_assoc xs bs cs

-- what was told so far, where a call of `tell` at a text answers as in R
pub record Told (R : List ℕ → String Global → Type 0) (input left old new : Option (List ℕ)) : Type 0 where
  pub lines : List (List ℕ)
  pub told : List (String Global)
  pub leaves : Leaves input lines left
  pub answers : AllZip R (filter_map text_of lines) told
  pub appends : Appends old new (written told)

module _ (R : List ℕ → String Global → Type 0) (input : Option (List ℕ)) where
  -- nothing, at first
  pub told_none : (old : Option (List ℕ)) → Told R input input old old
  told_none old = record { lines = []; told = []; leaves = leaves_all input; answers = tt; appends = appends_none old }

  -- nothing more, of a line that does not count
  pub told_same : (left left' old new : Option (List ℕ)) (line : List ℕ) → Told R input left old new → Takes left line left' → text_of line ≡ None → Told R input left' old new
  told_same left left' old new line t takes none = record {
    lines = t.lines ++ (line ∷ []);
    told = t.told;
    leaves = leaves_less input left left' t.lines line t.leaves takes;
    answers = subst (λ l. AllZip R l t.told)
        (sym (filter_map-append text_of t.lines (line ∷ []) ∙ ap (λ o. filter_map text_of t.lines ++ filter_map (λ (x : Option (List ℕ)). x) (o ∷ [])) none ∙ append-nil (filter_map text_of t.lines))) t.answers;
    appends = t.appends;
  }

  -- the answer of a line that counts
  pub told_more : (left left' old mid new : Option (List ℕ)) (line text : List ℕ) (answer : String Global) → Told R input left old mid → Takes left line left' → text_of line ≡ Some text → R text answer → Appends mid new (string_bytes answer ++ (10 ∷ [])) → Told R input left' old new
  told_more left left' old mid new line text answer t takes some says adds = record {
    lines = t.lines ++ (line ∷ []);
    told = t.told ++ (answer ∷ []);
    leaves = leaves_less input left left' t.lines line t.leaves takes;
    answers = subst (λ l. AllZip R l (t.told ++ (answer ∷ [])))
        (sym (filter_map-append text_of t.lines (line ∷ []) ∙ ap (λ o. filter_map text_of t.lines ++ filter_map (λ (x : Option (List ℕ)). x) (o ∷ [])) some))
        (all_zip_push R (filter_map text_of t.lines) t.told text answer t.answers says);
    appends = subst (Appends old new) (sym (flat_map-append (λ (s : String Global). string_bytes s ++ (10 ∷ [])) t.told (answer ∷ [])))
        (appends_more old mid new (written t.told) _ t.appends (subst (Appends mid new) (sym (append-nil _)) adds));
  }

  -- all, at the end
  pub told_all : (left old new : Option (List ℕ)) → Told R input left old new → IsAtEnd left → (lines : List (List ℕ)) × (told : List (String Global)) × IfSome input (λ xs. Split xs lines) × AllZip R (filter_map text_of lines) told × Appends old new (written told)
  told_all left old new t end = (t.lines, t.told, leaves_none input left t.lines t.leaves end, t.answers, t.appends)
