-- What `try_for_each` gives is the first refusal of several parts, by number and place. Assumes nothing.
use Rattle.std.proofs.Common.{◌≡◌, Option, Some, None, List, [], ◌∷◌, map, Result, Ok, Err, IsErr, IsErrAnd, Iter, Bor, sym, ap, ◌∙◌, subst}
use Rattle.std.specs.Fn.{Mut, Called}
use Rattle.std.specs.Iterator.{AlwaysYields, Yields, TryCallsOnEach, TryForEachTurn}
use Rattle.std.specs.List.{FoldsTo}
use Rattle.std.specs.Option.{MatchOption}
use Rattle.std.specs.Slice.Iter.{iter_rest}
use Rattle.std.specs.Result.{result_from_control_flow}
use Rattle.std.specs.declared.ops.ControlFlow.{ControlFlow}
use Rattle.std.specs.declared.ops.ControlFlow.TheVariants.{Continue, Break}
use Rattle.std.proofs.iter.Yields.{fronts, slice_gives}
use Rattle.std.proofs.lemmas.Result.{err_from_is_err_and}
use Rattle.faults.specs.declared.cause.Cause.{Cause}
use Rattle.faults.specs.Causes.{by_number}
use Rattle.syntax.specs.Passing.{Passed, then, every}

-- nothing, or a cause
abbrev Answer : Type 0
Answer = Result (Unit {0}) Cause

-- over any iterator, where `?` takes answers apart and puts refusals together as it does for a `Result`
module _ {S A E F X Y : Type 0} (steps : S → Option A → S → Type 0) (v : A → X) (g : Mut F (A × Unit {0}) Answer) (f : Y → Passed) (h : X → Y) (c : F)
    (calls : (x : A) (r : Answer) (d : F) → Called g c (x, tt) r d → (d ≡ c) × (by_number r ≡ f (h (v x))))
    (branches : Answer → ControlFlow E (Unit {0}) → Type 0) (resumes : E → Answer → Type 0)
    (goes : (r : Answer) → branches r (Continue tt) → r ≡ Ok tt)
    (stops : (r p : Answer) (e : E) → branches p (Break e) → resumes e r → (r ≡ p) × ((q : Passed) → then (by_number p) (λ _. q) ≡ by_number p)) where
  every_called : (ys : List X) (s : S) → AlwaysYields steps v s ys → (xs : List A) (o : Option A) (d : F) (t u : S) (r : Answer) → Yields steps s xs t → steps t o u → FoldsTo (TryForEachTurn g branches) c xs d
      → MatchOption o (branches r (Continue tt)) (λ x. (p : Answer) × (j : F) × (e : E) × Called g d (x, tt) p j × branches p (Break e) × resumes e r)
      → by_number r ≡ every f (map h ys)
  every_called [] s a [] None d t u r y z k m = ap by_number (goes r m)
  every_called [] s a [] (Some x) d t u r y z k m = absurd (a x u (subst (λ i. steps i (Some x) u) (sym y) z))
  every_called [] s a (x ∷ xs) o d t u r y z k m = absurd (a x y.0 y.1)
  every_called (w ∷ ys) s a [] None d t u r y z k m = absurd (a.0 u (subst (λ i. steps i None u) (sym y) z))
  every_called (w ∷ ys) s a [] (Some x) d t u r y z k m =
      let at = a.1 x u (subst (λ i. steps i (Some x) u) (sym y) z) in
      let one = calls x m.0 m.1 (subst (λ i. Called g i (x, tt) m.0 m.1) (sym k) m.3) in
      let stop = stops r m.0 m.2 m.4 m.5 in
      ap by_number stop.0 ∙ sym (stop.1 (every f (map h ys))) ∙ ap (λ p. then p (λ _. every f (map h ys))) (one.1 ∙ ap (λ i. f (h i)) at.0)
  every_called (w ∷ ys) s a (x ∷ xs) o d t u r y z k m =
      let at = a.1 x y.0 y.1 in
      let one = calls x k.1.0 k.0 k.1.1 in
      every_called ys y.0 at.1 xs o d t u r y.2 z (subst (λ i. FoldsTo (TryForEachTurn g branches) i xs d) one.0 k.2) m
      ∙ ap (λ p. then p (λ _. every f (map h ys))) (ap by_number (sym (goes k.1.0 k.1.2)) ∙ one.1 ∙ ap (λ i. f (h i)) at.0)

-- over the elements of a slice
pub every_from_try_for_each : {F X Y : Type 0} {g : Mut F (Bor X × Unit {0}) Answer} (f : Y → Passed) (h : X → Y) (xs : List X) {c : F} {s u : Iter X} (r : Answer)
    → TryCallsOnEach fronts g (λ p b. p ≡ result_from_control_flow b) (λ e p. IsErr p × IsErrAnd p (λ y. y ≡ e.0)) s c r u
    → iter_rest s ≡ xs
    → ((x : Bor X) (p : Answer) (d : F) → Called g c (x, tt) p d → (d ≡ c) × (by_number p ≡ f (h x.now)))
    → by_number r ≡ every f (map h xs)
every_from_try_for_each {g = g} f h xs {c = c} {s = s} {u = u} r ran from calls =
    every_called fronts (λ y. y.now) g f h c calls (λ p b. p ≡ result_from_control_flow b) (λ e p. IsErr p × IsErrAnd p (λ y. y ≡ e.0)) (λ p k. k)
    (λ q p e b t. let i = err_from_is_err_and q t.1 in (i.1 ∙ ap Err i.2 ∙ sym b, λ z. ap (λ j. then (by_number j) (λ _. z)) b ∙ sym (ap by_number b)))
    s.rest.now s (slice_gives s) ran.0 ran.1 ran.2 ran.3.0 u r ran.3.1 ran.3.2 ran.4 ran.5
    ∙ ap (λ l. every f (map h l)) from
