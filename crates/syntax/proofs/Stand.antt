-- Bytes that stand at a place, and what holds of a part that was found. Assumes nothing.
use Rattle.std.proofs.Common.{◌≡◌, ℕ, ◌+◌, ◌-◌, ◌<◌, ◌≤◌, Bool, true, false, cond, eqb, List, [], ◌∷◌, ◌++◌, length, get_or, take, drop, Some, None, Ok, Err, Option, sym, refl, ap, ◌∙◌, subst, arith, Result}
use Rattle.std.proofs.lemmas.List.{append_assoc, drop_more, drop-drop, drop_at, drop-append-le, take_at, take-append-drop, length-take-le, length-drop, length-append}
use Rattle.std.proofs.lemmas.Bool.{cond_both, eqb-true}
use Rattle.faults.specs.Causes.{Refusal}
use Rattle.values.specs.Types.{first_coded}
use Rattle.syntax.specs.Answers.{Found, then}
use Rattle.syntax.specs.Parts.{named, result_to}
use Rattle.syntax.specs.Passing as passing

-- ws stands at a place, and n is the place after it
pub record Stands (bs : List ℕ) (at : ℕ) (ws : List ℕ) (n : ℕ) : Type 0 where
  pub here : drop at bs ≡ ws ++ drop n bs
  pub next : n ≡ at + length ws

module _ {bs : List ℕ} where
  pub nothing : (at : ℕ) → Stands bs at [] at
  nothing at = record { here = refl; next = omega arith }

  pub byte : (at : ℕ) → at < length bs → Stands bs at (get_or bs at 0 ∷ []) (at + 1)
  byte at h = record { here = drop_more bs at 0 h; next = omega arith }

  pub join : {u v : List ℕ} {a b c : ℕ} → Stands bs a u b → Stands bs b v c → Stands bs a (u ++ v) c
  join {u} {v} {a} {b} {c} p q =
      let e = p.next in let f = q.next in
      record { here = p.here ∙ ap (λ l. u ++ l) q.here ∙ sym (append_assoc u v (drop c bs)); next = omega (arith, length-append u v) }

  pub chunk : (at k : ℕ) → at + k ≤ length bs → Stands bs at (take k (drop at bs)) (at + k)
  chunk at k h =
      record {
        here = sym (take-append-drop k (drop at bs)) ∙ ap (λ l. take k (drop at bs) ++ l) (drop-drop k at bs);
        next = omega (arith, length-take-le k (drop at bs) (omega (arith, length-drop at bs)));
      }

  pub as_byte : {at n b : ℕ} → Stands bs at (get_or bs at 0 ∷ []) n → get_or bs at 0 ≡ b → Stands bs at (b ∷ []) n
  as_byte {at} {n} p e = subst (λ x. Stands bs at (x ∷ []) n) e p

  -- the first of two lists that stand together, and the second
  pub split : (u v : List ℕ) (a c : ℕ) → Stands bs a (u ++ v) c → Stands bs a u (a + length u) × Stands bs (a + length u) v c
  split u v a c s =
      let e = s.next in
      let rest : drop (a + length u) bs ≡ v ++ drop c bs =
      sym (drop-drop (length u) a bs) ∙ ap (drop (length u)) (s.here ∙ append_assoc u v (drop c bs)) ∙ drop_at u (v ++ drop c bs) (length u) refl in (
        record { here = s.here ∙ append_assoc u v (drop c bs) ∙ ap (λ l. u ++ l) (sym rest); next = refl },
        record { here = rest; next = omega (arith, length-append u v, e) },
      )

  pub first : (b : ℕ) (ws : List ℕ) (a c : ℕ) → Stands bs a (b ∷ ws) c → c ≤ length bs → (a < length bs) × (get_or bs a 0 ≡ b) × Stands bs (a + 1) ws c
  first b ws a c s h =
      let e = s.next in
      let lt : a < length bs = omega arith in
      let m : get_or bs a 0 ∷ drop (a + 1) bs ≡ b ∷ (ws ++ drop c bs) = sym (drop_more bs a 0 (omega arith)) ∙ s.here in
      (lt, (cc), record { here = (cc); next = omega arith })

-- a front of the bytes, up to a record's end
module _ (bs : List ℕ) (end : ℕ) (long : end ≤ length bs) where
  pub front_long : length (take end bs) ≡ end
  front_long = length-take-le end bs long

  apart : (at : ℕ) → at ≤ end → drop at bs ≡ drop at (take end bs) ++ drop end bs
  apart at h =
      let l = front_long in
      ap (drop at) (sym (take-append-drop end bs)) ∙ drop-append-le at (take end bs) (drop end bs) (omega arith)

  -- what stands in the front stands in the whole
  pub widened : {at n : ℕ} {ws : List ℕ} → n ≤ end → Stands (take end bs) at ws n → Stands bs at ws n
  widened {at} {n} {ws} h s =
      let e = s.next in
      record {
        here =
            apart at (omega (arith, e)) ∙ ap (λ l. l ++ drop end bs) s.here ∙ append_assoc ws (drop n (take end bs)) (drop end bs)
            ∙ ap (λ l. ws ++ l) (sym (apart n h));
        next = e;
      }

  -- and the other way, where it ends in the front
  pub narrowed : {at n : ℕ} {ws : List ℕ} → n ≤ end → Stands bs at ws n → Stands (take end bs) at ws n
  narrowed {at} {n} {ws} h s =
      let e = s.next in
      let l = front_long in
      let x = drop at (take end bs) in
      let y = ws ++ drop n (take end bs) in
      let tail = drop end bs in
      let same : x ++ tail ≡ y ++ tail =
      sym (apart at (omega (arith, e))) ∙ s.here ∙ ap (λ r. ws ++ r) (apart n h) ∙ sym (append_assoc ws (drop n (take end bs)) tail) in
      let long_x : length x ≡ end - at = omega (arith, length-drop at (take end bs), l) in
      let long_y : length y ≡ end - at = omega (arith, length-append ws (drop n (take end bs)), length-drop n (take end bs), l, e) in
      record { here = sym (take_at x tail (end - at) long_x) ∙ ap (take (end - at)) same ∙ take_at y tail (end - at) long_y; next = e }

-- Q of what reading ends with
abbrev pub Ends : {Y : Type 0} → (Y → Type 0) → Result Y Refusal → Type 0
Ends Q (Ok y) = Q y
Ends Q (Err x) = Unit {0}

-- P of what was found
abbrev pub Good : {X : Type 0} → (X → ℕ → Type 0) → Found X → Type 0
Good P r = Ends (λ p. P p.0 p.1) r

-- also where the lower refusal comes first
pub ends_to : {Y : Type 0} (Q : Y → Type 0) (bs : List ℕ) (end : ℕ) (r : Result Y Refusal) → Ends Q r → Ends Q (result_to bs end r)
ends_to Q bs end (Ok y) h = h
ends_to Q bs end (Err x) h = tt

pub good_then : {X Y : Type 0} (P : X → ℕ → Type 0) (Q : Y → ℕ → Type 0) (f : Found X) (g : X → ℕ → Found Y) → Good P f → ((x : X) (n : ℕ) → P x n → Good Q (g x n)) → Good Q (then f g)
good_then P Q (Ok p) g h k = k p.0 p.1 h
good_then P Q (Err x) g h k = tt

-- what passes a test
pub good_if : {X : Type 0} (P : X → ℕ → Type 0) (b : Bool) (f : Found X) (x : Refusal) → (b ≡ true → Good P f) → Good P (cond b f (Err x))
good_if P b f x h = cond_both b f (Err x) (Good P) h (λ _. tt)

pub good_unless : {X : Type 0} (P : X → ℕ → Type 0) (b : Bool) (f : Found X) (x : Refusal) → (b ≡ false → Good P f) → Good P (cond b (Err x) f)
good_unless P b f x h = cond_both b (Err x) f (Good P) (λ _. tt) h

pub good_weaker : {X : Type 0} (P Q : X → ℕ → Type 0) (f : Found X) → Good P f → ((x : X) (n : ℕ) → P x n → Q x n) → Good Q f
good_weaker P Q (Ok p) h k = k p.0 p.1 h
good_weaker P Q (Err x) h k = tt

pub good_named : {X : Type 0} (P : X → ℕ → Type 0) (o : Option X) (at next : ℕ) → ((x : X) → o ≡ Some x → P x next) → Good P (named o at next)
good_named P None at next k = tt
good_named P (Some x) at next k = k x refl

-- what a code names has that code
pub coded : {X : Type 0} (f : X → ℕ) (xs : List X) (n : ℕ) (x : X) → first_coded f xs n ≡ Some x → n ≡ f x
coded f [] n x e = absurd (let z : ◌≡◌ {A = ℕ} 0 1 = cc in omega arith)
coded f (y ∷ ys) n x e =
    cond_both (eqb n (f y)) (Some y) (first_coded f ys n) (λ o. o ≡ Some x → n ≡ f x)
    (λ t e. eqb-true n (f y) t ∙ ap f (cc))
    (λ t e. coded f ys n x e)
    e

-- what follows a part that was found without a place
pub good_after : {X Y : Type 0} (P : X → Type 0) (Q : Y → ℕ → Type 0) (r : Result X Refusal) (g : X → Found Y) → Ends P r → ((x : X) → P x → Good Q (g x)) → Good Q (passing.then r g)
good_after P Q (Ok x) g h k = k x h
good_after P Q (Err c) g h k = tt
