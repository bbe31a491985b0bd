-- Walks put together and cut, and what leads say of one reference. Assumes nothing.
use Rattle.std.proofs.Common.{◌≡◌, ℕ, zero, suc, ◌+◌, ◌≤◌, List, [], ◌∷◌, ◌++◌, length, ℤ, ◌+ℤ◌, ◌≤ℤ◌, sym, refl, ap, subst, inl, inr, suc-add, zero-add, arith}
use Rattle.std.specs.List.{AllByRecursion}
use Rattle.std.proofs.lemmas.Int.{ints}
use Rattle.walks.specs.Walks.{Graph, In, Walk, weigh, at, Lead}

pub all_in : {R : Type 0} (P : R → Type 0) (g : List R) (r : R) → AllByRecursion P g → In r g → P r
all_in P [] r all m = absurd m
all_in P (x ∷ g) r all (inl e) = subst P e all.0
all_in P (x ∷ g) r all (inr m) = all_in P g r all.1 m

module _ {R N : Type 0} (G : Graph R N) where
  pub walk_append : (a b c : N) (u v : List R) → Walk G a u b → Walk G b v c → Walk G a (u ++ v) c
  walk_append a b c [] v p q = subst (λ (x : N). Walk G x v c) (sym p) q
  walk_append a b c (r ∷ u) v p q = (p.0, p.1, walk_append (G.read r) b c u v p.2 q)

  pub weigh_append : (u v : List R) → weigh G (u ++ v) ≡ weigh G u +ℤ weigh G v
  weigh_append [] v = omega (arith, ints)
  weigh_append (r ∷ u) v = omega (arith, ints, weigh_append u v)

  -- a walk in two parts, of which the first has i references
  pub record Cut (a : N) (w : List R) (b : N) (i : ℕ) : Type 0 where
    pub front : List R
    pub back : List R
    pub whole : w ≡ front ++ back
    pub first : Walk G a front (at G a w i)
    pub then : Walk G (at G a w i) back b
    pub long : length front ≡ i
    pub later : (k : ℕ) → at G (at G a w i) back k ≡ at G a w (i + k)

  pub cut : (a : N) (w : List R) (b : N) (i : ℕ) → i ≤ length w → Walk G a w b → Cut a w b i
  cut a w b zero h p = record { front = []; back = w; whole = refl; first = refl; then = p; long = refl; later = λ k. rw zero-add }
  cut a [] b (suc i) h p = absurd (omega arith)
  cut a (r ∷ w) b (suc i) h p =
      let c : Cut (G.read r) w b i = cut (G.read r) w b i (omega arith) p.2 in
      record {
        front = r ∷ c.front;
        back = c.back;
        whole = ap (λ (x : List R). r ∷ x) c.whole;
        first = (p.0, p.1, c.first);
        then = c.then;
        long = ap suc c.long;
        later = λ k. rw suc-add (c.later k);
      }

  -- a walk's last reference, and what comes before it
  pub record Last (a : N) (w : List R) (b : N) : Type 0 where
    pub before : List R
    pub ref : R
    pub listed : In ref G.references
    pub walk : Walk G a before (G.reader ref)
    pub ends : G.read ref ≡ b
    pub long : length w ≡ suc (length before)
    pub heavy : weigh G w ≡ weigh G before +ℤ G.weight ref

  pub last : (a : N) (r : R) (w : List R) (b : N) → Walk G a (r ∷ w) b → Last a (r ∷ w) b
  last a r [] b p = record { before = []; ref = r; listed = p.1; walk = p.0; ends = p.2; long = refl; heavy = omega (arith, ints) }
  last a r (s ∷ w) b p =
      let l : Last (G.read r) (s ∷ w) b = last (G.read r) s w b p.2 in
      record {
        before = r ∷ l.before;
        ref = l.ref;
        listed = l.listed;
        walk = (p.0, p.1, l.walk);
        ends = l.ends;
        long = ap suc l.long;
        heavy = omega (arith, ints, l.heavy);
      }

  -- what is read leads at least as far as the reference reaches
  pub lead_up : (r : R) (x y : ℤ) → In r G.references → Lead G (G.reader r) x → Lead G (G.read r) y → (x +ℤ G.weight r) ≤ℤ y
  lead_up r x y m l k =
      let (a, w, p, q) = l.reached in
      omega (arith, ints, weigh_append w (r ∷ []), k.most a (w ++ (r ∷ [])) (walk_append a (G.reader r) (G.read r) w (r ∷ []) p (refl, m, refl)))
