-- Walks over references, their weights, leads and rings. Assumes nothing.
use Rattle.std.specs.Prelude.{◌≡◌, ℕ, zero, suc, ◌<◌, ◌⊎◌, List, [], ◌∷◌, ◌++◌, map, length, drop, ℤ, pos, ◌+ℤ◌, ◌-ℤ◌, ◌≤ℤ◌}
use Rattle.walks.specs.declared.edge.SheetEntry.{SheetEntry}

-- references R between records N: who reads, what is read, and what each reference weighs
pub record Graph (R N : Type 0) : Type 0 where
  pub references : List R
  pub reader : R → N
  pub read : R → N
  pub weight : R → ℤ

abbrev pub In : {R : Type 0} → R → List R → Type 0
In r [] = ⊥
In r (x ∷ xs) = (x ≡ r) ⊎ In r xs

-- a walk from a to b: a row of references, each of which begins at the record that the one before read
abbrev pub Walk : {R N : Type 0} → Graph R N → N → List R → N → Type 0
Walk G a [] b = a ≡ b
Walk G a (r ∷ w) b = (a ≡ G.reader r) × In r G.references × Walk G (G.read r) w b

-- what a walk weighs
abbrev pub weigh : {R N : Type 0} → Graph R N → List R → ℤ
weigh G [] = pos 0
weigh G (r ∷ w) = G.weight r +ℤ weigh G w

-- where the walk w from a stands after i references
abbrev pub at : {R N : Type 0} → Graph R N → N → List R → ℕ → N
at G a w zero = a
at G a [] (suc i) = a
at G a (r ∷ w) (suc i) = at G (G.read r) w i

-- no two of f 0 to f (m - 1) are equal
abbrev pub Apart : {N : Type 0} → (ℕ → N) → ℕ → Type 0
Apart f m = (i j : ℕ) → i < j → j < m → ¬ (f i ≡ f j)

-- w is a closed walk, which is never empty, and weighs 0 or more
pub record Rising {R N : Type 0} (G : Graph R N) (a : N) (w : List R) : Type 0 where
  pub walk : Walk G a w a
  pub some : 0 < length w
  pub heavy : pos 0 ≤ℤ weigh G w

-- no closed walk weighs 0 or more
abbrev pub Falling : {R N : Type 0} → Graph R N → Type 0
Falling {R} {N} G = (a : N) (w : List R) → ¬ Rising G a w

-- no walk to a channel weighs more than 0, where C says which records are channels
abbrev pub Settled : {R N : Type 0} → Graph R N → (N → Type 0) → Type 0
Settled {R} {N} G C = (a b : N) (w : List R) → C b → Walk G a w b → weigh G w ≤ℤ pos 0

-- z is the greatest weight of any walk that ends in s
pub record Lead {R N : Type 0} (G : Graph R N) (s : N) (z : ℤ) : Type 0 where
  pub reached : (a : N) × (w : List R) × Walk G a w s × (weigh G w ≡ z)
  pub most : (a : N) (w : List R) → Walk G a w s → weigh G w ≤ℤ z

-- how far a reference reaches, by the leads
abbrev pub reach : {R N : Type 0} → Graph R N → (N → ℤ) → R → ℤ
reach G lead r = lead (G.reader r) +ℤ G.weight r

-- a reference reads the value that is made at the tick at which its reader works
abbrev pub Newest : {R N : Type 0} → Graph R N → (N → ℤ) → R → Type 0
Newest G lead r = lead (G.read r) ≡ lead (G.reader r) +ℤ G.weight r

-- the length of a ring: its record's lead, less the smallest reach among the references to it and its own lead, plus 1
pub record Ring {R N : Type 0} (G : Graph R N) (lead : N → ℤ) (q : N) (size : ℕ) : Type 0 where
  pub least : ℤ
  pub own : least ≤ℤ lead q
  pub all : (r : R) → In r G.references → G.read r ≡ q → least ≤ℤ reach G lead r
  pub met : (least ≡ lead q) ⊎ ((r : R) × In r G.references × (G.read r ≡ q) × (least ≡ reach G lead r))
  pub is : pos size ≡ (lead q -ℤ least) +ℤ pos 1

-- a closed walk of k references that weighs 0 or more and comes to no record twice is told in the first entries of a sheet; the others are as they were
pub record TellsClosed {R N : Type 0} (G : Graph R N) (told : R → SheetEntry) (old new : List SheetEntry) (k : ℕ) : Type 0 where
  pub start : N
  pub walk : List R
  pub rising : Rising G start walk
  pub apart : Apart (at G start walk) (length walk)
  pub long : length walk ≡ k
  pub listed : new ≡ map told walk ++ drop k old

-- and so a walk to a channel that weighs more than 0
pub record TellsAhead {R N : Type 0} (G : Graph R N) (C : N → Type 0) (told : R → SheetEntry) (old new : List SheetEntry) (k : ℕ) : Type 0 where
  pub start : N
  pub end : N
  pub walk : List R
  pub goes : Walk G start walk end
  pub channel : C end
  pub heavy : pos 1 ≤ℤ weigh G walk
  pub apart : Apart (at G start walk) (suc (length walk))
  pub long : length walk ≡ k
  pub listed : new ≡ map told walk ++ drop k old
