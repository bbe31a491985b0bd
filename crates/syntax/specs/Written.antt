-- How a table is written, the limits that it keeps, and the law that reading accepts exactly what is written so. Assumes nothing.
use Rattle.std.specs.Prelude.{◌≡◌, ℕ, zero, suc, ◌+◌, ◌/◌, ◌%◌, ◌≤◌, List, [], ◌∷◌, ◌++◌, length, Ok}
use Rattle.std.specs.List.{AllByRecursion}
use Rattle.values.specs.Types.{code}
use Rattle.values.specs.Values.{type_of, Proper, HasType}
use Rattle.values.specs.Bytes.{encoded}
use Rattle.syntax.specs.declared.record.Kind.{Kind}
use Rattle.syntax.specs.Codes.{unary_code, binary_code}
use Rattle.syntax.specs.Trees.{Exp, constant, channel, stream, unary, cast, binary, choose}
use Rattle.syntax.specs.Entries.{Entry, kind_of, kind_code, limit, count}
use Rattle.syntax.specs.Entries as entry
use Rattle.syntax.specs.Reading.{read_table}

-- how an expression is written: its code, what belongs to it, then its operands
abbrev pub written : Exp → List ℕ
written (constant at v) = 0x01 ∷ (code (type_of v) ∷ encoded v)
written (channel at i) = 0x02 ∷ (i ∷ [])
written (stream at i d) = 0x03 ∷ (i ∷ (d ∷ []))
written (unary at o e) = unary_code o ∷ written e
written (cast at t e) = 0x60 ∷ (code t ∷ written e)
written (binary at o a b) = binary_code o ∷ (written a ++ written b)
written (choose at a b c) = 0x50 ∷ (written a ++ (written b ++ written c))

-- bytes behind their length in two bytes
abbrev pub sized : List ℕ → List ℕ
sized ws = length ws / 256 ∷ (length ws % 256 ∷ ws)

-- several, one after another
abbrev pub joined : {X : Type 0} → (X → List ℕ) → List X → List ℕ
joined w [] = []
joined w (x ∷ xs) = w x ++ joined w xs

-- what follows a record's kind
abbrev pub payload : Entry → List ℕ
payload (entry.channel t) = code t ∷ []
payload (entry.stream t vs e) = code t ∷ (length vs ∷ (joined encoded vs ++ written e))
payload (entry.rule g es) = length es ∷ (written g ++ joined written es)

-- a record's bytes after its length
abbrev pub inner : Entry → List ℕ
inner r = kind_code (kind_of r) ∷ payload r

-- how a record is written: its length in two bytes, its kind, and what follows
abbrev pub write_entry : Entry → List ℕ
write_entry r = sized (inner r)

-- how records are written
abbrev pub write : List Entry → List ℕ
write rs = joined write_entry rs

-- the limits of an expression: at most so deep, each constant a value of its type, no drop above 63
abbrev pub Bounded : ℕ → Exp → Type 0
Bounded zero e = ⊥
Bounded (suc d) (constant at v) = Proper v
Bounded (suc d) (channel at i) = Unit {0}
Bounded (suc d) (stream at i x) = x ≤ 63
Bounded (suc d) (unary at o e) = Bounded d e
Bounded (suc d) (cast at t e) = Bounded d e
Bounded (suc d) (binary at o a b) = Bounded d a × Bounded d b
Bounded (suc d) (choose at a b c) = Bounded d a × Bounded d b × Bounded d c

-- the limits of a record
abbrev pub Small : Entry → Type 0
Small (entry.channel t) = Unit {0}
Small (entry.stream t vs e) = (length vs ≤ 64) × AllByRecursion (HasType t) vs × Bounded 12 e
Small (entry.rule g es) = (length es ≤ 4) × Bounded 12 g × AllByRecursion (Bounded 12) es

-- the expression with the places that its nodes have where it stands at a place
abbrev pub placed : ℕ → Exp → Exp
placed at (constant p v) = constant at v
placed at (channel p i) = channel at i
placed at (stream p i x) = stream at i x
placed at (unary p o e) = unary at o (placed (at + 1) e)
placed at (cast p t e) = cast at t (placed (at + 2) e)
placed at (binary p o a b) = binary at o (placed (at + 1) a) (placed (at + 1 + length (written a)) b)
placed at (choose p a b c) =
    choose at (placed (at + 1) a) (placed (at + 1 + length (written a)) b) (placed (at + 1 + length (written a) + length (written b)) c)

-- several, each placed where the one before ends
abbrev pub each : {X : Type 0} → (ℕ → X → X) → (X → List ℕ) → ℕ → List X → List X
each place w at [] = []
each place w at (x ∷ xs) = place at x ∷ each place w (at + length (w x)) xs

-- what follows a record's kind, with its places
abbrev pub placed_payload : ℕ → Entry → Entry
placed_payload at (entry.channel t) = entry.channel t
placed_payload at (entry.stream t vs e) = entry.stream t vs (placed (at + 1 + 1 + length (joined encoded vs)) e)
placed_payload at (entry.rule g es) = entry.rule (placed (at + 1) g) (each placed written (at + 1 + length (written g)) es)

-- a record with its places: three bytes stand before what follows its kind
abbrev pub placed_entry : ℕ → Entry → Entry
placed_entry at r = placed_payload (at + 3) r

-- the bytes are version 01 followed by the records, written; the limits hold; and each node has the place where it stands
pub record Written (bytes : List ℕ) (rs : List Entry) : Type 0 where
  pub whole : bytes ≡ 1 ∷ write rs
  pub size : length bytes ≤ 8192
  pub small : AllByRecursion Small rs
  pub few : (k : Kind) → count k rs ≤ limit k
  pub places : each placed_entry write_entry 1 rs ≡ rs

-- reading accepts the bytes with the records rs exactly when they are written so
abbrev pub AcceptsWritten : List ℕ → Type 0
AcceptsWritten bytes = (rs : List Entry) → (read_table bytes ≡ Ok rs → Written bytes rs) × (Written bytes rs → read_table bytes ≡ Ok rs)
