-- The types of a table's records, one record more; and what a record counts for in its table. Assumes nothing.
use Rattle.std.proofs.Common.{◌≡◌, ℕ, zero, suc, ◌+◌, ◌<◌, ◌≤◌, List, [], ◌∷◌, ◌++◌, map, length, get_or, take, sym, refl, ap, ◌∙◌, arith}
use Rattle.std.proofs.lemmas.List.{take_more, map-append}
use Rattle.syntax.specs.declared.record.Record.{Record}
use Rattle.syntax.specs.declared.record.Kind.{Kind}
use Rattle.syntax.specs.Entries.{Entry, entry_of, count}
use Rattle.syntax.specs.Entries as entry
use Rattle.typing.specs.declared.scope.Scope.{Scope}
use Rattle.typing.specs.Scopes.{channel_types, stream_types, Adds, ScopeOf}

channels_push : (rs : List Entry) (r : Entry) → channel_types (rs ++ (r ∷ [])) ≡ channel_types rs ++ channel_types (r ∷ [])
channels_push [] r = refl
channels_push (entry.channel t ∷ rs) r = ap (λ l. t ∷ l) (channels_push rs r)
channels_push (entry.stream t vs e ∷ rs) r = channels_push rs r
channels_push (entry.rule g es ∷ rs) r = channels_push rs r

streams_push : (rs : List Entry) (r : Entry) → stream_types (rs ++ (r ∷ [])) ≡ stream_types rs ++ stream_types (r ∷ [])
streams_push [] r = refl
streams_push (entry.channel t ∷ rs) r = streams_push rs r
streams_push (entry.stream t vs e ∷ rs) r = ap (λ l. t ∷ l) (streams_push rs r)
streams_push (entry.rule g es ∷ rs) r = streams_push rs r

pub scope_more : (s s' : Scope) (rs : List Record) (i : ℕ) (r : Record) → i < length rs → r ≡ get_or rs i r → ScopeOf s (map entry_of (take i rs)) → Adds s (entry_of r) s' → ScopeOf s' (map entry_of (take (i + 1) rs))
scope_more s s' rs i r h is inv adds =
    let front = map entry_of (take i rs) in
    let e : map entry_of (take (i + 1) rs) ≡ front ++ (entry_of r ∷ []) =
    ap (map entry_of) (take_more rs i r h ∙ ap (λ x. take i rs ++ (x ∷ [])) (sym is)) ∙ map-append entry_of (take i rs) (r ∷ []) in (
      adds.0 ∙ ap (λ l. l ++ channel_types (entry_of r ∷ [])) inv.0 ∙ sym (channels_push front (entry_of r)) ∙ ap channel_types (sym e),
      adds.1 ∙ ap (λ l. l ++ stream_types (entry_of r ∷ [])) inv.1 ∙ sym (streams_push front (entry_of r)) ∙ ap stream_types (sym e),
    )

-- a table has at least as many of a kind as one of its records
pub counts_in : (k : Kind) (rs : List Record) (i : ℕ) (r : Record) → i < length rs → r ≡ get_or rs i r → count k (entry_of r ∷ []) ≤ count k (map entry_of rs)
counts_in k [] i r h is = omega arith
counts_in k (x ∷ xs) zero r h is = let e = ap (λ y. count k (entry_of y ∷ [])) is in omega arith
counts_in k (x ∷ xs) (suc i) r h is = let e = counts_in k xs i r (omega arith) is in omega arith
