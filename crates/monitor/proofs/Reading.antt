-- The samples of a row, read channel by channel. Assumes nothing.
use Rattle.std.proofs.Common.{◌≡◌, ℕ, suc, ◌+◌, ◌<◌, ◌≤◌, ⊎_elim, List, length, map, unwrap_or, drop, Some, None, Option, false, sym, refl, ap, ◌∙◌, subst, arith, slice_index_or, slice_set}
use Rattle.std.proofs.Math.Seq.{drop-cons}
use Rattle.std.proofs.lemmas.Bool.{cases_lt}
use Rattle.std.proofs.lemmas.Grind.{get_or-set_at}
use Rattle.std.proofs.lemmas.List.{get_or-set_other, drop_all, length-set, length-map, get_or-map}
use Rattle.faults.specs.declared.fault.Fault.{Fault}
use Rattle.values.specs.declared.types.«Type».{«Type» as Ty}
use Rattle.values.specs.declared.types.«Type».TheVariants as type
use Rattle.values.specs.declared.value.Value.{Value}
use Rattle.values.specs.declared.value.Value.TheVariants.{Bool}
use Rattle.values.specs.Values.{HasType}
use Rattle.sampling.specs.Rows.{Readings}
use Rattle.syntax.specs.declared.record.Kind.TheVariants as kind
use Rattle.syntax.specs.Entries.{count}
use Rattle.typing.specs.Scopes.{channel_types}
use Rattle.tables.specs.declared.content.Channel.{Channel}
use Rattle.tables.specs.declared.table.Table.{Table}
use Rattle.tables.specs.Tables.{records_of, channels_of}
use Rattle.engine.specs.Rings.{value_at}
use Rattle.monitor.specs.Refusals.{bad_sample, first_bad_sample, ◌orelse◌}
use Rattle.monitor.specs.Samples.{row_value, TypedRow}
use Rattle.monitor.proofs.Known.{declared_types, channels_counted, few_channels}

module _ (tys : List Ty) (present : Readings) (dark : ℕ → Fault) where
  -- the first channels have values of their types, which the row has
  pub record Read (i : ℕ) (row : List Value) : Type 0 where
    pub fine : first_bad_sample tys 0 present dark ≡ first_bad_sample (drop i tys) i present dark
    pub typed : (k : ℕ) → k < i → (v : Value) × (present k ≡ Some v) × HasType (slice_index_or tys k type.Bool) v × (value_at row k ≡ v)
    pub long : length row ≡ 16

  next : (i : ℕ) → i < length tys → first_bad_sample (drop i tys) i present dark ≡ bad_sample (slice_index_or tys i type.Bool) i (present i) (dark i) orelse first_bad_sample (drop (i + 1) tys) (i + 1) present dark
  next i h =
      let n : suc i ≡ i + 1 = omega arith in
      ap (λ xs. first_bad_sample xs i present dark) (drop-cons tys i type.Bool h) ∙ ap (λ k. bad_sample (slice_index_or tys i type.Bool) i (present i) (dark i) orelse first_bad_sample (drop k tys) (i + 1) present dark) n

  pub read_more : (i : ℕ) (v : Value) (row : List Value) → i < length tys → i < length row → Read i row
      → None ≡ bad_sample (slice_index_or tys i type.Bool) i (present i) (dark i) → present i ≡ Some v → HasType (slice_index_or tys i type.Bool) v
      → Read (i + 1) (slice_set row i v)
  read_more i v row inside long r fine got typed = record {
    fine = r.fine ∙ next i inside ∙ ap (λ o. o orelse first_bad_sample (drop (i + 1) tys) (i + 1) present dark) (sym fine);
    long = length-set row i v ∙ r.long;
    typed = λ k h. ⊎_elim (λ below. old k below) (λ past. at k (omega (arith, h, past))) (cases_lt k i);
  }
    where
      old : (k : ℕ) → k < i → (w : Value) × (present k ≡ Some w) × HasType (slice_index_or tys k type.Bool) w × (value_at (slice_set row i v) k ≡ w)
      old k below = let x = r.typed k below in (x.0, x.1, x.2, get_or-set_other row i k v (Bool false) (λ e. absurd (omega (arith, below, e))) ∙ x.3)

      at : (k : ℕ) → k ≡ i → (w : Value) × (present k ≡ Some w) × HasType (slice_index_or tys k type.Bool) w × (value_at (slice_set row i v) k ≡ w)
      at k e = (v, ap present e ∙ got, subst (λ j. HasType (slice_index_or tys j type.Bool) v) (sym e) typed, ap (λ j. value_at (slice_set row i v) j) e ∙ get_or-set_at row i i v (Bool false) refl long)

  pub first_stop : (i : ℕ) (row : List Value) (f : Fault) → i < length tys → Read i row → Some f ≡ bad_sample (slice_index_or tys i type.Bool) i (present i) (dark i) → Some f ≡ first_bad_sample tys 0 present dark
  first_stop i row f inside r bad_sample' = ap (λ o. o orelse first_bad_sample (drop (i + 1) tys) (i + 1) present dark) bad_sample' ∙ sym (r.fine ∙ next i inside)

  pub fine_throughout : (i : ℕ) (row : List Value) → length tys ≤ i → Read i row → None ≡ first_bad_sample tys 0 present dark
  fine_throughout i row past r = sym (r.fine ∙ ap (λ xs. first_bad_sample xs i present dark) (drop_all i tys past))

-- ---- the declared channels of a table
module _ (t : Table) (present : Readings) (dark : ℕ → Fault) where
  abbrev pub types : List Ty
  types = map (λ c. c.ty) (channels_of t)

  count_is : length types ≡ length (channels_of t)
  count_is = length-map (channels_of t) (λ (c : Channel). c.ty)

  type_at : (i : ℕ) (d : Channel) → i < length (channels_of t) → (slice_index_or (channels_of t) i d).ty ≡ slice_index_or types i type.Bool
  type_at i d inside = sym (get_or-map (λ (c : Channel). c.ty) (channels_of t) i d type.Bool inside)

  pub channel_more : (i : ℕ) (v : Value) (d : Channel) (row : List Value) (cs : List Channel) → cs ≡ channels_of t → i < length cs → Read types present dark i row
      → None ≡ bad_sample (slice_index_or cs i d).ty i (present i) (dark i) → present i ≡ Some v → HasType (slice_index_or cs i d).ty v
      → Read types present dark (i + 1) (slice_set row i v)
  channel_more i v d row cs is inside r fine got typed =
      let here : i < length (channels_of t) = omega (arith, inside, ap length is) in
      let ty : (slice_index_or cs i d).ty ≡ slice_index_or types i type.Bool = ap (λ (xs : List Channel). (slice_index_or xs i d).ty) is ∙ type_at i d here in
      read_more types present dark i v row (omega (arith, here, count_is)) (omega (arith, here, few_channels t, r.long)) r (fine ∙ ap (λ y. bad_sample y i (present i) (dark i)) ty) got (subst (λ y. HasType y v) ty typed)

  pub channel_stops : (i : ℕ) (f : Fault) (d : Channel) (row : List Value) (cs : List Channel) → cs ≡ channels_of t → i < length cs → Read types present dark i row
      → Some f ≡ bad_sample (slice_index_or cs i d).ty i (present i) (dark i) → Some f ≡ first_bad_sample (channel_types (records_of t)) 0 present dark
  channel_stops i f d row cs is inside r stop =
      let here : i < length (channels_of t) = omega (arith, inside, ap length is) in
      let ty : (slice_index_or cs i d).ty ≡ slice_index_or types i type.Bool = ap (λ (xs : List Channel). (slice_index_or xs i d).ty) is ∙ type_at i d here in
      first_stop types present dark i row f (omega (arith, here, count_is)) r (stop ∙ ap (λ y. bad_sample y i (present i) (dark i)) ty) ∙ ap (λ ys. first_bad_sample ys 0 present dark) (declared_types t)

  module _ (i : ℕ) (row : List Value) (past : length (channels_of t) ≤ i) (r : Read types present dark i row) where
    pub none_stops : None ≡ first_bad_sample (channel_types (records_of t)) 0 present dark
    none_stops = fine_throughout types present dark i row (omega (arith, past, count_is)) r ∙ ap (λ ys. first_bad_sample ys 0 present dark) (declared_types t)

    at : (c : ℕ) → c < count kind.Channel (records_of t) → (v : Value) × (present c ≡ Some v) × HasType (slice_index_or types c type.Bool) v × (value_at row c ≡ v)
    at c inside = let n = channels_counted t in r.typed c (omega (arith, past, inside, n))

    pub typed_row : TypedRow (records_of t) present
    typed_row c inside = let x = at c inside in (x.0, x.1, subst (λ ys. HasType (slice_index_or ys c type.Bool) x.0) (declared_types t) x.2)

    pub row_filled : (c : ℕ) → c < count kind.Channel (records_of t) → value_at row c ≡ row_value present c
    row_filled c inside = let x = at c inside in x.3 ∙ sym (ap (λ o. unwrap_or o (Bool false)) x.1)
