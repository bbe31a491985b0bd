-- Alarms that a ledger takes one after another. Assumes nothing.
use Rattle.std.proofs.Common.{◌≡◌, ℕ, suc, ◌+◌, ◌≤◌, List, [], ◌∷◌, ◌++◌, length, take, drop, min, Ok, Err, Result, nat_lt, false, slice_set, sym, refl, ap, ◌∙◌, subst, ⊎_elim, arith}
use Rattle.std.proofs.lemmas.List.{length-set, length-take-le}
use Rattle.std.proofs.lemmas.List.Edits.{sets, sets-eq}
use Rattle.std.proofs.Math.Seq.{length-sets}
use Rattle.std.proofs.lemmas.Option.{slice_get_cases}
use Rattle.alarms.specs.contracts.ledger.LedgerSink.TheImpl.{ghosts}
use Rattle.alarms.specs.declared.alarm.Alarm.{Alarm}
use Rattle.alarms.specs.declared.ledger.Ledger.{Ledger}
use Rattle.alarms.specs.declared.offer.Untaken.{Untaken}
use Rattle.alarms.specs.Ledgers.{entries_of, count_of, memory_of, ledger_view}
use Rattle.alarms.specs.Offers.{Ran, Takes, Ends}

-- these were written behind those listed, and the memory is the same
record Filled (l : Ledger) (xs : List Alarm) (m : Ledger) : Type 0 where
  pub count : count_of m ≡ count_of l + length xs
  pub entries : entries_of m ≡ sets (entries_of l) (count_of l) xs
  pub lent : memory_of m ≡ memory_of l
  pub room : count_of l + length xs ≤ length (entries_of l)

filled : (l m : Ledger) (xs : List Alarm) → count_of l ≤ length (entries_of l) → Ran ghosts l xs m → Filled l xs m
filled l m [] h e =
    subst (λ z. Filled l [] z) (sym e) record { count = omega arith; entries = refl; lent = refl; room = omega (arith, h) }
filled l m (x ∷ xs) h p =
    let k = p.0 in
    let w = p.1 in
    let same : length (entries_of k) ≡ length (entries_of l) =
    ap length w.entries ∙ length-set (entries_of l) (count_of l) x in
    let count : count_of k ≡ suc (count_of l) = omega (arith, w.count) in
    let rest = filled k m xs (omega (arith, same, w.room, w.count)) p.2 in
    record {
      count = omega (arith, rest.count, w.count);
      entries = rest.entries ∙ ap (λ es. sets es (count_of k) xs) w.entries ∙ ap (λ i. sets (slice_set (entries_of l) (count_of l) x) i xs) count;
      lent = rest.lent ∙ w.lent;
      room = omega (arith, rest.room, same, w.count);
    }

-- how many of these were taken
abbrev pub taken_of : List Alarm → Result (Unit {0}) Untaken → ℕ
taken_of xs (Ok _) = length xs
taken_of xs (Err u) = u.taken

-- in these entries the first n are listed, as many as have room, and the memory is the same
pub record Lists (l : Ledger) (es xs : List Alarm) (n : ℕ) (m : Ledger) : Type 0 where
  pub count : n ≡ min (length xs) (min (length es) 4294967295)
  pub entries : entries_of m ≡ take n xs ++ drop n es
  pub lent : memory_of m ≡ memory_of l

none_left : (k : ℕ) → nat_lt 0 k ≡ false → k ≡ 0
none_left k e = grind (arith, e)

lists : (l m : Ledger) (es xs : List Alarm) (n : ℕ) → entries_of l ≡ es → count_of l ≡ 0 → (ledger_view l).number ≡ 0 → Takes ghosts l xs n m → Lists l es xs n m
lists l m es xs n have empty new t =
    let f = filled l m (take n xs) (omega (arith, empty)) t.ran in
    let long = length-take-le n xs t.few in
    let number = t.took.number in
    let old : length (entries_of l) ≡ length es = ap length have in
    let same : length (entries_of m) ≡ length (entries_of l) =
    ap length f.entries ∙ length-sets (entries_of l) (count_of l) (take n xs) in
    record {
      count =
          ⊎_elim
          (λ next. omega (arith, none_left _ (t.ends next.0 next.2), next.1, t.few, long, number, new, f.room, f.count, same, old, empty))
          (λ past. omega (arith, past.0, t.few, long, number, new, f.room, old, empty))
          (slice_get_cases xs n).1;
      entries =
          f.entries ∙ ap (λ i. sets (entries_of l) i (take n xs)) empty ∙ sets-eq (take n xs) (entries_of l) 0 (omega (arith, f.room, empty))
          ∙ ap (λ k. take n xs ++ drop k (entries_of l)) (omega (arith, long)) ∙ ap (λ ys. take n xs ++ drop n ys) have;
      lent = f.lent;
    }

-- alarms that were offered to an empty ledger, which took none yet
pub offered_to_empty : (l m : Ledger) (es xs : List Alarm) (r : Result (Unit {0}) Untaken) → entries_of l ≡ es → count_of l ≡ 0 → (ledger_view l).number ≡ 0 → Ends ghosts l xs m r → Lists l es xs (taken_of xs r) m
offered_to_empty l m es xs (Ok _) have empty new run = lists l m es xs (length xs) have empty new run
offered_to_empty l m es xs (Err u) have empty new run =
    subst (λ k. Lists l es xs u.taken k) (sym run.4.rested) (lists l run.0 es xs u.taken have empty new run.3)
