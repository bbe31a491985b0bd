use Rattle.std.proofs.Common.{◌≡◌, ℕ, zero, suc, ◌+◌, ◌<◌, List, [], ◌∷◌, ◌++◌, length, replicate, take, drop, sym, refl, ap, subst, ◌∙◌, arith}
use Rattle.std.proofs.lemmas.List.{append_assoc}
use Rattle.std.proofs.lemmas.Result.{on_ok_weaker}
use Rattle.std.specs.Io.KnownBytes.{Appends}
use Rattle.programs.proofs.Lines.{appends_more}
use Rattle.programs.proofs.output.write_line.Goals as goal

-- a line at the front of a room of line breaks, and the break after it
with_break : (line : List ℕ) (room : ℕ) → length line < room → take (length line + 1) (line ++ drop (length line) (replicate room 10)) ≡ line ++ (10 ∷ [])
with_break [] zero h = absurd (omega arith)
with_break [] (suc room) h = refl
with_break (b ∷ line) zero h = absurd (omega arith)
with_break (b ∷ line) (suc room) h =
    let e : suc (length line) + 1 ≡ suc (length line + 1) = omega arith in
    rw e (ap (λ l. b ∷ l) (with_break line room (omega arith)))

pub returns : goal.returns
returns g c =
    let old = g.W.Write.contents c.args.output.now in
    let mid = g.W.Write.contents c.write_all.new.self in
    let new = g.W.Write.contents c.write_all-2.new.self in
    let front = c.split_at.result.0.now in
    let back = c.split_at.result.1.now in
    let short : length back < 1024 = omega arith in
    let line : front ++ (back ++ (10 ∷ [])) ≡ c.args.line.now ++ (10 ∷ []) =
    sym (append_assoc front back (10 ∷ [])) ∙ ap (λ l. l ++ (10 ∷ [])) (sym c.split_at.ensures.by_index.0 ∙ c.as_bytes-bytes.ensures.value) in
    on_ok_weaker c.write_all-2.result
    (λ (a : Appends mid new (take (length back + 1) (c.copy_from_slice.new.self ++ drop (length back) (replicate 1024 10)))).
    subst (Appends old new) line
    (appends_more old mid new front (back ++ (10 ∷ [])) c.in_ok-write_all.ensures.bytes
    (subst (Appends mid new) (ap (λ l. take (length back + 1) (l ++ drop (length back) (replicate 1024 10))) c.copy_from_slice.ensures.after ∙ with_break back 1024 short) a)))
    c.write_all-2.ensures.bytes
