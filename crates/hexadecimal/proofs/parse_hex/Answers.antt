use Rattle.std.proofs.Common.{◌≡◌, ℕ, List, ◌+◌, ◌*◌, ◌%◌, ◌<◌, length, vec_items, sym, subst, ◌∙◌, arith}
use Rattle.std.proofs.lemmas.Result.{MatchResult-from_err}
use Rattle.hexadecimal.specs.Hexadecimal.{BeginsWithByte}
use Rattle.hexadecimal.proofs.Steps.{Read, odd_none, pair_of, read_none, read_more, read_stop, read_all}
use Rattle.hexadecimal.proofs.parse_hex.Goals as goal

pub returns-in_default-clause-read : goal.returns-in_default-clause-read
returns-in_default-clause-read c = let h = c.as_chunks.ensures.back_len in sym (odd_none c.args.text.now (omega arith))

pub loop-pair-init : goal.loop-pair-init
loop-pair-init c = subst (λ l. Read c.args.text.now l 0) (sym c.new-bytes.ensures.items) (read_none c.args.text.now)

pub returns-in_default-from_hex-clause-read : goal.returns-in_default-from_hex-clause-read
returns-in_default-from_hex-clause-read c =
    let inside : 2 * c.loop-pair.pair-index + 1 < length c.args.text.now = omega arith in
    let is = pair_of c.args.text.now c.as_chunks.result.0.now c.loop-pair.pair-index c.as_chunks.ensures.front inside in
    read_stop c.args.text.now (vec_items c.loop-pair.bytes) c.loop-pair.pair-index c.loop-pair.invariant inside
    c.in_default-from_hex.field-0 (rw is at (sym c.from_hex.ensures ∙ c.in_default-from_hex.is))

pub returns-in_err-push-clause-memory : goal.returns-in_err-push-clause-memory
returns-in_err-push-clause-memory c =
    let inside : 2 * c.loop-pair.pair-index + 1 < length c.args.text.now = omega arith in
    let is = pair_of c.args.text.now c.as_chunks.result.0.now c.loop-pair.pair-index c.as_chunks.ensures.front inside in
    let read = read_more c.args.text.now (vec_items c.loop-pair.bytes) c.loop-pair.pair-index c.loop-pair.invariant inside
    c.in-Ok.byte (rw is at (sym c.from_hex.ensures ∙ c.in-Ok.is)) in
    let even : length c.args.text.now % 2 ≡ 0 = omega arith in
    let begins : BeginsWithByte c.args.text.now = (even, read.first (omega arith)) in
    MatchResult-from_err c.from_residual.result _ _ c.from_residual.ensures.0 (λ _. begins)

pub loop-pair-preserved : goal.loop-pair-preserved
loop-pair-preserved c =
    let inside : 2 * c.loop-pair.pair-index + 1 < length c.args.text.now = omega arith in
    let is = pair_of c.args.text.now c.as_chunks.result.0.now c.loop-pair.pair-index c.as_chunks.ensures.front inside in
    subst (λ l. Read c.args.text.now l (c.loop-pair.pair-index + 1)) (sym {A = List ℕ} c.in_ok-push.ensures.items)
    (read_more c.args.text.now (vec_items c.loop-pair.bytes) c.loop-pair.pair-index c.loop-pair.invariant inside
    c.in-Ok.byte (rw is at (sym c.from_hex.ensures ∙ c.in-Ok.is)))

pub returns-clause-read : goal.returns-clause-read
returns-clause-read c = read_all c.args.text.now (vec_items c.loop-pair.bytes) c.loop-pair.pair-index c.loop-pair.invariant (omega arith)
