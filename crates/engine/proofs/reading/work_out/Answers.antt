use Rattle.std.proofs.Common.{◌≡◌, ℕ, ◌-◌, ◌<◌, length, vec_items, false, ap, ◌∙◌, arith}
use Rattle.std.proofs.lemmas.List.{get_or_default}
use Rattle.values.specs.declared.value.Value.TheVariants.{Bool}
use Rattle.syntax.specs.Trees.{exp}
use Rattle.rings.specs.Memory.{samples_in, values_in}
use Rattle.tables.specs.Tables.{streams_of}
use Rattle.engine.specs.Rings.{rings_of, read_at}
use Rattle.engine.proofs.Known.{indexed, body_own, opens_with, goes_on_with}
use Rattle.engine.proofs.reading.work_out.Goals as goal

pub read-requires-clause-own : goal.read-requires-clause-own
read-requires-clause-own c =
    let t = c.args.table.now in
    let e = indexed (streams_of t) c.streams.result.now c.args.stream c.index-streams-stream.result c.streams.ensures c.index-streams-stream.is in
    body_own t c.args.stream c.index-streams-stream.result c.requires.known e

pub returns-then-index-opening : goal.returns-then-index-opening
returns-then-index-opening c =
    let t = c.args.table.now in
    let e = indexed (streams_of t) c.streams.result.now c.args.stream c.index-streams-stream.result c.streams.ensures c.index-streams-stream.is in
    let x = c.index-streams-stream.result in
    let h : c.args.index < length (vec_items x.opening) = omega (arith, c.if-index-opening.true, c.len-opening.ensures, x.opening.ok.0) in
    c.index.ensures ∙ get_or_default (vec_items x.opening) c.args.index c.index.result.now (Bool false) h ∙
    opens_with t c.args.stream c.index-streams-stream.result c.requires.known e (samples_in (rings_of t) c.args.rings.now) (values_in (rings_of t) c.args.rings.now) c.args.index h

pub returns-else-index-opening : goal.returns-else-index-opening
returns-else-index-opening c =
    let t = c.args.table.now in
    let e = indexed (streams_of t) c.streams.result.now c.args.stream c.index-streams-stream.result c.streams.ensures c.index-streams-stream.is in
    let x = c.index-streams-stream.result in
    let long : c.len-opening.result ≡ length (vec_items x.opening) = omega (arith, c.len-opening.ensures, x.opening.ok.0) in
    c.read.ensures ∙ ap (λ (n : ℕ). read_at t c.args.rings.now (c.args.index - n) (exp x.body)) long ∙
    goes_on_with t c.args.stream c.index-streams-stream.result c.requires.known e (samples_in (rings_of t) c.args.rings.now) (values_in (rings_of t) c.args.rings.now) c.args.index (omega (arith, long, c.if-index-opening.false))
