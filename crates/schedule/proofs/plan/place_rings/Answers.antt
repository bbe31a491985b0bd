use Rattle.std.proofs.Common.{◌≡◌, ◌+◌, ◌<◌, [], ◌∷◌, ◌++◌, length, get_or, take, sym, ap, ◌∙◌, arith, rules}
use Rattle.std.proofs.lemmas.List.{get_or-take, length-take, length_push}
use Rattle.std.proofs.lemmas.List.FromFn.{length-map-range_with_len, map-range_with_len_more}
use Rattle.std.proofs.lemmas.Slice.Zip.{zip_turn}
use Rattle.schedule.specs.Placements.{ring_at, rings_of}
use Rattle.schedule.specs.Plans.{slots_before}
use Rattle.schedule.proofs.Taking.{slots_more}
use Rattle.schedule.proofs.plan.place_rings.Goals as goal

pub push-requires : goal.push-requires
push-requires c =
    let lengths = c.args.layout.now.lengths in
    let leads = c.args.layout.now.leads in
    let count = c.args.graph.now.channels + c.args.graph.now.streams in
    let turn = zip_turn (take count lengths) leads c.loop-length.yielded c.into_iter-length-iterator.result c.loop-length.length-iterator c.next.new.self c.next.result
    (search rules) (search rules) c.loop-length.yielded_by (c.in-Some.length, c.in-Some.lead) c.in-Some.is c.next.ensures.steps in
    omega (
      arith,
      c.args.graph.now.fits.few_channels,
      c.args.graph.now.fits.few_streams,
      turn.0,
      length-take count lengths,
      ap length c.loop-length.invariant.placed,
      length-map-range_with_len (ring_at leads lengths) 0 (length c.loop-length.yielded),
    )

pub loop-length-preserved : goal.loop-length-preserved
loop-length-preserved c =
    let lengths = c.args.layout.now.lengths in
    let leads = c.args.layout.now.leads in
    let count = c.args.graph.now.channels + c.args.graph.now.streams in
    let turn = zip_turn (take count lengths) leads c.loop-length.yielded c.into_iter-length-iterator.result c.loop-length.length-iterator c.next.new.self c.next.result
    (search rules) (search rules) c.loop-length.yielded_by (c.in-Some.length, c.in-Some.lead) c.in-Some.is c.next.ensures.steps in
    let q = length c.loop-length.yielded in
    let here : q < count = omega (arith, turn.0, length-take count lengths) in
    let is : c.in-Some.length.now ≡ get_or lengths q 0 = turn.2 0 ∙ get_or-take count lengths q 0 here in
    let led : c.in-Some.lead.now ≡ get_or leads q 0 = turn.3 0 in
    let ring : record { base = c.loop-length.slots; length = c.in-Some.length.now; lead = c.in-Some.lead.now } ≡ ring_at leads lengths q = λ i. record { base = c.loop-length.invariant.slots i; length = is i; lead = led i } in
    let more : length (c.loop-length.yielded ++ (c.in-Some.length, c.in-Some.lead) ∷ []) ≡ q + 1 = length_push c.loop-length.yielded (c.in-Some.length, c.in-Some.lead) in
    record {
      placed = c.push.ensures ∙ (λ i. c.loop-length.invariant.placed i ++ ring i ∷ []) ∙ sym (map-range_with_len_more (ring_at leads lengths) 0 q q (omega arith)) ∙ ap (rings_of leads lengths) (sym more);
      slots = (λ i. c.loop-length.invariant.slots i + is i) ∙ sym (slots_more (λ j. get_or lengths j 0) q) ∙ ap (slots_before (λ j. get_or lengths j 0)) (sym more);
      bound = omega (arith, more, c.loop-length.invariant.bound);
    }
