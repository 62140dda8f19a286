use Rattle.std.proofs.Common.{◌≡◌, ◌+◌, ◌<◌, ◌∙◌, ◌++◌, ◌∷◌, [], sym, ap, length, arith, List, get_or}
use Rattle.pair_cost.specs.declared.candidate.Pair.{Pair}
use Rattle.arena_core.specs.Starting.{header_at, waiting}
use Rattle.arena_core.proofs.Waited.{header_more, header_same, headers_few}
use Rattle.arena_core.proofs.waiting.headers_of.Goals.{then-both_wait+in_ok-push, else-both_wait}
use Rattle.arena_core.proofs.waiting.headers_of.Goals as goal

pub overflow_cast-len : goal.overflow_cast-len
overflow_cast-len c =
    let few : length c.listing.headers.items < length (waiting c.args.people.now.places c.args.plan.now.n c.items-pair-items.result.now) =
    headers_few c.args.people.now.places c.args.plan.now.n c.items-pair-items.result.now c.listing.pair-index _ c.listing-test.true c.args.control c.args.t c.args.first c.listing.headers.items (sym c.both_wait.ensures ∙ c.if-both_wait.true) c.listing.invariant in
    let all : length (waiting c.args.people.now.places c.args.plan.now.n c.items-pair-items.result.now) ≡ length (waiting c.args.people.now.places c.args.plan.now.n c.args.plan.now.pairs) = ap (λ (l : List Pair). length (waiting c.args.people.now.places c.args.plan.now.n l)) c.items-pair-items.ensures in
    omega (arith, few, all, c.requires, c.len.ensures, c.listing.headers.ok.0)

pub overflow_add-first : goal.overflow_add-first
overflow_add-first c =
    let few : length c.listing.headers.items < length (waiting c.args.people.now.places c.args.plan.now.n c.items-pair-items.result.now) =
    headers_few c.args.people.now.places c.args.plan.now.n c.items-pair-items.result.now c.listing.pair-index _ c.listing-test.true c.args.control c.args.t c.args.first c.listing.headers.items (sym c.both_wait.ensures ∙ c.if-both_wait.true) c.listing.invariant in
    let all : length (waiting c.args.people.now.places c.args.plan.now.n c.items-pair-items.result.now) ≡ length (waiting c.args.people.now.places c.args.plan.now.n c.args.plan.now.pairs) = ap (λ (l : List Pair). length (waiting c.args.people.now.places c.args.plan.now.n l)) c.items-pair-items.ensures in
    omega (arith, few, all, c.requires, c.len.ensures, c.listing.headers.ok.0)

pub listing-preserved : goal.listing-preserved
listing-preserved c = elim c.if-both_wait.branch [
  | then-both_wait+in_ok-push w ↦
      let long : w.len.result ≡ length c.listing.headers.items = w.len.ensures ∙ c.listing.headers.ok.0 in
      let d : Pair = record { white = 0; black = 0 } in
      let more = header_more c.args.people.now.places c.args.plan.now.n c.items-pair-items.result.now c.listing.pair-index d c.listing-test.true c.args.control c.args.t c.args.first c.listing.headers.items (sym c.both_wait.ensures ∙ w.if-both_wait.true) c.listing.invariant in
      let pushed : w.push.new.self.items ≡ c.listing.headers.items ++ header_at c.args.control c.args.t (c.args.first + w.len.result) (get_or c.items-pair-items.result.now c.listing.pair-index d) ∷ [] = w.in_ok-push.ensures.items in
      ap (λ v. v.items) w.headers-is ∙ (pushed ∙ ((λ i. c.listing.headers.items ++ header_at c.args.control c.args.t (c.args.first + long i) (get_or c.items-pair-items.result.now c.listing.pair-index d) ∷ []) ∙ more))
  | else-both_wait w ↦
      ap (λ v. v.items) w.headers-is ∙ header_same c.args.people.now.places c.args.plan.now.n c.items-pair-items.result.now c.listing.pair-index _ c.listing-test.true c.args.control c.args.t c.args.first c.listing.headers.items (sym c.both_wait.ensures ∙ w.if-both_wait.false) c.listing.invariant
]
