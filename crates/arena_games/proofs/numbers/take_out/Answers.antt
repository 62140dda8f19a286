use Rattle.std.proofs.Common.{◌<◌, List, ℕ, length, ◌∙◌, sym, subst}
use Rattle.arena_games.specs.Numbers.{IsParted}
use Rattle.arena_games.proofs.Parts.{parted_at, place_by, place_within, without_place}
use Rattle.arena_games.proofs.numbers.take_out.Goals as goal

pub place_of-place-requires : goal.place_of-place-requires
place_of-place-requires c = subst (λ (ns : List ℕ). IsParted ns c.args.number) (sym c.as_slice.ensures.value) (parted_at c.args.numbers.now.items c.args.number c.requires)

pub remove-requires : goal.remove-requires
remove-requires c =
    let there = place_by c.as_slice.result.now c.args.numbers.now.items c.args.number c.place_of-place.result c.as_slice.ensures.value c.place_of-place.ensures.place c.requires in
    subst (λ n. c.place_of-place.result < n) c.as_slice.ensures.len
    (subst (λ (ns : List ℕ). c.place_of-place.result < length ns) (sym c.as_slice.ensures.value)
    (place_within c.args.numbers.now.items c.args.number c.place_of-place.result c.requires there))

pub returns-clause-items : goal.returns-clause-items
returns-clause-items c p =
    c.remove.ensures.items
    ∙ without_place c.args.numbers.now.items c.args.number c.place_of-place.result p
    (place_by c.as_slice.result.now c.args.numbers.now.items c.args.number c.place_of-place.result c.as_slice.ensures.value c.place_of-place.ensures.place p)
