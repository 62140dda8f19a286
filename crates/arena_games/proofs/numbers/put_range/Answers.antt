use Rattle.std.proofs.Common.{◌≡◌, ℕ, suc, ◌≤◌, ◌+◌, ◌-◌, ◌++◌, ◌∷◌, [], List, ap, sym, ◌∙◌, arith, append_assoc}
use Rattle.std.specs.List.{range_with_len}
use Rattle.arena_games.proofs.Listed.{range_more}
use Rattle.arena_games.proofs.numbers.put_range.Goals as goal

one_more : (old new pushed : List ℕ) (first n : ℕ) → first ≤ n → new ≡ old ++ range_with_len first (n - first) → pushed ≡ new ++ n ∷ [] → pushed ≡ old ++ range_with_len first (n + 1 - first)
one_more old new pushed first n le is push =
    let many : n + 1 - first ≡ suc (n - first) = omega arith in
    let last : first + (n - first) ≡ n = omega arith in
    push ∙ (ap (λ xs. xs ++ n ∷ []) is ∙ (append_assoc old (range_with_len first (n - first)) (n ∷ [])
    ∙ (ap (λ m. old ++ (range_with_len first (n - first) ++ m ∷ [])) (sym last)
    ∙ (ap (λ xs. old ++ xs) (sym (range_more first (n - first))) ∙ ap (λ m. old ++ range_with_len first m) (sym many)))))

pub putting-preserved : goal.putting-preserved
putting-preserved c = record {
  items = one_more c.args.numbers.now.items c.putting.numbers.items c.push_reserved.new.self.items c.args.first c.putting.number (omega arith) c.putting.invariant.items c.push_reserved.ensures.items;
  len = omega arith;
  room = c.push_reserved.ensures.capacity ∙ c.putting.invariant.room;
}
