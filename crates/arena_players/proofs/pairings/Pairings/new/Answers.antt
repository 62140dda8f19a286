use Rattle.std.proofs.Common.{◌≡◌, ℕ, zero, suc, [], length, Some, replicate, refl, ap, sym, ◌∙◌}
use Rattle.std.specs.Prelude.{slice_get}
use Rattle.std.proofs.lemmas.List.{length-replicate}
use Rattle.arena_history.specs.Snapshots.{last_start, last_opponent, balance, balance_among, alone}
use Rattle.arena_players.specs.Facts.{facts_of, history_of, no_facts}
use Rattle.arena_players.proofs.pairings.Pairings.new.Goals as goal

-- before the first game nothing is known of anybody
nothing : (p : ℕ) → facts_of (history_of [] []) p ≡ no_facts
unfolding last_start last_opponent balance balance_among alone
nothing p = refl

get_of : {X : Type 0} (n : ℕ) (x y : X) (p : ℕ) → slice_get (replicate n x) p ≡ Some y → y ≡ x
get_of zero x y p at = cc
get_of (suc n) x y zero at = cc
get_of (suc n) x y (suc p) at = get_of n x y p at

pub returns : goal.returns
returns c =
    let items = c.in_ok-vec.ensures.items_if_clones_equal (λ y same. same) in
    record {
      begun = refl;
      waves = refl;
      size = ap length items ∙ length-replicate c.args.players c.none.result;
      facts = λ p f at. get_of c.args.players c.none.result f p (sym (ap (λ l. slice_get l p) items) ∙ at) ∙ (c.none.ensures ∙ sym (nothing p));
    }
