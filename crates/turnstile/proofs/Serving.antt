-- A seat that ends its turn gives the slot home and keeps the rule.
use Rattle.std.proofs.Common.{◌≡◌, ◌≢◌, ℕ, ◌+◌, ◌%◌, ◌^◌, ◌<◌, ◌≤◌, List, [], ◌∷◌, ◌++◌, length, set, Option, Some, refl, sym, ap, ◌∙◌, subst, inl, arith, length-set, get_or-set_same, get_or-set_other}
use Rattle.std.proofs.Math.Nat.{mod-add-mod}
use mathlib.Core.Option.{some, none}
use mathlib.Core.Option as maybe
use Rattle.atomic_table.specs.Table.{step, gives, Allows}
use Rattle.turnstile.specs.declared.view.View.{View}
use Rattle.turnstile.specs.declared.view.Role.{Role}
use Rattle.turnstile.specs.declared.view.Stage.{Stage}
use Rattle.turnstile.specs.declared.view.Stage.TheVariants.{Idle, Waiting, Turn}
use Rattle.turnstile.specs.Rule.{Past, Kept, Knows, KnowsStage}
use Rattle.turnstile.specs.Steps.{served}
use Rattle.turnstile.specs.Views.{tickets, passes_of}
use Rattle.turnstile.proofs.Counts.{sum_set, only_one}
use Rattle.turnstile.proofs.Seats.{each_set, holder_lives, turn_knows}

-- the others wait on, each with a ticket past the one that was served
others_wait : {E S : Type 0} (ended taken : ℕ) (taker : ℕ → ℕ) (history : List E) (homes homes' : List (maybe.Option S)) (j : ℕ) (role : Role E) (seen : List E) (stage : Stage) → j ≢ taker ended
    → KnowsStage ended taken taker history homes j role seen stage → KnowsStage (ended + 1) taken taker history homes' j role seen stage
others_wait ended taken taker history homes homes' j role seen Idle ne h = tt
others_wait ended taken taker history homes homes' j role seen (Waiting k) ne h = (let a : ended ≤ k = h.0 in let b : ended ≢ k = (λ e. ne (sym h.2 ∙ ap taker (sym e))) in omega arith, h.1, h.2, h.3)
others_wait ended taken taker history homes homes' j role seen (Turn k) ne h = absurd (ne (sym h.2 ∙ ap taker h.0))

module _ {V E F : Type 0} (entries : V → List E) (by : E → ℕ) (fixed : V → F) (f : F) (n : ℕ) where
  serves_held : (id t : ℕ) (v : View E F) (y : V) (slots : ℕ) → v.stage ≡ Turn t → ((f' : F) (n' : ℕ) → v.lock ≡ Some (f', n') → fixed y ≡ f') → entries y ≡ v.seen
      → Allows (Kept entries by fixed f n) slots id (v, (0, Some y) ∷ []) 1 (λ x. (x + 1) % 2 ^ 64) (served (step slots 1 1 0 none) (v, (0, Some y) ∷ []))
  serves_held id t v y slots is same all s r _ at _ =
      let p : Past E = r.past in
      let p' : Past E = record p { ended = p.ended + 1 } in
      let w : View E F = record v { stage = Idle; turns = v.turns ++ length v.seen ∷ [] } in
      let was = r.each_seat id v at in
      let b = turn_knows p.ended p.taken p.taker p.history s.homes id t v.role v.seen v.stage is was.stage in
      let mine : p.taker p.ended ≡ id = ap p.taker (sym b.0) ∙ b.2 in
      let one : tickets v.stage ≡ 1 = ap tickets is in
      let wide : 1 < length s.words = (let q = r.three_words in omega arith) in
      let homes' : List (maybe.Option (Option V)) = set s.homes 0 (some (Some y)) in (
        w,
        gives,
        tt,
        record {
          past = p';
          three_words = length-set s.words 1 _ ∙ r.three_words;
          one_slot = length-set s.homes 0 _ ∙ r.one_slot;
          ticket_word = get_or-set_other s.words 1 0 _ 0 (λ e. omega arith) ∙ r.ticket_word;
          serving_word = get_or-set_same s.words 1 _ 0 wide ∙ (ap (λ (z : ℕ). (z + 1) % 2 ^ 64) r.serving_word ∙ mod-add-mod p.ended (2 ^ 64) 1);
          count_word = get_or-set_other s.words 1 2 _ 0 (λ e. omega arith) ∙ r.count_word;
          queue = (let q = r.queue in let z = sum_set (λ (u : View E F). tickets u.stage) s.views id v w at in omega arith);
          all_passes = (let q = r.all_passes in let z = sum_set (λ (u : View E F). passes_of u.role) s.views id v w at in omega arith);
          made_few = r.made_few;
          numbers = r.numbers;
          each_seat = each_set (Knows by f n p' homes') s.views id w
              record { lock = was.lock; role = was.role; stage = tt }
              (λ j u other here. let h = r.each_seat j u here in record { lock = h.lock; role = h.role; stage = others_wait p.ended p.taken p.taker p.history s.homes homes' j u.role u.seen u.stage (λ e. other (e ∙ mine)) h.stage });
          slot = inl (y, only_one s.homes (some (Some y)) r.one_slot, all ∙ b.4, same f n (was.lock (holder_lives v.role b.3)));
        },
        refl,
      )

  pub serves : (id t : ℕ) (v : View E F) (held : List (ℕ × Option V)) (y : V) (slots : ℕ) → held ≡ (0, Some y) ∷ [] → v.stage ≡ Turn t → ((f' : F) (n' : ℕ) → v.lock ≡ Some (f', n') → fixed y ≡ f') → entries y ≡ v.seen
      → Allows (Kept entries by fixed f n) slots id (v, held) 1 (λ x. (x + 1) % 2 ^ 64) (served (step slots 1 1 0 none) (v, held))
  serves id t v held y slots has is same all =
      subst (λ (l : List (ℕ × Option V)). Allows (Kept entries by fixed f n) slots id (v, l) 1 (λ x. (x + 1) % 2 ^ 64) (served (step slots 1 1 0 none) (v, l))) (sym has) (serves_held id t v y slots is same all)
