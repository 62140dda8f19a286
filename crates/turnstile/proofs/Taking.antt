-- A seat that takes a ticket keeps the rule.
use Rattle.std.proofs.Common.{◌≡◌, ℕ, ◌+◌, ◌%◌, ◌^◌, ◌<◌, ◌≤◌, List, length, Option, refl, sym, ap, ◌∙◌, arith, length-set, get_or-set_same, get_or-set_other}
use Rattle.std.proofs.Math.Nat.{mod-add-mod}
use mathlib.Core.Option.{none}
use mathlib.Core.Option as maybe
use Rattle.atomic_table.specs.Table.{step, keeps, Allows}
use Rattle.turnstile.specs.declared.view.View.{View}
use Rattle.turnstile.specs.declared.view.Role.{Role}
use Rattle.turnstile.specs.declared.view.Stage.{Stage}
use Rattle.turnstile.specs.declared.view.Stage.TheVariants.{Idle, Waiting, Turn}
use Rattle.turnstile.specs.Rule.{Past, Kept, Knows, KnowsStage}
use Rattle.turnstile.specs.Steps.{took}
use Rattle.turnstile.specs.Views.{tickets, passes_of, IsHolder}
use Rattle.turnstile.proofs.Counts.{sum_set, put, put_here, put_else}
use Rattle.turnstile.proofs.Seats.{each_set, slot_stays, idle_no_turn}

-- a ticket more leaves those that are out
more_taken : {E S : Type 0} (ended taken : ℕ) (taker : ℕ → ℕ) (id : ℕ) (history : List E) (homes : List (maybe.Option S)) (j : ℕ) (role : Role E) (seen : List E) (stage : Stage)
    → KnowsStage ended taken taker history homes j role seen stage → KnowsStage ended (taken + 1) (put taker taken id) history homes j role seen stage
more_taken ended taken taker id history homes j role seen Idle h = tt
more_taken ended taken taker id history homes j role seen (Waiting k) h = let lt : k < taken = h.1 in (h.0, omega arith, put_else taker taken id k (λ e. omega arith) ∙ h.2, h.3)
more_taken ended taken taker id history homes j role seen (Turn k) h = let lt : k < taken = h.1 in (h.0, omega arith, put_else taker taken id k (λ e. omega arith) ∙ h.2, h.3, h.4, h.5)

module _ {V E F : Type 0} (entries : V → List E) (by : E → ℕ) (fixed : V → F) (f : F) (n : ℕ) where
  pub takes_ticket : (id : ℕ) (v : View E F) (held : List (ℕ × Option V)) (slots : ℕ) → v.stage ≡ Idle → IsHolder v.role
      → Allows (Kept entries by fixed f n) slots id (v, held) 0 (λ x. (x + 1) % 2 ^ 64) (took (step slots 0 1 0 none) (v, held))
  takes_ticket id v held slots idle holder s r _ at _ =
      let p : Past E = r.past in
      let w : View E F = record v { stage = Waiting p.taken } in
      let p' : Past E = record p { taken = p.taken + 1; taker = put p.taker p.taken id } in
      let was = r.each_seat id v at in
      let no_ticket : tickets v.stage ≡ 0 = ap tickets idle in
      let few : p.ended ≤ p.taken = (let q = r.queue in omega arith) in
      let wide : 0 < length s.words = (let q = r.three_words in omega arith) in (
        w,
        keeps,
        tt,
        record {
          past = p';
          three_words = length-set s.words 0 _ ∙ r.three_words;
          one_slot = r.one_slot;
          ticket_word = get_or-set_same s.words 0 _ 0 wide ∙ (ap (λ (z : ℕ). (z + 1) % 2 ^ 64) r.ticket_word ∙ mod-add-mod p.taken (2 ^ 64) 1);
          serving_word = get_or-set_other s.words 0 1 _ 0 (λ e. omega arith) ∙ r.serving_word;
          count_word = get_or-set_other s.words 0 2 _ 0 (λ e. omega arith) ∙ r.count_word;
          queue = (let q = r.queue in let t = sum_set (λ (u : View E F). tickets u.stage) s.views id v w at in omega arith);
          all_passes = (let q = r.all_passes in let t = sum_set (λ (u : View E F). passes_of u.role) s.views id v w at in omega arith);
          made_few = r.made_few;
          numbers = r.numbers;
          each_seat = each_set (Knows by f n p' s.homes) s.views id w
              record { lock = was.lock; role = was.role; stage = (few, (let z = few in omega arith), put_here p.taker p.taken id, holder) }
              (λ j u other here. let h = r.each_seat j u here in record { lock = h.lock; role = h.role; stage = more_taken p.ended p.taken p.taker id p.history s.homes j u.role u.seen u.stage h.stage });
          slot = slot_stays entries fixed f p.history s.homes s.views id v w at (λ k e. idle_no_turn k (sym idle ∙ e)) r.slot;
        },
        (p.taken, r.ticket_word, refl),
      )
