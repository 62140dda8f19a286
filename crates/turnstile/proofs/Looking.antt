-- A waiting seat that looks which ticket is served keeps the rule, and at its own ticket takes the slot.
use Rattle.std.proofs.Common.{◌≡◌, ◌≢◌, ℕ, ◌+◌, ◌%◌, ◌^◌, ◌<◌, ◌≤◌, List, [], ◌∷◌, length, get_or, set, Option, Some, refl, sym, ap, ◌∙◌, subst, inr, ⊎_elim, arith, length-set}
use Rattle.std.specs.Prelude.{All}
use mathlib.Core.Option.{some, none, some-injective}
use mathlib.Core.Option as maybe
use mathlib.Core.Logic.{dite}
use native.Mathlib.Decide.{ℕ_discrete}
use lib.ListN.{get_elem?}
use lib.Seq.{set-get_or}
use Rattle.atomic_table.specs.Table.{State, Act, step, stepped, carried_after, Valid, keeps, takes, Allows}
use Rattle.atomic_table.proofs.Lists.{set_here, set_again, one_turn}
use Rattle.turnstile.specs.declared.view.View.{View}
use Rattle.turnstile.specs.declared.view.Role.{Role}
use Rattle.turnstile.specs.declared.view.Role.TheVariants.{Maker, Holder, Spent}
use Rattle.turnstile.specs.declared.view.Stage.{Stage}
use Rattle.turnstile.specs.declared.view.Stage.TheVariants.{Idle, Waiting, Turn}
use Rattle.turnstile.specs.Histories.{OthersAdded}
use Rattle.turnstile.specs.Rule.{Past, Kept, Knows, KnowsRole, KnowsStage}
use Rattle.turnstile.specs.Steps.{looked}
use Rattle.turnstile.specs.Views.{tickets, passes_of, ticket_of, IsHolder}
use Rattle.turnstile.proofs.Counts.{sum_set, sum_le, at_within, all_to}
use Rattle.turnstile.proofs.Own.{seen_whole}
use Rattle.turnstile.proofs.Seats.{some_is, each_set, waiting_no_turn, holder_counts_one, holder_lives, holder_knows, turn_knows, waiting_knows}

-- only a pass has a ticket
ticket_le : {E S : Type 0} (ended taken : ℕ) (taker : ℕ → ℕ) (history : List E) (homes : List (maybe.Option S)) (j : ℕ) (role : Role E) (seen : List E) (stage : Stage)
    → KnowsStage ended taken taker history homes j role seen stage → tickets stage ≤ passes_of role
ticket_le ended taken taker history homes j role seen Idle h = omega arith
ticket_le ended taken taker history homes j role seen (Waiting k) h = let e = holder_counts_one role h.3 in omega arith
ticket_le ended taken taker history homes j role seen (Turn k) h = let e = holder_counts_one role h.3 in omega arith

-- who has seen the whole history knows as much by his role
knows_whole : {E : Type 0} (by : E → ℕ) (history : List E) (made : ℕ) (bearer : ℕ → ℕ) (j : ℕ) (seen now : List E) (role : Role E) → now ≡ history → IsHolder role
    → KnowsRole by history made bearer j seen role → KnowsRole by history made bearer j now role
knows_whole by history made bearer j seen now (Maker m joined) e holder h = absurd holder
knows_whole by history made bearer j seen now (Holder i) e holder h = (h.0, h.1, h.2, seen_whole by i now history e)
knows_whole by history made bearer j seen now Spent e holder h = tt

-- where the slot goes out, what a seat knows by its stage is as it was
slot_out : {E S : Type 0} (ended taken : ℕ) (taker : ℕ → ℕ) (history : List E) (homes : List (maybe.Option S)) (j : ℕ) (role : Role E) (seen : List E) (stage : Stage)
    → KnowsStage ended taken taker history homes j role seen stage → KnowsStage ended taken taker history (set homes 0 none) j role seen stage
slot_out ended taken taker history homes j role seen Idle h = tt
slot_out ended taken taker history homes j role seen (Waiting k) h = h
slot_out {E} {S} ended taken taker history homes j role seen (Turn k) h = (h.0, h.1, h.2, h.3, h.4, ap (λ (l : List (maybe.Option S)). set l 0 none) h.5)

module _ {V E F : Type 0} (entries : V → List E) (by : E → ℕ) (fixed : V → F) (f : F) (n : ℕ) where
  abbrev Rule : State (Option V) (View E F) → Type 0
  Rule = Kept entries by fixed f n

  -- what a look has to come to
  abbrev Sees : ℕ → View E F → List (ℕ × Option V) → State (Option V) (View E F) → Type 0
  Sees id v held s = (w : View E F) × (a : Act (Option V)) × Valid s.homes held a
      × Rule (stepped s 1 (get_or s.words 1 0) id held w a)
      × looked entries by fixed (step 1 1 0 0 none) (v, held) (get_or s.words 1 0) (w, carried_after held a)

  not_served : (id k : ℕ) (v : View E F) (held : List (ℕ × Option V)) (s : State (Option V) (View E F)) → v.stage ≡ Waiting k → Rule s → get_elem? s.views id ≡ some v → get_or s.words 1 0 ≢ k % 2 ^ 64 → Sees id v held s
  not_served id k v held s is r at ne = (
    v,
    keeps,
    tt,
    subst Rule (λ i. record { words = sym (set-get_or s.words 1 0) i; homes = s.homes; views = sym (set_again s.views id v at) i }) r,
    ((λ e. absurd (ne (e ∙ ap (λ (x : Stage). ticket_of x % 2 ^ 64) is))), λ _. refl),
  )

  -- at most as many tickets are out as there are passes, so none shows the same 64 bits as another
  few_out : (s : State (Option V) (View E F)) (r : Rule s) → r.past.taken ≤ r.past.ended + 256
  few_out s r =
      let p : Past E = r.past in
      let le = sum_le (λ (u : View E F). tickets u.stage) (λ (u : View E F). passes_of u.role) s.views (λ j u e. ticket_le p.ended p.taken p.taker p.history s.homes j u.role u.seen u.stage (r.each_seat j u e).stage) in
      let q = r.queue in let l = r.all_passes in let a : p.made ≤ n = r.made_few.0 in let b : n ≤ 256 = r.made_few.1 in omega arith

  own_turn : (s : State (Option V) (View E F)) (r : Rule s) (id k : ℕ) (v : View E F) → v.stage ≡ Waiting k → get_elem? s.views id ≡ some v → get_or s.words 1 0 ≡ k % 2 ^ 64 → r.past.ended ≡ k
  own_turn s r id k v is at e =
      let p : Past E = r.past in
      let h = waiting_knows p.ended p.taken p.taker p.history s.homes id k v.role v.seen v.stage is (r.each_seat id v at).stage in
      let out = few_out s r in
      let lt : k < p.taken = h.1 in
      one_turn p.ended k (2 ^ 64) h.0 (omega arith) (sym r.serving_word ∙ e)

  takes_value : (id k : ℕ) (v : View E F) (held : List (ℕ × Option V)) (s : State (Option V) (View E F)) → v.stage ≡ Waiting k → (r : Rule s) → get_elem? s.views id ≡ some v → get_or s.words 1 0 ≡ k % 2 ^ 64
      → (x : V) × (s.homes ≡ some (Some x) ∷ []) × (entries x ≡ r.past.history) × (fixed x ≡ f) → Sees id v held s
  takes_value id k v held s is r at e t =
      let p : Past E = r.past in
      let x : V = t.0 in
      let now : Stage = Turn (ticket_of v.stage) in
      let w : View E F = record v { stage = now; seen = entries x } in
      let was = r.each_seat id v at in
      let b = waiting_knows p.ended p.taken p.taker p.history s.homes id k v.role v.seen v.stage is was.stage in
      let ticket : ticket_of v.stage ≡ k = ap ticket_of is in
      let turn : p.ended ≡ k = own_turn s r id k v is at e in
      let one : tickets v.stage ≡ 1 = ap tickets is in
      let homes' : List (maybe.Option (Option V)) = set s.homes 0 none in
      let within : id < length s.views = at_within s.views id v at in
      let le : p.made ≤ n = r.made_few.0 in
      let lock : v.lock ≡ Some (f, n) = was.lock (holder_lives v.role b.3) in (
        w,
        takes 0 (Some x),
        ap (λ (l : List (maybe.Option (Option V))). get_elem? l 0) t.1,
        subst (λ (ws : List ℕ). Rule record { words = ws; homes = homes'; views = set s.views id w }) (sym (set-get_or s.words 1 0))
            record {
              past = p;
              three_words = r.three_words;
              one_slot = length-set s.homes 0 none ∙ r.one_slot;
              ticket_word = r.ticket_word;
              serving_word = r.serving_word;
              count_word = r.count_word;
              queue = (let q = r.queue in let z = sum_set (λ (u : View E F). tickets u.stage) s.views id v w at in omega arith);
              all_passes = (let q = r.all_passes in let z = sum_set (λ (u : View E F). passes_of u.role) s.views id v w at in omega arith);
              made_few = r.made_few;
              numbers = r.numbers;
              each_seat = each_set (Knows by f n p homes') s.views id w
                  record {
                    lock = was.lock;
                    role = knows_whole by p.history p.made p.bearer id v.seen (entries x) v.role t.2 b.3 was.role;
                    stage = (ticket ∙ sym turn, subst (λ (z : ℕ). z < p.taken) (sym ticket) b.1, ap p.taker ticket ∙ b.2, b.3, t.2, ap (λ (l : List (maybe.Option (Option V))). set l 0 none) t.1);
                  }
                  (λ j u other here. let h = r.each_seat j u here in record { lock = h.lock; role = h.role; stage = slot_out p.ended p.taken p.taker p.history s.homes j u.role u.seen u.stage h.stage });
              slot = inr (id, w, ticket_of v.stage, set_here s.views id w within, refl);
            },
        (
          (λ _. (
            x,
            refl,
            record {
              history = λ i role. let q = holder_knows by p.history p.made p.bearer id i v.seen v.role role was.role in subst (λ (h : List E). OthersAdded by i v.seen h) (sym t.2) q.3;
              fixed_is = λ f' n' told. t.3 ∙ ap (λ (z : F × ℕ). z.0) (some_is (f, n) (f', n') (sym lock ∙ told));
              numbers = λ f' n' told. subst (λ (z : F × ℕ). All (λ (y : E). by y < z.1) (entries x)) (some_is (f, n) (f', n') (sym lock ∙ told))
                  (subst (λ (h : List E). All (λ (y : E). by y < n) h) (sym t.2) (all_to (λ (y : E). by y < p.made) (λ (y : E). by y < n) p.history (λ y lt. let z = le in omega arith) r.numbers));
              number = λ f' n' i told role. subst (λ (z : F × ℕ). i < z.1) (some_is (f, n) (f', n') (sym lock ∙ told))
                  (let q = holder_knows by p.history p.made p.bearer id i v.seen v.role role was.role in let lt : i < p.made = q.0 in let z = le in omega arith);
            },
          )),
          (λ ne. absurd (ne (e ∙ ap (λ (z : ℕ). z % 2 ^ 64) (sym ticket)))),
        ),
      )

  -- no other seat has the turn while this seat's own ticket is served
  is_served : (id k : ℕ) (v : View E F) (held : List (ℕ × Option V)) (s : State (Option V) (View E F)) → v.stage ≡ Waiting k → Rule s → get_elem? s.views id ≡ some v → get_or s.words 1 0 ≡ k % 2 ^ 64 → Sees id v held s
  is_served id k v held s is r at e = ⊎_elim (takes_value id k v held s is r at e) (λ t. absurd (away t.0 t.1 t.2 t.3 t.4)) r.slot
    where
      away : (h : ℕ) (u : View E F) (q : ℕ) → get_elem? s.views h ≡ some u → u.stage ≡ Turn q → ⊥
      away h u q here turn =
          let p : Past E = r.past in
          let a = turn_knows p.ended p.taken p.taker p.history s.homes h q u.role u.seen u.stage turn (r.each_seat h u here).stage in
          let b = waiting_knows p.ended p.taken p.taker p.history s.homes id k v.role v.seen v.stage is (r.each_seat id v at).stage in
          let same : h ≡ id = sym a.2 ∙ (ap p.taker (a.0 ∙ own_turn s r id k v is at e) ∙ b.2) in
          let one : u ≡ v = some-injective u v (sym here ∙ (ap (λ (i : ℕ). get_elem? s.views i) same ∙ at)) in
          waiting_no_turn k q (sym is ∙ (sym (ap (λ (x : View E F). x.stage) one) ∙ turn))

  pub looks : (id k : ℕ) (v : View E F) (held : List (ℕ × Option V)) (slots : ℕ) → v.stage ≡ Waiting k
      → Allows Rule slots id (v, held) 1 (λ x. x) (looked entries by fixed (step slots 1 0 0 none) (v, held))
  looks id k v held slots is s r _ at _ = dite (ℕ_discrete (get_or s.words 1 0) (k % 2 ^ 64)) (is_served id k v held s is r at) (not_served id k v held s is r at)
