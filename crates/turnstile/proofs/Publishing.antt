-- A seat in its turn that publishes its entries keeps the rule.
use Rattle.std.proofs.Common.{◌≡◌, ◌≢◌, ℕ, ◌+◌, ◌%◌, ◌^◌, ◌<◌, List, [], ◌∷◌, ◌++◌, length, Option, Some, refl, sym, ap, ◌∙◌, subst, inr, arith, length-set, get_or-set_same, get_or-set_other, mod-eq_of_lt}
use Rattle.std.specs.Prelude.{All}
use Rattle.std.proofs.lemmas.List.Elements.{All-append}
use mathlib.Core.Option.{some, none}
use mathlib.Core.Option as maybe
use Rattle.atomic_table.specs.Table.{step, keeps, Allows}
use Rattle.atomic_table.proofs.Lists.{set_here}
use Rattle.turnstile.specs.declared.view.View.{View}
use Rattle.turnstile.specs.declared.view.Role.{Role}
use Rattle.turnstile.specs.declared.view.Role.TheVariants.{Maker, Holder, Spent}
use Rattle.turnstile.specs.declared.view.Stage.{Stage}
use Rattle.turnstile.specs.declared.view.Stage.TheVariants.{Idle, Waiting, Turn}
use Rattle.turnstile.specs.Rule.{Past, Kept, Knows, IsBack, KnowsRole, KnowsStage}
use Rattle.turnstile.specs.Steps.{published}
use Rattle.turnstile.specs.Views.{tickets, passes_of}
use Rattle.turnstile.proofs.Counts.{sum_set, at_within, all_to}
use Rattle.turnstile.proofs.Own.{seen_whole, still_others}
use Rattle.turnstile.proofs.Seats.{each_set, holder_knows, turn_knows}

-- what the others know by their roles stays, where the pass i adds entries of its own
more_entries : {E : Type 0} (by : E → ℕ) (i : ℕ) (history new now : List E) (made : ℕ) (bearer : ℕ → ℕ) (j : ℕ) (seen : List E) (role : Role E) → bearer i ≢ 0 → j ≢ bearer i → now ≡ history ++ new → All (λ e. by e ≡ i) new
    → KnowsRole by history made bearer j seen role → KnowsRole by now made bearer j seen role
more_entries by i history new now made bearer j seen (Maker m joined) pass ne is mine h = (
  h.0,
  h.1,
  h.2,
  all_to (IsBack by history made bearer) (IsBack by now made bearer) joined (λ p t. (t.0, t.1, still_others by i p.0 p.1 history now new (λ e. pass (ap bearer (sym e) ∙ t.1)) is mine t.2)) h.3,
  h.4,
)
more_entries by i history new now made bearer j seen (Holder q) pass ne is mine h = (h.0, h.1, h.2, still_others by i q seen history now new (λ e. ne (sym h.1 ∙ ap bearer e)) is mine h.3)
more_entries by i history new now made bearer j seen Spent pass ne is mine h = tt

-- and what they know by their stages, since only the seat that is served may have the turn
others_stage : {E S : Type 0} (ended taken : ℕ) (taker : ℕ → ℕ) (history now : List E) (homes : List (maybe.Option S)) (j : ℕ) (role : Role E) (seen : List E) (stage : Stage) → j ≢ taker ended
    → KnowsStage ended taken taker history homes j role seen stage → KnowsStage ended taken taker now homes j role seen stage
others_stage ended taken taker history now homes j role seen Idle ne h = tt
others_stage ended taken taker history now homes j role seen (Waiting k) ne h = h
others_stage ended taken taker history now homes j role seen (Turn k) ne h = absurd (ne (sym h.2 ∙ ap taker h.0))

module _ {V E F : Type 0} (entries : V → List E) (by : E → ℕ) (fixed : V → F) (f : F) (n : ℕ) where
  publishes_held : (id t i k : ℕ) (v : View E F) (y : V) (new : List E) (slots : ℕ) → v.stage ≡ Turn t → v.role ≡ Holder i → entries y ≡ v.seen ++ new → All (λ e. by e ≡ i) new → length v.seen + k ≡ length (entries y) → length (entries y) < 2 ^ 64
      → Allows (Kept entries by fixed f n) slots id (v, (0, Some y) ∷ []) 2 (λ x. (x + k) % 2 ^ 64) (published entries (step slots 2 k 0 none) (v, (0, Some y) ∷ []))
  publishes_held id t i k v y new slots is role grows mine count fits s r _ at _ =
      let p : Past E = r.past in
      let now : List E = entries y in
      let p' : Past E = record p { history = now } in
      let w : View E F = record v { seen = now } in
      let was = r.each_seat id v at in
      let b = turn_knows p.ended p.taken p.taker p.history s.homes id t v.role v.seen v.stage is was.stage in
      let h = holder_knows by p.history p.made p.bearer id i v.seen v.role role was.role in
      let grown : now ≡ p.history ++ new = grows ∙ ap (λ l. l ++ new) b.4 in
      let served : p.taker p.ended ≡ id = ap p.taker (sym b.0) ∙ b.2 in
      let within : id < length s.views = at_within s.views id v at in
      let wide : 2 < length s.words = (let q = r.three_words in omega arith) in
      let counted : length p.history + k ≡ length now = ap (λ l. length l + k) (sym b.4) ∙ count in (
        w,
        keeps,
        tt,
        record {
          past = p';
          three_words = length-set s.words 2 _ ∙ r.three_words;
          one_slot = r.one_slot;
          ticket_word = get_or-set_other s.words 2 0 _ 0 (λ e. omega arith) ∙ r.ticket_word;
          serving_word = get_or-set_other s.words 2 1 _ 0 (λ e. omega arith) ∙ r.serving_word;
          count_word = get_or-set_same s.words 2 _ 0 wide ∙ (ap (λ (z : ℕ). (z + k) % 2 ^ 64) r.count_word ∙ (ap (λ (z : ℕ). z % 2 ^ 64) counted ∙ mod-eq_of_lt fits));
          queue = (let q = r.queue in let z = sum_set (λ (u : View E F). tickets u.stage) s.views id v w at in omega arith);
          all_passes = (let q = r.all_passes in let z = sum_set (λ (u : View E F). passes_of u.role) s.views id v w at in omega arith);
          made_few = r.made_few;
          numbers = subst (λ (l : List E). All (λ e. by e < p.made) l) (sym grown)
              (All-append (λ (e : E). by e < p.made) p.history new r.numbers (all_to (λ (e : E). by e ≡ i) (λ (e : E). by e < p.made) new (λ e is'. let lt : i < p.made = h.0 in omega arith) mine));
          each_seat = each_set (Knows by f n p' s.homes) s.views id w
              record {
                lock = was.lock;
                role = subst (λ (x : Role E). KnowsRole by now p.made p.bearer id now x) (sym role) (h.0, h.1, h.2, seen_whole by i now now refl);
                stage = subst (λ (st : Stage). KnowsStage p.ended p.taken p.taker now s.homes id v.role now st) (sym is) (b.0, b.1, b.2, b.3, refl, b.5);
              }
              (λ j u other here. let o = r.each_seat j u here in record {
                lock = o.lock;
                role = more_entries by i p.history new now p.made p.bearer j u.seen u.role (λ e. h.2 (sym h.1 ∙ e)) (λ e. other (e ∙ h.1)) grown mine o.role;
                stage = others_stage p.ended p.taken p.taker p.history now s.homes j u.role u.seen u.stage (λ e. other (e ∙ served)) o.stage;
              });
          slot = inr (id, w, t, set_here s.views id w within, is);
        },
        refl,
      )

  pub publishes : (id t i k : ℕ) (v : View E F) (held : List (ℕ × Option V)) (y : V) (new : List E) (slots : ℕ) → held ≡ (0, Some y) ∷ [] → v.stage ≡ Turn t → v.role ≡ Holder i → entries y ≡ v.seen ++ new → All (λ e. by e ≡ i) new
      → length v.seen + k ≡ length (entries y) → length (entries y) < 2 ^ 64 → Allows (Kept entries by fixed f n) slots id (v, held) 2 (λ x. (x + k) % 2 ^ 64) (published entries (step slots 2 k 0 none) (v, held))
  publishes id t i k v held y new slots has is role grows mine count fits =
      subst (λ (l : List (ℕ × Option V)). Allows (Kept entries by fixed f n) slots id (v, l) 2 (λ x. (x + k) % 2 ^ 64) (published entries (step slots 2 k 0 none) (v, l))) (sym has) (publishes_held id t i k v y new slots is role grows mine count fits)
