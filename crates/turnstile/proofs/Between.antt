-- The rule, read out between any two steps.
use Rattle.std.proofs.Common.{◌≡◌, ◌≢◌, ℕ, ◌<◌, ◌≤◌, List, [], ◌∷◌, Option, Some, refl, sym, ap, ◌∙◌, subst, ⊎_elim}
use Rattle.std.specs.Prelude.{All}
use mathlib.Core.Option.{some, none}
use mathlib.Core.Option as maybe
use mathlib.Core.List.{IsPrefix}
use lib.ListN.{get_elem?}
use Rattle.atomic_table.specs.Table.{State}
use Rattle.turnstile.specs.Between.{BetweenSteps, AtHome}
use Rattle.turnstile.specs.declared.view.View.{View}
use Rattle.turnstile.specs.declared.view.Role.{Role}
use Rattle.turnstile.specs.declared.view.Role.TheVariants.{Maker, Holder, Spent}
use Rattle.turnstile.specs.declared.view.Stage.TheVariants.{Turn}
use Rattle.turnstile.specs.Histories.{OthersAdded}
use Rattle.turnstile.specs.Rule.{Past, Kept, IsBack, KnowsRole}
use Rattle.turnstile.specs.Views.{IsLive}
use Rattle.turnstile.proofs.Counts.{all_to}
use Rattle.turnstile.proofs.Own.{begins}
use Rattle.turnstile.proofs.Seats.{holder_knows, maker_knows, turn_knows}

home_value : {V : Type 0} (x : V) (o : Option V) (homes : List (maybe.Option (Option V))) → homes ≡ some (Some x) ∷ [] → homes ≡ some o ∷ [] → o ≡ Some x
home_value {V} x o homes a b = let e : ◌≡◌ {A = List (maybe.Option (Option V))} (some (Some x) ∷ []) (some o ∷ []) = sym a ∙ b in cc

home_not_away : {S : Type 0} (o : S) (homes : List (maybe.Option S)) → homes ≡ some o ∷ [] → homes ≡ none ∷ [] → ⊥
home_not_away {S} o homes a b = let e : ◌≡◌ {A = List (maybe.Option S)} (some o ∷ []) (none ∷ []) = sym a ∙ b in cc

-- each live seat has seen a beginning of the history
seen_begins : {E : Type 0} (by : E → ℕ) (history : List E) (made : ℕ) (bearer : ℕ → ℕ) (j : ℕ) (seen : List E) (role : Role E) → IsLive role → KnowsRole by history made bearer j seen role → IsPrefix seen history
seen_begins by history made bearer j seen (Maker m joined) live h = subst (λ (l : List _). IsPrefix l history) (sym h.2) (history, refl)
seen_begins by history made bearer j seen (Holder i) live h = begins by i seen history h.3
seen_begins by history made bearer j seen Spent live h = absurd live

module _ {V E F : Type 0} (entries : V → List E) (by : E → ℕ) (fixed : V → F) (f : F) (n : ℕ) (s : State (Option V) (View E F)) (r : Kept entries by fixed f n s) where
  at_home : (x : V) → entries x ≡ r.past.history → fixed x ≡ f → AtHome entries by fixed f n s r.past.made x
  at_home x is same =
      let p : Past E = r.past in
      let On : (List E → Type 0) → Type 0 = λ P. P p.history → P (entries x) in
      let on : (P : List E → Type 0) → On P = λ P. subst P (sym is) in
      record {
        fixed_is = same;
        count_is = r.count_word ∙ ap Rattle.std.proofs.Common.length (sym is);
        numbers = on (λ h. All (λ e. by e < p.made) h) r.numbers;
        seen = λ i v at live. on (λ h. IsPrefix v.seen h) (seen_begins by p.history p.made p.bearer i v.seen v.role live (r.each_seat i v at).role);
        own_seen = λ i k v at role. on (λ h. OthersAdded by k v.seen h) (holder_knows by p.history p.made p.bearer i k v.seen v.role role (r.each_seat i v at).role).3;
        own_joined = λ i m joined v at role. on (λ h. All (λ q. OthersAdded by q.0 q.1 h) joined)
            (all_to (IsBack by p.history p.made p.bearer) (λ q. OthersAdded by q.0 q.1 p.history) joined (λ q t. t.2) (maker_knows by p.history p.made p.bearer i m joined v.seen v.role role (r.each_seat i v at).role).3);
      }

  pub between : BetweenSteps entries by fixed f n s
  between =
      let p : Past E = r.past in
      let turn = λ (i k : ℕ) (v : View E F) (at : get_elem? s.views i ≡ some v) (is : v.stage ≡ Turn k). turn_knows p.ended p.taken p.taker p.history s.homes i k v.role v.seen v.stage is (r.each_seat i v at).stage in
      let holder = λ (i k : ℕ) (v : View E F) (at : get_elem? s.views i ≡ some v) (is : v.role ≡ Holder k). holder_knows by p.history p.made p.bearer i k v.seen v.role is (r.each_seat i v at).role in
      record {
        three_words = r.three_words;
        one_slot = r.one_slot;
        made = p.made;
        made_few = r.made_few.0;
        one_turn = λ i j k l v w a b t u. let x = turn i k v a t in let y = turn j l w b u in sym x.2 ∙ (ap p.taker (x.0 ∙ sym y.0) ∙ y.2);
        one_number = λ i j k v w a b t u. let x = holder i k v a t in let y = holder j k w b u in sym x.1 ∙ y.1;
        number_made = λ i k v a t. (holder i k v a t).0;
        made_is = λ i m joined v a t. let x = maker_knows by p.history p.made p.bearer i m joined v.seen v.role t (r.each_seat i v a).role in
            (x.1, all_to (IsBack by p.history p.made p.bearer) (λ q. q.0 < p.made) joined (λ q b. b.0) x.3);
        lock = λ i v a live. (r.each_seat i v a).lock live;
        away = λ out. ⊎_elim (λ (t : (x : V) × (s.homes ≡ some (Some x) ∷ []) × (entries x ≡ p.history) × (fixed x ≡ f)). absurd (home_not_away (Some t.0) s.homes t.1 out)) (λ t. t) r.slot;
        home = λ o in_it. ⊎_elim
            (λ (t : (x : V) × (s.homes ≡ some (Some x) ∷ []) × (entries x ≡ p.history) × (fixed x ≡ f)). (t.0, home_value t.0 o s.homes t.1 in_it, at_home t.0 t.2 t.3))
            (λ t. absurd (home_not_away o s.homes in_it (turn t.0 t.2 t.1 t.3 t.4).5))
            r.slot;
      }
