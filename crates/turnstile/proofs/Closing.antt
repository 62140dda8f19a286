-- What the end of a turnstile shows, once its maker has all passes back.
use Rattle.std.proofs.Common.{◌≡◌, ◌≢◌, ℕ, zero, suc, ◌<◌, ◌≤◌, List, [], ◌∷◌, length, get_or, set, Option, Some, refl, sym, ap, ◌∙◌, subst, ⊎_elim, arith}
use Rattle.std.specs.Prelude.{All, Contains, map}
use Rattle.std.proofs.lemmas.List.Elements.{All-head, All-tail}
use mathlib.Core.Option.{some, some-injective}
use mathlib.Core.Option as maybe
use lib.ListN.{get_elem?, length-map}
use Rattle.atomic_table.specs.Table.{State, Final, Seen}
use Rattle.atomic_table.proofs.Lists.{set_else}
use Rattle.turnstile.specs.declared.view.View.{View}
use Rattle.turnstile.specs.declared.view.Role.TheVariants.{Maker}
use Rattle.turnstile.specs.declared.view.Stage.TheVariants.{Turn}
use Rattle.turnstile.specs.Histories.{own, OthersAdded}
use Rattle.turnstile.specs.Passes.{PassState, own_of, IsTold}
use Rattle.turnstile.specs.Rule.{Past, Kept, IsBack}
use Rattle.turnstile.specs.Steps.{spent}
use Rattle.turnstile.specs.Views.{passes_of, IsHolder, maker_view}
use Rattle.turnstile.proofs.Apart.{all_first, all_there}
use Rattle.turnstile.proofs.Counts.{sum_set, sum_at, all_to}
use Rattle.turnstile.proofs.Own.{own_others}
use Rattle.turnstile.proofs.Seats.{some_is, holder_counts_one, maker_knows, turn_knows}

-- each pass's number, with what it has seen
abbrev pub joined_of : {E F : Type 0} → List (PassState E F) → List (ℕ × List E)
joined_of passes = map (λ p. (p.number, p.seen)) passes

module _ {V E F : Type 0} (entries : V → List E) (by : E → ℕ) (fixed : V → F) (f : F) (n : ℕ) where
  -- a list with the number i has a pass of it, which saw all entries of the number
  told : (h : List E) (i : ℕ) (ps : List (PassState E F)) (k : ℕ) → All (λ (p : PassState E F). OthersAdded by p.number p.seen h) ps → k < length (map (λ (p : PassState E F). p.number) ps) → get_or (map (λ (p : PassState E F). p.number) ps) k i ≡ i → IsTold by h ps i
  told h i [] k seen lt is = absurd (omega arith)
  told h i (p ∷ ps) zero seen lt is = (0, p, omega arith, refl, (is, subst (λ (j : ℕ). own by j h ≡ own_of by p) is (own_others by p.number p.seen h (All-head (λ (q : PassState E F). OthersAdded by q.number q.seen h) p ps seen))))
  told h i (p ∷ ps) (suc k) seen lt is = let t = told h i ps k (All-tail (λ (q : PassState E F). OthersAdded by q.number q.seen h) p ps seen) (omega arith) is in let few = t.2 in (suc t.0, t.1, omega arith, t.3, t.4)

  -- the numbers of the passes that were taken back
  first_of_joined : (ps : List (PassState E F)) → map (λ (q : ℕ × List E). q.0) (joined_of ps) ≡ map (λ (p : PassState E F). p.number) ps
  first_of_joined [] = refl
  first_of_joined (p ∷ ps) = ap (λ l. p.number ∷ l) (first_of_joined ps)

  all_joined : (h : List E) (ps : List (PassState E F)) → All (λ q. OthersAdded by q.0 q.1 h) (joined_of ps) → All (λ (p : PassState E F). OthersAdded by p.number p.seen h) ps
  all_joined h [] a k d lt = absurd (omega arith)
  all_joined h (x ∷ xs) a zero d lt = All-head (λ (q : ℕ × List E). OthersAdded by q.0 q.1 h) (x.number, x.seen) (joined_of xs) a
  all_joined h (x ∷ xs) a (suc k) d lt = all_joined h xs (All-tail (λ (q : ℕ × List E). OthersAdded by q.0 q.1 h) (x.number, x.seen) (joined_of xs) a) k d (omega arith)

  -- where all passes are back, none is left that could have the turn
  nobody : (s : State (Option V) (View E F)) (r : Kept entries by fixed f n s) (id m : ℕ) (v : View E F) (joined : List (ℕ × List E)) → get_elem? s.views id ≡ some v → v.role ≡ Maker m joined → length joined ≡ n
      → (h : ℕ) (u : View E F) (k : ℕ) → get_elem? s.views h ≡ some u → u.stage ≡ Turn k → ⊥
  nobody s r id m v joined at is all h u k here turn =
      let p : Past E = r.past in
      let t = turn_knows p.ended p.taken p.taker p.history s.homes h k u.role u.seen u.stage turn (r.each_seat h u here).stage in
      let one = holder_counts_one u.role t.3 in
      let of_v : passes_of v.role ≡ length joined = ap passes_of is in
      let apart : h ≢ id = (λ e. let same : u ≡ v = some-injective u v (sym here ∙ (ap (λ (i : ℕ). get_elem? s.views i) e ∙ at)) in subst IsHolder (ap (λ (x : View E F). x.role) same ∙ is) t.3) in
      let without = sum_set (λ (x : View E F). passes_of x.role) s.views id v spent at in
      let still = sum_at (λ (x : View E F). passes_of x.role) (set s.views id spent) h u (set_else s.views id h spent apart ∙ here) in
      let live = r.all_passes in
      let few : p.made ≤ n = r.made_few.0 in
      omega arith

  -- the value at the end
  pub record Ends (passes : List (PassState E F)) (x : V) : Type 0 where
    pub fixed_is : fixed x ≡ f
    pub numbers : All (λ e. by e < n) (entries x)
    pub seen : All (λ (p : PassState E F). OthersAdded by p.number p.seen (entries x)) passes
    pub every : (i : ℕ) → i < n → IsTold by (entries x) passes i

  pub ends : (id : ℕ) (v : View E F) (took passes : List (PassState E F)) (ws : List ℕ) (xs : List (Option V)) → v ≡ maker_view f n n (joined_of took) → took ≡ passes → length passes ≡ n → Final (Seen (Kept entries by fixed f n) id v) ws xs
      → (x : V) × (get_elem? xs 0 ≡ some (Some x)) × Ends passes x
  ends id v took passes ws xs is all long fin =
      let s : State (Option V) (View E F) = fin.0 in
      let r : Kept entries by fixed f n s = fin.1.0 in
      let at : get_elem? s.views id ≡ some v = fin.1.1 in
      let p : Past E = r.past in
      let joined : List (ℕ × List E) = joined_of took in
      let role : v.role ≡ Maker n joined = ap (λ (u : View E F). u.role) is in
      let count : length joined ≡ n = length-map took (λ (q : PassState E F). (q.number, q.seen)) ∙ (ap length all ∙ long) in
      let h = maker_knows by p.history p.made p.bearer id n joined v.seen v.role role (r.each_seat id v at).role in
      let few : p.made ≤ n = r.made_few.0 in
      let numbers : List ℕ = map (λ (q : ℕ × List E). q.0) joined in
      let same : numbers ≡ map (λ (q : PassState E F). q.number) passes = first_of_joined took ∙ ap (λ l. map (λ (q : PassState E F). q.number) l) all in
      let below : All (λ i. i < n) numbers = all_first by (λ i. i < n) joined (all_to (IsBack by p.history p.made p.bearer) (λ q. q.0 < n) joined (λ q b. let lt : q.0 < p.made = b.0 in omega arith) h.3) in
      let each : (i : ℕ) → i < n → Contains (map (λ (q : PassState E F). q.number) passes) i = λ i lt. subst (λ (l : List ℕ). Contains l i) same (all_there numbers n i h.4 below (length-map joined (λ (q : ℕ × List E). q.0) ∙ count) lt) in
      let known : (x : V) → entries x ≡ p.history → All (λ (q : PassState E F). OthersAdded by q.number q.seen (entries x)) passes =
      λ x e. subst (λ (l : List (PassState E F)). All (λ (q : PassState E F). OthersAdded by q.number q.seen (entries x)) l) all
      (all_joined (entries x) took (subst (λ (h : List E). All (λ q. OthersAdded by q.0 q.1 h) joined) (sym e) (all_to (IsBack by p.history p.made p.bearer) (λ q. OthersAdded by q.0 q.1 p.history) joined (λ q b. b.2) h.3))) in
      ⊎_elim
      (λ (t : (x : V) × (s.homes ≡ some (Some x) ∷ []) × (entries x ≡ p.history) × (fixed x ≡ f)). (
        t.0,
        fin.4 0 (Some t.0) (ap (λ (l : List (maybe.Option (Option V))). get_elem? l 0) t.1),
        record {
          fixed_is = t.3;
          numbers = subst (λ (h : List E). All (λ e. by e < n) h) (sym t.2) (all_to (λ (e : E). by e < p.made) (λ (e : E). by e < n) p.history (λ e lt. omega arith) r.numbers);
          seen = known t.0 t.2;
          every = λ i lt. let found = each i lt in told (entries t.0) i passes found.0 (known t.0 t.2) found.1 found.2;
        },
      ))
      (λ t. absurd (nobody s r id n v joined at role count t.0 t.1 t.2 t.3 t.4))
      r.slot

  -- the value that stands in the slot at the end
  pub ends_with : (id : ℕ) (v : View E F) (took passes : List (PassState E F)) (ws : List ℕ) (xs : List (Option V)) (o : Option V) (y : V) → v ≡ maker_view f n n (joined_of took) → took ≡ passes → length passes ≡ n
      → Final (Seen (Kept entries by fixed f n) id v) ws xs → get_elem? xs 0 ≡ some o → o ≡ Some y → Ends passes y
  ends_with id v took passes ws xs o y is all long fin at some_y =
      let t = ends id v took passes ws xs is all long fin in
      let same : t.0 ≡ y = some_is t.0 y (some-injective (Some t.0) o (sym t.1 ∙ at) ∙ some_y) in
      subst (Ends passes) same t.2
