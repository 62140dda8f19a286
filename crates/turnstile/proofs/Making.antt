-- The table at the start meets the rule; a pass that is cut off the maker's seat, or joined into it again, keeps it.
use Rattle.std.proofs.Common.{◌≡◌, ◌≢◌, ℕ, zero, suc, ◌+◌, ◌<◌, ◌≤◌, List, [], ◌∷◌, ◌++◌, length, set, Option, Some, refl, sym, ap, ◌∙◌, subst, inl, ⊎_elim, arith, length-set, length-append}
use Rattle.std.specs.Prelude.{All}
use Rattle.std.proofs.lemmas.List.Elements.{All-append, All-nil}
use mathlib.Core.Option.{some, some-injective, some-ne-none}
use lib.ListN.{get_elem?}
use Rattle.atomic_table.specs.Table.{State, opening, Splits, Joins}
use Rattle.atomic_table.proofs.Lists.{set_else}
use Rattle.turnstile.specs.declared.view.View.{View}
use Rattle.turnstile.specs.declared.view.Role.{Role}
use Rattle.turnstile.specs.declared.view.Role.TheVariants.{Maker, Holder, Spent}
use Rattle.turnstile.specs.declared.view.Stage.{Stage}
use Rattle.turnstile.specs.declared.view.Stage.TheVariants.{Idle}
use Rattle.turnstile.specs.Rule.{Past, Kept, Knows, IsBack, KnowsRole, KnowsStage}
use Rattle.turnstile.specs.Steps.{one_more_made, newcomer, with_joined, spent, role_of_maker, role_of_newcomer, role_with}
use Rattle.turnstile.specs.Views.{tickets, passes_of, IsLive, maker_view}
use Rattle.turnstile.proofs.Counts.{sum_set, sum_snoc, all_to, all_one, at_end, put, put_here, put_else, put_same}
use Rattle.turnstile.proofs.Apart.{apart_more}
use Rattle.turnstile.proofs.Own.{seen_nothing}
use Rattle.turnstile.proofs.Seats.{some_is, each_set, slot_stays, slot_longer, idle_no_turn, holder_knows, maker_knows}

module _ {E : Type 0} (by : E → ℕ) where
  -- what was taken back stays, where one pass more is made
  back_after_cut : (history : List E) (made new : ℕ) (bearer : ℕ → ℕ) (joined : List (ℕ × List E)) → All (IsBack by history made bearer) joined → All (IsBack by history (made + 1) (put bearer made new)) joined
  back_after_cut history made new bearer joined =
      all_to (IsBack by history made bearer) (IsBack by history (made + 1) (put bearer made new)) joined (λ p t. let lt : p.0 < made = t.0 in ((omega arith), put_else bearer made new p.0 (λ e. omega arith) ∙ t.1, t.2))

  -- and so does what the others know by their roles
  role_after_cut : (history : List E) (made new : ℕ) (bearer : ℕ → ℕ) (j : ℕ) (seen : List E) (role : Role E) → j ≢ 0 → KnowsRole by history made bearer j seen role → KnowsRole by history (made + 1) (put bearer made new) j seen role
  role_after_cut history made new bearer j seen (Maker m joined) ne h = absurd (ne h.0)
  role_after_cut history made new bearer j seen (Holder i) ne h = let lt : i < made = h.0 in (omega arith, put_else bearer made new i (λ e. omega arith) ∙ h.1, h.2, h.3)
  role_after_cut history made new bearer j seen Spent ne h = tt

  role_after_join : (history : List E) (made i : ℕ) (bearer : ℕ → ℕ) (j : ℕ) (seen : List E) (role : Role E) → j ≢ 0 → j ≢ bearer i → KnowsRole by history made bearer j seen role → KnowsRole by history made (put bearer i 0) j seen role
  role_after_join history made i bearer j seen (Maker m joined) ne apart h = absurd (ne h.0)
  role_after_join history made i bearer j seen (Holder k) ne apart h = (h.0, put_else bearer i 0 k (λ e. apart (sym h.1 ∙ ap bearer e)) ∙ h.1, h.2, h.3)
  role_after_join history made i bearer j seen Spent ne apart h = tt

module _ {V E F : Type 0} (entries : V → List E) (by : E → ℕ) (fixed : V → F) (f : F) (n : ℕ) where
  abbrev Rule : State (Option V) (View E F) → Type 0
  Rule = Kept entries by fixed f n

  pub starts : (x : V) → entries x ≡ [] → fixed x ≡ f → n ≤ 256 → Rule (opening (0 ∷ 0 ∷ 0 ∷ []) (Some x ∷ []) (maker_view f n 0 []))
  starts x blank is few = record {
    past = start;
    three_words = refl;
    one_slot = refl;
    ticket_word = refl;
    serving_word = refl;
    count_word = refl;
    queue = refl;
    all_passes = refl;
    made_few = (omega arith, few);
    numbers = λ k d lt. absurd (omega arith);
    each_seat = one;
    slot = inl (x, refl, blank, is);
  }
    where
      start : Past E
      start = record { history = []; taken = 0; ended = 0; made = 0; taker = λ _. 0; bearer = λ _. 0 }

      one : (j : ℕ) (v : View E F) → get_elem? (maker_view f n 0 [] ∷ []) j ≡ some v → Knows by f n start (some (Some x) ∷ []) j v
      one zero v e = subst (Knows by f n start (some (Some x) ∷ []) 0) (some-injective (maker_view f n 0 []) v e)
          record { lock = (λ _. refl); role = (refl, refl, refl, All-nil (IsBack by [] 0 (λ _. 0)), (λ i k d lt few. absurd (omega arith))); stage = tt }
      one (suc j) v e = absurd (some-ne-none v (sym e))

  -- the maker of so many passes makes one more, which bears the next number
  pub cuts : (id q : ℕ) (joined : List (ℕ × List E)) (v : View E F) (f' : F) (n' : ℕ) → v.role ≡ Maker q joined → v.stage ≡ Idle → v.lock ≡ Some (f', n') → q < n' → Splits Rule id v (one_more_made v) (newcomer v)
  cuts id q joined v f' n' is idle told room s r at =
      let p : Past E = r.past in
      let new : ℕ = length s.views in
      let p' : Past E = record p { made = p.made + 1; bearer = put p.bearer p.made new } in
      let w : View E F = one_more_made v in
      let o : View E F = newcomer v in
      let was = r.each_seat id v at in
      let h = maker_knows by p.history p.made p.bearer id q joined v.seen v.role is was.role in
      let lock : v.lock ≡ Some (f, n) = was.lock (subst IsLive (sym is) tt) in
      let count : n' ≡ n = ap (λ (z : F × ℕ). z.1) (some_is (f', n') (f, n) (sym told ∙ lock)) in
      let next : w.role ≡ Maker (q + 1) joined = ap role_of_maker is in
      let child : o.role ≡ Holder q = ap role_of_newcomer is in
      let of_w : passes_of w.role ≡ length joined = ap passes_of next in
      let of_o : passes_of o.role ≡ 1 = ap passes_of child in
      let of_v : passes_of v.role ≡ length joined = ap passes_of is in
      let no_ticket : tickets v.stage ≡ 0 = ap tickets idle in
      let number : q ≡ p.made = h.1 in
      let first : id ≡ 0 = h.0 in
      let place : id < new = Rattle.turnstile.proofs.Counts.at_within s.views id v at in
      let vs : List (View E F) = set s.views id w in
      let old_seats : (j : ℕ) (u : View E F) → get_elem? vs j ≡ some u → Knows by f n p' s.homes j u =
      each_set (Knows by f n p' s.homes) s.views id w
      record {
        lock = λ _. lock;
        role = subst (λ (x : Role E). KnowsRole by p.history (p.made + 1) (put p.bearer p.made new) id v.seen x) (sym next) (h.0, ap (λ (z : ℕ). z + 1) h.1, h.2, back_after_cut by p.history p.made new p.bearer joined h.3, h.4);
        stage = subst (λ (x : Stage). KnowsStage p.ended p.taken p.taker p.history s.homes id w.role v.seen x) (sym idle) tt;
      }
      (λ j u other here. let k = r.each_seat j u here in record {
        lock = k.lock;
        role = role_after_cut by p.history p.made new p.bearer j u.seen u.role (λ e. other (e ∙ sym h.0)) k.role;
        stage = k.stage;
      }) in
      record {
        past = p';
        three_words = r.three_words;
        one_slot = r.one_slot;
        ticket_word = r.ticket_word;
        serving_word = r.serving_word;
        count_word = r.count_word;
        queue = (let z = r.queue in let a = sum_set (λ (u : View E F). tickets u.stage) s.views id v w at in let b = sum_snoc (λ (u : View E F). tickets u.stage) vs o in omega arith);
        all_passes = (let z = r.all_passes in let a = sum_set (λ (u : View E F). passes_of u.role) s.views id v w at in let b = sum_snoc (λ (u : View E F). passes_of u.role) vs o in omega arith);
        made_few = ((omega arith), r.made_few.1);
        numbers = all_to (λ (e : E). by e < p.made) (λ (e : E). by e < p.made + 1) p.history (λ e lt. omega arith) r.numbers;
        each_seat = λ j u here. ⊎_elim (old_seats j u)
            (λ (t : (j ≡ length vs) × (o ≡ u)). subst (λ (x : ℕ × View E F). Knows by f n p' s.homes x.0 x.1) (λ i. (sym (t.0 ∙ length-set s.views id w) i, t.1 i))
            record {
              lock = λ _. lock;
              role = subst (λ (x : Role E). KnowsRole by p.history (p.made + 1) (put p.bearer p.made new) new [] x) (sym child) (
                (omega arith),
                ap (put p.bearer p.made new) number ∙ put_here p.bearer p.made new,
                (λ e. omega arith),
                seen_nothing by q p.history (all_to (λ (e : E). by e < p.made) (λ (e : E). by e ≢ q) p.history (λ e lt bad. omega arith) r.numbers),
              );
              stage = tt;
            })
            (at_end vs o u j here);
        slot = slot_longer entries fixed f p.history s.homes vs o (slot_stays entries fixed f p.history s.homes s.views id v w at (λ k e. idle_no_turn k (sym idle ∙ e)) r.slot);
      }

  -- the maker takes a pass back, and keeps its number with what it had seen
  pub joins : (id m : ℕ) (joined : List (ℕ × List E)) (v : View E F) (other i : ℕ) (w : View E F) → v.role ≡ Maker m joined → v.stage ≡ Idle → w.role ≡ Holder i → w.stage ≡ Idle → Joins Rule id v other w (with_joined v w) spent
  joins id m joined v other i w is idle role rests s r at distinct there =
      let p : Past E = r.past in
      let p' : Past E = record p { bearer = put p.bearer i 0 } in
      let b : View E F = with_joined v w in
      let gone : View E F = spent in
      let vs : List (View E F) = set s.views id b in
      let was = r.each_seat id v at in
      let there' : get_elem? s.views other ≡ some w = sym (set_else s.views id other b distinct) ∙ there in
      let theirs = r.each_seat other w there' in
      let k = maker_knows by p.history p.made p.bearer id m joined v.seen v.role is was.role in
      let h = holder_knows by p.history p.made p.bearer other i w.seen w.role role theirs.role in
      let lock : v.lock ≡ Some (f, n) = was.lock (subst IsLive (sym is) tt) in
      let next : b.role ≡ Maker m (joined ++ (i, w.seen) ∷ []) = (λ z. role_with (is z) (role z) w.seen) in
      let of_b : passes_of b.role ≡ length joined + 1 = ap passes_of next ∙ length-append joined ((i, w.seen) ∷ []) in
      let of_v : passes_of v.role ≡ length joined = ap passes_of is in
      let of_w : passes_of w.role ≡ 1 = ap passes_of role in
      let no_ticket : tickets w.stage ≡ 0 = ap tickets rests in
      let Back : ℕ × List E → Type 0 = IsBack by p.history p.made p.bearer in
      let Back' : ℕ × List E → Type 0 = IsBack by p.history p.made (put p.bearer i 0) in
      record {
        past = p';
        three_words = r.three_words;
        one_slot = r.one_slot;
        ticket_word = r.ticket_word;
        serving_word = r.serving_word;
        count_word = r.count_word;
        queue = (let z = r.queue in let a = sum_set (λ (u : View E F). tickets u.stage) s.views id v b at in let c = sum_set (λ (u : View E F). tickets u.stage) vs other w gone there in omega arith);
        all_passes = (let z = r.all_passes in let a = sum_set (λ (u : View E F). passes_of u.role) s.views id v b at in let c = sum_set (λ (u : View E F). passes_of u.role) vs other w gone there in omega arith);
        made_few = r.made_few;
        numbers = r.numbers;
        each_seat = each_set (Knows by f n p' s.homes) vs other gone
            record { lock = (λ live. absurd live); role = tt; stage = tt }
            (λ j u apart here. each_set (λ j u. j ≢ other → Knows by f n p' s.homes j u) s.views id b
            (λ _. record {
              lock = λ _. lock;
              role = subst (λ (x : Role E). KnowsRole by p.history p.made (put p.bearer i 0) id v.seen x) (sym next) (
                k.0,
                k.1,
                k.2,
                All-append Back' joined ((i, w.seen) ∷ []) (all_to Back Back' joined (λ q t. (t.0, put_same p.bearer i 0 q.0 t.1, t.2)) k.3) (all_one Back' (i, w.seen) (h.0, put_here p.bearer i 0, h.3)),
                apart_more by joined i w.seen (all_to Back (λ q. q.0 ≢ i) joined (λ q t e. h.2 (sym h.1 ∙ (ap p.bearer (sym e) ∙ t.1))) k.3) k.4,
              );
              stage = subst (λ (x : Stage). KnowsStage p.ended p.taken p.taker p.history s.homes id b.role v.seen x) (sym idle) tt;
            })
            (λ j u off here' apart'. let o = r.each_seat j u here' in record {
              lock = o.lock;
              role = role_after_join by p.history p.made i p.bearer j u.seen u.role (λ e. off (e ∙ sym k.0)) (λ e. apart' (e ∙ h.1)) o.role;
              stage = o.stage;
            })
            j u here apart);
        slot = slot_stays entries fixed f p.history s.homes vs other w gone there (λ z e. idle_no_turn z (sym rests ∙ e)) (slot_stays entries fixed f p.history s.homes s.views id v b at (λ z e. idle_no_turn z (sym idle ∙ e)) r.slot);
      }
