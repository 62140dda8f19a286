-- The games that a legal list begins are in range for a journal.
use Rattle.std.proofs.Common.{◌≡◌, ℕ, ◌<◌, ◌≤◌, inr, List, [], ◌∷◌, ◌++◌, take, length, Some, false, refl, sym, ap, ◌∙◌, subst, arith}
use Rattle.std.specs.Prelude.{map, slice_get, ◌==◌, ◌≢◌}
use Rattle.std.specs.List.{All, AllByRecursion}
use Rattle.std.proofs.lemmas.Bool.{ne_eqb}
use Rattle.std.proofs.lemmas.List.{length-map, nil_from_length}
use Rattle.std.proofs.lemmas.List.Elements.{All-from_recursion}
use Rattle.entries.specs.declared.setup.Setup.{Setup}
use Rattle.entries.specs.declared.journal.Entry.{Entry}
use Rattle.entries.specs.declared.journal.Start.{Start}
use Rattle.entries.specs.declared.journal.What.{What}
use Rattle.entries.specs.declared.journal.What.TheVariants as what
use Rattle.entries.specs.Ranges.{IsGood, MayList, listed_at, AreStartsOf, IsWritable}
use Rattle.pair_cost.specs.declared.candidate.Pair.{Pair}
use Rattle.arena_history.specs.Waves.{start_of, started, starts_in, starts_by, history}
use Rattle.arena_history.proofs.Lists.{snoc_induction, all_append, all_weaker, filter_none, slice_get-append_left, slice_get-push, slice_get_within}
use Rattle.arena_rules.specs.Below.{LawsOfHistories}
use Rattle.arena_rules.specs.Legal.{AllowsWave, Allowed, IsLegal}
use Rattle.arena_rules.specs.StartLaws.{IsOfWave, journal_of}
use Rattle.arena_rules.proofs.Bounds.{length-legal, starts-push}
use Rattle.arena_rules.proofs.Entrants.{entered_are_players}
use Rattle.arena_rules.proofs.Legality.{legal_take}
use Rattle.arena_rules.proofs.Ranges.{ranges-legal}

none_begun : (s : Setup) → (history s []).starts ≡ []
unfolding history
none_begun s = refl

module _ (known : LawsOfHistories) where
  length-history : (s : Setup) (es : List Entry) → length (history s es).entries ≡ length es
  length-history s es = ap length (known.entries s es)

  -- no entry but a wave begins games

  of_new : (s : Setup) (l : List Entry) (e : Entry) → AllByRecursion (IsOfWave (l ++ e ∷ [])) (starts_by s (history s l) e)
  unfolding starts_by
  of_new s l e = by e.what refl
    where
      by_pairs : (n m : ℕ) (pairs : List Pair) → n ≡ length l → e.what ≡ what.Wave m → AllByRecursion (IsOfWave (l ++ e ∷ [])) (map (start_of n) pairs)
      by_pairs n m [] at is = tt
      by_pairs n m (x ∷ pairs) at is = (record { entry = e; n = m; stands = ap (slice_get (l ++ e ∷ [])) at ∙ slice_get-push l e; wave = is }, by_pairs n m pairs at is)

      by : (w : What) → e.what ≡ w → AllByRecursion (IsOfWave (l ++ e ∷ [])) (starts_in s (history s l) w)
      by (what.Enter p) is = tt
      by (what.Pause p) is = tt
      by (what.Leave p) is = tt
      by (what.Act p number a) is = tt
      by what.Tick is = tt
      by (what.Wave m) is = by_pairs (length (history s l).entries) m (started s (history s l) m) (length-history s l) is

  of_waves : (s : Setup) (es : List Entry) → AllByRecursion (IsOfWave es) (history s es).starts
  of_waves s es =
      snoc_induction (λ l. AllByRecursion (IsOfWave l) (history s l).starts) (subst (AllByRecursion (IsOfWave [])) (sym (none_begun s)) tt)
      (λ l e before.
      subst (AllByRecursion (IsOfWave (l ++ e ∷ []))) (sym (starts-push known s l e))
      (all_append (IsOfWave (l ++ e ∷ [])) (history s l).starts (starts_by s (history s l) e)
      (all_weaker (IsOfWave l) (IsOfWave (l ++ e ∷ [])) (history s l).starts
      (λ g of. record { entry = of.entry; n = of.n; stands = slice_get-append_left l (e ∷ []) g.entry (slice_get_within l g.entry of.entry of.stands) ∙ of.stands; wave = of.wave }) before)
      (of_new s l e)))
      es

  pub starts_of_waves : (s : Setup) (es : List Entry) → All (IsOfWave es) (history s es).starts
  starts_of_waves s es = All-from_recursion (IsOfWave es) (history s es).starts (of_waves s es)

  -- an entry that is no wave lists no game
  none_listed : (s : Setup) (es : List Entry) (n : ℕ) (e : Entry) → slice_get es n ≡ Some e → ((m : ℕ) → e.what ≢ what.Wave m) → length (listed_at n (history s es).starts) ≡ 0
  none_listed s es n e at other =
      ap length (filter_none (λ (g : Start). g.entry == n) (history s es).starts
      (all_weaker (IsOfWave es) (λ (g : Start). (g.entry == n) ≡ false) (history s es).starts
      (λ g of. ne_eqb g.entry n (λ same. let is : of.entry ≡ e = some_same (sym of.stands ∙ (ap (slice_get es) same ∙ at)) in other of.n (sym (ap (λ (x : Entry). x.what) is) ∙ of.wave)))
      (of_waves s es)))
    where
      some_same : {a b : Entry} → Some a ≡ Some b → a ≡ b
      some_same is = cc

  module _ (s : Setup) (es : List Entry) (good : IsGood s) (legal : IsLegal s es) where
    wave_lists : (n m : ℕ) (e : Entry) → slice_get es n ≡ Some e → e.what ≡ what.Wave m → (1 ≤ length (listed_at n (history s es).starts)) × (length (listed_at n (history s es).starts) ≤ 500)
    wave_lists n m e at is =
        let h = history s (take n es) in
        let allowed : AllowsWave s h e.stamp m = subst (Rattle.arena_rules.specs.Legal.AllowsWhat s h e.stamp) is (legal.each n e at).granted in
        let long : length (listed_at n (history s es).starts) ≡ length (started s h m) = ap length (known.begin s es n m e at is) ∙ length-map (started s h m) (start_of n) in
        let few = known.small s (take n es) m good (entered_are_players known s (take n es) (legal_take s es n legal)) in
        let some : length (started s h m) ≢ 0 = λ none. allowed.begins (nil_from_length (started s h m) none) in
        (omega (arith, some, long), omega (arith, few, long))

    may_list : (n : ℕ) (e : Entry) → slice_get es n ≡ Some e → (w : What) → e.what ≡ w → MayList w (length (listed_at n (history s es).starts))
    may_list n e at (what.Enter p) is = none_listed s es n e at (λ m wave. let never : what.Enter p ≡ what.Wave m = sym is ∙ wave in cc)
    may_list n e at (what.Pause p) is = none_listed s es n e at (λ m wave. let never : what.Pause p ≡ what.Wave m = sym is ∙ wave in cc)
    may_list n e at (what.Leave p) is = none_listed s es n e at (λ m wave. let never : what.Leave p ≡ what.Wave m = sym is ∙ wave in cc)
    may_list n e at (what.Act p number a) is = none_listed s es n e at (λ m wave. let never : what.Act p number a ≡ what.Wave m = sym is ∙ wave in cc)
    may_list n e at what.Tick is = none_listed s es n e at (λ m wave. let never : what.Tick ≡ what.Wave m = sym is ∙ wave in cc)
    may_list n e at (what.Wave m) is = wave_lists n m e at is

    -- the games that a legal list begins are those that a journal of version 2 may list
    pub starts_in_range : AreStartsOf (length s.players) es (history s es).starts
    starts_in_range = record {
      in_order = known.order s es;
      of_entries = All-from_recursion (λ (g : Start). g.entry < length es) (history s es).starts (known.belong s es);
      of_players = All-from_recursion (λ (g : Start). (g.white < length s.players) × (g.black < length s.players)) (history s es).starts (known.players s es (entered_are_players known s es legal));
      of_waves = λ n e at. may_list n e at e.what refl;
    }

    -- so it can be written as one
    pub writable : All (λ (e : Entry). e.pass ≤ 255) es → IsWritable (journal_of s es)
    writable passes = record {
      setup = good;
      entries_most = length-legal known s es legal;
      entries = λ k d lt. ranges-legal known s es legal k d lt (passes k d lt);
      version = inr (record { version = refl; starts = starts_in_range });
    }
