-- One entry of a journal more: which plan it finds, and what is kept behind it.
use Rattle.std.proofs.Common.{◌≡◌, ℕ, suc, ◌+◌, ◌<◌, ◌≤◌, List, [], ◌∷◌, ◌++◌, take, drop, length, slice_get, get_or, Option, Some, None, refl, sym, ap, subst, ◌∙◌, arith, length-append}
use Rattle.std.specs.Prelude.{Result, Ok, Err, IsErrAnd}
use Rattle.std.specs.List.{All}
use Rattle.std.specs.Option.{IsSome, unwrap_or}
use Rattle.std.specs.BTreeMap.{BTreeMap, IsEmpty, get}
use Rattle.std.specs.Ordering.{nat_cmp}
use Rattle.std.proofs.lemmas.List.{drop_more, take_more, take_all}
use Rattle.std.proofs.lemmas.Option.{get_or_from_slice_get, slice_get_within, slice_get-get_or}
use Rattle.entries.specs.declared.journal.Entry.{Entry}
use Rattle.entries.specs.declared.journal.Journal.{Journal}
use Rattle.entries.specs.declared.journal.What.TheVariants as what
use Rattle.entries.specs.declared.setup.Setup.{Setup}
use Rattle.entries.specs.Limits.{max_games}
use Rattle.entries.specs.Ranges.{IsEntryOf, IsWritable}
use Rattle.wave.specs.declared.snapshot.Plan.{Plan}
use Rattle.arena_core.specs.Held.{Held, past}
use Rattle.arena_history.specs.GameLaws.{GamesAreNumbered}
use Rattle.arena_history.specs.HistoryLaws.{HistoriesGrow}
use Rattle.arena_history.specs.Waves.{history}
use Rattle.arena_rules.specs.Legal.{IsLegal}
use Rattle.arena_rules.specs.LegalLaws.{EachIsReached, LegalGames}
use Rattle.arena_rules.specs.PlanLaws.{PlansStay}
use Rattle.journal_replay.specs.declared.illegal.IllegalCause.{IllegalCause}
use Rattle.journal_replay.specs.declared.illegal.ReplayFault.{ReplayFault}
use Rattle.journal_replay.specs.declared.illegal.ReplayFault.TheVariants.{Illegal, OutOfMemory}
use Rattle.journal_replay.specs.Causes.{before, cause_of, first_from, first_illegal}
use Rattle.journal_replay.specs.Plans.{AreMade, AreOwnPlans, HasLastUses, HavePlans, IsUsedUntil, waves_among}
use Rattle.journal_replay.specs.Replays.{Adds, Replays}
use Rattle.journal_replay.proofs.Counted.{waves_are_few}
use Rattle.journal_replay.proofs.Exact.{at}
use Rattle.journal_replay.proofs.Firsts.{first_behind, first_is}
use Rattle.journal_replay.proofs.Used.{own_less, own_push}

-- an entry of a journal that can be written is in range
pub in_range : (j : Journal) (i : ℕ) (e : Entry) → IsWritable j → slice_get j.entries i ≡ Some e → IsEntryOf (length j.setup.players) e
in_range j i e writable found = at (IsEntryOf (length j.setup.players)) j.entries i e writable.entries found

-- the plan of a use that is known was made
used_made : (uses : BTreeMap ℕ ℕ) (made : BTreeMap ℕ Plan) (k n : ℕ) → AreMade (k + 1) k uses made → n ≤ k → (o : Option ℕ) → get nat_cmp uses n ≡ o → IsUsedUntil k o → IsSome (get nat_cmp made n)
used_made uses made k n are le None is used = absurd used
used_made uses made k n are le (Some l) is used = are n l is (omega (arith, le)) used

-- the plan that the next entry names was made
pub is_made : EachIsReached → HistoriesGrow → GamesAreNumbered → LegalGames → (j : Journal) (a : Held) (uses : BTreeMap ℕ ℕ) (made : BTreeMap ℕ Plan) (e : Entry) (n : ℕ)
    → IsLegal a.setup a.entries → a.entries ≡ take (length a.entries) j.entries → HasLastUses j.entries (length j.entries) uses → AreMade (length a.entries + 1) (length a.entries) uses made
    → slice_get j.entries (length a.entries) ≡ Some e → e.what ≡ what.Wave n → n ≤ length a.entries → IsSome (get nat_cmp made n)
is_made reached grow numbered games j a uses made e n legal begins last are found is le =
    let few : waves_among a.entries (length a.entries) ≤ max_games = omega (arith, subst (λ (l : List Entry). Rattle.std.specs.Prelude.count_by (λ (x : Entry). Rattle.journal_replay.specs.Plans.starts_wave x.what) l ≤ length (history a.setup a.entries).starts) (sym (take_all (length a.entries) a.entries (omega arith))) (waves_are_few a.setup grow reached a.entries legal), games a.setup a.entries legal, numbered.counted a.setup (past a)) in
    let cut : waves_among j.entries (length a.entries) ≤ max_games = subst (λ (l : List Entry). Rattle.std.specs.Prelude.count_by (λ (x : Entry). Rattle.journal_replay.specs.Plans.starts_wave x.what) l ≤ max_games) (take_all (length a.entries) a.entries (omega arith) ∙ begins) few in
    used_made uses made (length a.entries) n are le (get nat_cmp uses n) refl (last (length a.entries) e n (slice_get_within j.entries (length a.entries) e found) found is cut)

-- one entry more of the first ones
pub begins_more : (all es : List Entry) (e : Entry) → es ≡ take (length es) all → slice_get all (length es) ≡ Some e → es ++ e ∷ [] ≡ take (length (es ++ e ∷ [])) all
begins_more all es e begins found =
    let long : length (es ++ e ∷ []) ≡ length es + 1 = length-append es (e ∷ []) in
    let more : take (length es + 1) all ≡ take (length es) all ++ e ∷ [] = take_more all (length es) e (slice_get_within all (length es) e found) ∙ ap (λ x. take (length es) all ++ x ∷ []) (get_or_from_slice_get all (length es) e e found) in
    ap (λ l. l ++ e ∷ []) begins ∙ (sym more ∙ ap (λ m. take m all) (sym long))

-- what is kept behind one entry more
pub have_next : PlansStay → (j : Journal) (a b : Held) (uses : BTreeMap ℕ ℕ) (old new : BTreeMap ℕ Plan) (e : Entry)
    → a.setup ≡ j.setup → b.setup ≡ a.setup → b.entries ≡ a.entries ++ e ∷ [] → a.entries ≡ take (length a.entries) j.entries → slice_get j.entries (length a.entries) ≡ Some e
    → HasLastUses j.entries (length j.entries) uses → AreOwnPlans a.setup a.entries old
    → ((q : ℕ) (x : Plan) → get nat_cmp new q ≡ Some x → get nat_cmp old q ≡ Some x)
    → AreMade (length a.entries + 1) (length a.entries + 1) uses new
    → HavePlans j b uses new
have_next stay j a b uses old new e of_setup kept added begins found last own less made =
    let long : length b.entries ≡ length a.entries + 1 = ap length added ∙ length-append a.entries (e ∷ []) in
    record {
      setup = kept ∙ of_setup;
      entries = subst (λ (l : List Entry). l ≡ take (length l) j.entries) (sym added) (begins_more j.entries a.entries e begins found);
      last = last;
      own = subst (λ (x : Setup). AreOwnPlans x b.entries new) (sym kept) (subst (λ (l : List Entry). AreOwnPlans a.setup l new) (sym added) (own_less a.setup (a.entries ++ e ∷ []) old new less (own_push a.setup a.entries stay old e own)));
      used = subst (λ m. AreMade m m uses new) (sym long) made;
    }

-- at first nothing is kept
pub have_none : (j : Journal) (a : Held) (uses : BTreeMap ℕ ℕ) (made : BTreeMap ℕ Plan) → a.setup ≡ j.setup → a.entries ≡ [] → HasLastUses j.entries (length j.entries) uses → IsEmpty made → HavePlans j a uses made
have_none j a uses made of_setup none last empty =
    let nobody : (q : ℕ) → get nat_cmp made q ≡ None = (λ q. ap (λ (es : List (ℕ × Plan)). Rattle.std.specs.Map.lookup (Rattle.std.specs.BTreeMap.is_at (nat_cmp q)) es) empty) in
    record {
      setup = of_setup;
      entries = subst (λ (l : List Entry). l ≡ take (length l) j.entries) (sym none) refl;
      last = last;
      own = λ q x found. let never : None ≡ Some x = sym (nobody q) ∙ found in cc;
      used = λ n l is lt le. let short : length a.entries ≡ 0 = ap length none in absurd (omega (arith, lt, short));
    }

-- ---- the first entry that is not allowed

module _ (j : Journal) (i : ℕ) (d e : Entry) (a : Held) (within : i < length j.entries) (is : get_or j.entries i d ≡ e) (so_far : first_illegal j ≡ first_from j i (drop i j.entries)) (of_setup : a.setup ≡ j.setup) (begins : a.entries ≡ take (length a.entries) j.entries) (count : length a.entries ≡ i) where
  left : drop i j.entries ≡ e ∷ drop (i + 1) j.entries
  left = drop_more j.entries i d within ∙ ap (λ x. x ∷ drop (i + 1) j.entries) is

  at_place : (c : Option IllegalCause) → cause_of j (history j.setup a.entries) e ≡ c → cause_of j (before j i) e ≡ c
  at_place c same = ap (λ (l : List Entry). cause_of j (history j.setup l) e) (sym (begins ∙ ap (λ m. take m j.entries) count)) ∙ same

  -- none up to one entry more
  pub none_more : cause_of j (history j.setup a.entries) e ≡ None → first_illegal j ≡ first_from j (i + 1) (drop (i + 1) j.entries)
  none_more none =
      let next : i + 1 ≡ suc i = omega arith in
      so_far ∙ (ap (first_from j i) left ∙ (first_behind j i e (drop (i + 1) j.entries) (at_place None none) ∙ ap (λ m. first_from j m (drop (i + 1) j.entries)) (sym next)))

  -- or this one
  pub this_first : (entry : ℕ) (cause : IllegalCause) → (cause_of j (history j.setup a.entries) e ≡ Some cause) × (entry ≡ length a.entries) → first_illegal j ≡ Some (entry, cause)
  this_first entry cause (some, place) =
      so_far ∙ (ap (first_from j i) left ∙ (first_is j i e (drop (i + 1) j.entries) cause (at_place (Some cause) some) ∙ ap (λ m. Some (m, cause)) (sym (place ∙ count))))

  ended : (new : List Entry) (f : ReplayFault) → Adds j a.entries e new (Err f) → Replays j (Err f)
  ended new (Illegal entry cause) refused = this_first entry cause refused
  ended new OutOfMemory refused = tt

  -- a replay that ends where this one is tried
  pub ends_here : (new : List Entry) (r : Result Held ReplayFault) (f : ReplayFault) → IsErrAnd r (λ g. g ≡ f) → Adds j a.entries e new (Err f) → Replays j r
  ends_here new (Ok x) f is refused = absurd is
  ends_here new (Err g) f is refused = subst (λ x. Replays j (Err x)) (sym is) (ended new f refused)

-- the next entry, where so many were added
pub next_entry : (seen all : List Entry) (i n : ℕ) (e : Entry) → seen ≡ all → n ≡ i → i < length seen → e ≡ get_or seen i e → slice_get all n ≡ Some e
next_entry seen all i n e same count within is = (λ k. slice_get (sym same k) (count k)) ∙ (slice_get-get_or seen i e within ∙ ap (λ x. Some x) (sym is))

-- none of all
pub none_at_end : (j : Journal) (i : ℕ) → length j.entries ≤ i → first_illegal j ≡ first_from j i (drop i j.entries) → first_illegal j ≡ None
unfolding first_from
none_at_end j i all so_far = so_far ∙ ap (first_from j i) (Rattle.std.proofs.lemmas.List.drop_all i j.entries all)

-- the entries are all
pub all_entries : (j : Journal) (a : Held) (i : ℕ) → length j.entries ≤ i → length a.entries ≡ i → a.entries ≡ take (length a.entries) j.entries → a.entries ≡ j.entries
all_entries j a i all count begins = begins ∙ take_all (length a.entries) j.entries (omega (arith, all, count))
