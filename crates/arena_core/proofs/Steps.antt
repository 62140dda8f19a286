-- What one entry more changes of places, counted games, entrants, games that began and players left alone.
use Rattle.std.proofs.Common.{◌≡◌, ℕ, suc, List, [], ◌∷◌, ◌++◌, length, None, Bool, true, false, refl, sym, ap, ◌∙◌, arith, append_assoc}
use Rattle.std.specs.Prelude.{cond, nat_lt}
use Rattle.std.proofs.lemmas.List.{append-nil, length-append}
use Rattle.entries.specs.declared.journal.Entry.{Entry}
use Rattle.entries.specs.declared.journal.Start.{Start}
use Rattle.entries.specs.declared.setup.Setup.{Setup}
use Rattle.arena_history.specs.Changes.{all_freed, all_seated}
use Rattle.arena_history.specs.Endings.{EndedGame, ended_by, finished}
use Rattle.arena_history.specs.Games.{Begun, event_of}
use Rattle.arena_history.specs.History.{History, LeftAlone}
use Rattle.arena_history.specs.Waves.{after, starts_by, lefts_by, plan_at, history}
use Rattle.arena_rules.specs.declared.command.Command.{Command}
use Rattle.arena_rules.specs.declared.command.Command.TheVariants.{Enter, Pause, Leave, Act, Tick}
use Rattle.arena_rules.specs.Commands.{entry_of}
use Rattle.arena_rules.specs.Commits.{wave_entry}
use Rattle.arena_core.specs.Below.{LawsOfHistories}
use Rattle.arena_core.specs.People.{Standing, standing, with_entrant, with_pause, with_leave, with_end, with_ends, with_start, with_starts, with_alone, counted_if}
use Rattle.arena_core.proofs.Books.{starts_more, command_starts}

-- games behind those that count, if they count
all_counted : (counts : Bool) (games : List EndedGame) (g : EndedGame) (more : List EndedGame) → cond counts (counted_if counts g games ++ more) (counted_if counts g games) ≡ cond counts (games ++ g ∷ more) games
all_counted true games g more = append_assoc games (g ∷ []) more
all_counted false games g more = refl

-- what the end of these games changes
pub with_ends_is : (n : ℕ) (counts : Bool) (gs : List EndedGame) (x : Standing) → with_ends n counts gs x ≡ record { places = all_freed n gs x.places; games = cond counts (x.games ++ gs) x.games; players = x.players; starts = x.starts; lefts = x.lefts }
with_ends_is n counts [] x = λ i. record { places = x.places; games = none counts i; players = x.players; starts = x.starts; lefts = x.lefts }
  where
    none : (b : Bool) → x.games ≡ cond b (x.games ++ []) x.games
    none true = sym (append-nil x.games)
    none false = refl
with_ends_is n counts (g ∷ gs) x =
    with_ends_is n counts gs (with_end n counts x g) ∙ (λ i. record { places = all_freed n (g ∷ gs) x.places; games = all_counted counts x.games g gs i; players = x.players; starts = x.starts; lefts = x.lefts })

-- what the beginning of these games changes
pub with_starts_is : (gs : List Start) (x : Standing) → with_starts gs x ≡ record { places = all_seated (length x.starts) gs x.places; games = x.games; players = x.players; starts = x.starts ++ gs; lefts = x.lefts }
with_starts_is [] x = λ i. record { places = x.places; games = x.games; players = x.players; starts = sym (append-nil x.starts) i; lefts = x.lefts }
with_starts_is (g ∷ gs) x =
    let long : length (x.starts ++ g ∷ []) ≡ suc (length x.starts) = omega (arith, length-append x.starts (g ∷ [])) in
    with_starts_is gs (with_start x g) ∙ (λ i. record { places = all_seated (long i) gs (with_start x g).places; games = x.games; players = x.players; starts = append_assoc x.starts (g ∷ []) gs i; lefts = x.lefts })

-- a command leaves nobody alone
no_lefts : (s : Setup) (h : History) (t pass : ℕ) (c : Command) → lefts_by s h (entry_of t pass c) ≡ []
unfolding lefts_by
no_lefts s h t pass (Enter p) = refl
no_lefts s h t pass (Pause p) = refl
no_lefts s h t pass (Leave p) = refl
no_lefts s h t pass (Act p g a) = refl
no_lefts s h t pass Tick = refl

module _ (laws : LawsOfHistories) (s : Setup) (es : List Entry) where
  -- whom waves left alone with one entry more
  pub lefts_more : (e : Entry) → (history s (es ++ e ∷ [])).lefts ≡ (history s es).lefts ++ lefts_by s (history s es) e
  unfolding after
  lefts_more e = ap (λ (h : History). h.lefts) (laws.grow s es e)

  command_lefts : (t pass : ℕ) (c : Command) → (history s (es ++ entry_of t pass c ∷ [])).lefts ≡ (history s es).lefts
  command_lefts t pass c = lefts_more (entry_of t pass c) ∙ (ap (λ l. (history s es).lefts ++ l) (no_lefts s (history s es) t pass c) ∙ append-nil _)

  -- the counted games with one entry more
  counted_more : (e : Entry) (gs : List EndedGame) → ended_by s (history s es) e ≡ gs → finished s (history s (es ++ e ∷ [])) ≡ cond (nat_lt e.stamp s.ends) (finished s (history s es) ++ gs) (finished s (history s es))
  counted_more e gs ended = laws.counted s es e ∙ by (nat_lt e.stamp s.ends) refl
    where
      by : (b : Bool) → nat_lt e.stamp s.ends ≡ b → finished s (history s es) ++ cond b (ended_by s (history s es) e) [] ≡ cond b (finished s (history s es) ++ gs) (finished s (history s es))
      by true is = ap (λ l. finished s (history s es) ++ l) ended
      by false is = append-nil _

  none_counted : (e : Entry) → ((g : Begun) → event_of g.header e ≡ None) → finished s (history s (es ++ e ∷ [])) ≡ finished s (history s es)
  none_counted e quiet = counted_more e [] (laws.others s es e quiet) ∙ by (nat_lt e.stamp s.ends)
    where
      by : (b : Bool) → cond b (finished s (history s es) ++ []) (finished s (history s es)) ≡ finished s (history s es)
      by true = append-nil _
      by false = refl

  -- once a player enters
  pub standing_entered : (t pass p : ℕ) → standing s (history s (es ++ entry_of t pass (Enter p) ∷ [])) ≡ with_entrant (suc (length es)) p (standing s (history s es))
  standing_entered t pass p =
      let e = entry_of t pass (Enter p) in
      λ i. record {
        places = laws.places.enter s es e p refl i;
        games = none_counted e (λ g. refl) i;
        players = laws.entered s es e i;
        starts = command_starts laws s es t pass (Enter p) i;
        lefts = command_lefts t pass (Enter p) i;
      }

  -- once a player pauses
  pub standing_paused : (t pass p : ℕ) → standing s (history s (es ++ entry_of t pass (Pause p) ∷ [])) ≡ with_pause p (standing s (history s es))
  standing_paused t pass p =
      let e = entry_of t pass (Pause p) in
      λ i. record {
        places = laws.places.pause s es e p refl i;
        games = none_counted e (λ g. refl) i;
        players = laws.entered s es e i;
        starts = command_starts laws s es t pass (Pause p) i;
        lefts = command_lefts t pass (Pause p) i;
      }

  -- once a player leaves
  pub standing_left : (t pass p : ℕ) → standing s (history s (es ++ entry_of t pass (Leave p) ∷ [])) ≡ with_leave p (standing s (history s es))
  standing_left t pass p =
      let e = entry_of t pass (Leave p) in
      λ i. record {
        places = laws.places.leave s es e p refl i;
        games = none_counted e (λ g. refl) i;
        players = laws.entered s es e i;
        starts = command_starts laws s es t pass (Leave p) i;
        lefts = command_lefts t pass (Leave p) i;
      }

  -- once an act or a look ends these games
  pub standing_acted : (t pass p number : ℕ) (a : _) → (gs : List EndedGame) → ended_by s (history s es) (entry_of t pass (Act p number a)) ≡ gs → standing s (history s (es ++ entry_of t pass (Act p number a) ∷ [])) ≡ with_ends (suc (length es)) (nat_lt t s.ends) gs (standing s (history s es))
  standing_acted t pass p number a gs ended =
      let e = entry_of t pass (Act p number a) in
      (λ i. record {
        places = (laws.places.endings s es e tt ∙ ap (λ l. all_freed (suc (length es)) l (standing s (history s es)).places) ended) i;
        games = counted_more e gs ended i;
        players = laws.entered s es e i;
        starts = command_starts laws s es t pass (Act p number a) i;
        lefts = command_lefts t pass (Act p number a) i;
      }) ∙ sym (with_ends_is (suc (length es)) (nat_lt t s.ends) gs (standing s (history s es)))

  pub standing_looked : (t pass : ℕ) (gs : List EndedGame) → ended_by s (history s es) (entry_of t pass Tick) ≡ gs → standing s (history s (es ++ entry_of t pass Tick ∷ [])) ≡ with_ends (suc (length es)) (nat_lt t s.ends) gs (standing s (history s es))
  standing_looked t pass gs ended =
      let e = entry_of t pass Tick in
      (λ i. record {
        places = (laws.places.endings s es e tt ∙ ap (λ l. all_freed (suc (length es)) l (standing s (history s es)).places) ended) i;
        games = counted_more e gs ended i;
        players = laws.entered s es e i;
        starts = command_starts laws s es t pass Tick i;
        lefts = command_lefts t pass Tick i;
      }) ∙ sym (with_ends_is (suc (length es)) (nat_lt t s.ends) gs (standing s (history s es)))

  -- once a wave begins its games
  pub standing_waved : (t pass n : ℕ) → standing s (history s (es ++ wave_entry t pass n ∷ [])) ≡ with_starts (starts_by s (history s es) (wave_entry t pass n)) (with_alone (record { entry = length es; players = (plan_at s (history s es) n).alone }) (standing s (history s es)))
  unfolding lefts_by
  standing_waved t pass n =
      let e = wave_entry t pass n in
      let h = history s es in
      let alone : LeftAlone = record { entry = length es; players = (plan_at s h n).alone } in
      let left : (history s (es ++ e ∷ [])).lefts ≡ h.lefts ++ alone ∷ [] = lefts_more e ∙ (λ i. h.lefts ++ record { entry = length (laws.entries s es i); players = (plan_at s h n).alone } ∷ []) in
      (λ i. record {
        places = laws.places.wave s es e n refl i;
        games = none_counted e (λ g. refl) i;
        players = laws.entered s es e i;
        starts = starts_more laws s es e i;
        lefts = left i;
      }) ∙ sym (with_starts_is (starts_by s h e) (with_alone alone (standing s h)))
