-- What a step, and several in a row, leave of the pass and of the clock.
use Rattle.std.proofs.Common.{◌≡◌, ℕ, zero, suc, ◌+◌, List, [], ◌∷◌, ◌++◌, length, map, Option, Some, None, Ok, Err, refl, sym, ap, ◌∙◌, subst, append_assoc, append-nil, zero-add, suc-add, length-append}
use Rattle.conn.specs.Moments.{Ticks, moments_after}
use Rattle.entries.specs.declared.journal.Entry.{Entry}
use Rattle.entries.specs.declared.journal.What.{What}
use Rattle.entries.specs.declared.setup.Setup.{Setup}
use Rattle.pair_cost.specs.declared.candidate.Pair.{Pair}
use Rattle.arena_history.specs.Stamps.{stamp_of}
use Rattle.arena_history.specs.Waves.{history, started}
use Rattle.arena_rules.specs.declared.commit_fault.CommitFault.{CommitFault}
use Rattle.arena_rules.specs.declared.commit_fault.CommitFault.TheVariants as fault
use Rattle.arena_rules.specs.Commits.{Commits, with_wave, wave_entry}
use Rattle.turnstile.specs.Passes.{own_of}
use Rattle.arena_lock.specs.Turns.{Pass, pass_of}
use Rattle.director.specs.declared.turn.WaveEnd.TheVariants.{Started}
use Rattle.director.specs.Gains.{moments_left, Gave, Spent, looks_of, waves_of, Gained}
use Rattle.director.specs.Steps.{State, Step, look, Looked, AddedNothing, Committed}

abbrev kinds : List Entry → List What
kinds es = map (λ (e : Entry). e.what) es

kinds-append : (xs ys : List Entry) → kinds (xs ++ ys) ≡ kinds xs ++ kinds ys
kinds-append [] ys = refl
kinds-append (x ∷ xs) ys = ap (λ l. x.what ∷ l) (kinds-append xs ys)

-- from the one state_of to the other: the pass has its number still, its history goes on behind what it had seen, its turns
-- gained these lengths, the clock gave a moment for each, and its own entries gained these kinds
pub record Grew (a b : State) (lengths : List ℕ) (own : List What) : Type 0 where
  pub number : b.pass.number ≡ a.pass.number
  pub more : List Entry
  pub seen : b.pass.seen ≡ a.pass.seen ++ more
  pub spent : Spent a b lengths
  pub gained : Gained a.pass b.pass own

gave_none : (m : Option (List ℕ)) → Gave m m 0
gave_none None = tt
gave_none (Some told) = refl

gave_one : (m0 m1 : Option (List ℕ)) (now : ℕ) → Ticks m0 m1 now → Gave m0 m1 1
gave_one None m1 now ticks = tt
gave_one (Some told) m1 now ticks = ticks.1

left_add : (j k : ℕ) (told : List ℕ) → moments_left (j + k) told ≡ moments_left k (moments_left j told)
left_add zero k told = ap (λ n. moments_left n told) (zero-add k)
left_add (suc j) k told = ap (λ n. moments_left n told) (suc-add j k) ∙ left_add j k (moments_after told)

gave_more : (m0 m1 m2 : Option (List ℕ)) (j k : ℕ) → Gave m0 m1 j → Gave m1 m2 k → Gave m0 m2 (j + k)
gave_more None m1 m2 j k first next = tt
gave_more (Some told) m1 m2 j k first next =
    let later : m2 ≡ Some (moments_left k (moments_left j told)) = subst (λ m. Gave m m2 k) first next in
    later ∙ ap (λ (l : List ℕ). Some l) (sym (left_add j k told))

-- a step that added these entries
pub by_step : (a b : State) (step : Step a b) (added : List Entry) → b.pass.seen ≡ step.found ++ added → Grew a b (length b.pass.seen ∷ []) (kinds added)
by_step a b step added is = record {
  number = ap (λ (p : Pass). p.number) step.turn.after;
  more = step.turn.goes_on.rest ++ added;
  seen = is ∙ (ap (λ l. l ++ added) step.turn.goes_on.goes_on ∙ append_assoc a.pass.seen step.turn.goes_on.rest added);
  spent = record { turns = ap (λ (p : Pass). p.turns) step.turn.after; moments = gave_one a.moments b.moments step.now step.ticks };
  gained = ap kinds (step.turn.own added is) ∙ kinds-append (own_of pass_of a.pass) added;
}

pub in_a_row : (a b c : State) (first next : List ℕ) (mine more : List What) → Grew a b first mine → Grew b c next more → Grew a c (first ++ next) (mine ++ more)
in_a_row a b c first next mine more g h = record {
  number = h.number ∙ g.number;
  more = g.more ++ h.more;
  seen = h.seen ∙ (ap (λ l. l ++ h.more) g.seen ∙ append_assoc a.pass.seen g.more h.more);
  spent = record {
    turns = h.spent.turns ∙ (ap (λ l. l ++ next) g.spent.turns ∙ append_assoc a.pass.turns first next);
    moments = subst (λ n. Gave a.moments c.moments n) (sym (length-append first next)) (gave_more a.moments b.moments c.moments (length first) (length next) g.spent.moments h.spent.moments);
  };
  gained = h.gained ∙ (ap (λ l. l ++ more) g.gained ∙ append_assoc (kinds (own_of pass_of a.pass)) mine more);
}

pub by_nothing : (a b : State) → AddedNothing a b → Grew a b (length b.pass.seen ∷ []) []
by_nothing a b n = by_step a b n.step [] (n.entries ∙ sym (append-nil n.step.found))

pub by_look : (s : Setup) (a b : State) (ended : ℕ) → Looked s a b ended → Grew a b (length b.pass.seen ∷ []) (looks_of ended)
by_look s a b zero l = by_step a b l.step [] (l.entries ∙ sym (append-nil l.step.found))
by_look s a b (suc ended) l = by_step a b l.step (look l.step ∷ []) l.entries

module _ (a b : State) (step : Step a b) (stamp n : ℕ) where
  by_wave : (pairs : List Pair) (count : ℕ) → b.pass.seen ≡ with_wave step.found (wave_entry stamp a.pass.number n) pairs → count ≡ length pairs → Grew a b (length b.pass.seen ∷ []) (waves_of n (Started count))
  by_wave [] count is counted = subst (λ k. Grew a b (length b.pass.seen ∷ []) (waves_of n (Started k))) (sym counted) (by_step a b step [] (is ∙ sym (append-nil step.found)))
  by_wave (pair ∷ pairs) count is counted = subst (λ k. Grew a b (length b.pass.seen ∷ []) (waves_of n (Started k))) (sym counted) (by_step a b step (wave_entry stamp a.pass.number n ∷ []) is)

pub by_started : (s : Setup) (a b : State) (n count : ℕ) → Committed s a b n (Ok count) → Grew a b (length b.pass.seen ∷ []) (waves_of n (Started count))
by_started s a b n count c = by_wave a b c.step (stamp_of c.step.found c.step.now) n (started s (history s c.step.found) n) count c.answer.entries c.answer.counted

pub by_fault : (s : Setup) (a b : State) (n : ℕ) (f : CommitFault) → Committed s a b n (Err f) → Grew a b (length b.pass.seen ∷ []) []
by_fault s a b n f c = by_step a b c.step [] (same f c.answer ∙ sym (append-nil c.step.found))
  where
    same : (f : CommitFault) → Commits s c.step.found a.pass.number c.step.now n b.pass.seen (Err f) → b.pass.seen ≡ c.step.found
    same fault.Early x = x.1
    same fault.Closed x = x.1
    same fault.Full x = x.1
    same fault.OutOfMemory x = x.2

pub stayed : (a : State) → Grew a a [] []
stayed a = record {
  number = refl;
  more = [];
  seen = sym (append-nil a.pass.seen);
  spent = record { turns = sym (append-nil a.pass.turns); moments = gave_none a.moments };
  gained = sym (append-nil (kinds (own_of pass_of a.pass)));
}
