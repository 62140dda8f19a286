-- What the calls of a lobby make of a step.
use Rattle.std.proofs.Common.{◌≡◌, ◌≢◌, ℕ, zero, suc, List, [], ◌∷◌, ◌++◌, length, Option, Some, None, Bool, true, false, cond, Result, Ok, Err, refl, sym, ap, ◌∙◌, subst}
use Rattle.std.specs.Prelude.{nat_le, IfOk, OnErr}
use Rattle.std.specs.declared.alloc.AllocError.{AllocError}
use Rattle.conn.specs.Moments.{Ticks}
use Rattle.entries.specs.declared.journal.Entry.{Entry}
use Rattle.entries.specs.declared.setup.Setup.{Setup}
use Rattle.entries.specs.Limits.{max_entries}
use Rattle.entries.specs.Ranges.{IsGood}
use Rattle.game_room.specs.declared.view.GameView.{GameView}
use Rattle.wave.specs.declared.snapshot.Snapshot.{Snapshot}
use Rattle.wave.specs.Rankings.{IsRanking}
use Rattle.arena_history.specs.Endings.{ended_by}
use Rattle.arena_history.specs.Snapshots.{candidates, snapshot}
use Rattle.arena_history.specs.Stamps.{stamp_of}
use Rattle.arena_history.specs.Waves.{history}
use Rattle.arena_rules.specs.declared.command.Command.TheVariants.{Tick}
use Rattle.arena_rules.specs.declared.commit_fault.CommitFault.{CommitFault}
use Rattle.arena_rules.specs.declared.query.Reply.{Reply}
use Rattle.arena_rules.specs.declared.query.Reply.TheVariants as reply
use Rattle.arena_rules.specs.declared.refusal.Refusal.{Refusal}
use Rattle.arena_rules.specs.declared.refusal.Refusal.TheVariants as refusal
use Rattle.arena_rules.specs.declared.view.MeView.{MeView}
use Rattle.arena_rules.specs.Answers.{reply_to}
use Rattle.arena_rules.specs.Commands.{entry_of}
use Rattle.arena_rules.specs.Commits.{Commits}
use Rattle.arena_rules.specs.Legal.{IsLegal}
use Rattle.arena_rules.specs.RankingLaws.{SnapshotsAreRankings}
use Rattle.arena_rules.specs.RefusalLaws.{LooksEndGames}
use Rattle.arena_rules.specs.Verdicts.{or_full, some_due, verdict}
use Rattle.arena_core.specs.declared.fault.ApplyFault.{ApplyFault}
use Rattle.arena_core.specs.declared.fault.ApplyFault.TheVariants as apply_fault
use Rattle.arena_lock.specs.Turns as lock
use Rattle.arena_lock.specs.Turns.{Pass, Turned, Commanded}
use Rattle.director.specs.Answers.{ended_if_refused, ended_in}
use Rattle.director.specs.Steps.{state_of, Step, with_look, Looked, AddedNothing, FoundFull, Looks, Snapped, Committed}

-- the refusal of a look at these entries, where some game is due or none is
abbrev pub look_verdict : List Entry → Bool → Option Refusal
look_verdict es due = or_full es (cond due None (Some refusal.NothingDue))

is_verdict : (s : Setup) (es : List Entry) (t : ℕ) → verdict s (history s es) t Tick ≡ look_verdict (history s es).entries (some_due s (history s es) t)
unfolding verdict
is_verdict s es t = refl

due_if_granted : (es : List Entry) (due : Bool) → look_verdict es due ≡ None → due ≡ true
due_if_granted es true is = refl
due_if_granted es false is = cc

none_due : (es : List Entry) (due : Bool) → look_verdict es due ≡ Some refusal.NothingDue → due ≡ false
none_due es false is = refl
none_due es true is = by_length (nat_le max_entries (length es)) is
  where
    by_length : (full : Bool) → cond full (Some refusal.Full) None ≡ Some refusal.NothingDue → true ≡ false
    by_length true is = cc
    by_length false is = cc

-- which refusals a look may get
abbrev of_look : Refusal → Bool
of_look refusal.NothingDue = true
of_look refusal.Full = true
of_look _ = false

look_refused : (es : List Entry) (due : Bool) (r : Refusal) → look_verdict es due ≡ Some r → of_look r ≡ true
look_refused es false r is = let same : refusal.NothingDue ≡ r = cc in ap of_look (sym same)
look_refused es true r is = by_length (nat_le max_entries (length es)) is
  where
    by_length : (full : Bool) → cond full (Some refusal.Full) None ≡ Some r → of_look r ≡ true
    by_length true is = let same : refusal.Full ≡ r = cc in ap of_look (sym same)
    by_length false is = cc

none_of : {A : Type 0} (xs : List A) → (xs ≢ [] → ⊥) → zero ≡ length xs
none_of [] never = refl
none_of (x ∷ xs) never = absurd (never (λ is. let bad : x ∷ xs ≡ [] = is in cc))

-- a look that is refused since nothing is due would end no game
nothing_ended : LooksEndGames → (s : Setup) (es : List Entry) (t pass : ℕ) → some_due s (history s es) t ≡ false → zero ≡ length (ended_by s (history s es) (entry_of t pass Tick))
nothing_ended law s es t pass none =
    none_of (ended_by s (history s es) (entry_of t pass Tick)) (λ some. let granted : cond (some_due s (history s es) t) None (Some refusal.NothingDue) ≡ None = (law s es (entry_of t pass Tick) refl).1 some in never (some_due s (history s es) t) none granted)
  where
    never : (due : Bool) → due ≡ false → cond due None (Some refusal.NothingDue) ≡ None → ⊥
    never true none granted = cc
    never false none granted = cc

-- one that is not refused ends one
some_ended : LooksEndGames → (s : Setup) (es : List Entry) (t pass : ℕ) → some_due s (history s es) t ≡ true → ended_by s (history s es) (entry_of t pass Tick) ≢ []
some_ended law s es t pass due = (law s es (entry_of t pass Tick) refl).0 (ap (λ d. cond d None (Some refusal.NothingDue)) due)

with_some : (es : List Entry) (e : Entry) (k : ℕ) → k ≢ zero → with_look es e k ≡ es ++ e ∷ []
with_some es e zero some = absurd (some refl)
with_some es e (suc k) some = refl

no_items : {A : Type 0} (xs : List A) → length xs ≡ zero → xs ≡ []
no_items [] is = refl
no_items (x ∷ xs) is = cc

-- how many games a reply says were ended
abbrev ticked_in : Option Reply → ℕ
ticked_in (Some (reply.Ticked k)) = k
ticked_in _ = zero

ended_is : (s : Setup) (es : List Entry) (t pass k : ℕ) → reply_to s (history s es) t pass Tick ≡ Some (reply.Ticked k) → length (ended_by s (history s es) (entry_of t pass Tick)) ≡ k
unfolding reply_to
ended_is s es t pass k is = ap ticked_in is

module _ (s : Setup) (old new : Pass) (m0 m1 : Option (List ℕ)) (now : ℕ) (found left : List Entry) (ticks : Ticks m0 m1 now) (turn : Turned old new found left) where
  abbrev pub step_of : Step (state_of old m0) (state_of new m1)
  step_of = record { now = now; found = found; ticks = ticks; turn = subst (λ (l : List Entry). Turned old new found l) (sym (ap (λ (p : Pass). p.seen) turn.after)) turn }

  abbrev t : ℕ
  t = stamp_of found now

  seen_left : new.seen ≡ left
  seen_left = ap (λ (p : Pass). p.seen) turn.after

  abbrev added_nothing : left ≡ found → AddedNothing (state_of old m0) (state_of new m1)
  added_nothing is = record { step = step_of; entries = seen_left ∙ is }

  looked_some : LooksEndGames → (k : ℕ) → verdict s (history s found) t Tick ≡ None → left ≡ found ++ entry_of t old.number Tick ∷ [] → reply_to s (history s found) t old.number Tick ≡ Some (reply.Ticked k) → Looked s (state_of old m0) (state_of new m1) k
  looked_some law k granted more answered =
      let due : some_due s (history s found) t ≡ true = due_if_granted (history s found).entries (some_due s (history s found) t) (sym (is_verdict s found t) ∙ granted) in
      let games : length (ended_by s (history s found) (entry_of t old.number Tick)) ≡ k = ended_is s found t old.number k answered in
      let some : k ≢ zero = λ none. some_ended law s found t old.number due (no_items (ended_by s (history s found) (entry_of t old.number Tick)) (games ∙ none)) in
      record {
        step = step_of;
        entries = seen_left ∙ (more ∙ sym (with_some found (entry_of t old.number Tick) k some));
        games = sym games;
        none = (λ none. absurd (some none), λ none. let bad : true ≡ false = sym due ∙ none in cc);
      }

  looked_none : LooksEndGames → verdict s (history s found) t Tick ≡ Some refusal.NothingDue → left ≡ found → Looked s (state_of old m0) (state_of new m1) zero
  looked_none law refused same =
      let none : some_due s (history s found) t ≡ false = none_due (history s found).entries (some_due s (history s found) t) (sym (is_verdict s found t) ∙ refused) in
      record {
        step = step_of;
        entries = seen_left ∙ same;
        games = nothing_ended law s found t old.number none;
        none = (λ is. none, λ is. refl);
      }

  found_full : verdict s (history s found) t Tick ≡ Some refusal.Full → left ≡ found → FoundFull s (state_of old m0) (state_of new m1)
  found_full refused same = record {
    nothing = added_nothing same;
    refused = subst (λ (es : List Entry). verdict s (history s es) t Tick ≡ Some refusal.Full) (sym (seen_left ∙ same)) refused;
  }

  refused : LooksEndGames → (r : Refusal) → verdict s (history s found) t Tick ≡ Some r → left ≡ found → Looks s (state_of old m0) (state_of new m1) (ended_if_refused r)
  refused law refusal.NothingDue is same = looked_none law is same
  refused law refusal.Full is same = found_full is same
  refused law r is same = absurd (let bad : false ≡ true = look_refused (history s found).entries (some_due s (history s found) t) r (sym (is_verdict s found t) ∙ is) in cc)

  -- a commit
  committed : (n : ℕ) (result : Result ℕ CommitFault) → Commits s found old.number now n left result → Committed s (state_of old m0) (state_of new m1) n result
  committed n result answer = record { step = step_of; answer = subst (λ (l : List Entry). Commits s found old.number now n l result) (sym seen_left) answer }

  -- a snapshot
  snapped : (snap : Snapshot) → left ≡ found → snap ≡ snapshot s (history s found) t → Snapped s (state_of old m0) (state_of new m1) snap
  snapped snap same is = record { nothing = added_nothing same; taken = is ∙ ap (λ (es : List Entry). snapshot s (history s es) t) (sym (seen_left ∙ same)) }

other_me : (s : Setup) (es : List Entry) (t pass : ℕ) (v : MeView) → reply_to s (history s es) t pass Tick ≡ Some (reply.Me v) → ⊥
unfolding reply_to
other_me s es t pass v is = let bad : Some (reply.Ticked (length (ended_by s (history s es) (entry_of t pass Tick)))) ≡ Some (reply.Me v) = is in cc

other_game : (s : Setup) (es : List Entry) (t pass : ℕ) (v : GameView) → reply_to s (history s es) t pass Tick ≡ Some (reply.Game v) → ⊥
unfolding reply_to
other_game s es t pass v is = let bad : Some (reply.Ticked (length (ended_by s (history s es) (entry_of t pass Tick)))) ≡ Some (reply.Game v) = is in cc

module _ (s : Setup) (old new : Pass) (m0 m1 : Option (List ℕ)) (now : ℕ) (ticks : Ticks m0 m1 now) where
  pub by_command : LooksEndGames → (answer : Result Reply ApplyFault) → Commanded s old new now Tick answer → Looks s (state_of old m0) (state_of new m1) (ended_in answer)
  by_command law (Ok (reply.Ticked k)) c = looked_some s old new m0 m1 now c.found c.left ticks c.turn law k c.answer.not_refused c.answer.entries c.answer.reply
  by_command law (Ok (reply.Me v)) c = absurd (other_me s c.found (stamp_of c.found now) old.number v c.answer.reply)
  by_command law (Ok (reply.Game v)) c = absurd (other_game s c.found (stamp_of c.found now) old.number v c.answer.reply)
  by_command law (Err (apply_fault.Refused r)) c = refused s old new m0 m1 now c.found c.left ticks c.turn law r c.answer.0 c.answer.1
  by_command law (Err apply_fault.OutOfMemory) c = added_nothing s old new m0 m1 now c.found c.left ticks c.turn c.answer.1

  pub by_commit : (n : ℕ) (result : Result ℕ CommitFault) → lock.Committed s old new now n result → Committed s (state_of old m0) (state_of new m1) n result
  by_commit n result c = committed s old new m0 m1 now c.found c.left ticks c.turn n result c.answer

  pub by_snapshot : (result : Result Snapshot AllocError) → lock.Snapped s old new now result → IfOk result (λ snap. Snapped s (state_of old m0) (state_of new m1) snap)
  by_snapshot (Ok snap) c = snapped s old new m0 m1 now c.found c.found ticks c.turn snap refl c.answer
  by_snapshot (Err e) c = tt

  pub by_no_snapshot : (result : Result Snapshot AllocError) → lock.Snapped s old new now result → OnErr result (AddedNothing (state_of old m0) (state_of new m1))
  by_no_snapshot (Ok snap) c = tt
  by_no_snapshot (Err e) c = added_nothing s old new m0 m1 now c.found c.found ticks c.turn refl

rows_of : (s : Setup) (es : List Entry) (t : ℕ) (snap : Snapshot) → snap ≡ snapshot s (history s es) t → candidates s (history s es) ≡ snap.rows
unfolding snapshot
rows_of s es t snap is = ap (λ (made : Snapshot). made.rows) (sym is)

-- the rows of a snapshot of what the pass has seen then can be planned
pub ranked : SnapshotsAreRankings → (s : Setup) (old new : Pass) (now : ℕ) → IsGood s → IsLegal s new.seen → (result : Result Snapshot AllocError) → lock.Snapped s old new now result → IfOk result (λ snap. IsRanking snap.rows)
ranked law s old new now good legal (Ok snap) c =
    let seen : new.seen ≡ c.found = ap (λ (p : Pass). p.seen) c.turn.after in
    subst IsRanking (rows_of s c.found (stamp_of c.found now) snap c.answer) (law s c.found good (subst (λ (es : List Entry). IsLegal s es) seen legal))
ranked law s old new now good legal (Err e) c = tt
