-- The reply to a command whose entry is the last, and the answer to a question.
use Rattle.std.proofs.Common.{◌≡◌, ℕ, List, [], ◌∷◌, ◌++◌, length, Option, Some, None, Bool, true, false, refl, sym, ap, ◌∙◌, subst}
use Rattle.std.specs.Prelude.{Result, Ok, Err, IfOk, cond, nat_lt, nat_le, ◌==◌}
use Rattle.std.specs.Option.{IsSome, option_map}
use Rattle.std.specs.declared.alloc.AllocError.{AllocError}
use Rattle.entries.specs.declared.action.Action.{Action}
use Rattle.entries.specs.declared.journal.Entry.{Entry}
use Rattle.entries.specs.declared.setup.Setup.{Setup}
use Rattle.game_room.specs.declared.view.GameView.{GameView}
use Rattle.arena_history.specs.Endings.{ended_by}
use Rattle.arena_history.specs.History.{History}
use Rattle.arena_history.specs.Waves.{after, started, history}
use Rattle.arena_rules.specs.declared.command.Command.{Command}
use Rattle.arena_rules.specs.declared.command.Command.TheVariants.{Enter, Pause, Leave, Act, Tick}
use Rattle.arena_rules.specs.declared.query.Answer.{Answer}
use Rattle.arena_rules.specs.declared.query.Query.{Query}
use Rattle.arena_rules.specs.declared.query.Reply.TheVariants as reply
use Rattle.arena_rules.specs.declared.view.MeView.{MeView}
use Rattle.arena_rules.specs.Answers.{answer_to, reply_to, shown_at}
use Rattle.arena_rules.specs.declared.commit_fault.CommitFault.{CommitFault}
use Rattle.arena_rules.specs.declared.commit_fault.CommitFault.TheVariants as fault
use Rattle.arena_rules.specs.Commands.{entry_of}
use Rattle.arena_rules.specs.Commits.{IsCommitRefused, commit_refusal, lacks_room}
use Rattle.arena_rules.specs.Views.{me_view}
use Rattle.arena_core.specs.Answers.{TellsAt, told}
use Rattle.arena_core.specs.Below.{LawsOfHistories}

module _ (laws : LawsOfHistories) (s : Setup) (es all : List Entry) (t pass : ℕ) where
  grown : (c : Command) → all ≡ es ++ entry_of t pass c ∷ [] → history s all ≡ after s (history s es) (entry_of t pass c)
  grown c last = ap (history s) last ∙ laws.grow s es (entry_of t pass c)

  -- a player who entered, paused or left

  pub entered_reply : (c : Command) (p : ℕ) (m : MeView) → all ≡ es ++ entry_of t pass c ∷ [] → c ≡ Enter p → m ≡ me_view s (history s all) p → Some (reply.Me m) ≡ reply_to s (history s es) t pass c
  unfolding reply_to
  entered_reply c p m last is so = subst (λ x. all ≡ es ++ entry_of t pass x ∷ [] → Some (reply.Me m) ≡ reply_to s (history s es) t pass x) (sym is) (λ l. ap (λ v. Some (reply.Me v)) (so ∙ ap (λ h. me_view s h p) (grown (Enter p) l))) last

  pub paused_reply : (c : Command) (p : ℕ) (m : MeView) → all ≡ es ++ entry_of t pass c ∷ [] → c ≡ Pause p → m ≡ me_view s (history s all) p → Some (reply.Me m) ≡ reply_to s (history s es) t pass c
  unfolding reply_to
  paused_reply c p m last is so = subst (λ x. all ≡ es ++ entry_of t pass x ∷ [] → Some (reply.Me m) ≡ reply_to s (history s es) t pass x) (sym is) (λ l. ap (λ v. Some (reply.Me v)) (so ∙ ap (λ h. me_view s h p) (grown (Pause p) l))) last

  pub left_reply : (c : Command) (p : ℕ) (m : MeView) → all ≡ es ++ entry_of t pass c ∷ [] → c ≡ Leave p → m ≡ me_view s (history s all) p → Some (reply.Me m) ≡ reply_to s (history s es) t pass c
  unfolding reply_to
  left_reply c p m last is so = subst (λ x. all ≡ es ++ entry_of t pass x ∷ [] → Some (reply.Me m) ≡ reply_to s (history s es) t pass x) (sym is) (λ l. ap (λ v. Some (reply.Me v)) (so ∙ ap (λ h. me_view s h p) (grown (Leave p) l))) last

  -- the game in which a player acted
  pub acted_reply : (c : Command) (p number : ℕ) (a : Action) (v : Option GameView) → all ≡ es ++ entry_of t pass c ∷ [] → c ≡ Act p number a → v ≡ shown_at s (history s all) t number → option_map reply.Game v ≡ reply_to s (history s es) t pass c
  unfolding reply_to
  acted_reply c p number a v last is so = subst (λ x. all ≡ es ++ entry_of t pass x ∷ [] → option_map reply.Game v ≡ reply_to s (history s es) t pass x) (sym is) (λ l. ap (option_map reply.Game) (so ∙ ap (λ h. shown_at s h t number) (grown (Act p number a) l))) last

  -- how many games a look ended
  pub looked_reply : (c : Command) (count : ℕ) → c ≡ Tick → count ≡ length (ended_by s (history s es) (entry_of t pass c)) → Some (reply.Ticked count) ≡ reply_to s (history s es) t pass c
  unfolding reply_to
  looked_reply c count is so = subst (λ x. count ≡ length (ended_by s (history s es) (entry_of t pass x)) → Some (reply.Ticked count) ≡ reply_to s (history s es) t pass x) (sym is) (λ n. ap (λ k. Some (reply.Ticked k)) n) so

-- an answer for which memory may have been wanting
pub told_tells : (s : Setup) (h : History) (t : ℕ) (q : Query) (r : Result Answer AllocError) → IfOk r (λ a. answer_to s h t q ≡ Some a) → IsSome (answer_to s h t q) → TellsAt s h t q (told r)
told_tells s h t q (Ok a) is some = is
told_tells s h t q (Err e) is some = some

-- a wave is not refused for want of memory
never_memory : (early late none full : Bool) → cond early (Some fault.Early) (cond late (Some fault.Closed) (cond none None (cond full (Some fault.Full) None))) ≡ Some fault.OutOfMemory → ⊥
never_memory true late none full is = cc
never_memory false true none full is = cc
never_memory false false true full is = cc
never_memory false false false true is = cc
never_memory false false false false is = cc

-- a refused commit
pub commit_refused : (s : Setup) (h : History) (t n : ℕ) (es : List Entry) (f : CommitFault) → commit_refusal s h t n ≡ Some f → IsCommitRefused (commit_refusal s h t n) (started s h n) es es f
unfolding commit_refusal
commit_refused s h t n es fault.Early is = (is, refl)
commit_refused s h t n es fault.Closed is = (is, refl)
commit_refused s h t n es fault.Full is = (is, refl)
commit_refused s h t n es fault.OutOfMemory is = absurd (never_memory (nat_lt t s.starts) (nat_le s.ends t) (length (started s h n) == 0) (lacks_room h (length (started s h n))) is)
