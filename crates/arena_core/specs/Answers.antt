-- What a command is answered and what it leaves, and what a question is answered.
use Rattle.std.specs.Prelude.{◌≡◌, ℕ, List, [], ◌∷◌, ◌++◌, Some, None, Result, Ok, Err}
use Rattle.std.specs.Option.{IsSome}
use Rattle.entries.specs.declared.journal.Entry.{Entry}
use Rattle.entries.specs.declared.setup.Setup.{Setup}
use Rattle.arena_history.specs.History.{History}
use Rattle.arena_history.specs.Stamps.{stamp_of}
use Rattle.arena_history.specs.Waves.{history}
use Rattle.arena_rules.specs.declared.command.Command.{Command}
use Rattle.arena_rules.specs.declared.query.Answer.{Answer}
use Rattle.arena_rules.specs.declared.query.Query.{Query}
use Rattle.arena_rules.specs.declared.query.Query.TheVariants.{Arena, Standing, Teams, Me, Game, Journal}
use Rattle.arena_rules.specs.declared.query.Reply.{Reply}
use Rattle.arena_rules.specs.Answers.{answer_to, reply_to}
use Rattle.arena_rules.specs.Commands.{entry_of}
use Rattle.arena_rules.specs.Verdicts.{verdict}
use Rattle.std.specs.declared.alloc.AllocError.{AllocError}
use Rattle.arena_core.specs.declared.fault.ApplyFault.{ApplyFault}
use Rattle.arena_core.specs.declared.fault.ApplyFault.TheVariants as apply_fault
use Rattle.arena_core.specs.declared.fault.QueryFault.{QueryFault}
use Rattle.arena_core.specs.declared.fault.QueryFault.TheVariants as query_fault

-- a command that is not refused adds its entry, and is answered as that entry has it
pub record IsObeyed (s : Setup) (old : List Entry) (pass t : ℕ) (c : Command) (new : List Entry) (r : Reply) : Type 0 where
  pub not_refused : verdict s (history s old) t c ≡ None
  pub entries : new ≡ old ++ entry_of t pass c ∷ []
  pub reply : reply_to s (history s old) t pass c ≡ Some r

-- what a command of a pass at a stamp is answered, and what it leaves of the entries: it is obeyed, or refused as the verdict says
-- and adds no entry; want of memory comes only where it is not refused
abbrev pub AnswersAt : Setup → List Entry → ℕ → ℕ → Command → List Entry → Result Reply ApplyFault → Type 0
AnswersAt s old pass t c new (Ok r) = IsObeyed s old pass t c new r
AnswersAt s old pass t c new (Err (apply_fault.Refused r)) = (verdict s (history s old) t c ≡ Some r) × (new ≡ old)
AnswersAt s old pass t c new (Err apply_fault.OutOfMemory) = (verdict s (history s old) t c ≡ None) × (new ≡ old)

-- the same at a moment of the clock, with the stamp that the command has there
abbrev pub Answers : Setup → List Entry → ℕ → ℕ → Command → List Entry → Result Reply ApplyFault → Type 0
Answers s old pass now c new result = AnswersAt s old pass (stamp_of old now) c new result

-- what a question at a history and a stamp is answered: what its answer is, or that there is none; want of memory comes only
-- where there is one
abbrev pub TellsAt : Setup → History → ℕ → Query → Result Answer QueryFault → Type 0
TellsAt s h t q (Ok a) = answer_to s h t q ≡ Some a
TellsAt s h t q (Err query_fault.NoGame) = answer_to s h t q ≡ None
TellsAt s h t q (Err query_fault.OutOfMemory) = IsSome (answer_to s h t q)

-- the same at a moment of the clock
abbrev pub Tells : Setup → List Entry → ℕ → Query → Result Answer QueryFault → Type 0
Tells s es now q result = TellsAt s (history s es) (stamp_of es now) q result

-- a question whose answer has no list
abbrev pub IsSmall : Query → Type 0
IsSmall Arena = Unit {0}
IsSmall (Standing k) = ⊥
IsSmall Teams = ⊥
IsSmall (Me p) = Unit {0}
IsSmall (Game g) = Unit {0}
IsSmall (Journal k) = ⊥

-- an answer, or that no memory was found for it
abbrev pub told : Result Answer AllocError → Result Answer QueryFault
told (Ok a) = Ok a
told (Err e) = Err query_fault.OutOfMemory
