-- What a request comes to at a length of a history and a stamp.
use Rattle.std.specs.Prelude.{◌≡◌, ℕ, ◌-◌, ◌<◌, ◌≤◌, List, take, length, slice_get, Option, Some, None, Ok, Err}
use Rattle.conn.specs.Moments.{first_moment}
use Rattle.entries.specs.declared.journal.Entry.{Entry}
use Rattle.entries.specs.declared.setup.Setup.{Setup}
use Rattle.entries.specs.Limits.{max_stamp}
use Rattle.arena_history.specs.History.{History}
use Rattle.arena_history.specs.Stamps.{last_stamp, stamp_of}
use Rattle.arena_history.specs.Waves.{history}
use Rattle.arena_rules.specs.declared.command.Command.{Command}
use Rattle.arena_rules.specs.declared.query.Reply.{Reply}
use Rattle.arena_rules.specs.Answers.{answer_to, reply_to}
use Rattle.arena_rules.specs.Commands.{entry_of}
use Rattle.arena_rules.specs.Verdicts.{verdict}
use Rattle.http_lines.specs.declared.request.RequestHead.{RequestHead}
use Rattle.api.specs.declared.call.Call.{Call}
use Rattle.api.specs.declared.call.Call.TheVariants as call
use Rattle.api.specs.Calls.{call_of}
use Rattle.host.specs.Exchanges.{Deed, in_error, accepted, refused, told, untold, starved}

-- it is the stamp of the clock's next moment behind these entries, where the clock tells its moments
abbrev pub TellsStamp : Option (List ℕ) → List Entry → ℕ → Type 0
TellsStamp None es t = Unit {0}
TellsStamp (Some moments) es t = t ≡ stamp_of es (first_moment moments)

-- a stamp that may stand behind these entries, and that of the clock's next moment there
pub record IsStamp (moments : Option (List ℕ)) (es : List Entry) (t : ℕ) : Type 0 where
  pub not_before : last_stamp es ≤ t
  pub most : t ≤ max_stamp
  pub told : TellsStamp moments es t

-- a turn without an entry at the length n, where m entries had been seen: n is no less, and h has so many; and its stamp
pub record IsTurn (moments : Option (List ℕ)) (h : List Entry) (m n t : ℕ) : Type 0 where
  pub grows : m ≤ n
  pub within : n ≤ length h
  pub stamp : IsStamp moments (take n h) t

-- the history of the first n entries
abbrev pub after_first : Setup → List Entry → ℕ → History
after_first s h n = history s (take n h)

-- a command of pass i is accepted: the last of the first n entries is its entry, at the stamp of those before it, which do not
-- refuse it, and this is the reply behind it
pub record IsAccepted (s : Setup) (moments : Option (List ℕ)) (h : List Entry) (i m n t : ℕ) (c : Command) (reply : Reply) : Type 0 where
  pub grows : m < n
  pub entry : slice_get h (n - 1) ≡ Some (entry_of t i c)
  pub stamp : IsStamp moments (take (n - 1) h) t
  pub not_refused : verdict s (after_first s h (n - 1)) t c ≡ None
  pub replied : reply_to s (after_first s h (n - 1)) t i c ≡ Some reply

-- what a request of pass i comes to where the pass has then seen n entries of the history h, and had seen m: the error of its
-- call, and it sees no more; a command that is accepted, or that the first n entries refuse; a question, whose answer is that of
-- the first n entries, or which they do not answer; or a turn without an answer
abbrev pub Comes : Setup → List (List ℕ) → Option (List ℕ) → List Entry → ℕ → ℕ → ℕ → RequestHead → Deed → Type 0
Comes s keys moments h i m n request (in_error e) = (call_of keys request ≡ Err e) × (n ≡ m)
Comes s keys moments h i m n request (accepted t c reply) =
    (call_of keys request ≡ Ok (call.Command c)) × IsAccepted s moments h i m n t c reply
Comes s keys moments h i m n request (refused t c refusal) =
    (call_of keys request ≡ Ok (call.Command c)) × IsTurn moments h m n t × (verdict s (after_first s h n) t c ≡ Some refusal)
Comes s keys moments h i m n request (told t q answer) =
    (call_of keys request ≡ Ok (call.Query q)) × IsTurn moments h m n t × (answer_to s (after_first s h n) t q ≡ Some answer)
Comes s keys moments h i m n request (untold t q) =
    (call_of keys request ≡ Ok (call.Query q)) × IsTurn moments h m n t × (answer_to s (after_first s h n) t q ≡ None)
Comes s keys moments h i m n request (starved t) =
    ((asked : Call) × (call_of keys request ≡ Ok asked)) × IsTurn moments h m n t
