-- What the requests of a connection come to, one after another.
use Rattle.std.specs.Prelude.{ℕ, Bool, true, false, List, [], ◌∷◌, map, filter, flat_map}
use Rattle.entries.specs.declared.journal.Entry.{Entry}
use Rattle.arena_rules.specs.declared.command.Command.{Command}
use Rattle.arena_rules.specs.declared.query.Answer.{Answer}
use Rattle.arena_rules.specs.declared.query.Query.{Query}
use Rattle.arena_rules.specs.declared.query.Reply.{Reply}
use Rattle.arena_rules.specs.declared.refusal.Refusal.{Refusal}
use Rattle.arena_rules.specs.Commands.{entry_of}
use Rattle.http_lines.specs.declared.request.RequestHead.{RequestHead}
use Rattle.api.specs.declared.error.ApiError.{ApiError}

-- what a request comes to: its error, for which it takes no turn; or, in one turn at a stamp, its command with the reply or with
-- the refusal, or its question with the answer or with none; or that memory was wanting in its turn
pub data Deed : Type 0 where
  in_error : ApiError → Deed
  accepted : ℕ → Command → Reply → Deed
  refused : ℕ → Command → Refusal → Deed
  told : ℕ → Query → Answer → Deed
  untold : ℕ → Query → Deed
  starved : ℕ → Deed

-- a request, what it came to, and how many entries the pass had then seen
pub record Exchange : Type 0 where
  pub request : RequestHead
  pub deed : Deed
  pub seen : ℕ

-- the requests
abbrev pub requests : List Exchange → List RequestHead
requests xs = map (λ (x : Exchange). x.request) xs

-- a request without an error takes a turn
abbrev pub takes_turn : Deed → Bool
takes_turn (in_error e) = false
takes_turn (accepted t c reply) = true
takes_turn (refused t c refusal) = true
takes_turn (told t q answer) = true
takes_turn (untold t q) = true
takes_turn (starved t) = true

-- how long the history was at the end of each turn
abbrev pub lengths : List Exchange → List ℕ
lengths xs = map (λ (x : Exchange). x.seen) (filter (λ (x : Exchange). takes_turn x.deed) xs)

-- the entry that a request of pass i made: only an accepted command makes one
abbrev pub entry_by : ℕ → Deed → List Entry
entry_by i (in_error e) = []
entry_by i (accepted t c reply) = entry_of t i c ∷ []
entry_by i (refused t c refusal) = []
entry_by i (told t q answer) = []
entry_by i (untold t q) = []
entry_by i (starved t) = []

-- the entries of the accepted commands, each once, in order
abbrev pub entries_by : ℕ → List Exchange → List Entry
entries_by i xs = flat_map (λ (x : Exchange). entry_by i x.deed) xs
