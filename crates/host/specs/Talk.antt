-- One connection on a pass: what it did and what was written, from before to after.
use Rattle.std.specs.Prelude.{◌≡◌, ◌⊎◌, ℕ, ◌≤◌, List, ◌++◌, length, Option}
use Rattle.std.specs.List.{AllByRecursion}
use Rattle.std.specs.Option.{IsSome}
use Rattle.conn.specs.Faults.{Rose}
use Rattle.conn.specs.Told.{Gained}
use Rattle.entries.specs.declared.setup.Setup.{Setup}
use Rattle.http_lines.specs.declared.request.RequestHead.{RequestHead}
use Rattle.http_lines.specs.Talk.{Ending}
use Rattle.arena_lock.specs.Turns.{Pass}
use Rattle.host.specs.declared.ended.Ended.{Ended}
use Rattle.host.specs.declared.ended.Ended.TheVariants.{OutOfMemory}
use Rattle.host.specs.Asked.{Asked}
use Rattle.host.specs.Causes.{IsCaused, IsHindered, Says, answer_by}
use Rattle.host.specs.Exchanges.{Exchange, requests}
use Rattle.host.specs.Responses.{said, responses, end_response}
use Rattle.host.specs.Spelt.{Spell}

-- a pass, what a clock and a source tell, how many reads failed, what a sink tells, and how many writes failed
pub record Around : Type 0 where
  pub pass : Pass
  pub moments : Option (List ℕ)
  pub left : Option (List ℕ)
  pub reads : ℕ
  pub held : Option (List ℕ)
  pub writes : ℕ

abbrev pub around : Pass → Option (List ℕ) → Option (List ℕ) → ℕ → Option (List ℕ) → ℕ → Around
around pass moments left reads held writes =
    record { pass = pass; moments = moments; left = left; reads = reads; held = held; writes = writes }

-- the answer comes from memory that was wanting, or from a source or a sink whose count of faults rose
abbrev pub IsHinderedIn : Around → Around → Ended → Type 0
IsHinderedIn old new result = IsHindered old.reads new.reads old.writes new.writes result

pub record Talk (s : Setup) (keys : List (List ℕ)) (old new : Around) (result : Ended) : Type 0 where
  -- the requests that were answered, and one more at most, which was asked and has no whole response: a hundred in all at most
  pub answered : List Exchange
  pub more : List Exchange
  pub few : length (answered ++ more) ≤ 100
  pub asked : Asked s keys old.moments new.moments old.pass new.pass (answered ++ more)
  pub each : AllByRecursion (λ (x : Exchange). IsSome (said s x.deed)) answered
  -- what the sink gained, by the answer
  pub written : List ℕ
  pub gained : Gained old.held new.held written
  pub says : Says s old.left new.left answered more (length new.pass.seen) written result
  pub caused : IsCaused old.reads new.reads old.writes new.writes result
  -- the answer comes exactly where it should: where the bytes spell these requests and end like this, it is the answer to that, and
  -- all of them were answered, unless something hindered it
  pub exactly : (rs : List RequestHead) (ending : Ending) → Spell old.left rs ending
      → IsHinderedIn old new result ⊎ ((result ≡ answer_by ending) × (requests answered ≡ rs))

-- all these requests were answered, and then the fault if they end in one, each with what is defined, and nothing else was written
pub record IsComplete (s : Setup) (keys : List (List ℕ)) (old new : Around) (rs : List RequestHead) (ending : Ending) (result : Ended) : Type 0 where
  pub answered : List Exchange
  pub are : requests answered ≡ rs
  pub asked : Asked s keys old.moments new.moments old.pass new.pass answered
  pub gained : Gained old.held new.held (responses s 0 answered ++ end_response (length new.pass.seen) ending)
  pub result_is : result ≡ answer_by ending

-- so it is wherever the bytes spell them and no count of faults rose, or memory was wanting
abbrev pub Completes : Setup → List (List ℕ) → Around → Around → Ended → Type 0
Completes s keys old new result =
    (rs : List RequestHead) (ending : Ending) → Spell old.left rs ending → ¬ (Rose old.reads new.reads) → ¬ (Rose old.writes new.writes)
    → (result ≡ OutOfMemory) ⊎ IsComplete s keys old new rs ending result
