-- What the steps of a call of the reader do: reading on to a head, and past a body.
use Rattle.std.specs.Prelude.{◌≡◌, ℕ, ◌<◌, List, [], ◌++◌, length, Option, Some, None, Result, Ok, Err}
use Rattle.std.specs.Io.KnownBytes.{Consumes, IsAtEnd}
use Rattle.conn.specs.Faults.{Rose}
use Rattle.http_lines.specs.declared.place.Place.{Place}
use Rattle.http_lines.specs.declared.place.Place.TheVariants.{Before}
use Rattle.http_lines.specs.declared.request.NextFault.{NextFault}
use Rattle.http_lines.specs.declared.request.NextFault.TheVariants.{CutOff, HeadTooLong, ReadFault}
use Rattle.http_lines.specs.declared.request.TheConstants.{HEAD_LIMIT}
use Rattle.http_lines.specs.HeadEnd.{head_end}
use Rattle.http_lines.specs.First.{faulted, unfinished}

-- the source gave so many bytes, which are held behind those that were
abbrev pub GrewBy : ℕ → List ℕ → List ℕ → Option (List ℕ) → Option (List ℕ) → Type 0
GrewBy count held held' left left' =
    (taken : List ℕ) × Consumes left left' taken × (held' ≡ held ++ taken) × (length taken ≡ count)

-- the source gave some bytes, which are held behind those that were
abbrev pub Grew : List ℕ → List ℕ → Option (List ℕ) → Option (List ℕ) → Type 0
Grew held held' left left' = (taken : List ℕ) × Consumes left left' taken × (held' ≡ held ++ taken)

-- so many of the bytes held and of those that the source gave behind them are no longer held
pub record Skips (count : ℕ) (held held' : List ℕ) (left left' : Option (List ℕ)) : Type 0 where
  pub taken : List ℕ
  pub gone : List ℕ
  pub gave : Consumes left left' taken
  pub is : held ++ taken ≡ gone ++ held'
  pub long : length gone ≡ count

-- fewer than so many bytes came, and none of them is held
abbrev pub SkipsPart : ℕ → List ℕ → List ℕ → Option (List ℕ) → Option (List ℕ) → Type 0
SkipsPart body held held' left left' = (count : ℕ) × (count < body) × Skips count held held' left left' × (held' ≡ [])

-- a fault is that the source ended, or one of its own
abbrev pub CutOrFault : {T : Type 0} → Result T NextFault → Option (List ℕ) → ℕ → ℕ → Type 0
CutOrFault (Ok x) left faults faults' = Unit {0}
CutOrFault (Err CutOff) left faults faults' = IsAtEnd left
CutOrFault (Err ReadFault) left faults faults' = Rose faults faults'
CutOrFault (Err fault) left faults faults' = ⊥

-- what it means that bytes end in this place
abbrev pub EndsOnly : Place → Result (Option ℕ) NextFault → Type 0
EndsOnly Before result = result ≡ Ok None
EndsOnly _ result = result ≡ Err CutOff

-- the bytes held have no whole head, and are fewer than a head may have
abbrev pub IsShort : Place → List ℕ → Type 0
IsShort place held = (head_end held ≡ Err place) × (length held < HEAD_LIMIT)

-- what the bytes held come to once they were read on: a head of some length, nothing but empty lines, or a fault
abbrev pub FillsTo : Result (Option ℕ) NextFault → List ℕ → Option (List ℕ) → Type 0
FillsTo (Ok (Some len)) held left = head_end held ≡ Ok len
FillsTo (Ok None) held left = IsShort Before held × IsAtEnd left
FillsTo (Err CutOff) held left =
    (place : Place) × IsShort place held × (unfinished place ≡ faulted CutOff) × IsAtEnd left
FillsTo (Err HeadTooLong) held left = (place : Place) × (head_end held ≡ Err place) × (length held ≡ HEAD_LIMIT)
FillsTo (Err ReadFault) held left = (place : Place) × IsShort place held
FillsTo (Err fault) held left = ⊥
