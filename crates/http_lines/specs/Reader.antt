-- What a call of the reader does with the bytes that it holds and those that its source has left, where the source tells them.
use Rattle.std.specs.Prelude.{◌⊎◌, ℕ, ◌+◌, ◌≤◌, List, ◌++◌, length, Option, Some, None, Result, Ok, Err}
use Rattle.std.specs.Io.KnownBytes.{prepend_known, Consumes}
use Rattle.http_lines.specs.declared.request.Next.{Next}
use Rattle.http_lines.specs.declared.request.Next.TheVariants.{Request, End}
use Rattle.http_lines.specs.declared.request.NextFault.{NextFault}
use Rattle.http_lines.specs.declared.request.NextFault.TheVariants.{CutOff, ReadFault, OutOfMemory}
use Rattle.http_lines.specs.First.{First, Outcome, ended, faulted, asked}

-- the bytes that are still to be read: those held, and then those left
abbrev pub still_ahead : List ℕ → Option (List ℕ) → Option (List ℕ)
still_ahead held left = prepend_known held left

-- the first of the bytes before comes to this, by the bytes after
abbrev pub FirstOf : Option (List ℕ) → Option (List ℕ) → (List ℕ → Outcome) → Type 0
FirstOf None after o = Unit {0}
FirstOf (Some bytes) None o = ⊥
FirstOf (Some bytes) (Some rest) o = First bytes (o rest)

-- what an answer says the first of the bytes comes to; want of memory and a fault of the source say nothing of it
abbrev pub AnswersFirst : Option (List ℕ) → Option (List ℕ) → Result Next NextFault → Type 0
AnswersFirst before after (Ok (Request request)) = FirstOf before after (λ rest. asked request rest)
AnswersFirst before after (Ok End) = FirstOf before after (λ rest. ended)
AnswersFirst before after (Err ReadFault) = Unit {0}
AnswersFirst before after (Err OutOfMemory) = Unit {0}
AnswersFirst before after (Err fault) = FirstOf before after (λ rest. faulted fault)

-- the source gave some bytes, which with those held come to no whole request: to the end, or to a request cut off
abbrev pub GaveNoRequest : List ℕ → Option (List ℕ) → Option (List ℕ) → Type 0
GaveNoRequest held left left' =
    (taken : List ℕ) × Consumes left left' taken
    × (First (held ++ taken) ended ⊎ First (held ++ taken) (faulted CutOff))

-- the source gave some bytes, and of these and those held at most so many are no longer held
abbrev pub TakesAtMost : ℕ → List ℕ → List ℕ → Option (List ℕ) → Option (List ℕ) → Type 0
TakesAtMost most held held' left left' =
    (taken : List ℕ) × Consumes left left' taken × (length held + length taken ≤ length held' + most)
