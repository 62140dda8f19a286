-- Where a head ends, in lines: behind empty lines, lines that are not empty, and an empty line.
use Rattle.std.specs.Prelude.{◌≡◌, ◌≢◌, ◌⊎◌, ◌↔◌, ℕ, ◌≤◌, List, [], ◌∷◌, ◌++◌, length, take, Ok, Err}
use Rattle.std.specs.List.{AllByRecursion, concat}
use Rattle.http_lines.specs.declared.place.Place.{Place}
use Rattle.http_lines.specs.declared.place.Place.TheVariants.{Before}
use Rattle.http_lines.specs.HeadEnd.{head_end}

-- a line: bytes without an LF, and the LF that ends it
pub record IsLine (line : List ℕ) : Type 0 where
  pub text : List ℕ
  pub whole : AllByRecursion (λ b. b ≢ 10) text
  pub ends : line ≡ text ++ 10 ∷ []

-- an empty line: LF or CR LF
abbrev pub IsEmptyLine : List ℕ → Type 0
IsEmptyLine line = (line ≡ 10 ∷ []) ⊎ (line ≡ 13 ∷ 10 ∷ [])

-- a line that is not empty
abbrev pub IsTextLine : List ℕ → Type 0
IsTextLine line = IsLine line × ¬ (IsEmptyLine line)

-- a head with the empty lines before it: these, then one or more lines that are not empty, and then an empty line
pub record IsHeadInLines (bytes : List ℕ) : Type 0 where
  pub before : List (List ℕ)
  pub lines : List (List ℕ)
  pub last : List ℕ
  pub skipped : AllByRecursion IsEmptyLine before
  pub not_empty : AllByRecursion IsTextLine lines
  pub some : lines ≢ []
  pub empty : IsEmptyLine last
  pub joined : bytes ≡ concat before ++ (concat lines ++ last)

-- a head ends behind exactly so many bytes as are one in lines
abbrev pub HeadsAreLines : Type 0
HeadsAreLines = (bytes : List ℕ) (n : ℕ) → (head_end bytes ≡ Ok n) ↔ ((n ≤ length bytes) × IsHeadInLines (take n bytes))

-- no head ends exactly where no beginning of the bytes is one
abbrev pub NoHeadMeans : Type 0
NoHeadMeans = (bytes : List ℕ)
    → ((place : Place) × (head_end bytes ≡ Err place)) ↔ ((n : ℕ) → n ≤ length bytes → ¬ (IsHeadInLines (take n bytes)))

-- and nothing of a head has come exactly where all bytes are empty lines
abbrev pub NothingMeans : Type 0
NothingMeans = (bytes : List ℕ)
    → (head_end bytes ≡ Err Before) ↔ ((lines : List (List ℕ)) × AllByRecursion IsEmptyLine lines × (bytes ≡ concat lines))
