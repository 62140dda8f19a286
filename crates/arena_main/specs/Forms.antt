-- Which of the program's forms the words of the command line have.
use Rattle.std.specs.Prelude.{◌≡◌, ℕ, ◌≤◌, List, [], ◌∷◌, codes}
use Rattle.decimals.specs.Decimals.{Says}
use Rattle.arena_main.specs.declared.forms.Form.{Form}
use Rattle.arena_main.specs.declared.forms.Form.TheVariants.{Replay, Upgrade, Pgn, Gen, Serve}

-- the word says this number, which is in this range
pub record IsWithin (least : ℕ) (most : ℕ) (word : List ℕ) (n : ℕ) : Type 0 where
  pub said : Says word n
  pub low : least ≤ n
  pub high : n ≤ most

-- a seed, below 2,147,483,648
abbrev pub IsSeed : List ℕ → ℕ → Type 0
IsSeed = IsWithin 0 2147483647

-- how many players play: 2 to 1,000
abbrev pub IsPlayers : List ℕ → ℕ → Type 0
IsPlayers = IsWithin 2 1000

-- a port: 1 to 65,535
abbrev pub IsPort : List ℕ → ℕ → Type 0
IsPort = IsWithin 1 65535

-- how many workers serve: 1 to 256
abbrev pub IsWorkers : List ℕ → ℕ → Type 0
IsWorkers = IsWithin 1 256

-- the words have this form
abbrev pub HasForm : List (List ℕ) → Form → Type 0
HasForm words Replay = words ≡ codes "replay" ∷ []
HasForm words Upgrade = words ≡ codes "upgrade" ∷ []
HasForm words Pgn = words ≡ codes "pgn" ∷ []
HasForm words (Gen seed players) =
    (a b : List ℕ) × (words ≡ codes "gen" ∷ a ∷ b ∷ []) × IsSeed a seed × IsPlayers b players
HasForm words (Serve port workers) =
    (setup a b journal : List ℕ) × (words ≡ codes "serve" ∷ setup ∷ a ∷ b ∷ journal ∷ []) × IsPort a port × IsWorkers b workers
