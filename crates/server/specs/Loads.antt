-- What the bytes of a setup's file come to.
use Rattle.std.specs.Prelude.{◌≡◌, ℕ, nat_lt, if◌then◌else◌, List, [], length, Option, Some, IfSome, Result, Ok, Err}
use Rattle.entries.specs.declared.setup.Setup.{Setup}
use Rattle.setup_file.specs.declared.fault.SetupFault.{SetupFault}
use Rattle.setup_file.specs.Reading.{read_bytes}
use Rattle.server.specs.declared.load.LoadFault.{LoadFault}
use Rattle.server.specs.declared.load.LoadFault.TheVariants.{Bad, TooLong, ReadFault, OutOfMemory}

-- a setup and the keys of its players, or why there is none
abbrev pub Loaded : Type 0
Loaded = Result (Setup × List (List ℕ)) LoadFault

-- what was read, or its first fault
abbrev pub by_reading : Result (Setup × List (List ℕ)) SetupFault → Loaded
by_reading (Ok read) = Ok read
by_reading (Err fault) = Err (Bad fault)

-- what bytes come to: they are too long, or else what reading them says
abbrev pub loaded : List ℕ → Loaded
loaded bytes = if nat_lt 1000000 (length bytes) then Err TooLong else by_reading (read_bytes bytes)

-- the answer is what the bytes come to, where the source told them, and all of them were read; a read that failed and memory that
-- ran out say nothing of the bytes
abbrev pub Loads : Option (List ℕ) → Option (List ℕ) → Loaded → Type 0
Loads told left (Ok read) = IfSome told (λ bytes. (loaded bytes ≡ Ok read) × (left ≡ Some []))
Loads told left (Err (Bad fault)) = IfSome told (λ bytes. (loaded bytes ≡ Err (Bad fault)) × (left ≡ Some []))
Loads told left (Err TooLong) = IfSome told (λ bytes. loaded bytes ≡ Err TooLong)
Loads told left (Err ReadFault) = Unit {0}
Loads told left (Err OutOfMemory) = Unit {0}
