-- Which evening the words of the command line ask for.
use Rattle.std.specs.Prelude.{◌≡◌, ℕ, List, [], ◌∷◌, codes}
use Rattle.std.specs.Str.{IsUtf8}
use Rattle.arena_main.specs.Forms.{IsPort, IsWorkers}

-- the words ask for an evening from the setup in this file to a journal in that one, at this port, with so many workers
pub record AskForEvening (words : List (List ℕ)) (setup : List ℕ) (port : ℕ) (workers : ℕ) (journal : List ℕ) : Type 0 where
  pub port_word : List ℕ
  pub workers_word : List ℕ
  pub words_are : words ≡ codes "serve" ∷ setup ∷ port_word ∷ workers_word ∷ journal ∷ []
  pub says_port : IsPort port_word port
  pub says_workers : IsWorkers workers_word workers
  pub setup_named : IsUtf8 setup
  pub journal_named : IsUtf8 journal
