-- Reading goes on with the next element.
use Rattle.std.proofs.Common.{◌≡◌, ℕ, ◌+◌, ◌<◌, ◌≤◌, true, false, List, [], ◌∷◌, ◌++◌, length, get_or, drop, map, Result, Ok, Err, refl, sym, ap, subst, ◌∙◌, if◌then◌else◌}
use Rattle.std.proofs.lemmas.List.{drop_all}
use Rattle.entries.specs.declared.setup.Player.{Player}
use Rattle.serde_json.specs.Data.{Data}
use Rattle.serde_json.specs.View.{view}
use Rattle.serde_json.specs.declared.value.Value.{Value}
use Rattle.setup_file.specs.declared.fault.Member.TheVariants.{Teams}
use Rattle.setup_file.specs.declared.fault.SetupCause.TheVariants.{Repeat}
use Rattle.setup_file.specs.declared.fault.SetupFault.{SetupFault}
use Rattle.std.specs.Result.{IsErrAnd}
use Rattle.setup_file.specs.declared.fault.ReadSetupFault.{ReadSetupFault}
use Rattle.setup_file.specs.declared.fault.ReadSetupFault.TheVariants.{Bad}
use Rattle.setup_file.specs.Members.{◌>>=◌, is_taken, text_of}
use Rattle.setup_file.specs.Reading.{Gives, fault_of, different_in, names_of, player_in, players_in}
use Rattle.setup_file.proofs.Texts.{items_more}
use Rattle.setup_file.proofs.Lists.{next_item}

-- the texts of values
abbrev pub texts_of : List Value → List (List ℕ)
texts_of vs = map text_of (map view vs)

-- no name more
names_end : (before : List (List ℕ)) → different_in before [] ≡ Ok before
unfolding different_in
names_end before = refl

-- a name more
names_step : (before : List (List ℕ)) (name : List ℕ) (names : List (List ℕ)) → different_in before (name ∷ names) ≡ (if is_taken before name then Err (fault_of Teams (length before) Repeat) else different_in (before ++ name ∷ []) names)
unfolding different_in
names_step before name names = refl

module _ (vs : List Value) (before : List (List ℕ)) (i : ℕ) (v : Value) (read : Result (List (List ℕ)) SetupFault) (goes_on : different_in before (texts_of (drop i vs)) ≡ read) (low : i < length vs) (is : v ≡ get_or vs i v) where
  -- the reading from the next name on
  next_name : read ≡ (if is_taken before (text_of (view v)) then Err (fault_of Teams (length before) Repeat) else different_in (before ++ text_of (view v) ∷ []) (texts_of (drop (i + 1) vs)))
  next_name = sym goes_on ∙ ap (λ us. different_in before (texts_of us)) (next_item vs i v low is) ∙ names_step before (text_of (view v)) (texts_of (drop (i + 1) vs))

  -- it stood before
  pub name_repeats : is_taken before (text_of (view v)) ≡ true → read ≡ Err (fault_of Teams (length before) Repeat)
  name_repeats taken = next_name ∙ rw taken refl

  -- it is a new one
  pub name_goes_on : is_taken before (text_of (view v)) ≡ false → different_in (before ++ text_of (view v) ∷ []) (texts_of (drop (i + 1) vs)) ≡ read
  name_goes_on fresh = sym (next_name ∙ rw fresh refl)

-- all names were read
pub names_read : (vs : List Value) (before : List (List ℕ)) (i : ℕ) (read : Result (List (List ℕ)) SetupFault) → different_in before (texts_of (drop i vs)) ≡ read → length vs ≤ i → read ≡ Ok before
names_read vs before i read goes_on end = sym goes_on ∙ ap (λ us. different_in before (texts_of us)) (drop_all i vs end) ∙ names_end before

-- no player more
players_end : (teams : List (List ℕ)) (players : List Player) (keys : List (List ℕ)) → players_in teams players keys [] ≡ Ok (players, keys)
unfolding players_in
players_end teams players keys = refl

-- a player more
players_step : (teams : List (List ℕ)) (players : List Player) (keys : List (List ℕ)) (tree : Data) (trees : List Data) → players_in teams players keys (tree ∷ trees) ≡ (player_in teams (names_of players) keys tree >>= λ p. players_in teams (players ++ p.0 ∷ []) (keys ++ p.1 ∷ []) trees)
unfolding players_in
players_step teams players keys tree trees = refl

module _ (teams : List (List ℕ)) (vs : List Value) (players : List Player) (keys : List (List ℕ)) (i : ℕ) (v : Value) (read : Result (List Player × List (List ℕ)) SetupFault) (goes_on : players_in teams players keys (map view (drop i vs)) ≡ read) (low : i < length vs) (is : v ≡ get_or vs i v) where
  -- the reading from the next player on
  next_player : read ≡ (player_in teams (names_of players) keys (view v) >>= λ p. players_in teams (players ++ p.0 ∷ []) (keys ++ p.1 ∷ []) (map view (drop (i + 1) vs)))
  next_player = sym goes_on ∙ ap (λ us. players_in teams players keys (map view us)) (next_item vs i v low is) ∙ players_step teams players keys (view v) (map view (drop (i + 1) vs))

  -- he has a fault
  pub player_fails : (fault : SetupFault) → player_in teams (names_of players) keys (view v) ≡ Err fault → read ≡ Err fault
  player_fails fault e = next_player ∙ rw e refl

  -- he has none
  pub player_goes_on : (p : Player × List ℕ) → player_in teams (names_of players) keys (view v) ≡ Ok p → players_in teams (players ++ p.0 ∷ []) (keys ++ p.1 ∷ []) (map view (drop (i + 1) vs)) ≡ read
  player_goes_on p e = sym (next_player ∙ rw e refl)

-- all players were read
pub players_read : (teams : List (List ℕ)) (vs : List Value) (players : List Player) (keys : List (List ℕ)) (i : ℕ) (read : Result (List Player × List (List ℕ)) SetupFault) → players_in teams players keys (map view (drop i vs)) ≡ read → length vs ≤ i → read ≡ Ok (players, keys)
players_read teams vs players keys i read goes_on end = sym goes_on ∙ ap (λ us. players_in teams players keys (map view us)) (drop_all i vs end) ∙ players_end teams players keys

-- the names with one player more
pub names_more : (players : List Player) (p : Player) → names_of (players ++ p ∷ []) ≡ names_of players ++ p.name ∷ []
names_more players p = items_more (λ (p : Player). p.name) players p

-- an answer that is this fault, of a reading that has it
pub gives_fault : {X Y : Type 0} (view : X → Y) (r : Result X ReadSetupFault) (fault : SetupFault) (reading : Result Y SetupFault) → IsErrAnd r (λ e. e ≡ Bad fault) → reading ≡ Err fault → Gives view r reading
gives_fault view (Ok x) fault reading is e = absurd is
gives_fault view (Err found) fault reading is e = subst (λ (found : ReadSetupFault). Gives view (Err found) reading) (sym is) e
