-- What is read of a JSON value is good.
use Rattle.std.proofs.Common.{◌≡◌, ◌≢◌, ℕ, zero, suc, ◌+◌, ◌*◌, ◌<◌, ◌≤◌, leb, Bool, true, false, List, [], ◌∷◌, ◌++◌, length, get_or, map, position, not, Some, None, Result, Ok, refl, sym, ap, subst, ◌∙◌, arith, if◌then◌else◌, append_assoc, append-nil}
use Rattle.std.specs.Prelude.{codes, ◌==◌}
use Rattle.std.specs.List.{All, Contains}
use Rattle.std.specs.Cmp.Lexicographic.{nat_list_eq_equiv}
use Rattle.std.proofs.lemmas.Bool.{leb-true, and_parts, false≢true}
use Rattle.std.proofs.lemmas.List.{length-append, length-map}
use Rattle.std.proofs.lemmas.List.Elements.{All-map, All-push, All-nil, Contains-get_or}
use Rattle.std.proofs.lemmas.List.Quantifiers.{all_pairs_push}
use Rattle.std.proofs.lemmas.Map.Views.{list_any-from_Contains}
use Rattle.serde_json.specs.Data.{Data}
use Rattle.serde_json.specs.Find.{get}
use Rattle.entries.specs.Limits.{max_end, max_teams, max_players}
use Rattle.entries.specs.Names.{is_name, IsName, AreDistinct}
use Rattle.entries.specs.Ranges.{IsControl, IsPlayer, IsGood}
use Rattle.entries.specs.declared.setup.Control.{Control}
use Rattle.entries.specs.declared.setup.Player.{Player}
use Rattle.entries.specs.declared.setup.Setup.{Setup}
use Rattle.setup_file.specs.declared.fault.Member.TheVariants as member
use Rattle.setup_file.specs.declared.fault.SetupCause.TheVariants.{NotJson, Kind, Range, Repeat}
use Rattle.setup_file.specs.declared.fault.SetupFault.{SetupFault}
use Rattle.setup_file.specs.declared.head.Head.{Head}
use Rattle.setup_file.specs.Keys.{is_key, IsKey, AreKeysOf}
use Rattle.setup_file.specs.Members.{tree_of, found, valued, ranged, an_object, is_object, is_text, text_of, elements, is_within, number_in, is_taken, fresh_in, team_in}
use Rattle.setup_file.specs.Reading.{fault_of, control_in, head_in, different_in, teams_in, objects_in, names_of, player_in, players_in, setup_made, read_tree, read_bytes}
use Rattle.setup_file.proofs.Passes.{bind_ok, bind_at, bind_none, at_ok, ranged_ok, number_ok, chosen_ok, fresh_in_ok, none_passes, team_ok}
use Rattle.setup_file.proofs.Steps.{names_more}

-- an answer without a fault, at a type that shows
abbrev pub reads : {A : Type 0} → A → Result A SetupFault
reads x = Ok x

-- one answer has one value
pub reads_is : {A : Type 0} (x y : A) → reads x ≡ reads y → x ≡ y
reads_is x y e = cc

-- seconds that are not both 0 are milliseconds that are not
some_time : (initial increment : ℕ) → (if initial == 0 then 1 else 0) ≤ increment → initial * 1000 ≡ 0 → increment * 1000 ≢ 0
some_time zero increment least none = λ nothing. absurd (omega arith)
some_time (suc n) increment least none = absurd (omega arith)

-- a time control that was read is one
pub control_ok : (tree : Data) (c : Control) → control_in tree ≡ Ok c → IsControl c
unfolding control_in
control_ok tree c e =
    let o = bind_at member.Control 0 (valued None an_object (get (codes "control") tree)) _ c e in
    let i = bind_at member.Initial 0 (number_in None 0 10800 (get (codes "initial") o.0)) _ c o.2 in
    let n = bind_at member.Increment 0 (number_in None (if i.0 == 0 then 1 else 0) 180 (get (codes "increment") o.0)) _ c i.2 in
    let f = bind_at member.First 0 (number_in (Some 20000) 1000 300000 (get (codes "first") o.0)) _ c n.2 in
    let initial = number_ok None 0 10800 (get (codes "initial") o.0) i.0 i.1 in
    let increment = number_ok None (if i.0 == 0 then 1 else 0) 180 (get (codes "increment") o.0) n.0 n.1 in
    let opening = number_ok (Some 20000) 1000 300000 (get (codes "first") o.0) f.0 f.1 in
    let made : Control = record { initial_ms = i.0 * 1000; inc_ms = n.0 * 1000; first_ms = f.0 } in
    let good : IsControl made = record {
      initial_whole = omega arith;
      initial_most = omega (arith, initial.1);
      increment_whole = omega arith;
      increment_most = omega (arith, increment.1);
      some_time = some_time i.0 n.0 increment.0;
      first_least = opening.0;
      first_most = opening.1;
    } in
    subst IsControl (reads_is made c f.2) good

-- what is good of the members before the teams
pub record IsHead (h : Head) : Type 0 where
  pub timed : IsControl h.control
  pub opens_before_end : h.starts < h.ends
  pub ends_most : h.ends ≤ max_end
  pub wave_least : 100 ≤ h.wave_ms
  pub wave_most : h.wave_ms ≤ 600000
  pub leaders_least : 1 ≤ h.leaders
  pub leaders_most : h.leaders ≤ 20
  pub rule_least : 1 ≤ h.rule
  pub rule_most : h.rule ≤ 2

-- the members before the teams are good
pub head_ok : (tree : Data) (h : Head) → head_in tree ≡ Ok h → IsHead h
unfolding head_in
head_ok tree h e =
    let c = bind_ok (control_in tree) _ h e in
    let s = bind_at member.Starts 0 (number_in None 0 899999999 (get (codes "starts") tree)) _ h c.2 in
    let n = bind_at member.Ends 0 (number_in None (s.0 + 1) 900000000 (get (codes "ends") tree)) _ h s.2 in
    let w = bind_at member.Wave 0 (number_in (Some 5000) 100 600000 (get (codes "wave") tree)) _ h n.2 in
    let l = bind_at member.Leaders 0 (number_in (Some 5) 1 20 (get (codes "leaders") tree)) _ h w.2 in
    let r = bind_at member.Rule 0 (number_in (Some 1) 1 2 (get (codes "rule") tree)) _ h l.2 in
    let ends = number_ok None (s.0 + 1) 900000000 (get (codes "ends") tree) n.0 n.1 in
    let wave = number_ok (Some 5000) 100 600000 (get (codes "wave") tree) w.0 w.1 in
    let leaders = number_ok (Some 5) 1 20 (get (codes "leaders") tree) l.0 l.1 in
    let rule = number_ok (Some 1) 1 2 (get (codes "rule") tree) r.0 r.1 in
    let made : Head = record { control = c.0; starts = s.0; ends = n.0; wave_ms = w.0; leaders = l.0; rule = r.0 } in
    let good : IsHead made = record {
      timed = control_ok tree c.0 c.1;
      opens_before_end = omega (arith, ends.0);
      ends_most = ends.1;
      wave_least = wave.0;
      wave_most = wave.1;
      leaders_least = leaders.0;
      leaders_most = leaders.1;
      rule_least = rule.0;
      rule_most = rule.1;
    } in
    subst IsHead (reads_is made h r.2) good

-- a text that is not taken is none of these
not_taken : (texts : List (List ℕ)) (text : List ℕ) → is_taken texts text ≡ false → (k : ℕ) (d : List ℕ) → k < length texts → get_or texts k d ≢ text
not_taken texts text free k d low = λ same. false≢true (sym free ∙ list_any-from_Contains nat_list_eq_equiv text texts (subst (λ (t : List ℕ). Contains texts t) same (Contains-get_or texts k d low)))

-- with a text that is not taken they differ again
pub distinct_more : (texts : List (List ℕ)) (text : List ℕ) → AreDistinct texts → is_taken texts text ≡ false → AreDistinct (texts ++ text ∷ [])
distinct_more texts text distinct free = all_pairs_push (λ a b. a ≢ b) texts text distinct (λ k d low. not_taken texts text free k d low)

-- no texts are distinct
pub none_distinct : AreDistinct []
none_distinct = λ i j d low high. absurd (omega arith)

-- names of which none stood before are read as they are, and differ
pub different_ok : (before names read : List (List ℕ)) → different_in before names ≡ Ok read → AreDistinct before → (before ++ names ≡ read) × AreDistinct read
unfolding different_in
different_ok before [] read e distinct = let is = reads_is before read e in (simp append-nil is, subst AreDistinct is distinct)
different_ok before (name ∷ names) read e distinct =
    let c = chosen_ok (is_taken before name) (fault_of member.Teams (length before) Repeat) (different_in (before ++ name ∷ []) names) read e in
    let rest = different_ok (before ++ name ∷ []) names read c.1 (distinct_more before name distinct c.0) in
    (sym (append_assoc before (name ∷ []) names) ∙ rest.0, rest.1)

-- a test whose negation fails passes
not_false : (b : Bool) → not b ≡ false → b ≡ true
not_false true e = refl
not_false false e = absurd cc

-- teams that were read are few, named, and differ
pub teams_ok : (tree : Data) (teams : List (List ℕ)) → teams_in tree ≡ Ok teams → (length teams ≤ max_teams) × All IsName teams × AreDistinct teams
unfolding teams_in
teams_ok tree teams e =
    let l = bind_at member.Teams 0 (valued (Some []) elements (get (codes "teams") tree)) _ teams e in
    let t = bind_none member.Teams Kind (position (λ team. not (is_text team)) l.0) _ teams l.2 in
    let f = bind_at member.Teams 0 (ranged (leb (length l.0) 100) l.0) _ teams t.1 in
    let n = bind_none member.Teams Range (position (λ team. not (is_name (text_of team))) l.0) _ teams f.2 in
    let d = different_ok [] (map text_of l.0) teams n.1 none_distinct in
    let few = leb-true (length l.0) 100 (ranged_ok (leb (length l.0) 100) l.0 f.0 f.1).0 in
    let named : All IsName (map text_of l.0) = All-map IsName text_of l.0 (λ k w low. not_false _ (none_passes (λ team. not (is_name (text_of team))) l.0 n.0 k w low)) in
    (subst (λ (ts : List (List ℕ)). length ts ≤ 100) d.0 (simp length-map few), subst (All IsName) d.0 named, d.1)

-- there are 1 to 1,000 players
pub objects_ok : (tree : Data) (objects : List Data) → objects_in tree ≡ Ok objects → (1 ≤ length objects) × (length objects ≤ max_players)
unfolding objects_in
objects_ok tree objects e =
    let l = bind_at member.Players 0 (valued None elements (get (codes "players") tree)) _ objects e in
    let o = bind_none member.Players Kind (position (λ player. not (is_object player)) l.0) _ objects l.2 in
    let r = ranged_ok (is_within 1 1000 (length l.0)) l.0 objects (at_ok member.Players 0 (ranged (is_within 1 1000 (length l.0)) l.0) objects o.1) in
    let w = and_parts (leb 1 (length l.0)) (leb (length l.0) 1000) r.0 in
    subst (λ (os : List Data). (1 ≤ length os) × (length os ≤ 1000)) r.1 (leb-true 1 (length l.0) w.0, leb-true (length l.0) 1000 w.1)

-- a player and his key, behind players with these names and keys
pub record IsEntrant (teams names keys : List (List ℕ)) (p : Player × List ℕ) : Type 0 where
  pub player : IsPlayer (length teams) p.0
  pub named : is_taken names p.0.name ≡ false
  pub formed : IsKey p.1
  pub keyed : is_taken keys p.1 ≡ false

-- a player who was read is one
pub player_ok : (teams names keys : List (List ℕ)) (tree : Data) (p : Player × List ℕ) → player_in teams names keys tree ≡ Ok p → IsEntrant teams names keys p
unfolding player_in
player_ok teams names keys tree p e =
    let n = bind_at member.Name (length names) (fresh_in is_name names (get (codes "name") tree)) _ p e in
    let r = bind_at member.Rating (length names) (number_in None 400 4000 (get (codes "rating") tree)) _ p n.2 in
    let k = bind_at member.Key (length names) (fresh_in is_key keys (get (codes "key") tree)) _ p r.2 in
    let t = bind_at member.Team (length names) (team_in teams (get (codes "team") tree)) _ p k.2 in
    let name = fresh_in_ok is_name names (get (codes "name") tree) n.0 n.1 in
    let rating = number_ok None 400 4000 (get (codes "rating") tree) r.0 r.1 in
    let key = fresh_in_ok is_key keys (get (codes "key") tree) k.0 k.1 in
    let made : Player = record { name = n.0; rating = r.0; team = t.0 } in
    let good : IsEntrant teams names keys (made, k.0) = record {
      player = record { named = name.0; rating_least = rating.0; rating_most = rating.1; in_team = team_ok teams (get (codes "team") tree) t.0 t.1 };
      named = name.1;
      formed = key.0;
      keyed = key.1;
    } in
    subst (IsEntrant teams names keys) (reads_is (made, k.0) p t.2) good

-- players and their keys, as far as they were read
pub record AreEntrants (teams : List (List ℕ)) (players : List Player) (keys : List (List ℕ)) : Type 0 where
  pub good : All (IsPlayer (length teams)) players
  pub distinct : AreDistinct (names_of players)
  pub formed : All IsKey keys
  pub different : AreDistinct keys
  pub each : length keys ≡ length players

-- one more
entrants_more : (teams : List (List ℕ)) (players : List Player) (keys : List (List ℕ)) (p : Player × List ℕ) → AreEntrants teams players keys → IsEntrant teams (names_of players) keys p → AreEntrants teams (players ++ p.0 ∷ []) (keys ++ p.1 ∷ [])
entrants_more teams players keys p are is = record {
  good = All-push (IsPlayer (length teams)) players p.0 are.good is.player;
  distinct = subst AreDistinct (sym (names_more players p.0)) (distinct_more (names_of players) p.0.name are.distinct is.named);
  formed = All-push IsKey keys p.1 are.formed is.formed;
  different = distinct_more keys p.1 are.different is.keyed;
  each = simp length-append (ap (λ (n : ℕ). n + 1) are.each);
}

-- players who were read are as many as their objects
pub players_ok : (teams : List (List ℕ)) (players : List Player) (keys : List (List ℕ)) (trees : List Data) (read : List Player × List (List ℕ)) → players_in teams players keys trees ≡ Ok read → AreEntrants teams players keys → AreEntrants teams read.0 read.1 × (length read.0 ≡ length players + length trees)
unfolding players_in
players_ok teams players keys [] read e are = let is = reads_is (players, keys) read e in (subst (λ (r : List Player × List (List ℕ)). AreEntrants teams r.0 r.1) is are, ap (λ (r : List Player × List (List ℕ)). length r.0) (sym is) ∙ omega arith)
players_ok teams players keys (tree ∷ trees) read e are =
    let p = bind_ok (player_in teams (names_of players) keys tree) (λ p. players_in teams (players ++ p.0 ∷ []) (keys ++ p.1 ∷ []) trees) read e in
    let rest = players_ok teams (players ++ p.0.0 ∷ []) (keys ++ p.0.1 ∷ []) trees read p.2 (entrants_more teams players keys p.0 are (player_ok teams (names_of players) keys tree p.0 p.1)) in
    (rest.0, rest.1 ∙ simp length-append (omega arith))

-- no players yet
pub no_entrants : (teams : List (List ℕ)) → AreEntrants teams [] []
no_entrants teams = record { good = All-nil (IsPlayer (length teams)); distinct = none_distinct; formed = All-nil IsKey; different = none_distinct; each = refl }

-- as many are in the same bounds
as_many : (n m least : ℕ) → n ≡ 0 + m → least ≤ m → least ≤ n
as_many n m least same low = omega arith

at_most : (n m most : ℕ) → n ≡ 0 + m → m ≤ most → n ≤ most
at_most n m most same high = omega arith

-- a setup that was read is good, and its players have keys
pub tree_ok : (tree : Data) (read : Setup × List (List ℕ)) → read_tree tree ≡ Ok read → IsGood read.0 × AreKeysOf (length read.0.players) read.1
unfolding read_tree
tree_ok tree read e =
    let w = bind_at member.Whole 0 (found Kind (an_object tree)) _ read e in
    let h = bind_ok (head_in tree) _ read w.2 in
    let t = bind_ok (teams_in tree) _ read h.2 in
    let o = bind_ok (objects_in tree) _ read t.2 in
    let p = bind_ok (players_in t.0 [] [] o.0) _ read o.2 in
    let head = head_ok tree h.0 h.1 in
    let teams = teams_ok tree t.0 t.1 in
    let objects = objects_ok tree o.0 o.1 in
    let players = players_ok t.0 [] [] o.0 p.0 p.1 (no_entrants t.0) in
    let good : IsGood (setup_made h.0 t.0 p.0.0) = record {
      timed = head.timed;
      opens_before_end = head.opens_before_end;
      ends_most = head.ends_most;
      wave_least = head.wave_least;
      wave_most = head.wave_most;
      leaders_least = head.leaders_least;
      leaders_most = head.leaders_most;
      rule_least = head.rule_least;
      rule_most = head.rule_most;
      teams_most = teams.0;
      teams_named = teams.1;
      teams_distinct = teams.2;
      players_least = as_many _ _ 1 players.1 objects.0;
      players_most = at_most _ _ 1000 players.1 objects.1;
      players_good = players.0.good;
      players_distinct = players.0.distinct;
    } in
    let keyed : AreKeysOf (length p.0.0) p.0.1 = record { each = players.0.each; formed = players.0.formed; distinct = players.0.different } in
    subst (λ (r : Setup × List (List ℕ)). IsGood r.0 × AreKeysOf (length r.0.players) r.1) (reads_is (setup_made h.0 t.0 p.0.0, p.0.1) read p.2) (good, keyed)

-- the same of bytes
pub bytes_ok : (bytes : List ℕ) (read : Setup × List (List ℕ)) → read_bytes bytes ≡ Ok read → IsGood read.0 × AreKeysOf (length read.0.players) read.1
unfolding read_bytes
bytes_ok bytes read e =
    let t = bind_at member.Whole 0 (found NotJson (tree_of bytes)) read_tree read e in
    tree_ok t.0 read t.2
