-- Every fault of a JSON value has another cause than NotJson.
use Rattle.std.proofs.Common.{◌≡◌, ◌≢◌, ℕ, ◌+◌, leb, Bool, true, false, List, [], ◌∷◌, ◌++◌, length, map, position, not, Option, Some, None, Result, Ok, Err, subst, if◌then◌else◌}
use Rattle.std.specs.Prelude.{codes, ◌==◌}
use Rattle.serde_json.specs.Data.{Data}
use Rattle.serde_json.specs.Find.{get, as_str}
use Rattle.entries.specs.Names.{is_name}
use Rattle.entries.specs.declared.setup.Player.{Player}
use Rattle.setup_file.specs.declared.fault.Member.{Member}
use Rattle.setup_file.specs.declared.fault.Member.TheVariants as member
use Rattle.setup_file.specs.declared.fault.SetupCause.{SetupCause}
use Rattle.setup_file.specs.declared.fault.SetupCause.TheVariants.{NotJson, Missing, Kind, Range, Repeat, UnknownTeam}
use Rattle.setup_file.specs.declared.fault.SetupFault.{SetupFault}
use Rattle.setup_file.specs.Keys.{is_key}
use Rattle.setup_file.specs.Members.{◌>>=◌, found, valued, ranged, whole, an_object, is_object, is_text, text_of, elements, is_within, number_in, is_taken, fresh, fresh_in, place_of, is_null, team_in}
use Rattle.setup_file.specs.Reading.{at, none_at, control_in, head_in, different_in, teams_in, objects_in, names_of, player_in, players_in, read_tree}

-- a member gave a value, or has another cause
abbrev pub IsJudged : {A : Type 0} → Result A SetupCause → Type 0
IsJudged (Ok x) = Unit {0}
IsJudged (Err cause) = cause ≢ NotJson

-- the reading goes on, or its fault has another cause
abbrev pub IsOfValue : {A : Type 0} → Result A SetupFault → Type 0
IsOfValue (Ok x) = Unit {0}
IsOfValue (Err fault) = fault.cause ≢ NotJson

missing_is : Missing ≢ NotJson
missing_is = λ e. cc

kind_is : Kind ≢ NotJson
kind_is = λ e. cc

range_is : Range ≢ NotJson
range_is = λ e. cc

repeat_is : Repeat ≢ NotJson
repeat_is = λ e. cc

unknown_is : UnknownTeam ≢ NotJson
unknown_is = λ e. cc

-- ---- members

judged_bind : {A B : Type 0} (r : Result A SetupCause) (f : A → Result B SetupCause) → IsJudged r → ((x : A) → IsJudged (f x)) → IsJudged (r >>= f)
judged_bind (Ok x) f first rest = rest x
judged_bind (Err cause) f first rest = first

judged_if : {A : Type 0} (b : Bool) (r s : Result A SetupCause) → IsJudged r → IsJudged s → IsJudged (if b then r else s)
judged_if true r s one other = one
judged_if false r s one other = other

judged_found : {A : Type 0} (cause : SetupCause) (o : Option A) → cause ≢ NotJson → IsJudged (found cause o)
judged_found cause None is = is
judged_found cause (Some x) is = tt

judged_valued : {A : Type 0} (default : Option A) (kind : Data → Option A) (member : Option Data) → IsJudged (valued default kind member)
judged_valued default kind None = judged_found Missing default missing_is
judged_valued default kind (Some d) = judged_found Kind (kind d) kind_is

judged_ranged : {A : Type 0} (b : Bool) (x : A) → IsJudged (ranged b x)
judged_ranged true x = tt
judged_ranged false x = range_is

judged_number : (default : Option ℕ) (least most : ℕ) (member : Option Data) → IsJudged (number_in default least most member)
unfolding number_in
judged_number default least most member = judged_bind (valued default whole member) (λ n. ranged (is_within least most n) n) (judged_valued default whole member) (λ n. judged_ranged (is_within least most n) n)

judged_fresh : (formed : Bool) (before : List (List ℕ)) (text : List ℕ) → IsJudged (fresh formed before text)
judged_fresh false before text = range_is
judged_fresh true before text = judged_if (is_taken before text) (Err Repeat) (Ok text) repeat_is tt

judged_fresh_in : (form : List ℕ → Bool) (before : List (List ℕ)) (member : Option Data) → IsJudged (fresh_in form before member)
unfolding fresh_in
judged_fresh_in form before member = judged_bind (valued None as_str member) (λ text. fresh (form text) before text) (judged_valued None as_str member) (λ text. judged_fresh (form text) before text)

judged_team : (teams : List (List ℕ)) (member : Option Data) → IsJudged (team_in teams member)
unfolding team_in
judged_team teams None = tt
judged_team teams (Some d) = judged_if (is_null d) (Ok None) _ tt (judged_bind (found Kind (as_str d)) _ (judged_found Kind (as_str d) kind_is) (λ name. judged_bind (found UnknownTeam (place_of teams name)) _ (judged_found UnknownTeam (place_of teams name) unknown_is) (λ team. tt)))

-- ---- the whole value

of_bind : {A B : Type 0} (r : Result A SetupFault) (f : A → Result B SetupFault) → IsOfValue r → ((x : A) → IsOfValue (f x)) → IsOfValue (r >>= f)
of_bind (Ok x) f first rest = rest x
of_bind (Err fault) f first rest = first

of_at : {A : Type 0} (m : Member) (i : ℕ) (r : Result A SetupCause) → IsJudged r → IsOfValue (at m i r)
of_at m i (Ok x) is = tt
of_at m i (Err cause) is = is

of_step : {A B : Type 0} (m : Member) (i : ℕ) (r : Result A SetupCause) (f : A → Result B SetupFault) → IsJudged r → ((x : A) → IsOfValue (f x)) → IsOfValue (at m i r >>= f)
of_step m i r f first rest = of_bind (at m i r) f (of_at m i r first) rest

of_none_at : (m : Member) (cause : SetupCause) (place : Option ℕ) → cause ≢ NotJson → IsOfValue (none_at m cause place)
of_none_at m cause None is = tt
of_none_at m cause (Some i) is = is

of_if : {A : Type 0} (b : Bool) (r s : Result A SetupFault) → IsOfValue r → IsOfValue s → IsOfValue (if b then r else s)
of_if true r s one other = one
of_if false r s one other = other

of_control : (tree : Data) → IsOfValue (control_in tree)
unfolding control_in
of_control tree =
    of_step member.Control 0 (valued None an_object (get (codes "control") tree)) _ (judged_valued None an_object _) (λ control.
    of_step member.Initial 0 (number_in None 0 10800 (get (codes "initial") control)) _ (judged_number None 0 10800 _) (λ initial.
    of_step member.Increment 0 (number_in None (if initial == 0 then 1 else 0) 180 (get (codes "increment") control)) _ (judged_number None _ 180 _) (λ increment.
    of_step member.First 0 (number_in (Some 20000) 1000 300000 (get (codes "first") control)) _ (judged_number (Some 20000) 1000 300000 _) (λ opening. tt))))

of_head : (tree : Data) → IsOfValue (head_in tree)
unfolding head_in
of_head tree =
    of_bind (control_in tree) _ (of_control tree) (λ control.
    of_step member.Starts 0 (number_in None 0 899999999 (get (codes "starts") tree)) _ (judged_number None 0 899999999 _) (λ starts.
    of_step member.Ends 0 (number_in None (starts + 1) 900000000 (get (codes "ends") tree)) _ (judged_number None (starts + 1) 900000000 _) (λ ends.
    of_step member.Wave 0 (number_in (Some 5000) 100 600000 (get (codes "wave") tree)) _ (judged_number (Some 5000) 100 600000 _) (λ wave.
    of_step member.Leaders 0 (number_in (Some 5) 1 20 (get (codes "leaders") tree)) _ (judged_number (Some 5) 1 20 _) (λ leaders.
    of_step member.Rule 0 (number_in (Some 1) 1 2 (get (codes "rule") tree)) _ (judged_number (Some 1) 1 2 _) (λ rule. tt))))))

of_different : (before names : List (List ℕ)) → IsOfValue (different_in before names)
unfolding different_in
of_different before [] = tt
of_different before (name ∷ names) = of_if (is_taken before name) (Err _) (different_in (before ++ name ∷ []) names) repeat_is (of_different (before ++ name ∷ []) names)

of_teams : (tree : Data) → IsOfValue (teams_in tree)
unfolding teams_in
of_teams tree =
    of_step member.Teams 0 (valued (Some []) elements (get (codes "teams") tree)) _ (judged_valued (Some []) elements _) (λ teams.
    of_bind (none_at member.Teams Kind (position (λ team. not (is_text team)) teams)) _ (of_none_at member.Teams Kind _ kind_is) (λ texts.
    of_step member.Teams 0 (ranged (leb (length teams) 100) teams) _ (judged_ranged _ teams) (λ few.
    of_bind (none_at member.Teams Range (position (λ team. not (is_name (text_of team))) teams)) _ (of_none_at member.Teams Range _ range_is) (λ names.
    of_different [] (map text_of teams)))))

of_objects : (tree : Data) → IsOfValue (objects_in tree)
unfolding objects_in
of_objects tree =
    of_step member.Players 0 (valued None elements (get (codes "players") tree)) _ (judged_valued None elements _) (λ players.
    of_bind (none_at member.Players Kind (position (λ player. not (is_object player)) players)) _ (of_none_at member.Players Kind _ kind_is) (λ objects.
    of_at member.Players 0 (ranged (is_within 1 1000 (length players)) players) (judged_ranged _ players)))

of_player : (teams names keys : List (List ℕ)) (tree : Data) → IsOfValue (player_in teams names keys tree)
unfolding player_in
of_player teams names keys tree =
    of_step member.Name (length names) (fresh_in is_name names (get (codes "name") tree)) _ (judged_fresh_in is_name names _) (λ name.
    of_step member.Rating (length names) (number_in None 400 4000 (get (codes "rating") tree)) _ (judged_number None 400 4000 _) (λ rating.
    of_step member.Key (length names) (fresh_in is_key keys (get (codes "key") tree)) _ (judged_fresh_in is_key keys _) (λ key.
    of_step member.Team (length names) (team_in teams (get (codes "team") tree)) _ (judged_team teams _) (λ team. tt))))

of_players : (teams : List (List ℕ)) (players : List Player) (keys : List (List ℕ)) (trees : List Data) → IsOfValue (players_in teams players keys trees)
unfolding players_in
of_players teams players keys [] = tt
of_players teams players keys (tree ∷ trees) =
    of_bind (player_in teams (names_of players) keys tree) _ (of_player teams (names_of players) keys tree) (λ p. of_players teams (players ++ p.0 ∷ []) (keys ++ p.1 ∷ []) trees)

of_tree : (tree : Data) → IsOfValue (read_tree tree)
unfolding read_tree
of_tree tree =
    of_step member.Whole 0 (found Kind (an_object tree)) _ (judged_found Kind (an_object tree) kind_is) (λ whole.
    of_bind (head_in tree) _ (of_head tree) (λ head.
    of_bind (teams_in tree) _ (of_teams tree) (λ teams.
    of_bind (objects_in tree) _ (of_objects tree) (λ objects.
    of_bind (players_in teams [] [] objects) _ (of_players teams [] [] objects) (λ listed. tt)))))

-- no fault of a JSON value is that there is none
pub of_value : (tree : Data) (fault : SetupFault) → read_tree tree ≡ Err fault → fault.cause ≢ NotJson
of_value tree fault e = subst IsOfValue e (of_tree tree)
