-- The route table: the router finds the row of a path.
use Rattle.std.proofs.Common.{◌≡◌, ◌≢◌, ℕ, zero, suc, ◌+◌, ◌-◌, ◌<◌, ◌≤◌, List, [], ◌∷◌, ◌++◌, length, drop, Option, Some, None, Bool, true, false, refl, sym, ap, ◌∙◌, arith, nat_eq, codes, if◌then◌else◌, get_or}
use Rattle.std.specs.Option.{option_map}
use Rattle.matchit.specs.Rows.{Rows, Seen, ends, level, prepend, rows, rows_of}
use Rattle.matchit.specs.Seek.{first}
use Rattle.matchit.specs.Router.{rename, map_key, RouteOf}
use Rattle.matchit.specs.Level.{IsIndexed}
use Rattle.std.specs.List.{starts_with, list_all}
use Rattle.api.specs.Calls.{is_visible}
use Rattle.api.proofs.Texts.{path_of_bytes}
use Rattle.matchit.proofs.SeekLemmas.{first-prefix, or_else-none, param_step-empty, seek-empty}
use Rattle.matchit.proofs.LevelLemmas.{level-nil, level-cons}
use Rattle.matchit.proofs.RenameLemmas.{first-rename}
use Rattle.matchit.specs.Seek.{or_else}
use Rattle.api.specs.declared.resource.Resource.{Resource}
use Rattle.api.specs.declared.resource.Resource.TheVariants.{Arena, Standing, Teams, Game, Journal, Own}
use Rattle.api.specs.declared.resource.OwnResource.{OwnResource}
use Rattle.api.specs.declared.resource.OwnResource.TheVariants.{Me, Enter, Pause, Leave, Move, Draw, Resign, Claim, Berserk}
use Rattle.api.specs.Paths.{Piece, text, parameter, resources, resource_of}
use Rattle.api.specs.Table.{table}
use Rattle.api.proofs.Fitting.{Numbered, fitting, below, behind, numbered, fitting-below, fitting-first}
use Rattle.api.proofs.Walks.{IsPath, Agrees, Nodes, AllAgree, seen_of, patterns_of, nodes-walk, bytes-behind}
use Rattle.api.proofs.Levels.{leaf, leaf-agrees, last_parameter, last_parameter-agrees, going_on, going_on-agrees}

-- the rows by numbers, and back
abbrev own_number : OwnResource → ℕ
own_number Me = 5
own_number Enter = 6
own_number Pause = 7
own_number Leave = 8
own_number Move = 9
own_number Draw = 10
own_number Resign = 11
own_number Claim = 12
own_number Berserk = 13

abbrev number : Resource → ℕ
number Arena = 0
number Standing = 1
number Teams = 2
number Game = 3
number Journal = 4
number (Own own) = own_number own

abbrev numbered_rows : List Resource
numbered_rows =
    Arena ∷ Standing ∷ Teams ∷ Game ∷ Journal
    ∷ Own Me ∷ Own Enter ∷ Own Pause ∷ Own Leave ∷ Own Move ∷ Own Draw ∷ Own Resign ∷ Own Claim ∷ Own Berserk ∷ []

abbrev row_at : ℕ → Resource
row_at n = get_or numbered_rows n Arena

row_at-number : (r : Resource) → row_at (number r) ≡ r
row_at-number Arena = refl
row_at-number Standing = refl
row_at-number Teams = refl
row_at-number Game = refl
row_at-number Journal = refl
row_at-number (Own Me) = refl
row_at-number (Own Enter) = refl
row_at-number (Own Pause) = refl
row_at-number (Own Leave) = refl
row_at-number (Own Move) = refl
row_at-number (Own Draw) = refl
row_at-number (Own Resign) = refl
row_at-number (Own Claim) = refl
row_at-number (Own Berserk) = refl

back : (x : Option Resource) → option_map row_at (option_map number x) ≡ x
back None = refl
back (Some r) = ap Some (row_at-number r)

same-rows : (x y : Option Resource) → option_map number x ≡ option_map number y → x ≡ y
same-rows x y e = sym (back x) ∙ ap (option_map row_at) e ∙ back y

node : List ℕ → Rows → Seen
node w t = record { prefix = w; tails = t; height = 0 }

-- what goes on behind a game
abbrev actions : Nodes
actions =
    (record { prefix = codes "berserk"; tails = leaf 13; height = 0 }, ([], 13) ∷ [])
    ∷ (record { prefix = codes "claim"; tails = leaf 12; height = 0 }, ([], 12) ∷ [])
    ∷ (record { prefix = codes "draw/"; tails = last_parameter 10; height = 0 }, (parameter ∷ [], 10) ∷ [])
    ∷ (record { prefix = codes "move/"; tails = last_parameter 9; height = 0 }, (parameter ∷ [], 9) ∷ [])
    ∷ (record { prefix = codes "resign"; tails = leaf 11; height = 0 }, ([], 11) ∷ [])
    ∷ []

abbrev action_rows : Rows
action_rows = level (seen_of actions) [] None None None

abbrev action_patterns : Numbered
action_patterns = patterns_of actions

is-text : IsPath (codes "/api/")
is-text = search arith

actions-agree : AllAgree actions
actions-agree = (
  search arith,
  leaf-agrees 13,
  (
    search arith,
    leaf-agrees 12,
    (
      search arith,
      last_parameter-agrees 10,
      (
        search arith,
        last_parameter-agrees 9,
        (search arith, leaf-agrees 11, tt),
      ),
    ),
  ),
)

-- a level of nodes alone
level-agrees : (bs : List ℕ) (nodes : Nodes) → IsIndexed bs (seen_of nodes) → AllAgree nodes → fitting (patterns_of nodes) [] ≡ None
    → Agrees (level (seen_of nodes) [] None None None) (patterns_of nodes)
level-agrees bs nodes i a e [] h = level-nil bs (seen_of nodes) [] None None None i ∙ sym e
level-agrees bs nodes i a e (b ∷ p) h =
    level-cons bs (seen_of nodes) [] None None None b p i h.0
    ∙ rw (param_step-empty (b ∷ p), seek-empty _ p, nodes-walk bs nodes b p h i a) (or_else-none _)

-- what goes on behind `/api/`
abbrev top : Nodes
top =
    (record { prefix = codes "arena"; tails = leaf 0; height = 0 }, ([], 0) ∷ [])
    ∷ (record { prefix = codes "enter"; tails = leaf 6; height = 0 }, ([], 6) ∷ [])
    ∷ (record { prefix = codes "game/"; tails = going_on action_rows 3; height = 0 }, behind (([], 3) ∷ below (47 ∷ []) action_patterns))
    ∷ (record { prefix = codes "journal/"; tails = last_parameter 4; height = 0 }, (parameter ∷ [], 4) ∷ [])
    ∷ (record { prefix = codes "leave"; tails = leaf 8; height = 0 }, ([], 8) ∷ [])
    ∷ (record { prefix = codes "me"; tails = leaf 5; height = 0 }, ([], 5) ∷ [])
    ∷ (record { prefix = codes "pause"; tails = leaf 7; height = 0 }, ([], 7) ∷ [])
    ∷ (record { prefix = codes "standing/"; tails = last_parameter 1; height = 0 }, (parameter ∷ [], 1) ∷ [])
    ∷ (record { prefix = codes "teams"; tails = leaf 2; height = 0 }, ([], 2) ∷ [])
    ∷ []

abbrev top_rows : Rows
top_rows = level (seen_of top) [] None None None

actions-level : Agrees action_rows action_patterns
actions-level = level-agrees (98 ∷ 99 ∷ 100 ∷ 109 ∷ 114 ∷ []) actions (search arith) actions-agree refl

top-agree : AllAgree top
top-agree = (
  search arith,
  leaf-agrees 0,
  (
    search arith,
    leaf-agrees 6,
    (
      search arith,
      going_on-agrees action_rows 3 action_patterns (omega arith) actions-level,
      (
        search arith,
        last_parameter-agrees 4,
        (
          search arith,
          leaf-agrees 8,
          (
            search arith,
            leaf-agrees 5,
            (
              search arith,
              leaf-agrees 7,
              (
                search arith,
                last_parameter-agrees 1,
                (search arith, leaf-agrees 2, tt),
              ),
            ),
          ),
        ),
      ),
    ),
  ),
)

top-level : Agrees top_rows (patterns_of top)
top-level = level-agrees (97 ∷ 101 ∷ 103 ∷ 106 ∷ 108 ∷ 109 ∷ 112 ∷ 115 ∷ 116 ∷ []) top (search arith) top-agree refl

-- the router's rows are this tree
table-tree : rename (λ e. number e.value) table ≡ prepend (codes "/api/") top_rows
unfolding table
table-tree = refl

-- the rows of the route table are these patterns
all-patterns : below (codes "/api/") (patterns_of top) ≡ numbered number resources
all-patterns = refl

numbers-agree : (path : List ℕ) → IsPath path → map_key (λ e. number e.value) (first table path) ≡ option_map number (resource_of path)
unfolding resource_of
numbers-agree path h =
    sym (first-rename (λ e. number e.value) table path)
    ∙ rw table-tree (first-prefix (codes "/api/") top_rows path is-text)
    ∙ by (starts_with nat_eq path (codes "/api/")) (top-level (drop 5 path) (bytes-behind 5 path h))
    ∙ sym (fitting-below (codes "/api/") (patterns_of top) path)
    ∙ ap (λ (rs : Numbered). fitting rs path) all-patterns
    ∙ fitting-first number resources path
  where
    by : (t : Bool) → first top_rows (drop 5 path) ≡ fitting (patterns_of top) (drop 5 path)
        → (if t then first top_rows (drop 5 path) else None) ≡ (if t then fitting (patterns_of top) (drop 5 path) else None)
    by true e = e
    by false e = refl

-- the router finds the row of a path
pub router_finds : (path : List ℕ) → list_all is_visible path ≡ true → map_key (λ e. e.value) (first table path) ≡ resource_of path
router_finds path h = same-rows _ _ (two (first table path) ∙ numbers-agree path (path_of_bytes path h))
  where
    two : (x : Option (RouteOf Resource)) → option_map number (map_key (λ e. e.value) x) ≡ map_key (λ e. number e.value) x
    two None = refl
    two (Some e) = refl
