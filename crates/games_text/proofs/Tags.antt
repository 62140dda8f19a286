-- The games of an evening can be written.
use Rattle.std.proofs.Common.{◌≡◌, ℕ, ◌+◌, ◌<◌, ◌≤◌, ◌%◌, ◌^◌, Bool, true, false, not, ◌&&◌, ◌||◌, List, [], ◌∷◌, ◌++◌, length, None, Some, get_or, refl, sym, ap, subst, ◌∙◌, arith, IsTrue, append_assoc}
use Rattle.std.specs.Prelude.{slice_get}
use Rattle.std.specs.List.{list_all, All}
use Rattle.std.specs.Fmt.{decimal}
use Rattle.std.specs.Option.{option_map_or}
use Rattle.std.proofs.lemmas.Bool.{and_parts, and_from, le-leb, leb-true, ne_eqb, eqb-true}
use Rattle.std.proofs.lemmas.Fmt.{decimal_by_steps}
use Rattle.std.proofs.lemmas.List.Folds.{list_all-append}
use Rattle.std.proofs.lemmas.Option.{slice_get-get_or}
use Rattle.board.specs.Moves.{MoveWord}
use Rattle.board.specs.Start.{start_parts}
use Rattle.entries.specs.declared.setup.Player.{Player}
use Rattle.entries.specs.declared.setup.Setup.{Setup}
use Rattle.entries.specs.Limits.{max_games}
use Rattle.entries.specs.Names as names
use Rattle.entries.specs.Ranges.{IsGood}
use Rattle.pgn_text.specs.declared.game.Tag.{Tag}
use Rattle.pgn_text.specs.declared.game.PgnResult.{PgnResult}
use Rattle.pgn_text.specs.declared.game.PgnResult.TheVariants.{White, Black, Draw, Unknown}
use Rattle.pgn_text.specs.Games.{is_value_byte, is_tag, is_start_name, is_line, IsGame}
use Rattle.pgn_text.specs.Pgn.{result_text}
use Rattle.games_text.specs.declared.ended.Ended.{Ended}
use Rattle.games_text.specs.GameTexts.{result_of, name_of, site_tags, player_tags, game_with}

or_elim : (a b : Bool) (P : Type 0) → (a || b) ≡ true → (a ≡ true → P) → (b ≡ true → P) → P
or_elim true b P h f g = f refl
or_elim false b P h f g = g h

value_byte : (b : ℕ) → 32 ≤ b → (b ≡ 34 → ⊥) → (b ≡ 92 → ⊥) → is_value_byte b ≡ true
value_byte b low quote slash = and_from _ _ (and_from _ _ (le-leb 32 b low) (ap not (ne_eqb b 34 quote))) (ap not (ne_eqb b 92 slash))

between : (low high b : ℕ) → 34 < low → (high < 92) → (Rattle.std.specs.Prelude.nat_le low b && Rattle.std.specs.Prelude.nat_le b high) ≡ true → is_value_byte b ≡ true
between low high b over under h =
    let t = and_parts _ _ h in
    let lo : low ≤ b = leb-true low b t.0 in
    let hi : b ≤ high = leb-true b high t.1 in
    value_byte b (omega (arith, lo, over)) (λ e. omega (arith, lo, over, e)) (λ e. omega (arith, hi, under, e))

small : (b : ℕ) → (Rattle.std.specs.Prelude.nat_le 97 b && Rattle.std.specs.Prelude.nat_le b 122) ≡ true → is_value_byte b ≡ true
small b h =
    let t = and_parts _ _ h in
    let lo : 97 ≤ b = leb-true 97 b t.0 in
    value_byte b (omega (arith, lo)) (λ e. omega (arith, lo, e)) (λ e. omega (arith, lo, e))

-- what may stand in a name may stand in a value
name_byte : (b : ℕ) → names.is_name_byte b ≡ true → is_value_byte b ≡ true
name_byte b h =
    let P : Type 0 = is_value_byte b ≡ true in
    or_elim _ _ P h
    (λ h'1. or_elim _ _ P h'1
    (λ h'2. or_elim _ _ P h'2
    (λ h'3. or_elim _ _ P h'3 (small b) (between 65 90 b (omega arith) (omega arith)))
    (between 48 57 b (omega arith) (omega arith)))
    (λ e. ap is_value_byte (eqb-true b 95 e)))
    (λ e. ap is_value_byte (eqb-true b 45 e))

all_weaker : (p q : ℕ → Bool) → ((b : ℕ) → p b ≡ true → q b ≡ true) → (xs : List ℕ) → list_all p xs ≡ true → list_all q xs ≡ true
all_weaker p q f [] h = refl
all_weaker p q f (x ∷ xs) h = let t = and_parts (p x) (list_all p xs) h in and_from (q x) (list_all q xs) (f x t.0) (all_weaker p q f xs t.1)

name_value : (name : List ℕ) → names.IsName name → list_all is_value_byte name ≡ true
name_value name is = all_weaker names.is_name_byte is_value_byte name_byte name (and_parts _ _ is).1

digit : (n : ℕ) → n < 10 → is_value_byte (48 + n) ≡ true
digit n h = value_byte (48 + n) (omega arith) (λ e. omega (arith, e)) (λ e. omega (arith, h, e))

decimal_value : (n : ℕ) → n < 2 ^ 64 → list_all is_value_byte (decimal n) ≡ true
decimal_value n h =
    decimal_by_steps (λ _ ds. list_all is_value_byte ds ≡ true)
    (λ m low. and_from (is_value_byte (48 + m)) true (digit m low) refl)
    (λ m ds big d. list_all-append is_value_byte ds ((48 + m % 10) ∷ []) ∙ and_from (list_all is_value_byte ds) (list_all is_value_byte ((48 + m % 10) ∷ [])) d (and_from (is_value_byte (48 + m % 10)) true (digit (m % 10) (omega arith)) refl))
    n h

result_value : (r : PgnResult) → list_all is_value_byte (result_text r) ≡ true
result_value White = refl
result_value Black = refl
result_value Draw = refl
result_value Unknown = refl

site_is : (id : ℕ) → list_all is_value_byte (decimal id) ≡ true → list_all is_tag (site_tags id) ≡ true
site_is id h = and_from (list_all is_value_byte (decimal id)) true h refl

players_are : (white black : List ℕ) (r : PgnResult) → list_all is_value_byte white ≡ true → list_all is_value_byte black ≡ true → list_all is_tag (player_tags white black r) ≡ true
players_are white black r w b =
    and_from (list_all is_value_byte white) _ w (and_from (list_all is_value_byte black) _ b (and_from (list_all is_value_byte (result_text r)) true (result_value r) refl))

none_start : (id : ℕ) (white black : List ℕ) (r : PgnResult) → list_all (λ (t : Tag). not (is_start_name t.name)) (site_tags id ++ player_tags white black r) ≡ true
none_start id white black r = refl

-- the name of a player of a good setup
named : (s : Setup) (p : ℕ) → IsGood s → p < length s.players → list_all is_value_byte (name_of s.players p) ≡ true
named s p good within =
    let d : Player = record { name = []; rating = 0; team = None } in
    let x = get_or s.players p d in
    let is : name_of s.players p ≡ x.name = ap (λ o. option_map_or (λ (y : Player). y.name) o []) (slice_get-get_or s.players p d within) in
    subst (λ (l : List ℕ). list_all is_value_byte l ≡ true) (sym is) (name_value x.name (good.players_good p d within).named)

-- a game of a good setup, of which the moves are a legal line
pub can_be_written : (s : Setup) (x : Ended) (ms : List MoveWord) → IsGood s → x.id < max_games → x.white < length s.players → x.black < length s.players → IsTrue (is_line start_parts ms) → IsGame (game_with s.players x ms)
unfolding game_with
can_be_written s x ms good id white black line = record {
  tags =
      list_all-append is_tag (site_tags x.id) (player_tags (name_of s.players x.white) (name_of s.players x.black) (result_of x.outcome.winner))
      ∙ and_from _ _ (site_is x.id (decimal_value x.id (omega (arith, id)))) (players_are (name_of s.players x.white) (name_of s.players x.black) (result_of x.outcome.winner) (named s x.white good white) (named s x.black good black));
  start = none_start x.id (name_of s.players x.white) (name_of s.players x.black) (result_of x.outcome.winner);
  line = line;
}

-- four tags, put one after another
pub four_tags : (a b c d : Tag) (old one two three : List Tag) → one ≡ old ++ a ∷ [] → two ≡ one ++ b ∷ [] → three ≡ two ++ c ∷ [] → three ++ d ∷ [] ≡ old ++ a ∷ b ∷ c ∷ d ∷ []
four_tags a b c d old one two three first second third =
    ap (λ l. l ++ d ∷ []) (third ∙ ap (λ l. l ++ c ∷ []) (second ∙ ap (λ l. l ++ b ∷ []) first)) ∙ simp append_assoc

pub name_at : (players : List Player) (p : ℕ) (x : Player) → slice_get players p ≡ Some x → name_of players p ≡ x.name
name_at players p x found = ap (λ o. option_map_or (λ (y : Player). y.name) o []) found
