-- The lines and the rows of the table: whose they are, that they are apart, and in which order they stand.
use Rattle.std.proofs.Common.{◌≡◌, ℕ, zero, suc, ◌+◌, ◌<◌, inl, inr, ⊎_elim, List, [], ◌∷◌, ◌++◌, length, Some, true, false, get_or, refl, sym, ap, ◌∙◌, subst, arith, append_assoc}
use Rattle.std.specs.Prelude.{map, slice_get, fold, ◌==◌, ◌≢◌, ◌||◌, ◌↔◌, IsTrue}
use Rattle.std.specs.List.{All, AllPairs, AllByRecursion, Contains, list_any}
use Rattle.std.specs.List.Sorted.{IsPermutation}
use Rattle.std.proofs.lemmas.Bool.{cases_Bool, both_ways, eqb-true, eq-eqb}
use Rattle.std.proofs.lemmas.List.{length_push}
use Rattle.std.proofs.lemmas.List.Elements.{All-from_recursion}
use Rattle.std.proofs.lemmas.List.Quantifiers.{position-Some}
use Rattle.std.proofs.lemmas.List.Sorted.{All-permutation, list_any-IsPermutation}
use Rattle.entries.specs.declared.setup.Setup.{Setup}
use Rattle.entries.specs.declared.journal.What.{What}
use Rattle.entries.specs.declared.journal.What.TheVariants as what
use Rattle.ranking.specs.declared.line.Line.{Line}
use Rattle.ranking.specs.declared.row.Row.{Row}
use Rattle.ranking.specs.Order.{above, placed, in_order, ranked}
use Rattle.ranking.specs.Rows.{has, rank_of, row_at, rows_from, rows}
use Rattle.ranking.proofs.Before.{above_order}
use Rattle.ranking.proofs.Orders.{fold_placed-permutation, all_placed}
use Rattle.ranking.proofs.Ranks.{slice_get-rows_from}
use Rattle.arena_history.specs.History.{History}
use Rattle.arena_history.specs.Endings.{EndedGame, finished}
use Rattle.arena_history.specs.Table.{joined, entered_in, entered, first_enter, line_among, lines_among, line_of, lines, standings, Precedes}
use Rattle.arena_history.specs.Wishes.{has_entered}
use Rattle.arena_history.proofs.Entered.{stands_in, stands_in-entered, contains_from_stands, stands_from_contains, order_of_entered}
use Rattle.arena_history.proofs.Following.{Follows, pairs_follow, follows_push, follows_map, follows_in_order}
use Rattle.arena_history.proofs.Lists.{slice_get-mid}

pub ranked-permutation : (ls : List Line) → IsPermutation ls (ranked ls)
unfolding ranked
ranked-permutation ls = fold_placed-permutation above [] ls

pub player-line_among : (s : Setup) (games : List EndedGame) (p : ℕ) → (line_among s games p).player ≡ p
unfolding line_among
player-line_among s games p = refl

-- exactly those who entered have a line

pub has-lines_among : (s : Setup) (games : List EndedGame) (p : ℕ) (ps : List ℕ) → has (map (line_among s games) ps) p ≡ stands_in p ps
has-lines_among s games p [] = refl
has-lines_among s games p (q ∷ ps) = λ i. (player-line_among s games q i == p) || has-lines_among s games p ps i

pub has-lines : (s : Setup) (h : History) (p : ℕ) → has (lines s h) p ≡ stands_in p (entered h)
unfolding lines lines_among
has-lines s h p = has-lines_among s (finished s h) p (entered h)

-- the players of rows and lines

-- the players of these rows
abbrev pub players_of : List Row → List ℕ
players_of rs = map (λ (row : Row). row.player) rs

stands_in-rows_from : (p rank : ℕ) (ls : List Line) → stands_in p (players_of (rows_from rank ls)) ≡ has ls p
stands_in-rows_from p rank [] = refl
stands_in-rows_from p rank (x ∷ ls) = ap (λ b. (x.player == p) || b) (stands_in-rows_from p (suc rank) ls)

stands_in-rows : (p : ℕ) (ls : List Line) → stands_in p (players_of (rows ls)) ≡ has ls p
unfolding rows
stands_in-rows p ls =
    stands_in-rows_from p 0 (ranked ls) ∙ sym (list_any-IsPermutation (λ (line : Line). line.player == p) ls (ranked ls) (ranked-permutation ls))

pub stands_in-standings : (s : Setup) (h : History) (p : ℕ) → stands_in p (players_of (standings s h)) ≡ has_entered h p
unfolding standings
stands_in-standings s h p = stands_in-rows p (lines s h) ∙ (has-lines s h p ∙ stands_in-entered h p)

-- the table has exactly the players with an enter entry
pub table_has_entered : (s : Setup) (h : History) (p : ℕ) → Contains (players_of (standings s h)) p ↔ IsTrue (has_entered h p)
table_has_entered s h p =
    let same = stands_in-standings s h p in
    (λ found. sym same ∙ stands_from_contains p (players_of (standings s h)) found, λ entered. contains_from_stands p (players_of (standings s h)) (same ∙ entered))

-- the row at a player's rank is his

-- a line is that of its player
abbrev IsOwnLine : Setup → History → Line → Type 0
IsOwnLine s h x = x ≡ line_of s h x.player

lines_own : (s : Setup) (h : History) → All (IsOwnLine s h) (lines s h)
unfolding lines lines_among line_of
lines_own s h = All-from_recursion (IsOwnLine s h) (map (line_among s (finished s h)) (entered h)) (each (entered h))
  where
    each : (ps : List ℕ) → AllByRecursion (IsOwnLine s h) (map (line_among s (finished s h)) ps)
    each [] = tt
    each (p ∷ ps) = (sym (ap (line_among s (finished s h)) (player-line_among s (finished s h) p)), each ps)

pub row_of_player : (s : Setup) (h : History) (p k : ℕ) → rank_of (lines s h) p ≡ Some k → slice_get (standings s h) k ≡ Some (row_at k (line_of s h p))
unfolding rank_of rows standings
row_of_player s h p k at =
    let ls = ranked (lines s h) in
    let d = line_of s h p in
    let found = position-Some (λ (line : Line). line.player == p) ls k d at in
    let lt : k < length ls = found.0 in
    let x = get_or ls k d in
    let player : x.player ≡ p = eqb-true x.player p found.1 in
    let own : x ≡ line_of s h x.player = All-permutation (IsOwnLine s h) (lines s h) ls (ranked-permutation (lines s h)) (lines_own s h) k d lt in
    slice_get-rows_from 0 ls k d lt ∙ (λ i. Some (row_at (let zero_more : 0 + k ≡ k = omega arith in zero_more i) ((own ∙ ap (line_of s h) player) i)))

-- nobody stands twice

joined_apart : (ps : List ℕ) (p : ℕ) → Follows (λ a b. a ≢ b) ps → Follows (λ a b. a ≢ b) (joined ps p)
joined_apart ps p apart =
    ⊎_elim
    (λ (stands : stands_in p ps ≡ true). rw stands apart)
    (λ (new : stands_in p ps ≡ false). rw new (follows_push (λ a b. a ≢ b) ps p apart (none ps new)))
    (cases_Bool (stands_in p ps))
  where
    none : (qs : List ℕ) → list_any (λ q. q == p) qs ≡ false → AllByRecursion (λ y. y ≢ p) qs
    none [] off = tt
    none (q ∷ qs) off =
        ⊎_elim
        (λ (on : (q == p) ≡ true). let never : true ≡ false = ap (λ b. b || list_any (λ q. q == p) qs) (sym on) ∙ off in cc)
        (λ (out : (q == p) ≡ false).
        ((λ same. let never : true ≡ false = sym (eq-eqb q p same) ∙ out in cc), none qs (ap (λ b. b || list_any (λ q. q == p) qs) (sym out) ∙ off)))
        (cases_Bool (q == p))

entered_in_apart : (w : What) (ps : List ℕ) → Follows (λ a b. a ≢ b) ps → Follows (λ a b. a ≢ b) (entered_in w ps)
entered_in_apart (what.Enter p) ps apart = joined_apart ps p apart
entered_in_apart (what.Pause p) ps apart = apart
entered_in_apart (what.Leave p) ps apart = apart
entered_in_apart (what.Act p g a) ps apart = apart
entered_in_apart what.Tick ps apart = apart
entered_in_apart (what.Wave n) ps apart = apart

pub entered_apart : (h : History) → Follows (λ a b. a ≢ b) (entered h)
unfolding entered
entered_apart h = from h.entries [] tt
  where
    from : (es : List Rattle.entries.specs.declared.journal.Entry.Entry) (ps : List ℕ) → Follows (λ a b. a ≢ b) ps → Follows (λ a b. a ≢ b) (fold (λ players (e : Rattle.entries.specs.declared.journal.Entry.Entry). entered_in e.what players) ps es)
    from [] ps apart = apart
    from (e ∷ es) ps apart = from es (entered_in e.what ps) (entered_in_apart e.what ps apart)

-- lines of different players
abbrev AreOfTwo : Line → Line → Type 0
AreOfTwo x y = x.player ≢ y.player

lines_apart : (s : Setup) (h : History) → Follows AreOfTwo (lines s h)
unfolding lines lines_among
lines_apart s h =
    follows_map (line_among s (finished s h)) (λ a b. a ≢ b) AreOfTwo (entered h) (λ x y apart same. apart (sym (player-line_among s (finished s h) x) ∙ (same ∙ player-line_among s (finished s h) y))) (entered_apart h)

-- the second row has a greater rank and another player
pub record ComesBehind (a b : Row) : Type 0 where
  pub ranks : a.rank < b.rank
  pub players : a.player ≢ b.player

rows_from_above : (x : Line) (low rank : ℕ) (ls : List Line) → low < rank → AllByRecursion (AreOfTwo x) ls → AllByRecursion (ComesBehind (row_at low x)) (rows_from rank ls)
rows_from_above x low rank [] lt all = tt
rows_from_above x low rank (y ∷ ls) lt all = (record { ranks = lt; players = all.0 }, rows_from_above x low (suc rank) ls (omega arith) all.1)

rows_from_apart : (rank : ℕ) (ls : List Line) → Follows AreOfTwo ls → Follows ComesBehind (rows_from rank ls)
rows_from_apart rank [] apart = tt
rows_from_apart rank (x ∷ ls) apart = (rows_from_above x rank (suc rank) ls (omega arith) apart.0, rows_from_apart (suc rank) ls apart.1)

-- the rows of the table rise in rank, and no two are of one player
pub standings_apart : (s : Setup) (h : History) → Follows ComesBehind (standings s h)
unfolding standings rows ranked
standings_apart s h = rows_from_apart 0 (in_order above (lines s h)) (follows_in_order above AreOfTwo (λ x y apart same. apart (sym same)) (lines s h) (lines_apart s h))

-- the order

-- a line is that of a player who entered at the same place
player_at_line : (s : Setup) (games : List EndedGame) (ps : List ℕ) (i : ℕ) (x : Line) → slice_get (map (line_among s games) ps) i ≡ Some x → slice_get ps i ≡ Some x.player
player_at_line s games [] i x at = cc
player_at_line s games (p ∷ ps) zero x at = let same : line_among s games p ≡ x = cc in ap Some (sym (player-line_among s games p)) ∙ ap (λ (y : Line). Some y.player) same
player_at_line s games (p ∷ ps) (suc i) x at = player_at_line s games ps i x at

module _ (s : Setup) (h : History) where
  -- x is one of the first n lines
  abbrev IsAmong : ℕ → Line → Type 0
  IsAmong n x = (i : ℕ) × (i < n) × (slice_get (lines s h) i ≡ Some x)

  earlier : (i j : ℕ) (x y : Line) → i < j → slice_get (lines s h) i ≡ Some x → slice_get (lines s h) j ≡ Some y → first_enter h x.player < first_enter h y.player
  unfolding lines lines_among
  earlier i j x y lt at at' = order_of_entered h i j x.player y.player lt (player_at_line s (finished s h) (entered h) i x at) (player_at_line s (finished s h) (entered h) j y at')

  not_above : (x y : Line) → Precedes h x y → above y x ≡ false
  not_above x y (inl up) = above_order.one_way x y up
  not_above x y (inr same) = same.1

  -- whom y precedes, x precedes who stands above y
  all_below : (x y : Line) (below : List Line) → above x y ≡ true → AllByRecursion (Precedes h y) below → AllByRecursion (Precedes h x) below
  all_below x y [] up all = tt
  all_below x y (z ∷ below) up all = (
    inl (
        ⊎_elim
        (λ (is : above x z ≡ true). is)
        (λ (off : above x z ≡ false). absurd (both_ways (above x y) (above_order.chain x z y off (not_above y z all.0)) up))
        (cases_Bool (above x z))
        ),
    all_below x y below up all.1,
  )

  -- y, who entered before x and above whom x does not stand, precedes x
  precedes_newer : (n : ℕ) (x y : Line) → slice_get (lines s h) n ≡ Some x → IsAmong n y → above x y ≡ false → Precedes h y x
  precedes_newer n x y at (i, early, found) off =
      ⊎_elim
      (λ (up : above y x ≡ true). inl up)
      (λ (tie : above y x ≡ false). inr (tie, off, earlier i n y x early found at))
      (cases_Bool (above y x))

  follows_placed : (n : ℕ) (x : Line) (table : List Line) → slice_get (lines s h) n ≡ Some x → AllByRecursion (IsAmong n) table → Follows (Precedes h) table → Follows (Precedes h) (placed above table x)
  follows_placed n x [] at among down = (tt, tt)
  follows_placed n x (y ∷ below) at among down =
      ⊎_elim
      (λ (up : above x y ≡ true). rw up ((inl up, all_below x y below up down.0), down))
      (λ (off : above x y ≡ false). rw off (all_placed above (Precedes h y) below x (precedes_newer n x y at among.0 off) down.0, follows_placed n x below at among.1 down.1))
      (cases_Bool (above x y))

  among_more : (n : ℕ) (table : List Line) → AllByRecursion (IsAmong n) table → AllByRecursion (IsAmong (n + 1)) table
  among_more n [] all = tt
  among_more n (y ∷ table) all = ((all.0.0, (let early : all.0.0 < n = all.0.1 in omega arith), all.0.2), among_more n table all.1)

  follows_fold : (table done ls : List Line) → lines s h ≡ done ++ ls → AllByRecursion (IsAmong (length done)) table → Follows (Precedes h) table → Follows (Precedes h) (fold (placed above) table ls)
  follows_fold table done [] split among down = down
  follows_fold table done (x ∷ ls) split among down =
      let at : slice_get (lines s h) (length done) ≡ Some x = ap (λ l. slice_get l (length done)) split ∙ slice_get-mid done x ls in
      let more : AllByRecursion (IsAmong (length done + 1)) (placed above table x) = all_placed above (IsAmong (length done + 1)) table x (length done, omega arith, at) (among_more (length done) table among) in
      follows_fold (placed above table x) (done ++ x ∷ []) ls (split ∙ sym (append_assoc done (x ∷ []) ls)) (subst (λ n. AllByRecursion (IsAmong n) (placed above table x)) (sym (length_push done x)) more) (follows_placed (length done) x table at among down)

  -- the table's lines stand by what is above, and then by first enter entry
  pub table_is_ordered : AllPairs (Precedes h) (ranked (lines s h))
  unfolding ranked
  table_is_ordered = pairs_follow (Precedes h) (fold (placed above) [] (lines s h)) (follows_fold [] [] (lines s h) refl tt tt)
