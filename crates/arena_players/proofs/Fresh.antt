-- The accounts of players who have had no game yet.
use Rattle.std.proofs.Common.{◌≡◌, ℕ, zero, suc, ◌+◌, ◌<◌, List, [], ◌∷◌, ◌++◌, length, get_or, take, Some, refl, sym, ap, subst, ◌∙◌, arith}
use Rattle.std.specs.Prelude.{slice_get}
use Rattle.std.specs.List.{All}
use Rattle.std.specs.Option.{option_map_or}
use Rattle.std.proofs.lemmas.List.{take_more}
use Rattle.entries.specs.declared.setup.Player.{Player}
use Rattle.entries.specs.declared.setup.Setup.{Setup}
use Rattle.entries.specs.Ranges.{IsPlayer}
use Rattle.arena_history.specs.Results.{results_among}
use Rattle.arena_history.specs.Table.{lines_among}
use Rattle.arena_players.specs.declared.account.Account.{Account}
use Rattle.arena_players.specs.Accounts.{AreFresh, IsAccountOf, IsFreshOf}
use Rattle.arena_players.specs.Results.{IsWithin}
use Rattle.arena_players.proofs.Lists.{all_held, get_at}

fresh_more : (players : List Player) (accounts : List Account) (player : Player) (a : Account) → AreFresh players accounts → IsFreshOf player a → AreFresh (players ++ player ∷ []) (accounts ++ a ∷ [])
fresh_more [] [] player a are one = (one, tt)
fresh_more [] (b ∷ accounts) player a are one = absurd are
fresh_more (q ∷ players) [] player a are one = absurd are
fresh_more (q ∷ players) (b ∷ accounts) player a are one = (are.0, fresh_more players accounts player a are.1 one)

-- one account more is made
pub fresh_next : (players : List Player) (i : ℕ) (d : Player) (old new : List Account) (a : Account) → i < length players → AreFresh (take i players) old → IsFreshOf (get_or players i d) a → new ≡ old ++ a ∷ [] → AreFresh (take (i + 1) players) new
fresh_next players i d old new a lt are one is =
    subst (λ l. AreFresh (take (i + 1) players) l) (sym is)
    (subst (λ l. AreFresh l (old ++ a ∷ [])) (sym (take_more players i d lt)) (fresh_more (take i players) old (get_or players i d) a are one))

pub fresh_length : (players : List Player) (accounts : List Account) → AreFresh players accounts → length accounts ≡ length players
fresh_length [] [] are = refl
fresh_length [] (a ∷ accounts) are = absurd are
fresh_length (q ∷ players) [] are = absurd are
fresh_length (q ∷ players) (a ∷ accounts) are = ap suc (fresh_length players accounts are.1)

-- a player whose account is fresh
record FreshAt (players : List Player) (p : ℕ) (a : Account) : Type 0 where
  player : Player
  there : slice_get players p ≡ Some player
  fresh : IsFreshOf player a

fresh_at : (players : List Player) (accounts : List Account) (p : ℕ) (a : Account) → AreFresh players accounts → slice_get accounts p ≡ Some a → FreshAt players p a
fresh_at [] [] p a are at = cc
fresh_at [] (b ∷ accounts) p a are at = absurd are
fresh_at (q ∷ players) [] p a are at = absurd are
fresh_at (q ∷ players) (b ∷ accounts) zero a are at = record { player = q; there = refl; fresh = (let same : b ≡ a = cc in subst (IsFreshOf q) same are.0) }
fresh_at (q ∷ players) (b ∷ accounts) (suc p) a are at =
    let f = fresh_at players accounts p a are.1 at in
    record { player = f.player; there = f.there; fresh = f.fresh }

-- each player has the account of no games
pub fresh_accounts : (s : Setup) (accounts : List Account) → AreFresh s.players accounts → (p : ℕ) (a : Account) → slice_get accounts p ≡ Some a → IsAccountOf s [] p a
unfolding results_among
fresh_accounts s accounts are p a at =
    let f = fresh_at s.players accounts p a are at in
    record { rating = f.fresh.rating ∙ sym (ap (λ o. option_map_or (λ (x : Player). x.rating) o 0) f.there); results = f.fresh.results }

pub fresh_within : (teams : ℕ) (players : List Player) (accounts : List Account) → All (IsPlayer teams) players → AreFresh players accounts → All (IsWithin 0) accounts
fresh_within teams players accounts good are = λ k d lt.
    let a = get_or accounts k d in
    let f = fresh_at players accounts k a are (get_at accounts k d lt) in
    let player = all_held (IsPlayer teams) players k f.player good f.there in
    let rating = f.fresh.rating in
    let most = player.rating_most in
    record { rated = omega (arith, rating, most); sheet = omega (arith, f.fresh.sheet); perf = omega (arith, f.fresh.perf) }

pub no_lines : (s : Setup) → lines_among s [] [] ≡ []
unfolding lines_among
no_lines s = refl
