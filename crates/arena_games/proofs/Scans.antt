-- The search for a due game among the numbers of the games that go on.
use Rattle.std.proofs.Common.{◌≡◌, ◌+◌, ◌<◌, ◌≤◌, ℕ, suc, length, List, drop, get_or, None, Some, Bool, true, false, refl, ap, sym, subst, ◌∙◌, arith}
use Rattle.std.specs.Prelude.{slice_get}
use Rattle.std.specs.List.{All, find}
use Rattle.arena_games.specs.declared.kept.Kept.{Kept}
use Rattle.arena_games.specs.Courses.{numbers_where}
use Rattle.arena_games.specs.Keeps.{is_kept_due, runs}
use Rattle.arena_games.specs.KeptGames.{KeptGames, IsTimely}
use Rattle.arena_games.specs.Moments.{first_from, IsInTime}
use Rattle.arena_games.specs.Numbers.{IsParted}
use Rattle.arena_games.proofs.Items.{get_read}
use Rattle.arena_games.proofs.Listed.{all_dropped, find_end, find_here, find_next, first_listed, numbers_below, passes_at, rest_from}
use Rattle.arena_games.proofs.Told.{due_runs, in_time_at, read_at}

-- the numbers that are left are those of the games from a number on
pub record IsLeft (ks : List Kept) (from : ℕ) (left : List ℕ) : Type 0 where
  pub whole : left ≡ numbers_where runs from (drop from ks)
  pub within : All (λ m. m < length ks) left

pub is_left : (ks : List Kept) (slice again running left : List ℕ) (from start : ℕ) → slice ≡ running → running ≡ numbers_where runs 0 ks → again ≡ running → left ≡ drop start again
    → ((p : IsParted slice from) → start ≡ length p.below) → IsLeft ks from left
is_left ks slice again running left from start is kept same cut place =
    let all : left ≡ drop start running = cut ∙ ap (drop start) same in
    record {
      whole = all ∙ (ap (drop start) (sym is) ∙ rest_from runs ks slice from start (is ∙ kept) place);
      within = subst (λ (ns : List ℕ). All (λ m. m < length ks) ns) (sym all)
          (all_dropped (λ m. m < length ks) start running (subst (λ (ns : List ℕ). All (λ m. m < length ks) ns) (sym kept) (numbers_below runs 0 (length ks) ks (omega arith))));
    }

-- whether the game of a number is due
abbrev pub due_at : ℕ → List Kept → ℕ → Bool
due_at t ks m = passes_at (is_kept_due t) (slice_get ks m)

due_so : (t m : ℕ) (ks : List Kept) (k : Kept) (b : Bool) → m < length ks → k ≡ get_or ks m k → is_kept_due t k ≡ b → due_at t ks m ≡ b
due_so t m ks k b lt is due = ap (passes_at (is_kept_due t)) (get_read ks m k lt is) ∙ due

first_is : (t : ℕ) (v : KeptGames) (ks : List Kept) (from : ℕ) (left : List ℕ) → ks ≡ v.games → IsLeft ks from left → first_from (is_kept_due t) from (drop from v.games) ≡ find (due_at t ks) left
first_is t v ks from left same l =
    ap (λ (x : List Kept). first_from (is_kept_due t) from (drop from x)) (sym same)
    ∙ (first_listed (is_kept_due t) runs ks from (drop from ks) (due_runs t) refl ∙ ap (find (due_at t ks)) (sym l.whole))

pub found : (t : ℕ) (v : KeptGames) (ks : List Kept) (from i : ℕ) (left : List ℕ) (k : Kept) → ks ≡ v.games → IsLeft ks from left → find (due_at t ks) (drop i left) ≡ find (due_at t ks) left → i < length left
    → k ≡ get_or ks (get_or left i 0) k → is_kept_due t k ≡ true → Some (get_or left i 0) ≡ first_from (is_kept_due t) from (drop from v.games)
found t v ks from i left k same l sought lt is due =
    sym (find_here (due_at t ks) left i 0 lt (due_so t (get_or left i 0) ks k true (l.within i 0 lt) is due)) ∙ (sought ∙ sym (first_is t v ks from left same l))

pub not_found : (t : ℕ) (ks : List Kept) (from i : ℕ) (left : List ℕ) (k : Kept) → IsLeft ks from left → find (due_at t ks) (drop i left) ≡ find (due_at t ks) left → i < length left
    → k ≡ get_or ks (get_or left i 0) k → is_kept_due t k ≡ false → find (due_at t ks) (drop (i + 1) left) ≡ find (due_at t ks) left
not_found t ks from i left k l sought lt is due =
    ap (λ n. find (due_at t ks) (drop n left)) (let e : i + 1 ≡ suc i = omega arith in e)
    ∙ (find_next (due_at t ks) left i 0 lt (due_so t (get_or left i 0) ks k false (l.within i 0 lt) is due) ∙ sought)

pub none_found : (t : ℕ) (v : KeptGames) (ks : List Kept) (from i : ℕ) (left : List ℕ) → ks ≡ v.games → IsLeft ks from left → find (due_at t ks) (drop i left) ≡ find (due_at t ks) left → length left ≤ i
    → None ≡ first_from (is_kept_due t) from (drop from v.games)
none_found t v ks from i left same l sought le = sym (find_end (due_at t ks) left i le) ∙ (sought ∙ sym (first_is t v ks from left same l))

pub in_time_left : (t : ℕ) (v : KeptGames) (ks : List Kept) (from i : ℕ) (left : List ℕ) (k : Kept) → ks ≡ v.games → IsLeft ks from left → i < length left → k ≡ get_or ks (get_or left i 0) k
    → IsTimely v t → IsInTime k t
in_time_left t v ks from i left k same l lt is timely =
    let m = get_or left i 0 in
    let within : m < length v.games = subst (λ (x : List Kept). m < length x) same (l.within i 0 lt) in
    in_time_at v.games timely.games t m k timely.stands timely.past (read_at v ks m k same within is)
