-- On each line the squares that are stepped on are those whose numbers lie between, by computation.
use Rattle.std.proofs.Common.{◌≡◌, ℕ, ◌+◌, ◌-◌, ◌*◌, ◌/◌, ◌%◌, ◌^◌, ◌<◌, zero, suc, refl, arith, ap, sym, subst, ◌∙◌, get_or, Bool, true, ◌&&◌, ◌||◌, not, ◌==◌, bit_and, nat_lt, inl, inr}
use Rattle.std.proofs.lemmas.Bool.{eqb-true, ltb-true, and_parts, cases_eq}
use Rattle.board.specs.Square.{file_of, rank_of, apart}
use Rattle.board.specs.Sets.{has, IsSetOf}
use Rattle.board.proofs.SetLaws.{same_sets}
use Rattle.bitboards.specs.Lines.{numbers_between, open_between, same_file, same_rank, same_rising, same_falling, is_open}
use Rattle.bitboards.specs.declared.tables.TheConstants.{RISING, FALLING}
use Rattle.bitboards.proofs.Agreement.{rows_agree, table_at, pairs_agree, pair_at}
use Rattle.bitboards.proofs.Open.{way_set, open_by_way}

abbrev pub file_set : ℕ → ℕ
file_set s = 72340172838076673 * 2 ^ (s % 8) % 2 ^ 64

abbrev pub rank_set : ℕ → ℕ
rank_set s = 255 * 2 ^ (8 * (s / 8)) % 2 ^ 64

abbrev pub rising_set : ℕ → ℕ
rising_set s = get_or RISING (s / 8 + 7 - s % 8) 0

abbrev pub falling_set : ℕ → ℕ
falling_set s = get_or FALLING (s / 8 + s % 8) 0

files : rows_agree file_set same_file 64 ≡ true
files = refl

ranks : rows_agree rank_set same_rank 64 ≡ true
ranks = refl

risings : rows_agree rising_set same_rising 64 ≡ true
risings = refl

fallings : rows_agree falling_set same_falling 64 ≡ true
fallings = refl

-- the way between two squares of a line
abbrev pub way_agrees : (ℕ → ℕ) → (ℕ → ℕ → Bool) → ℕ → ℕ → Bool
way_agrees line f a b = not (f a b) || (way_set a b == bit_and (line a) (numbers_between a b))

file_ways : pairs_agree (way_agrees file_set same_file) (λ a b. true) 64 ≡ true
file_ways = refl

rank_ways : pairs_agree (way_agrees rank_set same_rank) (λ a b. true) 64 ≡ true
rank_ways = refl

rising_ways : pairs_agree (way_agrees rising_set same_rising) (λ a b. true) 64 ≡ true
rising_ways = refl

falling_ways : pairs_agree (way_agrees falling_set same_falling) (λ a b. true) 64 ≡ true
falling_ways = refl

pub file_line_has : (s i : ℕ) → i ≡ s → i < 64 → (t : ℕ) → t < 64 → has (file_set i) t ≡ same_file s t
file_line_has s i is on t t_on = table_at file_set same_file files i t on t_on ∙ ap (λ k. same_file k t) is

pub rank_line_has : (s i : ℕ) → i ≡ s → i < 64 → (t : ℕ) → t < 64 → has (rank_set i) t ≡ same_rank s t
rank_line_has s i is on t t_on = table_at rank_set same_rank ranks i t on t_on ∙ ap (λ k. same_rank k t) is

pub rising_line_has : (s i : ℕ) → i ≡ s → i < 64 → (t : ℕ) → t < 64 → has (rising_set i) t ≡ same_rising s t
rising_line_has s i is on t t_on = table_at rising_set same_rising risings i t on t_on ∙ ap (λ k. same_rising k t) is

pub falling_line_has : (s i : ℕ) → i ≡ s → i < 64 → (t : ℕ) → t < 64 → has (falling_set i) t ≡ same_falling s t
falling_line_has s i is on t t_on = table_at falling_set same_falling fallings i t on t_on ∙ ap (λ k. same_falling k t) is

-- on a line, whether it is open is one intersection
way_opens : (line : ℕ → ℕ) (f : ℕ → ℕ → Bool) → pairs_agree (way_agrees line f) (λ a b. true) 64 ≡ true → (set a b : ℕ) → a < 64 → b < 64 → f a b ≡ true → is_open set a b ≡ open_between (line a) set a b
way_opens line f h set a b a_on b_on same =
    let pair : (not (f a b) || (way_set a b == bit_and (line a) (numbers_between a b))) ≡ true = pair_at (way_agrees line f) (λ a b. true) h a b a_on b_on in
    let way : way_set a b ≡ bit_and (line a) (numbers_between a b) = eqb-true _ _ (rw same at pair) in
    open_by_way set a b ∙ ap (λ n. bit_and n set == 0) way

-- the masks have 64 bits
mod_small : (n : ℕ) → n % 2 ^ 64 < 2 ^ 64
mod_small n = omega arith

file_small : (s : ℕ) → s < 64 → file_set s < 2 ^ 64
file_small s on = mod_small _

rank_small : (s : ℕ) → s < 64 → rank_set s < 2 ^ 64
rank_small s on = mod_small _

rows_small : (ℕ → ℕ) → ℕ → Bool
rows_small set zero = true
rows_small set (suc n) = nat_lt (set n) (2 ^ 64) && rows_small set n

small_at : (set : ℕ → ℕ) (n s : ℕ) → rows_small set n ≡ true → s < n → set s < 2 ^ 64
unfolding rows_small
small_at set zero s h below = absurd (omega arith)
small_at set (suc n) s h below =
    let parts = and_parts (nat_lt (set n) (2 ^ 64)) (rows_small set n) h in
    elim (cases_eq s n) [
      | inl e ↦ subst (λ (k : ℕ). set k < 2 ^ 64) (sym e) (ltb-true _ _ parts.0)
      | inr ne ↦ small_at set n s parts.1 (omega arith)
    ]

rising_small : (s : ℕ) → s < 64 → rising_set s < 2 ^ 64
unfolding rows_small
rising_small s on = small_at rising_set 64 s refl on

falling_small : (s : ℕ) → s < 64 → falling_set s < 2 ^ 64
unfolding rows_small
falling_small s on = small_at falling_set 64 s refl on

-- the same of any mask of the line
pub file_open : (line set a b : ℕ) → line < 2 ^ 64 → a < 64 → b < 64 → IsSetOf line (same_file a) → same_file a b ≡ true → open_between line set a b ≡ is_open set a b
file_open line set a b small a_on b_on is same =
    let one : line ≡ file_set a = same_sets line (file_set a) small (file_small a a_on) (λ t on. is t on ∙ sym (table_at file_set same_file files a t a_on on)) in
    ap (λ n. open_between n set a b) one ∙ sym (way_opens file_set same_file file_ways set a b a_on b_on same)

pub rank_open : (line set a b : ℕ) → line < 2 ^ 64 → a < 64 → b < 64 → IsSetOf line (same_rank a) → same_rank a b ≡ true → open_between line set a b ≡ is_open set a b
rank_open line set a b small a_on b_on is same =
    let one : line ≡ rank_set a = same_sets line (rank_set a) small (rank_small a a_on) (λ t on. is t on ∙ sym (table_at rank_set same_rank ranks a t a_on on)) in
    ap (λ n. open_between n set a b) one ∙ sym (way_opens rank_set same_rank rank_ways set a b a_on b_on same)

pub rising_open : (line set a b : ℕ) → line < 2 ^ 64 → a < 64 → b < 64 → IsSetOf line (same_rising a) → same_rising a b ≡ true → open_between line set a b ≡ is_open set a b
rising_open line set a b small a_on b_on is same =
    let one : line ≡ rising_set a = same_sets line (rising_set a) small (rising_small a a_on) (λ t on. is t on ∙ sym (table_at rising_set same_rising risings a t a_on on)) in
    ap (λ n. open_between n set a b) one ∙ sym (way_opens rising_set same_rising rising_ways set a b a_on b_on same)

pub falling_open : (line set a b : ℕ) → line < 2 ^ 64 → a < 64 → b < 64 → IsSetOf line (same_falling a) → same_falling a b ≡ true → open_between line set a b ≡ is_open set a b
falling_open line set a b small a_on b_on is same =
    let one : line ≡ falling_set a = same_sets line (falling_set a) small (falling_small a a_on) (λ t on. is t on ∙ sym (table_at falling_set same_falling fallings a t a_on on)) in
    ap (λ n. open_between n set a b) one ∙ sym (way_opens falling_set same_falling falling_ways set a b a_on b_on same)

-- the diagonals of both directions are all diagonals
slants : pairs_agree (λ s t. same_rising s t || same_falling s t) (λ s t. apart (file_of s) (file_of t) == apart (rank_of s) (rank_of t)) 64 ≡ true
slants = refl

pub slants_at : (s t : ℕ) → s < 64 → t < 64 → (same_rising s t || same_falling s t) ≡ (apart (file_of s) (file_of t) == apart (rank_of s) (rank_of t))
slants_at s t s_on t_on = pair_at (λ s t. same_rising s t || same_falling s t) (λ s t. apart (file_of s) (file_of t) == apart (rank_of s) (rank_of t)) slants s t s_on t_on
