-- One event more: what the clocks of a list of events are with a further move or berserk.
use Rattle.std.proofs.Common.{mul-le-mul_left, subst, ◌≡◌, ℕ, ◌+◌, ◌-◌, ◌*◌, ◌<◌, ◌≤◌, suc, List, [], ◌∷◌, ◌++◌, length, sum_by, cond, Bool, true, false, ◌||◌, ◌&&◌, nat_le, refl, sym, ap, ◌∙◌, arith, length-append, inl, inr}
use Rattle.std.proofs.lemmas.Bool.{leb-true, leb-false, and_parts, cases_lt}
use Rattle.std.proofs.lemmas.List.{append-nil}
use Rattle.std.proofs.lemmas.List.Concat.{flat_map-append}
use Rattle.std.proofs.lemmas.List.Folds.{list_any-append}
use Rattle.board.specs.declared.piece.Colour.{Colour}
use Rattle.board.specs.declared.piece.Colour.TheVariants.{White, Black}
use Rattle.board.specs.Piece.{same_colour}
use Rattle.entries.specs.declared.setup.Control.{Control}
use Rattle.game_clock.specs.ClockEvents.{ClockEvent, BerserkedBy, MovedAt, stamp_in, stamps, is_berserk_of, has_berserked, turn_of, has_moved, is_later_move, turn_start, thinking_time, later_moves}
use Rattle.game_clock.specs.Banks.{bank, given, spent, first_bank, after_halving, bank_before_moves, increment}
use Rattle.game_clock.specs.Clocks.{Clocks, clocks, bank_of, berserk_of, runs, has_fallen, is_no_show, is_due, after_move, after_berserk}
use Rattle.game_clock.proofs.LaterMoves.{thinking_time_last, thinking_time-push, turn_start-push, sum_later_more, sum_later_same, length-later_moves_more, later_moves_none}

pub stamps-move : (events : List ClockEvent) (t : ℕ) → stamps (events ++ MovedAt t ∷ []) ≡ stamps events ++ t ∷ []
unfolding stamps
stamps-move events t = flat_map-append stamp_in events (MovedAt t ∷ [])

pub stamps-berserk : (events : List ClockEvent) (side : Colour) → stamps (events ++ BerserkedBy side ∷ []) ≡ stamps events
unfolding stamps
stamps-berserk events side = flat_map-append stamp_in events (BerserkedBy side ∷ []) ∙ append-nil (stamps events)

pub has_berserked-push : (events : List ClockEvent) (e : ClockEvent) (side : Colour) → has_berserked (events ++ e ∷ []) side ≡ (has_berserked events side || (is_berserk_of side e || false))
unfolding has_berserked
has_berserked-push events e side = list_any-append (is_berserk_of side) events (e ∷ [])

or_false : (b : Bool) → (b || (false || false)) ≡ b
or_false true = refl
or_false false = refl

or_true : (b : Bool) → (b || (true || false)) ≡ true
or_true true = refl
or_true false = refl

has_berserked-move : (events : List ClockEvent) (t : ℕ) (side : Colour) → has_berserked (events ++ MovedAt t ∷ []) side ≡ has_berserked events side
has_berserked-move events t side = has_berserked-push events (MovedAt t) side ∙ or_false (has_berserked events side)

-- the bank by the stamps of the moves
abbrev pub bank_with : Control → Bool → List ℕ → Colour → ℕ
bank_with c b ts side =
    bank_before_moves c b + increment c b * length (later_moves side (length ts)) - sum_by (thinking_time ts) (later_moves side (length ts))

bank_is : (c : Control) (events : List ClockEvent) (side : Colour) → bank c events side ≡ bank_with c (has_berserked events side) (stamps events) side
unfolding bank given spent
bank_is c events side = refl

same_true : (a b : Colour) → same_colour a b ≡ true → a ≡ b
same_true White White e = refl
same_true Black Black e = refl
same_true White Black e = cc
same_true Black White e = cc

moved_some : (side : Colour) (n : ℕ) → has_moved side n ≡ true → 1 ≤ n
moved_some White n e = leb-true 1 n e
moved_some Black n e = let two : 2 ≤ n = leb-true 2 n e in omega arith

later_some : (side : Colour) (n : ℕ) → is_later_move side n ≡ true → 1 ≤ n
unfolding is_later_move
later_some side n e = moved_some side n ((and_parts (same_colour (turn_of n) side) (has_moved side n) e).1)

later_turn : (side : Colour) (n : ℕ) → is_later_move side n ≡ true → turn_of n ≡ side
unfolding is_later_move
later_turn side n e = same_true (turn_of n) side ((and_parts (same_colour (turn_of n) side) (has_moved side n) e).0)

-- the sum of what comes in, less the sum of what goes out, with one more of each or not
one_more : (r : Bool) (before each n spent more less d : ℕ) → more ≡ n + cond r 1 0 → less ≡ spent + cond r d 0 → (r ≡ true → d < before + each * n - spent)
    → before + each * more - less ≡ cond r (before + each * n - spent - d + each) (before + each * n - spent)
one_more true before each n spent more less d e f h =
    let lt : d < before + each * n - spent = h refl in
    let product : each * more ≡ each * n + each = ap (λ k. each * k) e ∙ omega arith in
    omega (arith, product, lt, f)
one_more false before each n spent more less d e f h =
    let product : each * more ≡ each * n = ap (λ k. each * k) (e ∙ omega arith) in
    omega (arith, product, f)

or_none : (x y : Bool) → (x || y) ≡ false → (x ≡ false) × (y ≡ false)
or_none true y e = cc
or_none false y e = (refl, e)

and_second : (x y : Bool) → x ≡ true → (x && y) ≡ false → y ≡ false
and_second true y x e = e
and_second false y x e = cc

when_true : (r : Bool) (d e : ℕ) → (r ≡ true → d ≡ e) → cond r d 0 ≡ cond r e 0
when_true true d e h = h refl
when_true false d e h = refl

-- one move more adds the time of its turn to what a side has spent, if its clock ran
spent_with : (ts : List ℕ) (start t : ℕ) (side : Colour)
    → sum_by (thinking_time (ts ++ t ∷ [])) (later_moves side (length (ts ++ t ∷ []))) ≡ sum_by (thinking_time ts) (later_moves side (length ts)) + cond (is_later_move side (length ts)) (t - turn_start start ts) 0
spent_with ts start t side =
    let n = length ts in
    let longer : length (ts ++ t ∷ []) ≡ suc n = length-append ts (t ∷ []) ∙ omega arith in
    let f : ℕ → ℕ = thinking_time (ts ++ t ∷ []) in
    let same : sum_by f (later_moves side n) ≡ sum_by (thinking_time ts) (later_moves side n) = sum_later_same f (thinking_time ts) side n (λ k lt. thinking_time-push ts t k lt) in
    let last : cond (is_later_move side n) (f n) 0 ≡ cond (is_later_move side n) (t - turn_start start ts) 0 = when_true (is_later_move side n) (f n) (t - turn_start start ts) (λ e. thinking_time_last ts start t (later_some side n e)) in
    ap (λ k. sum_by f (later_moves side k)) longer ∙ (sum_later_more f side n ∙ (λ i. same i + last i))

-- a move changes the bank of the side whose clock runs, and no other
pub bank-push : (c : Control) (b : Bool) (ts : List ℕ) (start t : ℕ) (side : Colour)
    → (is_later_move side (length ts) ≡ true → t - turn_start start ts < bank_with c b ts side)
    → bank_with c b (ts ++ t ∷ []) side ≡ cond (is_later_move side (length ts)) (bank_with c b ts side - (t - turn_start start ts) + increment c b) (bank_with c b ts side)
bank-push c b ts start t side h =
    let n = length ts in
    let longer : length (ts ++ t ∷ []) ≡ suc n = length-append ts (t ∷ []) ∙ omega arith in
    let r : Bool = is_later_move side n in
    let count : length (later_moves side (length (ts ++ t ∷ []))) ≡ length (later_moves side n) + cond r 1 0 = ap (λ k. length (later_moves side k)) longer ∙ length-later_moves_more side n in
    one_more r (bank_before_moves c b) (increment c b) (length (later_moves side n)) (sum_by (thinking_time ts) (later_moves side n)) (length (later_moves side (length (ts ++ t ∷ [])))) (sum_by (thinking_time (ts ++ t ∷ [])) (later_moves side (length (ts ++ t ∷ [])))) (t - turn_start start ts) count (spent_with ts start t side) h

-- a clock that runs and has not fallen has more time left than the turn took
in_time : (k : Clocks) (t : ℕ) (side : Colour) → is_due k t ≡ false → runs k side ≡ true → t - k.since < bank_of k side
unfolding is_due has_fallen
in_time k t side e r =
    let turn : turn_of k.moves ≡ side = later_turn side k.moves r in
    let fallen : has_fallen k t ≡ false = (or_none (is_no_show k t) (has_fallen k t) e).1 in
    let there : (runs k side && nat_le (bank_of k side) (t - k.since)) ≡ false = sym (λ i. runs k (turn i) && nat_le (bank_of k (turn i)) (t - k.since)) ∙ fallen in
    leb-false (bank_of k side) (t - k.since) (and_second (runs k side) (nat_le (bank_of k side) (t - k.since)) r there)

bank_more : (c : Control) (start : ℕ) (events : List ClockEvent) (t : ℕ) (side : Colour)
    → (is_later_move side (length (stamps events)) ≡ true → t - turn_start start (stamps events) < bank c events side)
    → bank c (events ++ MovedAt t ∷ []) side ≡ cond (is_later_move side (length (stamps events))) (bank c events side - (t - turn_start start (stamps events)) + increment c (has_berserked events side)) (bank c events side)
unfolding bank given spent
bank_more c start events t side h =
    bank_is c (events ++ MovedAt t ∷ []) side
    ∙ ((λ i. bank_with c (has_berserked-move events t side i) (stamps-move events t i) side) ∙ bank-push c (has_berserked events side) (stamps events) start t side h)

-- a further move that was made in time
pub clocks_move : (c : Control) (start : ℕ) (events : List ClockEvent) (t : ℕ) → is_due (clocks c start events) t ≡ false
    → after_move (clocks c start events) t ≡ clocks c start (events ++ MovedAt t ∷ [])
unfolding clocks after_move
clocks_move c start events t h =
    let k : Clocks = clocks c start events in
    let since : turn_start start (stamps (events ++ MovedAt t ∷ [])) ≡ t = ap (turn_start start) (stamps-move events t) ∙ turn_start-push start (stamps events) t in
    let moves : length (stamps (events ++ MovedAt t ∷ [])) ≡ length (stamps events) + 1 = ap length (stamps-move events t) ∙ length-append (stamps events) (t ∷ []) in
    let white = bank_more c start events t White (λ r. in_time k t White h r) in
    let black = bank_more c start events t Black (λ r. in_time k t Black h r) in
    sym
    (λ i. record {
      control = c;
      since = since i;
      moves = moves i;
      white_bank = white i;
      black_bank = black i;
      white_berserk = has_berserked-move events t White i;
      black_berserk = has_berserked-move events t Black i;
    })

-- the clocks before anything has happened
pub clocks_new : (c : Control) (start b : ℕ) → b ≡ first_bank c
    → record { control = c; since = start; moves = 0; white_bank = b; black_bank = b; white_berserk = false; black_berserk = false } ≡ clocks c start []
unfolding clocks bank given spent stamps turn_start later_moves has_berserked
clocks_new c start b h =
    let plain : b ≡ first_bank c + c.inc_ms * 0 - 0 = omega arith in
    λ i. record { control = c; since = start; moves = 0; white_bank = plain i; black_bank = plain i; white_berserk = false; black_berserk = false }

later_moves_zero : (side : Colour) (n : ℕ) → n ≡ 0 → later_moves side n ≡ []
later_moves_zero side n e = ap (later_moves side) e ∙ later_moves_none side

later_moves_one : later_moves Black 1 ≡ []
unfolding later_moves is_later_move turn_of
later_moves_one = refl

-- a side that has made no move has no later one
later_moves_before : (side : Colour) (n : ℕ) → has_moved side n ≡ false → later_moves side n ≡ []
later_moves_before White n e = let none : n < 1 = leb-false 1 n e in later_moves_zero White n (omega arith)
later_moves_before Black n e =
    let few : n < 2 = leb-false 2 n e in
    elim (cases_lt n 1) [ inl none ↦ later_moves_zero Black n (omega arith) | inr some ↦ (let one : n ≡ 1 = omega arith in ap (later_moves Black) one ∙ later_moves_one) ]

-- so it has its first bank
bank_before : (c : Control) (events : List ClockEvent) (side : Colour) (b : Bool) → has_moved side (length (stamps events)) ≡ false → has_berserked events side ≡ b
    → bank c events side ≡ bank_before_moves c b
bank_before c events side b e h =
    let none : later_moves side (length (stamps events)) ≡ [] = later_moves_before side (length (stamps events)) e in
    bank_is c events side
    ∙ ((λ i. bank_before_moves c (h i) + increment c (h i) * length (none i) - sum_by (thinking_time (stamps events)) (none i)) ∙ omega arith)

bank_halved : (c : Control) (start : ℕ) (events : List ClockEvent) (side : Colour) → has_moved side (length (stamps events)) ≡ false → has_berserked events side ≡ false
    → has_berserked (events ++ BerserkedBy side ∷ []) side ≡ true
    → bank c (events ++ BerserkedBy side ∷ []) side ≡ after_halving c (bank c events side)
bank_halved c start events side e h now =
    bank_before c (events ++ BerserkedBy side ∷ []) side true (ap (λ ts. has_moved side (length ts)) (stamps-berserk events side) ∙ e) now
    ∙ sym (ap (after_halving c) (bank_before c events side false e h))

bank_kept : (c : Control) (events : List ClockEvent) (by side : Colour) → has_berserked (events ++ BerserkedBy by ∷ []) side ≡ has_berserked events side
    → bank c (events ++ BerserkedBy by ∷ []) side ≡ bank c events side
bank_kept c events by side same =
    bank_is c (events ++ BerserkedBy by ∷ []) side
    ∙ ((λ i. bank_with c (same i) (stamps-berserk events by i) side) ∙ sym (bank_is c events side))

-- a further berserk of a side that has made no move and has not berserked
pub clocks_berserk : (c : Control) (start : ℕ) (events : List ClockEvent) (side : Colour)
    → has_moved side (clocks c start events).moves ≡ false → berserk_of (clocks c start events) side ≡ false
    → after_berserk (clocks c start events) side ≡ clocks c start (events ++ BerserkedBy side ∷ [])
unfolding clocks after_berserk
clocks_berserk c start events White early once =
    let stamped = stamps-berserk events White in
    let white : has_berserked (events ++ BerserkedBy White ∷ []) White ≡ true = has_berserked-push events (BerserkedBy White) White ∙ or_true (has_berserked events White) in
    let black : has_berserked (events ++ BerserkedBy White ∷ []) Black ≡ has_berserked events Black = has_berserked-push events (BerserkedBy White) Black ∙ or_false (has_berserked events Black) in
    let halved = bank_halved c start events White early once white in
    let kept = bank_kept c events White Black black in
    sym
    (λ i. record {
      control = c;
      since = turn_start start (stamped i);
      moves = length (stamped i);
      white_bank = halved i;
      black_bank = kept i;
      white_berserk = white i;
      black_berserk = black i;
    })
clocks_berserk c start events Black early once =
    let stamped = stamps-berserk events Black in
    let black : has_berserked (events ++ BerserkedBy Black ∷ []) Black ≡ true = has_berserked-push events (BerserkedBy Black) Black ∙ or_true (has_berserked events Black) in
    let white : has_berserked (events ++ BerserkedBy Black ∷ []) White ≡ has_berserked events White = has_berserked-push events (BerserkedBy Black) White ∙ or_false (has_berserked events White) in
    let halved = bank_halved c start events Black early once black in
    let kept = bank_kept c events Black White white in
    sym
    (λ i. record {
      control = c;
      since = turn_start start (stamped i);
      moves = length (stamped i);
      white_bank = kept i;
      black_bank = halved i;
      white_berserk = white i;
      black_berserk = black i;
    })

spent-move : (start : ℕ) (events : List ClockEvent) (t : ℕ) (side : Colour)
    → spent (events ++ MovedAt t ∷ []) side ≡ spent events side + cond (is_later_move side (length (stamps events))) (t - turn_start start (stamps events)) 0
unfolding spent
spent-move start events t side =
    ap (λ ts. sum_by (thinking_time ts) (later_moves side (length ts))) (stamps-move events t) ∙ spent_with (stamps events) start t side

at_least : (a b r : ℕ) → a ≡ b + r → b ≤ a
at_least a b r e = omega arith

given-move : (c : Control) (events : List ClockEvent) (t : ℕ) (side : Colour) → given c events side ≤ given c (events ++ MovedAt t ∷ []) side
unfolding given
given-move c events t side =
    let b : Bool = has_berserked events side in
    let longer : length (stamps (events ++ MovedAt t ∷ [])) ≡ suc (length (stamps events)) = ap length (stamps-move events t) ∙ (length-append (stamps events) (t ∷ []) ∙ omega arith) in
    let count : length (later_moves side (length (stamps (events ++ MovedAt t ∷ [])))) ≡ length (later_moves side (length (stamps events))) + cond (is_later_move side (length (stamps events))) 1 0 = ap (λ k. length (later_moves side k)) longer ∙ length-later_moves_more side (length (stamps events)) in
    let more : increment c b * length (later_moves side (length (stamps events))) ≤ increment c b * length (later_moves side (length (stamps (events ++ MovedAt t ∷ [])))) = mul-le-mul_left (increment c b) (at_least _ _ _ count) in
    subst (λ x. bank_before_moves c b + increment c b * length (later_moves side (length (stamps events))) ≤ bank_before_moves c x + increment c x * length (later_moves side (length (stamps (events ++ MovedAt t ∷ []))))) (sym (has_berserked-move events t side)) (omega arith)

bank_left : (c : Control) (start : ℕ) (events : List ClockEvent) (t : ℕ) (side : Colour) → is_due (clocks c start events) t ≡ false → is_later_move side (length (stamps events)) ≡ true
    → t - turn_start start (stamps events) < given c events side - spent events side
unfolding clocks bank
bank_left c start events t White h r = in_time (clocks c start events) t White h r
bank_left c start events t Black h r = in_time (clocks c start events) t Black h r

within : (r : Bool) (more had spent_before spent_after d : ℕ) → spent_before ≤ had → had ≤ more → spent_after ≡ spent_before + cond r d 0 → (r ≡ true → d < had - spent_before) → spent_after ≤ more
within true more had s s' d le up e h = let lt : d < had - s = h refl in omega arith
within false more had s s' d le up e h = omega arith

-- a move in time does not spend more than what was given
pub within_after_move : (c : Control) (start : ℕ) (events : List ClockEvent) (t : ℕ) (side : Colour) → is_due (clocks c start events) t ≡ false
    → spent events side ≤ given c events side → spent (events ++ MovedAt t ∷ []) side ≤ given c (events ++ MovedAt t ∷ []) side
within_after_move c start events t side h le =
    within (is_later_move side (length (stamps events))) (given c (events ++ MovedAt t ∷ []) side) (given c events side) (spent events side) (spent (events ++ MovedAt t ∷ []) side) (t - turn_start start (stamps events)) le (given-move c events t side) (spent-move start events t side) (λ r. bank_left c start events t side h r)

spent_none : (events : List ClockEvent) (by side : Colour) → has_moved side (length (stamps events)) ≡ false → spent (events ++ BerserkedBy by ∷ []) side ≡ 0
unfolding spent
spent_none events by side early =
    ap (λ ts. sum_by (thinking_time ts) (later_moves side (length ts))) (stamps-berserk events by)
    ∙ ap (sum_by (thinking_time (stamps events))) (later_moves_before side (length (stamps events)) early)

kept_within : (c : Control) (events : List ClockEvent) (by side : Colour) → has_berserked (events ++ BerserkedBy by ∷ []) side ≡ has_berserked events side
    → spent events side ≤ given c events side → spent (events ++ BerserkedBy by ∷ []) side ≤ given c (events ++ BerserkedBy by ∷ []) side
unfolding spent given
kept_within c events by side same le =
    let spent_same : spent (events ++ BerserkedBy by ∷ []) side ≡ spent events side = ap (λ ts. sum_by (thinking_time ts) (later_moves side (length ts))) (stamps-berserk events by) in
    let given_same : given c (events ++ BerserkedBy by ∷ []) side ≡ given c events side = λ i. bank_before_moves c (same i) + increment c (same i) * length (later_moves side (length (stamps-berserk events by i))) in
    subst (λ n. n ≤ given c (events ++ BerserkedBy by ∷ []) side) (sym spent_same) (subst (λ n. spent events side ≤ n) (sym given_same) le)

-- nor does a berserk of a side that has made no move
pub within_after_berserk : (c : Control) (events : List ClockEvent) (by side : Colour) → has_moved by (length (stamps events)) ≡ false
    → spent events side ≤ given c events side → spent (events ++ BerserkedBy by ∷ []) side ≤ given c (events ++ BerserkedBy by ∷ []) side
within_after_berserk c events White White early le = let none = spent_none events White White early in omega arith
within_after_berserk c events Black Black early le = let none = spent_none events Black Black early in omega arith
within_after_berserk c events White Black early le = kept_within c events White Black (has_berserked-push events (BerserkedBy White) Black ∙ or_false (has_berserked events Black)) le
within_after_berserk c events Black White early le = kept_within c events Black White (has_berserked-push events (BerserkedBy Black) White ∙ or_false (has_berserked events White)) le
