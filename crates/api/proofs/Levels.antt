-- What a router's walk answers at the end of a row, behind a parameter at its end, and behind one that goes on.
use Rattle.std.proofs.Common.{◌≡◌, ◌≢◌, ℕ, zero, suc, ◌+◌, ◌-◌, ◌<◌, ◌≤◌, List, [], ◌∷◌, ◌++◌, length, drop, take, Option, Some, None, Bool, true, false, cond, refl, sym, ap, ◌∙◌, arith, nat_eq, ◌==◌, append-nil, true≢false, length-append, nat_lt, ltb, ◌&&◌, if◌then◌else◌}
use Rattle.std.proofs.lemmas.Bool.Decides.{nat_tests}
use Rattle.std.proofs.lemmas.Bool.{lt-ltb}
use Rattle.std.specs.List.{starts_with}
use Rattle.std.specs.Cmp.Lexicographic.{pointwise}
use Rattle.matchit.specs.Rows.{Rows, Seen, ends, level, rows, rows_of}
use Rattle.matchit.specs.Seek.{own, step, or_else, seek, first, param_step, has_slash, segment, after_param, longest_suffix, cuts, better}
use Rattle.matchit.specs.Level.{IsText, HeadIs, AllAbove, IsIndexed, IsSuffix, AreSuffixes, AllSegment}
use Rattle.matchit.proofs.SeekLemmas.{first-prefix, param_step-empty, seek-empty, or_else-none}
use Rattle.matchit.proofs.LevelLemmas.{level-nil, level-cons}
use Rattle.matchit.proofs.LongestLemmas.{longest-kid, better-yes, better-no}
use Rattle.matchit.proofs.ParamLemmas.{after_param-kid, after_param-end, after_param-stop}
use Rattle.api.specs.Paths.{Piece, text, parameter, part, fits}
use Rattle.api.proofs.Fitting.{Numbered, fitting, below, behind, fitting-below, fitting-behind}
use Rattle.api.proofs.Parts.{part-slash, part-next, part-whole, Cut, cut, drop-part, segment-cut, segment-whole}
use Rattle.api.proofs.Walks.{IsPath, Agrees, bytes-behind}

-- the end of a row
abbrev pub leaf : ℕ → Rows
leaf k = level [] [] None None (Some k)

-- no row goes on
leaf-end : (p : List ℕ) (n : ℕ) → or_else {K = ℕ} (seek 0 [] p) (or_else (seek n [] p) None) ≡ None
leaf-end p n = rw (seek-empty 0 p, seek-empty n p) refl

pub leaf-agrees : (k : ℕ) → Agrees (leaf k) (([], k) ∷ [])
leaf-agrees k [] h = level-nil [] [] [] None None (Some k) tt
leaf-agrees k (b ∷ p) h = level-cons [] [] [] None None (Some k) b p tt h.0 ∙ rw (param_step-empty (b ∷ p)) (leaf-end p _)

-- the end of a row that ends with a parameter
abbrev pub last_parameter : ℕ → Rows
last_parameter k = level [] [] (Some k) None None

some-part : (b : ℕ) (p : List ℕ) → (b == 47) ≡ false → nat_lt 0 (length (part (b ∷ p))) ≡ true
some-part b p e = rw (part-next b p e) (let l : 0 < length (b ∷ part p) = omega arith in lt-ltb 0 (length (b ∷ part p)) l)

behind-whole : (b : ℕ) (p : List ℕ) → has_slash (b ∷ p) ≡ false → drop (length (part (b ∷ p))) (b ∷ p) ≡ []
behind-whole b p s = rw (part-whole (b ∷ p) s) (gone (b ∷ p))
  where
    gone : (q : List ℕ) → drop (length q) q ≡ []
    gone [] = refl
    gone (x ∷ q) = gone q

behind-cut : (q : List ℕ) (c : Cut q) → drop (length (part q)) q ≡ 47 ∷ c.rest
behind-cut q c = ap (λ r. drop (length (part q)) r) c.whole ∙ drop-part (part q) (47 ∷ c.rest)

pub last_parameter-agrees : (k : ℕ) → Agrees (last_parameter k) ((parameter ∷ [], k) ∷ [])
last_parameter-agrees k [] h = level-nil [] [] [] (Some k) None None tt
last_parameter-agrees k (b ∷ p) h = walk ∙ by (has_slash (b ∷ p)) refl
  where
    walk : first (last_parameter k) (b ∷ p) ≡ after_param (rows_of [] ++ ends (Some k)) (b ∷ p)
    walk = level-cons [] [] [] (Some k) None None b p tt h.0 ∙ rw (seek-empty 0 p) (or_else-none _)

    by : (v : Bool) → has_slash (b ∷ p) ≡ v → after_param (rows_of [] ++ ends (Some k)) (b ∷ p) ≡ fitting ((parameter ∷ [], k) ∷ []) (b ∷ p)
    by true s =
        let c = cut (b ∷ p) s in
        let stop : after_param (rows_of [] ++ ends (Some k)) (b ∷ p) ≡ None = after_param-stop [] (Some k) b p refl s in
        stop ∙ rw (behind-cut (b ∷ p) c) (either (nat_lt 0 (length (part (b ∷ p)))))
      where
        either : (t : Bool) → None ≡ (if t && false then Some k else None)
        either true = refl
        either false = refl
    by false s =
        let plain : (b == 47) ≡ false = head-plain (b == 47) refl s in
        let end : after_param (rows_of [] ++ ends (Some k)) (b ∷ p) ≡ Some k = after_param-end [] (Some k) b p tt refl s in
        end ∙ rw (behind-whole b p s, some-part b p plain) refl
      where
        head-plain : (v : Bool) → (b == 47) ≡ v → cond v true (has_slash p) ≡ false → (b == 47) ≡ false
        head-plain true e g = absurd (true≢false g)
        head-plain false e g = e

-- a path without a slash does not end in one
plain-behind : (n : ℕ) (q : List ℕ) → has_slash q ≡ false → has_slash (drop n q) ≡ false
plain-behind zero q h = h
plain-behind (suc n) [] h = refl
plain-behind (suc n) (x ∷ q) h = by (x == 47) refl h (plain-behind n q)
  where
    by : (v : Bool) → (x == 47) ≡ v → cond v true (has_slash q) ≡ false → (has_slash q ≡ false → has_slash (drop n q) ≡ false) → has_slash (drop n q) ≡ false
    by true e g ih = absurd (true≢false g)
    by false e g ih = ih g

ends-plain : (r : List ℕ) → has_slash r ≡ false → pointwise nat_eq (47 ∷ []) r ≡ false
ends-plain [] h = refl
ends-plain (x ∷ r) h = by (x == 47) refl h
  where
    by : (v : Bool) → (x == 47) ≡ v → cond v true (has_slash r) ≡ false → pointwise nat_eq (47 ∷ []) (x ∷ r) ≡ false
    by true e g = absurd (true≢false g)
    by false e g =
        let n : nat_eq 47 x ≡ false = grind (arith, nat_tests) in
        rw n refl

no-end : (q : List ℕ) → has_slash q ≡ false → (ltb 0 1 && cuts q (47 ∷ [])) ≡ false
no-end q h = rw (ends-plain (drop (length q - 1) q) (plain-behind (length q - 1) q h)) (never (ltb 1 (length q)))
  where
    never : (v : Bool) → (v && false) ≡ false
    never true = refl
    never false = refl

-- the node after a parameter that a slash follows
abbrev pub slash_node : Rows → Seen
slash_node t = record { prefix = 47 ∷ []; tails = t; height = 0 }

all-slash : (t : Rows) → AllSegment (47 ∷ []) (rows (slash_node t))
all-slash [] = tt
all-slash ((w, k) ∷ t) = (refl, all-slash t)

some-slash : (t : Rows) → 0 < length t → 0 < length (rows (slash_node t))
some-slash [] l = l
some-slash (x ∷ t) l = omega arith

are-suffixes : (t : Rows) → 0 < length t → AreSuffixes (slash_node t ∷ [])
are-suffixes t some = (record { some_prefix = omega arith; some_rows = some-slash t some; all_segment = all-slash t }, tt, tt)

-- rows behind a parameter, where some go on behind a slash and one ends
abbrev pub going_on : Rows → ℕ → Rows
going_on t k = level [] (slash_node t ∷ []) (Some k) None None

module _ (t : Rows) (k : ℕ) (rs : Numbered) (some : 0 < length t) (agree : Agrees t rs) where
  abbrev ss : List Seen
  ss = slash_node t ∷ []

  longest : (seg : List ℕ) → longest_suffix seg (rows_of ss) ≡ better seg [] (47 ∷ [])
  longest seg = rw (append-nil (rows (slash_node t))) (longest-kid seg [] (47 ∷ []) (rows (slash_node t)) (all-slash t) (some-slash t some))

  walked : (b : ℕ) (p : List ℕ) → b < 256 → first (going_on t k) (b ∷ p) ≡ after_param (rows_of ss ++ ends (Some k)) (b ∷ p)
  walked b p l = level-cons [] [] ss (Some k) None None b p tt l ∙ rw (seek-empty 0 p) (or_else-none _)

  -- the patterns behind the parameter
  abbrev pub patterns : Numbered
  patterns = (([], k) ∷ below (47 ∷ []) rs)

  fitted : (b : ℕ) (p q : List ℕ) → nat_lt 0 (length (part (b ∷ p))) ≡ true → drop (length (part (b ∷ p))) (b ∷ p) ≡ q
      → fitting (behind patterns) (b ∷ p) ≡ fitting patterns q
  fitted b p q s e = fitting-behind patterns (b ∷ p) ∙ rw (s, e) refl

  at-slash : (p : List ℕ) → after_param (rows_of ss ++ ends (Some k)) (47 ∷ p) ≡ fitting (behind patterns) (47 ∷ p)
  at-slash p = after_param-stop ss (Some k) 47 p (longest (47 ∷ [])) refl ∙ sym (fitting-behind patterns (47 ∷ p))

  at-end : (b : ℕ) (p : List ℕ) → (b == 47) ≡ false → has_slash (b ∷ p) ≡ false → after_param (rows_of ss ++ ends (Some k)) (b ∷ p) ≡ fitting (behind patterns) (b ∷ p)
  at-end b p e s = after_param-end ss (Some k) b p (are-suffixes t some) (longest (segment (b ∷ p)) ∙ none) s ∙ sym (fitted b p [] (some-part b p e) (behind-whole b p s))
    where
      none : better (segment (b ∷ p)) [] (47 ∷ []) ≡ []
      none = rw (segment-whole (b ∷ p) s) (better-no (b ∷ p) [] (47 ∷ []) (no-end (b ∷ p) s))

  at-cut : (b : ℕ) (p : List ℕ) → IsPath (b ∷ p) → (b == 47) ≡ false → has_slash (b ∷ p) ≡ true → after_param (rows_of ss ++ ends (Some k)) (b ∷ p) ≡ fitting (behind patterns) (b ∷ p)
  at-cut b p h e s = walk ∙ sym (fitted b p (47 ∷ c.rest) (some-part b p e) (behind-cut (b ∷ p) c) ∙ fitting-below (47 ∷ []) rs (47 ∷ c.rest))
    where
      c : Cut (b ∷ p)
      c = cut (b ∷ p) s

      id : List ℕ
      id = part (b ∷ p)

      seg : segment (b ∷ p) ≡ id ++ 47 ∷ []
      seg = ap segment c.whole ∙ segment-cut id c.rest c.part_plain

      len : length (id ++ 47 ∷ []) ≡ length id + 1
      len = length-append id (47 ∷ [])

      back : length (id ++ 47 ∷ []) - 1 ≡ length id
      back = omega (arith, len)

      some_first : 0 < length id
      some_first = rw (part-next b p e) (omega arith)

      longer : 1 < length (id ++ 47 ∷ [])
      longer = omega (arith, len, some_first)

      ends_so : (ltb 0 1 && cuts (id ++ 47 ∷ []) (47 ∷ [])) ≡ true
      ends_so = rw (back, drop-part id (47 ∷ []), lt-ltb 1 (length (id ++ 47 ∷ [])) longer) refl

      best : longest_suffix (segment (b ∷ p)) (rows_of ss) ≡ 47 ∷ []
      best = longest (segment (b ∷ p)) ∙ rw seg (better-yes (id ++ 47 ∷ []) [] (47 ∷ []) ends_so)

      rest_path : IsPath c.rest
      rest_path = (rw (behind-cut (b ∷ p) c) at (bytes-behind (length id) (b ∷ p) h)).1

      walk : after_param (rows_of ss ++ ends (Some k)) (b ∷ p) ≡ fitting rs c.rest
      walk =
          after_param-kid ss 0 (slash_node t) (Some k) b p (are-suffixes t some) (omega arith) (sym best)
          ∙ rw (seg, back, behind-cut (b ∷ p) c) (first-prefix (47 ∷ []) t (47 ∷ c.rest) (omega arith, tt) ∙ agree c.rest rest_path)

  pub going_on-agrees : Agrees (going_on t k) (behind patterns)
  going_on-agrees [] h = level-nil [] [] ss (Some k) None None tt ∙ sym (fitting-behind patterns [])
  going_on-agrees (b ∷ p) h = walked b p h.0 ∙ by (b == 47) refl (has_slash (b ∷ p)) refl
    where
      by : (v : Bool) → (b == 47) ≡ v → (u : Bool) → has_slash (b ∷ p) ≡ u → after_param (rows_of ss ++ ends (Some k)) (b ∷ p) ≡ fitting (behind patterns) (b ∷ p)
      by true e u s =
          let b47 : b ≡ 47 = grind (arith, nat_tests) in
          rw b47 (at-slash p)
      by false e true s = at-cut b p h e s
      by false e false s = at-end b p e s
