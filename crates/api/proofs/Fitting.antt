-- Which of some patterns a path fits, where they have a text or a parameter in front.
use Rattle.std.proofs.Common.{◌≡◌, ℕ, ◌+◌, ◌<◌, List, [], ◌∷◌, ◌++◌, length, drop, map, Option, Some, None, Bool, true, false, cond, refl, sym, ap, ◌∙◌, arith, nat_eq, nat_lt, ◌&&◌, if◌then◌else◌, take}
use Rattle.std.specs.List.{starts_with}
use Rattle.std.specs.Option.{option_map}
use Rattle.matchit.specs.Seek.{or_else}
use Rattle.api.specs.declared.resource.Resource.{Resource}
use Rattle.api.specs.Paths.{Piece, text, parameter, pattern, part, fits, first_that_fits}

-- patterns, each with a number
abbrev pub Numbered : Type 0
Numbered = List (List Piece × ℕ)

-- the number of the first pattern that the path fits
abbrev pub fitting : Numbered → List ℕ → Option ℕ
fitting [] path = None
fitting ((pieces, k) ∷ rest) path = if fits pieces path then Some k else fitting rest path

-- pieces behind a text
abbrev pub behind_text : List ℕ → List Piece → List Piece
behind_text w [] = text w ∷ []
behind_text w (text v ∷ pieces) = text (w ++ v) ∷ pieces
behind_text w (parameter ∷ pieces) = text w ∷ parameter ∷ pieces

-- all patterns behind a text
abbrev pub below : List ℕ → Numbered → Numbered
below w [] = []
below w ((pieces, k) ∷ rest) = (behind_text w pieces, k) ∷ below w rest

-- all patterns behind a parameter
abbrev pub behind : Numbered → Numbered
behind [] = []
behind ((pieces, k) ∷ rest) = (parameter ∷ pieces, k) ∷ behind rest

pub starts-append : (w v path : List ℕ) → starts_with nat_eq path (w ++ v) ≡ (starts_with nat_eq path w && starts_with nat_eq (drop (length w) path) v)
starts-append [] v path = refl
starts-append (x ∷ w) v [] = refl
starts-append (x ∷ w) v (b ∷ path) = by (nat_eq x b) (starts-append w v path)
  where
    by : (t : Bool) → starts_with nat_eq path (w ++ v) ≡ (starts_with nat_eq path w && starts_with nat_eq (drop (length w) path) v)
        → (t && starts_with nat_eq path (w ++ v)) ≡ ((t && starts_with nat_eq path w) && starts_with nat_eq (drop (length w) path) v)
    by true h = h
    by false h = refl

pub drop-both : (w v path : List ℕ) → drop (length (w ++ v)) path ≡ drop (length v) (drop (length w) path)
drop-both [] v path = refl
drop-both (x ∷ w) [] [] = refl
drop-both (x ∷ w) (y ∷ v) [] = refl
drop-both (x ∷ w) v (b ∷ path) = drop-both w v path

abbrev nothing : Option ℕ
nothing = None

-- a pattern behind a text is fitted by a path that begins with the text and goes on with the pattern
pub fits-behind_text : (w : List ℕ) (pieces : List Piece) (path : List ℕ) → fits (behind_text w pieces) path ≡ (starts_with nat_eq path w && fits pieces (drop (length w) path))
fits-behind_text w [] path = refl
fits-behind_text w (parameter ∷ pieces) path = refl
fits-behind_text w (text v ∷ pieces) path =
    rw (starts-append w v path, drop-both w v path) (assoc (starts_with nat_eq path w) (starts_with nat_eq (drop (length w) path) v) _)
  where
    assoc : (a b c : Bool) → ((a && b) && c) ≡ (a && (b && c))
    assoc true b c = refl
    assoc false b c = refl

pub fitting-below : (w : List ℕ) (rs : Numbered) (path : List ℕ) → fitting (below w rs) path ≡ (if starts_with nat_eq path w then fitting rs (drop (length w) path) else None)
fitting-below w [] path = none (starts_with nat_eq path w)
  where
    none : (t : Bool) → nothing ≡ (if t then nothing else None)
    none true = refl
    none false = refl
fitting-below w ((pieces, k) ∷ rs) path = rw (fits-behind_text w pieces path, fitting-below w rs path) (by (starts_with nat_eq path w))
  where
    rest : List ℕ
    rest = drop (length w) path

    by : (t : Bool) → (if t && fits pieces rest then Some k else (if t then fitting rs rest else None)) ≡ (if t then (if fits pieces rest then Some k else fitting rs rest) else None)
    by true = refl
    by false = refl

pub fitting-behind : (rs : Numbered) (path : List ℕ) → fitting (behind rs) path ≡ (if nat_lt 0 (length (part path)) then fitting rs (drop (length (part path)) path) else None)
fitting-behind [] path = none (nat_lt 0 (length (part path)))
  where
    none : (t : Bool) → nothing ≡ (if t then nothing else None)
    none true = refl
    none false = refl
fitting-behind ((pieces, k) ∷ rs) path = rw (fitting-behind rs path) (by (nat_lt 0 (length (part path))))
  where
    rest : List ℕ
    rest = drop (length (part path)) path

    by : (t : Bool) → (if t && fits pieces rest then Some k else (if t then fitting rs rest else None)) ≡ (if t then (if fits pieces rest then Some k else fitting rs rest) else None)
    by true = refl
    by false = refl

pub fitting-append : (xs ys : Numbered) (path : List ℕ) → fitting (xs ++ ys) path ≡ or_else (fitting xs path) (fitting ys path)
fitting-append [] ys path = refl
fitting-append ((pieces, k) ∷ xs) ys path = by (fits pieces path) (fitting-append xs ys path)
  where
    by : (t : Bool) → fitting (xs ++ ys) path ≡ or_else (fitting xs path) (fitting ys path)
        → (if t then Some k else fitting (xs ++ ys) path) ≡ or_else (if t then Some k else fitting xs path) (fitting ys path)
    by true h = refl
    by false h = h

-- rows with their numbers
abbrev pub numbered : (Resource → ℕ) → List Resource → Numbered
numbered number [] = []
numbered number (r ∷ rs) = (pattern r, number r) ∷ numbered number rs

pub fitting-first : (number : Resource → ℕ) (rs : List Resource) (path : List ℕ) → fitting (numbered number rs) path ≡ option_map number (first_that_fits rs path)
fitting-first number [] path = refl
fitting-first number (r ∷ rs) path = by (fits (pattern r) path) (fitting-first number rs path)
  where
    by : (t : Bool) → fitting (numbered number rs) path ≡ option_map number (first_that_fits rs path)
        → (if t then Some (number r) else fitting (numbered number rs) path) ≡ option_map number (if t then Some r else first_that_fits rs path)
    by true h = refl
    by false h = h
