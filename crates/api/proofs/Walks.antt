-- What a router's walk answers at the levels of the route table: the number of the first pattern that fits.
use Rattle.std.proofs.Common.{◌≡◌, ◌≢◌, ℕ, zero, suc, ◌+◌, ◌-◌, ◌<◌, ◌≤◌, List, [], ◌∷◌, ◌++◌, length, drop, take, Option, Some, None, Bool, true, false, cond, refl, sym, ap, ◌∙◌, arith, nat_eq, ◌==◌, append-nil, true≢false, length-append, nat_lt, ◌&&◌, if◌then◌else◌}
use Rattle.std.proofs.lemmas.Bool.Decides.{nat_tests}
use Rattle.std.specs.List.{starts_with, before_first}
use Rattle.matchit.specs.Rows.{Rows, Seen, ends, level, rows, rows_of}
use Rattle.matchit.specs.Seek.{own, step, or_else, seek, first, param_step, has_slash, segment, after_param, longest_suffix, cuts, better}
use Rattle.matchit.specs.Level.{IsText, HeadIs, AllAbove, IsIndexed, IsSuffix, AreSuffixes, AllSegment}
use Rattle.matchit.proofs.SeekLemmas.{first-prefix, step-append, step-ends, seek-empty, or_else-none}
use Rattle.matchit.proofs.LevelLemmas.{level-nil, level-cons, step-above, step-head-miss, first-head}
use Rattle.matchit.proofs.LongestLemmas.{longest-kid, better-yes, better-no}
use Rattle.matchit.proofs.ParamLemmas.{after_param-kid, after_param-end, after_param-stop}
use Rattle.api.specs.Paths.{Piece, text, parameter, part, fits}
use Rattle.api.proofs.Fitting.{Numbered, fitting, below, behind, fitting-below, fitting-behind, fitting-append}

-- a path of bytes
abbrev pub IsPath : List ℕ → Type 0
IsPath path = IsText path

-- the walk over these rows finds the first pattern that fits
abbrev pub Agrees : Rows → Numbered → Type 0
Agrees t rs = (path : List ℕ) → IsPath path → first t path ≡ fitting rs path

pub bytes-behind : (n : ℕ) (path : List ℕ) → IsPath path → IsPath (drop n path)
bytes-behind zero path h = h
bytes-behind (suc n) [] h = tt
bytes-behind (suc n) (b ∷ path) h = bytes-behind n path h.1

-- nodes, each with the patterns behind its text
abbrev pub Nodes : Type 0
Nodes = List (Seen × Numbered)

abbrev pub seen_of : Nodes → List Seen
seen_of [] = []
seen_of ((k, rs) ∷ nodes) = k ∷ seen_of nodes

abbrev pub patterns_of : Nodes → Numbered
patterns_of [] = []
patterns_of ((k, rs) ∷ nodes) = below k.prefix rs ++ patterns_of nodes

abbrev pub AllAgree : Nodes → Type 0
AllAgree [] = Unit {0}
AllAgree ((k, rs) ∷ nodes) = IsText k.prefix × Agrees k.tails rs × AllAgree nodes

misses : (b : ℕ) (p : List ℕ) (x : ℕ) (w : List ℕ) → HeadIs x w → x ≢ b → starts_with nat_eq (b ∷ p) w ≡ false
misses b p x [] h n = elim h [ ]
misses b p x (y ∷ w) h n =
    let e : (y == b) ≡ false = grind (arith, nat_tests) in
    rw e refl

-- no node begins with the byte
none-begin : (bs : List ℕ) (nodes : Nodes) (b : ℕ) (p : List ℕ) → AllAbove b bs → IsIndexed bs (seen_of nodes) → fitting (patterns_of nodes) (b ∷ p) ≡ None
none-begin [] [] b p a h = refl
none-begin [] ((k, rs) ∷ nodes) b p a h = elim h [ ]
none-begin (x ∷ bs) [] b p a h = elim h [ ]
none-begin (x ∷ bs) ((k, rs) ∷ nodes) b p a h =
    let n : x ≢ b = λ q. omega arith in
    rw (fitting-append (below k.prefix rs) (patterns_of nodes) (b ∷ p), fitting-below k.prefix rs (b ∷ p), misses b p x k.prefix h.1 n) (none-begin bs nodes b p a.1 h.3)

-- the walk over nodes that begin with different bytes
pub nodes-walk : (bs : List ℕ) (nodes : Nodes) (b : ℕ) (p : List ℕ) → IsPath (b ∷ p) → IsIndexed bs (seen_of nodes) → AllAgree nodes
    → seek 0 (step b (rows_of (seen_of nodes))) p ≡ fitting (patterns_of nodes) (b ∷ p)
nodes-walk [] [] b p l h t = seek-empty 0 p
nodes-walk [] ((k, rs) ∷ nodes) b p l h t = elim h [ ]
nodes-walk (x ∷ bs) [] b p l h t = elim h [ ]
nodes-walk (x ∷ bs) ((k, rs) ∷ nodes) b p l h t = by (x == b) refl (nodes-walk bs nodes b p l h.3 t.2)
  where
    split : fitting (patterns_of ((k, rs) ∷ nodes)) (b ∷ p)
        ≡ or_else (if starts_with nat_eq (b ∷ p) k.prefix then fitting rs (drop (length k.prefix) (b ∷ p)) else None) (fitting (patterns_of nodes) (b ∷ p))
    split = fitting-append (below k.prefix rs) (patterns_of nodes) (b ∷ p) ∙ rw (fitting-below k.prefix rs (b ∷ p)) refl

    by : (v : Bool) → (x == b) ≡ v → seek 0 (step b (rows_of (seen_of nodes))) p ≡ fitting (patterns_of nodes) (b ∷ p)
        → seek 0 (step b (rows k ++ rows_of (seen_of nodes))) p ≡ fitting (patterns_of ((k, rs) ∷ nodes)) (b ∷ p)
    by true e ih =
        let xb : x ≡ b = grind (arith, nat_tests) in
        let above : AllAbove b bs = rw xb at h.2 in
        let head : HeadIs b k.prefix = rw xb at h.1 in
        let none : step b (rows_of (seen_of nodes)) ≡ [] = step-above b bs (seen_of nodes) above h.3 in
        let other : fitting (patterns_of nodes) (b ∷ p) ≡ None = none-begin bs nodes b p above h.3 in
        let inner : first k.tails (drop (length k.prefix) (b ∷ p)) ≡ fitting rs (drop (length k.prefix) (b ∷ p)) = t.1 (drop (length k.prefix) (b ∷ p)) (bytes-behind (length k.prefix) (b ∷ p) l) in
        rw (step-append b (rows k) (rows_of (seen_of nodes)), none, append-nil (step b (rows k)), split, other)
        (sym (first-head b k.prefix k.tails p head l.0) ∙ first-prefix k.prefix k.tails (b ∷ p) t.0 ∙ rw inner (sym (or_else-none _)))
    by false e ih =
        let n : x ≢ b = λ q. grind (arith, nat_tests) in
        rw (step-append b (rows k) (rows_of (seen_of nodes)), step-head-miss b x k.prefix k.tails h.1 n, split, misses b p x k.prefix h.1 n) ih
