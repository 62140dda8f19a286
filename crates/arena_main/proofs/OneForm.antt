-- Words have one form at most.
use Rattle.std.proofs.Common.{◌≡◌, ℕ, ◌<◌, ◌≤◌, List, [], ◌∷◌, codes, Option, Some, None, IsNone, IfSome, arith, refl, sym, ◌∙◌, subst}
use Rattle.arena_main.specs.declared.forms.Form.{Form}
use Rattle.arena_main.specs.declared.forms.Form.TheVariants.{Replay, Upgrade, Pgn, Gen, Serve}
use Rattle.replay.specs.declared.replaying.Wanted.{Wanted}
use Rattle.replay.specs.declared.replaying.Wanted.TheVariants.{Table, Upgraded, Games}
use Rattle.arena_main.specs.Evenings.{AskForEvening}
use Rattle.arena_main.specs.Forms.{HasForm, IsWithin}
use Rattle.arena_main.specs.Runs.{AsksNothing, IsOther, form_of}
use Rattle.arena_main.proofs.Numbers.{says_one}

-- two lists of words that are the same have the same words
firsts : {a b : List ℕ} {xs ys : List (List ℕ)} → a ∷ xs ≡ b ∷ ys → a ≡ b
firsts e = cc

rests : {a b : List ℕ} {xs ys : List (List ℕ)} → a ∷ xs ≡ b ∷ ys → xs ≡ ys
rests e = cc

one_number : (low high : ℕ) (a b : List ℕ) (m n : ℕ) → a ≡ b → IsWithin low high a m → IsWithin low high b n → m ≡ n
one_number low high a b m n same x y = says_one b m n (subst (λ w. IsWithin low high w m) same x).said y.said

pub one_form : (words : List (List ℕ)) (f g : Form) → HasForm words f → HasForm words g → f ≡ g
one_form words Replay Replay x y = refl
one_form words Replay Upgrade x y = absurd (cc (sym x ∙ y))
one_form words Replay Pgn x y = absurd (cc (sym x ∙ y))
one_form words Replay (Gen s p) x (a, b, y, seed, players) = absurd (cc (sym x ∙ y))
one_form words Replay (Serve p w) x (s, a, b, j, y, port, workers) = absurd (cc (sym x ∙ y))
one_form words Upgrade Replay x y = absurd (cc (sym x ∙ y))
one_form words Upgrade Upgrade x y = refl
one_form words Upgrade Pgn x y = absurd (cc (sym x ∙ y))
one_form words Upgrade (Gen s p) x (a, b, y, seed, players) = absurd (cc (sym x ∙ y))
one_form words Upgrade (Serve p w) x (s, a, b, j, y, port, workers) = absurd (cc (sym x ∙ y))
one_form words Pgn Replay x y = absurd (cc (sym x ∙ y))
one_form words Pgn Upgrade x y = absurd (cc (sym x ∙ y))
one_form words Pgn Pgn x y = refl
one_form words Pgn (Gen s p) x (a, b, y, seed, players) = absurd (cc (sym x ∙ y))
one_form words Pgn (Serve p w) x (s, a, b, j, y, port, workers) = absurd (cc (sym x ∙ y))
one_form words (Gen s p) Replay (a, b, x, seed, players) y = absurd (cc (sym x ∙ y))
one_form words (Gen s p) Upgrade (a, b, x, seed, players) y = absurd (cc (sym x ∙ y))
one_form words (Gen s p) Pgn (a, b, x, seed, players) y = absurd (cc (sym x ∙ y))
one_form words (Gen s p) (Gen t q) (a, b, x, seed, players) (c, d, y, seeds, playerss) =
    let same = rests (sym x ∙ y) in
    let one : s ≡ t = one_number 0 2147483647 a c s t (firsts same) seed seeds in
    let two : p ≡ q = one_number 2 1000 b d p q (firsts (rests same)) players playerss in
    λ i. Gen (one i) (two i)
one_form words (Gen s p) (Serve q w) (a, b, x, seed, players) (t, c, d, j, y, port, workers) = absurd (cc (sym x ∙ y))
one_form words (Serve p w) Replay (s, a, b, j, x, port, workers) y = absurd (cc (sym x ∙ y))
one_form words (Serve p w) Upgrade (s, a, b, j, x, port, workers) y = absurd (cc (sym x ∙ y))
one_form words (Serve p w) Pgn (s, a, b, j, x, port, workers) y = absurd (cc (sym x ∙ y))
one_form words (Serve p w) (Gen q t) (s, a, b, j, x, port, workers) (c, d, y, seeds, playerss) = absurd (cc (sym x ∙ y))
one_form words (Serve p w) (Serve q v) (s, a, b, j, x, port, workers) (t, c, d, k, y, ports, workerss) =
    let same = rests (rests (sym x ∙ y)) in
    let one : p ≡ q = one_number 1 65535 a c p q (firsts same) port ports in
    let two : w ≡ v = one_number 1 256 b d w v (firsts (rests same)) workers workerss in
    λ i. Serve (one i) (two i)

-- the form that was found is the one that the words have
pub form_is : (words : List (List ℕ)) (o : Option Form) → IfSome o (HasForm words) → (IsNone o → (f : Form) → ¬ HasForm words f)
    → (f : Form) → HasForm words f → o ≡ Some f
form_is words None has none f h = absurd (none refl f h)
form_is words (Some g) has none f h = λ i. Some (one_form words g f has h i)

-- the words ask for nothing exactly where the form is another one
pub other_form : (words : List (List ℕ)) (o : Option Form) → IfSome o (HasForm words) → AsksNothing words → IsOther o
other_form words None has nothing = tt
other_form words (Some Replay) has nothing = nothing.0 Table has
other_form words (Some Upgrade) has nothing = nothing.0 Upgraded has
other_form words (Some Pgn) has nothing = nothing.0 Games has
other_form words (Some (Gen s p)) has nothing = nothing.1 s p has
other_form words (Some (Serve p w)) has nothing = tt

no_journal : (wanted : Wanted) → IsOther (Some (form_of wanted)) → ⊥
no_journal Table other = other
no_journal Upgraded other = other
no_journal Games other = other

pub asks_nothing : (words : List (List ℕ)) (o : Option Form) → IfSome o (HasForm words) → (IsNone o → (f : Form) → ¬ HasForm words f) → IsOther o → AsksNothing words
asks_nothing words o has none other = (
  λ wanted h. no_journal wanted (subst IsOther (form_is words o has none (form_of wanted) h) other),
  λ s p h. subst IsOther (form_is words o has none (Gen s p) h) other,
)

-- what a large journal is asked for is in its ranges
pub gen_in_range : (words : List (List ℕ)) (o : Option Form) → IfSome o (HasForm words) → (s p : ℕ) → o ≡ Some (Gen s p) → (s < 2147483648) × (2 ≤ p) × (p ≤ 1000)
gen_in_range words o has s p same =
    let (a, b, is, seed, players) = subst (λ x. IfSome x (HasForm words)) same has in
    let high = seed.high in
    (omega arith, players.low, players.high)

-- words that ask for an evening have its form
pub form_of_evening : (words : List (List ℕ)) (o : Option Form) → IfSome o (HasForm words) → (IsNone o → (f : Form) → ¬ HasForm words f)
    → (setup : List ℕ) (port workers : ℕ) (journal : List ℕ) → AskForEvening words setup port workers journal → o ≡ Some (Serve port workers)
form_of_evening words o has none setup port workers journal ask =
    form_is words o has none (Serve port workers) (setup, ask.port_word, ask.workers_word, journal, ask.words_are, ask.says_port, ask.says_workers)
