-- The pairs that a wave lists: what is read of a pair was written so, and what was written is read again.
use Rattle.std.proofs.Common.{◌≡◌, ℕ, ◌^◌, ◌<◌, ◌≤◌, true, false, cond, eqb, ltb, ◌&&◌, List, [], ◌∷◌, ◌++◌, length, map, Option, Some, None, is_some, option_map, refl, sym, ap, subst, ◌∙◌, arith}
use Rattle.std.specs.Fmt.{decimal}
use Rattle.std.specs.List.{AllByRecursion, cons_option, filter_map, join_with_byte, list_all}
use Rattle.std.proofs.lemmas.Bool.{and_parts, and_from, ltb-true, lt-ltb}
use Rattle.std.proofs.lemmas.List.Splits.{join_with_byte-slice_split, slice_split_none, slice_split_at}
use Rattle.decimals.specs.Decimals.{number_of}
use Rattle.decimals.proofs.DecimalLemmas.{number_of-decimal}
use Rattle.entries.specs.declared.journal.Start.{Start}
use Rattle.journal_text.specs.Lines.{parts_of, two}
use Rattle.journal_text.specs.Text.{pair_word}
use Rattle.journal_text.specs.EntryForms.{pair_form, pair_in, are_pairs, start_in, starts_in}
use Rattle.journal_text.proofs.Fails.{bind_some, guard_some, some, some_is}
use Rattle.journal_text.proofs.FormLemmas.{two_is, two_numbers, decimal_is}
use Rattle.journal_text.proofs.WordLemmas.{lacks, decimal_above}

-- two numbers with a dash between them
abbrev dashed : ℕ × ℕ → List ℕ
dashed p = decimal p.0 ++ 45 ∷ decimal p.1

-- what is read of a pair was written so
pair_form_is : (word : List ℕ) (p : ℕ × ℕ) → pair_form word ≡ Some p → word ≡ dashed p
unfolding pair_form
pair_form_is word p e =
    let w = bind_some (two (parts_of 45 word)) _ p e in
    let n = two_numbers (number_of w.0.0) (number_of w.0.1) p w.2 in
    let joined : word ≡ w.0.0 ++ 45 ∷ w.0.1 = sym (join_with_byte-slice_split 45 word) ∙ ap (λ (parts : List (List ℕ)). join_with_byte 45 parts) (two_is (parts_of 45 word) w.0 w.1) in
    joined ∙ ap (λ (a : List ℕ). a ++ 45 ∷ w.0.1) (decimal_is w.0.0 p.0 n.0) ∙ ap (λ (b : List ℕ). decimal p.0 ++ 45 ∷ b) (decimal_is w.0.1 p.1 n.1)

-- a pair that was written is read again
pub pair_again : (g : Start) → g.white < 10 ^ 10 → g.black < 10 ^ 10 → pair_form (pair_word g) ≡ Some (g.white, g.black)
unfolding pair_form
pair_again g white black =
    let parts : parts_of 45 (pair_word g) ≡ decimal g.white ∷ decimal g.black ∷ [] =
    slice_split_at (λ b. eqb b 45) (decimal g.white) 45 (decimal g.black) (lacks 45 47 (decimal g.white) (omega arith) (decimal_above g.white white)) refl
    ∙ ap (λ (more : List (List ℕ)). decimal g.white ∷ more) (slice_split_none (λ b. eqb b 45) (decimal g.black) (lacks 45 47 (decimal g.black) (omega arith) (decimal_above g.black black))) in
    rw (parts, number_of-decimal g.white white, number_of-decimal g.black black) refl

-- games of the entry with this number, between two of so many players
abbrev pub AreGames : ℕ → ℕ → List Start → Type 0
AreGames players entry games = AllByRecursion (λ (g : Start). (g.entry ≡ entry) × (g.white < players) × (g.black < players)) games

-- pairs, and the games that they say
pub record ArePairs (players entry : ℕ) (words : List (List ℕ)) (games : List Start) : Type 0 where
  pub words_are : words ≡ map pair_word games
  pub good : AreGames players entry games

-- a word more, and its game
one_pair : (players entry : ℕ) (word : List ℕ) (words : List (List ℕ)) (games : List Start) (o : Option (ℕ × ℕ)) → pair_in players word ≡ o → is_some o ≡ true → ArePairs players entry words games → ArePairs players entry (word ∷ words) (cons_option (option_map (λ (p : ℕ × ℕ). record { entry = entry; white = p.0; black = p.1 }) o) games)
one_pair players entry word words games None e some h = absurd cc
one_pair players entry word words games (Some p) e some h =
    let b = bind_some (pair_form word) (λ (q : ℕ × ℕ). cond (ltb q.0 players && ltb q.1 players) (Some q) None) p e in
    let g = guard_some (ltb b.0.0 players && ltb b.0.1 players) (Some b.0) p b.2 in
    let fit = and_parts (ltb b.0.0 players) (ltb b.0.1 players) g.0 in
    let game : Start = record { entry = entry; white = b.0.0; black = b.0.1 } in
    let made : ArePairs players entry (word ∷ words) (game ∷ games) = record {
      words_are = ap (λ (w : List ℕ). w ∷ words) (pair_form_is word b.0 b.1) ∙ ap (λ (ws : List (List ℕ)). pair_word game ∷ ws) h.words_are;
      good = ((refl, ltb-true b.0.0 players fit.0, ltb-true b.0.1 players fit.1), h.good);
    } in
    subst (λ (q : ℕ × ℕ). ArePairs players entry (word ∷ words) (record { entry = entry; white = q.0; black = q.1 } ∷ games)) (some_is b.0 p g.1) made

-- pairs that were read were written so
pub pairs_take : (players entry : ℕ) (words : List (List ℕ)) → list_all (λ w. is_some (pair_in players w)) words ≡ true → ArePairs players entry words (starts_in players entry words)
unfolding starts_in
pairs_take players entry [] all = record { words_are = refl; good = tt }
pairs_take players entry (word ∷ words) all =
    let parts = and_parts (is_some (pair_in players word)) (list_all (λ w. is_some (pair_in players w)) words) all in
    one_pair players entry word words (starts_in players entry words) (pair_in players word) refl parts.0 (pairs_take players entry words parts.1)

-- a game in range is read of its pair
pair_in_again : (players entry : ℕ) (g : Start) → players ≤ 1000 → (g.entry ≡ entry) × (g.white < players) × (g.black < players) → pair_in players (pair_word g) ≡ Some (g.white, g.black)
pair_in_again players entry g most h = rw (pair_again g (omega (arith, h.1)) (omega (arith, h.2)), lt-ltb g.white players h.1, lt-ltb g.black players h.2) refl

-- pairs that were written are pairs of the players
pub pairs_fit_again : (players entry : ℕ) (games : List Start) → players ≤ 1000 → AreGames players entry games → list_all (λ w. is_some (pair_in players w)) (map pair_word games) ≡ true
pairs_fit_again players entry [] most h = refl
pairs_fit_again players entry (g ∷ games) most h = and_from _ _ (ap is_some (pair_in_again players entry g most h.0)) (pairs_fit_again players entry games most h.1)

-- and have the form of pairs
pub pairs_form_again : (players entry : ℕ) (games : List Start) → players ≤ 1000 → AreGames players entry games → are_pairs (map pair_word games) ≡ true
pairs_form_again players entry [] most h = refl
pairs_form_again players entry (g ∷ games) most h = and_from _ _ (ap is_some (pair_again g (omega (arith, h.0.1)) (omega (arith, h.0.2)))) (pairs_form_again players entry games most h.1)

-- games that were written are read again
pub starts_again : (players entry : ℕ) (games : List Start) → players ≤ 1000 → AreGames players entry games → starts_in players entry (map pair_word games) ≡ games
unfolding starts_in
starts_again players entry [] most h = refl
starts_again players entry (g ∷ games) most h =
    let game : record { entry = entry; white = g.white; black = g.black } ≡ g = ap (λ (n : ℕ). record { entry = n; white = g.white; black = g.black }) (sym h.0.0) in
    rw (pair_in_again players entry g most h.0) (ap (λ (x : Start). x ∷ starts_in players entry (map pair_word games)) game ∙ ap (λ (xs : List Start). g ∷ xs) (starts_again players entry games most h.1))
