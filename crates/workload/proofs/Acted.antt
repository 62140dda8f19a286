-- The entries of words in turn.
use Rattle.std.proofs.Common.{◌≡◌, ℕ, ◌<◌, ◌≤◌, ◌-◌, List, [], ◌∷◌, ◌++◌, length, take, drop, get_or, map, Option, Some, None, refl, sym, ap, ◌∙◌, arith, Bor}
use Rattle.std.specs.Option.{option_map, option_to_list}
use Rattle.std.proofs.lemmas.List.{take_all}
use Rattle.board.specs.Piece.{other}
use Rattle.board.specs.declared.piece.Colour.{Colour}
use Rattle.entries.specs.declared.action.Action.{Action}
use Rattle.entries.specs.declared.journal.Entry.{Entry}
use Rattle.entries.specs.declared.journal.Start.{Start}
use Rattle.entries.specs.declared.setup.Setup.{Setup}
use Rattle.arena_rules.specs.declared.command.Command.TheVariants.{Act}
use Rattle.arena_rules.specs.Commands.{entry_of}
use Rattle.workload.specs.Drafts.{behind, going, with_all}
use Rattle.workload.specs.Scripts.{act_of, action_of, acts_from, player_of}
use Rattle.workload.proofs.Drafted.{of_none, of_one}

module _ (t number : ℕ) (g : Start) (side : Colour) where
  module _ (s : Setup) (es : List Entry) (word : List ℕ) where
    abbrev after_act : Option Action → List Entry
    after_act o = option_to_list (option_map (λ a. entry_of t 0 (Act (player_of side g) number a)) o)

    -- a word that is an action's has its entry
    pub one_act : (a : Action) (p : ℕ) → action_of word ≡ Some a → p ≡ player_of side g → with_all s (going es) (act_of t number g side word) ≡ behind s es (entry_of t 0 (Act p number a))
    one_act a p is who = ap (λ o. with_all s (going es) (after_act o)) is ∙ (of_one s es (entry_of t 0 (Act (player_of side g) number a)) ∙ ap (λ q. behind s es (entry_of t 0 (Act q number a))) (sym who))

    -- and another has none
    pub no_act : action_of word ≡ None → with_all s (going es) (act_of t number g side word) ≡ going es
    no_act is = ap (λ o. with_all s (going es) (after_act o)) is ∙ of_none s (going es)

  -- no words have no entries
  pub no_words : (ws : List (Bor (List ℕ))) → length ws < 1 → acts_from t number g side (map (λ w. w.now) ws) ≡ []
  no_words [] none = refl
  no_words (w ∷ ws) none = absurd (omega arith)

  -- the first word's come first
  pub first_word : (ws : List (Bor (List ℕ))) (d : Bor (List ℕ)) (word : List ℕ) → 1 ≤ length ws → word ≡ (get_or ws 0 d).now → acts_from t number g side (map (λ w. w.now) ws) ≡ act_of t number g side word ++ acts_from t number g (other side) (map (λ w. w.now) (take (length ws - 1) (drop 1 ws)))
  first_word [] d word some is = absurd (omega arith)
  first_word (v ∷ vs) d word some is =
      let whole : vs ≡ take (length (v ∷ vs) - 1) vs = sym (take_all (length (v ∷ vs) - 1) vs (omega arith)) in
      λ i. act_of t number g side (sym is i) ++ acts_from t number g (other side) (map (λ w. w.now) (whole i))
