-- The wishes of players with one entry more, of players who left, and of players who pause.
use Rattle.std.proofs.Common.{◌≡◌, ℕ, suc, ◌<◌, List, [], ◌∷◌, ◌++◌, take, drop, Option, Some, None, Bool, true, false, refl, sym, ap, ◌∙◌, subst, arith, append_assoc}
use Rattle.std.specs.Prelude.{cond, slice_get, nat_le, ◌==◌, ◌≢◌}
use Rattle.std.specs.List.{list_any}
use Rattle.std.proofs.lemmas.Bool.{eq-eqb}
use Rattle.std.proofs.lemmas.List.{take-take, take-append-drop, append-nil}
use Rattle.entries.specs.declared.setup.Setup.{Setup}
use Rattle.entries.specs.declared.journal.Entry.{Entry}
use Rattle.entries.specs.declared.journal.What.{What}
use Rattle.entries.specs.declared.journal.What.TheVariants as what
use Rattle.seats.specs.declared.wish.Wish.{Wish}
use Rattle.seats.specs.declared.wish.Wish.TheVariants.{Absent, In, Paused, Left}
use Rattle.seats.specs.Places.{wish_set, wish_freed}
use Rattle.arena_history.specs.Games.{event_in}
use Rattle.arena_history.specs.History.{History, along}
use Rattle.arena_history.specs.Waves.{history}
use Rattle.arena_history.specs.Wishes.{did_not_appear, no_show, wish_in, wish}
use Rattle.arena_history.proofs.Lists.{take-suc_at}
use Rattle.arena_rules.specs.Below.{LawsOfHistories}
use Rattle.arena_rules.specs.declared.command.Command.TheVariants.{Enter, Pause, Leave}
use Rattle.arena_rules.specs.declared.refusal.Refusal.{Refusal}
use Rattle.arena_rules.specs.declared.refusal.Refusal.TheVariants as refusal
use Rattle.arena_rules.specs.Legal.{AllowsWhat, IsLegal}
use Rattle.arena_rules.specs.Verdicts.{closed_or, or_full, command_refusal, verdict}

module _ (known : LawsOfHistories) where
  -- nobody has asked for anything before the first entry
  pub wish-nothing : (s : Setup) (p : ℕ) → wish s (history s []) p ≡ Absent
  unfolding wish history along
  wish-nothing s p = refl

  -- whoever left stays so

  cond_same : (b : Bool) → cond b Left Left ≡ Left
  cond_same true = refl
  cond_same false = refl

  left_in : (p : ℕ) (w : What) → wish_in p w Left ≡ Left
  left_in p (what.Enter q) = cond_same (q == p)
  left_in p (what.Pause q) = cond_same (q == p)
  left_in p (what.Leave q) = cond_same (q == p)
  left_in p (what.Act q number a) = refl
  left_in p what.Tick = refl
  left_in p (what.Wave n) = refl

  pub left_freed : (b : Bool) → wish_freed b Left ≡ Left
  left_freed true = refl
  left_freed false = refl

  pub left_step : (b : Bool) (p : ℕ) (w : What) (old : Wish) → old ≡ Left → wish_freed b (wish_in p w old) ≡ Left
  left_step b p w old left = ap (λ x. wish_freed b (wish_in p w x)) left ∙ (ap (wish_freed b) (left_in p w) ∙ left_freed b)

  pub left_stays : (s : Setup) (es more : List Entry) (p : ℕ) → wish s (history s es) p ≡ Left → wish s (history s (es ++ more)) p ≡ Left
  left_stays s es [] p left = ap (λ l. wish s (history s l) p) (append-nil es) ∙ left
  left_stays s es (e ∷ more) p left =
      ap (λ l. wish s (history s l) p) (sym (append_assoc es (e ∷ []) more)) ∙ left_stays s (es ++ e ∷ []) more p (known.wish s es e p ∙ left_step (no_show s (history s es) e p) p e.what (wish s (history s es) p) left)

  -- and is refused

  refused_in : (es : List Entry) (closed : Bool) → or_full es (cond closed (Some refusal.Closed) (Some refusal.Left)) ≡ cond closed (Some refusal.Closed) (Some refusal.Left)
  refused_in es true = refl
  refused_in es false = refl

  pub left_enter_refused : (s : Setup) (h : History) (t p : ℕ) → wish s h p ≡ Left → verdict s h t (Enter p) ≡ closed_or s t (Some refusal.Left)
  unfolding verdict
  left_enter_refused s h t p left = rw left (refused_in h.entries (nat_le s.ends t))

  pub left_pause_refused : (s : Setup) (h : History) (t p : ℕ) → wish s h p ≡ Left → verdict s h t (Pause p) ≡ closed_or s t (Some refusal.Left)
  unfolding verdict
  left_pause_refused s h t p left = rw left (refused_in h.entries (nat_le s.ends t))

  pub left_leave_refused : (s : Setup) (h : History) (t p : ℕ) → wish s h p ≡ Left → verdict s h t (Leave p) ≡ closed_or s t (Some refusal.Left)
  unfolding verdict
  left_leave_refused s h t p left = rw left (refused_in h.entries (nat_le s.ends t))

  closed_not_none : (s : Setup) (t : ℕ) (v : Option Refusal) → v ≡ closed_or s t (Some refusal.Left) → v ≡ None → ⊥
  closed_not_none s t v is none = some_not_none (nat_le s.ends t) (sym is ∙ none)
    where
      some_not_none : (closed : Bool) → cond closed (Some refusal.Closed) (Some refusal.Left) ≡ None → ⊥
      some_not_none true is = cc
      some_not_none false is = cc

  -- whoever left does not come back

  pub left_set : (old : Wish) → wish_set Left old ≡ Left
  left_set Absent = refl
  left_set In = refl
  left_set Paused = refl
  left_set Left = refl

  leaves : (b : Bool) (p : ℕ) (old : Wish) → wish_freed b (wish_in p (what.Leave p) old) ≡ Left
  leaves b p old = rw (eq-eqb p p refl, left_set old) (left_freed b)

  -- behind his leave entry a player has left
  left_behind : (s : Setup) (es : List Entry) (i j p : ℕ) (e : Entry) → i < j → slice_get es i ≡ Some e → e.what ≡ what.Leave p → wish s (history s (take j es)) p ≡ Left
  left_behind s es i j p e lt at leave =
      let first : take (suc i) (take j es) ≡ take i es ++ e ∷ [] = take-take (suc i) j es (omega arith) ∙ take-suc_at es i e at in
      let split : take j es ≡ (take i es ++ e ∷ []) ++ drop (suc i) (take j es) = sym (take-append-drop (suc i) (take j es)) ∙ ap (λ l. l ++ drop (suc i) (take j es)) first in
      let h = history s (take i es) in
      ap (λ l. wish s (history s l) p) split ∙ left_stays s (take i es ++ e ∷ []) (drop (suc i) (take j es)) p (known.wish s (take i es) e p ∙ (ap (λ w. wish_freed (no_show s h e p) (wish_in p w (wish s h p))) leave ∙ leaves (no_show s h e p) p (wish s h p)))

  -- in a legal list a player has no enter, pause or leave entry behind a leave entry
  pub nobody_comes_back : (s : Setup) (es : List Entry) (i j p : ℕ) (e f : Entry) → IsLegal s es → i < j → slice_get es i ≡ Some e → slice_get es j ≡ Some f → e.what ≡ what.Leave p → (f.what ≢ what.Enter p) × (f.what ≢ what.Pause p) × (f.what ≢ what.Leave p)
  nobody_comes_back s es i j p e f legal lt at behind leave =
      let h = history s (take j es) in
      let left : wish s h p ≡ Left = left_behind s es i j p e lt at leave in
      let allowed : AllowsWhat s h f.stamp f.what = (legal.each j f behind).granted in (
        (λ is. closed_not_none s f.stamp _ (left_enter_refused s h f.stamp p left) (let granted : AllowsWhat s h f.stamp (what.Enter p) = subst (AllowsWhat s h f.stamp) is allowed in granted.not_refused)),
        (λ is. closed_not_none s f.stamp _ (left_pause_refused s h f.stamp p left) (let granted : AllowsWhat s h f.stamp (what.Pause p) = subst (AllowsWhat s h f.stamp) is allowed in granted.not_refused)),
        (λ is. closed_not_none s f.stamp _ (left_leave_refused s h f.stamp p left) (let granted : AllowsWhat s h f.stamp (what.Leave p) = subst (AllowsWhat s h f.stamp) is allowed in granted.not_refused)),
      )

  -- whoever pauses may enter and leave

  pub paused_may_enter : (s : Setup) (h : History) (t p : ℕ) → wish s h p ≡ Paused → command_refusal s h t (Enter p) ≡ closed_or s t None
  paused_may_enter s h t p paused = rw paused refl

  pub paused_may_leave : (s : Setup) (h : History) (t p : ℕ) → wish s h p ≡ Paused → command_refusal s h t (Leave p) ≡ closed_or s t None
  paused_may_leave s h t p paused = rw paused refl

  -- an enter entry ends no game
  entering_no_show : (s : Setup) (es : List Entry) (e : Entry) (p : ℕ) → e.what ≡ what.Enter p → no_show s (history s es) e p ≡ false
  unfolding no_show
  entering_no_show s es e p enter = ap (list_any (did_not_appear p)) (known.by_events s es e (λ g. ap (event_in g.header e.stamp) enter))

  pub paused_enters : (s : Setup) (es : List Entry) (e : Entry) (p : ℕ) → wish s (history s es) p ≡ Paused → e.what ≡ what.Enter p → wish s (history s (es ++ e ∷ [])) p ≡ In
  paused_enters s es e p paused enter =
      known.wish s es e p ∙ ((λ i. wish_freed (entering_no_show s es e p enter i) (wish_in p (enter i) (paused i))) ∙ rw (eq-eqb p p refl) refl)
