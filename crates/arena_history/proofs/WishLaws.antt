-- What a player's wish is, by his entries and by the games for which he did not appear.
use Rattle.std.proofs.Common.{◌≡◌, ℕ, zero, suc, ◌+◌, ◌-◌, ◌<◌, ◌≤◌, ⊎_elim, List, [], ◌∷◌, ◌++◌, take, drop, length, Some, None, Bool, true, false, ◌||◌, refl, sym, ap, ◌∙◌, subst, arith}
use Rattle.std.specs.Prelude.{cond, slice_get, unwrap_or, ◌==◌, ◌≢◌}
use Rattle.std.specs.List.{list_any}
use Rattle.std.proofs.lemmas.Bool.{cases_Bool}
use Rattle.std.proofs.lemmas.List.{take_all, take-append-drop}
use Rattle.std.proofs.lemmas.List.Folds.{list_any-append}
use Rattle.entries.specs.declared.setup.Setup.{Setup}
use Rattle.entries.specs.declared.journal.Entry.{Entry}
use Rattle.entries.specs.declared.journal.What.{What}
use Rattle.entries.specs.declared.journal.What.TheVariants as what
use Rattle.seats.specs.declared.wish.Wish.{Wish}
use Rattle.seats.specs.declared.wish.Wish.TheVariants.{Absent, In, Paused, Left}
use Rattle.seats.specs.Places.{wish_set, wish_freed}
use Rattle.arena_history.specs.History.{along}
use Rattle.arena_history.specs.Wishes.{no_show, wish_in, wish, is_leave_of, has_left, asked_in, asked_by}
use Rattle.arena_history.specs.PlayerLaws.{IsLastSign}
use Rattle.arena_history.specs.Waves.{history}
use Rattle.arena_history.proofs.Histories.{IsWhole-history, entries-history, history-push}
use Rattle.arena_history.proofs.Lists.{snoc_induction, take-suc_at, slice_get_within, slice_get-get}
use Rattle.arena_history.proofs.Moves.{wish-after}

pub wish-nothing : (s : Setup) (p : ℕ) → wish s (history s []) p ≡ Absent
unfolding wish history along
wish-nothing s p = refl

-- a wish with one entry more
pub wish-push : (s : Setup) (es : List Entry) (e : Entry) (p : ℕ) → wish s (history s (es ++ e ∷ [])) p ≡ wish_freed (no_show s (history s es) e p) (wish_in p e.what (wish s (history s es) p))
wish-push s es e p = ap (λ h. wish s h p) (history-push s es e) ∙ wish-after s (history s es) e p (IsWhole-history s es)

-- whoever left stays so

cond_left : (b : Bool) → cond b Left Left ≡ Left
cond_left true = refl
cond_left false = refl

pub left_in : (p : ℕ) (w : What) → wish_in p w Left ≡ Left
left_in p (what.Enter q) = cond_left (q == p)
left_in p (what.Pause q) = cond_left (q == p)
left_in p (what.Leave q) = cond_left (q == p)
left_in p (what.Act q g a) = refl
left_in p what.Tick = refl
left_in p (what.Wave n) = refl

left_freed : (b : Bool) → wish_freed b Left ≡ Left
left_freed true = refl
left_freed false = refl

left_set : (old : Wish) → wish_set Left old ≡ Left
left_set Absent = refl
left_set In = refl
left_set Paused = refl
left_set Left = refl

leaves : (p : ℕ) (w : What) (old : Wish) → is_leave_of p w ≡ true → wish_in p w old ≡ Left
leaves p (what.Enter q) old on = cc
leaves p (what.Pause q) old on = cc
leaves p (what.Leave q) old on = rw on (left_set old)
leaves p (what.Act q g a) old on = cc
leaves p what.Tick old on = cc
leaves p (what.Wave n) old on = cc

pub left-push : (s : Setup) (es : List Entry) (e : Entry) (p : ℕ) → wish s (history s es) p ≡ Left → wish s (history s (es ++ e ∷ [])) p ≡ Left
left-push s es e p left = wish-push s es e p ∙ (ap (λ w. wish_freed (no_show s (history s es) e p) w) (ap (wish_in p e.what) left ∙ left_in p e.what) ∙ left_freed (no_show s (history s es) e p))

-- a list of entries has a leave of p
abbrev leave_in : ℕ → List Entry → Bool
leave_in p es = list_any (λ (e : Entry). is_leave_of p e.what) es

leave_in-push : (p : ℕ) (es : List Entry) (e : Entry) → leave_in p (es ++ e ∷ []) ≡ (leave_in p es || is_leave_of p e.what)
leave_in-push p es e = list_any-append (λ (x : Entry). is_leave_of p x.what) es (e ∷ []) ∙ ap (λ b. leave_in p es || b) (or-false (is_leave_of p e.what))
  where
    or-false : (b : Bool) → (b || false) ≡ b
    or-false true = refl
    or-false false = refl

left_has_left : (s : Setup) (p : ℕ) (es : List Entry) → leave_in p es ≡ true → wish s (history s es) p ≡ Left
left_has_left s p es =
    snoc_induction (λ l. leave_in p l ≡ true → wish s (history s l) p ≡ Left) (λ on. cc)
    (λ l e was on.
    ⊎_elim
    (λ (before : leave_in p l ≡ true). left-push s l e p (was before))
    (λ (new : leave_in p l ≡ false).
    let here : is_leave_of p e.what ≡ true = ap (λ b. b || is_leave_of p e.what) (sym new) ∙ (sym (leave_in-push p l e) ∙ on) in
    wish-push s l e p ∙ (ap (λ w. wish_freed (no_show s (history s l) e p) w) (leaves p e.what (wish s (history s l) p) here) ∙ left_freed (no_show s (history s l) e p)))
    (cases_Bool (leave_in p l)))
    es

pub wish_left : (s : Setup) (es : List Entry) (p : ℕ) → has_left (history s es) p ≡ true → wish s (history s es) p ≡ Left
wish_left s es p on = left_has_left s p es (ap (leave_in p) (sym (entries-history s es)) ∙ on)

-- without a leave, each entry that shows a wish sets it

set_from : (w old : Wish) → old ≢ Left → wish_set w old ≡ w
set_from w Absent stays = refl
set_from w In stays = refl
set_from w Paused stays = refl
set_from w Left stays = absurd (stays refl)

asked_step : (p : ℕ) (w : What) (old : Wish) → is_leave_of p w ≡ false → old ≢ Left → wish_in p w old ≡ unwrap_or (asked_in p w) old
asked_step p (what.Enter q) old off stays = by (q == p)
  where
    by : (b : Bool) → cond b (wish_set In old) old ≡ unwrap_or (cond b (Some In) None) old
    by true = set_from In old stays
    by false = refl
asked_step p (what.Pause q) old off stays = by (q == p)
  where
    by : (b : Bool) → cond b (wish_set Paused old) old ≡ unwrap_or (cond b (Some Paused) None) old
    by true = set_from Paused old stays
    by false = refl
asked_step p (what.Leave q) old off stays = rw off refl
asked_step p (what.Act q g a) old off stays = refl
asked_step p what.Tick old off stays = refl
asked_step p (what.Wave n) old off stays = refl

asked_stays : (p : ℕ) (w : What) (old : Wish) → old ≢ Left → unwrap_or (asked_in p w) old ≢ Left
asked_stays p (what.Enter q) old stays = by (q == p)
  where
    by : (b : Bool) → unwrap_or (cond b (Some In) None) old ≢ Left
    by true = λ is. cc
    by false = stays
asked_stays p (what.Pause q) old stays = by (q == p)
  where
    by : (b : Bool) → unwrap_or (cond b (Some Paused) None) old ≢ Left
    by true = λ is. cc
    by false = stays
asked_stays p (what.Leave q) old stays = stays
asked_stays p (what.Act q g a) old stays = stays
asked_stays p what.Tick old stays = stays
asked_stays p (what.Wave n) old stays = stays

sign_step : (b : Bool) (p : ℕ) (w : What) (old : Wish) → is_leave_of p w ≡ false → old ≢ Left → wish_freed b (wish_in p w old) ≡ unwrap_or (cond b (Some Paused) (asked_in p w)) old
sign_step true p w old off stays = set_from Paused (wish_in p w old) (subst (λ (v : Wish). v ≢ Left) (sym (asked_step p w old off stays)) (asked_stays p w old stays))
sign_step false p w old off stays = asked_step p w old off stays

sign_stays : (b : Bool) (p : ℕ) (w : What) (old : Wish) → old ≢ Left → unwrap_or (cond b (Some Paused) (asked_in p w)) old ≢ Left
sign_stays true p w old stays = λ is. cc
sign_stays false p w old stays = asked_stays p w old stays

or_parts : (a b : Bool) → (a || b) ≡ false → (a ≡ false) × (b ≡ false)
or_parts true b off = cc
or_parts false true off = cc
or_parts false false off = (refl, refl)

-- the wish with one entry more, of somebody without a leave
module _ (s : Setup) (p : ℕ) where
  not_left : (es : List Entry) → leave_in p es ≡ false → wish s (history s es) p ≢ Left
  not_left es =
      snoc_induction (λ l. leave_in p l ≡ false → wish s (history s l) p ≢ Left) (λ off is. let never : Absent ≡ Left = sym (wish-nothing s p) ∙ is in cc)
      (λ l e was off.
      let parts = or_parts (leave_in p l) (is_leave_of p e.what) (sym (leave_in-push p l e) ∙ off) in
      subst (λ (w : Wish). w ≢ Left) (sym (wish-push s l e p ∙ sign_step (no_show s (history s l) e p) p e.what (wish s (history s l) p) parts.1 (was parts.0))) (sign_stays (no_show s (history s l) e p) p e.what (wish s (history s l) p) (was parts.0)))
      es

  signed : (es : List Entry) (e : Entry) → leave_in p (es ++ e ∷ []) ≡ false → wish s (history s (es ++ e ∷ [])) p ≡ unwrap_or (asked_by s p (history s es) e) (wish s (history s es) p)
  signed es e off =
      let parts = or_parts (leave_in p es) (is_leave_of p e.what) (sym (leave_in-push p es e) ∙ off) in
      wish-push s es e p ∙ sign_step (no_show s (history s es) e p) p e.what (wish s (history s es) p) parts.1 (not_left es parts.0)

  leave_in-take : (es : List Entry) (n : ℕ) → leave_in p es ≡ false → leave_in p (take n es) ≡ false
  leave_in-take es n off =
      (or_parts (leave_in p (take n es)) (leave_in p (drop n es)) (sym (list_any-append (λ (x : Entry). is_leave_of p x.what) (take n es) (drop n es)) ∙ (ap (leave_in p) (take-append-drop n es) ∙ off))).0

  -- the wish after one entry more of a list
  signed_at : (es : List Entry) (k : ℕ) (e : Entry) → leave_in p es ≡ false → slice_get es k ≡ Some e → wish s (history s (take (suc k) es)) p ≡ unwrap_or (asked_by s p (history s (take k es)) e) (wish s (history s (take k es)) p)
  signed_at es k e off at =
      let next : take (suc k) es ≡ take k es ++ e ∷ [] = take-suc_at es k e at in
      ap (λ l. wish s (history s l) p) next ∙ signed (take k es) e (ap (leave_in p) (sym next) ∙ leave_in-take es (suc k) off)

  kept_from : (es : List Entry) (from m : ℕ) → leave_in p es ≡ false → ((k : ℕ) (e : Entry) → from ≤ k → slice_get es k ≡ Some e → asked_by s p (history s (take k es)) e ≡ None) → from + m ≤ length es → wish s (history s (take (from + m) es)) p ≡ wish s (history s (take from es)) p
  kept_from es from zero off none le = ap (λ n. wish s (history s (take n es)) p) (let same : from + 0 ≡ from = omega arith in same)
  kept_from es from (suc m) off none le =
      let found = slice_get-get es (from + m) (omega arith) in
      ap (λ n. wish s (history s (take n es)) p) (let next : from + suc m ≡ suc (from + m) = omega arith in next) ∙ (signed_at es (from + m) found.0 off found.1 ∙ (ap (λ o. unwrap_or o (wish s (history s (take (from + m) es)) p)) (none (from + m) found.0 (omega arith) found.1) ∙ kept_from es from m off none (omega arith)))

  pub wish_none : (es : List Entry) → has_left (history s es) p ≡ false → ((k : ℕ) (e : Entry) → slice_get es k ≡ Some e → asked_by s p (history s (take k es)) e ≡ None) → wish s (history s es) p ≡ Absent
  wish_none es off none =
      ap (λ l. wish s (history s l) p) (sym (take_all (0 + length es) es (omega arith))) ∙ (kept_from es 0 (length es) (ap (leave_in p) (sym (entries-history s es)) ∙ off) (λ k e low at. none k e at) (omega arith) ∙ wish-nothing s p)

  pub wish_last : (es : List Entry) (w : Wish) → has_left (history s es) p ≡ false → IsLastSign s es p w → wish s (history s es) p ≡ w
  wish_last es w off sign =
      let free = ap (leave_in p) (sym (entries-history s es)) ∙ off in
      let within : sign.n < length es = slice_get_within es sign.n sign.entry sign.stands in
      let rest = length es - suc sign.n in
      let here : wish s (history s (take (suc sign.n) es)) p ≡ w = signed_at es sign.n sign.entry free sign.stands ∙ ap (λ o. unwrap_or o (wish s (history s (take sign.n es)) p)) sign.shows in
      ap (λ l. wish s (history s l) p) (sym (take_all (suc sign.n + rest) es (omega arith))) ∙ (kept_from es (suc sign.n) rest free (λ k e low at. sign.last k e (omega arith) at) (omega arith) ∙ here)
