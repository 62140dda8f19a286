-- Actions that were done, among events with one more.
use Rattle.std.proofs.Common.{◌≡◌, ℕ, ◌<◌, List, [], ◌∷◌, ◌++◌, length, refl, sym, ap, subst, ◌∙◌}
use Rattle.board.specs.declared.piece.Colour.{Colour}
use Rattle.entries.specs.declared.action.Action.{Action}
use Rattle.game_room.specs.declared.header.Header.{Header}
use Rattle.game_room.specs.Events.{Event, Acted, act_of}
use Rattle.game_room.specs.Games.{game}
use Rattle.game_room.specs.Meanings.{IsDone, DoneAt}
use Rattle.game_room.proofs.Splits.{LastOrBefore, Last, Before, last_or_before, place_more, place_below}
use Rattle.game_room.proofs.Cases.{DoesItsOwn, is_done}

-- what was done stays done
abbrev pub done_more : (h : Header) (events : List Event) (e : Event) (side : Colour) (a : Action) → DoneAt h events side a → DoneAt h (events ++ e ∷ []) side a
done_more h events e side a x = record {
  before = x.before;
  stamp = x.stamp;
  after = x.after ++ e ∷ [];
  place = place_more events x.before x.after e (act_of side a x.stamp) x.place;
  done = x.done;
}

-- the last event is such an action
abbrev pub done_now : (h : Header) (events : List Event) (e : Event) (side : Colour) (a : Action) → e ≡ act_of side a e.stamp → DoesItsOwn h (game h events) side a e.stamp
    → DoneAt h (events ++ e ∷ []) side a
done_now h events e side a act own = record {
  before = events;
  stamp = e.stamp;
  after = [];
  place = ap (λ x. events ++ x ∷ []) act;
  done = is_done h events side a e.stamp own;
}

-- what was done was done before the last event, or is the last event
pub data Found (h : Header) (events : List Event) (e : Event) (side : Colour) (a : Action) (before : List Event) : Type 0 where
  Earlier : (y : DoneAt h events side a) → y.before ≡ before → Found h events e side a before
  JustNow : (t : ℕ) → before ≡ events → e ≡ act_of side a t → IsDone h events side a t → Found h events e side a before

found_by : (h : Header) (events : List Event) (e : Event) (side : Colour) (a : Action) (x : DoneAt h (events ++ e ∷ []) side a)
    → LastOrBefore events x.before x.after e (act_of side a x.stamp) → Found h events e side a x.before
found_by h events e side a x (Last none same last) = JustNow x.stamp (sym same) last (subst (λ l. IsDone h l side a x.stamp) (sym same) x.done)
found_by h events e side a x (Before rest more same) = Earlier (record { before = x.before; stamp = x.stamp; after = rest; place = same; done = x.done }) refl

pub found : (h : Header) (events : List Event) (e : Event) (side : Colour) (a : Action) (x : DoneAt h (events ++ e ∷ []) side a) → Found h events e side a x.before
found h events e side a x = found_by h events e side a x (last_or_before events x.before x.after e (act_of side a x.stamp) x.place)

-- nothing was done before the first event
pub nothing_done : (h : Header) (side : Colour) (a : Action) → DoneAt h [] side a → ⊥
nothing_done h side a x = absurd_place x.before x.after (act_of side a x.stamp) x.place
  where
    absurd_place : (before after : List Event) (e : Event) → [] ≡ before ++ e ∷ after → ⊥
    absurd_place [] after e p = cc
    absurd_place (b ∷ before) after e p = cc

-- what was done stands below the end
pub done_below : (h : Header) (events : List Event) (side : Colour) (a : Action) (x : DoneAt h events side a) → length x.before < length events
done_below h events side a x = place_below events x.before x.after (act_of side a x.stamp) x.place

-- one event is one action of one side
pub same_side : (e : Event) (s t : Colour) (a b : Action) (m n : ℕ) → e ≡ act_of s a m → e ≡ act_of t b n → s ≡ t
same_side e s t a b m n p q = let deeds : Acted s a ≡ Acted t b = sym (ap (λ (x : Event). x.deed) p) ∙ ap (λ (x : Event). x.deed) q in cc

pub same_action : (e : Event) (s t : Colour) (a b : Action) (m n : ℕ) → e ≡ act_of s a m → e ≡ act_of t b n → a ≡ b
same_action e s t a b m n p q = let deeds : Acted s a ≡ Acted t b = sym (ap (λ (x : Event). x.deed) p) ∙ ap (λ (x : Event). x.deed) q in cc
