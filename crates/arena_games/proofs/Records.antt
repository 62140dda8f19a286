-- Records of ended games.
use Rattle.std.proofs.Common.{◌≡◌, ℕ, List, [], ◌∷◌, Option, Some, None, refl, sym, ap, ◌∙◌, append-nil}
use Rattle.std.specs.Prelude.{IsTrue}
use Rattle.board.specs.declared.piece.Colour.{Colour}
use Rattle.board.specs.declared.piece.Colour.TheVariants.{White, Black}
use Rattle.game_room.specs.declared.outcome.Outcome.{Outcome}
use Rattle.game_room.specs.declared.view.GameView.{GameView}
use Rattle.game_room.specs.Events.{Event}
use Rattle.game_room.specs.Standing.{is_offer_of}
use Rattle.game_room.specs.Games.{outcome, standing, standing_of, game_view, view_of}
use Rattle.game_room.specs.Laws.{EndedStays, EndedViewStays, OutcomesTell, PliesAreMoves, OfferMeans}
use Rattle.arena_games.specs.Courses.{Course, outcome_of}
use Rattle.arena_games.specs.Keeps.{record_of, shown}
use Rattle.arena_games.specs.Laws.{RecordsStay, RecordsShow, RecordsAreMade}

pub records_stay : EndedStays → EndedViewStays → RecordsStay
unfolding outcome
records_stay stays seen e c event r = record {
  outcome = ap (λ g. g.outcome) (stays c.header c.events (event ∷ []) e.outcome r.outcome) ∙ r.outcome;
  seen = seen c.header c.events (event ∷ []) e.outcome e.outcome.stamp r.outcome ∙ r.seen;
}

-- a game that has ended is seen as at its end
pub seen_at_end : EndedViewStays → (c : Course) (o : Outcome) (t : ℕ) → outcome_of c ≡ Some o → game_view c.header c.events t ≡ game_view c.header c.events o.stamp
seen_at_end seen c o t over =
    ap (λ (es : List Event). game_view c.header es t) (sym (append-nil c.events)) ∙ seen c.header c.events [] o t over

pub records_show : EndedViewStays → RecordsShow
records_show seen e c t r = seen_at_end seen c e.outcome t r.outcome ∙ r.seen

no_offer_by : (x : Option Colour) → ((side : Colour) → IsTrue (is_offer_of side x) → ⊥) → x ≡ None
no_offer_by None never = refl
no_offer_by (Some White) never = absurd (never White refl)
no_offer_by (Some Black) never = absurd (never Black refl)

-- no offer stands in a game that has ended
no_offer : OfferMeans → (c : Course) (o : Outcome) → outcome_of c ≡ Some o → (standing c.header c.events).offer ≡ None
no_offer offers c o over =
    no_offer_by (standing c.header c.events).offer (λ side stands. let going = ((offers c.header c.events side).0 stands).0 in cc)

outcome_stands : (c : Course) → (standing c.header c.events).outcome ≡ outcome_of c
unfolding outcome standing standing_of
outcome_stands c = refl

pub shows_its_end : OutcomesTell → PliesAreMoves → OfferMeans → (c : Course) (o : Outcome) (t : ℕ) → outcome_of c ≡ Some o
    → game_view c.header c.events t ≡ shown c.header (record_of (game_view c.header c.events t) o)
unfolding game_view view_of
shows_its_end tells plies offers c o t over =
    let told = tells c.header c.events o over in
    let v : GameView = game_view c.header c.events t in
    let count = plies.counted c.header c.events ∙ sym told.plies in
    let offer = no_offer offers c o over in
    let white = sym told.white_berserk in
    let black = sym told.black_berserk in
    let outcome = outcome_stands c ∙ over in
    λ i. record {
      id = v.id;
      white = v.white;
      black = v.black;
      position = v.position;
      plies = count i;
      last = v.last;
      offer = offer i;
      white_ms = v.white_ms;
      black_ms = v.black_ms;
      white_berserk = white i;
      black_berserk = black i;
      outcome = outcome i;
    }

pub records_are_made : EndedViewStays → OutcomesTell → PliesAreMoves → OfferMeans → RecordsAreMade
records_are_made seen tells plies offers c o t over = record {
  outcome = over;
  seen = sym (seen_at_end seen c o t over) ∙ shows_its_end tells plies offers c o t over;
}
