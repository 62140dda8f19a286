-- The six fields as stages.
use Rattle.std.proofs.Common.{◌≡◌, ℕ, suc, ◌<◌, ◌≤◌, List, [], ◌∷◌, ◌++◌, length, false, Option, None, Some, arith, refl, length-append, IsTrue}
use Rattle.std.specs.Prelude.{codes}
use Rattle.std.specs.Fmt.{decimal}
use Rattle.board.specs.declared.piece.Colour.{Colour}
use Rattle.board.specs.declared.piece.Colour.TheVariants.{White, Black}
use Rattle.board.specs.declared.piece.Piece.{Piece}
use Rattle.board.specs.declared.parts.Rights.{Rights}
use Rattle.board.specs.Piece.{other}
use Rattle.board.specs.Attack.{king_attacked}
use Rattle.board.specs.Position.{IsBoard, HoldsRights, ep_holds}
use Rattle.board.specs.Fen.{rank_text, rank_cells, ranks_text, board_text, turn_text, castlings, or_dash, rights_text, ep_text}
use Rattle.board.proofs.Decimals.{decimal_some}
use Rattle.board.proofs.Stages.{Stage, meets_fewer}

pub ranks_text-some : (cells : List (Option Piece)) (r : ℕ) → 0 < length (ranks_text cells (suc r))
unfolding ranks_text
ranks_text-some cells r =
    let line = rank_text 0 (rank_cells cells (suc r)) in
    omega (arith, length-append (line ++ codes "/") (ranks_text cells r), length-append line (codes "/"))

pub or_dash-some : (text : List ℕ) → 0 < length (or_dash text)
or_dash-some [] = omega arith
or_dash-some (b ∷ bs) = omega arith

pub turn_text-some : (c : Colour) → 0 < length (turn_text c)
turn_text-some White = omega arith
turn_text-some Black = omega arith

pub ep_text-some : (e : Option ℕ) → 0 < length (ep_text e)
ep_text-some None = omega arith
ep_text-some (Some s) = omega arith

abbrev pub board_stage : Stage 0 (List (Option Piece))
board_stage = record {
  get = λ p. p.cells;
  put = λ v p. record p { cells = v };
  text_of = board_text;
  Asked = λ p. IsBoard p.cells;
  its_field = λ q. refl;
  within = λ q. omega arith;
  some = λ v p a. ranks_text-some v 6;
  kept = λ v p. refl;
  got = λ v p. refl;
  front_more = λ q. refl;
  asked_front = λ q a. a;
  meets = λ v p m a. record {
    board = λ h. a;
    safe = λ h. absurd (omega arith);
    rights = λ h. absurd (omega arith);
    ep = λ h. absurd (omega arith);
    half_most = λ h. absurd (omega arith);
    number_least = λ h. absurd (omega arith);
    number_most = λ h. absurd (omega arith);
  };
  met = λ q m. (meets_fewer 0 q m, m.board (omega arith));
}

abbrev pub turn_stage : Stage 1 (Colour)
turn_stage = record {
  get = λ p. p.turn;
  put = λ v p. record p { turn = v };
  text_of = turn_text;
  Asked = λ p. king_attacked p.cells (other p.turn) ≡ false;
  its_field = λ q. refl;
  within = λ q. omega arith;
  some = λ v p a. turn_text-some v;
  kept = λ v p. refl;
  got = λ v p. refl;
  front_more = λ q. refl;
  asked_front = λ q a. a;
  meets = λ v p m a. record {
    board = λ h. m.board (omega arith);
    safe = λ h. a;
    rights = λ h. absurd (omega arith);
    ep = λ h. absurd (omega arith);
    half_most = λ h. absurd (omega arith);
    number_least = λ h. absurd (omega arith);
    number_most = λ h. absurd (omega arith);
  };
  met = λ q m. (meets_fewer 1 q m, m.safe (omega arith));
}

abbrev pub rights_stage : Stage 2 (Rights)
rights_stage = record {
  get = λ p. p.rights;
  put = λ v p. record p { rights = v };
  text_of = rights_text;
  Asked = λ p. HoldsRights p.cells p.rights;
  its_field = λ q. refl;
  within = λ q. omega arith;
  some = λ v p a. or_dash-some (castlings v);
  kept = λ v p. refl;
  got = λ v p. refl;
  front_more = λ q. refl;
  asked_front = λ q a. a;
  meets = λ v p m a. record {
    board = λ h. m.board (omega arith);
    safe = λ h. m.safe (omega arith);
    rights = λ h. a;
    ep = λ h. absurd (omega arith);
    half_most = λ h. absurd (omega arith);
    number_least = λ h. absurd (omega arith);
    number_most = λ h. absurd (omega arith);
  };
  met = λ q m. (meets_fewer 2 q m, m.rights (omega arith));
}

abbrev pub ep_stage : Stage 3 (Option ℕ)
ep_stage = record {
  get = λ p. p.ep;
  put = λ v p. record p { ep = v };
  text_of = ep_text;
  Asked = λ p. IsTrue (ep_holds p.cells p.turn p.ep);
  its_field = λ q. refl;
  within = λ q. omega arith;
  some = λ v p a. ep_text-some v;
  kept = λ v p. refl;
  got = λ v p. refl;
  front_more = λ q. refl;
  asked_front = λ q a. a;
  meets = λ v p m a. record {
    board = λ h. m.board (omega arith);
    safe = λ h. m.safe (omega arith);
    rights = λ h. m.rights (omega arith);
    ep = λ h. a;
    half_most = λ h. absurd (omega arith);
    number_least = λ h. absurd (omega arith);
    number_most = λ h. absurd (omega arith);
  };
  met = λ q m. (meets_fewer 3 q m, m.ep (omega arith));
}

abbrev pub half_stage : Stage 4 (ℕ)
half_stage = record {
  get = λ p. p.half;
  put = λ v p. record p { half = v };
  text_of = decimal;
  Asked = λ p. p.half ≤ 65535;
  its_field = λ q. refl;
  within = λ q. omega arith;
  some = λ v p a. decimal_some v (omega arith);
  kept = λ v p. refl;
  got = λ v p. refl;
  front_more = λ q. refl;
  asked_front = λ q a. a;
  meets = λ v p m a. record {
    board = λ h. m.board (omega arith);
    safe = λ h. m.safe (omega arith);
    rights = λ h. m.rights (omega arith);
    ep = λ h. m.ep (omega arith);
    half_most = λ h. a;
    number_least = λ h. absurd (omega arith);
    number_most = λ h. absurd (omega arith);
  };
  met = λ q m. (meets_fewer 4 q m, m.half_most (omega arith));
}

abbrev pub number_stage : Stage 5 (ℕ)
number_stage = record {
  get = λ p. p.number;
  put = λ v p. record p { number = v };
  text_of = decimal;
  Asked = λ p. (1 ≤ p.number) × (p.number ≤ 65535);
  its_field = λ q. refl;
  within = λ q. omega arith;
  some = λ v p a. decimal_some v (omega arith);
  kept = λ v p. refl;
  got = λ v p. refl;
  front_more = λ q. refl;
  asked_front = λ q a. a;
  meets = λ v p m a. record {
    board = λ h. m.board (omega arith);
    safe = λ h. m.safe (omega arith);
    rights = λ h. m.rights (omega arith);
    ep = λ h. m.ep (omega arith);
    half_most = λ h. m.half_most (omega arith);
    number_least = λ h. a.0;
    number_most = λ h. a.1;
  };
  met = λ q m. (meets_fewer 5 q m, (m.number_least (omega arith), m.number_most (omega arith)));
}
