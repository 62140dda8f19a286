-- What castling asks of the squares between king and rook.
use Rattle.std.proofs.Common.{◌≡◌, ℕ, ◌+◌, ◌≤◌, arith, Bool, true, ◌&&◌, ◌==◌}
use Rattle.std.proofs.lemmas.Bool.{and_parts, eqb-true}
use Rattle.board.specs.declared.piece.Colour.{Colour}
use Rattle.board.specs.declared.piece.Colour.TheVariants.{White, Black}
use Rattle.board.specs.declared.parts.Parts.{Parts}
use Rattle.board.specs.Position.{home}
use Rattle.board.specs.Cells.{is_empty}
use Rattle.board.specs.Castling.{short_right, long_right, all_empty, all_safe, castles_short, castles_long}
use Rattle.board.proofs.RangeTests.{all_at}

-- the king goes from his home on a to b, which is empty, and crosses another empty square
pub record KingCastles (p : Parts) (a b arrival crossed : ℕ) : Type 0 where
  pub from : a ≡ home p.turn + 4
  pub to : b ≡ arrival
  pub arrives : is_empty p.cells b ≡ true
  pub crosses : is_empty p.cells crossed ≡ true

castle_parts : (a b c d e : Bool) → (a && b && c && d && e) ≡ true → (b ≡ true) × (c ≡ true) × (d ≡ true)
castle_parts a b c d e h = grind (arith, and_parts)

pub short_tells : (p : Parts) (a b : ℕ) → castles_short p a b ≡ true → KingCastles p a b (home p.turn + 6) (home p.turn + 5)
short_tells p a b h =
    let t = castle_parts (short_right p.turn p.rights) (a == home p.turn + 4) (b == home p.turn + 6) (all_empty p.cells (home p.turn + 5) 2) (all_safe p.cells p.turn (home p.turn + 4) 3) h in
    let to : b ≡ home p.turn + 6 = eqb-true _ _ t.1 in
    let empty = all_at (is_empty p.cells) (home p.turn + 5) 2 in
    record {
      from = eqb-true _ _ t.0;
      to = to;
      arrives = empty b t.2 (omega arith) (omega arith);
      crosses = empty (home p.turn + 5) t.2 (omega arith) (omega arith);
    }

pub long_tells : (p : Parts) (a b : ℕ) → castles_long p a b ≡ true → KingCastles p a b (home p.turn + 2) (home p.turn + 3)
long_tells p a b h =
    let t = castle_parts (long_right p.turn p.rights) (a == home p.turn + 4) (b == home p.turn + 2) (all_empty p.cells (home p.turn + 1) 3) (all_safe p.cells p.turn (home p.turn + 2) 3) h in
    let to : b ≡ home p.turn + 2 = eqb-true _ _ t.1 in
    let empty = all_at (is_empty p.cells) (home p.turn + 1) 3 in
    record {
      from = eqb-true _ _ t.0;
      to = to;
      arrives = empty b t.2 (omega arith) (omega arith);
      crosses = empty (home p.turn + 3) t.2 (omega arith) (omega arith);
    }

pub home_low : (c : Colour) → home c ≤ 56
home_low White = omega arith
home_low Black = omega arith
