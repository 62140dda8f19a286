-- What has been read can be written.
use Rattle.std.proofs.Common.{◌≡◌, true, Bool, not, List, [], ◌∷◌, ◌++◌, refl, sym, ap, subst, ◌∙◌}
use Rattle.std.specs.List.{list_all}
use Rattle.std.proofs.lemmas.Bool.{and_parts, and_from}
use Rattle.board.specs.declared.parts.Parts.{Parts}
use Rattle.board.specs.Moves.{MoveWord}
use Rattle.board.specs.Start.{start_parts}
use Rattle.move_rules.specs.After.{after}
use Rattle.move_rules.specs.Legal.{legal}
use Rattle.pgn_text.specs.declared.game.Tag.{Tag}
use Rattle.pgn_text.specs.Games.{is_tag, is_start_name, is_line, position_after}
use Rattle.pgn_text.specs.PgnReading.{Sofar, IsReadable, with_tag, with_move}

-- one move more
pub line_more : (p : Parts) (ms : List MoveWord) (m : MoveWord) → is_line p ms ≡ true → legal (position_after p ms) m ≡ true → is_line p (ms ++ m ∷ []) ≡ true
unfolding is_line position_after
line_more p [] m h ok = and_from (legal p m) true ok refl
line_more p (n ∷ ms) m h ok =
    let t = and_parts (legal p n) (is_line (after p n) ms) h in
    and_from (legal p n) (is_line (after p n) (ms ++ m ∷ [])) t.0 (line_more (after p n) ms m t.1 ok)

pub after_more : (p : Parts) (ms : List MoveWord) (m : MoveWord) → position_after p (ms ++ m ∷ []) ≡ after (position_after p ms) m
unfolding position_after
after_more p [] m = refl
after_more p (n ∷ ms) m = after_more (after p n) ms m

all_more : {X : Type 0} (test : X → Bool) (xs : List X) (x : X) → list_all test xs ≡ true → test x ≡ true → list_all test (xs ++ x ∷ []) ≡ true
all_more test [] x h ok = and_from (test x) true ok refl
all_more test (y ∷ ys) x h ok =
    let t = and_parts (test y) (list_all test ys) h in
    and_from (test y) (list_all test (ys ++ x ∷ [])) t.0 (all_more test ys x t.1 ok)

pub tag_more : (s : Sofar) (tag : Tag) → IsReadable s → is_tag tag ≡ true → not (is_start_name tag.name) ≡ true → IsReadable (with_tag s tag)
tag_more s tag r ok free_ = record {
  tags = all_more is_tag s.tags tag r.tags ok;
  start = all_more (λ (t : Tag). not (is_start_name t.name)) s.tags tag r.start free_;
  line = r.line;
  position = r.position;
}

pub move_more : (s : Sofar) (m : MoveWord) → IsReadable s → legal s.position m ≡ true → IsReadable (with_move s m)
move_more s m r ok = record {
  tags = r.tags;
  start = r.start;
  line = line_more start_parts s.moves m r.line (subst (λ (p : Parts). legal p m ≡ true) (sym r.position) ok);
  position = after_more start_parts s.moves m ∙ ap (λ (p : Parts). after p m) r.position;
}

-- nothing can be written
pub fresh_from : (tags : List Tag) (ms : List MoveWord) (p : Parts) (b : Bool) → tags ≡ [] → ms ≡ [] → p ≡ start_parts → IsReadable (record { tags = tags; moves = ms; position = p; began = b })
unfolding is_line position_after
fresh_from tags ms p b et em ep = record {
  tags = ap (list_all is_tag) et;
  start = ap (list_all (λ (t : Tag). not (is_start_name t.name))) et;
  line = ap (is_line start_parts) em;
  position = ap (position_after start_parts) em ∙ sym ep;
}

-- the same with a move more, by its parts
pub move_from : (tags : List Tag) (ms ms' : List MoveWord) (p p' : Parts) (b : Bool) (m : MoveWord) → IsReadable (record { tags = tags; moves = ms; position = p; began = b }) → legal p m ≡ true → ms' ≡ ms ++ m ∷ [] → p' ≡ after p m → IsReadable (record { tags = tags; moves = ms'; position = p'; began = true })
move_from tags ms ms' p p' b m r ok em ep =
    let more = move_more (record { tags = tags; moves = ms; position = p; began = b }) m r ok in
    record {
      tags = r.tags;
      start = r.start;
      line = subst (λ (xs : List MoveWord). is_line start_parts xs ≡ true) (sym em) more.line;
      position = ap (position_after start_parts) em ∙ more.position ∙ sym ep;
    }
