-- What is held and what is gone after several reads.
use Rattle.std.proofs.Common.{◌≡◌, ℕ, ◌+◌, ◌≤◌, List, [], ◌++◌, length, take, drop, Option, refl, sym, ap, ◌∙◌, subst, arith, append_assoc, append-nil, length-append, length-take-le, take-append-drop}
use Rattle.std.specs.Io.KnownBytes.{Keeps}
use Rattle.std.proofs.KnownBytes.{Consumes-nil, Consumes-trans, Consumes-kept}
use Rattle.std.proofs.lemmas.List.{drop_all}
use Rattle.http_lines.specs.Steps.{Skips}

pub Skips-start : (held : List ℕ) (left : Option (List ℕ)) → Skips 0 held held left left
Skips-start held left = record { taken = []; gone = []; gave = Consumes-nil left; is = append-nil held; long = refl }

pub Skips-kept : (old new : List ℕ) (left left' : Option (List ℕ)) → new ≡ drop (length old) old → Keeps left left' → Skips (length old) old new left left'
Skips-kept old new left left' same kept = record {
  taken = [];
  gone = old;
  gave = Consumes-kept left left left' [] (Consumes-nil left) kept;
  is = ap (λ (l : List ℕ). old ++ l) (sym (same ∙ drop_all (length old) old (omega arith)));
  long = refl;
}

pub Skips-more : (old mid new : List ℕ) (left left' left'' : Option (List ℕ)) (n k : ℕ) → Skips n old mid left left' → Skips k mid new left' left'' → Skips (n + k) old new left left''
Skips-more old mid new left left' left'' n k first then' = record {
  taken = first.taken ++ then'.taken;
  gone = first.gone ++ then'.gone;
  gave = Consumes-trans left left' left'' first.taken then'.taken first.gave then'.gave;
  is =
      sym (append_assoc old first.taken then'.taken)
      ∙ ap (λ (l : List ℕ). l ++ then'.taken) first.is
      ∙ append_assoc first.gone mid then'.taken
      ∙ ap (λ (l : List ℕ). first.gone ++ l) then'.is
      ∙ sym (append_assoc first.gone then'.gone new);
  long = omega (arith, length-append first.gone then'.gone, first.long, then'.long);
}

pub Skips-front : (held : List ℕ) (left : Option (List ℕ)) (count : ℕ) → count ≤ length held → Skips count held (drop count held) left left
Skips-front held left count few = record {
  taken = [];
  gone = take count held;
  gave = Consumes-nil left;
  is = append-nil held ∙ sym (take-append-drop count held);
  long = length-take-le count held few;
}

pub Skips-count : (old new : List ℕ) (left left' : Option (List ℕ)) (n k : ℕ) → n ≡ k → Skips n old new left left' → Skips k old new left left'
Skips-count old new left left' n k same skips = subst (λ (m : ℕ). Skips m old new left left') same skips

-- the first bytes held are let go
pub Skips-let_go : (old mid new : List ℕ) (left left' : Option (List ℕ)) (n k : ℕ) → Skips n old mid left left' → k ≤ length mid → new ≡ drop k mid → Skips (n + k) old new left left'
Skips-let_go old mid new left left' n k so_far few same =
    subst (λ (l : List ℕ). Skips (n + k) old l left left') (sym same) (Skips-more old mid (drop k mid) left left' left' n k so_far (Skips-front mid left' k few))
