-- Lists of words of a known length.
use Rattle.std.proofs.Common.{◌≡◌, ℕ, ◌<◌, ◌≤◌, List, [], ◌∷◌, length, get_or, codes, Option, Some, None, IfSome, arith, refl, sym, ◌∙◌}
use Rattle.arena_main.specs.declared.forms.Form.{Form}
use Rattle.arena_main.specs.declared.forms.Form.TheVariants.{Serve}
use Rattle.arena_main.specs.Forms.{HasForm, IsPort, IsWorkers}

-- the words of `serve`, of which three are known by their places
pub has_serve : (words : List (List ℕ)) (word port workers : List ℕ) (form : Option Form)
    → 5 ≤ length words → length words < 6
    → word ≡ get_or words 0 word → port ≡ get_or words 2 port → workers ≡ get_or words 3 workers
    → word ≡ codes "serve"
    → IfSome form (λ f. (p w : ℕ) × (f ≡ Serve p w) × IsPort port p × IsWorkers workers w)
    → IfSome form (HasForm words)
has_serve [] word port workers form some few first third fourth is has = absurd (omega (arith, some))
has_serve (a ∷ []) word port workers form some few first third fourth is has = absurd (omega (arith, some))
has_serve (a ∷ b ∷ []) word port workers form some few first third fourth is has = absurd (omega (arith, some))
has_serve (a ∷ b ∷ c ∷ []) word port workers form some few first third fourth is has = absurd (omega (arith, some))
has_serve (a ∷ b ∷ c ∷ d ∷ []) word port workers form some few first third fourth is has = absurd (omega (arith, some))
has_serve (a ∷ b ∷ c ∷ d ∷ e ∷ f ∷ more) word port workers form some few first third fourth is has = absurd (omega (arith, few))
has_serve (a ∷ b ∷ c ∷ d ∷ e ∷ []) word port workers None some few first third fourth is has = tt
has_serve (a ∷ b ∷ c ∷ d ∷ e ∷ []) word port workers (Some form) some few first third fourth is (p, w, same, is_port, is_workers) =
    rw same (b, c, d, e, rw (sym first ∙ is) refl, rw third at is_port, rw fourth at is_workers)
