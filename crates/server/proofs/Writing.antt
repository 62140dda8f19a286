-- How two writings ended together.
use Rattle.std.proofs.Common.{◌≡◌, ℕ, inl, inr, List, ◌++◌, length, take, Option, Some, None, sym, ap, ◌∙◌, append-nil}
use Rattle.std.proofs.Math.Seq.{take-length}
use Rattle.conn.specs.Told.{Gained, GainedPart, followed_by}
use Rattle.server.specs.declared.serve_end.ServeEnd.{ServeEnd}
use Rattle.server.specs.declared.serve_end.ServeEnd.TheVariants.{Done, WriteFault, OutOfMemory}
use Rattle.server.specs.Evenings.{Wrote, WroteBoth, worse}

-- the whole of a text is a beginning of it
whole : (text : List ℕ) (old new : Option (List ℕ)) → Gained old new text → GainedPart old new text
whole text old new p = (length text, p ∙ ap (λ bytes. followed_by old bytes) (sym (take-length text)))

-- and so is nothing
nothing : (text : List ℕ) (old new : Option (List ℕ)) → new ≡ old → GainedPart old new text
nothing text None new p = (0, p)
nothing text (Some told) new p = (0, p ∙ ap (λ l. Some l) (sym (append-nil told)))

pub wrote_both : (a b : List ℕ) (old new old' new' : Option (List ℕ)) (x y : ServeEnd) → Wrote a old new x → Wrote b old' new' y → WroteBoth a old new b old' new' (worse x y)
wrote_both a b old new old' new' Done Done p q = (p, q)
wrote_both a b old new old' new' Done WriteFault p q = (whole a old new p, q)
wrote_both a b old new old' new' Done OutOfMemory p q = (inl p, inr q)
wrote_both a b old new old' new' WriteFault Done p q = (p, whole b old' new' q)
wrote_both a b old new old' new' WriteFault WriteFault p q = (p, q)
wrote_both a b old new old' new' WriteFault OutOfMemory p q = (p, nothing b old' new' q)
wrote_both a b old new old' new' OutOfMemory Done p q = (inr p, inl q)
wrote_both a b old new old' new' OutOfMemory WriteFault p q = (nothing a old new p, q)
wrote_both a b old new old' new' OutOfMemory OutOfMemory p q = (inr p, inr q)
