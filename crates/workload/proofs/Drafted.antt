-- How steps follow one another.
use Rattle.std.proofs.Common.{◌≡◌, List, [], ◌∷◌, ◌++◌, Result, Ok, Err, refl, sym, ap, subst, ◌∙◌}
use Rattle.std.specs.Prelude.{IsErrAnd}
use Rattle.std.proofs.lemmas.Grind.{fold-append}
use Rattle.entries.specs.declared.journal.Entry.{Entry}
use Rattle.entries.specs.declared.setup.Setup.{Setup}
use Rattle.workload.specs.Drafts.{Draft, behind, ended, going, with_all, with_next}
use Rattle.workload.specs.Steps.{ComesTo}
use Rattle.workload.specs.declared.drafting.Stop.{Stop}
use Rattle.workload.specs.declared.drafting.Stop.TheVariants.{NotAllowed, OutOfMemory}

-- nothing follows a list that has ended
pub still_ended : (s : Setup) (es more : List Entry) → with_all s (ended es) more ≡ ended es
unfolding with_all
still_ended s es [] = refl
still_ended s es (e ∷ more) = still_ended s es more

-- entries and then others
pub in_two : (s : Setup) (d : Draft) (xs ys : List Entry) → with_all s d (xs ++ ys) ≡ with_all s (with_all s d xs) ys
unfolding with_all
in_two s d xs ys = fold-append (with_next s) d xs ys

-- one entry
pub of_one : (s : Setup) (es : List Entry) (e : Entry) → with_all s (going es) (e ∷ []) ≡ behind s es e
unfolding with_all
of_one s es e = refl

pub of_none : (s : Setup) (d : Draft) → with_all s d [] ≡ d
unfolding with_all
of_none s d = refl

-- what is said of a list is said of the same list
pub comes_same : (d same : Draft) (new : List Entry) (r : Result (Unit {0}) Stop) → d ≡ same → ComesTo same new r → ComesTo d new r
comes_same d same new r is comes = subst (λ x. ComesTo x new r) (sym is) comes

-- a stop that is handed on
pub passed_on : (d : Draft) (new : List Entry) (r : Result (Unit {0}) Stop) (f : Stop) → IsErrAnd r (λ g. g ≡ f) → ComesTo d new (Err f) → ComesTo d new r
passed_on d new (Ok done) f is comes = absurd is
passed_on d new (Err g) f is comes = subst (λ x. ComesTo d new (Err x)) (sym is) comes

module _ (s : Setup) (d : Draft) (ys : List Entry) (new : List Entry) (r : Result (Unit {0}) Stop) where
  -- a list that goes on comes to what it comes to from where it is
  pub further : (at : Setup) (mid : List Entry) → at ≡ s → d ≡ going mid → ComesTo (with_all at (going mid) ys) new r → ComesTo (with_all s d ys) new r
  further at mid same went comes = comes_same (with_all s d ys) (with_all at (going mid) ys) new r (λ i. with_all (sym same i) (went i) ys) comes

  no_more : (f : Stop) → ComesTo d new (Err f) → ComesTo (with_all s d ys) new (Err f)
  no_more NotAllowed comes = ap (λ x. with_all s x ys) comes ∙ still_ended s new ys
  no_more OutOfMemory comes = tt

  -- and one that has stopped comes no further
  pub no_further : (f : Stop) → IsErrAnd r (λ g. g ≡ f) → ComesTo d new (Err f) → ComesTo (with_all s d ys) new r
  no_further f is comes = passed_on (with_all s d ys) new r f is (no_more f comes)

-- the same where some entries come before others
module _ (s : Setup) (es xs ys all : List Entry) (split : all ≡ xs ++ ys) (new : List Entry) (r : Result (Unit {0}) Stop) where
  in_parts : with_all s (going es) all ≡ with_all s (with_all s (going es) xs) ys
  in_parts = ap (with_all s (going es)) split ∙ in_two s (going es) xs ys

  pub and_then : (at : Setup) (mid : List Entry) → at ≡ s → with_all s (going es) xs ≡ going mid → ComesTo (with_all at (going mid) ys) new r → ComesTo (with_all s (going es) all) new r
  and_then at mid same went comes = comes_same (with_all s (going es) all) (with_all s (with_all s (going es) xs) ys) new r in_parts (further s (with_all s (going es) xs) ys new r at mid same went comes)

  pub and_no_more : (f : Stop) → IsErrAnd r (λ g. g ≡ f) → ComesTo (with_all s (going es) xs) new (Err f) → ComesTo (with_all s (going es) all) new r
  and_no_more f is comes = comes_same (with_all s (going es) all) (with_all s (with_all s (going es) xs) ys) new r in_parts (no_further s (with_all s (going es) xs) ys new r f is comes)
