-- The entries of one number, in a history that grows.
use Rattle.std.proofs.Common.{◌≡◌, ◌≢◌, ℕ, eqb, cond, List, [], ◌∷◌, ◌++◌, length, drop, refl, sym, ap, ◌∙◌, subst, append_assoc, eq-eqb, ne_eqb}
use Rattle.std.specs.Prelude.{All}
use Rattle.std.proofs.lemmas.List.{append-nil}
use Rattle.std.proofs.lemmas.List.Elements.{All-append, All-nil, All-tail, filter-append}
use Rattle.std.proofs.Math.Seq.{drop-append_seam}
use mathlib.Core.List.{IsPrefix}
use Rattle.turnstile.specs.Histories.{own, OthersAdded, OnlyAdded}
use Rattle.turnstile.proofs.Counts.{all_to}

module _ {E : Type 0} (by : E → ℕ) where
  own_none : (i : ℕ) (xs : List E) → All (λ e. by e ≢ i) xs → own by i xs ≡ []
  own_none i [] a = refl
  own_none i (x ∷ xs) a = ap (λ b. cond b (x ∷ own by i xs) (own by i xs)) (ne_eqb (by x) i (a 0 x (omega Rattle.std.proofs.Common.arith))) ∙ own_none i xs (All-tail (λ (e : E). by e ≢ i) x xs a)

  own_all : (i : ℕ) (xs : List E) → All (λ e. by e ≡ i) xs → own by i xs ≡ xs
  own_all i [] a = refl
  own_all i (x ∷ xs) a = ap (λ b. cond b (x ∷ own by i xs) (own by i xs)) (eq-eqb (by x) i (a 0 x (omega Rattle.std.proofs.Common.arith))) ∙ ap (λ l. x ∷ l) (own_all i xs (All-tail (λ (e : E). by e ≡ i) x xs a))

  pub own_others : (i : ℕ) (seen history : List E) → OthersAdded by i seen history → own by i history ≡ own by i seen
  own_others i seen history h =
      ap (own by i) h.goes_on ∙ (filter-append (λ e. eqb (by e) i) seen h.rest ∙ (ap (λ l. own by i seen ++ l) (own_none i h.rest h.by_others) ∙ append-nil (own by i seen)))

  pub own_gains : (i : ℕ) (seen history new : List E) → OnlyAdded by i seen history → history ≡ seen ++ new → own by i history ≡ own by i seen ++ new
  own_gains i seen history new h is =
      let same : h.new ≡ new = sym (drop-append_seam seen h.new) ∙ (ap (drop (length seen)) (sym h.goes_on ∙ is) ∙ drop-append_seam seen new) in
      ap (own by i) h.goes_on ∙ (filter-append (λ e. eqb (by e) i) seen h.new ∙ ap (λ l. own by i seen ++ l) (own_all i h.new h.by_one ∙ same))

  pub begins : (i : ℕ) (seen history : List E) → OthersAdded by i seen history → IsPrefix seen history
  begins i seen history h = (h.rest, sym h.goes_on)

  -- who has seen the whole history
  pub seen_whole : (i : ℕ) (seen history : List E) → seen ≡ history → OthersAdded by i seen history
  seen_whole i seen history e = record { rest = []; goes_on = sym e ∙ sym (append-nil seen); by_others = All-nil (λ (e : E). by e ≢ i) }

  -- who has seen nothing, where the number is new
  pub seen_nothing : (i : ℕ) (history : List E) → All (λ e. by e ≢ i) history → OthersAdded by i [] history
  seen_nothing i history a = record { rest = history; goes_on = refl; by_others = a }

  -- where the number i adds entries, what another has seen stays seen
  pub still_others : (i j : ℕ) (seen history now new : List E) → j ≢ i → now ≡ history ++ new → All (λ e. by e ≡ i) new → OthersAdded by j seen history → OthersAdded by j seen now
  still_others i j seen history now new ne is mine h = record {
    rest = h.rest ++ new;
    goes_on = is ∙ (ap (λ l. l ++ new) h.goes_on ∙ append_assoc seen h.rest new);
    by_others = All-append (λ (e : E). by e ≢ j) h.rest new h.by_others (all_to (λ (e : E). by e ≡ i) (λ (e : E). by e ≢ j) new (λ e is' bad. ne (sym bad ∙ is')) mine);
  }
