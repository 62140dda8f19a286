-- Lists made place by place and group by group, with one more.
use Rattle.std.specs.Prelude.{Option, Some, None, option_to_list}
use Rattle.std.specs.List.{range_with_len, filter_map, flat_map, cons_option}
use Rattle.std.proofs.Common.{◌≡◌, ℕ, zero, suc, ◌+◌, List, [], ◌∷◌, ◌++◌, refl, sym, ◌∙◌, ap, ap₂, arith, append-nil, append_assoc, add-one, zero-add}
use Rattle.std.proofs.lemmas.List.Elements.{filter_map-append}
use Rattle.std.proofs.lemmas.List.Concat.{flat_map-append}

range_suc : (a n : ℕ) → range_with_len a (suc n) ≡ range_with_len a n ++ (a + n) ∷ []
range_suc a zero = ap (λ k. k ∷ []) (let e : a ≡ a + 0 = omega arith in e)
range_suc a (suc n) = ap (λ l. a ∷ l) (range_suc (a + 1) n ∙ ap (λ k. range_with_len (a + 1) n ++ k ∷ []) (let e : a + 1 + n ≡ a + suc n = omega arith in e))

range_more : (n : ℕ) → range_with_len 0 (n + 1) ≡ range_with_len 0 n ++ n ∷ []
range_more n = ap (range_with_len 0) (add-one n) ∙ range_suc 0 n ∙ ap (λ k. range_with_len 0 n ++ k ∷ []) (zero-add n)

only_option : {Y : Type 0} (o : Option Y) → cons_option o [] ≡ option_to_list o
only_option None = refl
only_option (Some y) = refl

drawn_more : {Y : Type 0} (f : ℕ → Option Y) (n : ℕ) → filter_map f (range_with_len 0 (n + 1)) ≡ filter_map f (range_with_len 0 n) ++ option_to_list (f n)
drawn_more f n =
    ap (filter_map f) (range_more n)
    ∙ filter_map-append f (range_with_len 0 n) (n ∷ [])
    ∙ ap (λ l. filter_map f (range_with_len 0 n) ++ l) (only_option (f n))

joined_more : {Y : Type 0} (f : ℕ → List Y) (n : ℕ) → flat_map f (range_with_len 0 (n + 1)) ≡ flat_map f (range_with_len 0 n) ++ f n
joined_more f n =
    ap (flat_map f) (range_more n)
    ∙ flat_map-append f (range_with_len 0 n) (n ∷ [])
    ∙ ap (λ l. flat_map f (range_with_len 0 n) ++ l) (append-nil (f n))

-- what was put behind the list so far is the next item, if there is one
pub next_drawn : {Y : Type 0} (f : ℕ → Option Y) (n : ℕ) (start so_far new : List Y) (o : Option Y) → new ≡ so_far ++ option_to_list o → so_far ≡ start ++ filter_map f (range_with_len 0 n) → o ≡ f n → new ≡ start ++ filter_map f (range_with_len 0 (n + 1))
next_drawn {Y} f n start so_far new o put before is =
    put
    ∙ ap₂ (λ (l : List Y) (x : Option Y). l ++ option_to_list x) before is
    ∙ append_assoc start (filter_map f (range_with_len 0 n)) (option_to_list (f n))
    ∙ ap (λ (l : List Y). start ++ l) (sym (drawn_more f n))

-- what was put behind the lists so far is the next list
pub next_joined : {Y : Type 0} (f : ℕ → List Y) (n : ℕ) (so_far new next : List Y) → new ≡ so_far ++ next → so_far ≡ flat_map f (range_with_len 0 n) → next ≡ f n → new ≡ flat_map f (range_with_len 0 (n + 1))
next_joined {Y} f n so_far new next put before is =
    put
    ∙ ap₂ (λ (l m : List Y). l ++ m) before is
    ∙ sym (joined_more f n)
