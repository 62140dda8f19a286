-- How a reading goes on from one place of a text to another.
use Rattle.std.proofs.Common.{◌≡◌, ℕ, ◌+◌, ◌-◌, ◌<◌, ◌==◌, Bool, true, false, not, ◌&&◌, cond, List, [], ◌∷◌, ◌++◌, Some, None, Ok, length, take, drop, refl, sym, ap, subst, ◌∙◌, arith}
use Rattle.std.specs.List.{position_or_len, list_all}
use Rattle.std.proofs.lemmas.Bool.{cond-true, cond-false, and_parts, and_from, not-true}
use Rattle.std.proofs.lemmas.List.{take_at, drop_at, append_assoc, length-append}
use Rattle.pgn_text.specs.declared.game.Tag.{Tag}
use Rattle.pgn_text.specs.declared.runs.Run.TheVariants.{Name, Value}
use Rattle.pgn_text.specs.Games.{is_name_byte, is_value_byte, is_name, is_tag, is_start_name}
use Rattle.pgn_text.specs.Pgn.{tag_line}
use Rattle.pgn_text.specs.Runs.{is_skipped, ends, run_len}
use Rattle.pgn_text.specs.Tokens.{name_in, value_in, tag_in}
use Rattle.pgn_text.specs.PgnReading.{Sofar, item, tag_item, tag_read, with_tag, run, token_item}
use Rattle.pgn_text.proofs.Turns.{run_on}

-- with steps enough at the one place, the reading is that from the other with steps enough there
pub Leads : ℕ → Sofar → List ℕ → Sofar → List ℕ → Type 0
Leads total s text t rest = (k : ℕ) → length text < k → (j : ℕ) × (length rest < j) × (run total k s text ≡ run total j t rest)

pub leads_run : (total : ℕ) (s t : Sofar) (text rest : List ℕ) → Leads total s text t rest → (k : ℕ) → length text < k → (j : ℕ) × (length rest < j) × (run total k s text ≡ run total j t rest)
unfolding Leads
leads_run total s t text rest f k h = f k h

pub stays : (total : ℕ) (s : Sofar) (text : List ℕ) → Leads total s text s text
unfolding Leads
stays total s text k h = (k, h, refl)

pub leads_on : (total : ℕ) (s t u : Sofar) (a b c : List ℕ) → Leads total s a t b → Leads total t b u c → Leads total s a u c
unfolding Leads
leads_on total s t u a b c f g k h =
    let x = f k h in
    let y = g x.0 x.1 in
    (y.0, y.1, x.2 ∙ y.2)

pub leads_item : (total : ℕ) (s t : Sofar) (text rest : List ℕ) → length rest < length text → item total s text ≡ Ok (t, None, rest) → Leads total s text t rest
unfolding Leads
leads_item total s t text rest shorter e k h = (k - 1, (omega arith), run_on total k s t text rest h (omega arith) e)

pub leads_from : (total : ℕ) (s t : Sofar) (a b rest : List ℕ) → a ≡ b → Leads total s b t rest → Leads total s a t rest
leads_from total s t a b rest e f = subst (λ (x : List ℕ). Leads total s x t rest) (sym e) f

-- a run ends at the first byte that ends it
pub stop : (test : ℕ → Bool) (xs : List ℕ) (b : ℕ) (ys : List ℕ) → list_all (λ x. not (test x)) xs ≡ true → test b ≡ true → position_or_len test (xs ++ b ∷ ys) ≡ length xs
stop test [] b ys h e = cond-false (not (test b)) (1 + position_or_len test ys) 0 (ap not e)
stop test (x ∷ xs) b ys h e =
    let t = and_parts (not (test x)) (list_all (λ z. not (test z)) xs) h in
    cond-true (not (test x)) (1 + position_or_len test (xs ++ b ∷ ys)) 0 t.0 ∙ ap (λ (n : ℕ). 1 + n) (stop test xs b ys t.1 e) ∙ omega arith

skip_item : (total : ℕ) (s : Sofar) (b : ℕ) (rest : List ℕ) → is_skipped b ≡ true → item total s (b ∷ rest) ≡ Ok (s, None, rest)
unfolding item
skip_item total s b rest h = cond-true (is_skipped b) _ _ h

-- a skipped byte
pub leads_skip : (total : ℕ) (s : Sofar) (b : ℕ) (rest : List ℕ) → is_skipped b ≡ true → Leads total s (b ∷ rest) s rest
leads_skip total s b rest h = leads_item total s s (b ∷ rest) rest (omega arith) (skip_item total s b rest h)

all_weaker : (p q : ℕ → Bool) → ((b : ℕ) → p b ≡ true → q b ≡ true) → (xs : List ℕ) → list_all p xs ≡ true → list_all q xs ≡ true
all_weaker p q f [] h = refl
all_weaker p q f (x ∷ xs) h = let t = and_parts (p x) (list_all p xs) h in and_from (q x) (list_all q xs) (f x t.0) (all_weaker p q f xs t.1)

twice : (b : Bool) → b ≡ true → not (not b) ≡ true
twice b h = ap (λ (x : Bool). not (not x)) h

-- a name and what stands behind it
name_read : (name rest : List ℕ) (b : ℕ) → is_name name ≡ true → is_name_byte b ≡ false → name_in (name ++ b ∷ rest) ≡ Some (name, b ∷ rest)
unfolding name_in
name_read name rest b ok far =
    let t = and_parts (not (length name == 0)) (list_all is_name_byte name) ok in
    let n : run_len Name (name ++ b ∷ rest) ≡ length name = stop (ends Name) name b rest (all_weaker is_name_byte (λ x. not (ends Name x)) (λ x h. twice (is_name_byte x) h) name t.1) (ap not far) in
    ap (λ (m : ℕ). cond (m == 0) None (Some (take m (name ++ b ∷ rest), drop m (name ++ b ∷ rest)))) n
    ∙ cond-false (length name == 0) None (Some (take (length name) (name ++ b ∷ rest), drop (length name) (name ++ b ∷ rest))) (not-true _ t.0)
    ∙ ap (λ (xs : List ℕ). Some (xs, drop (length name) (name ++ b ∷ rest))) (take_at name (b ∷ rest) (length name) refl)
    ∙ ap (λ (xs : List ℕ). Some (name, xs)) (drop_at name (b ∷ rest) (length name) refl)

-- a value and what stands behind it
value_read : (value rest : List ℕ) (b : ℕ) → list_all is_value_byte value ≡ true → is_value_byte b ≡ false → value_in (value ++ b ∷ rest) ≡ (value, b ∷ rest)
unfolding value_in
value_read value rest b ok far =
    let n : run_len Value (value ++ b ∷ rest) ≡ length value = stop (ends Value) value b rest (all_weaker is_value_byte (λ x. not (ends Value x)) (λ x h. twice (is_value_byte x) h) value ok) (ap not far) in
    ap (λ (m : ℕ). (take m (value ++ b ∷ rest), drop m (value ++ b ∷ rest))) n
    ∙ ap (λ (xs : List ℕ). (xs, drop (length value) (value ++ b ∷ rest))) (take_at value (b ∷ rest) (length value) refl)
    ∙ ap (λ (xs : List ℕ). (value, xs)) (drop_at value (b ∷ rest) (length value) refl)

tag_text : (t : Tag) (rest : List ℕ) → tag_line t ++ rest ≡ 91 ∷ (t.name ++ (32 ∷ 34 ∷ (t.value ++ (34 ∷ 93 ∷ 10 ∷ rest))))
tag_text t rest = simp append_assoc

tag_parts_read : (t : Tag) (rest : List ℕ) → is_tag t ≡ true → tag_in (91 ∷ (t.name ++ (32 ∷ 34 ∷ (t.value ++ (34 ∷ 93 ∷ 10 ∷ rest))))) ≡ Some (t, rest)
unfolding tag_in
tag_parts_read t rest ok =
    let parts = and_parts (is_name t.name) (list_all is_value_byte t.value) ok in
    rw (name_read t.name (34 ∷ (t.value ++ (34 ∷ 93 ∷ 10 ∷ rest))) 32 parts.0 refl, value_read t.value (93 ∷ 10 ∷ rest) 34 parts.1 refl) refl

-- the line of a tag is read as the tag
pub tag_read_back : (t : Tag) (rest : List ℕ) → is_tag t ≡ true → tag_in (tag_line t ++ rest) ≡ Some (t, rest)
tag_read_back t rest ok = ap tag_in (tag_text t rest) ∙ tag_parts_read t rest ok

tag_front : (total : ℕ) (s : Sofar) (xs : List ℕ) → s.began ≡ false → item total s (91 ∷ xs) ≡ tag_item total s (91 ∷ xs)
unfolding item
tag_front total s xs e = cond-true ((91 == 91) && not s.began) (tag_item total s (91 ∷ xs)) (token_item total s (91 ∷ xs)) (ap not e)

tag_found : (total : ℕ) (s : Sofar) (t : Tag) (text rest : List ℕ) → is_start_name t.name ≡ false → tag_in text ≡ Some (t, rest) → tag_item total s text ≡ Ok (with_tag s t, None, rest)
unfolding tag_item
tag_found total s t text rest plain e =
    ap (tag_read total s text) e ∙ cond-false (is_start_name t.name) _ _ plain

-- a written tag is read
pub leads_tag : (total : ℕ) (s : Sofar) (t : Tag) (rest : List ℕ) → s.began ≡ false → is_tag t ≡ true → is_start_name t.name ≡ false → Leads total s (tag_line t ++ rest) (with_tag s t) rest
leads_tag total s t rest b ok plain =
    let parts = t.name ++ (32 ∷ 34 ∷ (t.value ++ (34 ∷ 93 ∷ 10 ∷ rest))) in
    leads_from total s (with_tag s t) (tag_line t ++ rest) (91 ∷ parts) rest (tag_text t rest)
    (leads_item total s (with_tag s t) (91 ∷ parts) rest
    (omega (arith, length-append t.name (32 ∷ 34 ∷ (t.value ++ (34 ∷ 93 ∷ 10 ∷ rest))), length-append t.value (34 ∷ 93 ∷ 10 ∷ rest)))
    (tag_front total s parts b ∙ tag_found total s t (91 ∷ parts) rest plain (tag_parts_read t rest ok)))
