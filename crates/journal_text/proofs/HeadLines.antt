-- The lines of the head: what they say is what they were written from, and what was written is read again.
use Rattle.std.proofs.Common.{◌≡◌, ℕ, ◌*◌, ◌/◌, ◌^◌, ◌<◌, ◌≤◌, true, cond, eqb, leb, ltb, not, ◌&&◌, ◌||◌, List, [], ◌∷◌, ◌++◌, Option, Some, None, Ok, refl, sym, ap, subst, ◌∙◌, append_assoc, arith, ◌⊎◌, inl, inr}
use Rattle.std.specs.Prelude.{codes}
use Rattle.std.specs.Fmt.{decimal}
use Rattle.std.specs.Str.{bytes_eq}
use Rattle.std.proofs.lemmas.Fmt.{decimal_digit}
use Rattle.std.proofs.lemmas.Bool.{and_parts, and_from, or_cases, eqb-true, leb-true, le-leb, ltb-true, lt-ltb}
use Rattle.std.proofs.lemmas.Bool.Decides.{nat_tests}
use Rattle.decimals.specs.Decimals.{number_of}
use Rattle.decimals.proofs.DecimalLemmas.{number_of-decimal}
use Rattle.entries.specs.Ranges.{IsControl}
use Rattle.entries.specs.declared.setup.Control.{Control}
use Rattle.journal_text.specs.declared.head.Place.{Place}
use Rattle.journal_text.specs.declared.head.Place.TheVariants as place
use Rattle.journal_text.specs.declared.head.Head.{Head}
use Rattle.journal_text.specs.Lines.{two, three, four}
use Rattle.journal_text.specs.Text.{control_words, window_words, number_words, version_lines}
use Rattle.journal_text.specs.Forms.{number_form, number_in, is_within, version_form, version_in, control_form, control_fits, control_made, control_in, window_form, window_fits, window_in}
use Rattle.journal_text.specs.Reading.{behind_version, head_in}
use Rattle.journal_text.proofs.Fails.{bind_some, guard_some, some, some_is, line_ok, line_ok_is, formed_ok, judged_ok, judged_again, bind_ok}
use Rattle.journal_text.proofs.FormLemmas.{same_word, word_itself, two_is, three_is, four_is, keyed_four, keyed_three, two_numbers, three_numbers, decimal_is, three_same, four_same}

-- ---- a line of one number

-- the number that a line says has these words, and is in range
pub number_takes : (word : List ℕ) (least most : ℕ) (words : List (List ℕ)) (n : ℕ) → number_in word least most words ≡ Ok n → (words ≡ word ∷ decimal n ∷ []) × (least ≤ n) × (n ≤ most)
unfolding number_in number_form
number_takes word least most words n e =
    let j = judged_ok (number_form word words) (is_within least most) (λ n. n) n e in
    let b = bind_some (two words) (λ w. cond (bytes_eq w.0 word) (number_of w.1) None) j.0 j.1 in
    let g = guard_some (bytes_eq b.0.0 word) (number_of b.0.1) j.0 b.2 in
    let fit = and_parts (leb least j.0) (leb j.0 most) j.2 in
    let words_are : words ≡ word ∷ decimal j.0 ∷ [] = two_is words b.0 b.1 ∙ ap (λ (a : List ℕ). a ∷ b.0.1 ∷ []) (same_word b.0.0 word g.0) ∙ ap (λ (a : List ℕ). word ∷ a ∷ []) (decimal_is b.0.1 j.0 g.1) in
    subst (λ k. (words ≡ word ∷ decimal k ∷ []) × (least ≤ k) × (k ≤ most)) j.3 (words_are, leb-true least j.0 fit.0, leb-true j.0 most fit.1)

-- the words of a number in range say this number
pub number_again : (word : List ℕ) (least most n : ℕ) → n < 10 ^ 10 → least ≤ n → n ≤ most → number_in word least most (word ∷ decimal n ∷ []) ≡ Ok n
unfolding number_in number_form
number_again word least most n small low high =
    judged_again (number_form word (word ∷ decimal n ∷ [])) (is_within least most) (λ n. n) n (rw (word_itself word, number_of-decimal n small) refl) (and_from (leb least n) (leb n most) (le-leb least n low) (le-leb n most high))

-- ---- the time control

-- what the tests of a control say
control_in_range : (n : ℕ × ℕ × ℕ) → control_fits n ≡ true → IsControl (control_made n)
control_in_range n fit =
    let a = and_parts _ (is_within 1000 300000 n.2) fit in
    let b = and_parts _ (not (eqb n.0 0 && eqb n.1 0)) a.0 in
    let c = and_parts (leb n.0 10800) (leb n.1 180) b.0 in
    let d = and_parts (leb 1000 n.2) (leb n.2 300000) a.1 in
    let initial : n.0 ≤ 10800 = leb-true n.0 10800 c.0 in
    let increment : n.1 ≤ 180 = leb-true n.1 180 c.1 in
    record {
      initial_whole = omega arith;
      initial_most = omega arith;
      increment_whole = omega arith;
      increment_most = omega arith;
      some_time = λ no_time zero. absurd (grind (arith, nat_tests, b.1));
      first_least = leb-true 1000 n.2 d.0;
      first_most = leb-true n.2 300000 d.1;
    }

-- a line with the form of a time control has just its words
control_form_is : (words : List (List ℕ)) (n : ℕ × ℕ × ℕ) → control_form words ≡ Some n → words ≡ control_words (control_made n)
unfolding control_form
control_form_is words n e =
    let w = keyed_four (four words) (codes "control") _ n e in
    let m = three_numbers (number_of w.0.1) (number_of w.0.2) (number_of w.0.3) n w.3 in
    four_is words w.0 w.1 ∙ four_same w.0.0 w.0.1 w.0.2 w.0.3 (codes "control") (decimal (n.0 * 1000 / 1000)) (decimal (n.1 * 1000 / 1000)) (decimal n.2) w.2 (decimal_is w.0.1 n.0 m.0 ∙ ap decimal (omega arith)) (decimal_is w.0.2 n.1 m.1 ∙ ap decimal (omega arith)) (decimal_is w.0.3 n.2 m.2)

-- the time control that a line says has these words, and is in range
pub control_takes : (words : List (List ℕ)) (c : Control) → control_in words ≡ Ok c → (words ≡ control_words c) × IsControl c
unfolding control_in
control_takes words c e =
    let j = judged_ok (control_form words) control_fits control_made c e in
    subst (λ (c : Control). (words ≡ control_words c) × IsControl c) j.3 (control_form_is words j.0 j.1, control_in_range j.0 j.2)

-- what is in range passes the tests
control_in_tests : (i n f : ℕ) → i ≤ 10800 → n ≤ 180 → (i ≡ 0 → n ≡ 0 → ⊥) → 1000 ≤ f → f ≤ 300000 → control_fits (i, n, f) ≡ true
control_in_tests i n f initial increment some least most =
    and_from _ _ (and_from _ _ (and_from _ _ (le-leb i 10800 initial) (le-leb n 180 increment)) (grind (arith, nat_tests))) (and_from _ _ (le-leb 1000 f least) (le-leb f 300000 most))

-- whole seconds are whole again
control_again_is : (c : Control) → IsControl c → control_made (c.initial_ms / 1000, c.inc_ms / 1000, c.first_ms) ≡ c
control_again_is c h =
    let initial : c.initial_ms / 1000 * 1000 ≡ c.initial_ms = omega (arith, h.initial_whole) in
    let increment : c.inc_ms / 1000 * 1000 ≡ c.inc_ms = omega (arith, h.increment_whole) in
    rw (initial, increment) refl

-- the words of a time control in range say this time control
pub control_again : (c : Control) → IsControl c → control_in (control_words c) ≡ Ok c
unfolding control_in control_form
control_again c h =
    let i = c.initial_ms / 1000 in
    let n = c.inc_ms / 1000 in
    let initial : i ≤ 10800 = omega (arith, h.initial_most) in
    let increment : n ≤ 180 = omega (arith, h.increment_most) in
    let formed : control_form (control_words c) ≡ Some (i, n, c.first_ms) = rw (number_of-decimal i (omega arith), number_of-decimal n (omega arith), number_of-decimal c.first_ms (omega (arith, h.first_most))) refl in
    judged_again (control_form (control_words c)) control_fits control_made (i, n, c.first_ms) formed (control_in_tests i n c.first_ms initial increment (λ a b. h.some_time (omega (arith, h.initial_whole)) (omega (arith, h.increment_whole))) h.first_least h.first_most) ∙ ap line_ok (control_again_is c h)

-- ---- the window

-- the window that a line says has these words, and is in range
pub window_takes : (words : List (List ℕ)) (n : ℕ × ℕ) → window_in words ≡ Ok n → (words ≡ window_words n.0 n.1) × (n.0 < n.1) × (n.1 ≤ 900000000)
unfolding window_in window_form
window_takes words n e =
    let j = judged_ok (window_form words) window_fits (λ n. n) n e in
    let w = keyed_three (three words) (codes "window") _ j.0 j.1 in
    let m = two_numbers (number_of w.0.1) (number_of w.0.2) j.0 w.3 in
    let fit = and_parts (ltb j.0.0 j.0.1) (leb j.0.1 900000000) j.2 in
    let words_are : words ≡ window_words j.0.0 j.0.1 = three_is words w.0 w.1 ∙ three_same w.0.0 w.0.1 w.0.2 (codes "window") (decimal j.0.0) (decimal j.0.1) w.2 (decimal_is w.0.1 j.0.0 m.0) (decimal_is w.0.2 j.0.1 m.1) in
    subst (λ (n : ℕ × ℕ). (words ≡ window_words n.0 n.1) × (n.0 < n.1) × (n.1 ≤ 900000000)) j.3 (words_are, ltb-true j.0.0 j.0.1 fit.0, leb-true j.0.1 900000000 fit.1)

-- the words of a window in range say this window
pub window_again : (starts ends : ℕ) → starts < ends → ends ≤ 900000000 → window_in (window_words starts ends) ≡ Ok (starts, ends)
unfolding window_in window_form
window_again starts ends before most =
    let formed : window_form (window_words starts ends) ≡ Some (starts, ends) = rw (number_of-decimal starts (omega arith), number_of-decimal ends (omega arith)) refl in
    judged_again (window_form (window_words starts ends)) window_fits (λ n. n) (starts, ends) formed (and_from (ltb starts ends) (leb ends 900000000) (lt-ltb starts ends before) (le-leb ends 900000000 most))

-- ---- the version

-- the first line is that of version 1 or of version 2
version_takes : (words : List (List ℕ)) (version : ℕ) → version_in words ≡ Ok version → (words ≡ codes "arena" ∷ decimal version ∷ []) × ((version ≡ 1) ⊎ (version ≡ 2))
unfolding version_in version_form number_form
version_takes words version e =
    let f = formed_ok (version_form words) line_ok version e in
    let b = bind_some (number_form (codes "arena") words) _ f.0 f.1 in
    let g = guard_some (eqb b.0 1 || eqb b.0 2) (some b.0) f.0 b.2 in
    let t = bind_some (two words) (λ w. cond (bytes_eq w.0 (codes "arena")) (number_of w.1) None) b.0 b.1 in
    let k = guard_some (bytes_eq t.0.0 (codes "arena")) (number_of t.0.1) b.0 t.2 in
    let is : b.0 ≡ version = some_is b.0 f.0 g.1 ∙ line_ok_is f.0 version f.2 in
    let words_are : words ≡ codes "arena" ∷ decimal b.0 ∷ [] = two_is words t.0 t.1 ∙ ap (λ (a : List ℕ). a ∷ t.0.1 ∷ []) (same_word t.0.0 (codes "arena") k.0) ∙ ap (λ (a : List ℕ). codes "arena" ∷ a ∷ []) (decimal_is t.0.1 b.0 k.1) in
    let one : (b.0 ≡ 1) ⊎ (b.0 ≡ 2) = elim (or_cases (eqb b.0 1) (eqb b.0 2) g.0) [
      | inl first ↦ inl (eqb-true b.0 1 first)
      | inr second ↦ inr (eqb-true b.0 2 second)
    ] in
    subst (λ (v : ℕ). (words ≡ codes "arena" ∷ decimal v ∷ []) × ((v ≡ 1) ⊎ (v ≡ 2))) is (words_are, one)

-- ---- the head so far

-- a version, and the rule that it is under
pub data IsVersion (h : Head) : Type 0 where
  One : h.version ≡ 1 → h.rule ≡ 1 → IsVersion h
  Two : h.version ≡ 2 → 1 ≤ h.rule → h.rule ≤ 2 → IsVersion h

-- what the lines of the head before this one have said is in range
abbrev pub IsHead : Place → Head → Type 0
IsHead place.Version h = h.rule ≡ 1
IsHead place.Rule h = h.version ≡ 2
IsHead place.Control h = IsVersion h
IsHead place.Window h = IsVersion h × IsControl h.control
IsHead place.Wave h = IsVersion h × IsControl h.control × (h.starts < h.ends) × (h.ends ≤ 900000000)
IsHead place.Leaders h = IsVersion h × IsControl h.control × (h.starts < h.ends) × (h.ends ≤ 900000000) × (100 ≤ h.wave_ms) × (h.wave_ms ≤ 600000)

-- a whole head in range
pub record IsWholeHead (h : Head) : Type 0 where
  pub version : IsVersion h
  pub timed : IsControl h.control
  pub opens_before_end : h.starts < h.ends
  pub ends_most : h.ends ≤ 900000000
  pub wave_least : 100 ≤ h.wave_ms
  pub wave_most : h.wave_ms ≤ 600000
  pub leaders_least : 1 ≤ h.leaders
  pub leaders_most : h.leaders ≤ 20

-- the lines of the head before this one
abbrev pub head_said : Place → Head → List (List (List ℕ))
head_said place.Version h = []
head_said place.Rule h = (codes "arena" ∷ codes "2" ∷ []) ∷ []
head_said place.Control h = version_lines h.version h.rule
head_said place.Window h = version_lines h.version h.rule ++ control_words h.control ∷ []
head_said place.Wave h = version_lines h.version h.rule ++ control_words h.control ∷ window_words h.starts h.ends ∷ []
head_said place.Leaders h = version_lines h.version h.rule ++ control_words h.control ∷ window_words h.starts h.ends ∷ number_words (codes "wave") h.wave_ms ∷ []

-- all lines of the head
abbrev pub whole_said : Head → List (List (List ℕ))
whole_said h = version_lines h.version h.rule ++ control_words h.control ∷ window_words h.starts h.ends ∷ number_words (codes "wave") h.wave_ms ∷ number_words (codes "leaders") h.leaders ∷ []

-- what the lines of the head have said behind one more
abbrev pub IsHeadBehind : Option Place × Head → Type 0
IsHeadBehind (None, h) = IsWholeHead h
IsHeadBehind (Some place, h) = IsHead place h

-- the lines of the head so far
abbrev pub behind_said : Option Place × Head → List (List (List ℕ))
behind_said (None, h) = whole_said h
behind_said (Some place, h) = head_said place h

-- heads of one version and rule
same_version : (h k : Head) → IsVersion h → k.version ≡ h.version → k.rule ≡ h.rule → IsVersion k
same_version h k (One v r) e f = One (e ∙ v) (f ∙ r)
same_version h k (Two v least most) e f = Two (e ∙ v) (omega (arith, least, f)) (omega (arith, most, f))

-- no further line of the head
abbrev no_place : Option Place
no_place = None

-- one line more of the head was taken
abbrev Takes : Place → Head → List (List ℕ) → Option Place × Head → Type 0
Takes place h words r = (behind_said r ≡ head_said place h ++ words ∷ []) × IsHeadBehind r

-- a line behind others
one_behind : (said more : List (List (List ℕ))) (words line : List (List ℕ)) → words ≡ line → said ++ (more ++ line ∷ []) ≡ (said ++ more) ++ words ∷ []
one_behind said more words line is = rw is (sym (append_assoc said more (line ∷ [])))

-- the version was taken
version_taken : (h : Head) (words : List (List ℕ)) (version : ℕ) → h.rule ≡ 1 → words ≡ codes "arena" ∷ decimal version ∷ [] → (version ≡ 1) ⊎ (version ≡ 2) → Takes place.Version h words (Some (behind_version version), record h { version = version })
version_taken h words version ruled are (inl first) = subst (λ (v : ℕ). Takes place.Version h words (Some (behind_version v), record h { version = v })) (sym first) (ap (λ (l : List (List ℕ)). l ∷ []) (sym (are ∙ ap (λ (v : ℕ). codes "arena" ∷ decimal v ∷ []) first ∙ ap (λ (w : List ℕ). codes "arena" ∷ w ∷ []) (decimal_digit 1 (omega arith)))), One refl ruled)
version_taken h words version ruled are (inr second) = subst (λ (v : ℕ). Takes place.Version h words (Some (behind_version v), record h { version = v })) (sym second) (ap (λ (l : List (List ℕ)). l ∷ []) (sym (are ∙ ap (λ (v : ℕ). codes "arena" ∷ decimal v ∷ []) second ∙ ap (λ (w : List ℕ). codes "arena" ∷ w ∷ []) (decimal_digit 2 (omega arith)))), refl)

-- what is read of a line of the head was written so, and is in range
pub head_takes : (p : Place) (h : Head) (words : List (List ℕ)) (r : Option Place × Head) → IsHead p h → head_in p h words ≡ Ok r → Takes p h words r
unfolding head_in
head_takes place.Version h words r good e =
    let b = bind_ok (version_in words) (λ version. line_ok (Some (behind_version version), record h { version = version })) r e in
    let t = version_takes words b.0 b.1 in
    subst (Takes place.Version h words) (line_ok_is _ r b.2) (version_taken h words b.0 good t.0 t.1)
head_takes place.Rule h words r good e =
    let b = bind_ok (number_in (codes "rule") 1 2 words) (λ rule. line_ok (some place.Control, record h { rule = rule })) r e in
    let t = number_takes (codes "rule") 1 2 words b.0 b.1 in
    subst (Takes place.Rule h words) (line_ok_is _ r b.2) (ap (λ (v : ℕ). version_lines v b.0) good ∙ ap (λ (l : List (List ℕ)). (codes "arena" ∷ codes "2" ∷ []) ∷ l ∷ []) (sym t.0), Two good t.1 t.2)
head_takes place.Control h words r good e =
    let b = bind_ok (control_in words) (λ control. line_ok (some place.Window, record h { control = control })) r e in
    let t = control_takes words b.0 b.1 in
    subst (Takes place.Control h words) (line_ok_is _ r b.2) (ap (λ (l : List (List ℕ)). version_lines h.version h.rule ++ l ∷ []) (sym t.0), (same_version h _ good refl refl, t.1))
head_takes place.Window h words r good e =
    let b = bind_ok (window_in words) (λ (w : ℕ × ℕ). line_ok (some place.Wave, record h { starts = w.0; ends = w.1 })) r e in
    let t = window_takes words b.0 b.1 in
    subst (Takes place.Window h words) (line_ok_is _ r b.2) (one_behind (version_lines h.version h.rule) (control_words h.control ∷ []) words (window_words b.0.0 b.0.1) t.0, (same_version h _ good.0 refl refl, good.1, t.1, t.2))
head_takes place.Wave h words r good e =
    let b = bind_ok (number_in (codes "wave") 100 600000 words) (λ wave. line_ok (some place.Leaders, record h { wave_ms = wave })) r e in
    let t = number_takes (codes "wave") 100 600000 words b.0 b.1 in
    subst (Takes place.Wave h words) (line_ok_is _ r b.2) (one_behind (version_lines h.version h.rule) (control_words h.control ∷ window_words h.starts h.ends ∷ []) words (number_words (codes "wave") b.0) t.0, (same_version h _ good.0 refl refl, good.1, good.2, good.3, t.1, t.2))
head_takes place.Leaders h words r good e =
    let b = bind_ok (number_in (codes "leaders") 1 20 words) (λ leaders. line_ok (no_place, record h { leaders = leaders })) r e in
    let t = number_takes (codes "leaders") 1 20 words b.0 b.1 in
    subst (Takes place.Leaders h words) (line_ok_is _ r b.2) (
      one_behind (version_lines h.version h.rule) (control_words h.control ∷ window_words h.starts h.ends ∷ number_words (codes "wave") h.wave_ms ∷ []) words (number_words (codes "leaders") b.0) t.0,
      record { version = same_version h _ good.0 refl refl; timed = good.1; opens_before_end = good.2; ends_most = good.3; wave_least = good.4; wave_most = good.5; leaders_least = t.1; leaders_most = t.2 },
    )
