-- What a pass did while it asked some requests, and one more.
use Rattle.std.proofs.Common.{◌≡◌, ℕ, ◌+◌, ◌-◌, ◌<◌, ◌≤◌, Bool, true, false, List, [], ◌∷◌, ◌++◌, length, take, map, Option, Some, None, refl, sym, ap, ◌∙◌, subst, arith, append_assoc, length-append}
use Rattle.std.specs.Prelude.{filter, flat_map, slice_get}
use Rattle.std.proofs.lemmas.Grind.{flat_map-append}
use Rattle.std.proofs.lemmas.List.{take-append-le, append-nil, map-append}
use Rattle.std.proofs.lemmas.List.Elements.{filter-append}
use Rattle.std.proofs.lemmas.Option.{slice_get_within}
use mathlib.Core.List.{IsPrefix}
use Rattle.conn.specs.Moments.{moments_after}
use Rattle.entries.specs.declared.journal.Entry.{Entry}
use Rattle.entries.specs.declared.setup.Setup.{Setup}
use Rattle.http_lines.specs.declared.request.RequestHead.{RequestHead}
use Rattle.arena_history.specs.Waves.{history}
use Rattle.arena_history.proofs.Lists.{slice_get-append_left}
use Rattle.arena_rules.specs.declared.command.Command.{Command}
use Rattle.arena_rules.specs.declared.query.Reply.{Reply}
use Rattle.arena_rules.specs.Answers.{answer_to, reply_to}
use Rattle.arena_rules.specs.Verdicts.{verdict}
use Rattle.turnstile.specs.Passes.{own_of}
use Rattle.arena_lock.specs.Turns.{Pass, pass_of}
use Rattle.host.specs.Answers.{IsStamp, IsTurn, IsAccepted, Comes}
use Rattle.host.specs.Asked.{Asked, AllCome, GaveOneATurn, moments_behind, moments_left}
use Rattle.host.specs.Exchanges.{Deed, Exchange, in_error, accepted, refused, told, untold, starved, takes_turn, lengths, entry_by, entries_by}

-- a turn stays what it was while a history grows
turn_stays : (moments : Option (List ℕ)) (h more : List Entry) (m n t : ℕ) → IsTurn moments h m n t → IsTurn moments (h ++ more) m n t
turn_stays moments h more m n t p =
    let long = length-append h more in
    let within : n ≤ length h = p.within in
    record {
      grows = p.grows;
      within = omega arith;
      stamp = subst (λ es. IsStamp moments es t) (sym (take-append-le n h more within)) p.stamp;
    }

accepted_stays : (s : Setup) (moments : Option (List ℕ)) (h more : List Entry) (i m n t : ℕ) (c : Command) (reply : Reply)
    → IsAccepted s moments h i m n t c reply → IsAccepted s moments (h ++ more) i m n t c reply
accepted_stays s moments h more i m n t c reply p =
    let below : n - 1 < length h = slice_get_within h (n - 1) _ p.entry in
    let same : take (n - 1) (h ++ more) ≡ take (n - 1) h = take-append-le (n - 1) h more (omega arith) in
    record {
      grows = p.grows;
      entry = slice_get-append_left h more (n - 1) below ∙ p.entry;
      stamp = subst (λ es. IsStamp moments es t) (sym same) p.stamp;
      not_refused = subst (λ es. verdict s (history s es) t c ≡ None) (sym same) p.not_refused;
      replied = subst (λ es. reply_to s (history s es) t i c ≡ Some reply) (sym same) p.replied;
    }

-- so what a request comes to stays
comes_stays : (s : Setup) (keys : List (List ℕ)) (moments : Option (List ℕ)) (h more : List Entry) (i m n : ℕ) (r : RequestHead) (d : Deed)
    → Comes s keys moments h i m n r d → Comes s keys moments (h ++ more) i m n r d
comes_stays s keys moments h more i m n r (in_error e) p = p
comes_stays s keys moments h more i m n r (accepted t c reply) p = (p.0, accepted_stays s moments h more i m n t c reply p.1)
comes_stays s keys moments h more i m n r (refused t c refusal) p =
    (p.0, turn_stays moments h more m n t p.1, subst (λ es. verdict s (history s es) t c ≡ Some refusal) (sym (take-append-le n h more p.1.within)) p.2)
comes_stays s keys moments h more i m n r (told t q answer) p =
    (p.0, turn_stays moments h more m n t p.1, subst (λ es. answer_to s (history s es) t q ≡ Some answer) (sym (take-append-le n h more p.1.within)) p.2)
comes_stays s keys moments h more i m n r (untold t q) p =
    (p.0, turn_stays moments h more m n t p.1, subst (λ es. answer_to s (history s es) t q ≡ None) (sym (take-append-le n h more p.1.within)) p.2)
comes_stays s keys moments h more i m n r (starved t) p = (p.0, turn_stays moments h more m n t p.1)

-- what is said with a clock that tells its moments holds with one that does not
stamp_untold : (moments : Option (List ℕ)) (es : List Entry) (t : ℕ) → IsStamp moments es t → IsStamp None es t
stamp_untold moments es t p = record { not_before = p.not_before; most = p.most; told = tt }

turn_untold : (moments : Option (List ℕ)) (h : List Entry) (m n t : ℕ) → IsTurn moments h m n t → IsTurn None h m n t
turn_untold moments h m n t p = record { grows = p.grows; within = p.within; stamp = stamp_untold moments (take n h) t p.stamp }

comes_untold : (s : Setup) (keys : List (List ℕ)) (moments : Option (List ℕ)) (h : List Entry) (i m n : ℕ) (r : RequestHead) (d : Deed)
    → Comes s keys moments h i m n r d → Comes s keys None h i m n r d
comes_untold s keys moments h i m n r (in_error e) p = p
comes_untold s keys moments h i m n r (accepted t c reply) p =
    let a = p.1 in
    (p.0, record { grows = a.grows; entry = a.entry; stamp = stamp_untold moments (take (n - 1) h) t a.stamp; not_refused = a.not_refused; replied = a.replied })
comes_untold s keys moments h i m n r (refused t c refusal) p = (p.0, turn_untold moments h m n t p.1, p.2)
comes_untold s keys moments h i m n r (told t q answer) p = (p.0, turn_untold moments h m n t p.1, p.2)
comes_untold s keys moments h i m n r (untold t q) p = (p.0, turn_untold moments h m n t p.1, p.2)
comes_untold s keys moments h i m n r (starved t) p = (p.0, turn_untold moments h m n t p.1)

-- the clock after one request more
left_behind : (xs : List Exchange) (x : Exchange) (moments : Option (List ℕ)) → moments_left (xs ++ x ∷ []) moments ≡ moments_behind x.deed (moments_left xs moments)
left_behind [] x moments = refl
left_behind (y ∷ xs) x moments = left_behind xs x (moments_behind y.deed moments)

behind_untold : (d : Deed) → moments_behind d None ≡ None
behind_untold (in_error e) = refl
behind_untold (accepted t c reply) = refl
behind_untold (refused t c refusal) = refl
behind_untold (told t q answer) = refl
behind_untold (untold t q) = refl
behind_untold (starved t) = refl

left_untold : (xs : List Exchange) → moments_left xs None ≡ None
left_untold [] = refl
left_untold (x ∷ xs) = ap (moments_left xs) (behind_untold x.deed) ∙ left_untold xs

-- one more comes to what it does
come_one_more : (s : Setup) (keys : List (List ℕ)) (moments : Option (List ℕ)) (h more : List Entry) (i m : ℕ) (xs : List Exchange) (x : Exchange)
    → AllCome s keys moments h i m xs
    → Comes s keys (moments_left xs moments) (h ++ more) i (length h) x.seen x.request x.deed
    → x.seen ≡ length (h ++ more)
    → AllCome s keys moments (h ++ more) i m (xs ++ x ∷ [])
come_one_more s keys moments h more i m [] x p q e = (subst (λ k. Comes s keys moments (h ++ more) i k x.seen x.request x.deed) (sym p) q, e)
come_one_more s keys moments h more i m (y ∷ xs) x p q e =
    (comes_stays s keys moments h more i m y.seen y.request y.deed p.0, come_one_more s keys (moments_behind y.deed moments) h more i y.seen xs x p.1 q e)

-- the next request's moments are those that the clock told at first, less those that it gave
comes_by : (s : Setup) (keys : List (List ℕ)) (start mid : Option (List ℕ)) (h : List Entry) (i m : ℕ) (xs : List Exchange) (x : Exchange)
    → GaveOneATurn start mid xs
    → Comes s keys mid h i m x.seen x.request x.deed
    → Comes s keys (moments_left xs start) h i m x.seen x.request x.deed
comes_by s keys None mid h i m xs x g p = subst (λ k. Comes s keys k h i m x.seen x.request x.deed) (sym (left_untold xs)) (comes_untold s keys mid h i m x.seen x.request x.deed p)
comes_by s keys (Some moments) mid h i m xs x g p = subst (λ k. Comes s keys k h i m x.seen x.request x.deed) g p

behind_told : (d : Deed) (moments : List ℕ) → (after : List ℕ) × (moments_behind d (Some moments) ≡ Some after)
behind_told (in_error e) moments = (moments, refl)
behind_told (accepted t c reply) moments = (moments_after moments, refl)
behind_told (refused t c refusal) moments = (moments_after moments, refl)
behind_told (told t q answer) moments = (moments_after moments, refl)
behind_told (untold t q) moments = (moments_after moments, refl)
behind_told (starved t) moments = (moments_after moments, refl)

left_told : (xs : List Exchange) (moments : List ℕ) → (after : List ℕ) × (moments_left xs (Some moments) ≡ Some after)
left_told [] moments = (moments, refl)
left_told (x ∷ xs) moments =
    let b = behind_told x.deed moments in
    let r = left_told xs b.0 in
    (r.0, ap (moments_left xs) b.1 ∙ r.1)

gave_one_more : (start mid after : Option (List ℕ)) (xs : List Exchange) (x : Exchange)
    → GaveOneATurn start mid xs → GaveOneATurn mid after (x ∷ []) → GaveOneATurn start after (xs ++ x ∷ [])
gave_one_more None mid after xs x p q = tt
gave_one_more (Some moments) mid after xs x p q =
    let t = left_told xs moments in
    let gave : after ≡ moments_behind x.deed (Some t.0) = subst (λ (z : Option (List ℕ)). GaveOneATurn z after (x ∷ [])) (p ∙ t.1) q in
    gave ∙ (ap (moments_behind x.deed) (sym t.1) ∙ sym (left_behind xs x (Some moments)))

lengths_one_more : (xs : List Exchange) (x : Exchange) → lengths (xs ++ x ∷ []) ≡ lengths xs ++ lengths (x ∷ [])
lengths_one_more xs x =
    ap (map (λ (y : Exchange). y.seen)) (filter-append (λ (y : Exchange). takes_turn y.deed) xs (x ∷ []))
    ∙ map-append (λ (y : Exchange). y.seen) (filter (λ (y : Exchange). takes_turn y.deed) xs) (filter (λ (y : Exchange). takes_turn y.deed) (x ∷ []))

gave_nothing : (moments : Option (List ℕ)) → GaveOneATurn moments moments []
gave_nothing None = tt
gave_nothing (Some moments) = refl

-- nothing was asked yet
pub nothing_asked : (s : Setup) (keys : List (List ℕ)) (moments : Option (List ℕ)) (p : Pass) → Asked s keys moments moments p p []
nothing_asked s keys moments p = record {
  comes = refl;
  grown = ([], append-nil p.seen);
  turns = λ j. record { of = p.of; number = p.number; seen = p.seen; turns = sym (append-nil p.turns) j; has_turn = p.has_turn };
  own = sym (append-nil _);
  alone = λ _. sym (append-nil p.seen);
  clock = gave_nothing moments;
}

-- one request more was asked
pub asked_one_more : (s : Setup) (keys : List (List ℕ)) (first second third : Option (List ℕ)) (old mid new : Pass) (xs : List Exchange) (x : Exchange)
    → Asked s keys first second old mid xs
    → Asked s keys second third mid new (x ∷ [])
    → Asked s keys first third old new (xs ++ x ∷ [])
asked_one_more s keys first second third old mid new xs x p q =
    let more = q.grown.0 in
    let grown : mid.seen ++ more ≡ new.seen = q.grown.1 in
    let number : mid.number ≡ old.number = ap (λ (z : Pass). z.number) p.turns in
    let same_lock : mid.of ≡ old.of = ap (λ (z : Pass). z.of) p.turns in
    let comes : Comes s keys second (mid.seen ++ more) old.number (length mid.seen) x.seen x.request x.deed =
    subst (λ (z : List Entry × ℕ). Comes s keys second z.0 z.1 (length mid.seen) x.seen x.request x.deed) (λ j. (sym grown j, number j)) q.comes.0 in
    let whole : x.seen ≡ length (mid.seen ++ more) = q.comes.1 ∙ ap length (sym grown) in
    let turns : new.turns ≡ old.turns ++ lengths (xs ++ x ∷ []) =
    ap (λ (z : Pass). z.turns) q.turns ∙ (ap (λ (z : Pass). z.turns ++ lengths (x ∷ [])) p.turns
    ∙ (append_assoc old.turns (lengths xs) (lengths (x ∷ [])) ∙ ap (λ l. old.turns ++ l) (sym (lengths_one_more xs x)))) in
    let entries : entries_by old.number xs ++ entries_by mid.number (x ∷ []) ≡ entries_by old.number (xs ++ x ∷ []) =
    ap (λ (z : ℕ). entries_by old.number xs ++ entries_by z (x ∷ [])) number
    ∙ sym (flat_map-append (λ (y : Exchange). entry_by old.number y.deed) xs (x ∷ [])) in
    record {
      comes = subst (λ (z : List Entry). AllCome s keys first z old.number (length old.seen) (xs ++ x ∷ [])) grown
          (come_one_more s keys first mid.seen more old.number (length old.seen) xs x p.comes
          (comes_by s keys first second (mid.seen ++ more) old.number (length mid.seen) xs x p.clock comes) whole);
      grown = (p.grown.0 ++ more, sym (append_assoc old.seen p.grown.0 more) ∙ (ap (λ l. l ++ more) p.grown.1 ∙ grown));
      turns = λ j. record {
        of = (ap (λ (z : Pass). z.of) q.turns ∙ same_lock) j;
        number = (ap (λ (z : Pass). z.number) q.turns ∙ number) j;
        seen = new.seen;
        turns = turns j;
        has_turn = (ap (λ (z : Pass). z.has_turn) q.turns ∙ ap (λ (z : Pass). z.has_turn) p.turns) j;
      };
      own = q.own ∙ (ap (λ l. l ++ entries_by mid.number (x ∷ [])) p.own
          ∙ (append_assoc (own_of pass_of old) (entries_by old.number xs) (entries_by mid.number (x ∷ [])) ∙ ap (λ (l : List Entry). own_of pass_of old ++ l) entries));
      alone = λ one. q.alone (ap (λ (z : _). z.passes) same_lock ∙ one) ∙ (ap (λ l. l ++ entries_by mid.number (x ∷ [])) (p.alone one)
          ∙ (append_assoc old.seen (entries_by old.number xs) (entries_by mid.number (x ∷ [])) ∙ ap (λ (l : List Entry). old.seen ++ l) entries));
      clock = gave_one_more first second third xs x p.clock q.clock;
    }
