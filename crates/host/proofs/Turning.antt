-- What one turn of the lobby makes of a request.
use Rattle.std.proofs.Common.{◌≡◌, ℕ, ◌+◌, ◌-◌, ◌<◌, ◌≤◌, true, false, List, [], ◌∷◌, ◌++◌, length, take, drop, Option, Some, None, Result, Ok, Err, refl, sym, ap, ◌∙◌, subst, arith, append_assoc, length-append}
use Rattle.std.specs.Prelude.{◌≢◌, All, slice_get}
use Rattle.std.proofs.lemmas.List.{append-nil}
use Rattle.std.proofs.lemmas.List.Elements.{All-drop}
use Rattle.std.proofs.Math.Seq.{take-append_seam, drop-append_seam, take-length}
use Rattle.conn.specs.Moments.{Ticks, first_moment, moments_after}
use Rattle.entries.specs.declared.journal.Entry.{Entry}
use Rattle.entries.specs.declared.setup.Setup.{Setup}
use Rattle.http_lines.specs.declared.request.RequestHead.{RequestHead}
use Rattle.arena_history.proofs.Lists.{slice_get-push}
use Rattle.arena_history.specs.Stamps.{stamp_of}
use Rattle.arena_history.specs.Waves.{history}
use Rattle.arena_rules.specs.declared.command.Command.{Command}
use Rattle.arena_rules.specs.declared.query.Answer.{Answer}
use Rattle.arena_rules.specs.declared.query.Query.{Query}
use Rattle.arena_rules.specs.declared.query.Reply.{Reply}
use Rattle.arena_rules.specs.Answers.{answer_to, reply_to}
use Rattle.arena_rules.specs.Commands.{entry_of}
use Rattle.arena_rules.specs.Legal.{IsLegal}
use Rattle.arena_rules.specs.LegalLaws.{BeginningsAreLegal, StampsMayStand}
use Rattle.arena_rules.specs.Verdicts.{verdict}
use Rattle.arena_core.specs.declared.fault.ApplyFault.{ApplyFault}
use Rattle.arena_core.specs.declared.fault.ApplyFault.TheVariants as apply_fault
use Rattle.arena_core.specs.declared.fault.QueryFault.{QueryFault}
use Rattle.arena_core.specs.declared.fault.QueryFault.TheVariants as query_fault
use Rattle.arena_core.specs.Answers.{AnswersAt, Tells}
use Rattle.turnstile.specs.Histories.{OthersAdded}
use Rattle.turnstile.specs.Passes.{own_of}
use Rattle.api.specs.declared.call.Call.TheVariants as call
use Rattle.api.specs.declared.error.ApiError.{ApiError}
use Rattle.api.specs.Calls.{call_of}
use Rattle.arena_lock.specs.Turns.{Pass, Turned, Commanded, pass_of}
use Rattle.arena_lock.specs.Turns as lock
use Rattle.host.specs.Answers.{IsStamp, IsTurn, IsAccepted, Comes, TellsStamp}
use Rattle.host.specs.Asked.{Asked, GaveOneATurn, moments_behind}
use Rattle.host.specs.Exchanges.{Deed, Exchange, in_error, accepted, refused, told, untold, starved, takes_turn, lengths, entry_by, entries_by}
use Rattle.host.specs.Steps.{LawsOfTurns, deed_of_answer, deed_of_reply, exchange}

one_length : (r : RequestHead) (d : Deed) (new : Pass) → takes_turn d ≡ true → lengths (exchange r d new ∷ []) ≡ length new.seen ∷ []
one_length r (in_error e) new turn = absurd (cc)
one_length r (accepted t c reply) new turn = refl
one_length r (refused t c refusal) new turn = refl
one_length r (told t q answer) new turn = refl
one_length r (untold t q) new turn = refl
one_length r (starved t) new turn = refl

one_tick : (d : Deed) (moments : List ℕ) → takes_turn d ≡ true → moments_behind d (Some moments) ≡ Some (moments_after moments)
one_tick (in_error e) moments turn = absurd (cc)
one_tick (accepted t c reply) moments turn = refl
one_tick (refused t c refusal) moments turn = refl
one_tick (told t q answer) moments turn = refl
one_tick (untold t q) moments turn = refl
one_tick (starved t) moments turn = refl

gave_one : (moments moments' : Option (List ℕ)) (now : ℕ) (r : RequestHead) (d : Deed) (new : Pass) → takes_turn d ≡ true → Ticks moments moments' now
    → GaveOneATurn moments moments' (exchange r d new ∷ [])
gave_one None moments' now r d new turn ticks = tt
gave_one (Some moments) moments' now r d new turn ticks = ticks.1 ∙ sym (one_tick d moments turn)

-- with one pass nobody else adds an entry
nobody_else : (i passes : ℕ) (seen found rest : List Entry) → passes ≡ 1 → i < passes → found ≡ seen ++ rest
    → All (λ (e : Entry). pass_of e ≢ i) rest → All (λ (e : Entry). e.pass < passes) found → rest ≡ []
nobody_else i passes seen found [] one lt is others all = refl
nobody_else i passes seen found (e ∷ rest) one lt is others all =
    let behind = All-drop (λ (x : Entry). x.pass < passes) (length seen) found all in
    let here : drop (length seen) found ≡ e ∷ rest = ap (drop (length seen)) is ∙ drop-append_seam seen (e ∷ rest) in
    let mine : e.pass < passes = subst (All (λ (x : Entry). x.pass < passes)) here behind 0 e (omega arith) in
    let other : pass_of e ≢ i = others 0 e (omega arith) in
    absurd (other (omega arith))

found_is : (old new : Pass) (found left : List Entry) → Turned old new found left → old.of.passes ≡ 1 → found ≡ old.seen
found_is old new found left p one =
    let rest = p.goes_on.rest in
    p.goes_on.goes_on ∙ (ap (λ l. old.seen ++ l) (nobody_else old.number old.of.passes old.seen found rest one p.number p.goes_on.goes_on p.goes_on.by_others p.numbers) ∙ append-nil old.seen)

-- a turn that adds the entry that a request comes to
asked_in_turn : (s : Setup) (keys : List (List ℕ)) (moments moments' : Option (List ℕ)) (now : ℕ) (old new : Pass) (r : RequestHead) (d : Deed) (found left : List Entry)
    → Turned old new found left → left ≡ found ++ entry_by old.number d → takes_turn d ≡ true → Ticks moments moments' now
    → Comes s keys moments left old.number (length old.seen) (length left) r d
    → Asked s keys moments moments' old new (exchange r d new ∷ [])
asked_in_turn s keys moments moments' now old new r d found left p grown turn ticks comes =
    let added = entry_by old.number d in
    let seen : new.seen ≡ left = ap (λ (z : Pass). z.seen) p.after in
    let rest = p.goes_on.rest in
    let whole : old.seen ++ (rest ++ added) ≡ new.seen =
    sym (append_assoc old.seen rest added) ∙ (ap (λ l. l ++ added) (sym p.goes_on.goes_on) ∙ (sym grown ∙ sym seen)) in
    let length_is : length left ∷ [] ≡ lengths (exchange r d new ∷ []) = ap (λ l. length l ∷ []) (sym seen) ∙ sym (one_length r d new turn) in
    let entries : added ≡ entries_by old.number (exchange r d new ∷ []) = sym (append-nil added) in
    record {
      comes = (subst (λ h. Comes s keys moments h old.number (length old.seen) (length h) r d) (sym seen) comes, refl);
      grown = (rest ++ added, whole);
      turns = λ j. record {
        of = ap (λ (z : Pass). z.of) p.after j;
        number = ap (λ (z : Pass). z.number) p.after j;
        seen = new.seen;
        turns = (ap (λ (z : Pass). z.turns) p.after ∙ ap (λ l. old.turns ++ l) length_is) j;
        has_turn = ap (λ (z : Pass). z.has_turn) p.after j;
      };
      own = p.own added grown ∙ ap (λ l. own_of pass_of old ++ l) entries;
      alone = λ one. seen ∙ (grown ∙ (ap (λ l. l ++ added) (found_is old new found left p one) ∙ ap (λ l. old.seen ++ l) entries));
      clock = gave_one moments moments' now r d new turn ticks;
    }

-- the stamp of a turn
tells_stamp : (moments moments' : Option (List ℕ)) (now : ℕ) (es : List Entry) → Ticks moments moments' now → TellsStamp moments es (stamp_of es now)
tells_stamp None moments' now es ticks = tt
tells_stamp (Some moments) moments' now es ticks = ap (stamp_of es) ticks.0

stamp_is : (s : Setup) (moments moments' : Option (List ℕ)) (now : ℕ) (es : List Entry) → StampsMayStand → IsLegal s es → Ticks moments moments' now
    → IsStamp moments es (stamp_of es now)
stamp_is s moments moments' now es law legal ticks =
    let stands = law s es now legal in
    record { not_before = stands.0; most = stands.1; told = tells_stamp moments moments' now es ticks }

turn_is : (moments : Option (List ℕ)) (old : Pass) (found rest : List Entry) (t : ℕ) → found ≡ old.seen ++ rest → IsStamp moments found t
    → IsTurn moments found (length old.seen) (length found) t
turn_is moments old found rest t goes stamp =
    let long : length found ≡ length old.seen + length rest = ap length goes ∙ length-append old.seen rest in
    record { grows = omega arith; within = omega arith; stamp = subst (λ es. IsStamp moments es t) (sym (take-length found)) stamp }

accepted_is : (s : Setup) (moments : Option (List ℕ)) (found : List Entry) (i m t : ℕ) (c : Command) (reply : Reply) → m ≤ length found → IsStamp moments found t
    → verdict s (history s found) t c ≡ None → reply_to s (history s found) t i c ≡ Some reply
    → IsAccepted s moments (found ++ entry_of t i c ∷ []) i m (length (found ++ entry_of t i c ∷ [])) t c reply
accepted_is s moments found i m t c reply le stamp verdict_is reply_is =
    let e = entry_of t i c in
    let all = found ++ e ∷ [] in
    let long : length all ≡ length found + 1 = length-append found (e ∷ []) in
    let place : length found ≡ length all - 1 = omega arith in
    let before : found ≡ take (length all - 1) all = sym (take-append_seam found (e ∷ [])) ∙ ap (λ k. take k all) place in
    record {
      grows = omega arith;
      entry = ap (slice_get all) (sym place) ∙ slice_get-push found e;
      stamp = subst (λ es. IsStamp moments es t) before stamp;
      not_refused = subst (λ es. verdict s (history s es) t c ≡ None) before verdict_is;
      replied = subst (λ es. reply_to s (history s es) t i c ≡ Some reply) before reply_is;
    }

module _ (laws : LawsOfTurns) (s : Setup) (keys : List (List ℕ)) (moments moments' : Option (List ℕ)) (now : ℕ) (old new : Pass) (r : RequestHead) where
  legal_found : (found left added : List Entry) → IsLegal s left → left ≡ found ++ added → IsLegal s found
  legal_found found left added legal grown =
      subst (IsLegal s) (ap (take (length found)) grown ∙ take-append_seam found added) (laws.beginnings s left (length found) legal)

  longer : (found rest : List Entry) → found ≡ old.seen ++ rest → length old.seen ≤ length found
  longer found rest goes =
      let long : length found ≡ length old.seen + length rest = ap length goes ∙ length-append old.seen rest in
      omega arith

  command_came : (c : Command) (found left : List Entry) (result : Result Reply ApplyFault) → call_of keys r ≡ Ok (call.Command c) → IsLegal s left
      → Ticks moments moments' now → Turned old new found left → AnswersAt s found old.number (stamp_of found now) c left result
      → Asked s keys moments moments' old new (exchange r (deed_of_reply (stamp_of found now) c result) new ∷ [])
  command_came c found left (Ok reply) asks legal ticks turn answer =
      let t = stamp_of found now in
      let e = entry_of t old.number c in
      let stamp = stamp_is s moments moments' now found laws.stamps (legal_found found left (e ∷ []) legal answer.entries) ticks in
      let is = accepted_is s moments found old.number (length old.seen) t c reply (longer found turn.goes_on.rest turn.goes_on.goes_on) stamp answer.not_refused answer.reply in
      asked_in_turn s keys moments moments' now old new r (accepted t c reply) found left turn answer.entries refl ticks
      (asks, subst (λ h. IsAccepted s moments h old.number (length old.seen) (length h) t c reply) (sym answer.entries) is)
  command_came c found left (Err (apply_fault.Refused refusal)) asks legal ticks turn answer =
      let t = stamp_of found now in
      let same : left ≡ found ++ [] = answer.1 ∙ sym (append-nil found) in
      let stamp = stamp_is s moments moments' now found laws.stamps (legal_found found left [] legal same) ticks in
      let is = turn_is moments old found turn.goes_on.rest t turn.goes_on.goes_on stamp in
      asked_in_turn s keys moments moments' now old new r (refused t c refusal) found left turn same refl ticks
      (subst (λ h. Comes s keys moments h old.number (length old.seen) (length h) r (refused t c refusal)) (sym answer.1)
      (asks, is, subst (λ es. verdict s (history s es) t c ≡ Some refusal) (sym (take-length found)) answer.0))
  command_came c found left (Err apply_fault.OutOfMemory) asks legal ticks turn answer =
      let t = stamp_of found now in
      let same : left ≡ found ++ [] = answer.1 ∙ sym (append-nil found) in
      let stamp = stamp_is s moments moments' now found laws.stamps (legal_found found left [] legal same) ticks in
      let is = turn_is moments old found turn.goes_on.rest t turn.goes_on.goes_on stamp in
      asked_in_turn s keys moments moments' now old new r (starved t) found left turn same refl ticks
      (subst (λ h. Comes s keys moments h old.number (length old.seen) (length h) r (starved t)) (sym answer.1)
      ((call.Command c, asks), is))

  question_came : (q : Query) (found : List Entry) (result : Result Answer QueryFault) → call_of keys r ≡ Ok (call.Query q) → IsLegal s found
      → Ticks moments moments' now → Turned old new found found → Tells s found now q result
      → Asked s keys moments moments' old new (exchange r (deed_of_answer (stamp_of found now) q result) new ∷ [])
  question_came q found (Ok answer) asks legal ticks turn tells =
      let t = stamp_of found now in
      let is = turn_is moments old found turn.goes_on.rest t turn.goes_on.goes_on (stamp_is s moments moments' now found laws.stamps legal ticks) in
      asked_in_turn s keys moments moments' now old new r (told t q answer) found found turn (sym (append-nil found)) refl ticks
      (asks, is, subst (λ es. answer_to s (history s es) t q ≡ Some answer) (sym (take-length found)) tells)
  question_came q found (Err query_fault.NoGame) asks legal ticks turn tells =
      let t = stamp_of found now in
      let is = turn_is moments old found turn.goes_on.rest t turn.goes_on.goes_on (stamp_is s moments moments' now found laws.stamps legal ticks) in
      asked_in_turn s keys moments moments' now old new r (untold t q) found found turn (sym (append-nil found)) refl ticks
      (asks, is, subst (λ es. answer_to s (history s es) t q ≡ None) (sym (take-length found)) tells)
  question_came q found (Err query_fault.OutOfMemory) asks legal ticks turn tells =
      let t = stamp_of found now in
      let is = turn_is moments old found turn.goes_on.rest t turn.goes_on.goes_on (stamp_is s moments moments' now found laws.stamps legal ticks) in
      asked_in_turn s keys moments moments' now old new r (starved t) found found turn (sym (append-nil found)) refl ticks
      ((call.Query q, asks), is)

  -- so it is after a call of the lobby
  pub commanded : (c : Command) (result : Result Reply ApplyFault) → call_of keys r ≡ Ok (call.Command c) → IsLegal s new.seen → Ticks moments moments' now
      → (p : Commanded s old new now c result)
      → Asked s keys moments moments' old new (exchange r (deed_of_reply (stamp_of p.found now) c result) new ∷ [])
  commanded c result asks legal ticks p =
      command_came c p.found p.left result asks (subst (IsLegal s) (ap (λ (z : Pass). z.seen) p.turn.after) legal) ticks p.turn p.answer

  pub questioned : (q : Query) (result : Result Answer QueryFault) → call_of keys r ≡ Ok (call.Query q) → IsLegal s new.seen → Ticks moments moments' now
      → (p : lock.Asked s old new now q result)
      → Asked s keys moments moments' old new (exchange r (deed_of_answer (stamp_of p.found now) q result) new ∷ [])
  questioned q result asks legal ticks p =
      question_came q p.found result asks (subst (IsLegal s) (ap (λ (z : Pass). z.seen) p.turn.after) legal) ticks p.turn p.answer

-- an error takes no turn
pub in_no_turn : (s : Setup) (keys : List (List ℕ)) (moments : Option (List ℕ)) (p : Pass) (r : RequestHead) (e : ApiError) → call_of keys r ≡ Err e
    → Asked s keys moments moments p p (exchange r (in_error e) p ∷ [])
in_no_turn s keys moments p r e is = record {
  comes = ((is, refl), refl);
  grown = ([], append-nil p.seen);
  turns = λ j. record { of = p.of; number = p.number; seen = p.seen; turns = sym (append-nil p.turns) j; has_turn = p.has_turn };
  own = sym (append-nil _);
  alone = λ _. sym (append-nil p.seen);
  clock = gave_none moments;
}
  where
    gave_none : (moments : Option (List ℕ)) → GaveOneATurn moments moments (exchange r (in_error e) p ∷ [])
    gave_none None = tt
    gave_none (Some ms) = refl
