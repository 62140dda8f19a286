-- Where nothing hinders a connection, all that its bytes spell is answered.
use Rattle.std.proofs.Common.{◌≡◌, ◌⊎◌, inl, inr, ⊎_elim, ℕ, ◌+◌, ◌*◌, ◌-◌, ◌<◌, ◌≤◌, Bool, true, false, List, [], ◌∷◌, ◌++◌, length, take, map, Option, Some, None, Result, Ok, Err, refl, sym, ap, ◌∙◌, subst, arith, append_assoc, length-append}
use Rattle.std.specs.Prelude.{MatchOption, ◌==◌, ◌||◌, if◌then◌else◌}
use Rattle.std.specs.List.{AllByRecursion}
use Rattle.std.specs.Option.{IsSome}
use Rattle.std.proofs.lemmas.List.{append-nil, length-map, map-append}
use Rattle.conn.specs.Faults.{Rose}
use Rattle.conn.specs.Told.{Gained, GainedPart, followed_by}
use Rattle.entries.specs.declared.setup.Setup.{Setup}
use Rattle.http_lines.specs.declared.request.NextFault.{NextFault}
use Rattle.http_lines.specs.declared.request.NextFault.TheVariants as fault
use Rattle.http_lines.specs.declared.request.RequestHead.{RequestHead}
use Rattle.http_lines.specs.declared.request.TheConstants.{HEAD_LIMIT, BODY_LIMIT}
use Rattle.http_lines.specs.declared.response.SendFault.{SendFault}
use Rattle.http_lines.specs.declared.response.SendFault.TheVariants as send_fault
use Rattle.http_lines.specs.First.{asked, ended, faulted}
use Rattle.http_lines.specs.Reader.{AnswersFirst, FirstOf, GaveNoRequest, TakesAtMost, still_ahead}
use Rattle.http_lines.specs.Talk.{Ending, at_end, in_fault, closed, hundred}
use Rattle.arena_lock.specs.Turns.{Pass}
use Rattle.host.specs.declared.ended.Ended.{Ended}
use Rattle.host.specs.declared.ended.Ended.TheVariants.{Served, Limit, CutOff, BadHead, TooLong, NotSupported, ReadFault, WriteFault, OutOfMemory}
use Rattle.host.specs.Asked.{Asked}
use Rattle.host.specs.Causes.{IsCaused, IsHindered, IsWhole, IsUnread, IsCutShort, IsCutInFault, IsStarved, Says, answer_by, answer_to_fault}
use Rattle.host.specs.Exchanges.{Deed, Exchange, requests}
use Rattle.host.specs.Responses.{said, response, responses, is_last, error_of, fault_response, end_response}
use Rattle.host.specs.Spelt.{BeginIfTold, Spell, SpellIfTold, TookOnlyIfTold}
use Rattle.host.specs.Steps.{AnswersFault, LawsOfRequests, Replies, ReadIfTold, Sends, SoFar, ended_behind, exchange}
use Rattle.host.specs.Talk.{Around, Completes, IsComplete, Talk, around}
use Rattle.host.proofs.Asking.{asked_one_more, nothing_asked}
use Rattle.host.proofs.Reading.{begins_asked, begins_read, read_on, spelt_to_close, spelt_to_end, spelt_to_fault, spelt_to_hundred, took_more, took_nothing, took_only}
use Rattle.host.proofs.Endings.{IsReal, real_or_not, same_end}

-- what an ended connection says where nothing hindered it
says_of_whole : (s : Setup) (bytes left : Option (List ℕ)) (answered more : List Exchange) (seen : ℕ) (written : List ℕ) (ending : Ending) → IsReal ending
    → Says s bytes left answered more seen written (answer_by ending) → IsWhole s bytes left answered more seen written (answer_by ending)
says_of_whole s bytes left answered more seen written at_end real p = p
says_of_whole s bytes left answered more seen written (in_fault fault.CutOff) real p = p
says_of_whole s bytes left answered more seen written (in_fault fault.BadHead) real p = p
says_of_whole s bytes left answered more seen written (in_fault fault.HeadTooLong) real p = p
says_of_whole s bytes left answered more seen written (in_fault fault.BodyTooLong) real p = p
says_of_whole s bytes left answered more seen written (in_fault fault.BadLength) real p = p
says_of_whole s bytes left answered more seen written (in_fault fault.NotSupported) real p = p
says_of_whole s bytes left answered more seen written (in_fault fault.ReadFault) real p = absurd real
says_of_whole s bytes left answered more seen written (in_fault fault.OutOfMemory) real p = absurd real
says_of_whole s bytes left answered more seen written closed real p = p
says_of_whole s bytes left answered more seen written hundred real p = p

real_end_or_not : (ending : Ending) → IsReal ending ⊎ ((answer_by ending ≡ ReadFault) ⊎ (answer_by ending ≡ OutOfMemory))
real_end_or_not at_end = inl tt
real_end_or_not (in_fault f) =
    ⊎_elim
    (λ (real : IsReal (in_fault f)). inl real)
    (λ (other : (f ≡ fault.ReadFault) ⊎ (f ≡ fault.OutOfMemory)).
    ⊎_elim (λ (is : f ≡ fault.ReadFault). inr (inl (ap answer_to_fault is))) (λ (is : f ≡ fault.OutOfMemory). inr (inr (ap answer_to_fault is))) other)
    (real_or_not f)
real_end_or_not closed = inl tt
real_end_or_not hundred = inl tt

module _ (laws : LawsOfRequests) (s : Setup) (keys : List (List ℕ)) (old new : Around) where
  complete_real : (result : Ended) (rs : List RequestHead) (ending : Ending) → (talk : Talk s keys old new result) → Spell old.left rs ending
      → IsReal ending → result ≡ answer_by ending → requests talk.answered ≡ rs → IsComplete s keys old new rs ending result
  complete_real result rs ending talk spell real is are =
      let whole = says_of_whole s old.left new.left talk.answered talk.more (length new.pass.seen) talk.written ending real
      (subst (Says s old.left new.left talk.answered talk.more (length new.pass.seen) talk.written) is talk.says) in
      let same : whole.ending ≡ ending = (same_end laws old.left (requests talk.answered) rs whole.ending ending whole.spelt spell).1 in
      record {
        answered = talk.answered;
        are = are;
        asked = subst (λ l. Asked s keys old.moments new.moments old.pass new.pass l) (ap (λ l. talk.answered ++ l) whole.no_more ∙ append-nil talk.answered) talk.asked;
        gained = subst (Gained old.held new.held) (whole.responses ∙ ap (λ e. responses s 0 talk.answered ++ end_response (length new.pass.seen) e) same) talk.gained;
        result_is = is;
      }

  hindered_by : (result : Ended) → ¬ (Rose old.reads new.reads) → ¬ (Rose old.writes new.writes) → IsHindered old.reads new.reads old.writes new.writes result → result ≡ OutOfMemory
  hindered_by OutOfMemory reads writes p = refl
  hindered_by ReadFault reads writes p = absurd (reads p)
  hindered_by WriteFault reads writes p = absurd (writes p)
  hindered_by Served reads writes p = absurd p
  hindered_by Limit reads writes p = absurd p
  hindered_by CutOff reads writes p = absurd p
  hindered_by BadHead reads writes p = absurd p
  hindered_by TooLong reads writes p = absurd p
  hindered_by NotSupported reads writes p = absurd p

  pub completes : (result : Ended) → Talk s keys old new result → Completes s keys old new result
  completes result talk = λ rs ending spell reads writes.
      ⊎_elim
      (λ (hindered : IsHindered old.reads new.reads old.writes new.writes result). inl (hindered_by result reads writes hindered))
      (λ (p : (result ≡ answer_by ending) × (requests talk.answered ≡ rs)).
      ⊎_elim
      (λ (real : IsReal ending). inr (complete_real result rs ending talk spell real p.0 p.1))
      (λ (other : (answer_by ending ≡ ReadFault) ⊎ (answer_by ending ≡ OutOfMemory)).
      ⊎_elim
      (λ (is : answer_by ending ≡ ReadFault). absurd (reads (subst (IsCaused old.reads new.reads old.writes new.writes) (p.0 ∙ is) talk.caused)))
      (λ (is : answer_by ending ≡ OutOfMemory). inl (p.0 ∙ is))
      other)
      (real_end_or_not ending))
      (talk.exactly rs ending spell)

  pub read_fault_caused : (result : Ended) → Talk s keys old new result → result ≡ ReadFault → Rose old.reads new.reads
  read_fault_caused result talk is = subst (IsCaused old.reads new.reads old.writes new.writes) is talk.caused

  pub write_fault_caused : (result : Ended) → Talk s keys old new result → result ≡ WriteFault → Rose old.writes new.writes
  write_fault_caused result talk is = subst (IsCaused old.reads new.reads old.writes new.writes) is talk.caused
