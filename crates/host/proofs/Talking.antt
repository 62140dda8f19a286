-- A connection, step by step.
use Rattle.std.proofs.Common.{◌≡◌, ◌⊎◌, inl, inr, ⊎_elim, ℕ, ◌+◌, ◌*◌, ◌-◌, ◌<◌, ◌≤◌, Bool, true, false, List, [], ◌∷◌, ◌++◌, length, take, map, Option, Some, None, Result, Ok, Err, refl, sym, ap, ◌∙◌, subst, arith, append_assoc, length-append}
use Rattle.std.specs.Prelude.{MatchOption, ◌==◌, ◌||◌, if◌then◌else◌}
use Rattle.std.specs.List.{AllByRecursion}
use Rattle.std.specs.Option.{IsSome}
use Rattle.std.proofs.lemmas.List.{append-nil, length-map, map-append}
use Rattle.conn.specs.Faults.{Rose}
use Rattle.conn.specs.Told.{Gained, GainedPart, followed_by}
use Rattle.entries.specs.declared.setup.Setup.{Setup}
use Rattle.http_lines.specs.declared.request.NextFault.{NextFault}
use Rattle.http_lines.specs.declared.request.NextFault.TheVariants as fault
use Rattle.http_lines.specs.declared.request.RequestHead.{RequestHead}
use Rattle.http_lines.specs.declared.request.TheConstants.{HEAD_LIMIT, BODY_LIMIT}
use Rattle.http_lines.specs.declared.response.SendFault.{SendFault}
use Rattle.http_lines.specs.declared.response.SendFault.TheVariants as send_fault
use Rattle.http_lines.specs.First.{asked, ended, faulted}
use Rattle.http_lines.specs.Reader.{AnswersFirst, FirstOf, GaveNoRequest, TakesAtMost, still_ahead}
use Rattle.http_lines.specs.Talk.{Ending, at_end, in_fault, closed, hundred}
use Rattle.arena_lock.specs.Turns.{Pass}
use Rattle.host.specs.declared.ended.Ended.{Ended}
use Rattle.host.specs.declared.ended.Ended.TheVariants.{Served, Limit, CutOff, BadHead, TooLong, NotSupported, ReadFault, WriteFault, OutOfMemory}
use Rattle.host.specs.Asked.{Asked}
use Rattle.host.specs.Causes.{IsCaused, IsHindered, IsWhole, IsUnread, IsCutShort, IsCutInFault, IsStarved, Says, answer_by, answer_to_fault}
use Rattle.host.specs.Exchanges.{Deed, Exchange, requests}
use Rattle.host.specs.Responses.{said, response, responses, is_last, error_of, fault_response, end_response}
use Rattle.host.specs.Spelt.{BeginIfTold, Spell, SpellIfTold, TookOnlyIfTold}
use Rattle.host.specs.Steps.{AnswersFault, LawsOfRequests, Replies, ReadIfTold, Sends, SoFar, ended_behind, exchange}
use Rattle.host.specs.Talk.{Around, Completes, IsComplete, Talk, around}
use Rattle.host.proofs.Asking.{asked_one_more, nothing_asked}
use Rattle.host.proofs.Reading.{begins_asked, begins_read, read_on, spelt_to_close, spelt_to_end, spelt_to_fault, spelt_to_hundred, took_more, took_nothing, took_only}
use Rattle.host.proofs.Endings.{IsReal, all_one_more, as_many, followed_by_none, gained_more, gained_none, gained_nothing, real_or_not, requests_one_more, responses_from, talk_cut_in_fault, talk_cut_short, talk_starved, talk_unread, talk_whole}

rose_since : (first second third : ℕ) → first ≤ second → Rose second third → Rose first third
rose_since first second third le rose = omega arith

real_with_error : (f : NextFault) → IsSome (error_of f) → IsReal (in_fault f)
real_with_error fault.CutOff some = tt
real_with_error fault.BadHead some = tt
real_with_error fault.HeadTooLong some = tt
real_with_error fault.BodyTooLong some = tt
real_with_error fault.BadLength some = tt
real_with_error fault.NotSupported some = tt
real_with_error fault.ReadFault some = absurd (cc)
real_with_error fault.OutOfMemory some = absurd (cc)

first_fault : (before after : Option (List ℕ)) (f : NextFault) → IsReal (in_fault f) → AnswersFirst before after (Err f) → FirstOf before after (λ rest. faulted f)
first_fault before after fault.CutOff real p = p
first_fault before after fault.BadHead real p = p
first_fault before after fault.HeadTooLong real p = p
first_fault before after fault.BodyTooLong real p = p
first_fault before after fault.BadLength real p = p
first_fault before after fault.NotSupported real p = p
first_fault before after fault.ReadFault real p = absurd real
first_fault before after fault.OutOfMemory real p = absurd real

-- nothing was answered yet
pub nothing_answered : (s : Setup) (keys : List (List ℕ)) (start : Around) → SoFar s keys start start [] 0
nothing_answered s keys start = record {
  answered = [];
  count = refl;
  asked = nothing_asked s keys start.moments start.pass;
  each = tt;
  gained = gained_nothing start.held;
  were_read = nothing_read start.left;
  took = took_nothing start.left;
  reads_kept = omega arith;
  writes_kept = omega arith;
}
  where
    nothing_read : (left : Option (List ℕ)) → ReadIfTold left (still_ahead [] left) []
    nothing_read None = tt
    nothing_read (Some bytes) = refl

module _ (laws : LawsOfRequests) (s : Setup) (keys : List (List ℕ)) (start : Around) where
  counted : (answered : List Exchange) (before : ℕ) → length answered ≡ before → length (requests answered) ≡ before
  counted answered before count = length-map answered (λ (x : Exchange). x.request) ∙ count

  none_more : (answered : List Exchange) (held : Option (List ℕ)) → Gained start.held held (responses s 0 answered) → Gained start.held held (responses s 0 answered ++ [])
  none_more answered held gained = subst (Gained start.held held) (sym (append-nil (responses s 0 answered))) gained

  begun_with : (bytes middle : Option (List ℕ)) (answered : List Exchange) → ReadIfTold bytes middle (requests answered) → BeginIfTold bytes (requests (answered ++ []))
  begun_with bytes middle answered is =
      subst (BeginIfTold bytes) (append-nil (requests answered) ∙ ap requests (sym (append-nil answered))) (begins_read bytes middle (requests answered) is)

  no_more : (answered : List Exchange) (before : ℕ) → length answered ≡ before → before ≤ 100 → length answered ≤ 100
  no_more answered before count few = subst (λ (n : ℕ). n ≤ 100) (sym count) few

  -- want of memory behind answered requests
  starved_behind : (old new : Around) (ahead : List ℕ) (before : ℕ) → before ≤ 100 → SoFar s keys start old ahead before
      → new.pass ≡ old.pass → new.moments ≡ old.moments → new.held ≡ old.held → Talk s keys start new OutOfMemory
  starved_behind old new ahead before few so pass moments held =
      talk_starved laws s keys start new so.answered []
      (as_many so.answered (no_more so.answered before so.count few))
      (subst (λ (l : List Exchange). Asked s keys start.moments new.moments start.pass new.pass l) (sym (append-nil so.answered))
      (subst (λ (z : Pass × Option (List ℕ)). Asked s keys start.moments z.1 start.pass z.0 so.answered) (λ j. (sym pass j, sym moments j)) so.asked))
      so.each
      (begun_with start.left (still_ahead ahead old.left) so.answered so.were_read)
      (omega arith)
      (gained_none start.held old.held new.held _ so.gained held)

  -- a hundred requests were answered
  pub ends_at_limit : (now : Around) (ahead : List ℕ) → SoFar s keys start now ahead 100 → Talk s keys start now Limit
  ends_at_limit now ahead so =
      talk_whole laws s keys start now so.answered hundred tt (no_more so.answered 100 so.count (omega arith)) so.asked so.each
      (spelt_to_hundred start.left (still_ahead ahead now.left) (requests so.answered) laws.and_then so.were_read (counted so.answered 100 so.count))
      (none_more so.answered now.held so.gained)

  pub ends_starved : (now : Around) (ahead : List ℕ) (before : ℕ) → before ≤ 100 → SoFar s keys start now ahead before → Talk s keys start now OutOfMemory
  ends_starved now ahead before few so = starved_behind now now ahead before few so refl refl refl

  module _ (old : Around) (ahead ahead' : List ℕ) (before : ℕ) (few : before < 100) (so : SoFar s keys start old ahead before) (left' : Option (List ℕ)) (reads' : ℕ) (reads_kept : old.reads ≤ reads') where
    -- the source ended behind the requests
    pub ends_served : FirstOf (still_ahead ahead old.left) (still_ahead ahead' left') (λ rest. ended)
        → Talk s keys start (around old.pass old.moments left' reads' old.held old.writes) Served
    ends_served first =
        talk_whole laws s keys start (around old.pass old.moments left' reads' old.held old.writes) so.answered at_end tt (no_more so.answered before so.count (omega arith)) so.asked so.each
        (spelt_to_end start.left (still_ahead ahead old.left) (still_ahead ahead' left') (requests so.answered) before laws.and_then so.were_read (counted so.answered before so.count) few first)
        (none_more so.answered old.held so.gained)

    module _ (held' : Option (List ℕ)) (writes' : ℕ) (writes_kept : old.writes ≤ writes') where
      -- a fault was read, and answered or not
      module _ (f : NextFault) (first : AnswersFirst (still_ahead ahead old.left) (still_ahead ahead' left') (Err f))
          (rose : f ≡ fault.ReadFault → Rose old.reads reads') (gave : f ≡ fault.ReadFault → GaveNoRequest ahead old.left left') where
        abbrev pub after_fault : Around
        after_fault = around old.pass old.moments left' reads' held' writes'

        spelt_real : IsReal (in_fault f) → SpellIfTold start.left (requests so.answered) (in_fault f)
        spelt_real real =
            spelt_to_fault start.left (still_ahead ahead old.left) (still_ahead ahead' left') (requests so.answered) before f laws.and_then so.were_read
            (counted so.answered before so.count) few (first_fault (still_ahead ahead old.left) (still_ahead ahead' left') f real first)

        ends_real : IsReal (in_fault f) → Gained old.held held' (fault_response (length old.pass.seen) f) → Talk s keys start after_fault (answer_to_fault f)
        ends_real real gained =
            talk_whole laws s keys start after_fault so.answered (in_fault f) real (no_more so.answered before so.count (omega arith)) so.asked so.each (spelt_real real)
            (gained_more start.held old.held held' (responses s 0 so.answered) (fault_response (length old.pass.seen) f) so.gained gained)

        ends_unread : f ≡ fault.ReadFault → Gained old.held held' (fault_response (length old.pass.seen) f) → Talk s keys start after_fault (answer_to_fault f)
        ends_unread is gained =
            let none : fault_response (length old.pass.seen) f ≡ [] = ap (fault_response (length old.pass.seen)) is in
            let all = gained_more start.held old.held held' (responses s 0 so.answered) (fault_response (length old.pass.seen) f) so.gained gained in
            subst (λ k. Talk s keys start after_fault (answer_to_fault k)) (sym is)
            (talk_unread laws s keys start after_fault so.answered (no_more so.answered before so.count (omega arith)) so.asked so.each
            (took_only start.left old.left left' ahead (requests so.answered) before _ laws.own laws.and_then so.were_read (counted so.answered before so.count) few so.took (gave is))
            (subst (Gained start.held held') (ap (λ l. responses s 0 so.answered ++ l) none ∙ append-nil (responses s 0 so.answered)) all)
            (rose_since start.reads old.reads reads' so.reads_kept (rose is)))

        ends_wanting : held' ≡ old.held → Talk s keys start after_fault OutOfMemory
        ends_wanting same = starved_behind old after_fault ahead before (omega arith) so refl refl same

        nothing_gained : f ≡ fault.OutOfMemory → Gained old.held held' (fault_response (length old.pass.seen) f) → held' ≡ old.held
        nothing_gained is gained =
            let none : fault_response (length old.pass.seen) f ≡ [] = ap (fault_response (length old.pass.seen)) is in
            subst (Gained old.held held') none gained ∙ followed_by_none old.held

        ends_answered : Gained old.held held' (fault_response (length old.pass.seen) f) → Talk s keys start after_fault (answer_to_fault f)
        ends_answered gained =
            ⊎_elim
            (λ (real : IsReal (in_fault f)). ends_real real gained)
            (λ (other : (f ≡ fault.ReadFault) ⊎ (f ≡ fault.OutOfMemory)).
            ⊎_elim
            (λ (is : f ≡ fault.ReadFault). ends_unread is gained)
            (λ (is : f ≡ fault.OutOfMemory). subst (λ k. Talk s keys start after_fault (answer_to_fault k)) (sym is) (ends_wanting (nothing_gained is gained)))
            other)
            (real_or_not f)

        ends_cut : IsSome (error_of f) → Rose old.writes writes' → GainedPart old.held held' (fault_response (length old.pass.seen) f) → Talk s keys start after_fault WriteFault
        ends_cut some rose_writes part =
            talk_cut_in_fault laws s keys start after_fault so.answered f part.0 (no_more so.answered before so.count (omega arith)) so.asked so.each (spelt_real (real_with_error f some))
            (gained_more start.held old.held held' (responses s 0 so.answered) (take part.0 (fault_response (length old.pass.seen) f)) so.gained part.1)
            (rose_since start.writes old.writes writes' so.writes_kept rose_writes)

        pub ends_in_fault : (result : Ended) → AnswersFault (length old.pass.seen) f old.held held' old.writes writes' result → Talk s keys start after_fault result
        ends_in_fault result answers =
            ⊎_elim
            (λ (p : (result ≡ answer_to_fault f) × Gained old.held held' (fault_response (length old.pass.seen) f)).
            subst (Talk s keys start after_fault) (sym p.0) (ends_answered p.1))
            (λ (other : ((result ≡ WriteFault) × IsSome (error_of f) × Rose old.writes writes' × GainedPart old.held held' (fault_response (length old.pass.seen) f)) ⊎ ((result ≡ OutOfMemory) × (held' ≡ old.held))).
            ⊎_elim
            (λ (p : (result ≡ WriteFault) × IsSome (error_of f) × Rose old.writes writes' × GainedPart old.held held' (fault_response (length old.pass.seen) f)).
            subst (Talk s keys start after_fault) (sym p.0) (ends_cut p.1 p.2 p.3))
            (λ (p : (result ≡ OutOfMemory) × (held' ≡ old.held)). subst (Talk s keys start after_fault) (sym p.0) (ends_wanting p.1))
            other)
            answers

      -- a request was read, and answered or not
      module _ (r : RequestHead) (first : FirstOf (still_ahead ahead old.left) (still_ahead ahead' left') (λ rest. asked r rest))
          (took : TakesAtMost (HEAD_LIMIT + BODY_LIMIT) ahead ahead' old.left left') (pass' : Pass) (moments' : Option (List ℕ)) where
        abbrev pub after_request : Around
        after_request = around pass' moments' left' reads' held' writes'

        module _ (deed : Deed) (asks : Asked s keys old.moments moments' old.pass pass' (exchange r deed pass' ∷ [])) where
          abbrev x : Exchange
          x = exchange r deed pass'

          few_with_it : length (so.answered ++ x ∷ []) ≤ 100
          few_with_it =
              let count : length so.answered ≡ before = so.count in
              subst (λ (n : ℕ). n ≤ 100) (sym (length-append so.answered (x ∷ []))) (omega arith)

          all_asked : Asked s keys start.moments moments' start.pass pass' (so.answered ++ x ∷ [])
          all_asked = asked_one_more s keys start.moments old.moments moments' start.pass old.pass pass' so.answered x so.asked asks

          one_more_said : IsSome (said s deed) → AllByRecursion (λ (y : Exchange). IsSome (said s y.deed)) (so.answered ++ x ∷ [])
          one_more_said some = all_one_more (λ (y : Exchange). IsSome (said s y.deed)) so.answered x so.each some

          gained_all : Gained old.held held' (response s (is_last before x) x) → Gained start.held held' (responses s 0 (so.answered ++ x ∷ []))
          gained_all gained =
              subst (Gained start.held held') (sym (responses_from s 0 before so.answered x (let count : length so.answered ≡ before = so.count in omega arith)))
              (gained_more start.held old.held held' (responses s 0 so.answered) (response s (is_last before x) x) so.gained gained)

          begins_with_all : BeginIfTold start.left (requests (so.answered ++ x ∷ []))
          begins_with_all =
              subst (BeginIfTold start.left) (sym (requests_one_more so.answered x))
              (begins_asked start.left (still_ahead ahead old.left) (still_ahead ahead' left') (requests so.answered) r so.were_read first)

          goes_on : r.closes ≡ false → IsSome (said s deed) → Gained old.held held' (response s (is_last before x) x) → SoFar s keys start after_request ahead' (before + 1)
          goes_on stays some gained = record {
            answered = so.answered ++ x ∷ [];
            count = length-append so.answered (x ∷ []) ∙ ap (λ n. n + 1) so.count;
            asked = all_asked;
            each = one_more_said some;
            gained = gained_all gained;
            were_read = subst (ReadIfTold start.left (still_ahead ahead' left')) (sym (requests_one_more so.answered x))
                (read_on start.left (still_ahead ahead old.left) (still_ahead ahead' left') (requests so.answered) r laws.one_more so.were_read first stays);
            took = took_more start.left old.left left' (length ahead) (length ahead') before (HEAD_LIMIT + BODY_LIMIT) took.0 so.took took.1 took.2;
            reads_kept = omega (arith, so.reads_kept, reads_kept);
            writes_kept = omega (arith, so.writes_kept, writes_kept);
          }

          ends_closed : r.closes ≡ true → IsSome (said s deed) → Gained old.held held' (response s (is_last before x) x) → Talk s keys start after_request Served
          ends_closed closes some gained =
              talk_whole laws s keys start after_request (so.answered ++ x ∷ []) closed tt few_with_it all_asked (one_more_said some)
              (subst (λ l. SpellIfTold start.left l closed) (sym (requests_one_more so.answered x))
              (spelt_to_close start.left (still_ahead ahead old.left) (still_ahead ahead' left') (requests so.answered) r before laws.and_then so.were_read (counted so.answered before so.count) few first closes))
              (none_more (so.answered ++ x ∷ []) held' (gained_all gained))

          ends_short : IsSome (said s deed) → Rose old.writes writes' → GainedPart old.held held' (response s (is_last before x) x) → Talk s keys start after_request WriteFault
          ends_short some rose part =
              let cut : Gained start.held held' (responses s 0 so.answered ++ take part.0 (response s (is_last before x) x)) =
              gained_more start.held old.held held' (responses s 0 so.answered) (take part.0 (response s (is_last before x) x)) so.gained part.1 in
              talk_cut_short laws s keys start after_request so.answered x part.0 few_with_it all_asked so.each begins_with_all some
              (subst (λ k. Gained start.held held' (responses s 0 so.answered ++ take part.0 (response s (is_last k x) x))) (sym so.count) cut)
              (rose_since start.writes old.writes writes' so.writes_kept rose)

          ends_asked : held' ≡ old.held → Talk s keys start after_request OutOfMemory
          ends_asked same =
              talk_starved laws s keys start after_request so.answered (x ∷ []) few_with_it all_asked so.each begins_with_all (omega arith)
              (gained_none start.held old.held held' _ so.gained same)

          closes_or_not : (closes : Bool) → r.closes ≡ closes → IsSome (said s deed) → Gained old.held held' (response s (is_last before x) x)
              → MatchOption (if closes then Some Served else None) (SoFar s keys start after_request ahead' (before + 1)) (λ ended. Talk s keys start after_request ended)
          closes_or_not true closes some gained = ends_closed closes some gained
          closes_or_not false stays some gained = goes_on stays some gained

          sends_on : (result : Result (Unit {0}) SendFault) → Sends s (is_last before x) x old.held held' old.writes writes' result
              → MatchOption (ended_behind r.closes result) (SoFar s keys start after_request ahead' (before + 1)) (λ ended. Talk s keys start after_request ended)
          sends_on (Ok sent) p = closes_or_not r.closes refl p.0 p.1
          sends_on (Err send_fault.WriteFault) p = ends_short p.0 p.1 p.2
          sends_on (Err send_fault.OutOfMemory) p = ends_asked p

        pub goes_on_or_ends : (result : Result (Unit {0}) SendFault)
            → Replies s keys (r.closes || (before == 99)) r old.moments moments' old.pass pass' old.held held' old.writes writes' result
            → MatchOption (ended_behind r.closes result) (SoFar s keys start after_request ahead' (before + 1)) (λ ended. Talk s keys start after_request ended)
        goes_on_or_ends result p = sends_on p.deed p.asked result p.sends
