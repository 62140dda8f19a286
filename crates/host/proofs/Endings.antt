-- How a connection ends: the lists that its answer speaks of, and what the answer says.
use Rattle.std.proofs.Common.{◌≡◌, ◌⊎◌, inl, inr, ⊎_elim, ℕ, ◌+◌, ◌*◌, ◌-◌, ◌<◌, ◌≤◌, Bool, true, false, List, [], ◌∷◌, ◌++◌, length, take, map, Option, Some, None, Result, Ok, Err, refl, sym, ap, ◌∙◌, subst, arith, append_assoc, length-append}
use Rattle.std.specs.Prelude.{MatchOption, ◌==◌, ◌||◌, if◌then◌else◌}
use Rattle.std.specs.List.{AllByRecursion}
use Rattle.std.specs.Option.{IsSome}
use Rattle.std.proofs.lemmas.List.{append-nil, length-map, map-append}
use Rattle.conn.specs.Faults.{Rose}
use Rattle.conn.specs.Told.{Gained, GainedPart, followed_by}
use Rattle.entries.specs.declared.setup.Setup.{Setup}
use Rattle.http_lines.specs.declared.request.NextFault.{NextFault}
use Rattle.http_lines.specs.declared.request.NextFault.TheVariants as fault
use Rattle.http_lines.specs.declared.request.RequestHead.{RequestHead}
use Rattle.http_lines.specs.declared.request.TheConstants.{HEAD_LIMIT, BODY_LIMIT}
use Rattle.http_lines.specs.declared.response.SendFault.{SendFault}
use Rattle.http_lines.specs.declared.response.SendFault.TheVariants as send_fault
use Rattle.http_lines.specs.First.{asked, ended, faulted}
use Rattle.http_lines.specs.Reader.{AnswersFirst, FirstOf, GaveNoRequest, TakesAtMost, still_ahead}
use Rattle.http_lines.specs.Talk.{Ending, at_end, in_fault, closed, hundred}
use Rattle.arena_lock.specs.Turns.{Pass}
use Rattle.host.specs.declared.ended.Ended.{Ended}
use Rattle.host.specs.declared.ended.Ended.TheVariants.{Served, Limit, CutOff, BadHead, TooLong, NotSupported, ReadFault, WriteFault, OutOfMemory}
use Rattle.host.specs.Asked.{Asked}
use Rattle.host.specs.Causes.{IsCaused, IsHindered, IsWhole, IsUnread, IsCutShort, IsCutInFault, IsStarved, Says, answer_by, answer_to_fault}
use Rattle.host.specs.Exchanges.{Deed, Exchange, requests}
use Rattle.host.specs.Responses.{said, response, responses, is_last, error_of, fault_response, end_response}
use Rattle.host.specs.Spelt.{BeginIfTold, Spell, SpellIfTold, TookOnlyIfTold}
use Rattle.host.specs.Steps.{AnswersFault, LawsOfRequests, Replies, ReadIfTold, Sends, SoFar, ended_behind, exchange}
use Rattle.host.specs.Talk.{Around, Completes, IsComplete, Talk, around}
use Rattle.host.proofs.Asking.{asked_one_more, nothing_asked}
use Rattle.host.proofs.Reading.{begins_asked, begins_read, read_on, spelt_to_close, spelt_to_end, spelt_to_fault, spelt_to_hundred, took_more, took_nothing, took_only}

-- ---- lists of exchanges

pub requests_one_more : (xs : List Exchange) (x : Exchange) → requests (xs ++ x ∷ []) ≡ requests xs ++ x.request ∷ []
requests_one_more xs x = map-append (λ (y : Exchange). y.request) xs (x ∷ [])

pub responses_from : (s : Setup) (n before : ℕ) (xs : List Exchange) (x : Exchange) → n + length xs ≡ before
    → responses s n (xs ++ x ∷ []) ≡ responses s n xs ++ response s (is_last before x) x
responses_from s n before [] x count =
    let same : n ≡ before = omega arith in
    append-nil (response s (is_last n x) x) ∙ ap (λ k. response s (is_last k x) x) same
responses_from s n before (y ∷ xs) x count =
    ap (λ l. response s (is_last n y) y ++ l) (responses_from s (n + 1) before xs x (omega arith))
    ∙ sym (append_assoc (response s (is_last n y) y) (responses s (n + 1) xs) (response s (is_last before x) x))

pub all_one_more : (P : Exchange → Type 0) (xs : List Exchange) (x : Exchange) → AllByRecursion P xs → P x → AllByRecursion P (xs ++ x ∷ [])
all_one_more P [] x all p = (p, tt)
all_one_more P (y ∷ xs) x all p = (all.0, all_one_more P xs x all.1 p)

pub as_many : (xs : List Exchange) → length xs ≤ 100 → length (xs ++ []) ≤ 100
as_many xs few = subst (λ (l : List Exchange). length l ≤ 100) (sym (append-nil xs)) few

-- ---- bytes gained

pub gained_more : (first second third : Option (List ℕ)) (bytes more : List ℕ) → Gained first second bytes → Gained second third more → Gained first third (bytes ++ more)
gained_more None second third bytes more p q = q ∙ ap (λ h. followed_by h more) p
gained_more (Some held) second third bytes more p q = q ∙ (ap (λ h. followed_by h more) p ∙ ap Some (append_assoc held bytes more))

pub gained_none : (first second third : Option (List ℕ)) (bytes : List ℕ) → Gained first second bytes → third ≡ second → Gained first third bytes
gained_none first second third bytes p q = q ∙ p

pub followed_by_none : (held : Option (List ℕ)) → followed_by held [] ≡ held
followed_by_none None = refl
followed_by_none (Some bytes) = ap Some (append-nil bytes)

pub gained_nothing : (held : Option (List ℕ)) → Gained held held []
gained_nothing None = refl
gained_nothing (Some bytes) = ap Some (sym (append-nil bytes))

-- ---- how requests end

pub same_end : (law : LawsOfRequests) (left : Option (List ℕ)) (rs others : List RequestHead) (ending other : Ending)
    → SpellIfTold left rs ending → Spell left others other → (rs ≡ others) × (ending ≡ other)
same_end law None rs others ending other p q = absurd q
same_end law (Some bytes) rs others ending other p q = law.one 100 bytes rs others ending other p q

-- an ending that is no fault of the source and no want of memory
abbrev pub IsReal : Ending → Type 0
IsReal at_end = Unit {0}
IsReal (in_fault fault.CutOff) = Unit {0}
IsReal (in_fault fault.BadHead) = Unit {0}
IsReal (in_fault fault.HeadTooLong) = Unit {0}
IsReal (in_fault fault.BodyTooLong) = Unit {0}
IsReal (in_fault fault.BadLength) = Unit {0}
IsReal (in_fault fault.NotSupported) = Unit {0}
IsReal (in_fault fault.ReadFault) = ⊥
IsReal (in_fault fault.OutOfMemory) = ⊥
IsReal closed = Unit {0}
IsReal hundred = Unit {0}

pub says_whole : (s : Setup) (bytes left : Option (List ℕ)) (answered more : List Exchange) (seen : ℕ) (written : List ℕ) (ending : Ending) → IsReal ending
    → IsWhole s bytes left answered more seen written (answer_by ending) → Says s bytes left answered more seen written (answer_by ending)
says_whole s bytes left answered more seen written at_end real p = p
says_whole s bytes left answered more seen written (in_fault fault.CutOff) real p = p
says_whole s bytes left answered more seen written (in_fault fault.BadHead) real p = p
says_whole s bytes left answered more seen written (in_fault fault.HeadTooLong) real p = p
says_whole s bytes left answered more seen written (in_fault fault.BodyTooLong) real p = p
says_whole s bytes left answered more seen written (in_fault fault.BadLength) real p = p
says_whole s bytes left answered more seen written (in_fault fault.NotSupported) real p = p
says_whole s bytes left answered more seen written (in_fault fault.ReadFault) real p = absurd real
says_whole s bytes left answered more seen written (in_fault fault.OutOfMemory) real p = absurd real
says_whole s bytes left answered more seen written closed real p = p
says_whole s bytes left answered more seen written hundred real p = p

module _ (laws : LawsOfRequests) (s : Setup) (keys : List (List ℕ)) (start new : Around) where
  -- the requests that were answered, all of which have a response
  abbrev pub AllAnswered : List Exchange → Type 0
  AllAnswered answered = AllByRecursion (λ (x : Exchange). IsSome (said s x.deed)) answered

  pub caused_whole : (ending : Ending) → IsReal ending → IsCaused start.reads new.reads start.writes new.writes (answer_by ending)
  caused_whole at_end real = tt
  caused_whole (in_fault fault.CutOff) real = tt
  caused_whole (in_fault fault.BadHead) real = tt
  caused_whole (in_fault fault.HeadTooLong) real = tt
  caused_whole (in_fault fault.BodyTooLong) real = tt
  caused_whole (in_fault fault.BadLength) real = tt
  caused_whole (in_fault fault.NotSupported) real = tt
  caused_whole (in_fault fault.ReadFault) real = absurd real
  caused_whole (in_fault fault.OutOfMemory) real = absurd real
  caused_whole closed real = tt
  caused_whole hundred real = tt

  -- all that the bytes spell was answered
  pub talk_whole : (answered : List Exchange) (ending : Ending) → IsReal ending → length answered ≤ 100 → Asked s keys start.moments new.moments start.pass new.pass answered
      → AllAnswered answered → SpellIfTold start.left (requests answered) ending
      → Gained start.held new.held (responses s 0 answered ++ end_response (length new.pass.seen) ending)
      → Talk s keys start new (answer_by ending)
  talk_whole answered ending real few asks each spelt gained = record {
    answered = answered;
    more = [];
    few = as_many answered few;
    asked = subst (λ l. Asked s keys start.moments new.moments start.pass new.pass l) (sym (append-nil answered)) asks;
    each = each;
    written = responses s 0 answered ++ end_response (length new.pass.seen) ending;
    gained = gained;
    says = says_whole s start.left new.left answered [] (length new.pass.seen) _ ending real (record {
      ending = ending;
      spelt = spelt;
      result_is = refl;
      no_more = refl;
      responses = refl;
    });
    caused = caused_whole ending real;
    exactly = λ rs other spell.
        let same = same_end laws start.left (requests answered) rs ending other spelt spell in
        inr (ap answer_by same.1, same.0);
  }

  -- a read failed
  pub talk_unread : (answered : List Exchange) → length answered ≤ 100 → Asked s keys start.moments new.moments start.pass new.pass answered
      → AllAnswered answered → TookOnlyIfTold start.left new.left (requests answered)
      → Gained start.held new.held (responses s 0 answered) → Rose start.reads new.reads
      → Talk s keys start new ReadFault
  talk_unread answered few asks each took gained rose = record {
    answered = answered;
    more = [];
    few = as_many answered few;
    asked = subst (λ l. Asked s keys start.moments new.moments start.pass new.pass l) (sym (append-nil answered)) asks;
    each = each;
    written = responses s 0 answered;
    gained = gained;
    says = record { taken = took; no_more = refl; responses = refl };
    caused = rose;
    exactly = λ rs other spell. inl rose;
  }

  -- a write failed in the response to a request
  pub talk_cut_short : (answered : List Exchange) (x : Exchange) (count : ℕ) → length (answered ++ x ∷ []) ≤ 100 → Asked s keys start.moments new.moments start.pass new.pass (answered ++ x ∷ [])
      → AllAnswered answered → BeginIfTold start.left (requests (answered ++ x ∷ [])) → IsSome (said s x.deed)
      → Gained start.held new.held (responses s 0 answered ++ take count (response s (is_last (length answered) x) x)) → Rose start.writes new.writes
      → Talk s keys start new WriteFault
  talk_cut_short answered x count few asks each spelt has gained rose = record {
    answered = answered;
    more = x ∷ [];
    few = few;
    asked = asks;
    each = each;
    written = responses s 0 answered ++ take count (response s (is_last (length answered) x) x);
    gained = gained;
    says = inl (record { last = x; one_more = refl; spelt = spelt; has_response = has; count = count; responses = refl });
    caused = rose;
    exactly = λ rs other spell. inl rose;
  }

  -- a write failed in the response to a fault
  pub talk_cut_in_fault : (answered : List Exchange) (f : NextFault) (count : ℕ) → length answered ≤ 100 → Asked s keys start.moments new.moments start.pass new.pass answered
      → AllAnswered answered → SpellIfTold start.left (requests answered) (in_fault f)
      → Gained start.held new.held (responses s 0 answered ++ take count (fault_response (length new.pass.seen) f)) → Rose start.writes new.writes
      → Talk s keys start new WriteFault
  talk_cut_in_fault answered f count few asks each spelt gained rose = record {
    answered = answered;
    more = [];
    few = as_many answered few;
    asked = subst (λ l. Asked s keys start.moments new.moments start.pass new.pass l) (sym (append-nil answered)) asks;
    each = each;
    written = responses s 0 answered ++ take count (fault_response (length new.pass.seen) f);
    gained = gained;
    says = inr (record { fault = f; spelt = spelt; no_more = refl; count = count; responses = refl });
    caused = rose;
    exactly = λ rs other spell. inl rose;
  }

  -- memory was wanting
  pub talk_starved : (answered more : List Exchange) → length (answered ++ more) ≤ 100 → Asked s keys start.moments new.moments start.pass new.pass (answered ++ more)
      → AllAnswered answered → BeginIfTold start.left (requests (answered ++ more)) → length more ≤ 1
      → Gained start.held new.held (responses s 0 answered)
      → Talk s keys start new OutOfMemory
  talk_starved answered more few asks each spelt one gained = record {
    answered = answered;
    more = more;
    few = few;
    asked = asks;
    each = each;
    written = responses s 0 answered;
    gained = gained;
    says = record { spelt = spelt; one_at_most = one; responses = refl };
    caused = tt;
    exactly = λ rs other spell. inl tt;
  }

pub real_or_not : (f : NextFault) → IsReal (in_fault f) ⊎ ((f ≡ fault.ReadFault) ⊎ (f ≡ fault.OutOfMemory))
real_or_not fault.CutOff = inl tt
real_or_not fault.BadHead = inl tt
real_or_not fault.HeadTooLong = inl tt
real_or_not fault.BodyTooLong = inl tt
real_or_not fault.BadLength = inl tt
real_or_not fault.NotSupported = inl tt
real_or_not fault.ReadFault = inr (inl refl)
real_or_not fault.OutOfMemory = inr (inr refl)
