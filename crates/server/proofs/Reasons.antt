-- What a worker does, step by step, and its reason to end.
use Rattle.std.proofs.Common.{◌≡◌, ℕ, true, false, Bool, if◌then◌else◌, List, [], ◌∷◌, ◌++◌, length, take, Option, Some, None, Result, Ok, Err, refl, sym, ap, ◌∙◌, subst, append-nil, append_assoc, length-append}
use Rattle.std.specs.Prelude.{◌+◌, ◌≤◌, IfOk, IfSome, nat_le, nat_lt, ◌&&◌, ◌==◌}
use Rattle.std.proofs.Math.Seq.{take-length}
use Rattle.std.proofs.lemmas.Bool.{leb-true, le-ltb}
use mathlib.Core.List.{IsPrefix}
use Rattle.conn.specs.Moments.{first_moment, moments_after}
use Rattle.entries.specs.declared.journal.Entry.{Entry}
use Rattle.entries.specs.declared.setup.Setup.{Setup}
use Rattle.arena_history.specs.Snapshots.{snapshot}
use Rattle.arena_history.specs.Stamps.{stamp_of}
use Rattle.arena_history.specs.Waves.{history}
use Rattle.turnstile.specs.Passes.{Lock}
use Rattle.arena_lock.specs.Turns.{IsReady, Pass}
use Rattle.director.specs.declared.turn.Turn.{Turn}
use Rattle.director.specs.declared.turn.TurnFault.{TurnFault}
use Rattle.director.specs.declared.turn.TurnFault.TheVariants as fault
use Rattle.director.specs.declared.turn.WaveEnd.{WaveEnd}
use Rattle.director.specs.declared.turn.WaveEnd.TheVariants.{NotDue}
use Rattle.director.specs.Due.{is_due, is_over, is_rested}
use Rattle.director.specs.Gains.{IsFull, IsSecond, LengthsOf, ShowsFirst, Spends, Spent}
use Rattle.director.specs.Steps.{State, state_of}
use Rattle.host.specs.Asked.{Asked}
use Rattle.host.specs.Exchanges.{Exchange, lengths}
use Rattle.wave.specs.declared.snapshot.Snapshot.{Snapshot}
use Rattle.server.specs.declared.workers.WorkerEnd.{WorkerEnd}
use Rattle.server.specs.declared.workers.WorkerEnd.TheVariants.{Over, Full}
use Rattle.server.specs.Shifts.{HasWorked}
use Rattle.server.specs.Works.{FoundOver, IsMomentAt, IsReason, Works, end_by}
use Rattle.server.proofs.Turns.{spent_more, spent_none, moment_more, prefix_trans, gave_a_turn}

-- a reason stays one where turns came before
found_more : (s : Setup) (a b : State) (l1 l2 : List ℕ) (seen : List Entry) → Spent a b l1 → FoundOver s b.moments l2 seen → FoundOver s a.moments (l1 ++ l2) seen
found_more s a b l1 l2 seen p x = record {
  before = l1 ++ x.before;
  last = ap (λ l. l1 ++ l) x.last ∙ sym (append_assoc l1 x.before (length seen ∷ []));
  now = x.now;
  moment = subst (λ place. IsMomentAt a.moments place x.now) (sym (length-append l1 x.before)) (moment_more a.moments b.moments (length l1) (length x.before) x.now p.moments x.moment);
  over = x.over;
}

reason_more : (s : Setup) (a b : State) (l1 l2 : List ℕ) (seen : List Entry) (end : Option WorkerEnd) → Spent a b l1
    → IfSome end (IsReason s b.moments l2 seen) → IfSome end (IsReason s a.moments (l1 ++ l2) seen)
reason_more s a b l1 l2 seen None p x = tt
reason_more s a b l1 l2 seen (Some Over) p x = found_more s a b l1 l2 seen p x
reason_more s a b l1 l2 seen (Some Full) p x = x

-- a worker worked, and then went on
pub works_on : (s : Setup) (a b c : State) (end : Option WorkerEnd) → Works s a b None → Works s b c end → Works s a c end
works_on s a b c end p q = record {
  lengths = p.lengths ++ q.lengths;
  spent = spent_more a b c p.lengths q.lengths p.spent q.spent;
  number = q.number ∙ p.number;
  grown = prefix_trans a.pass.seen b.pass.seen c.pass.seen p.grown q.grown;
  reason = reason_more s a b p.lengths q.lengths c.pass.seen end p.spent q.reason;
}

-- no work was done
pub works_not : (s : Setup) (a : State) → Works s a a None
works_not s a = record {
  lengths = [];
  spent = spent_none a;
  number = refl;
  grown = ([], append-nil a.pass.seen);
  reason = tt;
}

-- the requests of a connection were asked
pub works_by_requests : (s : Setup) (keys : List (List ℕ)) (m m' : Option (List ℕ)) (old new : Pass) (xs : List Exchange)
    → Asked s keys m m' old new xs → Works s (state_of old m) (state_of new m') None
works_by_requests s keys m m' old new xs asked = record {
  lengths = lengths xs;
  spent = record { turns = ap (λ (p : Pass). p.turns) asked.turns; moments = gave_a_turn m m' xs asked.clock };
  number = ap (λ (p : Pass). p.number) asked.turns;
  grown = asked.grown;
  reason = tt;
}

both_hold : (a b : Bool) → (a && b) ≡ true → a ≡ true
both_hold true b is = refl
both_hold false b is = is

third_fails : (a b c d : Bool) → c ≡ false → (a && b && c && d) ≡ false
third_fails true true true d is = absurd (let bad : true ≡ false = is in cc)
third_fails true true false d is = refl
third_fails true false c d is = refl
third_fails false b c d is = refl

-- no wave is due where the arena is over
none_due : (s : Setup) (snap : Snapshot) → is_over s snap ≡ true → is_due s snap ≡ false
unfolding is_over is_due
none_due s snap over =
    let ended : s.ends ≤ snap.stamp = leb-true s.ends snap.stamp (both_hold (nat_le s.ends snap.stamp) (snap.running == 0) over) in
    third_fails (nat_le 2 (length snap.rows)) (nat_le s.starts snap.stamp) (nat_lt snap.stamp s.ends) (is_rested s.wave_ms snap.last_wave snap.stamp) (le-ltb snap.stamp s.ends ended)

second_moment : (m : Option (List ℕ)) (now : ℕ) → IsSecond m now → IsMomentAt m 1 now
second_moment None now x = tt
second_moment (Some ms) now x = x

over_or_not : (s : Setup) (m : Option (List ℕ)) (l : List ℕ) (seen : List Entry) (turn : Turn) (b : Bool) → turn.over ≡ b
    → LengthsOf turn.n turn.wave l → ShowsFirst s m seen turn → IfSome (if b then Some Over else None) (IsReason s m l seen)
over_or_not s m l seen turn false is by shows = tt
over_or_not s m l seen turn true is by shows =
    let shown : is_over s (snapshot s (history s (take turn.n seen)) (stamp_of (take turn.n seen) shows.now)) ≡ true = sym shows.shown.over ∙ is in
    let not_due : turn.wave ≡ NotDue = shows.shown.due.1 (none_due s (snapshot s (history s (take turn.n seen)) (stamp_of (take turn.n seen) shows.now)) shown) in
    let whole : turn.n ≡ length seen = shows.whole not_due in
    let two : LengthsOf turn.n NotDue l = subst (λ wave. LengthsOf turn.n wave l) not_due by in
    let all : take turn.n seen ≡ seen = ap (λ n. take n seen) whole ∙ take-length seen in
    record {
      before = two.0 ∷ [];
      last = two.1 ∙ ap (λ n. two.0 ∷ n ∷ []) whole;
      now = shows.now;
      moment = second_moment m shows.now shows.second;
      over = subst (λ es. is_over s (snapshot s (history s es) (stamp_of es shows.now)) ≡ true) all shown;
    }

-- a director's turn was made
pub works_by_turn : (s : Setup) (a d : State) (result : Result Turn TurnFault) → d.pass.number ≡ a.pass.number → Spends a d result
    → IsPrefix a.pass.seen d.pass.seen → IfOk result (λ turn. ShowsFirst s a.moments d.pass.seen turn)
    → (result ≡ Err fault.Full → IsFull s d.pass.seen) → Works s a d (end_by result)
works_by_turn s a d (Ok turn) number spends grown shows full = record {
  lengths = spends.lengths;
  spent = spends.spent;
  number = number;
  grown = grown;
  reason = over_or_not s a.moments spends.lengths d.pass.seen turn turn.over refl spends.by_answer shows;
}
works_by_turn s a d (Err fault.Full) number spends grown shows full = record {
  lengths = spends.lengths;
  spent = spends.spent;
  number = number;
  grown = grown;
  reason = full refl;
}
works_by_turn s a d (Err fault.OutOfMemory) number spends grown shows full = record {
  lengths = spends.lengths;
  spent = spends.spent;
  number = number;
  grown = grown;
  reason = tt;
}

-- a worker whose pass had taken no turn has worked, and has ended
pub worked : (lobby : Lock Setup) (a d : State) (end : WorkerEnd) → a.pass.turns ≡ [] → IsReady lobby d.pass → Works lobby.fixed a d (Some end)
    → HasWorked lobby a.pass.number a.moments d.pass
worked lobby a d end fresh ready w = record {
  ready = ready;
  same = w.number;
  end = end;
  reason = subst (λ l. IsReason lobby.fixed a.moments l d.pass.seen end) (sym (w.spent.turns ∙ ap (λ l. l ++ w.lengths) fresh)) w.reason;
}
