-- What a director's turn leaves of its pass and its clock, from its steps.
use Rattle.std.proofs.Common.{◌≡◌, ℕ, zero, suc, ◌+◌, ◌<◌, ◌≤◌, ◌⊎◌, inl, inr, true, false, List, [], ◌∷◌, ◌++◌, length, take, Option, Some, None, Result, Ok, Err, refl, sym, ap, ◌∙◌, subst, append-nil, arith, length-append}
use Rattle.std.specs.Prelude.{◌↔◌, IfOk}
use Rattle.std.proofs.Math.Seq.{take-append_seam}
use mathlib.Core.List.{IsPrefix}
use Rattle.conn.specs.Moments.{Ticks}
use Rattle.entries.specs.declared.journal.Entry.{Entry}
use Rattle.entries.specs.declared.journal.What.TheVariants.{Tick}
use Rattle.entries.specs.declared.setup.Setup.{Setup}
use Rattle.entries.specs.Limits.{max_entries, max_games}
use Rattle.wave.specs.declared.snapshot.Snapshot.{Snapshot}
use Rattle.arena_history.specs.HistoryLaws.{HasItsEntries}
use Rattle.arena_history.specs.Snapshots.{snapshot}
use Rattle.arena_history.specs.Stamps.{stamp_of}
use Rattle.arena_history.specs.Waves.{history, started}
use Rattle.arena_rules.specs.declared.command.Command.TheVariants as command
use Rattle.arena_rules.specs.declared.commit_fault.CommitFault.{CommitFault}
use Rattle.arena_rules.specs.declared.commit_fault.CommitFault.TheVariants as fault
use Rattle.arena_rules.specs.CauseLaws.{FullComesLast, FullMeans}
use Rattle.arena_rules.specs.Commits.{commit_refusal}
use Rattle.director.specs.declared.turn.Turn.{Turn}
use Rattle.director.specs.declared.turn.TurnFault.{TurnFault}
use Rattle.director.specs.declared.turn.TurnFault.TheVariants.{Full, OutOfMemory}
use Rattle.director.specs.declared.turn.WaveEnd.{WaveEnd}
use Rattle.director.specs.declared.turn.WaveEnd.TheVariants.{NotDue, Started, Early, Closed}
use Rattle.director.specs.Due.{is_due}
use Rattle.director.specs.Gains.{LengthsOf, LengthsBy, Spends, looks_of, waves_of, Gained, Adds, IsShownBy, IsSecond, ShowsFirst, IsFull}
use Rattle.director.specs.Steps.{State, stamp, FoundFull, Snapped, Committed}
use Rattle.director.specs.Turns.{Prepared, Ends, Directed, EndedAtSnapshot, EndedAtCommit, EndsIn, Directs}
use Rattle.director.proofs.Grown.{Grew, stayed, by_nothing, by_look, by_started, by_fault, in_a_row}

-- all that the steps of a turn leave
pub record Leaves (s : Setup) (a d : State) (result : Result Turn TurnFault) : Type 0 where
  pub number : d.pass.number ≡ a.pass.number
  pub turns : Spends a d result
  pub own : Adds a.pass d.pass result
  pub seen : IsPrefix a.pass.seen d.pass.seen
  pub n : IfOk result (λ turn. length a.pass.seen ≤ turn.n)
  pub shown : IfOk result (λ turn. ShowsFirst s a.moments d.pass.seen turn)
  pub full : result ≡ Err Full → IsFull s d.pass.seen

-- the look and the snapshot
prepared_grew : (s : Setup) (a c : State) (ended : ℕ) (snap : Snapshot) → (p : Prepared s a c ended snap) → Grew a c (length p.b.pass.seen ∷ length c.pass.seen ∷ []) (looks_of ended)
prepared_grew s a c ended snap p =
    subst (λ l. Grew a c (length p.b.pass.seen ∷ length c.pass.seen ∷ []) l) (append-nil (looks_of ended))
    (in_a_row a p.b c (length p.b.pass.seen ∷ []) (length c.pass.seen ∷ []) (looks_of ended) [] (by_look s a p.b ended p.looked) (by_nothing p.b c p.snapped.nothing))

snap_len : HasItsEntries → (s : Setup) (b c : State) (snap : Snapshot) → Snapped s b c snap → snap.n ≡ length c.pass.seen
unfolding snapshot
snap_len law s b c snap x = ap (λ (made : Snapshot). made.n) x.taken ∙ ap length (law s c.pass.seen)

-- the third step, where there was one: with the first two its lengths are those of the answer, and its own entry too
record Third (c d : State) (n : ℕ) (end : WaveEnd) : Type 0 where
  lengths : List ℕ
  grew : Grew c d lengths (waves_of n end)
  told : (looked : ℕ) → LengthsOf n end (looked ∷ n ∷ [] ++ lengths)

unmoved : (c d : State) → d ≡ c → Grew c d [] []
unmoved c d same = subst (λ x. Grew c x [] []) (sym same) (stayed c)

third : (s : Setup) (c d : State) (snap : Snapshot) (end : WaveEnd) → Ends s c d snap end → Third c d snap.n end
third s c d snap NotDue e = record { lengths = []; grew = unmoved c d e.1; told = λ looked. (looked, refl) }
third s c d snap (Started count) e = record {
  lengths = length d.pass.seen ∷ [];
  grew = by_started s c d snap.n count e.committed;
  told = λ looked. (looked, length d.pass.seen, refl);
}
third s c d snap Early e = record {
  lengths = length d.pass.seen ∷ [];
  grew = by_fault s c d snap.n fault.Early e.committed;
  told = λ looked. (looked, length d.pass.seen, refl);
}
third s c d snap Closed e = record {
  lengths = length d.pass.seen ∷ [];
  grew = by_fault s c d snap.n fault.Closed e.committed;
  told = λ looked. (looked, length d.pass.seen, refl);
}

-- no wave was due exactly where the answer says so
due_told : (s : Setup) (c d : State) (snap : Snapshot) (end : WaveEnd) → Ends s c d snap end → (end ≡ NotDue) ↔ (is_due s snap ≡ false)
due_told s c d snap NotDue e = (λ is. e.0, λ none. refl)
due_told s c d snap (Started count) e = (λ is. cc, λ none. let bad : true ≡ false = sym e.due ∙ none in cc)
due_told s c d snap Early e = (λ is. cc, λ none. let bad : true ≡ false = sym e.due ∙ none in cc)
due_told s c d snap Closed e = (λ is. cc, λ none. let bad : true ≡ false = sym e.due ∙ none in cc)

-- where no wave was due the snapshot was the last step
last_step : (s : Setup) (c d : State) (snap : Snapshot) (end : WaveEnd) → Ends s c d snap end → end ≡ NotDue → length c.pass.seen ≡ length d.pass.seen
last_step s c d snap NotDue e is = ap (λ (x : State). length x.pass.seen) (sym e.1)
last_step s c d snap (Started count) e is = cc
last_step s c d snap Early e is = cc
last_step s c d snap Closed e is = cc

-- what was seen first is the beginning of what is seen then
first_seen : (now first more : List Entry) (n : ℕ) → n ≡ length first → now ≡ first ++ more → take n now ≡ first
first_seen now first more n long is = ap (λ k. take k now) long ∙ (ap (take (length first)) is ∙ take-append_seam first more)

longer : {A : Type 0} (now first more : List A) → now ≡ first ++ more → length first ≤ length now
longer now first more is = let sum : length now ≡ length first + length more = ap length is ∙ length-append first more in omega (arith, sum)

one_look : (s : Setup) (a d : State) (ended : ℕ) → Gained a.pass d.pass (looks_of ended) → Gained a.pass d.pass [] ⊎ Gained a.pass d.pass (Tick ∷ [])
one_look s a d zero gained = inl gained
one_look s a d (suc ended) gained = inr gained

second : (m0 m1 m2 : Option (List ℕ)) (earlier now : ℕ) → Ticks m0 m1 earlier → Ticks m1 m2 now → IsSecond m0 now
second None m1 m2 earlier now first next = tt
second (Some told) m1 m2 earlier now first next = (subst (λ m. Ticks m m2 now) first.1 next).0

-- a snapshot is one of these entries at its moment, where the pass has seen these
is_first : (s : Setup) (b c : State) (snap : Snapshot) → (x : Snapped s b c snap) → (first : List Entry) → first ≡ c.pass.seen → snap ≡ snapshot s (history s first) (stamp_of first x.nothing.step.now)
is_first s b c snap x first is =
    x.taken ∙ (ap (λ (es : List Entry). snapshot s (history s c.pass.seen) (stamp_of es x.nothing.step.now)) (sym x.nothing.entries) ∙ ap (λ (es : List Entry). snapshot s (history s es) (stamp_of es x.nothing.step.now)) (sym is))

-- the laws of causes and of entries that say when a journal is full
pub record Causes : Type 0 where
  pub entries : HasItsEntries
  pub full_last : FullComesLast
  pub full : FullMeans

full_look : Causes → (s : Setup) (a d : State) → FoundFull s a d → IsFull s d.pass.seen
full_look laws s a d x =
    inl (subst (λ (es : List Entry). max_entries ≤ length es) (laws.entries s d.pass.seen) ((laws.full_last s (history s d.pass.seen) (stamp x.nothing.step) command.Tick).0 x.refused).1)

-- the third step goes on behind the second
known : (s : Setup) (c d : State) (n : ℕ) (f : CommitFault) → Committed s c d n (Err f) → length c.pass.seen ≤ length d.pass.seen
known s c d n f x = let g = by_fault s c d n f x in longer d.pass.seen c.pass.seen g.more g.seen

full_by : Causes → (s : Setup) (es : List Entry) (n : ℕ) → n ≤ length es → (max_entries ≤ length (history s es).entries) ⊎ (max_games < length (history s es).starts + length (started s (history s es) n)) → IsFull s es
full_by laws s es n few (inl many) = inl (subst (λ (l : List Entry). max_entries ≤ length l) (laws.entries s es) many)
full_by laws s es n few (inr more) = inr (n, few, more)

full_commit : Causes → (s : Setup) (a d : State) → EndedAtCommit s a d fault.Full → IsFull s d.pass.seen
full_commit laws s a d e =
    let c = e.planned.committed in
    let refused : commit_refusal s (history s d.pass.seen) (stamp c.step) e.snap.n ≡ Some fault.Full = subst (λ (es : List Entry). commit_refusal s (history s es) (stamp c.step) e.snap.n ≡ Some fault.Full) (sym c.answer.1) c.answer.0 in
    let few : e.snap.n ≤ length d.pass.seen = subst (λ k. k ≤ length d.pass.seen) (sym (snap_len laws.entries s e.prepared.b e.c e.snap e.prepared.snapped)) (known s e.c d e.snap.n fault.Full c) in
    full_by laws s d.pass.seen e.snap.n few ((laws.full s (history s d.pass.seen) (stamp c.step) e.snap.n).0 refused).3

abbrev fault_of : TurnFault → Result Turn TurnFault → TurnFault
fault_of f (Ok turn) = f
fault_of f (Err g) = g

stopped : (s : Setup) (a d : State) (f : TurnFault) (lengths : List ℕ) (ended : ℕ) → Grew a d lengths (looks_of ended) → LengthsBy (Err f) lengths → (f ≡ Full → IsFull s d.pass.seen) → Leaves s a d (Err f)
stopped s a d f lengths ended g told why = record {
  number = g.number;
  turns = record { lengths = lengths; spent = g.spent; by_answer = told };
  own = one_look s a d ended g.gained;
  seen = (g.more, sym g.seen);
  n = tt;
  shown = tt;
  full = λ is. why (ap (fault_of f) is);
}

-- a turn that ended at its commit
at_commit : (s : Setup) (a d : State) (f : CommitFault) → (e : EndedAtCommit s a d f) → Grew a d (length e.prepared.b.pass.seen ∷ length e.c.pass.seen ∷ length d.pass.seen ∷ []) (looks_of e.ended)
at_commit s a d f e =
    subst (λ l. Grew a d (length e.prepared.b.pass.seen ∷ length e.c.pass.seen ∷ length d.pass.seen ∷ []) l) (append-nil (looks_of e.ended))
    (in_a_row a e.c d (length e.prepared.b.pass.seen ∷ length e.c.pass.seen ∷ []) (length d.pass.seen ∷ []) (looks_of e.ended) []
    (prepared_grew s a e.c e.ended e.snap e.prepared)
    (by_fault s e.c d e.snap.n f e.planned.committed))

at_snapshot : (s : Setup) (a d : State) → (e : EndedAtSnapshot s a d) → Grew a d (length e.b.pass.seen ∷ length d.pass.seen ∷ []) (looks_of e.ended)
at_snapshot s a d e =
    subst (λ l. Grew a d (length e.b.pass.seen ∷ length d.pass.seen ∷ []) l) (append-nil (looks_of e.ended))
    (in_a_row a e.b d (length e.b.pass.seen ∷ []) (length d.pass.seen ∷ []) (looks_of e.ended) [] (by_look s a e.b e.ended e.looked) (by_nothing e.b d e.nothing))

never_full : (s : Setup) (d : State) → OutOfMemory ≡ Full → IsFull s d.pass.seen
never_full s d is = absurd (let bad : OutOfMemory ≡ Full = is in cc)

module _ (laws : Causes) (s : Setup) (a d : State) where
  faults : (f : TurnFault) → EndsIn s a d f → Leaves s a d (Err f)
  faults Full (inl x) = stopped s a d Full (length d.pass.seen ∷ []) zero (by_nothing a d x.nothing) (inl refl) (λ is. full_look laws s a d x)
  faults Full (inr e) = stopped s a d Full (length e.prepared.b.pass.seen ∷ length e.c.pass.seen ∷ length d.pass.seen ∷ []) e.ended (at_commit s a d fault.Full e) (inr refl) (λ is. full_commit laws s a d e)
  faults OutOfMemory (inl x) = stopped s a d OutOfMemory (length d.pass.seen ∷ []) zero (by_nothing a d x) (omega arith, omega arith) (never_full s d)
  faults OutOfMemory (inr (inl e)) = stopped s a d OutOfMemory (length e.b.pass.seen ∷ length d.pass.seen ∷ []) e.ended (at_snapshot s a d e) (omega arith, omega arith) (never_full s d)
  faults OutOfMemory (inr (inr (inl e))) = stopped s a d OutOfMemory (length e.prepared.b.pass.seen ∷ length d.pass.seen ∷ []) e.ended (prepared_grew s a d e.ended e.snap e.prepared) (omega arith, omega arith) (never_full s d)
  faults OutOfMemory (inr (inr (inr e))) = stopped s a d OutOfMemory (length e.prepared.b.pass.seen ∷ length e.c.pass.seen ∷ length d.pass.seen ∷ []) e.ended (at_commit s a d fault.OutOfMemory e) (omega arith, omega arith) (never_full s d)

  whole : (turn : Turn) → Directed s a d turn → Leaves s a d (Ok turn)
  whole turn t =
      let p = t.prepared in
      let looked = length p.b.pass.seen in
      let first = prepared_grew s a t.c turn.ended t.snap p in
      let last = third s t.c d t.snap turn.wave t.wave in
      let all = in_a_row a t.c d (looked ∷ length t.c.pass.seen ∷ []) last.lengths (looks_of turn.ended) (waves_of t.snap.n turn.wave) first last.grew in
      let long : turn.n ≡ length t.c.pass.seen = t.n ∙ snap_len laws.entries s p.b t.c t.snap p.snapped in
      let seen : take turn.n d.pass.seen ≡ t.c.pass.seen = first_seen d.pass.seen t.c.pass.seen last.grew.more turn.n long last.grew.seen in
      let step = p.snapped.nothing.step in
      record {
        number = all.number;
        turns = record {
          lengths = looked ∷ length t.c.pass.seen ∷ [] ++ last.lengths;
          spent = all.spent;
          by_answer = subst (λ m. LengthsOf turn.n turn.wave (looked ∷ m ∷ [] ++ last.lengths)) long (subst (λ k. LengthsOf k turn.wave (looked ∷ k ∷ [] ++ last.lengths)) (sym t.n) (last.told looked));
        };
        own = subst (λ n. Gained a.pass d.pass (looks_of turn.ended ++ waves_of n turn.wave)) (sym t.n) all.gained;
        seen = (all.more, sym all.seen);
        n = subst (λ k. length a.pass.seen ≤ k) (sym long) (longer t.c.pass.seen a.pass.seen first.more first.seen);
        shown = record {
          now = step.now;
          second = second a.moments p.b.moments t.c.moments p.looked.step.now step.now p.looked.step.ticks step.ticks;
          known = subst (λ k. k ≤ length d.pass.seen) (sym long) (longer d.pass.seen t.c.pass.seen last.grew.more last.grew.seen);
          whole = λ is. long ∙ last_step s t.c d t.snap turn.wave t.wave is;
          shown =
              subst (λ snap. IsShownBy s turn snap) (is_first s p.b t.c t.snap p.snapped (take turn.n d.pass.seen) seen)
              (record { idle = t.idle; over = t.over; due = due_told s t.c d t.snap turn.wave t.wave });
        };
        full = λ is. absurd (let bad : Ok turn ≡ Err Full = is in cc);
      }

  pub leaves : (result : Result Turn TurnFault) → Directs s a d result → Leaves s a d result
  leaves (Ok turn) t = whole turn t
  leaves (Err f) e = faults f e
