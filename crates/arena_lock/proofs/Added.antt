-- A turn adds nothing but the one entry of its pass.
use Rattle.std.proofs.Common.{◌≡◌, ℕ, List, [], ◌∷◌, ◌++◌, true, Result, Ok, Err, refl, sym, ap, subst, ◌∙◌}
use Rattle.std.proofs.lemmas.List.{append-nil}
use Rattle.std.proofs.lemmas.List.Elements.{All-cons, All-nil}
use Rattle.entries.specs.declared.journal.Entry.{Entry}
use Rattle.entries.specs.declared.setup.Setup.{Setup}
use Rattle.pair_cost.specs.declared.candidate.Pair.{Pair}
use Rattle.arena_history.specs.Stamps.{stamp_of}
use Rattle.arena_history.specs.Waves.{started, history}
use Rattle.arena_rules.specs.declared.command.Command.{Command}
use Rattle.arena_rules.specs.declared.commit_fault.CommitFault.{CommitFault}
use Rattle.arena_rules.specs.declared.commit_fault.CommitFault.TheVariants as fault
use Rattle.arena_rules.specs.declared.query.Reply.{Reply}
use Rattle.arena_rules.specs.Commands.{entry_of}
use Rattle.arena_rules.specs.Commits.{Commits, with_wave, wave_entry}
use Rattle.arena_core.specs.declared.fault.ApplyFault.{ApplyFault}
use Rattle.arena_core.specs.declared.fault.ApplyFault.TheVariants as apply_fault
use Rattle.arena_core.specs.Answers.{Answers}
use Rattle.turnstile.specs.Histories.{OnlyAdded}
use Rattle.arena_lock.specs.Turns.{Pass, pass_of}

pub nothing : (i : ℕ) (found left : List Entry) → left ≡ found → OnlyAdded pass_of i found left
nothing i found left same = record { new = []; goes_on = same ∙ sym (append-nil found); by_one = All-nil (λ (e : Entry). pass_of e ≡ i) }

one : (i : ℕ) (found left : List Entry) (e : Entry) → e.pass ≡ i → left ≡ found ++ e ∷ [] → OnlyAdded pass_of i found left
one i found left e his more = record { new = e ∷ []; goes_on = more; by_one = All-cons (λ (x : Entry). pass_of x ≡ i) e [] his (All-nil (λ (x : Entry). pass_of x ≡ i)) }

pub by_command : (s : Setup) (found left : List Entry) (i now : ℕ) (c : Command) (result : Result Reply ApplyFault) → Answers s found i now c left result → OnlyAdded pass_of i found left
by_command s found left i now c (Ok reply) a = one i found left (entry_of (stamp_of found now) i c) refl a.entries
by_command s found left i now c (Err (apply_fault.Refused r)) a = nothing i found left a.1
by_command s found left i now c (Err apply_fault.OutOfMemory) a = nothing i found left a.1

by_wave : (i : ℕ) (found left : List Entry) (e : Entry) (pairs : List Pair) → e.pass ≡ i → left ≡ with_wave found e pairs → OnlyAdded pass_of i found left
by_wave i found left e [] his is = nothing i found left is
by_wave i found left e (pair ∷ pairs) his is = one i found left e his is

pub by_commit : (s : Setup) (found left : List Entry) (i now n : ℕ) (result : Result ℕ CommitFault) → Commits s found i now n left result → OnlyAdded pass_of i found left
by_commit s found left i now n (Ok count) a = by_wave i found left (wave_entry (stamp_of found now) i n) (started s (history s found) n) refl a.entries
by_commit s found left i now n (Err fault.Early) a = nothing i found left a.1
by_commit s found left i now n (Err fault.Closed) a = nothing i found left a.1
by_commit s found left i now n (Err fault.Full) a = nothing i found left a.1
by_commit s found left i now n (Err fault.OutOfMemory) a = nothing i found left a.2

-- the pass that has the turn may leave with what its number alone added
pub may_leave : (old inside : Pass) (i : ℕ) (found left : List Entry) → i ≡ inside.number → inside ≡ record old { seen = found; has_turn = true } → OnlyAdded pass_of i found left → OnlyAdded pass_of inside.number inside.seen left
may_leave old inside i found left his in_turn added =
    let seen : inside.seen ≡ found = ap (λ (p : Pass). p.seen) in_turn in
    subst (λ (n : ℕ). OnlyAdded pass_of n inside.seen left) his (subst (λ (es : List Entry). OnlyAdded pass_of i es left) (sym seen) added)
