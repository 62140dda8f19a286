-- Laws of wishes: a leave is final, a pause ends, and who entered has asked for something.
use Rattle.std.specs.Prelude.{◌≡◌, ◌≢◌, ℕ, ◌<◌, ◌↔◌, List, [], ◌∷◌, ◌++◌, slice_get, Some, None, IsTrue}
use Rattle.entries.specs.declared.journal.Entry.{Entry}
use Rattle.entries.specs.declared.journal.What.TheVariants as what
use Rattle.entries.specs.declared.setup.Setup.{Setup}
use Rattle.seats.specs.declared.wish.Wish.TheVariants as wishes
use Rattle.arena_history.specs.Waves.{history}
use Rattle.arena_history.specs.Wishes.{wish, has_entered}
use Rattle.arena_rules.specs.declared.command.Command.TheVariants.{Enter, Pause, Leave}
use Rattle.arena_rules.specs.declared.refusal.Refusal.TheVariants as refusal
use Rattle.arena_rules.specs.Legal.{IsLegal}
use Rattle.arena_rules.specs.Verdicts.{closed_or, command_refusal, verdict}

-- whoever left stays so, whatever comes after, and is refused as such whatever he asks for while the arena is open
abbrev pub LeftIsRefused : Type 0
LeftIsRefused = (s : Setup) (es more : List Entry) (p t : ℕ)
    → wish s (history s es) p ≡ wishes.Left
    → (wish s (history s (es ++ more)) p ≡ wishes.Left)
    × (verdict s (history s (es ++ more)) t (Enter p) ≡ closed_or s t (Some refusal.Left))
    × (verdict s (history s (es ++ more)) t (Pause p) ≡ closed_or s t (Some refusal.Left))
    × (verdict s (history s (es ++ more)) t (Leave p) ≡ closed_or s t (Some refusal.Left))

-- in a legal list a player neither enters nor pauses nor leaves behind his leave
abbrev pub NobodyComesBack : Type 0
NobodyComesBack = (s : Setup) (es : List Entry) (i j p : ℕ) (e f : Entry)
    → IsLegal s es
    → i < j
    → slice_get es i ≡ Some e
    → slice_get es j ≡ Some f
    → e.what ≡ what.Leave p
    → (f.what ≢ what.Enter p) × (f.what ≢ what.Pause p) × (f.what ≢ what.Leave p)

-- whoever pauses is not refused for his wish when he enters or leaves, and is in once he enters
abbrev pub PausesEnd : Type 0
PausesEnd = (s : Setup) (es : List Entry) (p t : ℕ) (e : Entry)
    → wish s (history s es) p ≡ wishes.Paused
    → (command_refusal s (history s es) t (Enter p) ≡ closed_or s t None)
    × (command_refusal s (history s es) t (Leave p) ≡ closed_or s t None)
    × (e.what ≡ what.Enter p → wish s (history s (es ++ e ∷ [])) p ≡ wishes.In)

-- in a legal list exactly those players entered who have asked for something
abbrev pub EnteredHaveAsked : Type 0
EnteredHaveAsked = (s : Setup) (es : List Entry) (p : ℕ)
    → IsLegal s es
    → IsTrue (has_entered (history s es) p) ↔ (wish s (history s es) p ≢ wishes.Absent)
