-- A replay that was not hindered ends as its text says.
use Rattle.std.proofs.Common.{ℕ, List, Option, Some, None, IfSome, sym, ap, subst, inl}
use Rattle.conn.specs.Told.{GaveAll}
use Rattle.replay.specs.Fates.{Fate}
use Rattle.replay.specs.Replayed.{OneFate, Replayed}
use Rattle.replay.specs.Replays.{HadFate, end_due, MeetsFate}

-- what was read of a source comes to what the source's bytes come to
pub had_fate : (told left : Option (List ℕ)) (bytes : List ℕ) (f : Fate) → GaveAll told left bytes → Replayed bytes f → HadFate told f
had_fate None left bytes f gave due = tt
had_fate (Some all) left bytes f gave due = subst (λ b. Replayed b f) (sym gave.0) due

-- a replay whose text comes to this ends as is due
pub ends_as_due : OneFate → (told : Option (List ℕ)) (f : Fate) → HadFate told f
    → IfSome told (λ bytes. (g : Fate) → Replayed bytes g → MeetsFate g (end_due f))
ends_as_due once None f had = tt
ends_as_due once (Some bytes) f had = λ g due. inl (ap end_due (once bytes f g had due))
