-- Legal lists are fair: what holds of all lists, told of them.
use Rattle.std.proofs.Common.{◌≡◌, ℕ, ◌≤◌, List, take, length, Some, sym, ap, subst, arith}
use Rattle.std.specs.Prelude.{slice_get, true, Contains}
use Rattle.std.proofs.lemmas.List.{take-take, length-take-le}
use Rattle.entries.specs.declared.setup.Setup.{Setup}
use Rattle.entries.specs.declared.journal.Entry.{Entry}
use Rattle.entries.specs.declared.journal.What.TheVariants as what
use Rattle.arena_history.specs.Snapshots.{plan}
use Rattle.arena_history.specs.Stands.{idle}
use Rattle.arena_history.specs.Waves.{history}
use Rattle.arena_history.proofs.Lists.{slice_get_within}
use Rattle.arena_rules.specs.Below.{LawsOfHistories}
use Rattle.arena_rules.specs.FairLaws.{StartsStillIdle, IsFair}
use Rattle.arena_rules.specs.Legal.{AllowsWhat, AllowsWave, IsLegal}

module _ (known : LawsOfHistories) (s : Setup) (es : List Entry) (legal : IsLegal s es) where
  wave_starts : (n m : ℕ) (e : Entry) → slice_get es n ≡ Some e → e.what ≡ what.Wave m → StartsStillIdle s es n m
  wave_starts n m e at is =
      let before = take n es in
      let h = history s before in
      let allowed : AllowsWave s h e.stamp m = subst (AllowsWhat s h e.stamp) is (legal.each n e at).granted in
      let long : length before ≡ n = length-take-le n es (let lt = slice_get_within es n e at in omega (arith, lt)) in
      let few : m ≤ n = omega (arith, allowed.known, ap length (known.entries s before), long) in
      record {
        games = known.begin s es n m e at is;
        pairs = λ x.
            let both = known.started s before m x in (
              (λ on.
                  let is_started = both.0 on in (
                    subst (λ l. Contains (plan s (history s l)).pairs x) (take-take m n es few) is_started.0,
                    (λ k low high. subst (λ l. (idle s (history s l) x.white ≡ true) × (idle s (history s l) x.black ≡ true)) (take-take k n es high) (is_started.1 k low (omega (arith, high, long)))),
                  )),
              (λ may.
                  both.1 (
                    subst (λ l. Contains (plan s (history s l)).pairs x) (sym (take-take m n es few)) may.0,
                    (λ k low high. let within : k ≤ n = omega (arith, high, long) in subst (λ l. (idle s (history s l) x.white ≡ true) × (idle s (history s l) x.black ≡ true)) (sym (take-take k n es within)) (may.1 k low within)),
                  )),
            );
      }

  pub fair : IsFair s es
  fair = record {
    one_game = λ i j p g k at at' white black. known.at_most_one s es i j p g k at at' white black;
    seated = known.played s es;
    counted = record { once = known.counted_once s es; no_other = known.counted s es };
    for_good = known.counted_stay s es;
    waves = wave_starts;
  }
