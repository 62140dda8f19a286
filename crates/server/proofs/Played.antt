-- The workers of an evening, each beside its pass, before they work and once they have ended.
use Rattle.std.proofs.Common.{◌≡◌, ℕ, ◌<◌, ◌+◌, zero, suc, List, [], ◌∷◌, ◌++◌, length, map, take, drop, Option, refl, sym, ap, ◌∙◌, subst, arith, zero-add}
use Rattle.std.specs.Prelude.{slice_index_or, vec_len}
use Rattle.std.specs.List.{All, range_with_len, zip}
use mathlib.Core.List.{IsPrefix}
use Rattle.entries.specs.declared.journal.Entry.{Entry}
use Rattle.entries.specs.declared.setup.Setup.{Setup}
use Rattle.turnstile.specs.Histories.{own}
use Rattle.turnstile.specs.Passes.{Lock, new_pass, own_of}
use Rattle.arena_lock.specs.Turns.{IsReady, Pass, pass_of}
use Rattle.arena_rules.specs.Legal.{IsLegal}
use Rattle.server.specs.declared.shift.Shift.{Shift}
use Rattle.server.specs.declared.workers.Worker.{Worker}
use Rattle.server.specs.Evenings.{HasEnded, IsEvening}
use Rattle.server.specs.Shifts.{HasWorked}
use Rattle.server.proofs.Others.{by_others}
use Rattle.server.proofs.Pairs.{firsts, seconds}
use Rattle.server.proofs.Shifts.{Counts, all_ended, all_ready, map_twice, of_mapped}

pub length_mapped : {X Y : Type 0} (f : X → Y) (xs : List X) → length (map f xs) ≡ length xs
length_mapped f [] = refl
length_mapped f (x ∷ xs) = ap (λ n. suc n) (length_mapped f xs)

-- of a list with another behind it, as many as it has are the list
pub take_at : {X : Type 0} (xs ys : List X) (n : ℕ) → length xs ≡ n → take n (xs ++ ys) ≡ xs
take_at [] ys zero same = refl
take_at [] ys (suc n) same = absurd (omega (arith, same))
take_at (x ∷ xs) ys zero same = absurd (omega (arith, same))
take_at (x ∷ xs) ys (suc n) same = ap (λ l. x ∷ l) (take_at xs ys n (omega (arith, same)))

-- items whose passes are new have them in the order of their numbers
news_at : {X : Type 0} (lobby : Lock Setup) (of : X → Pass) (first n : ℕ) (xs : List X) → map of xs ≡ map (new_pass lobby) (range_with_len first n)
    → (i : ℕ) (d : X) → i < length xs → of (slice_index_or xs i d) ≡ new_pass lobby (first + i)
news_at lobby of first n [] is i d below = absurd (omega (arith, below))
news_at lobby of first zero (x ∷ xs) is i d below = absurd (let bad : of x ∷ map of xs ≡ [] = is in cc)
news_at lobby of first (suc n) (x ∷ xs) is zero d below =
    let here : first ≡ first + 0 = omega arith in
    ap (λ (l : List Pass). slice_index_or l 0 (of x)) is ∙ ap (λ k. new_pass lobby k) here
news_at lobby of first (suc n) (x ∷ xs) is (suc i) d below =
    let next : first + 1 + i ≡ first + suc i = omega arith in
    news_at lobby of (first + 1) n xs (ap (λ (l : List Pass). drop 1 l) is) i d (omega (arith, below)) ∙ ap (λ k. new_pass lobby k) next

module _ (lobby : Lock Setup) {D C V : Type 0} (ps : List Pass) (ws : List (Worker D C V)) (items : List (Shift D C V)) (same : length ps ≡ length ws) (made : items ≡ map (λ (p : Pass × Worker D C V). record { pass = p.0; worker = p.1 }) (zip ps ws)) where
  passes : map (λ (x : Shift D C V). x.pass) items ≡ ps
  passes = ap (λ l. map (λ (x : Shift D C V). x.pass) l) made ∙ firsts (λ (p : Pass × Worker D C V). record { pass = p.0; worker = p.1 }) (λ (x : Shift D C V). x.pass) (λ p w. refl) ps ws same

  workers : map (λ (x : Shift D C V). x.worker) items ≡ ws
  workers = ap (λ l. map (λ (x : Shift D C V). x.worker) l) made ∙ seconds (λ (p : Pass × Worker D C V). record { pass = p.0; worker = p.1 }) (λ (x : Shift D C V). x.worker) (λ p w. refl) ps ws same

  pub as_many : length items ≡ length ws
  as_many = sym (length_mapped (λ (x : Shift D C V). x.worker) items) ∙ ap (λ l. length l) workers

  pub start_ready : All (IsReady lobby) ps → All (λ (x : Shift D C V). IsReady lobby x.pass) items
  start_ready ready = of_mapped (IsReady lobby) (λ (x : Shift D C V). x.pass) items (subst (All (IsReady lobby)) (sym passes) ready)

  module _ (new : ps ≡ map (new_pass lobby) (range_with_len 0 lobby.passes)) where
    new_at : (i : ℕ) (d : Shift D C V) → i < length items → (slice_index_or items i d).pass ≡ new_pass lobby (0 + i)
    new_at = news_at lobby (λ (x : Shift D C V). x.pass) 0 lobby.passes items (passes ∙ new)

    pub start_fresh : All (λ (x : Shift D C V). x.pass.turns ≡ []) items
    start_fresh = λ i d below. ap (λ (p : Pass). p.turns) (new_at i d below)

    pub start_counts : Counts (λ (x : Shift D C V). x.pass.number) 0 items
    start_counts = λ i d below. ap (λ (p : Pass). p.number) (new_at i d below)

  pub have_solvers : All (λ (w : Worker D C V). 0 < vec_len w.solvers) ws → All (λ (x : Shift D C V). 0 < vec_len x.worker.solvers) items
  have_solvers some = of_mapped (λ (w : Worker D C V). 0 < vec_len w.solvers) (λ (x : Shift D C V). x.worker) items (subst (All (λ (w : Worker D C V). 0 < vec_len w.solvers)) (sym workers) some)

  module _ (moments : C → Option (List ℕ)) (news : List (Shift D C V)) (len : length news ≡ length items) (worked : (i : ℕ) (d : Shift D C V) → i < length items → HasWorked lobby (slice_index_or items i d).pass.number (moments (slice_index_or items i d).worker.clock) (slice_index_or news i d).pass) where
    pub end_ready : All (IsReady lobby) (map (λ (x : Shift D C V). x.pass) news)
    end_ready = all_ready lobby (λ (x : Shift D C V). x.pass.number) (λ (x : Shift D C V). moments x.worker.clock) (λ (x : Shift D C V). x.pass) items news len worked

    clocks : map (λ (x : Shift D C V). moments x.worker.clock) items ≡ map (λ (w : Worker D C V). moments w.clock) ws
    clocks = sym (map_twice (λ (w : Worker D C V). moments w.clock) (λ (x : Shift D C V). x.worker) items) ∙ ap (λ l. map (λ (w : Worker D C V). moments w.clock) l) workers

    pub evening : ps ≡ map (new_pass lobby) (range_with_len 0 lobby.passes) → (es : List Entry) → IsLegal lobby.fixed es → All (λ (e : Entry). e.pass < lobby.passes) es → lobby.passes ≡ length ws
        → All (λ (p : Pass). IsPrefix p.seen es) (map (λ (x : Shift D C V). x.pass) news) → All (λ (p : Pass). own pass_of p.number es ≡ own_of pass_of p) (map (λ (x : Shift D C V). x.pass) news)
        → IsEvening lobby.fixed (map (λ (w : Worker D C V). moments w.clock) ws) es
    evening new es legal numbers number begins own = record {
      legal = legal;
      numbers = subst (λ n. All (λ (e : Entry). e.pass < n) es) (number ∙ sym (length_mapped (λ (w : Worker D C V). moments w.clock) ws)) numbers;
      ended =
          subst (λ told. (i : ℕ) (d : Option (List ℕ)) → i < length told → HasEnded lobby.fixed es i (slice_index_or told i d)) clocks
          (λ i d below. subst (λ n. HasEnded lobby.fixed es n (slice_index_or (map (λ (x : Shift D C V). moments x.worker.clock) items) i d)) (zero-add i)
          (all_ended lobby (λ (x : Shift D C V). x.pass.number) (λ (x : Shift D C V). moments x.worker.clock) (λ (x : Shift D C V). x.pass) es 0 items news len worked (start_counts new)
          (λ k e few. by_others pass_of (slice_index_or (map (λ (x : Shift D C V). x.pass) news) k e).number (slice_index_or (map (λ (x : Shift D C V). x.pass) news) k e).seen es (begins k e few) (own k e few))
          i d below));
    }
