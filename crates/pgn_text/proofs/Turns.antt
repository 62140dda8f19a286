-- One item of a text after the other.
use Rattle.std.proofs.Common.{◌≡◌, ℕ, suc, zero, ◌-◌, ◌<◌, List, [], ◌∷◌, Option, Some, None, Result, Ok, Err, length, refl, sym, ap, subst, ◌∙◌, arith}
use Rattle.pgn_text.specs.declared.game.PgnResult.{PgnResult}
use Rattle.pgn_text.specs.declared.fault.PgnFault.{PgnFault}
use Rattle.pgn_text.specs.declared.fault.ReadPgnFault.{ReadPgnFault}
use Rattle.pgn_text.specs.declared.fault.ReadPgnFault.TheVariants.{Bad, OutOfMemory}
use Rattle.pgn_text.specs.declared.fault.PgnCause.TheVariants.{Result as NoResult}
use Rattle.pgn_text.specs.PgnReading.{Sofar, Item, item, ended, follow, run, fault_at, EndsIn}

less : (k : ℕ) → suc k - 1 ≡ k
less k = omega arith

-- the next item, and then what stands behind it
pub run_item : (total k : ℕ) (s : Sofar) (text : List ℕ) → length text < k → 0 < length text → run total k s text ≡ follow total (item total s text) (λ t rest. run total (k - 1) t rest)
unfolding run
run_item total zero s text h some = absurd (omega arith)
run_item total (suc k) s [] h some = absurd (omega arith)
run_item total (suc k) s (b ∷ bs) h some = ap (λ (n : ℕ). follow total (item total s (b ∷ bs)) (λ t rest. run total n t rest)) (sym (less k))

pub run_on : (total k : ℕ) (s t : Sofar) (text rest : List ℕ) → length text < k → 0 < length text → item total s text ≡ Ok (t, None, rest) → run total k s text ≡ run total (k - 1) t rest
run_on total k s t text rest h some e = run_item total k s text h some ∙ ap (λ (x : Result Item PgnFault). follow total x (λ u left. run total (k - 1) u left)) e

pub run_over : (total k : ℕ) (s t : Sofar) (text rest : List ℕ) (r : PgnResult) → length text < k → 0 < length text → item total s text ≡ Ok (t, Some r, rest) → run total k s text ≡ ended total t r rest
run_over total k s t text rest r h some e = run_item total k s text h some ∙ ap (λ (x : Result Item PgnFault). follow total x (λ u left. run total (k - 1) u left)) e

pub run_fault : (total k : ℕ) (s : Sofar) (text : List ℕ) (fault : PgnFault) → length text < k → 0 < length text → item total s text ≡ Err fault → run total k s text ≡ Err fault
run_fault total k s text fault h some e = run_item total k s text h some ∙ ap (λ (x : Result Item PgnFault). follow total x (λ u left. run total (k - 1) u left)) e

-- where nothing is left, the result is missing
pub run_end : (total k : ℕ) (s : Sofar) (text : List ℕ) → length text ≡ 0 → run total k s text ≡ Err (fault_at total text NoResult)
unfolding run
run_end total zero s [] h = refl
run_end total (suc k) s [] h = refl
run_end total zero s (b ∷ bs) h = absurd (omega arith)
run_end total (suc k) s (b ∷ bs) h = absurd (omega arith)

-- a fault of the item is one of the whole reading
pub fault_turns : (total k : ℕ) (s : Sofar) (text : List ℕ) (fault : ReadPgnFault) → length text < k → 0 < length text → EndsIn fault (item total s text) → EndsIn fault (run total k s text)
fault_turns total k s text (Bad fault) h some e = run_fault total k s text fault h some e
fault_turns total k s text OutOfMemory h some e = tt

-- what ends in a fault goes on to it
pub fault_goes : {Y : Type 0} (r : ReadPgnFault) (fault : PgnFault) (whole : Result Y PgnFault) → r ≡ Bad fault → whole ≡ Err fault → EndsIn r whole
fault_goes r fault whole e h = subst (λ (x : ReadPgnFault). EndsIn x whole) (sym e) h

pub run_on_by : (total k : ℕ) (s t : Sofar) (text rest : List ℕ) (o : Option PgnResult) → length text < k → 0 < length text → o ≡ None → item total s text ≡ Ok (t, o, rest) → run total k s text ≡ run total (k - 1) t rest
run_on_by total k s t text rest o h some none e = run_on total k s t text rest h some (e ∙ ap (λ (x : Option PgnResult). Ok (t, x, rest)) none)

pub run_over_by : (total k : ℕ) (s t : Sofar) (text rest : List ℕ) (o : Option PgnResult) (r : PgnResult) → length text < k → 0 < length text → o ≡ Some r → item total s text ≡ Ok (t, o, rest) → run total k s text ≡ ended total t r rest
run_over_by total k s t text rest o r h some is e = run_over total k s t text rest r h some (e ∙ ap (λ (x : Option PgnResult). Ok (t, x, rest)) is)
