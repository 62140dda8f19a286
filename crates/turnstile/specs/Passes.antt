-- What contracts tell of a turnstile and of a pass.
use Rattle.std.specs.Prelude.{◌≡◌, ℕ, List, [], Bool, false, Any, refl}
use Rattle.std.specs.Coded.{Coded, code_by, coded×, coded_ℕ, coded_bool, coded_list}
use Rattle.atomic_table.specs.Seated.{TableId, table_id_coded}
use Rattle.turnstile.specs.Histories.{own}

-- a turnstile: which one it is, the fixed part of its value, and its number of passes
pub record Lock (F : Type 0) : Type 0 where
  pub id : TableId
  pub fixed : F
  pub passes : ℕ

abbrev pub lock_code : {F : Type 0} → Coded F → Coded (Lock F)
lock_code {F} fixed = code_by (TableId × (F × ℕ)) (coded× table_id_coded (coded× fixed coded_ℕ)) (λ (t : Lock F). (t.id, (t.fixed, t.passes))) (λ p. record { id = p.0; fixed = p.1.0; passes = p.1.1 }) (λ _. refl)

-- a pass: its turnstile, its number, the history that it has seen, for each turn that it ended how long that history then was, and whether it has the turn
pub record PassState (E F : Type 0) : Type 0 where
  pub of : Lock F
  pub number : ℕ
  pub seen : List E
  pub turns : List ℕ
  pub has_turn : Bool

abbrev pub pass_code : {E F : Type 0} → Coded E → Coded F → Coded (PassState E F)
pass_code {E} {F} entry fixed =
    code_by (Lock F × (ℕ × (List E × (List ℕ × Bool)))) (coded× (lock_code fixed) (coded× coded_ℕ (coded× (coded_list entry) (coded× (coded_list coded_ℕ) coded_bool))))
    (λ (p : PassState E F). (p.of, (p.number, (p.seen, (p.turns, p.has_turn)))))
    (λ t. record { of = t.0; number = t.1.0; seen = t.1.1.0; turns = t.1.1.1.0; has_turn = t.1.1.1.1 })
    (λ _. refl)

-- how the pass of this number begins
abbrev pub new_pass : {E F : Type 0} → Lock F → ℕ → PassState E F
new_pass lock i = record { of = lock; number = i; seen = []; turns = []; has_turn = false }

-- the pass's own entries: of all that it has seen, those that bear its number
abbrev pub own_of : {E F : Type 0} → (E → ℕ) → PassState E F → List E
own_of by p = own by p.number p.seen

-- a pass of the list has the number i, and the entries of that number in the history are its own
abbrev pub IsTold : {E F : Type 0} → (E → ℕ) → List E → List (PassState E F) → ℕ → Type 0
IsTold by history passes i = Any (λ p. (p.number ≡ i) × (own by i history ≡ own_of by p)) passes
