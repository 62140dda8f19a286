-- A source and a sink in memory, as their callers see them.
use Rattle.std.specs.Prelude.{ℕ, ◌-◌, ◌<◌, ◌≡◌, ◌⊎◌, min, List, [], ◌++◌, take, drop, length, Contains, Result, Ok, Err}
use Rattle.conn.specs.Faults.{one_more}

-- a source: the bytes that it still gives, how many of them a call gives at most, how many calls were made, the numbers of
-- the calls that fail, and how many failed
pub record Supply : Type 0 where
  pub left : List ℕ
  pub piece : ℕ
  pub calls : ℕ
  pub fail : List ℕ
  pub faults : ℕ

-- a source of these bytes before its first call
abbrev pub supply_of : List ℕ → ℕ → List ℕ → Supply
supply_of bytes piece fail = record { left = bytes; piece = piece; calls = 0; fail = fail; faults = 0 }

-- the next read fails
abbrev pub WillFail : Supply → Type 0
WillFail s = Contains s.fail s.calls

-- how many bytes a read that does not fail puts into the buffer
abbrev pub given_count : Supply → List ℕ → ℕ
given_count s buf = min (min (length s.left) (length buf)) s.piece

-- the source after a read with this answer
abbrev pub after_read : {E : Type 0} → Supply → Result ℕ E → Supply
after_read s (Ok k) = record s { left = drop k s.left; calls = one_more s.calls }
after_read s (Err e) = record s { calls = one_more s.calls; faults = one_more s.faults }

-- a sink: the bytes that it holds, how many more it has room for, how many of them a call takes at most, how many calls were
-- made, the numbers of the calls that fail, and how many failed
pub record Store : Type 0 where
  pub held : List ℕ
  pub room : ℕ
  pub piece : ℕ
  pub calls : ℕ
  pub fail : List ℕ
  pub faults : ℕ

-- an empty sink of so much room before its first call
abbrev pub store_of : ℕ → ℕ → List ℕ → Store
store_of room piece fail = record { held = []; room = room; piece = piece; calls = 0; fail = fail; faults = 0 }

-- a write of these bytes fails: by the number of its call, or since there is a byte and no room
abbrev pub Refuses : Store → List ℕ → Type 0
Refuses s bytes = Contains s.fail s.calls ⊎ ((0 < length bytes) × (s.room ≡ 0))

-- how many of these bytes a write that does not fail takes
abbrev pub taken_count : Store → List ℕ → ℕ
taken_count s bytes = min (min (length bytes) s.room) s.piece

-- the sink after a write of these bytes with this answer
abbrev pub after_write : {E : Type 0} → Store → List ℕ → Result ℕ E → Store
after_write s bytes (Ok k) = record s { held = s.held ++ take k bytes; room = s.room - k; calls = one_more s.calls }
after_write s bytes (Err e) = record s { calls = one_more s.calls; faults = one_more s.faults }
