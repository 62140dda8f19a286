-- Names and visible paths are text.
use Rattle.std.proofs.Common.{◌≡◌, ℕ, zero, suc, ◌<◌, ◌≤◌, ◌==◌, List, [], ◌∷◌, Bool, true, false, refl, sym, arith, slice_index, true≢false, nat_le, ◌&&◌, ◌||◌}
use Rattle.std.proofs.lemmas.Bool.Decides.{nat_tests}
use Rattle.std.specs.List.{list_all}
use Rattle.std.specs.Str.{IsAscii, IsUtf8}
use Rattle.std.proofs.lemmas.Str.{IsUtf8-from_ascii}
use Rattle.std.proofs.lemmas.Str.Ascii.{IsAscii-nil}
use Rattle.matchit.specs.Level.{IsText}
use Rattle.entries.specs.Names.{is_name_byte, is_name, IsName}
use Rattle.api.specs.Calls.{is_visible}

pub and-true : (a b : Bool) → (a && b) ≡ true → (a ≡ true) × (b ≡ true)
and-true true b h = (refl, h)
and-true false b h = absurd (true≢false (sym h))

-- bytes that all pass a test which only bytes below 128 pass
ascii : (p : ℕ → Bool) → ((b : ℕ) → p b ≡ true → b < 128) → (bs : List ℕ) → list_all p bs ≡ true → IsAscii bs
ascii p small [] all = IsAscii-nil
ascii p small (b ∷ bs) all = at (and-true (p b) (list_all p bs) all) (ascii p small bs)
  where
    at : (p b ≡ true) × (list_all p bs ≡ true) → (list_all p bs ≡ true → IsAscii bs) → (i : ℕ) → slice_index (b ∷ bs) i < 128
    at parts ih zero = small b parts.0
    at parts ih (suc i) = ih parts.1 i

name-byte-small : (b : ℕ) → is_name_byte b ≡ true → b < 128
name-byte-small b h = grind (arith, nat_tests)

visible-small : (b : ℕ) → is_visible b ≡ true → b < 128
visible-small b h = grind (arith, nat_tests)

pub name_is_text : (name : List ℕ) → IsName name → IsUtf8 name
name_is_text name h = IsUtf8-from_ascii name (ascii is_name_byte name-byte-small name (and-true _ _ h).1)

pub path_is_text : (path : List ℕ) → list_all is_visible path ≡ true → IsUtf8 path
path_is_text path h = IsUtf8-from_ascii path (ascii is_visible visible-small path h)

-- a visible path is one of bytes
pub path_of_bytes : (path : List ℕ) → list_all is_visible path ≡ true → IsText path
path_of_bytes [] h = tt
path_of_bytes (b ∷ path) h =
    let parts = and-true (is_visible b) (list_all is_visible path) h in
    let small : b < 128 = visible-small b parts.0 in
    (omega arith, path_of_bytes path parts.1)
