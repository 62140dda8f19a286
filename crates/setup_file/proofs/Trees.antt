-- The JSON value of bytes.
use Rattle.std.proofs.Common.{◌≡◌, ℕ, Bool, true, false, List, Option, Some, None, Err, refl, ap, if◌then◌else◌}
use Rattle.std.specs.Str.{IsUtf8, is_utf8}
use Rattle.std.proofs.lemmas.Str.{IsUtf8-from_is_utf8, is_utf8-from_IsUtf8}
use Rattle.serde_json.specs.Data.{Data}
use Rattle.serde_json.specs.Read.{read}
use Rattle.setup_file.specs.Members.{◌>>=◌, IsTree, tree_of, found}
use Rattle.setup_file.specs.declared.fault.Member.TheVariants.{Whole}
use Rattle.setup_file.specs.declared.fault.SetupCause.TheVariants.{NotJson}
use Rattle.setup_file.specs.Reading.{at, fault_of, read_tree, read_bytes}

-- it is the value that is read of a text
pub tree_is : (bytes : List ℕ) (d : Data) → IsUtf8 bytes → read bytes ≡ Some d → tree_of bytes ≡ Some d
tree_is bytes d text e = rw (is_utf8-from_IsUtf8 bytes text) e

-- there is none where none is read of a text
pub no_tree : (bytes : List ℕ) → (IsUtf8 bytes → read bytes ≡ None) → tree_of bytes ≡ None
no_tree bytes none = by (is_utf8 bytes) refl
  where
    by : (b : Bool) → is_utf8 bytes ≡ b → (if b then read bytes else None) ≡ None
    by true e = none (IsUtf8-from_is_utf8 bytes e)
    by false e = refl

-- bytes that are the text of no value have none
pub no_value : (bytes : List ℕ) → ((tree : Data) → ¬ IsTree bytes tree) → tree_of bytes ≡ None
no_value bytes none = no_tree bytes (λ text. by text (read bytes) refl)
  where
    by : IsUtf8 bytes → (o : Option Data) → read bytes ≡ o → o ≡ None
    by text None e = refl
    by text (Some tree) e = absurd (none tree (text, e))

-- the bytes of a value are read as the value is
pub read_as_tree : (bytes : List ℕ) (tree : Data) → IsTree bytes tree → read_bytes bytes ≡ read_tree tree
unfolding read_bytes
read_as_tree bytes tree is = ap (λ t. at Whole 0 (found NotJson t) >>= read_tree) (tree_is bytes tree is.0 is.1)

-- bytes of no value are no JSON
pub read_as_none : (bytes : List ℕ) → ((tree : Data) → ¬ IsTree bytes tree) → read_bytes bytes ≡ Err (fault_of Whole 0 NotJson)
unfolding read_bytes
read_as_none bytes none = ap (λ t. at Whole 0 (found NotJson t) >>= read_tree) (no_value bytes none)
