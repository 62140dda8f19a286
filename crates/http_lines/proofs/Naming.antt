-- Fields found by their names.
use Rattle.std.proofs.Common.{◌≡◌, ℕ, Bool, true, false, cond, ◌&&◌, ◌||◌, List, [], ◌∷◌, Option, Some, None, refl, sym, ap, ◌∙◌}
use Rattle.std.specs.Prelude.{codes}
use Rattle.std.specs.List.{list_any}
use Rattle.http_lines.specs.Fields.{NameAndValue, is_named, first_named, has_close, closes_by}

-- a test of the fields of this name, by the first of them
abbrev pub any_from : (NameAndValue → Bool) → List ℕ → Option (NameAndValue × List NameAndValue) → Bool
any_from test name None = false
any_from test name (Some (field, rest)) = test field || list_any (λ f. is_named name f && test f) rest

named_first : (test : NameAndValue → Bool) (name : List ℕ) (field : NameAndValue) (fields : List NameAndValue) (named : Bool) → list_any (λ f. is_named name f && test f) fields ≡ any_from test name (first_named name fields) → ((named && test field) || list_any (λ f. is_named name f && test f) fields) ≡ any_from test name (cond named (Some (field, fields)) (first_named name fields))
named_first test name field fields true same = refl
named_first test name field fields false same = same

pub any_named : (test : NameAndValue → Bool) (name : List ℕ) (fields : List NameAndValue) → list_any (λ f. is_named name f && test f) fields ≡ any_from test name (first_named name fields)
any_named test name [] = refl
any_named test name (field ∷ fields) = named_first test name field fields (is_named name field) (any_named test name fields)

-- a Connection has the word `close`
abbrev closing : NameAndValue → Bool
closing field = has_close field.1

pub closes_by_none : (fields : List NameAndValue) → None ≡ first_named (codes "connection") fields → closes_by fields ≡ false
closes_by_none fields is =
    any_named closing (codes "connection") fields ∙ ap (any_from closing (codes "connection")) (sym is)

pub closes_by_first : (fields rest : List NameAndValue) (field : NameAndValue) → Some (field, rest) ≡ first_named (codes "connection") fields → closes_by fields ≡ (has_close field.1 || closes_by rest)
closes_by_first fields rest field is =
    any_named closing (codes "connection") fields ∙ ap (any_from closing (codes "connection")) (sym is)
