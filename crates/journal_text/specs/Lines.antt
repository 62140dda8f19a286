-- Lines of words.
use Rattle.std.specs.Prelude.{ℕ, ◌==◌, Bool, true, false, List, [], ◌∷◌, ◌++◌, Option, None, Some, option_and_then}
use Rattle.std.specs.List.{join_with_byte, slice_split}
use Rattle.std.specs.Str.{bytes_eq}

-- the words, with one space between two
abbrev pub spaced : List (List ℕ) → List ℕ
spaced words = join_with_byte 32 words

-- a line has these words, and ends in one line feed
abbrev pub line : List (List ℕ) → List ℕ
line words = spaced words ++ 10 ∷ []

-- the parts between two such bytes, before the first and behind the last
abbrev pub parts_of : ℕ → List ℕ → List (List ℕ)
parts_of byte bytes = slice_split (λ b. b == byte) bytes

-- the lines of a text without their line feeds, and then what stands behind the last line feed
abbrev pub lines_of : List ℕ → List (List ℕ)
lines_of text = parts_of 10 text

-- the words of a line without its line feed: there is one more than it has spaces
abbrev pub words_of : List ℕ → List (List ℕ)
words_of bytes = parts_of 32 bytes

-- the words of what is left of a line, if something is left
abbrev pub words_left : Option (List ℕ) → List (List ℕ)
words_left None = []
words_left (Some bytes) = words_of bytes

-- the first part and those behind it, where there are some
abbrev pub first : List (List ℕ) → Option (List ℕ × List (List ℕ))
first [] = None
first (part ∷ []) = None
first (part ∷ after ∷ more) = Some (part, after ∷ more)

-- there are no words
abbrev pub no_words : List (List ℕ) → Bool
no_words [] = true
no_words (word ∷ words) = false

-- the first word and those behind it, if there are words
abbrev pub next_word : List (List ℕ) → Option (List ℕ × List (List ℕ))
next_word [] = None
next_word (word ∷ words) = Some (word, words)

-- the word, where there is just one
abbrev pub one : List (List ℕ) → Option (List ℕ)
one [] = None
one (word ∷ []) = Some word
one (word ∷ next ∷ more) = None

-- there is just one word, and it is this one
abbrev pub is_word : List ℕ → List (List ℕ) → Bool
is_word key [] = false
is_word key (word ∷ []) = bytes_eq word key
is_word key (word ∷ next ∷ more) = false

-- the words, where there are two
abbrev pub two : List (List ℕ) → Option (List ℕ × List ℕ)
two [] = None
two (word ∷ words) = option_and_then (λ last. Some (word, last)) (one words)

-- the words, where there are three
abbrev pub three : List (List ℕ) → Option (List ℕ × List ℕ × List ℕ)
three [] = None
three (word ∷ words) = option_and_then (λ (others : List ℕ × List ℕ). Some (word, others.0, others.1)) (two words)

-- the words, where there are four
abbrev pub four : List (List ℕ) → Option (List ℕ × List ℕ × List ℕ × List ℕ)
four [] = None
four (word ∷ words) = option_and_then (λ (others : List ℕ × List ℕ × List ℕ). Some (word, others.0, others.1, others.2)) (three words)
