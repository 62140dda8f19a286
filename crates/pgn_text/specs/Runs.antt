-- Runs of bytes of one sort in front of a text.
use Rattle.std.specs.Prelude.{ℕ, ◌==◌, Bool, ◌||◌, not, List}
use Rattle.std.specs.List.{position_or_len}
use Rattle.pgn_text.specs.declared.runs.Run.{Run}
use Rattle.pgn_text.specs.declared.runs.Run.TheVariants.{Digits, Dots, Name, Value, Token, Skipped, Comment}
use Rattle.pgn_text.specs.Games.{is_digit, is_name_byte, is_value_byte}

-- space, tab, CR and LF are skipped
abbrev pub is_skipped : ℕ → Bool
is_skipped b = (b == 32) || (b == 9) || (b == 13) || (b == 10)

-- the bytes before which a run ends: a token goes up to the next skipped byte or the next `{`, which is 123, and a comment up
-- to the next `}`, which is 125; the others go on while their bytes do
abbrev pub ends : Run → ℕ → Bool
ends Digits b = not (is_digit b)
ends Dots b = not (b == 46)
ends Name b = not (is_name_byte b)
ends Value b = not (is_value_byte b)
ends Token b = is_skipped b || (b == 123)
ends Skipped b = not (is_skipped b)
ends Comment b = b == 125

-- how many bytes the run in front has
abbrev pub run_len : Run → List ℕ → ℕ
run_len run text = position_or_len (ends run) text
