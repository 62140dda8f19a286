-- What is read of words.
use Rattle.std.proofs.Common.{◌≡◌, ℕ, ◌<◌, ◌≤◌, ◌^◌, List, [], ◌∷◌, length, get_or, arith, refl, sym, ◌∙◌}
use Rattle.std.proofs.lemmas.Fmt.{decimal_injective}
use Rattle.decimals.specs.Decimals.{Says}
use Rattle.arena_main.specs.Forms.{IsWithin}

pub says_one : (word : List ℕ) (m n : ℕ) → Says word m → Says word n → m ≡ n
says_one word m n x y =
    let m_small : m < 2 ^ 64 = omega (arith, x.small) in
    let n_small : n < 2 ^ 64 = omega (arith, y.small) in
    decimal_injective m n m_small n_small (sym x.spelled ∙ y.spelled)

-- a word that says a number below the range says none in it, and so does one that says a number above it
pub too_low : (word : List ℕ) (least most n : ℕ) → Says word n → n < least → (m : ℕ) → IsWithin least most word m → ⊥
too_low word least most n said below m w =
    let same : n ≡ m = says_one word n m said w.said in
    let low = w.low in
    absurd (omega arith)

pub too_high : (word : List ℕ) (least most n : ℕ) → Says word n → most < n → (m : ℕ) → IsWithin least most word m → ⊥
too_high word least most n said above m w =
    let same : n ≡ m = says_one word n m said w.said in
    let high = w.high in
    absurd (omega arith)
