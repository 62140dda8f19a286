-- What is said of a history whose entries bear numbers.
use Rattle.std.specs.Prelude.{◌≡◌, ◌≢◌, ℕ, eqb, List, ◌++◌, filter, All}

module _ {E : Type 0} (by : E → ℕ) (i : ℕ) where
  -- the entries that bear the number i
  abbrev pub own : List E → List E
  own history = filter (λ e. eqb (by e) i) history

  -- the history begins with what was seen, and no further entry bears the number i
  pub record OthersAdded (seen history : List E) : Type 0 where
    pub rest : List E
    pub goes_on : history ≡ seen ++ rest
    pub by_others : All (λ e. by e ≢ i) rest

  -- the history begins with what was seen, and each further entry bears the number i
  pub record OnlyAdded (seen history : List E) : Type 0 where
    pub new : List E
    pub goes_on : history ≡ seen ++ new
    pub by_one : All (λ e. by e ≡ i) new
