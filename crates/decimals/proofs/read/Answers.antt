use Rattle.std.proofs.Common.{◌≡◌, ℕ, Option, Some, None, sym, IfSome, IfNone, List}
use Rattle.decimals.specs.Decimals.{Says, number_of}
use Rattle.decimals.proofs.DecimalLemmas.{number_of-says, number_of-spelled}
use Rattle.decimals.proofs.read.Goals as goal

says : (word : List ℕ) (r : Option ℕ) → r ≡ number_of word → IfSome r (Says word)
says word None e = tt
says word (Some n) e = number_of-says word n (sym e)

none_says : (word : List ℕ) (r : Option ℕ) → r ≡ number_of word → IfNone r ((n : ℕ) → ¬ Says word n)
none_says word None e = λ n says. let other : number_of word ≡ Some n = number_of-spelled word n says in absurd cc
none_says word (Some n) e = tt

pub returns-clause-found : goal.returns-clause-found
returns-clause-found c = says c.args.word.now c.number.result c.number.ensures

pub returns-clause-none : goal.returns-clause-none
returns-clause-none c = none_says c.args.word.now c.number.result c.number.ensures
