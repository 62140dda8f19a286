use Rattle.std.proofs.Common.{Result, Ok, Err, List, ℕ, subst}
use Rattle.std.specs.Prelude.{IfOk, length}
use Rattle.entries.specs.Ranges.{IsGood}
use Rattle.entries.specs.declared.setup.Setup.{Setup}
use Rattle.setup_file.specs.Keys.{AreKeysOf}
use Rattle.setup_file.specs.declared.fault.ReadSetupFault.{ReadSetupFault}
use Rattle.setup_file.specs.Reading.{Gives, read_bytes}
use Rattle.setup_file.proofs.Goods.{bytes_ok}
use Rattle.setup_file.proofs.Trees.{read_as_tree, read_as_none}
use Rattle.setup_file.proofs.read.read_setup.Goals as goal

-- what was read of bytes is good
given_good : (bytes : List ℕ) (r : Result (Setup × List (List ℕ)) ReadSetupFault) → Gives (λ read. read) r (read_bytes bytes) → IfOk r (λ read. IsGood read.0)
given_good bytes (Ok read) e = (bytes_ok bytes read e).0
given_good bytes (Err fault) e = tt

-- and has its keys
given_keyed : (bytes : List ℕ) (r : Result (Setup × List (List ℕ)) ReadSetupFault) → Gives (λ read. read) r (read_bytes bytes) → IfOk r (λ read. AreKeysOf (length read.0.players) read.1)
given_keyed bytes (Ok read) e = (bytes_ok bytes read e).1
given_keyed bytes (Err fault) e = tt

pub returns-clause-good : goal.returns-clause-good
returns-clause-good c = given_good c.args.bytes.now c.setup_of.result c.setup_of.ensures

pub returns-clause-keyed : goal.returns-clause-keyed
returns-clause-keyed c = given_keyed c.args.bytes.now c.setup_of.result c.setup_of.ensures

pub returns-clause-tree : goal.returns-clause-tree
returns-clause-tree c = λ tree is. subst (Gives (λ read. read) c.setup_of.result) (read_as_tree c.args.bytes.now tree is) c.setup_of.ensures

pub returns-clause-none : goal.returns-clause-none
returns-clause-none c = λ none. subst (Gives (λ read. read) c.setup_of.result) (read_as_none c.args.bytes.now none) c.setup_of.ensures
