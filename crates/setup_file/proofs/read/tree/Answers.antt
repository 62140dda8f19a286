use Rattle.std.proofs.Common.{◌∙◌, ap, sym, true≢false}
use Rattle.setup_file.specs.declared.fault.Member.TheVariants.{Whole}
use Rattle.setup_file.specs.declared.fault.SetupCause.TheVariants.{NotJson}
use Rattle.setup_file.specs.Members.{found}
use Rattle.setup_file.specs.Reading.{at}
use Rattle.setup_file.proofs.Trees.{tree_is, no_tree}
use Rattle.setup_file.proofs.read.tree.Goals as goal

pub returns-in-Ok : goal.returns-in-Ok
returns-in-Ok c = ap (λ t. at Whole 0 (found NotJson t)) (tree_is c.args.bytes.now _ c.in-Ok.ensures.ok.0 c.in-Ok.ensures.ok.1)

pub returns-else-is_memory : goal.returns-else-is_memory
returns-else-is_memory c =
    rw (c.into.ensures, c.fault_of.ensures) (ap (λ t. at Whole 0 (found NotJson t)) (no_tree c.args.bytes.now (c.in-Err.ensures.err (λ memory. true≢false (sym (c.is_memory.ensures.1 memory) ∙ c.if-is_memory.false)))))
