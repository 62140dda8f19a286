use Rattle.std.proofs.Common.{refl}
use Rattle.arena_core.proofs.Books.{new_book}
use Rattle.arena_core.proofs.book.Book.new.Goals as goal

pub invariant_of-result : goal.invariant_of-result
invariant_of-result c = new_book c.legal_lists.ensures.nothing c.args.setup _ _ _ c.requires c.new.ensures.items c.new-2.ensures.items refl
