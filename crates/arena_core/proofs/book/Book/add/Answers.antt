use Rattle.std.proofs.Common.{◌≡◌, ◌∙◌, ◌++◌, ◌∷◌, [], sym, ap, subst, List}
use Rattle.entries.specs.declared.journal.Entry.{Entry}
use Rattle.arena_rules.specs.Commands.{entry_of}
use Rattle.arena_core.specs.Kept.{IsBook}
use Rattle.arena_core.specs.Written.{Written}
use Rattle.arena_core.proofs.Books.{command_book}
use Rattle.arena_core.proofs.book.Book.add.Goals as goal

pub invariant_of-self : goal.invariant_of-self
invariant_of-self c =
    let b = c.self.inside in
    let was = c.args.self.now in
    let t = c.args.stamp in
    let book : IsBook was.setup was.entries b.starts.items b.last_wave = subst (λ (x : Written). IsBook x.setup x.entries b.starts.items b.last_wave) c.self.view_is c.self.invariant in
    let next = command_book c.laws_of_histories.ensures c.legal_lists.ensures.one_more c.what_is_allowed.ensures.allowed was.setup was.entries b.starts.items b.last_wave t c.args.pass c.args.c.now book c.requires.not_before c.requires.most c.requires.player c.requires.named c.requires.granted in
    let pushed : c.push_reserved.new.self.items ≡ was.entries ++ entry_of t c.args.pass c.args.c.now ∷ [] =
    c.push_reserved.ensures.items ∙ (λ i. ap (λ (x : Written). x.entries) c.self.view_is i ++ record { stamp = t; pass = c.args.pass; what = c.what_of-what.ensures i } ∷ []) in
    subst (λ (x : _ × List Entry). IsBook x.0 x.1 b.starts.items b.last_wave) (λ i. (sym (ap (λ (x : Written). x.setup) c.self.view_is) i, sym pushed i)) next
