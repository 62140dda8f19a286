use Rattle.std.proofs.Common.{◌≡◌, ◌≤◌, ◌∙◌, ap, subst, arith}
use Rattle.arena_history.specs.Stamps.{last_stamp, stamp_of}
use Rattle.arena_rules.specs.Legal.{IsLegal}
use Rattle.arena_core.specs.Written.{Written}
use Rattle.arena_core.proofs.book.Book.stamp.Goals as goal

pub returns-clause-not_before : goal.returns-clause-not_before
returns-clause-not_before c =
    let es = c.args.self.now.entries in
    let legal = subst (λ (b : Written). IsLegal b.setup b.entries) c.self.view_is c.self.invariant.legal in
    let late : last_stamp es ≤ stamp_of es c.args.now = (c.stamps_of_entries.ensures.stands c.args.self.now.setup es c.args.now legal).0 in
    let last : c.last_stamp-last.result ≡ last_stamp es = c.last_stamp-last.ensures ∙ ap last_stamp (c.as_slice.ensures.value ∙ ap (λ (b : Written). b.entries) c.self.view_is) in
    omega (arith, last, late)
