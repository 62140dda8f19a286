use Rattle.std.proofs.Common.{◌≡◌, ◌∙◌, ◌++◌, ◌∷◌, [], sym, ap, subst, length, take, map, List, arith}
use Rattle.std.proofs.lemmas.List.{take_all}
use Rattle.entries.specs.declared.journal.Entry.{Entry}
use Rattle.entries.specs.declared.journal.Start.{Start}
use Rattle.entries.specs.declared.setup.Setup.{Setup}
use Rattle.arena_rules.specs.Commits.{wave_entry}
use Rattle.arena_core.specs.Kept.{IsBook}
use Rattle.arena_core.specs.Starting.{start_at}
use Rattle.arena_core.specs.Written.{Written}
use Rattle.arena_core.proofs.Books.{wave_book}
use Rattle.arena_core.proofs.book.Book.add_wave.Goals as goal

pub invariant_of-self : goal.invariant_of-self
invariant_of-self c =
    let b = c.self.inside in
    let was = c.args.self.now in
    let t = c.args.stamp in
    let hs = c.args.headers.now in
    let book : IsBook was.setup was.entries b.starts.items b.last_wave = subst (λ (x : Written). IsBook x.setup x.entries b.starts.items b.last_wave) c.self.view_is c.self.invariant in
    let next = wave_book c.laws_of_histories.ensures c.legal_lists.ensures.one_more was.setup was.entries b.starts.items b.last_wave t c.args.pass c.args.n hs book c.requires.not_before c.requires.most c.requires.allowed c.requires.games in
    let setup : c.listing.self-inside.setup ≡ was.setup = c.listing.invariant.setup ∙ ap (λ (x : Written). x.setup) c.self.view_is in
    let pushed : c.push_reserved-2.new.self.items ≡ was.entries ++ wave_entry t c.args.pass c.args.n ∷ [] =
    c.push_reserved-2.ensures.items ∙ ap (λ l. l ++ wave_entry t c.args.pass c.args.n ∷ []) (ap (λ v. v.items) c.listing.invariant.entries ∙ ap (λ (x : Written). x.entries) c.self.view_is) in
    let entry : c.len-entry.result ≡ length was.entries = c.len-entry.ensures in
    let all : take c.listing.header-index hs ≡ hs = take_all c.listing.header-index hs (omega (arith, c.listing-test.false)) in
    let starts : c.listing.self-inside.starts.items ≡ b.starts.items ++ map (start_at (length was.entries)) hs =
    c.listing.invariant.starts ∙ (λ i. b.starts.items ++ map (start_at (entry i)) (all i)) in
    subst (λ (x : Setup × List Entry × List Start). IsBook x.0 x.1 x.2 (Rattle.std.proofs.Common.Some t)) (λ i. (sym setup i, sym pushed i, sym starts i)) next
