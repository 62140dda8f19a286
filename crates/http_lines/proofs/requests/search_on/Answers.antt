use Rattle.std.proofs.Common.{sym, ap, ◌∙◌}
use Rattle.std.proofs.lemmas.List.{take_rest}
use Rattle.http_lines.specs.HeadEnd.{found_from}
use Rattle.http_lines.proofs.Searching.{further, search_goes_on}
use Rattle.http_lines.proofs.requests.search_on.Goals as goal

pub returns-in-Ok : goal.returns-in-Ok
returns-in-Ok c =
    let bytes = c.args.bytes.now in
    let rest = ap (found_from c.args.place) (take_rest bytes c.args.searched) in
    sym (search_goes_on bytes c.args.searched c.args.place c.requires.within c.requires.so_far
    ∙ ap (further c.args.searched) (sym rest ∙ sym c.find_end.ensures.found ∙ c.in-Ok.is))

pub returns-in-Err : goal.returns-in-Err
returns-in-Err c =
    let bytes = c.args.bytes.now in
    let rest = ap (found_from c.args.place) (take_rest bytes c.args.searched) in
    sym (search_goes_on bytes c.args.searched c.args.place c.requires.within c.requires.so_far
    ∙ ap (further c.args.searched) (sym rest ∙ sym c.find_end.ensures.found ∙ c.in-Err.is))
