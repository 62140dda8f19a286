use Rattle.std.proofs.Common.{◌∙◌, ap, ◌+◌, ◌++◌, ◌∷◌, []}
use Rattle.std.specs.Fmt.{decimal}
use Rattle.table_text.proofs.Lines.{player_pushed}
use Rattle.table_text.proofs.table.push_player.Goals as goal

pub returns : goal.returns
returns c =
    player_pushed c.extend_from_slice-4.result c.args.player.now c.args.row.now
    c.args.text.now.items c.extend_from_slice.new.self.items c.extend_from_slice-2.new.self.items c.extend_from_slice-3.new.self.items c.extend_from_slice-4.new.self.items
    c.as_bytes.result.now c.bytes.result.now c.as_bytes-2.result.now c.as_bytes-3.result.now
    (c.as_bytes.ensures.value ∙ c.in_ok-front.ensures.ok ∙ ap (λ r. decimal (r + 1) ++ 32 ∷ []) c.from.ensures) c.bytes.ensures (c.as_bytes-2.ensures.value ∙ c.in_ok-mid.ensures.ok) (c.as_bytes-3.ensures.value ∙ c.in_ok-back.ensures)
    c.in_ok-extend_from_slice.ensures.items c.in_ok-extend_from_slice-2.ensures.items c.in_ok-extend_from_slice-3.ensures.items c.extend_from_slice-4.ensures.items
