use Rattle.std.proofs.Common.{◌≡◌, ◌≤◌, ◌+◌, ◌-◌, take, drop, length, sym, ap, ◌∙◌, arith}
use Rattle.std.proofs.lemmas.List.{drop_all}
use Rattle.conn.specs.Memory.{Supply}
use Rattle.conn.proofs.Pieces.{front_and_rest}
use Rattle.conn.proofs.mem_source.MemSourceSource.read.Goals as goal

pub returns-clause-bytes : goal.returns-clause-bytes
returns-clause-bytes c =
    let bytes = c.self.inside.bytes.items in
    let at = c.self.inside.at in
    let count = c.min-count.result in
    let piece = c.copy_from_slice.new.self in
    let within : at + count ≤ length bytes = omega arith in
    let taken : piece ≡ take count (drop at bytes) = c.copy_from_slice.ensures.after ∙ (λ i. take ((at + count) - at) (drop at (c.deref-2.ensures.value i))) ∙ ap (λ k. take k (drop at bytes)) (omega arith) in
    let left : c.args.self.now.left ≡ drop at bytes = ap (λ (s : Supply). s.left) (sym c.self.view_is) in (
      left ∙ front_and_rest bytes piece _ at count taken within,
      (λ none some. drop_all (at + count) bytes (omega arith)),
    )
