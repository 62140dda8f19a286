use Rattle.std.proofs.Common.{arith, ◌≡◌, ◌+◌, ◌-◌, ◌++◌, List, ℕ, length, ap, ◌∙◌}
use Rattle.std.specs.List.{slice_range}
use Rattle.http_lines.proofs.Buffers.{held_at_front}
use Rattle.http_lines.proofs.read_ahead.ReadAhead.read_more.Goals as goal

pub returns-in-Ok-clause-grew : goal.returns-in-Ok-clause-grew
returns-in-Ok-clause-grew g c =
    let self = c.self.inside in
    let held = ap (λ (l : List ℕ). slice_range l self.start self.end) c.deref_mut.ensures.value ∙ c.self.view_is in
    let put = c.in-Ok.ensures.grew in
    let new = c.read_behind-read.new.buffer in
    let fits : length new ≡ self.buffer.len = omega (arith, c.read_behind-read.auto.buffer, c.deref_mut.ensures.len) in (
      put.0,
      put.1,
      held_at_front self.buffer new (c.args.self.now ++ put.0) (self.end - self.start + c.in-Ok.count) fits (put.2 ∙ ap (λ (l : List ℕ). l ++ put.0) held),
      put.3,
    )

pub returns-in-Err-clause-failed : goal.returns-in-Err-clause-failed
returns-in-Err-clause-failed g c =
    let self = c.self.inside in
    let held = ap (λ (l : List ℕ). slice_range l self.start self.end) c.deref_mut.ensures.value ∙ c.self.view_is in
    let new = c.read_behind-read.new.buffer in
    let fits : length new ≡ self.buffer.len = omega (arith, c.read_behind-read.auto.buffer, c.deref_mut.ensures.len) in (
      held_at_front self.buffer new c.args.self.now (self.end - self.start) fits (c.in-Err.ensures.same ∙ held),
      c.in-Err.ensures.failed,
    )
