use Rattle.std.proofs.Common.{length, refl, ap, sym, ◌∙◌, arith}
use Rattle.arena_players.proofs.Fresh.{fresh_accounts, fresh_length, fresh_within, no_lines}
use Rattle.arena_players.proofs.scores.Scores.new.Goals as goal

pub invariant_of-result : goal.invariant_of-result
invariant_of-result c =
    let s = c.args.setup.now in
    let accounts = c.in_ok-accounts_of.field-0.items in
    let are = c.in_ok-accounts_of.ensures in
    record {
      few = omega arith;
      sized = c.in_ok-new.ensures.room ∙ (ap length c.items.ensures ∙ sym (fresh_length s.players accounts are));
      within = fresh_within (length s.teams) s.players accounts c.requires.players_good are;
    }

pub returns : goal.returns
returns c =
    let s = c.args.setup.now in
    let accounts = c.in_ok-accounts_of.field-0.items in
    let are = c.in_ok-accounts_of.ensures in
    record {
      counted = refl;
      size = fresh_length s.players accounts are;
      accounts = fresh_accounts s accounts are;
      lines = c.in_ok-new.ensures.lines ∙ sym (no_lines s);
    }
