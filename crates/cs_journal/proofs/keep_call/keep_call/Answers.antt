use Rattle.std.proofs.Common.{◌≡◌, [], ap, rules, true}
use Rattle.std.specs.Prelude.{◌||◌}
use Rattle.cs_journal.proofs.Apart.{small_unless_write}
use Rattle.cs_journal.specs.Small.{is_small, is_write}
use Rattle.cs_journal.specs.Summaries.{without_bytes}
use Rattle.cs_journal.proofs.keep_call.keep_call.Goals as goal

pub of_small-entry-requires-clause-small : goal.of_small-entry-requires-clause-small
of_small-entry-requires-clause-small c =
    let apart : (is_small c.args.call.now || is_write c.args.call.now) ≡ true = search rules in
    small_unless_write c.args.call.now apart (λ call is. c.in_default-call.not-Write call is)

pub of_small-requires-clause-small : goal.of_small-requires-clause-small
of_small-requires-clause-small c =
    let apart : (is_small c.args.call.now || is_write c.args.call.now) ≡ true = search rules in
    small_unless_write c.args.call.now apart (λ call is. c.in_default-call.not-Write call is)

pub returns-in_default-call-clause-kept : goal.returns-in_default-call-clause-kept
returns-in_default-call-clause-kept c = record {
  lies = c.of_small-entry.ensures.lies c.args.journal.now.blocks;
  entry = c.of_small-entry.ensures.value c.args.journal.now.blocks;
  receipt = ap without_bytes (c.of_small.ensures.value []);
}
