use Rattle.writer.proofs.Adding.{added_more}
use Rattle.writer.proofs.refusals.write_refused.Goals as goal

pub returns-clause-added : goal.returns-clause-added
returns-clause-added c =
    added_more c.bytes.ensures.added (added_more c.decimal.ensures.added (added_more c.bytes-2.ensures.added (added_more c.decimal-2.ensures.added c.bytes-3.ensures.added)))
