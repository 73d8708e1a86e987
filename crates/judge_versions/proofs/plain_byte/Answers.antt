-- `judge_versions::plain_byte` meets its contract. Assumes nothing.
use Rattle.judge_versions.proofs.PlainLaws.{plain_one}
use Rattle.judge_versions.proofs.plain_byte.Goals as goal

pub returns : goal.returns
returns c = plain_one c.args.b
