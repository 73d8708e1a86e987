-- `judge_versions::plain_sixteen` meets its contract. Assumes nothing.
use Rattle.judge_versions.proofs.PlainLaws.{plain_sixteen}
use Rattle.judge_versions.proofs.plain_sixteen.Goals as goal

pub returns : goal.returns
returns c = plain_sixteen c.args.v.now c.args.i c.requires
