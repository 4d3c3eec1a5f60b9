use Rattle.text.proofs.Steps.{step_goes}
use Rattle.text.proofs.reader.Reader.comment.Goals as goal

pub returns : goal.returns
returns c = step_goes _ _ _ _ _ _ _ c.pass.ensures c.pass-2.ensures
