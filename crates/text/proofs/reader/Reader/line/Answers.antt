use Rattle.text.proofs.Steps.{step_goes, step_from}
use Rattle.text.proofs.reader.Reader.line.Goals as goal

pub returns : goal.returns
returns c = step_goes _ _ _ _ _ _ _ c.pass.ensures (step_from _ _ _ _ c.byte.ensures)
