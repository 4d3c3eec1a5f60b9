use Rattle.meaning.proofs.Layouts.{table_sound}
use Rattle.meaning.proofs.table_has_the_layout.Goals as goal

pub returns : goal.returns
returns c = table_sound
