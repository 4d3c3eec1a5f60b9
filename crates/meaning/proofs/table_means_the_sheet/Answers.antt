use Rattle.meaning.proofs.Tables.{table_means}
use Rattle.meaning.proofs.table_means_the_sheet.Goals as goal

pub returns : goal.returns
returns c = table_means
