use Rattle.std.proofs.Common.{arith, rules}
use Rattle.board.proofs.Spelling.{first_of, part_number_from}
use Rattle.board.proofs.literal.part_number.Goals as goal

pub returns-in-120 : goal.returns-in-120
returns-in-120 c = part_number_from _ _ _ (first_of c.args.word.now 120 (omega arith) (search rules)) c.numeral.ensures
