use Rattle.opb.proofs.Exact.{says_unique, refused_unique, not_both}
use Rattle.opb.proofs.reading_is_unique.Goals as goal

pub returns : goal.returns
returns c = (says_unique, refused_unique, λ text s e h k. not_both text s e h k)
