-- Why a price is not reformulated, in words.
use Rattle.std.specs.Prelude.{ℕ, List, codes}
use Rattle.reform.specs.declared.kinds.Unreformed.{Unreformed}
use Rattle.reform.specs.declared.kinds.Unreformed.TheVariants.{Unsuited, NoRoom}

abbrev pub unreformed_words : Unreformed → List ℕ
unreformed_words Unsuited = codes "it does not suit the price"
unreformed_words NoRoom = codes "there is no room for it"
