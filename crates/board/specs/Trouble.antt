-- What is said of a word that is refused.
use Rattle.std.specs.Prelude.{ℕ, ◌+◌, ◌-◌, ◌^◌, min, List, ◌++◌, codes, decimal}
use Rattle.board.specs.declared.words.Misread.{Misread}
use Rattle.board.specs.declared.words.Trouble.{Trouble}
use Rattle.board.specs.declared.words.Trouble.TheVariants.{NotALiteral, NoSuchPart, NamedTwice}

abbrev pub trouble_words : Trouble → List ℕ
trouble_words NotALiteral = codes "is not a literal"
trouble_words NoSuchPart = codes "names a part that the sheet does not declare"
trouble_words NamedTwice = codes "names a part that an earlier word has named"

-- the word by its number, from 1, before what is wrong with it; the greatest number that there is stands for itself
abbrev pub misread_words : Misread → List ℕ
misread_words m = codes "word " ++ (decimal (min (m.index + 1) (2 ^ 64 - 1)) ++ (codes " " ++ trouble_words m.trouble))
