-- What a number token says: its number, within its limits.
use Rattle.std.proofs.Common.{◌≡◌, refl}
use Rattle.text.specs.declared.reader.Limit.{Limit}
use Rattle.text.specs.declared.reader.Token.{Token}
use Rattle.text.specs.declared.reader.Token.TheVariants.{Number, Name, Sign}
use Rattle.text.specs.Tokens.{limited}
use Rattle.text.specs.Reading.{number_said, written, place, IsNumber}

pub said : (l : Limit) (t : Token) → IsNumber t → number_said l t ≡ limited l (place t) (written t)
said l (Number at bytes) h = refl
said l (Name at bytes) h = absurd h
said l (Sign at bytes) h = absurd h
