use Rattle.std.proofs.Common.{◌≡◌}
use Rattle.std.specs.Fmt.{HasWritten, IsPlainFormatter}
use Rattle.notation.specs.Text.{terms_text}
use Rattle.notation.proofs.Texts.{some_text}
use Rattle.notation.proofs.shown.RuleTextDisplay.fmt.Given as goal

-- the terms so far are written, and it is known whether there are any
abbrev pub invariant-loop-part : goal.invariant-loop-part
invariant-loop-part g l = record {
  wrote : IsPlainFormatter l.initial.f → HasWritten g.W.Write.write_str_gives l.initial.f (terms_text l.self.row.sheet.words.now l.self.row.number l.part) l.f;
  some : l.follows ≡ some_text (terms_text l.self.row.sheet.words.now l.self.row.number l.part);
}
