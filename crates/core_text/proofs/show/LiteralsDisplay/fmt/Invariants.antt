use Rattle.std.proofs.Common.{◌≡◌, codes}
use Rattle.std.specs.Fmt.{HasWritten, IsPlainFormatter}
use denote.Text.{Utf8}
use denote.Shadow.{shadow}
use Rattle.core_text.specs.Words.{lead}
use Rattle.core_text.proofs.Pieces.{literals_so_far}
use Rattle.core_text.proofs.show.LiteralsDisplay.fmt.Given as goal

-- the literals so far are written, and it is known what stands before the next
abbrev pub invariant-loop-variable : goal.invariant-loop-variable
invariant-loop-variable g l = record {
  text : shadow (Utf8 l.between);
  wrote : IsPlainFormatter l.initial.f → HasWritten g.W.Write.write_str_gives l.initial.f (literals_so_far l.self.row.now l.self.members.now l.variable) l.f;
  next : l.between ≡ lead (codes " ") (literals_so_far l.self.row.now l.self.members.now l.variable);
}
