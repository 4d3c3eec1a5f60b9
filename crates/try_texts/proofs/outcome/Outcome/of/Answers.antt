use Rattle.std.proofs.Common.{◌≡◌, ℕ, List, length, replicate, ℤ, pos, negsuc, Ok, Err, ap, ◌∙◌, arith}
use lib.ListN.{length-replicate, get_or-replicate}
use Rattle.faults.specs.declared.fault.RunFault.{RunFault}
use Rattle.faults.specs.declared.fault.RunFault.TheVariants as run
use Rattle.sheet.specs.Reads.{Came, Zeros}
use Rattle.try_texts.specs.Outcomes.{Clear, word}
use Rattle.try_texts.specs.declared.outcome.Outcome.TheVariants.{Accepted, Refused}
use Rattle.try_texts.proofs.outcome.Outcome.of.Goals as goal

-- a refusal leaves zeros in a table of the right length
zeros : (text : List ℕ) (T U : List ℤ) (fault : RunFault) → length T ≡ 2668 → Came text T U (Err fault) → Zeros U
zeros text T U (run.Sheet e) whole h = h.2
zeros text T U run.TableLength whole h = absurd (h.0 whole)
zeros text T U (run.Layout w) whole h = absurd h

clear : (U : List ℤ) → Zeros U → Clear U
clear U h = λ w below. ap (λ T. word T w) h ∙ get_or-replicate 2668 w (pos 0) (pos 0) (omega (arith, ap length h, length-replicate 2668 (pos 0)))

pub returns-in-Ok : goal.returns-in-Ok
returns-in-Ok c = record {
  before = replicate 2668 (negsuc 0);
  after = c.read.new.table;
  answer = Ok c.in-Ok.field-0;
  whole = length-replicate 2668 (negsuc 0);
  read = c.in-Ok.ensures;
  said = ap Accepted c.of.ensures;
}

pub returns-then-is_clear : goal.returns-then-is_clear
returns-then-is_clear c = record {
  before = replicate 2668 (negsuc 0);
  after = c.read.new.table;
  answer = Err c.in-Err.fault;
  whole = length-replicate 2668 (negsuc 0);
  read = c.in-Err.ensures;
  said = ap Refused c.from.ensures;
}

pub returns-else-is_clear : goal.returns-else-is_clear
returns-else-is_clear c =
    let all = zeros c.args.text.now (replicate 2668 (negsuc 0)) c.read.new.table c.in-Err.fault (length-replicate 2668 (negsuc 0)) c.in-Err.ensures.came in
    let says = c.is_clear.ensures.1 (clear c.read.new.table all) in
    let z : ◌≡◌ {A = ℕ} 0 1 = cc in
    let no : ⊥ = omega arith in
    absurd no
