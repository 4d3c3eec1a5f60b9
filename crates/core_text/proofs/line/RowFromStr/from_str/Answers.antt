use Rattle.std.proofs.Common.{◌≡◌, ℕ, List, ◌∷◌, [], ◌++◌, map, ℤ, Bor, sym, ap, ◌∙◌, arith, rules}
use Rattle.std.proofs.lemmas.List.{map-append}
use Rattle.std.proofs.lemmas.List.Elements.{All-push}
use Rattle.std.proofs.lemmas.Iterator.Consumers.{YieldsList-end}
use Rattle.std.proofs.lemmas.Iterator.Splits.{YieldsList-from_str_split}
use Rattle.rules.specs.Rule.{at}
use Rattle.core_text.specs.Lines.{comma, number, IsNumber}
use Rattle.core_text.proofs.Rows.{row_of}
use Rattle.core_text.proofs.line.RowFromStr.from_str.Goals as goal

pub loop-number-preserved : goal.loop-number-preserved
loop-number-preserved c =
    let field = c.in-Some.number in
    let was = c.loop-number.invariant in
    let more = sym (map-append (λ (f : Bor (List ℕ)). f.now) c.loop-number.yielded (field ∷ [])) in
    let read : c.in_ok-number.number ≡ number field.now = search rules in
    let numeral : IsNumber field.now = search rules in
    let pushed : c.try_push.new.self.items ≡ c.loop-number.numbers.items ++ c.in_ok-number.number ∷ [] = search rules in
    let texts = map (λ (f : Bor (List ℕ)). f.now) c.loop-number.yielded in
    rw (← more) (record {
      values = pushed ∙ ap (λ xs. xs ++ c.in_ok-number.number ∷ []) was.values ∙ ap (λ z. map number texts ++ z ∷ []) read ∙ sym (map-append number texts (field.now ∷ []));
      numerals = All-push IsNumber texts field.now was.numerals numeral;
    })

pub returns : goal.returns
returns c =
    let all = YieldsList-end (YieldsList-from_str_split comma c.args.list.now (omega arith) (cc) (cc) (cc)) c.loop-number.yielded _ c.loop-number.yielded_by _ _ c.in-None.is c.next.ensures.steps in
    row_of c.args.list.now c.loop-number.numbers.items c.places.result (search rules) (search rules) (λ i l. c.places.ensures i l ∙ ap (λ (xs : List ℤ). at xs i) c.as_slice.ensures.value) _ (search rules) (rw (← all.0) (c.loop-number.invariant.values, c.loop-number.invariant.numerals))
