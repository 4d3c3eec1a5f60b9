use Rattle.std.proofs.Common.{◌≡◌, ℕ, List, ◌++◌, min, length, IfOk, string_bytes, refl, sym, ap, ap₂, ◌∙◌, subst}
use Rattle.std.proofs.lemmas.Result.{IfOk-weaker}
use Rattle.faults.specs.Refusals.{sheet_refusal}
use Rattle.faults.specs.declared.fault.Refusal.{Refusal}
use Rattle.faults.specs.declared.fault.RunFault.{RunFault}
use Rattle.faults.specs.declared.fault.RunFault.TheVariants.{Sheet}
use Rattle.refused.specs.Refused.{head_text, excerpt_text, Excerpt, Told}
use Rattle.refused.proofs.refused_sheet.Goals as goal

pub returns-in-Sheet : goal.returns-in-Sheet
returns-in-Sheet c =
    let text = c.args.text.now in
    let e = c.of-excerpt.result in
    let cut = excerpt_text e.text.now e.spot e.window in
    let place = (sheet_refusal c.in-Sheet.fault).place in
    let at : e.spot.place ≡ min place (length e.text.now) =
    c.of-excerpt.ensures.place ∙ ap₂ (λ (n k : ℕ). min n k) (ap (λ (r : Refusal). r.place) c.from.ensures) (ap length (sym c.of-excerpt.ensures.text)) in
    let placed : Excerpt text place cut = subst (λ (t : List ℕ). Excerpt t place cut) c.of-excerpt.ensures.text (e.spot, e.window, at, e.line, e.shows, refl) in
    subst (λ (q : RunFault). IfOk c.format.result (λ s. Told text q (string_bytes s))) (sym c.in-Sheet.is)
    (IfOk-weaker c.format.result (λ s. string_bytes s ≡ head_text c.args.fault ++ cut) (λ s. Told text (Sheet c.in-Sheet.fault) (string_bytes s))
    (λ s said. (cut, placed, said ∙ ap (λ (q : RunFault). head_text q ++ cut) c.in-Sheet.is)) c.format.ensures.ok)
