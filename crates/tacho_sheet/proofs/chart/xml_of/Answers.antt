use Rattle.std.proofs.Common.{◌∙◌, ◌++◌, ◌∷◌, [], ℕ, List, ap, sym, map-id}
use Rattle.std.specs.List.{flat_map}
use Rattle.std.proofs.lemmas.Grind.{flat_map-append}
use Rattle.std.proofs.lemmas.List.{append-nil}
use Rattle.std.proofs.lemmas.Iterator.{YieldsList-from_chars}
use Rattle.std.proofs.lemmas.Iterator.Consumers.{YieldsList-end}
use Rattle.tacho_sheet.specs.Chart.{xml_char}
use Rattle.tacho_sheet.proofs.chart.xml_of.Goals as goal

pub loop-character-preserved : goal.loop-character-preserved
loop-character-preserved c =
    let x : ℕ = c.in-Some.character in
    let before : List ℕ = c.loop-character.yielded in
    c.in_ok-push_xml.ensures ∙ ap (λ (t : List ℕ). t ++ xml_char x) c.loop-character.invariant
    ∙ ap (λ (t : List ℕ). flat_map xml_char before ++ t) (sym (append-nil (xml_char x)))
    ∙ sym (flat_map-append xml_char before (x ∷ []))

pub returns : goal.returns
returns c =
    let done = YieldsList-end (YieldsList-from_chars c.args.text.now c.utf8.text cc) c.loop-character.yielded _ c.loop-character.yielded_by _ _ c.in-None.is c.next.ensures.steps in
    c.loop-character.invariant ∙ ap (λ (cs : List ℕ). flat_map xml_char cs) (sym (map-id c.loop-character.yielded) ∙ done.0)
