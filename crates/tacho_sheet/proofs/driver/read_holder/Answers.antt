use Rattle.std.proofs.Common.{rules, ◌≡◌, ◌∙◌, ap, sym, List, ℕ}
use Rattle.hex.specs.Hex.{encode_lower}
use Rattle.hex.proofs.HexLemmas.{decode_sized-encode_lower}
use Rattle.tacho_sheet.proofs.DriverLemmas.{fifteen_bytes}
use Rattle.tacho_sheet.proofs.driver.read_holder.Goals as goal

pub returns-in_default-clause-text : goal.returns-in_default-clause-text
returns-in_default-clause-text c = λ holder n bytes text.
    let v = rw (text, decode_sized-encode_lower holder 15 n bytes) at c.decode_to_slice.ensures.value in
    c.in_default.not-Ok _ v.0

pub returns-then-ne-clause-text : goal.returns-then-ne-clause-text
returns-then-ne-clause-text c = λ holder n bytes text.
    let v = rw (text, decode_sized-encode_lower holder 15 n bytes) at c.decode_to_slice.ensures.value in
    let out = v.1 in
    let w = rw c.in-Ok-encode_to_slice.is at c.encode_to_slice.ensures.written in
    let held : c.as_slice.result.now ≡ holder = search rules in
    let same : c.as_slice-2.result.now ≡ c.args.text.now = c.as_slice-2.ensures ∙ (w ∙ (ap (λ (h : List ℕ). encode_lower h) held ∙ sym text)) in
    search rules

pub returns-clause-bytes : goal.returns-clause-bytes
returns-clause-bytes c =
    fifteen_bytes c.args.text.now c.decode_to_slice.new.out c.decode_to_slice.result c.decode_to_slice.ensures.value (search rules)
