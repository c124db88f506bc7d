use Rattle.std.proofs.Common.{◌≡◌, ◌∙◌, ap, map, take, get_or, true, false, arith, sym}
use Rattle.tacho_message.proofs.FieldLemmas.{more_pairs, one_named, none_named}
use Rattle.tacho_message.specs.Fields.{same_name, values_under}
use Rattle.httparse.specs.Spans.{header_bytes}
use Rattle.httparse.specs.declared.spans.HeaderSpan.{HeaderSpan}
use Rattle.tacho_message.proofs.fields.values_of.Goals as goal
use Rattle.tacho_message.proofs.fields.values_of.Goals.{then-is_named, else-is_named}

pub loop-field-preserved : goal.loop-field-preserved
loop-field-preserved c =
    let d : HeaderSpan = record { name = record { start = 0; end = 0 }; value = record { start = 0; end = 0 } } in
    let i = c.loop-field.field-index in
    let field = get_or c.args.fields.now i d in
    let pairs = map (header_bytes c.args.buffer.now) (take i c.args.fields.now) in
    let more = more_pairs c.args.buffer.now c.args.fields.now i d (omega arith) in
    elim c.if-is_named.branch [
      | then-is_named w ↦
          let same : same_name (header_bytes c.args.buffer.now field).0 c.args.name.now ≡ true = sym (ap (λ t. same_name t c.args.name.now) c.of.ensures) ∙ (sym c.is_named.ensures ∙ w.if-is_named.true) in
          let step = rw w.of-then-is_named.ensures at (w.and-found.ensures _ c.loop-field.invariant) in
          let all = ap (values_under c.args.name.now) more ∙ one_named c.args.name.now pairs (header_bytes c.args.buffer.now field) same in
          rw (all, w.found-is) step
      | else-is_named w ↦
          let other : same_name (header_bytes c.args.buffer.now field).0 c.args.name.now ≡ false = sym (ap (λ t. same_name t c.args.name.now) c.of.ensures) ∙ (sym c.is_named.ensures ∙ w.if-is_named.false) in
          let all = ap (values_under c.args.name.now) more ∙ none_named c.args.name.now pairs (header_bytes c.args.buffer.now field) other in
          rw (all, w.found-is) c.loop-field.invariant
    ]
