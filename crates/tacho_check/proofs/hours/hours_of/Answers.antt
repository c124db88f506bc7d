use Rattle.std.proofs.Common.{rules, ◌<◌, ◌∙◌, ◌==◌, pos, not, refl, sym, ap}
use Rattle.sqlite.specs.declared.types.Value.TheVariants.{Int}
use Rattle.tacho_state.specs.Numbers.{activity_number}
use Rattle.tacho_state.proofs.NumberLemmas.{activity_there}
use Rattle.tacho_check.proofs.EntryLemmas.{flag_there}
use Rattle.tacho_check.proofs.hours.hours_of.Goals as goal

pub returns : goal.returns
returns c =
    let mark = c.in_ok-mark.mark in
    let withdrawn = c.in_ok-withdrawn.withdrawn in
    let is_mark : mark < 4 = search rules in
    let is_flag : withdrawn < 2 = search rules in
    let hours = c.are_hours.ensures.0 c.if-not-are_hours.false in (
      record {
        number = c.in_ok-number.number;
        entry = record {
          start = c.in_ok-start.start;
          past = c.in_ok-past.past;
          activity = c.activity_of.result;
          author = c.in_ok-author.author.now;
          note = c.in_ok-note.note.now;
          withdrawn = not (withdrawn == 0);
        };
      },
      record {
        number = c.in_ok-number.ensures;
        start = c.in_ok-start.ensures.0;
        past = c.in_ok-past.ensures.0;
        mark = c.in_ok-mark.ensures ∙ ap (λ k. Int (pos k))
            (sym (ap activity_number c.activity_of.ensures ∙ activity_there mark is_mark));
        withdrawn = c.in_ok-withdrawn.ensures ∙ ap (λ k. Int (pos k)) (sym (flag_there withdrawn is_flag));
        author = c.in_ok-author.ensures.0;
        note = c.in_ok-note.ensures.0;
        within = record {
          line = record { first = hours.0; full = hours.1; short = hours.2; last = hours.3 };
          author = c.is_name.ensures.0 c.if-not-is_name.false;
          note = c.is_note.ensures.0 c.if-not-is_note.false;
          author_text = c.in_ok-author.ensures.1;
          note_text = c.in_ok-note.ensures.1;
        };
      },
      refl,
    )
