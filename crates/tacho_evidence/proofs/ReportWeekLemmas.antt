-- A breach B6, B7 or B9 follows from its evidence, and each has exactly one list of evidence (`laws`).
use Rattle.std.proofs.Common.{◌≡◌, ◌∙◌, ◌+◌, ◌-◌, ◌<◌, ◌∷◌, ◌++◌, ℕ, List, arith, refl, ap, sym, subst, map}
use Rattle.tacho_law.specs.declared.breach.Breach.{Breach}
use Rattle.tacho_law.specs.declared.run.Run.{Run}
use Rattle.tacho_law.specs.Breaches.{IsB6, IsB7, IsB9}
use Rattle.tacho_law.specs.Limits.{minutes_of_day}
use Rattle.tacho_law.specs.Line.{Line}
use Rattle.tacho_law.specs.Runs.{AreRestRuns}
use Rattle.tacho_law.specs.Weeks.{week_start, IsWeeklyRest, Touches}
use Rattle.tacho_evidence.specs.declared.driven.DrivenSpan.{DrivenSpan}
use Rattle.tacho_evidence.specs.declared.line.EvidenceLine.{EvidenceLine}
use Rattle.tacho_evidence.specs.declared.line.EvidenceLine.TheVariants.{Drive, Week}
use Rattle.tacho_evidence.specs.Evidence.{date_lines, date_of, week_lines, AreDrivenOn, IsChoiceEvidence, IsTwoWeeksEvidence, IsWeekEvidence}
use Rattle.tacho_evidence.proofs.ChoiceLemmas as choice
use Rattle.tacho_evidence.proofs.ChoiceLinesLemmas as text
use Rattle.tacho_evidence.proofs.ExistLemmas.{driven_exist}
use Rattle.tacho_evidence.proofs.WeekLemmas.{excess_follows, excess_has_evidence, one_list_on, from_date}

-- ---- B6

-- a B6 follows from its evidence
pub week_sound : (line : Line) (breach : Breach) (lines : List EvidenceLine) → IsWeekEvidence line breach lines → IsB6 line breach
week_sound line breach lines e = record {
  week = e.week;
  over = excess_follows line _ (week_start e.week) (week_start (e.week + 1)) breach e.spans e.excess;
  since = e.excess.since;
}

-- each B6 has evidence
pub week_whole : (line : Line) (breach : Breach) → IsB6 line breach → (lines : List EvidenceLine) × IsWeekEvidence line breach lines
week_whole line breach b =
    let date = date_of breach.moment in
    let x = excess_has_evidence line _ (week_start b.week) (week_start (b.week + 1)) breach _
    (from_date b.week breach.moment b.over.moment.above) (driven_exist line date (date + minutes_of_day)).1 b.over b.since in
    (_, record { week = b.week; spans = x.0; excess = x.1; lines_are = refl })

-- and only one
pub week_one : (line : Line) (breach : Breach) (lines others : List EvidenceLine)
    → IsWeekEvidence line breach lines → IsWeekEvidence line breach others → lines ≡ others
week_one line breach lines others a b =
    let date = date_of breach.moment in
    let text = λ (w : ℕ) (spans : List DrivenSpan). Week (week_start w) ∷ date_lines line (week_start w) date (map Drive spans) (week_start w) 7 in
    let start : week_start a.week ≡ week_start b.week = sym a.excess.since ∙ b.excess.since in
    let week : a.week ≡ b.week = omega (arith, start) in
    let spans : a.spans ≡ b.spans = one_list_on line (week_start b.week) date a.spans b.spans
    (subst (λ (w : ℕ). AreDrivenOn line (week_start w) date a.spans) week a.excess.driven) b.excess.driven in
    a.lines_are ∙ (ap (λ (w : ℕ). text w a.spans) week ∙ (ap (text b.week) spans ∙ sym b.lines_are))

-- ---- B7

-- a B7 follows from its evidence
pub two_weeks_sound : (line : Line) (breach : Breach) (lines : List EvidenceLine) → IsTwoWeeksEvidence line breach lines → IsB7 line breach
two_weeks_sound line breach lines e = record {
  week = e.week;
  over = excess_follows line _ (week_start e.week) (week_start (e.week + 2)) breach e.spans e.excess;
  since = e.excess.since;
}

-- each B7 has evidence
pub two_weeks_whole : (line : Line) (breach : Breach) → IsB7 line breach → (lines : List EvidenceLine) × IsTwoWeeksEvidence line breach lines
two_weeks_whole line breach b =
    let date = date_of breach.moment in
    let x = excess_has_evidence line _ (week_start b.week) (week_start (b.week + 2)) breach _
    (from_date b.week breach.moment b.over.moment.above) (driven_exist line date (date + minutes_of_day)).1 b.over b.since in
    (_, record { week = b.week; spans = x.0; excess = x.1; lines_are = refl })

-- and only one
pub two_weeks_one : (line : Line) (breach : Breach) (lines others : List EvidenceLine)
    → IsTwoWeeksEvidence line breach lines → IsTwoWeeksEvidence line breach others → lines ≡ others
two_weeks_one line breach lines others a b =
    let date = date_of breach.moment in
    let text = λ (w : ℕ) (spans : List DrivenSpan).
    week_lines line (week_start w) date (map Drive spans) w ++ week_lines line (week_start w) date (map Drive spans) (w + 1) in
    let start : week_start a.week ≡ week_start b.week = sym a.excess.since ∙ b.excess.since in
    let week : a.week ≡ b.week = omega (arith, start) in
    let spans : a.spans ≡ b.spans = one_list_on line (week_start b.week) date a.spans b.spans
    (subst (λ (w : ℕ). AreDrivenOn line (week_start w) date a.spans) week a.excess.driven) b.excess.driven in
    a.lines_are ∙ (ap (λ (w : ℕ). text w a.spans) week ∙ (ap (text b.week) spans ∙ sym b.lines_are))

-- ---- B9

-- a B9 follows from its evidence
pub choice_sound : (line : Line) (base horizon : ℕ) (breach : Breach) (lines : List EvidenceLine)
    → IsChoiceEvidence line base horizon breach lines → IsB9 line base horizon breach
choice_sound line base horizon breach lines h = record {
  first = h.begin;
  week = h.week;
  monday = h.monday;
  fails = choice.fails_at line horizon h.begin h.first (h.week + 1) h.anew (record {
    later = h.later;
    ended = h.ended;
    none = λ serves. h.none (choice.by_listed line h.rests h.first (h.week + 1) (omega arith) h.rested serves);
    before = h.served;
  });
  moment = h.moment;
  since = h.since;
  amount = h.amount;
}

-- each B9 has evidence, if each weekly rest has a minute in some week
pub choice_whole : (line : Line) (runs : List Run) (base horizon : ℕ) (breach : Breach) → AreRestRuns line runs
    → ((rest : Run) → IsWeeklyRest line rest → (week : ℕ) × Touches rest week)
    → IsB9 line base horizon breach → (lines : List EvidenceLine) × IsChoiceEvidence line base horizon breach lines
choice_whole line runs base horizon breach are there b =
    let x = choice.fails_from line horizon b.first (b.week + 1) b.fails in
    let first : ℕ = x.0 in
    let later : first < b.week + 1 = x.1.1.later in
    let rests = choice.weekly_in line runs first (b.week + 1) are in
    let weeks = text.week_lines_exist line first ((b.week + 2) - first) in
    let counted = text.rest_lines_exist line first (b.week + 1) rests.0 (omega arith)
    (λ run among. (rests.1.each run).0 among) in (
      _,
      record {
        begin = b.first;
        monday = b.monday;
        first = first;
        anew = x.1.0;
        week = b.week;
        later = later;
        ended = x.1.1.ended;
        rests = rests.0;
        rested = rests.1;
        none = λ serves. x.1.1.none (choice.by_all line rests.0 first (b.week + 1) (omega arith) rests.1 there serves);
        served = x.1.1.before;
        moment = b.moment;
        since = b.since;
        amount = b.amount;
        weeks = weeks.0;
        week_lines = weeks.1;
        counted = counted.0;
        rest_lines = counted.1;
        lines_are = refl;
      },
    )
