-- The evidence for a late weekly rest: what it says, and that there is one (`laws::late_evidence`).
use Rattle.std.proofs.Common.{◌≡◌, ◌+◌, ◌<◌, List, [], ◌∷◌, refl, sym, ap, ◌∙◌, arith}
use Rattle.tacho_law.specs.declared.run.Run.{Run}
use Rattle.tacho_law.specs.declared.breach.Breach.{Breach}
use Rattle.tacho_law.specs.Breaches.{IsB8}
use Rattle.tacho_law.specs.Line.{Line}
use Rattle.tacho_law.specs.Runs.{AreRestRuns}
use Rattle.tacho_evidence.specs.declared.line.EvidenceLine.{EvidenceLine}
use Rattle.tacho_evidence.specs.declared.line.EvidenceLine.TheVariants.{Weekly}
use Rattle.tacho_evidence.specs.Evidence.{IsLateEvidence}
use Rattle.tacho_evidence.proofs.RestsLemmas.{one_neighbours}

-- the lines for two weekly rests
abbrev late_lines : Run → Run → List EvidenceLine
late_lines earlier later = Weekly earlier ∷ (Weekly later ∷ [])

-- what has evidence is a late weekly rest
pub late_sound : (line : Line) (breach : Breach) (lines : List EvidenceLine) → IsLateEvidence line breach lines
    → IsB8 line breach
late_sound line breach lines h = record {
  earlier = h.earlier;
  later = h.later;
  neighbours = h.neighbours;
  moment = h.moment;
  since = h.since;
  late =
      let a : breach.moment ≡ h.earlier.past + 8640 = h.moment in
      let b : h.earlier.past + 8640 < h.later.start = h.late in
      let c : breach.moment + breach.amount ≡ h.later.start = h.amount in
      omega arith;
  amount = h.amount;
}

-- a late weekly rest has evidence
pub late_whole : (line : Line) (breach : Breach) → IsB8 line breach
    → (lines : List EvidenceLine) × IsLateEvidence line breach lines
late_whole line breach h = (
  late_lines h.earlier h.later,
  record {
    earlier = h.earlier;
    later = h.later;
    neighbours = h.neighbours;
    moment = h.moment;
    since = h.since;
    late =
        let a : breach.moment ≡ h.earlier.past + 8640 = h.moment in
        let b : 0 < breach.amount = h.late in
        let c : breach.moment + breach.amount ≡ h.later.start = h.amount in
        omega arith;
    amount = h.amount;
    lines_are = refl;
  },
)

-- and only one
pub late_one : (line : Line) (runs : List Run) (breach : Breach) (lines others : List EvidenceLine)
    → AreRestRuns line runs
    → IsLateEvidence line breach lines → IsLateEvidence line breach others → lines ≡ others
late_one line runs breach lines others are p q =
    let (e, f) = one_neighbours line runs are 1440 p.earlier p.later q.earlier q.later p.neighbours q.neighbours
    (sym p.since ∙ q.since) in
    p.lines_are ∙ (ap (λ (x : Run). late_lines x p.later) e ∙ (ap (λ (x : Run). late_lines q.earlier x) f ∙ sym q.lines_are))
