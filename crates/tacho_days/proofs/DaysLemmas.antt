-- Both rules on days as one: their kinds, and what they find together (specs/Days).
use Rattle.std.proofs.Common.{◌≡◌, ℕ, ◌⊎◌, ◌↔◌, inl, inr, List, [], refl, sym, ap, subst, ◌∙◌, Bool, true, false}
use Rattle.std.specs.Prelude.{IsTrue}
use Rattle.std.specs.List.{All}
use Rattle.tacho_time.specs.declared.span.Span.{Span}
use Rattle.tacho_law.specs.declared.breach.Kind.{Kind}
use Rattle.tacho_law.specs.declared.breach.Kind.TheVariants.{B2, B3, B4, B5}
use Rattle.tacho_law.specs.declared.breach.Breach.{Breach}
use Rattle.tacho_law.specs.Line.{Line, line_of}
use Rattle.tacho_law.specs.Order.{Apart}
use Rattle.tacho_law.specs.SoFar.{AreCollected}
use Rattle.tacho_law.specs.Breaches.{IsDayBreach}
use Rattle.tacho_law.proofs.ExactlyLemmas.{exactly_as}
use Rattle.tacho_pass.specs.Found.{own_of}
use Rattle.tacho_pass.specs.Kinds.{is_b2_or_b3, is_b4_or_b5, is_b2_to_b5}
use Rattle.tacho_pass.proofs.JoiningLemmas.{IsPart, joined, own_kinds}
use Rattle.tacho_days.specs.DailyRests.{IsDailyRestBreach, DailyRestsDefined}
use Rattle.tacho_days.specs.DailyDriving.{IsDailyDriving, DailyDrivingDefined}
use Rattle.tacho_days.specs.Days.{DaysDefined}

-- the kinds of each rule
rests_kind : (k : Kind) → is_b2_or_b3 k ≡ true → (k ≡ B2) ⊎ (k ≡ B3)
rests_kind B2 e = inl refl
rests_kind B3 e = inr refl
rests_kind kind e = absurd (let f : false ≡ true = e in cc)

driving_kind : (k : Kind) → is_b4_or_b5 k ≡ true → (k ≡ B4) ⊎ (k ≡ B5)
driving_kind B4 e = inl refl
driving_kind B5 e = inr refl
driving_kind kind e = absurd (let f : false ≡ true = e in cc)

module _ (line : Line) where
  -- a breach of one of two kinds is a breach of its own kind
  of_either : (first second : Kind) (own : Kind → Bool) → own first ≡ true → own second ≡ true
      → ((k : Kind) → own k ≡ true → (k ≡ first) ⊎ (k ≡ second)) → (breach : Breach)
      → (((breach.kind ≡ first) × IsDayBreach line first breach)
      ⊎ ((breach.kind ≡ second) × IsDayBreach line second breach))
      ↔ (IsDayBreach line breach.kind breach × IsTrue (own breach.kind))
  of_either first second own one two only breach = (
    λ h. elim h [
      | inl (k, is) ↦ (subst (λ (x : Kind). IsDayBreach line x breach) (sym k) is, ap own k ∙ one)
      | inr (k, is) ↦ (subst (λ (x : Kind). IsDayBreach line x breach) (sym k) is, ap own k ∙ two)
    ],
    λ (is, takes). elim (only breach.kind takes) [
      | inl k ↦ inl (k, subst (λ (x : Kind). IsDayBreach line x breach) k is)
      | inr k ↦ inr (k, subst (λ (x : Kind). IsDayBreach line x breach) k is)
    ],
  )

  -- each breach of the rules on days has one of the four kinds
  of_days : (kind : Kind) (breach : Breach) → IsDayBreach line kind breach → is_b2_to_b5 kind ≡ true
  of_days B2 breach h = refl
  of_days B3 breach h = refl
  of_days B4 breach h = refl
  of_days B5 breach h = refl
  of_days kind breach h = absurd h

  module _ (own : List Breach) (rests : AreCollected (λ b. IsDailyRestBreach line b) (own_of is_b2_or_b3 own))
      (driving : AreCollected (λ b. IsDailyDriving line b) (own_of is_b4_or_b5 own)) where
    of_two : AreCollected (λ b. IsDayBreach line b.kind b × IsTrue (is_b2_or_b3 b.kind)) (own_of is_b2_or_b3 own)
    of_two = exactly_as (λ b. IsDailyRestBreach line b) (λ b. IsDayBreach line b.kind b × IsTrue (is_b2_or_b3 b.kind))
        Apart (own_of is_b2_or_b3 own) (λ b. of_either B2 B3 is_b2_or_b3 refl refl rests_kind b) rests

    of_other_two : AreCollected (λ b. IsDayBreach line b.kind b × IsTrue (is_b4_or_b5 b.kind)) (own_of is_b4_or_b5 own)
    of_other_two = exactly_as (λ b. IsDailyDriving line b)
        (λ b. IsDayBreach line b.kind b × IsTrue (is_b4_or_b5 b.kind))
        Apart (own_of is_b4_or_b5 own) (λ b. of_either B4 B5 is_b4_or_b5 refl refl driving_kind b) driving

    part : (kind : Kind) → is_b2_to_b5 kind ≡ true → IsPart (λ k b. IsDayBreach line k b) kind own
    part B2 e = record { own = is_b2_or_b3; takes = refl; are = of_two }
    part B3 e = record { own = is_b2_or_b3; takes = refl; are = of_two }
    part B4 e = record { own = is_b4_or_b5; takes = refl; are = of_other_two }
    part B5 e = record { own = is_b4_or_b5; takes = refl; are = of_other_two }
    part kind e = absurd (let f : false ≡ true = e in cc)

    days_join : All (λ (b : Breach). IsTrue (is_b2_to_b5 b.kind)) own
        → AreCollected (λ b. IsDayBreach line b.kind b) own
    days_join kinds = joined (λ k b. IsDayBreach line k b) is_b2_to_b5 own kinds (λ b is. of_days b.kind b is) part

-- what both rules find of their kinds, among all that is found
pub days_defined : (new : List Breach) (base horizon : ℕ) (spans : List Span)
    → DailyRestsDefined (own_of is_b2_or_b3 (own_of is_b2_to_b5 new)) [] base horizon spans
    → DailyDrivingDefined (own_of is_b4_or_b5 (own_of is_b2_to_b5 new)) [] base horizon spans
    → DaysDefined (own_of is_b2_to_b5 new) [] base horizon spans
days_defined new base horizon spans rests driving = record {
  none = refl;
  breaches =
      days_join (line_of spans) (own_of is_b2_to_b5 new) rests.breaches driving.breaches (own_kinds is_b2_to_b5 new);
}
