-- The card files that cover a period, one more at a time.
use Rattle.std.proofs.Common.{◌≡◌, ◌⊎◌, ◌↔◌, ◌∙◌, ℕ, ◌+◌, List, [], ◌∷◌, ◌++◌, Ok, ap, inl, inr, refl, subst, sym}
use Rattle.tacho_time.specs.declared.span.Span.{Span}
use Rattle.tacho_time.specs.declared.span.Mark.{Mark}
use Rattle.tacho_time.specs.Spans.{Gives, SamePairs}
use Rattle.tacho_card.specs.declared.file.Part.TheVariants as part
use Rattle.tacho_line.specs.Line.{Holds, IsWithin}
use Rattle.tacho_state.specs.Content.{FileTells}
use Rattle.tacho_state.specs.Numbers.{part_number}
use Rattle.tacho_state.specs.Files.{ListedFile, listed_file, told_file}
use Rattle.tacho_state.specs.State.{Download}
use Rattle.tacho_state.specs.Steps.{Content}
use Rattle.tacho_state.specs.declared.file.FileSummary.{FileSummary}
use Rattle.tacho_state.proofs.ContentLemmas.{content_once}
use Rattle.tacho_handover.specs.Covering.{AreCovered, AreHanded, AreNeeded, GivenBy, GivesOf, Handed, HandedGive, HasSpans, IsNext, handed_file}
use Rattle.tacho_handover.specs.Parcel.{AreHeld, GivenBeside, GivenIn, IsBeside}

-- ---- a card file has one list of spans

pub spans_once : (d : Download) (a b : List Span) → HasSpans d a → HasSpans d b → a ≡ b
spans_once d a b (x, has, is) (y, also, it) =
    is ∙ (ap (λ (c : Content). c.spans) (content_once d.part d.file x y has also) ∙ sym it)

-- the spans that were read of a listed card file are its spans
pub spans_read : (i : ℕ) (d : Download) (file : FileSummary) (bytes : List ℕ) (spans : List Span) → told_file file ≡ listed_file i d → bytes ≡ d.file
    → (holder : List ℕ) × FileTells file.part bytes (Ok (record { holder = holder; spans = spans })) → HasSpans d spans
spans_read i d file bytes spans is same (holder, tells) =
    let of_part : part_number file.part ≡ d.part = ap (λ (f : ListedFile). f.part) is in (
      record { holder = holder; spans = spans },
      (file.part, of_part, subst (λ (b : List ℕ). FileTells file.part b (Ok (record { holder = holder; spans = spans }))) same tells),
      refl,
    )

-- ---- one older card file

module _ (start past : ℕ) (newer : List Download) (held : List Span) (holds : SamePairs (Holds held) (GivenIn start past newer)) (d : Download)
    (spans : List Span) (has : HasSpans d spans) where
  -- it is needed exactly if it gives something beside what the newer ones give
  pub needed : IsBeside held start past spans → AreNeeded start past spans newer
  needed (m, mark, here, gives, other) = (m, mark, here, gives, λ given. other ((holds m mark).1 (here, given)))

  pub covered : AreHeld held start past spans → AreCovered start past spans newer
  covered all m mark here gives = ((holds m mark).0 (all m mark here gives)).1

  -- what both give in the period
  pub given_too : (after : List Span) → SamePairs (Holds after) (GivenBeside held start past spans)
      → SamePairs (Holds after) (GivenIn start past (d ∷ newer))
  given_too after beside m mark = (λ h. to ((beside m mark).0 h), λ h. (beside m mark).1 (from h.0 h.1))
    where
      to : GivenBeside held start past spans m mark → GivenIn start past (d ∷ newer) m mark
      to (inl h) = (let (here, given) = (holds m mark).0 h in (here, inr given))
      to (inr (here, gives)) = (here, inl (spans, has, gives))

      from : IsWithin start past m → GivenBy (d ∷ newer) m mark → GivenBeside held start past spans m mark
      from here (inl (others, also, gives)) = inr (here, subst (λ (xs : List Span). Gives xs m mark) (spans_once d others spans also has) gives)
      from here (inr given) = inl ((holds m mark).1 (here, given))

-- ---- what is handed over gives all

give_front : (m : ℕ) (mark : Mark) (xs ys : List Handed) → HandedGive xs m mark → HandedGive (xs ++ ys) m mark
give_front m mark [] ys h = absurd h
give_front m mark (x ∷ xs) ys (inl h) = inl h
give_front m mark (x ∷ xs) ys (inr h) = inr (give_front m mark xs ys h)

give_back : (m : ℕ) (mark : Mark) (xs ys : List Handed) → HandedGive ys m mark → HandedGive (xs ++ ys) m mark
give_back m mark [] ys h = h
give_back m mark (x ∷ xs) ys h = inr (give_back m mark xs ys h)

give_either : (m : ℕ) (mark : Mark) (xs ys : List Handed) → HandedGive (xs ++ ys) m mark → HandedGive xs m mark ⊎ HandedGive ys m mark
give_either m mark [] ys h = inr h
give_either m mark (x ∷ xs) ys (inl h) = inl (inl h)
give_either m mark (x ∷ xs) ys (inr h) = by (give_either m mark xs ys h)
  where
    by : HandedGive xs m mark ⊎ HandedGive ys m mark → HandedGive (x ∷ xs) m mark ⊎ HandedGive ys m mark
    by (inl front) = inl (inr front)
    by (inr back) = inr back

pub all_given : (start past i : ℕ) (ds : List Download) (handed : List Handed) (m : ℕ) (mark : Mark) → AreHanded start past i ds handed
    → IsWithin start past m → GivenBy ds m mark ↔ HandedGive handed m mark
all_given start past i [] handed m mark is here = (λ none. absurd none, λ h. subst (λ (xs : List Handed). HandedGive xs m mark) is h)
all_given start past i (d ∷ newer) handed m mark (before, spans, rest, has, next) here =
    by (all_given start past (i + 1) newer before m mark rest here) next
  where
    Gives-Same : List Handed → Type 0
    Gives-Same xs = GivenBy (d ∷ newer) m mark ↔ HandedGive xs m mark

    of_spans : (others : List Span) → HasSpans d others → Gives others m mark → Gives spans m mark
    of_spans others also gives = subst (λ (xs : List Span). Gives xs m mark) (spans_once d others spans also has) gives

    one_more : GivenBy newer m mark ↔ HandedGive before m mark → Gives-Same (before ++ handed_file i d ∷ [])
    one_more both = (to, λ h. from (give_either m mark before (handed_file i d ∷ []) h))
      where
        to : GivenBy (d ∷ newer) m mark → HandedGive (before ++ handed_file i d ∷ []) m mark
        to (inl (others, also, gives)) =
            give_back m mark before (handed_file i d ∷ []) (inl (also.0, also.1, subst (λ (xs : List Span). Gives xs m mark) also.2 gives))
        to (inr given) = give_front m mark before (handed_file i d ∷ []) (both.0 given)

        from : HandedGive before m mark ⊎ HandedGive (handed_file i d ∷ []) m mark → GivenBy (d ∷ newer) m mark
        from (inl h) = inr (both.1 h)
        from (inr (inl (content, has_it, gives))) = inl (content.spans, (content, has_it, refl), gives)
        from (inr (inr none)) = absurd none

    no_more : GivenBy newer m mark ↔ HandedGive before m mark → AreCovered start past spans newer → Gives-Same before
    no_more both covered = (λ g. both.0 (to g), λ h. inr (both.1 h))
      where
        to : GivenBy (d ∷ newer) m mark → GivenBy newer m mark
        to (inl (others, also, gives)) = covered m mark here (of_spans others also gives)
        to (inr given) = given

    by : GivenBy newer m mark ↔ HandedGive before m mark → IsNext start past i d newer spans before handed → Gives-Same handed
    by both (inl (needed, is)) = subst Gives-Same (sym is) (one_more both)
    by both (inr (covered, is)) = subst Gives-Same (sym is) (no_more both covered)

-- ---- none of them could be left out

-- where a list with an element in it is one with a last element
abbrev IsLastOr : List Handed → Handed → List Handed → List Handed → Handed → Type 0
IsLastOr xs h ys zs x = ((xs ≡ zs) × (h ≡ x)) ⊎ ((rest : List Handed) × (zs ≡ xs ++ h ∷ rest))

no_such : (xs : List Handed) (h : Handed) (ys : List Handed) → xs ++ h ∷ ys ≡ [] → ⊥
no_such [] h ys e = cc
no_such (x ∷ xs) h ys e = cc

split_last : (xs : List Handed) (h : Handed) (ys zs : List Handed) (x : Handed) → xs ++ h ∷ ys ≡ zs ++ x ∷ [] → IsLastOr xs h ys zs x
split_last [] h ys [] x e = inl (refl, cc)
split_last [] h ys (z ∷ zs) x e = inr (zs, ap (λ (y : Handed). y ∷ zs) (let same : z ≡ h = cc in same))
split_last (w ∷ xs) h ys [] x e = absurd (no_such xs h ys cc)
split_last (w ∷ xs) h ys (z ∷ zs) x e = by (split_last xs h ys zs x cc)
  where
    head : z ≡ w
    head = cc

    by : IsLastOr xs h ys zs x → IsLastOr (w ∷ xs) h ys (z ∷ zs) x
    by (inl (front, last)) = inl (cc, last)
    by (inr (rest, is)) = inr (rest, cc)

-- the file gives a minute and mark of the period that the newer ones don't give
abbrev IsBesideNewer : ℕ → ℕ → Handed → List Handed → Type 0
IsBesideNewer start past h newer = (m : ℕ) × (mark : Mark) × IsWithin start past m × GivesOf h m mark × (HandedGive newer m mark → ⊥)

pub each_needed : (start past i : ℕ) (ds : List Download) (front back : List Handed) (h : Handed)
    → AreHanded start past i ds (front ++ h ∷ back) → IsBesideNewer start past h front
each_needed start past i [] front back h is = absurd (no_such front h back is)
each_needed start past i (d ∷ newer) front back h (before, spans, rest, has, next) =
    by (λ others is. each_needed start past (i + 1) newer front others h (subst (λ (xs : List Handed). AreHanded start past (i + 1) newer xs) is rest)) next
  where
    last : AreNeeded start past spans newer → front ≡ before → h ≡ handed_file i d → IsBesideNewer start past h front
    last (m, mark, here, gives, none) same is = (
      m,
      mark,
      here,
      subst (λ (x : Handed). GivesOf x m mark) (sym is) (has.0, has.1, subst (λ (xs : List Span). Gives xs m mark) has.2 gives),
      λ given. none ((all_given start past (i + 1) newer before m mark rest here).1 (subst (λ (xs : List Handed). HandedGive xs m mark) same given)),
    )

    by : ((others : List Handed) → before ≡ front ++ h ∷ others → IsBesideNewer start past h front)
        → IsNext start past i d newer spans before (front ++ h ∷ back) → IsBesideNewer start past h front
    by older (inl (needed, is)) = at (split_last front h back before (handed_file i d) is)
      where
        at : IsLastOr front h back before (handed_file i d) → IsBesideNewer start past h front
        at (inl (same, is_last)) = last needed same is_last
        at (inr (others, is)) = older others is
    by older (inr (covered, is)) = older back (sym is)

-- ---- there is one list of them

pub handed_once : (start past i : ℕ) (ds : List Download) (a b : List Handed) → AreHanded start past i ds a → AreHanded start past i ds b → a ≡ b
handed_once start past i [] a b x y = x ∙ sym y
handed_once start past i (d ∷ newer) a b (before, spans, rest, has, next) (others, also, more, have, then) =
    by (handed_once start past (i + 1) newer before others rest more) next then
  where
    of_spans : (m : ℕ) (mark : Mark) → Gives spans m mark → Gives also m mark
    of_spans m mark gives = subst (λ (xs : List Span). Gives xs m mark) (spans_once d spans also has have) gives

    as_spans : (m : ℕ) (mark : Mark) → Gives also m mark → Gives spans m mark
    as_spans m mark gives = subst (λ (xs : List Span). Gives xs m mark) (spans_once d also spans have has) gives

    by : before ≡ others → IsNext start past i d newer spans before a → IsNext start past i d newer also others b → a ≡ b
    by same (inl (needed, is)) (inl (wanted, it)) = is ∙ (ap (λ (xs : List Handed). xs ++ handed_file i d ∷ []) same ∙ sym it)
    by same (inl ((m, mark, here, gives, none), is)) (inr (covered, it)) = absurd (none (covered m mark here (of_spans m mark gives)))
    by same (inr (covered, is)) (inl ((m, mark, here, gives, none), it)) = absurd (none (covered m mark here (as_spans m mark gives)))
    by same (inr (covered, is)) (inr (wanted, it)) = is ∙ (same ∙ sym it)
