-- A card file has one content for each part.
use Rattle.std.proofs.Common.{◌≡◌, ℕ, List, Result, Ok, Err, refl, sym, ap, ap₂, arith, subst, ◌∙◌}
use Rattle.tacho_time.specs.declared.span.Span.{Span}
use Rattle.tacho_card.specs.declared.fault.CardFault.{CardFault}
use Rattle.tacho_card.specs.declared.file.Part.{Part}
use Rattle.tacho_card.specs.declared.file.Part.TheVariants as part
use Rattle.tacho_card.specs.CardFile.{FileBlock, blocks_of, card_file, file_holder, then_held, then_single, with_holder, ReadsFile}
use Rattle.tacho_card.proofs.FileReadingLaw.{some_reading, one_reading}
use Rattle.tacho_state.specs.Steps.{Content}
use Rattle.tacho_state.specs.Content.{BlocksTell, FileTells, HasContent, ReadTells}
use Rattle.tacho_state.specs.Numbers.{part_number}

-- blocks that name a holder have a content
blocks_tell : (part : Part) (blocks : List FileBlock) (holder : List ℕ) → file_holder blocks ≡ Ok holder
    → (content : Result Content CardFault) × BlocksTell part blocks content
blocks_tell part blocks holder h = go (some_reading part blocks) where
  go : (reading : Result (List Span) CardFault) × ReadsFile part blocks reading
      → (content : Result Content CardFault) × BlocksTell part blocks content
  go (Ok spans, reads) = (Ok (record { holder = holder; spans = spans }), (h, reads))
  go (Err fault, reads) = (Err fault, reads)

-- the content of blocks is unique
one_of_blocks : (part : Part) (blocks : List FileBlock) (a b : Result Content CardFault) → BlocksTell part blocks a
    → BlocksTell part blocks b → a ≡ b
one_of_blocks part blocks (Ok a) (Ok b) h k =
    let same_holder : a.holder ≡ b.holder = let e = sym h.0 ∙ k.0 in cc in
    let same_spans : a.spans ≡ b.spans = let e = one_reading part blocks (Ok a.spans) (Ok b.spans) h.1 k.1 in cc in
    ap₂ (λ x y. Ok (record { holder = x; spans = y })) same_holder same_spans
one_of_blocks part blocks (Ok a) (Err b) h k = let no_such = one_reading part blocks (Ok a.spans) (Err b) h.1 k in cc
one_of_blocks part blocks (Err a) (Ok b) h k = let no_such = one_reading part blocks (Err a) (Ok b.spans) h k.1 in cc
one_of_blocks part blocks (Err a) (Err b) h k = let e = one_reading part blocks (Err a) (Err b) h k in cc

-- blocks that are read name a holder
holds : (r : Result (List FileBlock) CardFault) (blocks : List FileBlock) → then_held r ≡ Ok blocks
    → (holder : List ℕ) × (file_holder blocks ≡ Ok holder)
holds (Err fault) blocks h = cc
holds (Ok xs) blocks h = go (file_holder xs) refl h where
  go : (r : Result (List ℕ) CardFault) → file_holder xs ≡ r → with_holder xs r ≡ Ok blocks
      → (holder : List ℕ) × (file_holder blocks ≡ Ok holder)
  go (Ok holder) e k = let same : blocks ≡ xs = cc in (holder, ap file_holder same ∙ e)
  go (Err fault) e k = cc

-- a file has a content or a fault
pub some_content : (part : Part) (bytes : List ℕ) → (content : Result Content CardFault) × FileTells part bytes content
some_content part bytes = go (card_file bytes) refl where
  go : (r : Result (List FileBlock) CardFault) → card_file bytes ≡ r → (content : Result Content CardFault) × ReadTells part r content
  go (Err fault) e = (Err fault, refl)
  go (Ok blocks) e = let named = holds (then_single (blocks_of bytes)) blocks e in blocks_tell part blocks named.0 named.1

-- the content of what was read is unique
one_read : (part : Part) (r : Result (List FileBlock) CardFault) (a b : Result Content CardFault) → ReadTells part r a → ReadTells part r b
    → a ≡ b
one_read part (Ok blocks) a b h k = one_of_blocks part blocks a b h k
one_read part (Err fault) a b h k = h ∙ sym k

-- the content of a file is unique
pub one_content : (part : Part) (bytes : List ℕ) (a b : Result Content CardFault) → FileTells part bytes a → FileTells part bytes b → a ≡ b
one_content part bytes a b h k = one_read part (card_file bytes) a b h k

-- no two parts have the same number
pub one_part : (a b : Part) → part_number a ≡ part_number b → a ≡ b
one_part part.Both part.Both e = refl
one_part part.Both part.First e = absurd (omega (arith, e))
one_part part.Both part.Second e = absurd (omega (arith, e))
one_part part.First part.Both e = absurd (omega (arith, e))
one_part part.First part.First e = refl
one_part part.First part.Second e = absurd (omega (arith, e))
one_part part.Second part.Both e = absurd (omega (arith, e))
one_part part.Second part.First e = absurd (omega (arith, e))
one_part part.Second part.Second e = refl

-- a card file has one content for the part with a number
pub content_once : (number : ℕ) (file : List ℕ) (a b : Content) → HasContent number file a → HasContent number file b → a ≡ b
content_once number file a b (p, is, tells) (q, also, told) =
    let same : Ok a ≡ Ok b = one_content p file (Ok a) (Ok b) tells (subst (λ (x : Part). FileTells x file (Ok b)) (one_part q p (also ∙ sym is)) told) in
    cc
