-- A card file that gives nothing, and withdrawn entries: so there are downloads and entries in any number.
use Rattle.std.proofs.Common.{◌≡◌, ℕ, zero, suc, inl, inr, List, [], ◌∷◌, ◌++◌, length, Result, Ok, true, refl, sym, subst, arith}
use Rattle.tacho_time.specs.declared.span.Mark.{Mark}
use Rattle.tacho_time.specs.declared.span.Activity.TheVariants.{Rest}
use Rattle.tacho_card.specs.declared.fault.CardFault.{CardFault}
use Rattle.tacho_card.specs.declared.file.Part.TheVariants.{Both}
use Rattle.tacho_card.specs.DriverActivity.{DriverActivity}
use Rattle.tacho_card.specs.Reading.{IsReading, ActivitiesGive}
use Rattle.tacho_card.specs.CardFile.{FileBlock, blocks_from, card_file, ReadsFile}
use Rattle.tacho_state.specs.State.{Download, Entry, given_spans, entered_spans, AreFull}
use Rattle.tacho_state.specs.Steps.{Content}
use Rattle.tacho_state.specs.Content.{FileTells, ReadTells}

-- sixteen zeros: data whose pointers are 0, without records
abbrev pub blank_data : List ℕ
blank_data = 0 ∷ 0 ∷ 0 ∷ 0 ∷ 0 ∷ 0 ∷ 0 ∷ 0 ∷ 0 ∷ 0 ∷ 0 ∷ 0 ∷ 0 ∷ 0 ∷ 0 ∷ 0 ∷ []

-- an identification of zeros, and these data
abbrev pub blank_file : List ℕ
blank_file = (5 ∷ 32 ∷ 0 ∷ 0 ∷ 17 ∷ 0 ∷ blank_data) ++ (5 ∷ 4 ∷ 0 ∷ 0 ∷ 16 ∷ blank_data)

-- its blocks
abbrev pub blank_blocks : List FileBlock
blank_blocks = record { identifier = 0x0520; kind = 0; value = 0 ∷ blank_data } ∷ record
    { identifier = 0x0504; kind = 0; value = blank_data } ∷ []

abbrev pub blank_holder : List ℕ
blank_holder = 0 ∷ 0 ∷ 0 ∷ 0 ∷ 0 ∷ 0 ∷ 0 ∷ 0 ∷ 0 ∷ 0 ∷ 0 ∷ 0 ∷ 0 ∷ 0 ∷ 0 ∷ []

abbrev pub blank_content : Content
blank_content = record { holder = blank_holder; spans = [] }

blank_is : card_file blank_file ≡ Ok blank_blocks
unfolding blocks_from
blank_is = refl

abbrev pub blank_activity : DriverActivity
blank_activity = record { oldest = 0; newest = 0; buffer = 0 ∷ 0 ∷ 0 ∷ 0 ∷ 0 ∷ 0 ∷ 0 ∷ 0 ∷ 0 ∷ 0 ∷ 0 ∷ 0 ∷ [] }

-- the data give nothing
blank_reading : IsReading (blank_activity ∷ []) (Ok [])
blank_reading = (refl, record { canonical = tt; same = λ m k. ((λ g. absurd g), back m k) }) where
  back : (m : ℕ) (k : Mark) → ActivitiesGive (blank_activity ∷ []) m k → ⊥
  back m k (inl g) = g
  back m k (inr g) = g

blank_reads : ReadsFile Both blank_blocks (Ok [])
blank_reads = blank_reading

-- so the file gives nothing
pub blank_tells : FileTells Both blank_file (Ok blank_content)
blank_tells = subst (λ (r : Result (List FileBlock) CardFault). ReadTells Both r (Ok blank_content)) (sym blank_is) (refl, blank_reads)

-- ---- any number of them

abbrev pub blank_download : Download
blank_download = record { part = 0; file = blank_file; spans = [] }

unfoldable pub blank_downloads : ℕ → List Download
blank_downloads zero = []
blank_downloads (suc n) = blank_download ∷ blank_downloads n

pub blank_count : (n : ℕ) → length (blank_downloads n) ≡ n
unfolding blank_downloads
blank_count zero = refl
blank_count (suc n) = let e = blank_count n in omega (arith, e)

pub blank_given : (n : ℕ) → given_spans (blank_downloads n) ≡ []
unfolding blank_downloads
blank_given zero = refl
blank_given (suc n) = blank_given n

abbrev pub blank_entry : Entry
blank_entry = record { start = 0; past = 1; activity = Rest; author = []; note = []; withdrawn = true }

unfoldable pub blank_entries : ℕ → List Entry
blank_entries zero = []
blank_entries (suc n) = blank_entry ∷ blank_entries n

pub entry_count : (n : ℕ) → length (blank_entries n) ≡ n
unfolding blank_entries
entry_count zero = refl
entry_count (suc n) = let e = entry_count n in omega (arith, e)

pub blank_entered : (n : ℕ) → entered_spans (blank_entries n) ≡ []
unfolding blank_entries
blank_entered zero = refl
blank_entered (suc n) = blank_entered n

pub blank_full : (n : ℕ) → AreFull (blank_entries n)
unfolding blank_entries
blank_full zero = tt
blank_full (suc n) = (omega arith, blank_full n)
