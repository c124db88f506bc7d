-- A third row in a driver's text, texts that decode to fifteen bytes, and the uniqueness of the first bad column.
use Rattle.std.proofs.Common.{◌≡◌, ◌∙◌, ◌<◌, inr, List, [], ◌∷◌, ℕ, Result, Ok, Err, length, map, refl, sym, arith}
use Rattle.std.specs.Prelude.{MatchResult}
use Rattle.hex.specs.Hex.{IsBytes, decode_sized}
use Rattle.hex.specs.declared.error.FromHexError.{FromHexError}
use Rattle.hex.proofs.HexLemmas.{decode_of-ok, decode_sized-ok, decode_sized-twice}
use Rattle.tacho_state.specs.Registration.{Registration}
use Rattle.tacho_state.specs.declared.driver.Column.{Column}
use Rattle.tacho_state.specs.declared.driver.Column.TheVariants as column
use Rattle.tacho_sheet.specs.Rows.{Row}
use Rattle.tacho_sheet.specs.Driver.{Columns, IsDriverText, IsFirstBadColumn, columns_of, IsRowAnswer, IsBodyAnswer}
use Rattle.tacho_sheet.specs.declared.fault.SheetFault.TheVariants as fault

pub third_row : {X : Type 0} (f : X → Row) (row : X) (more : List X) (r : Registration) → 0 < length more → IsRowAnswer (columns_of (f row)) (Ok r)
    → IsBodyAnswer (map f (row ∷ more)) (Err (fault.Fields 3))
third_row f row [] r h a = absurd (omega arith)
third_row f row (x ∷ more) r h a = inr (refl, (r, a))

-- a text that decodes into room for fifteen bytes gives fifteen bytes
pub fifteen_bytes : (text out : List ℕ) (r : Result Unit FromHexError)
    → MatchResult (decode_sized text 15) (λ bytes. (r ≡ Ok tt) × (out ≡ bytes)) (λ e. r ≡ Err e)
    → r ≡ Ok tt → (length out ≡ 15) × IsBytes out
fifteen_bytes text out r said ok = go (decode_sized text 15) refl said where
  go : (d : Result (List ℕ) FromHexError) → decode_sized text 15 ≡ d
      → MatchResult d (λ bytes. (r ≡ Ok tt) × (out ≡ bytes)) (λ e. r ≡ Err e) → (length out ≡ 15) × IsBytes out
  go (Ok bytes) is h =
      let twice = decode_sized-ok text 15 bytes is in
      let all = decode_of-ok text bytes (sym (decode_sized-twice text 15 twice) ∙ is) in
      let long = all.2 in
      rw h.1 (omega (arith, twice, long), all.3)
  go (Err e) is h = cc (sym h ∙ ok)
