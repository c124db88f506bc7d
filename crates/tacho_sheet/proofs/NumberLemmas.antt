-- A number's decimal text, and what parsing makes of it.
use Rattle.std.proofs.Common.{◌≡◌, ◌≢◌, ◌<◌, ◌≤◌, ◌^◌, ◌∙◌, ℕ, List, length, get_or, refl, sym, ap, subst, arith, zero, suc}
use Rattle.std.specs.Fmt.{decimal}
use Rattle.std.specs.Str.{IsUtf8}
use Rattle.std.specs.Str.Parse.{AllDigits, IsNumeral, digits_value, without_leading_plus}
use Rattle.std.proofs.lemmas.Fmt.{IsAscii-decimal, decimal_nonempty, first_decimal, decimal_is_IsNumeral, decimal-digits_value, decimal_digit}
use Rattle.std.proofs.lemmas.Str.{IsUtf8-from_ascii}
use Rattle.std.proofs.lemmas.Str.Parse.{IsNumeralModel, without_leading_plus_none}
use Rattle.tacho_sheet.specs.Number.{IsNumberText}

own : IsNumeralModel (AllDigits 10) (digits_value 10)
own = record { to = (λ ds h. h); from = (λ ds h. h); same = (λ ds h. refl) }

-- what the text of a number satisfies
pub record Written (text : List ℕ) (n : ℕ) : Type 0 where
  pub some : 0 < length text
  pub first : 48 < get_or text 0 0
  pub utf8 : IsUtf8 text
  pub numeral : IsNumeral 10 (without_leading_plus text)
  pub value : digits_value 10 (without_leading_plus text) ≡ n

pub number_written : (most n : ℕ) (text : List ℕ) → most < 2 ^ 32 → IsNumberText most text n → Written text n
number_written most n text m h =
    subst (λ (t : List ℕ). Written t n) (sym h.written) (record {
      some = decimal_nonempty n wide;
      first = first_decimal n (omega arith) wide;
      utf8 = IsUtf8-from_ascii (decimal n) (IsAscii-decimal n wide);
      numeral = subst (λ (t : List ℕ). IsNumeral 10 t) (sym plain) (decimal_is_IsNumeral n wide).0;
      value = ap (λ (t : List ℕ). digits_value 10 t) plain ∙ (decimal_is_IsNumeral n wide).1;
    }) where
      small : n < 2 ^ 32
      small = let g = h.greatest in omega arith

      wide : n < 2 ^ 64
      wide = omega arith

      plain : without_leading_plus (decimal n) ≡ decimal n
      plain = without_leading_plus_none (decimal n) (λ e. let f = first_decimal n (let l = h.least in omega arith) wide in omega arith)

pub written_number : (most n : ℕ) (text : List ℕ) → 0 < length text → get_or text 0 0 ≢ 48 → get_or text 0 0 ≢ 43
    → IsNumeral 10 (without_leading_plus text) → digits_value 10 (without_leading_plus text) < 2 ^ 32 → n ≡ digits_value 10 (without_leading_plus text) → n ≤ most
    → IsNumberText most text n
written_number most n text some zero_first plus digits small value g = record { written = sym text_is; least = least n text_is; greatest = g } where
  plain : without_leading_plus text ≡ text
  plain = without_leading_plus_none text plus

  value_is : n ≡ digits_value 10 text
  value_is = value ∙ ap (λ (t : List ℕ). digits_value 10 t) plain

  numeral : IsNumeral 10 text
  numeral = subst (λ (t : List ℕ). IsNumeral 10 t) plain digits

  wide : digits_value 10 text < 2 ^ 64
  wide = let s : digits_value 10 text < 2 ^ 32 = subst (λ (k : ℕ). k < 2 ^ 32) (sym value ∙ value_is) small in omega arith

  text_is : decimal n ≡ text
  text_is = ap (λ (k : ℕ). decimal k) value_is ∙ decimal-digits_value own text numeral.1 some (λ e. absurd (zero_first e)) wide

  least : (k : ℕ) → decimal k ≡ text → 1 ≤ k
  least zero e = absurd (zero_first (ap (λ (t : List ℕ). get_or t 0 0) (sym e ∙ decimal_digit 0 (omega arith))))
  least (suc k) e = omega arith
