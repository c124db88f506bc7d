-- A text is a line with a value exactly if it is that value once its end is cut off.
use Rattle.std.proofs.Common.{◌≡◌, ◌≢◌, ◌∙◌, ℕ, List, [], ◌∷◌, ◌++◌, inl, inr, append_assoc, subst, sym, arith}
use Rattle.std.specs.List.{All}
use Rattle.std.proofs.lemmas.List.{same_from_push}
use Rattle.std.proofs.lemmas.List.Elements.{All-contains, Contains-push}
use Rattle.tacho_state.specs.Limits.{IsKeyByte, IsNameByte}
use Rattle.tacho_sheet.specs.Cut.{IsCut}
use Rattle.tacho_sheet.specs.Driver.{IsKeyText, IsNameText}
use Rattle.tacho_sheet.specs.Value.{IsKeyLine, IsNameLine, IsLine}

-- CR LF is LF after CR
two : (xs : List ℕ) → xs ++ 13 ∷ 10 ∷ [] ≡ (xs ++ 13 ∷ []) ++ 10 ∷ []
two xs = sym (append_assoc xs (13 ∷ []) (10 ∷ []))

-- values of bytes that have neither LF nor CR
module _ (Byte : ℕ → Type 0) (not_lf : ¬ Byte 10) (not_cr : ¬ Byte 13) where
  -- such a byte isn't the last of a value
  not_last : (c : ℕ) → ¬ Byte c → (value front : List ℕ) → All Byte value → value ≢ front ++ c ∷ []
  not_last c other value front is same =
      other (All-contains Byte (front ++ c ∷ []) c (subst (All Byte) same is) (Contains-push front c))

  -- the value of a line is what is left
  value_is_cut : (text line value : List ℕ) → IsCut text line → All Byte value → IsLine text value → value ≡ line
  value_is_cut text line value (inl both) is (inl same) = absurd (not_last 10 not_lf value (line ++ 13 ∷ []) is (sym same ∙ both ∙ two line))
  value_is_cut text line value (inl both) is (inr (inl lf)) =
      absurd (not_last 13 not_cr value line is (same_from_push value (line ++ 13 ∷ []) 10 10 (sym lf ∙ both ∙ two line)).0)
  value_is_cut text line value (inl both) is (inr (inr crlf)) =
      (same_from_push value line 13 13 (same_from_push (value ++ 13 ∷ []) (line ++ 13 ∷ []) 10 10 (sym (two value) ∙ sym crlf ∙ both ∙ two line)).0).0
  value_is_cut text line value (inr (inl (lf, other))) is (inl same) = absurd (not_last 10 not_lf value line is (sym same ∙ lf))
  value_is_cut text line value (inr (inl (lf, other))) is (inr (inl also)) = (same_from_push value line 10 10 (sym also ∙ lf)).0
  value_is_cut text line value (inr (inl (lf, other))) is (inr (inr crlf)) =
      absurd (other value (sym (same_from_push (value ++ 13 ∷ []) line 10 10 (sym (two value) ∙ sym crlf ∙ lf)).0))
  value_is_cut text line value (inr (inr (same, other))) is (inl also) = sym also ∙ same
  value_is_cut text line value (inr (inr (same, other))) is (inr (inl lf)) = absurd (other value lf)
  value_is_cut text line value (inr (inr (same, other))) is (inr (inr crlf)) = absurd (other (value ++ 13 ∷ []) (crlf ∙ two value))

  -- a text is the line of at most one value
  one_line : (text a b : List ℕ) → All Byte a → All Byte b → IsLine text a → IsLine text b → a ≡ b
  one_line text a b x y (inl p) (inl q) = sym p ∙ q
  one_line text a b x y (inl p) (inr (inl q)) = absurd (not_last 10 not_lf a b x (sym p ∙ q))
  one_line text a b x y (inl p) (inr (inr q)) = absurd (not_last 10 not_lf a (b ++ 13 ∷ []) x (sym p ∙ q ∙ two b))
  one_line text a b x y (inr (inl p)) (inl q) = absurd (not_last 10 not_lf b a y (sym q ∙ p))
  one_line text a b x y (inr (inl p)) (inr (inl q)) = (same_from_push a b 10 10 (sym p ∙ q)).0
  one_line text a b x y (inr (inl p)) (inr (inr q)) = absurd (not_last 13 not_cr a b x (same_from_push a (b ++ 13 ∷ []) 10 10 (sym p ∙ q ∙ two b)).0)
  one_line text a b x y (inr (inr p)) (inl q) = absurd (not_last 10 not_lf b (a ++ 13 ∷ []) y (sym q ∙ p ∙ two a))
  one_line text a b x y (inr (inr p)) (inr (inl q)) = absurd (not_last 13 not_cr b a y (same_from_push b (a ++ 13 ∷ []) 10 10 (sym q ∙ p ∙ two a)).0)
  one_line text a b x y (inr (inr p)) (inr (inr q)) =
      (same_from_push a b 13 13 (same_from_push (a ++ 13 ∷ []) (b ++ 13 ∷ []) 10 10 (sym (two a) ∙ sym p ∙ q ∙ two b)).0).0

-- LF and CR are in no key
not_lf_key : ¬ IsKeyByte 10
not_lf_key (inl is) = cc
not_lf_key (inr is) = cc

not_cr_key : ¬ IsKeyByte 13
not_cr_key (inl is) = cc
not_cr_key (inr is) = cc

-- so a text is no line with a key if what is left is no key
pub no_key_line : (text line : List ℕ) → IsCut text line → ¬ IsKeyText line → (key : List ℕ) → ¬ IsKeyLine text key
no_key_line text line cut none key is =
    none (subst IsKeyText (value_is_cut IsKeyByte not_lf_key not_cr_key text line key cut is.0.1.bytes is.1) is.0)

-- a text is the line of at most one key
pub one_key : (text a b : List ℕ) → IsKeyLine text a → IsKeyLine text b → a ≡ b
one_key text a b x y = one_line IsKeyByte not_lf_key not_cr_key text a b x.0.1.bytes y.0.1.bytes x.1 y.1

-- LF and CR are in no name
not_lf_name : ¬ IsNameByte 10
not_lf_name is = omega (arith, is.printed)

not_cr_name : ¬ IsNameByte 13
not_cr_name is = omega (arith, is.printed)

-- so a text is no line with a name if what is left is no name
pub no_name_line : (text line : List ℕ) → IsCut text line → ¬ IsNameText line → (name : List ℕ) → ¬ IsNameLine text name
no_name_line text line cut none name is =
    none (subst IsNameText (value_is_cut IsNameByte not_lf_name not_cr_name text line name cut is.0.1.bytes is.1) is.0)
