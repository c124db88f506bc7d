-- The parts of a path, by its first slash and by its last.
use Rattle.std.proofs.Common.{◌≡◌, ◌==◌, ◌≤◌, ◌+◌, ◌-◌, ◌∷◌, ◌∙◌, ℕ, true, List, [], length, take, drop, ap, refl, sym, arith, suc, zero}
use Rattle.std.proofs.lemmas.List.{length-drop}
use Rattle.memchr.specs.Find.{NoneAfter, NoneBefore, Nowhere, Passes, is_byte}
use Rattle.tacho_http.specs.Routes.{before_slash, front_part, last_from, last_part}

abbrev IsSlash : List ℕ → ℕ → Type 0
IsSlash = Passes (is_byte 47)

-- no slash in a path, none in its rest
none_in_rest : (b : ℕ) (path : List ℕ) (i : ℕ) → Nowhere (IsSlash (b ∷ path)) i (length (b ∷ path)) → (j : ℕ) → i ≤ suc j → Nowhere (IsSlash path) j (length path)
none_in_rest b path i none j far k low high = none (suc k) (omega arith) (omega arith)

-- without a slash the whole path comes before the first
pub no_slash : (path : List ℕ) → Nowhere (IsSlash path) 0 (length path) → path ≡ before_slash path
no_slash [] none = refl
no_slash (b ∷ path) none =
    let here : (b == 47) ≡ true → ⊥ = none 0 (omega arith) (omega arith) in
    let rest = no_slash path (none_in_rest b path 0 none 0 (omega arith)) in
    grind arith

-- what comes before the first slash
pub before_first : (path : List ℕ) (k : ℕ) → NoneBefore (IsSlash path) 0 (length path) k → IsSlash path k → take k path ≡ before_slash path
before_first [] k first here = absurd (let l = first.high in omega arith)
before_first (b ∷ path) zero first here = rw here refl
before_first (b ∷ path) (suc k) first here =
    let high = first.high in
    let none : (b == 47) ≡ true → ⊥ = first.before 0 (omega arith) (omega arith) in
    let rest = before_first path k (record {
      low = omega arith;
      high = omega arith;
      before = λ i low high. first.before (suc i) (omega arith) (omega arith);
    }) here in
    grind arith

-- without a slash the part goes on to the end
pub last_whole : (part path : List ℕ) → Nowhere (IsSlash path) 0 (length path) → part ≡ last_from part path
last_whole part [] none = refl
last_whole part (b ∷ path) none =
    let here : (b == 47) ≡ true → ⊥ = none 0 (omega arith) (omega arith) in
    let rest = last_whole part path (none_in_rest b path 0 none 0 (omega arith)) in
    grind arith

-- what comes after the last slash
pub after_last : (part path : List ℕ) (k : ℕ) → NoneAfter (IsSlash path) 0 (length path) k → IsSlash path k → drop (k + 1) path ≡ last_from part path
after_last part [] k last here = absurd (let l = last.high in omega arith)
after_last part (b ∷ path) zero last here = rw here (last_whole path path (none_in_rest b path 1 last.after 0 (omega arith)))
after_last part (b ∷ path) (suc k) last here =
    let high = last.high in
    let rest : NoneAfter (IsSlash path) 0 (length path) k = record {
      low = omega arith;
      high = omega arith;
      after = none_in_rest b path (suc k + 1) last.after (k + 1) (omega arith);
    } in
    let on : suc k + 1 ≡ suc (k + 1) = omega arith in
    let anew = after_last path path k rest here in
    let same = after_last part path k rest here in
    rw on (grind arith)

-- without a slash nothing comes before the last part
pub no_front : (path : List ℕ) → Nowhere (IsSlash path) 0 (length path) → [] ≡ front_part path
no_front path none =
    let long : length path ≡ length (last_part path) = ap length (last_whole path path none) in
    let start : 0 ≡ length path - (length (last_part path) + 1) = omega (arith, long) in
    ap (λ n. take n path) start

-- what comes before the last slash
pub before_last : (path : List ℕ) (k : ℕ) → NoneAfter (IsSlash path) 0 (length path) k → IsSlash path k → take k path ≡ front_part path
before_last path k last here =
    let high = last.high in
    let long : length path - (k + 1) ≡ length (last_part path) =
    sym (length-drop (k + 1) path) ∙ ap length (after_last path path k last here) in
    let end : k ≡ length path - (length (last_part path) + 1) = omega (arith, long, high) in
    ap (λ n. take n path) end
