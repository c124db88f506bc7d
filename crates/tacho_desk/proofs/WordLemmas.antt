-- Arguments make one task, or have one first fault.
use Rattle.std.proofs.Common.{◌≡◌, ◌∙◌, ℕ, ◌≤◌, List, [], ◌∷◌, Ok, inl, inr, arith, subst, sym}
use Rattle.std.proofs.lemmas.Fmt.{decimal_injective}
use Rattle.tacho_state.specs.declared.caller.Caller.{Caller}
use Rattle.tacho_state.specs.declared.caller.Caller.TheVariants as caller
use Rattle.tacho_sheet.specs.Number.{IsNumberText}
use Rattle.tacho_desk.specs.Words.{ByDriver, ByNumber, IsTask, IsWithdrawal, Wanted, most_driver, most_number, range_task}
use Rattle.tacho_desk.specs.declared.task.Task.TheVariants as task
use Rattle.tacho_desk.specs.declared.want.Want.{Want}
use Rattle.tacho_desk.specs.declared.want.Want.TheVariants as want

-- a text is the text of at most one number
one_number : (most : ℕ) (text : List ℕ) (n m : ℕ) → most ≤ 1000000 → IsNumberText most text n → IsNumberText most text m → n ≡ m
one_number most text n m few x y =
    let i = x.greatest in
    let j = y.greatest in
    decimal_injective n m (omega arith) (omega arith) (sym x.written ∙ y.written)

-- arguments that name a driver make one task; below, those that name a driver and a number
of_driver : (c : Caller) (driver : List ℕ) (f : ℕ → Wanted) (a b : Wanted) → ByDriver c driver (λ n w. w ≡ f n) a
    → ByDriver c driver (λ n w. w ≡ f n) b → a ≡ b
of_driver c driver f a b x y = grind (arith, one_number)

of_number : (c : Caller) (driver word : List ℕ) (f : ℕ → ℕ → Wanted) (a b : Wanted)
    → ByDriver c driver (λ n. ByNumber most_number word (λ k w. w ≡ f n k)) a
    → ByDriver c driver (λ n. ByNumber most_number word (λ k w. w ≡ f n k)) b → a ≡ b
of_number c driver word f a b x y = grind (arith, one_number)

-- what is once what one number makes of it is that of a text with a number, or without
number_once : (text : List ℕ) (Is : ℕ → Wanted → Type 0) → ((n : ℕ) (a b : Wanted) → Is n a → Is n b → a ≡ b) → (a b : Wanted)
    → ByNumber most_number text Is a → ByNumber most_number text Is b → a ≡ b
number_once text Is once a b (inl (none, e)) (inl (no_more, f)) = e ∙ sym f
number_once text Is once a b (inl (none, e)) (inr (n, is, h)) = absurd (none n is)
number_once text Is once a b (inr (n, is, h)) (inl (none, f)) = absurd (none n is)
number_once text Is once a b (inr (n, is, h)) (inr (m, also, k)) =
    let same : m ≡ n = one_number most_number text m n (omega arith) also is in
    once n a b h (subst (λ (j : ℕ). Is j b) same k)

-- likewise of a driver who is named, or not
driver_once : (c : Caller) (driver : List ℕ) (Is : ℕ → Wanted → Type 0) → ((n : ℕ) (a b : Wanted) → Is n a → Is n b → a ≡ b) → (a b : Wanted)
    → ByDriver c driver Is a → ByDriver c driver Is b → a ≡ b
driver_once caller.Office driver Is once a b (inl (none, e)) (inl (no_more, f)) = e ∙ sym f
driver_once caller.Office driver Is once a b (inl (none, e)) (inr (n, is, h)) = absurd (none n is)
driver_once caller.Office driver Is once a b (inr (n, is, h)) (inl (none, f)) = absurd (none n is)
driver_once caller.Office driver Is once a b (inr (n, is, h)) (inr (m, also, k)) =
    let same : m ≡ n = one_number most_driver driver m n (omega arith) also is in
    once n a b h (subst (λ (j : ℕ). Is j b) same k)
driver_once (caller.Driver own) driver Is once a b (inl (none, e)) y = absurd none
driver_once (caller.Driver own) driver Is once a b (inr x) (inl (none, f)) = absurd none
driver_once (caller.Driver own) driver Is once a b (inr (n, is, h)) (inr (m, also, k)) =
    let same : m ≡ n = also ∙ sym is in
    once n a b h (subst (λ (j : ℕ). Is j b) same k)

-- so a driver and one or two numbers make one withdrawal
one_withdrawal : (n : ℕ) (first last : List ℕ) (a b : Wanted) → IsWithdrawal n first last a → IsWithdrawal n first last b → a ≡ b
one_withdrawal n first [] a b x y = number_once first (λ k w. w ≡ Ok (task.Withdraw n k)) (λ k c d p q. p ∙ sym q) a b x y
one_withdrawal n first (digit ∷ last) a b x y =
    number_once first (λ k. ByNumber most_number (digit ∷ last) (λ l w. w ≡ range_task n k l))
    (λ k. number_once (digit ∷ last) (λ l w. w ≡ range_task n k l) (λ l c d p q. p ∙ sym q)) a b x y

pub task_once : (w : Want) (c : Caller) (driver word next : List ℕ) (a b : Wanted) → IsTask w c driver word next a
    → IsTask w c driver word next b → a ≡ b
task_once want.Register c driver word next a b x y = x ∙ sym y
task_once want.Import c driver word next a b x y = x ∙ sym y
task_once want.Enter c driver word next a b x y = of_driver c driver _ a b x y
task_once want.Withdraw c driver word next a b x y =
    driver_once c driver (λ n. IsWithdrawal n word next) (λ n. one_withdrawal n word next) a b x y
task_once want.Base c driver word next a b x y = of_driver c driver _ a b x y
task_once want.Key c driver word next a b x y = of_driver c driver _ a b x y
task_once want.Name c driver word next a b x y = of_driver c driver _ a b x y
task_once want.Form c driver word next a b x y = of_driver c driver _ a b x y
task_once (want.Reading text) c driver word next a b x y = of_driver c driver _ a b x y
task_once (want.MonthReading text) c driver word next a b x y = of_driver c driver _ a b x y
task_once want.File c driver word next a b x y = of_number c driver word _ a b x y
task_once want.Handover c driver word next a b x y = of_driver c driver _ a b x y
task_once want.Drivers caller.Office [] word next a b x y = x ∙ sym y
task_once want.Drivers caller.Office (digit ∷ driver) word next a b x y = of_driver caller.Office (digit ∷ driver) _ a b x y
task_once want.Drivers (caller.Driver n) driver word next a b x y = of_driver (caller.Driver n) driver _ a b x y
task_once want.Version c driver word next a b x y = x ∙ sym y
task_once (want.MonthOfAll text) c driver word next a b x y = x ∙ sym y
task_once want.Forecast c driver word next a b x y = x ∙ sym y
task_once want.Ahead c driver word next a b x y = of_driver c driver _ a b x y
