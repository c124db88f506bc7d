-- The rest run that ends where a span starts, if there is one (tacho_pass, specs/Heard).
use Rattle.std.proofs.Common.{◌≡◌, ℕ, ◌<◌, ◌≤◌, Bool, true, false, None, Some, refl, arith, nat_lt, if◌then◌else◌}
use Rattle.std.proofs.lemmas.Bool.Decides.{nat_tests}
use Rattle.tacho_time.specs.declared.span.Span.{Span}
use Rattle.tacho_law.specs.declared.run.Run.{Run}
use Rattle.tacho_law.proofs.RunsLemmas.{run_of}
use Rattle.tacho_pass.specs.Heard.{is_rest, run_before}

-- what is known of this run
run_if : (start : ℕ) (s : Span) (run : Run) (b g : Bool) → nat_lt start s.start ≡ g
    → (if b then None else (if g then Some (run_of start s.start) else None)) ≡ Some run
    → (b ≡ false) × (start < s.start) × (run_of start s.start ≡ run)
run_if start s run true g e is = absurd (let none : None ≡ Some run = is in cc)
run_if start s run false false e is = absurd (let none : None ≡ Some run = is in cc)
run_if start s run false true e is =
    let gap : start < s.start = grind (arith, nat_tests) in
    let one : Run = run_of start s.start in
    let same : Some one ≡ Some run = is in
    (refl, gap, cc)

pub run_some : (start : ℕ) (s : Span) (run : Run) → run_before start s ≡ Some run
    → (is_rest s.mark.activity ≡ false) × (start < s.start) × (run_of start s.start ≡ run)
run_some start s run is = run_if start s run (is_rest s.mark.activity) (nat_lt start s.start) refl is

pub none_if : (start : ℕ) (s : Span) (g : Bool) → nat_lt start s.start ≡ g
    → (if g then Some (run_of start s.start) else None) ≡ None → s.start ≤ start
none_if start s true e is = absurd (let one : Run = run_of start s.start in let f : Some one ≡ None = is in cc)
none_if start s false e is = let f : s.start ≤ start = grind (arith, nat_tests) in f
