use Rattle.std.proofs.Common.{rules, ◌≡◌, ◌++◌, codes, decimal, string_bytes, ℕ, List, refl, append_assoc}
use Rattle.std.proofs.lemmas.Result.{on_ok_weaker}
use Rattle.tacho_time.specs.Text.{minute_text}
use Rattle.tacho_sheet.specs.Months.{article, kind_code}
use Rattle.tacho_sheet.proofs.months.push_incident.Goals as goal

-- the pieces of the row, written in two parts
pieces : (t n b m k l a d rest t1 t2 : List ℕ) → t1 ≡ t ++ (n ++ (b ++ (m ++ (b ++ (k ++ (b ++ (a ++ b))))))) → k ≡ l → a ≡ d
    → t2 ≡ t1 ++ rest
    → t2 ≡ t ++ (n ++ (b ++ (m ++ (b ++ (l ++ (b ++ (d ++ (b ++ rest))))))))
pieces t n b m k l a d rest t1 t2 e1 e2 e3 e4 = simp (e4, e1, e2, e3, append_assoc) refl

pub returns : goal.returns
returns c =
    let b = c.args.breach.now in
    let rest : List ℕ = minute_text b.moment ++ (codes "," ++ (minute_text b.since ++ (codes "," ++ (decimal b.amount ++ codes "\n")))) in
    let first : string_bytes c.write.new.self
    ≡ string_bytes c.args.text.now ++ (decimal c.args.number ++ (codes "," ++ (c.args.name.now ++ (codes ","
    ++ (c.code_of_kind-kind.result.now ++ (codes "," ++ (c.article_of_kind-article.result.now ++ codes ","))))))) = search rules in
    on_ok_weaker c.writeln.result (λ (e : string_bytes c.writeln.new.self ≡ string_bytes c.write.new.self ++ rest).
    pieces (string_bytes c.args.text.now) (decimal c.args.number) (codes ",") c.args.name.now c.code_of_kind-kind.result.now
    (kind_code b.kind) c.article_of_kind-article.result.now (article b.kind) rest _ _ first
    c.code_of_kind-kind.ensures c.article_of_kind-article.ensures e) (search rules)
