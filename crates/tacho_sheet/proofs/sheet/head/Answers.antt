use Rattle.std.proofs.Common.{rules, ◌≡◌, ◌++◌, codes, decimal, string_bytes, List, ℕ, refl, append_assoc}
use Rattle.tacho_time.specs.Text.{month_text}
use Rattle.tacho_sheet.proofs.sheet.head.Goals as goal

pieces : (a n b x e m f t1 t2 t3 : List ℕ) → t1 ≡ a ++ (n ++ (b ++ (x ++ e))) → t2 ≡ t1 ++ m → t3 ≡ t2 ++ f → t3 ≡ a ++ (n ++ (b ++ (x ++ (e ++ (m ++ f)))))
pieces a n b x e m f t1 t2 t3 e1 e2 e3 = simp (e3, e2, e1, append_assoc) refl

pub returns : goal.returns
returns c =
    let columns = codes "\nDATE       DAY   REST  AVAIL   WORK  DRIVE   CREW   NONE\n" in
    let one : string_bytes c.in_ok-text.text ≡ codes "DRIVER " ++ (decimal c.args.number ++ (codes " " ++ (c.args.name.now ++ codes "\nMONTH "))) = search rules in
    let two : string_bytes c.push_month.new.text ≡ string_bytes c.in_ok-text.text ++ month_text c.args.month = search rules in
    let three : string_bytes c.push_str.new.self ≡ string_bytes c.push_month.new.text ++ columns = search rules in
    pieces (codes "DRIVER ") (decimal c.args.number) (codes " ") c.args.name.now (codes "\nMONTH ") (month_text c.args.month) columns _ _ _ one two three
