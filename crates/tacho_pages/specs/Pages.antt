-- Private to tacho_pages: Which page files there are.
use Rattle.std.specs.Prelude.{ℕ, List, [], ◌∷◌, codes}
use Rattle.tacho_message.specs.declared.reply.PageFile.{PageFile}
use Rattle.tacho_message.specs.declared.reply.PageType.{PageType}
use Rattle.tacho_message.specs.declared.reply.PageType.TheVariants.{Css, Html, JavaScript, Text}

abbrev pub path_and_type : PageFile → List ℕ × PageType
path_and_type file = (file.path.now, file.kind)

-- All paths are below `/driver/`, `/office/` or `/shared/`, where no request for data is.
abbrev pub paths_and_types : List (List ℕ × PageType)
paths_and_types =
    (codes "/driver/", Html)
    ∷ (codes "/driver/driver.js", JavaScript)
    ∷ (codes "/driver/uploads", Text)
    ∷ (codes "/driver/words-de.js", JavaScript)
    ∷ (codes "/driver/words-en.js", JavaScript)
    ∷ (codes "/office/", Html)
    ∷ (codes "/office/commands.js", JavaScript)
    ∷ (codes "/office/entries.js", JavaScript)
    ∷ (codes "/office/files.js", JavaScript)
    ∷ (codes "/office/gaps.js", JavaScript)
    ∷ (codes "/office/inspection.js", JavaScript)
    ∷ (codes "/office/left.js", JavaScript)
    ∷ (codes "/office/letter.js", JavaScript)
    ∷ (codes "/office/month.js", JavaScript)
    ∷ (codes "/office/office.css", Css)
    ∷ (codes "/office/office.js", JavaScript)
    ∷ (codes "/office/overview.js", JavaScript)
    ∷ (codes "/office/people.js", JavaScript)
    ∷ (codes "/office/start.js", JavaScript)
    ∷ (codes "/office/words-de.js", JavaScript)
    ∷ (codes "/office/words-en.js", JavaScript)
    ∷ (codes "/shared/page.css", Css)
    ∷ (codes "/shared/page.js", JavaScript)
    ∷ (codes "/shared/parts.js", JavaScript)
    ∷ (codes "/shared/read.js", JavaScript)
    ∷ (codes "/shared/say.js", JavaScript)
    ∷ (codes "/shared/tables.js", JavaScript)
    ∷ (codes "/shared/time.js", JavaScript)
    ∷ (codes "/shared/words-de.js", JavaScript)
    ∷ (codes "/shared/words-en.js", JavaScript)
    ∷ []
