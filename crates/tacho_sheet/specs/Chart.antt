-- Trusted: The chart of a driver's month: SVG 1.1 with a row for each day, in which x is the minute of the day.
use Rattle.std.specs.Prelude.{◌≡◌, ℕ, zero, suc, ◌+◌, ◌-◌, ◌*◌, ◌%◌, ◌==◌, ◌||◌, ◌⊎◌, ◌↔◌, nat_le, Bool, true, false, List, [], ◌∷◌, ◌++◌, Option, None, Some, chars, codes, decimal, encode_utf8, flat_map, if◌then◌else◌}
use Rattle.tacho_time.specs.declared.span.Activity.{Activity}
use Rattle.tacho_time.specs.declared.span.Activity.TheVariants.{Rest, Available, Work, Drive}
use Rattle.tacho_time.specs.declared.span.Span.{Span}
use Rattle.tacho_time.specs.declared.span.Mark.{Mark}
use Rattle.tacho_time.specs.Spans.{Covers, IsCanonicalOf}
use Rattle.tacho_time.specs.Text.{activity_name, day_text, manning_name, minute_text, month_text}
use Rattle.tacho_line.specs.declared.gap.Gap.{Gap}
use Rattle.tacho_line.specs.Line.{AreGapsApart, HoldsWithin, InGaps, IsWithin}
use Rattle.tacho_law.specs.declared.breach.Breach.{Breach}
use Rattle.tacho_stretches.specs.Stretches.{Judged}
use Rattle.tacho_sheet.specs.Reports.{amount_text, column_minutes, is_single_minute, kind_name, weekday_name, AreBounds}
use Rattle.tacho_sheet.specs.Months.{is_examined, kind_code, month_breaches}

-- ---- text

-- a character as XML text: `&`, `<` and `>` as entities; U+FFFE and U+FFFF, which XML doesn't allow, as U+FFFD
abbrev pub xml_char : ℕ → List ℕ
xml_char c =
    if c == 38 then codes "&amp;" else (if c == 60 then codes "&lt;" else (if c == 62 then codes "&gt;"
    else (if (c == 65534) || (c == 65535) then encode_utf8 65533 else encode_utf8 c)))

abbrev pub xml_text : List ℕ → List ℕ
xml_text text = flat_map xml_char (chars text)

-- the driver's number and name, and the month
abbrev pub chart_title : ℕ → List ℕ → ℕ → List ℕ
chart_title number name month = decimal number ++ (codes " " ++ (xml_text name ++ (codes ", " ++ month_text month)))

-- ---- a day

-- the height of an activity's bar, and where its top is: all bars end at 32
abbrev pub bar_height : Activity → ℕ
bar_height Rest = 6
bar_height Available = 12
bar_height Work = 20
bar_height Drive = 28

abbrev pub bar_top : Activity → ℕ
bar_top a = 32 - bar_height a

-- the class that marks a second driver
abbrev pub crew_class : Bool → List ℕ
crew_class true = codes " crew"
crew_class false = []

-- a bar of a mark, from x on
abbrev pub bar_rect : Mark → ℕ → ℕ → List ℕ
bar_rect mark x width =
    codes "<rect class=\"" ++ (activity_name mark.activity ++ (crew_class mark.crew ++ (codes "\" x=\"" ++ (decimal x ++ (codes "\" y=\""
    ++ (decimal (bar_top mark.activity) ++ (codes "\" width=\"" ++ (decimal width ++ (codes "\" height=\""
    ++ (decimal (bar_height mark.activity) ++ codes "\">"))))))))))

-- the span's line, as the title of its bar
abbrev pub bar_title : Span → List ℕ
bar_title s =
    codes "<title>" ++ (minute_text s.start ++ (codes " " ++ (minute_text s.past ++ (codes " " ++ (activity_name s.mark.activity ++ (codes " "
    ++ (manning_name s.mark.crew ++ codes "</title></rect>\n")))))))

-- a span, on the day that begins with the minute `first`: a bar over its minutes
abbrev pub bar : ℕ → Span → List ℕ
bar first s = bar_rect s.mark (s.start - first) (s.past - s.start) ++ bar_title s

-- a range of the day that isn't within a stretch
abbrev pub shade_rect : ℕ → ℕ → List ℕ
shade_rect x width = codes "<rect class=\"unseen\" x=\"" ++ (decimal x ++ (codes "\" y=\"-5\" width=\"" ++ (decimal width ++ codes "\" height=\"42\"/>\n")))

abbrev pub shade : ℕ → Gap → List ℕ
shade first g = shade_rect (g.start - first) (g.past - g.start)

-- a breach at its moment, with its line as the title
abbrev pub breach_title : Breach → List ℕ
breach_title b =
    codes "<g class=\"breach\"><title>" ++ (kind_name b.kind ++ (codes " at " ++ (minute_text b.moment ++ (codes " since "
    ++ (minute_text b.since ++ (codes " amount " ++ (decimal b.amount ++ codes "</title>")))))))

-- a flag above the row, and its pole, which goes down to the row's foot: it hides no bar; to the left after 23:00, so that it stays above
-- the row
abbrev pub flag_shape : ℕ → List ℕ
flag_shape x = if nat_le x 1380 then codes " -9h11l-3 4 3 4h-8v33h-3z" else codes " -9h-11l3 4-3 4h11v33h3v-41z"

abbrev pub breach_path : ℕ → List ℕ
breach_path x = codes "<path d=\"M" ++ (decimal x ++ (flag_shape x ++ codes "\"/></g>\n"))

abbrev pub breach_mark : ℕ → Breach → List ℕ
breach_mark first b = breach_title b ++ breach_path (b.moment - first)

-- the code of a breach, after a space
abbrev pub breach_code : Breach → List ℕ
breach_code b = codes " " ++ kind_code b.kind

-- before the bars of a day: the group
abbrev pub day_open : ℕ → ℕ → List ℕ
day_open day y = codes "<g class=\"day\" id=\"" ++ (day_text day ++ (codes "\" transform=\"translate(200 " ++ (decimal y ++ codes ")\">\n")))

-- the row's ground, and a line every two hours
abbrev pub day_grid : List ℕ
day_grid =
    codes "<rect class=\"back\" x=\"0\" y=\"4\" width=\"1440\" height=\"28\"/>\n"
    ++ (codes "<path class=\"hour\" d=\"M0 4v28M120 4v28M240 4v28M360 4v28M480 4v28M600 4v28M720 4v28"
    ++ codes "M840 4v28M960 4v28M1080 4v28M1200 4v28M1320 4v28M1440 4v28\"/>\n")

-- the date, and the day of the week
abbrev pub day_label : ℕ → List ℕ
day_label day =
    codes "<text class=\"right\" x=\"-12\" y=\"26\">" ++ (day_text day ++ (codes " " ++ (weekday_name ((day + 3) % 7) ++ codes "</text>\n")))

abbrev pub day_head : ℕ → ℕ → List ℕ
day_head day y = day_open day y ++ (day_grid ++ day_label day)

-- after them: the minutes of driving without a second driver, and the codes of the day's breaches
abbrev pub day_end : ℕ → List Breach → List ℕ
day_end drive breaches =
    codes "<text class=\"right\" x=\"1530\" y=\"26\">" ++ (amount_text drive ++ (codes "</text>\n<text class=\"code\" x=\"1545\" y=\"26\">"
    ++ (flat_map breach_code breaches ++ codes "</text>\n</g>\n")))

-- the group of a day
abbrev pub day_group : ℕ → ℕ → List Span → List Gap → List Breach → ℕ → List ℕ
day_group day y spans gaps breaches drive =
    day_head day y ++ (flat_map (bar (1440 * day)) spans ++ (flat_map (shade (1440 * day)) gaps
    ++ (flat_map (breach_mark (1440 * day)) breaches ++ day_end drive breaches)))

-- the maximal ranges of minutes from `start` to before `past` that aren't within a stretch
pub record AreUnseen (stretches : List Judged) (start past : ℕ) (gaps : List Gap) : Type 0 where
  pub apart : AreGapsApart gaps
  pub lacking : (m : ℕ) → InGaps gaps m ↔ (IsWithin start past m × (is_examined stretches m ≡ false))

-- the group of a day, `y` below the top: a bar for each span that the line holds in the day, a shade for each range that isn't within a
-- stretch, and a mark for each breach of the stretches with its moment in the day
pub record IsDayGroup (line : List Span) (stretches : List Judged) (day y : ℕ) (text : List ℕ) : Type 0 where
  pub spans : List Span
  pub held : IsCanonicalOf (HoldsWithin line (1440 * day) (1440 * (day + 1))) spans
  pub gaps : List Gap
  pub unseen : AreUnseen stretches (1440 * day) (1440 * (day + 1)) gaps
  pub breaches : List Breach
  pub marked : breaches ≡ month_breaches (1440 * day) (1440 * (day + 1)) stretches
  pub is : text ≡ day_group day y spans gaps breaches (column_minutes line (1440 * day) 1440 (is_single_minute Drive))

-- the groups of n days, from a day on, each 42 below the one before
abbrev pub AreDayGroups : List Span → List Judged → ℕ → ℕ → ℕ → List ℕ → Type 0
AreDayGroups line stretches day y zero text = text ≡ []
AreDayGroups line stretches day y (suc n) text =
    (group : List ℕ) × (groups : List ℕ) × (text ≡ group ++ groups) × IsDayGroup line stretches day y group
    × AreDayGroups line stretches (day + 1) (y + 42) n groups

-- ---- what is drawn over a minute

-- no bar is over the minute
abbrev pub NoneCovers : List Span → ℕ → Type 0
NoneCovers [] m = Unit {0}
NoneCovers (s ∷ spans) m = ¬ (Covers s m) × NoneCovers spans m

-- exactly one bar is over the minute, and it has this mark
abbrev pub OneCovers : List Span → ℕ → Mark → Type 0
OneCovers [] m mark = ⊥
OneCovers (s ∷ spans) m mark = (Covers s m × (s.mark ≡ mark) × NoneCovers spans m) ⊎ (¬ (Covers s m) × OneCovers spans m mark)

-- one bar of its mark over a minute that is held, and none over one that isn't
abbrev pub ShowsMinute : List Span → ℕ → Option Mark → Type 0
ShowsMinute spans m (Some mark) = OneCovers spans m mark
ShowsMinute spans m None = NoneCovers spans m

-- the group of the k-th of n days, from 0, is a part of the text
pub record HasDayGroup (line : List Span) (stretches : List Judged) (day y k : ℕ) (text : List ℕ) : Type 0 where
  pub before : List ℕ
  pub group : List ℕ
  pub after : List ℕ
  pub is : IsDayGroup line stretches (day + k) (y + 42 * k) group
  pub whole : text ≡ before ++ (group ++ after)

-- the group of a day has marks of exactly these breaches, in this order, each at the minute of its moment in the day
pub record HasMarks (day y : ℕ) (breaches : List Breach) (text : List ℕ) : Type 0 where
  pub spans : List Span
  pub gaps : List Gap
  pub drive : ℕ
  pub is : text ≡ day_group day y spans gaps breaches drive

-- ---- a month

-- the style, and a white ground, so that the texts can also be read on a dark page
abbrev pub chart_style : List ℕ
chart_style =
    codes "<style>text{fill:#1c2128}.right{text-anchor:end}.middle{text-anchor:middle}.back{fill:#f0f2f4;stroke:#767e87}.hour{stroke:#d7dbe0}"
    ++ (codes ".rest{fill:#5b8fc2}.available{fill:#9270c4}.work{fill:#b87100}.drive{fill:#1f4e79}"
    ++ (codes ".crew{fill-opacity:.4;stroke:#1c2128;stroke-dasharray:4 3}.unseen{fill:#55606b;fill-opacity:.2}"
    ++ codes ".breach path,.mark{fill:#a8201a;stroke:#fff}.code{fill:#a8201a;font-weight:bold;font-size:15px}</style>\n<rect width=\"100%\" height=\"100%\" fill=\"#fff\"/>\n"))

-- above the days: what the hours are in, and what the amounts at the right are
abbrev pub chart_columns : List ℕ
chart_columns = codes "<g class=\"right\"><text x=\"176\" y=\"88\">UTC</text><text x=\"1730\" y=\"88\">driven</text></g>\n"

-- the hours
abbrev pub chart_morning : List ℕ
chart_morning =
    codes "<g class=\"middle\"><text x=\"200\" y=\"88\">0</text><text x=\"320\" y=\"88\">2</text><text x=\"440\" y=\"88\">4</text>"
    ++ (codes "<text x=\"560\" y=\"88\">6</text><text x=\"680\" y=\"88\">8</text><text x=\"800\" y=\"88\">10</text>"
    ++ codes "<text x=\"920\" y=\"88\">12</text>")

abbrev pub chart_afternoon : List ℕ
chart_afternoon =
    codes "<text x=\"1040\" y=\"88\">14</text><text x=\"1160\" y=\"88\">16</text><text x=\"1280\" y=\"88\">18</text>"
    ++ (codes "<text x=\"1400\" y=\"88\">20</text><text x=\"1520\" y=\"88\">22</text>"
    ++ codes "<text x=\"1640\" y=\"88\">24</text></g>\n")

-- the picture of a month of n days
abbrev pub chart_open : ℕ → List ℕ
chart_open days =
    codes "<svg xmlns=\"http://www.w3.org/2000/svg\" viewBox=\"0 0 1920 " ++ (decimal (160 + 42 * days)
    ++ codes "\" font-family=\"sans-serif\" font-size=\"20\" role=\"img\">\n")

-- the title, for programs and for people
abbrev pub title_element : List ℕ → List ℕ
title_element title = codes "<title>" ++ (title ++ codes "</title>\n")

abbrev pub chart_heading : List ℕ → List ℕ
chart_heading title = codes "<text x=\"20\" y=\"40\" font-size=\"28\">" ++ (title ++ codes "</text>\n")

abbrev pub chart_front : List ℕ → ℕ → List ℕ
chart_front title days = chart_open days ++ (title_element title ++ chart_style)

abbrev pub chart_hours : List ℕ → List ℕ
chart_hours title = chart_heading title ++ (chart_columns ++ (chart_morning ++ chart_afternoon))

-- before the days
abbrev pub chart_head : ℕ → List ℕ → ℕ → ℕ → List ℕ
chart_head number name month days = chart_front (chart_title number name month) days ++ chart_hours (chart_title number name month)

-- after them: what the bars mean, and the rest
abbrev pub legend_open : ℕ → List ℕ
legend_open days = codes "<g transform=\"translate(200 " ++ (decimal (112 + 42 * days) ++ codes ")\">\n")

abbrev pub legend_bars : List ℕ
legend_bars =
    codes "<rect class=\"rest\" x=\"0\" y=\"26\" width=\"40\" height=\"6\"/><text x=\"50\" y=\"32\">rest</text>\n"
    ++ (codes "<rect class=\"available\" x=\"140\" y=\"20\" width=\"40\" height=\"12\"/><text x=\"190\" y=\"32\">available</text>\n"
    ++ (codes "<rect class=\"work\" x=\"330\" y=\"12\" width=\"40\" height=\"20\"/><text x=\"380\" y=\"32\">other work</text>\n"
    ++ codes "<rect class=\"drive\" x=\"530\" y=\"4\" width=\"40\" height=\"28\"/><text x=\"580\" y=\"32\">driving</text>\n"))

abbrev pub legend_others : List ℕ
legend_others =
    codes "<rect class=\"drive crew\" x=\"700\" y=\"4\" width=\"40\" height=\"28\"/><text x=\"750\" y=\"32\">second driver</text>\n"
    ++ (codes "<rect class=\"back\" x=\"930\" y=\"4\" width=\"40\" height=\"28\"/><text x=\"980\" y=\"32\">not known</text>\n"
    ++ (codes "<rect class=\"unseen\" x=\"1120\" y=\"0\" width=\"40\" height=\"36\"/><text x=\"1170\" y=\"32\">not examined</text>\n"
    ++ codes "<path class=\"mark\" d=\"M1340 -9h11l-3 4 3 4h-8v33h-3z\"/><text x=\"1360\" y=\"32\">breach</text>\n</g>\n</svg>\n"))

abbrev pub chart_legend : ℕ → List ℕ
chart_legend days = legend_open days ++ (legend_bars ++ legend_others)

-- a head, a group for each day of the month, and the legend
pub record IsMonthChart (number : ℕ) (name : List ℕ) (line : List Span) (stretches : List Judged) (month : ℕ) (text : List ℕ) : Type 0 where
  pub day : ℕ
  pub days : ℕ
  pub bounds : AreBounds month (1440 * day) (1440 * (day + days))
  pub groups : List ℕ
  pub are : AreDayGroups line stretches day 100 days groups
  pub is : text ≡ chart_head number name month days ++ (groups ++ chart_legend days)
